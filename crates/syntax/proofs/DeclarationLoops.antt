-- How the loops of declarations go on.
use Rattle.syntax.proofs.Prelude.{◌≡◌, List, [], ◌∷◌, ◌++◌, drop, map, Some, None, Ok, Err, if◌then◌else◌, refl, sym, ◌∙◌, ap, append_assoc, append-nil, map-append, Literally, Sign, Identifier, Symbol, ConstantTree, OffsetTree, ElementTree, SubjectTree, SingleSubject, GroupSubject, ItemTree, ItemElement, LiterallyElement, StringTree, Offset, constant_tree, offset_tree, next_sign, all_offsets, names, subject, base, item_after, item, element_of, element, element_after, group_element, subject_of, Cause, Reading, ◌>>=◌, at_word, next_name, constant, string, after_items}
use Rattle.syntax.proofs.DeclarationParts.{all_offsets-step}
use Rattle.syntax.proofs.ReaderLemmas.{read}

-- one more offset, and then others
after_items-offset : (before : List OffsetTree) (o : OffsetTree) (others : Reading (List OffsetTree))
    → after_items before (others >>= (λ found. Ok (o ∷ found.0, found.1)))
    ≡ after_items (before ++ o ∷ []) others
after_items-offset before o (Ok found) =
    ap (λ l. Ok (l, found.1)) (sym (append_assoc before (o ∷ []) found.0))
after_items-offset before o (Err cause) = refl

-- a sign and a constant
pub offsets-more : (before : List OffsetTree) (g : Sign) (c : ConstantTree) (s r : List Symbol)
    → next_sign s ≡ Some g
    → constant (drop 1 s) ≡ Ok (c, r)
    → after_items before (all_offsets s)
    ≡ after_items (before ++ record { sign = g; constant = c } ∷ []) (all_offsets r)
offsets-more before g c s r sign e =
    ap (after_items before) (all_offsets-step s)
    ∙ rw (sign, e) (after_items-offset before (record { sign = g; constant = c }) (all_offsets r))

-- a sign and no constant
pub offsets-fail : (before : List OffsetTree) (g : Sign) (s : List Symbol) (cause : Cause)
    → next_sign s ≡ Some g → constant (drop 1 s) ≡ Err cause → after_items before (all_offsets s) ≡ Err cause
offsets-fail before g s cause sign e = ap (after_items before) (all_offsets-step s) ∙ rw (sign, e) refl

-- no sign
pub offsets-end : (before : List OffsetTree) (s : List Symbol)
    → next_sign s ≡ None
    → after_items before (all_offsets s) ≡ Ok (before, s)
offsets-end before s none = ap (after_items before) (all_offsets-step s) ∙ rw none (simp append-nil)

-- an item as an element, after what is read of its subject
as_element : {A : Type 0} → Reading A → (A → SubjectTree) → Reading ElementTree
as_element {A} found its =
    found >>= λ (u : A × List Symbol).
    item_after (its u.0) u.1 >>= λ (f : ItemTree × List Symbol).
    read (ItemElement f.0) f.1

whole_element : Reading SubjectTree → Reading ElementTree
whole_element found =
    (found >>= λ (u : SubjectTree × List Symbol). item_after u.0 u.1) >>= λ (f : ItemTree × List Symbol).
    read (ItemElement f.0) f.1

whole_element-is : {A : Type 0} (found : Reading A) (its : A → SubjectTree)
    → whole_element (found >>= λ (u : A × List Symbol). read (its u.0) u.1) ≡ as_element found its
unfolding whole_element as_element
whole_element-is (Ok u) its = refl
whole_element-is (Err cause) its = refl

-- an element by its first symbol
pub element-named : (s : List Symbol) (own : Identifier)
    → next_name s ≡ Some own
    → element s ≡ element_after own (drop 1 s)
unfolding element item subject whole_element as_element
element-named s own e =
    ap (λ g. element_of g s) e
    ∙ ap (λ k. if at_word Literally (drop 1 s) then
    (string (drop 1 (drop 1 s)) >>= λ (t : StringTree × List Symbol). read (LiterallyElement own t.0) t.1)
    else k)
    (ap (λ g. whole_element (subject_of g s)) e ∙ whole_element-is (base (drop 1 s)) (SingleSubject own))

-- the same after the name
pub element-goes_on : (s after : List Symbol) (own : Identifier)
    → Some own ≡ next_name s
    → after ≡ drop 1 s
    → element s ≡ element_after own after
element-goes_on s after own named skipped =
    element-named s own (sym named) ∙ ap (element_after own) (sym skipped)

pub element-grouped : (s : List Symbol) → next_name s ≡ None → element s ≡ group_element s
unfolding element item subject whole_element as_element
element-grouped s e =
    ap (λ g. element_of g s) e ∙ ap (λ g. whole_element (subject_of g s)) e
    ∙ whole_element-is (names s) GroupSubject

-- offsets go on by a sign and a constant
pub offsets_go_on : (whole : Reading (List OffsetTree)) (found more : List Offset) (next : Offset)
    (s after r : List Symbol)
    → whole ≡ after_items (map offset_tree found) (all_offsets s)
    → Some next.sign ≡ next_sign s
    → after ≡ drop 1 s
    → constant after ≡ Ok (constant_tree next.constant, r)
    → more ≡ found ++ next ∷ []
    → whole ≡ after_items (map offset_tree more) (all_offsets r)
offsets_go_on whole found more next s after r is at skipped e pushed =
    is ∙ offsets-more (map offset_tree found) next.sign (constant_tree next.constant) s r (sym at)
    (ap constant (sym skipped) ∙ e)
    ∙ ap (λ l. after_items l (all_offsets r))
    (sym (ap (map offset_tree) pushed ∙ map-append offset_tree found (next ∷ [])))
