-- What is read as an element of a DECLARE is spelled so, and what is spelled so is read.
use Rattle.syntax.proofs.Prelude.{◌≡◌, inl, inr, false, List, [], ◌∷◌, drop, length, Option, Some, None, Ok, refl, ◌∙◌, ap, subst, IfSome, arith, AllByRecursion, Dimension, Count, Implied, Linkage, Public, External, Byte, Address, Storage, Initial, Data, Identifier, Place, IsNotEmpty, IsSubject, IsItemType, IsValueList, IsItem, IsElement, optional, between_commas, more_after_commas, origin_symbols, offsets_symbols, restricted_symbols, scalar_symbols, count_symbols, dimension_symbols, member_symbols, name_symbols, item_type_symbols, linkage_symbols, at_symbols, storage_symbol, value_list_symbols, base_symbols, names_symbols, subject_symbols, item_symbols, element_symbols, Symbol, NameSymbol, ReservedSymbol, PlacedSymbol, MarkSymbol, ConstantOrigin, LocationOrigin, ItemTypeTree, ScalarItem, StructureItem, AtTree, ValueListTree, SubjectTree, SingleSubject, GroupSubject, ItemTree, ElementTree, LiterallyElement, ItemElement, next_sign, restricted, scalar, dimension, member, item_type, linkage_of, next_linkage, linkage_then, linkage, at_of, at, storage_of, next_storage, values_of, value_list, base, names, subject_of, subject, item, item_element, element_of, element, Keeps, items, Parser, at_mark, at_word, place_of_word, next_name, mark, name, string}
use Rattle.words.specs.declared.vocabulary.Mark.TheVariants as marks
use Rattle.words.specs.declared.vocabulary.ReservedWord.TheVariants as words
use Rattle.syntax.proofs.ListLaws.{items-sound, items-reads, gave, first_fault}
use Rattle.syntax.proofs.ReaderLemmas.{if_false, if_cases, bind_ok, bind_at, same_reading, at_word-is, place_of_word-is, next_name-is, mark-ok, name-ok, string-ok}
use Rattle.syntax.proofs.DeclarationParts.{Spelled, respelled, Lengthens, offsets-lengthens, restricted-spelled, restricted-reads, scalar-spelled, dimension-spelled, dimension-reads, member-spelled, member-reads}
use Rattle.syntax.proofs.ExpressionSound.{constant-long}

-- without faults of the items there is none of the list
no_fault : {A : Type 0} (all : List A) → first_fault (λ _. None) all ≡ None
no_fault [] = refl
no_fault (a ∷ all) = no_fault all

-- a list that is spelled is read
pub list-reads : {A : Type 0} (item : Parser A) (spell : A → List Symbol → List Symbol) (P : A → Type 0)
    (Follows : List Symbol → Type 0)
    → Keeps item
    → ((a : A) (rest : List Symbol) → P a → Follows rest → item (spell a rest) ≡ Ok (a, rest))
    → ((rest : List Symbol) → Follows (MarkSymbol marks.Comma ∷ rest))
    → (all : List A) (r : List Symbol)
    → IsNotEmpty all
    → AllByRecursion P all
    → Follows r
    → at_mark marks.Comma r ≡ false
    → items item (between_commas spell all r) ≡ Ok (all, r)
list-reads item spell P Follows keeps reads comma all r some h later ends =
    items-reads item spell P Follows (λ _. None) keeps reads comma all r some h later ends
    ∙ ap (λ k. gave k all r) (no_fault all)

-- where nothing is asked of the items
abbrev Anything : {A : Type 0} → A → Type 0
Anything a = Unit {0}

all_anything : {A : Type 0} (all : List A) → AllByRecursion Anything all
all_anything [] = tt
all_anything (a ∷ all) = (tt, all_anything all)

-- a list in parentheses, after the opening one
list-spelled : {A : Type 0} (item : Parser A) (spell : A → List Symbol → List Symbol) → Spelled item spell
    → (s r : List Symbol) (all : List A)
    → items item s ≡ Ok (all, r)
    → (s ≡ between_commas spell all r) × IsNotEmpty all
list-spelled item spell spelled s r all e =
    let h = items-sound item spell Anything (λ s r a e. (spelled s r a e, tt)) s r all e in
    (h.0, h.1)

-- what is spelled lies before what stands after it
keeps_of : {A : Type 0} (item : Parser A) (spell : A → List Symbol → List Symbol)
    → Spelled item spell
    → Lengthens spell
    → Keeps item
keeps_of item spell spelled lengthens s r a e = omega (arith, ap length (spelled s r a e), lengthens a r)

pub optional-lengthens : {A : Type 0} (spell : A → List Symbol → List Symbol)
    → Lengthens spell
    → Lengthens (optional spell)
optional-lengthens spell lengthens None r = omega arith
optional-lengthens spell lengthens (Some a) r = lengthens a r

more_after_commas-lengthens : {A : Type 0} (spell : A → List Symbol → List Symbol)
    → Lengthens spell
    → Lengthens (more_after_commas spell)
more_after_commas-lengthens spell lengthens [] r = omega arith
more_after_commas-lengthens spell lengthens (a ∷ all) r =
    omega (
      arith,
      lengthens a (more_after_commas spell all r),
      more_after_commas-lengthens spell lengthens all r,
    )

pub between_commas-lengthens : {A : Type 0} (spell : A → List Symbol → List Symbol)
    → Lengthens spell
    → Lengthens (between_commas spell)
between_commas-lengthens spell lengthens [] r = omega arith
between_commas-lengthens spell lengthens (a ∷ all) r =
    omega (
      arith,
      lengthens a (more_after_commas spell all r),
      more_after_commas-lengthens spell lengthens all r,
    )

name-lengthens : Lengthens name_symbols
name-lengthens n r = omega arith

pub scalar-lengthens : Lengthens scalar_symbols
scalar-lengthens Byte r = omega arith
scalar-lengthens Address r = omega arith

count-lengthens : Lengthens count_symbols
count-lengthens n r = omega arith

dimension-lengthens : Lengthens dimension_symbols
dimension-lengthens (Count n) r = omega arith
dimension-lengthens Implied r = omega arith

origin-lengthens : Lengthens origin_symbols
origin-lengthens (ConstantOrigin c) r = omega (arith, constant-long c r)
origin-lengthens (LocationOrigin n) r = omega arith

restricted-lengthens : Lengthens restricted_symbols
restricted-lengthens t r =
    omega (arith, origin-lengthens t.origin (offsets_symbols t.offsets r), offsets-lengthens t.offsets r)

member-lengthens : Lengthens member_symbols
member-lengthens m r =
    omega (
      arith,
      optional-lengthens count_symbols count-lengthens m.dimension (scalar_symbols m.scalar r),
      scalar-lengthens m.scalar r,
    )

name-spelled : Spelled name name_symbols
name-spelled s r n e = name-ok s r n e

pub name-keeps : Keeps name
name-keeps = keeps_of name name_symbols name-spelled name-lengthens

pub member-keeps : Keeps member
member-keeps = keeps_of member member_symbols member-spelled member-lengthens

pub restricted-keeps : Keeps restricted
restricted-keeps = keeps_of restricted restricted_symbols restricted-spelled restricted-lengthens

pub names-sound : (s r : List Symbol) (ns : List Identifier)
    → names s ≡ Ok (ns, r)
    → (s ≡ names_symbols ns r) × IsNotEmpty ns
unfolding names
names-sound s r ns e =
    let a = bind_ok (mark marks.LeftParenthesis s) _ _ e in
    let b = bind_ok (items name a.0) _ _ a.2 in
    let c = bind_ok (mark marks.RightParenthesis b.0.1) _ _ b.2 in
    let found = list-spelled name name_symbols name-spelled a.0 b.0.1 b.0.0 b.1 in
    let same = same_reading b.0.0 ns c.0 r c.2 in
    let spelled : s ≡ names_symbols b.0.0 c.0 =
    mark-ok marks.LeftParenthesis s a.0 a.1
    ∙ ap (λ k. MarkSymbol marks.LeftParenthesis ∷ k)
    (found.0 ∙ ap (between_commas name_symbols b.0.0) (mark-ok marks.RightParenthesis b.0.1 c.0 c.1)) in
    (respelled names_symbols s b.0.0 ns c.0 r c.2 spelled, subst IsNotEmpty same.0 found.1)

pub names-reads : (ns : List Identifier) (r : List Symbol)
    → IsNotEmpty ns
    → names (names_symbols ns r) ≡ Ok (ns, r)
unfolding names
names-reads ns r some =
    let later : List Symbol = MarkSymbol marks.RightParenthesis ∷ r in
    bind_at (items name (between_commas name_symbols ns later)) _ _
    (list-reads name name_symbols Anything Anything name-keeps (λ n rest h k. refl) (λ rest. tt) ns later some
    (all_anything ns) tt refl)

pub item_type-sound : (s r : List Symbol) (t : ItemTypeTree)
    → item_type s ≡ Ok (t, r)
    → (s ≡ item_type_symbols t r) × IsItemType t
unfolding item_type
item_type-sound s r t e = elim (if_cases (at_word words.Structure s) _ _ _ e) [
  | inl h ↦
      let a = bind_ok (mark marks.LeftParenthesis (drop 1 s)) _ _ h.1 in
      let b = bind_ok (items member a.0) _ _ a.2 in
      let c = bind_ok (mark marks.RightParenthesis b.0.1) _ _ b.2 in
      let found = list-spelled member member_symbols member-spelled a.0 b.0.1 b.0.0 b.1 in
      let same = same_reading (StructureItem b.0.0) t c.0 r c.2 in
      let spelled : s ≡ item_type_symbols (StructureItem b.0.0) c.0 =
      at_word-is words.Structure s h.0
      ∙ ap (λ k. ReservedSymbol words.Structure ∷ k)
      (mark-ok marks.LeftParenthesis (drop 1 s) a.0 a.1
      ∙ ap (λ k. MarkSymbol marks.LeftParenthesis ∷ k)
      (found.0 ∙ ap (between_commas member_symbols b.0.0) (mark-ok marks.RightParenthesis b.0.1 c.0 c.1))) in (
        respelled item_type_symbols s (StructureItem b.0.0) t c.0 r c.2 spelled,
        subst IsItemType {x = StructureItem b.0.0} same.0 found.1,
      )
  | inr h ↦
      let a = bind_ok (scalar s) _ _ h.1 in
      let same = same_reading (ScalarItem a.0.0) t a.0.1 r a.2 in (
        respelled item_type_symbols s (ScalarItem a.0.0) t a.0.1 r a.2 (scalar-spelled s a.0.1 a.0.0 a.1),
        subst IsItemType {x = ScalarItem a.0.0} same.0 tt,
      )
]

pub item_type-reads : (t : ItemTypeTree) (r : List Symbol)
    → IsItemType t
    → item_type (item_type_symbols t r) ≡ Ok (t, r)
unfolding item_type
item_type-reads (ScalarItem Byte) r h = refl
item_type-reads (ScalarItem Address) r h = refl
item_type-reads (StructureItem ms) r h =
    let later : List Symbol = MarkSymbol marks.RightParenthesis ∷ r in
    bind_at (items member (between_commas member_symbols ms later)) _ _
    (list-reads member member_symbols Anything Anything member-keeps (λ m rest h k. member-reads m rest)
    (λ rest. tt) ms later h (all_anything ms) tt refl)

linkage_of-is : (s : List Symbol) (one other : Option Place)
    → place_of_word words.Public s ≡ one
    → place_of_word words.External s ≡ other
    → (l : Linkage)
    → linkage_of one other ≡ Some l
    → s ≡ linkage_symbols l (drop 1 s)
linkage_of-is s (Some p) other is _ l e =
    place_of_word-is words.Public s p is
    ∙ ap (λ k. linkage_symbols k (drop 1 s)) {x = Public p} {y = l} (cc e)
linkage_of-is s None (Some p) _ is l e =
    place_of_word-is words.External s p is
    ∙ ap (λ k. linkage_symbols k (drop 1 s)) {x = External p} {y = l} (cc e)
linkage_of-is s None None _ _ l e = absurd (cc e)

pub next_linkage-is : (s : List Symbol) (l : Linkage)
    → next_linkage s ≡ Some l
    → s ≡ linkage_symbols l (drop 1 s)
next_linkage-is s l e =
    linkage_of-is s (place_of_word words.Public s) (place_of_word words.External s) refl refl l e

linkage_then-spelled : (found : Option Linkage) (s : List Symbol)
    → next_linkage s ≡ found
    → (r : List Symbol) (l : Option Linkage)
    → linkage_then found s ≡ Ok (l, r)
    → s ≡ optional linkage_symbols l r
linkage_then-spelled None s is r l e = respelled (optional linkage_symbols) s None l s r e refl
linkage_then-spelled (Some k) s is r l e =
    respelled (optional linkage_symbols) s (Some k) l (drop 1 s) r e (next_linkage-is s k is)

pub linkage-spelled : Spelled linkage (optional linkage_symbols)
linkage-spelled s r l e = linkage_then-spelled (next_linkage s) s refl r l e

pub linkage-reads : (l : Option Linkage) (r : List Symbol)
    → next_linkage r ≡ None
    → linkage (optional linkage_symbols l r) ≡ Ok (l, r)
linkage-reads None r ends = ap (λ g. linkage_then g r) ends
linkage-reads (Some (Public p)) r ends = refl
linkage-reads (Some (External p)) r ends = refl

at_of-spelled : (found : Option Place) (s : List Symbol)
    → place_of_word words.At s ≡ found
    → (r : List Symbol) (t : Option AtTree)
    → at_of found s ≡ Ok (t, r)
    → s ≡ optional at_symbols t r
at_of-spelled None s is r t e = respelled (optional at_symbols) s None t s r e refl
at_of-spelled (Some p) s is r t e =
    let a = bind_ok (mark marks.LeftParenthesis (drop 1 s)) _ _ e in
    let b = bind_ok (restricted a.0) _ _ a.2 in
    let c = bind_ok (mark marks.RightParenthesis b.0.1) _ _ b.2 in
    respelled (optional at_symbols) s (Some (record { place = p; address = b.0.0 })) t c.0 r c.2
    (place_of_word-is words.At s p is
    ∙ ap (λ k. PlacedSymbol words.At p ∷ k)
    (mark-ok marks.LeftParenthesis (drop 1 s) a.0 a.1
    ∙ ap (λ k. MarkSymbol marks.LeftParenthesis ∷ k)
    (restricted-spelled a.0 b.0.1 b.0.0 b.1
    ∙ ap (restricted_symbols b.0.0) (mark-ok marks.RightParenthesis b.0.1 c.0 c.1))))

pub at-spelled : Spelled at (optional at_symbols)
unfolding at
at-spelled s r t e = at_of-spelled (place_of_word words.At s) s refl r t e

pub at-reads : (t : Option AtTree) (r : List Symbol)
    → place_of_word words.At r ≡ None
    → at (optional at_symbols t r) ≡ Ok (t, r)
unfolding at
at-reads None r ends = ap (λ g. at_of g r) ends
at-reads (Some t) r ends =
    let later : List Symbol = MarkSymbol marks.RightParenthesis ∷ r in
    bind_at (restricted (restricted_symbols t.address later)) _ _ (restricted-reads t.address later refl)

storage_of-is : (s : List Symbol) (one other : Option Place)
    → place_of_word words.Initial s ≡ one
    → place_of_word words.Data s ≡ other
    → (g : Storage)
    → storage_of one other ≡ Some g
    → s ≡ storage_symbol g ∷ drop 1 s
storage_of-is s (Some p) other is _ g e =
    place_of_word-is words.Initial s p is
    ∙ ap (λ k. storage_symbol k ∷ drop 1 s) {x = Initial p} {y = g} (cc e)
storage_of-is s None (Some p) _ is g e =
    place_of_word-is words.Data s p is ∙ ap (λ k. storage_symbol k ∷ drop 1 s) {x = Data p} {y = g} (cc e)
storage_of-is s None None _ _ g e = absurd (cc e)

pub next_storage-is : (s : List Symbol) (g : Storage)
    → next_storage s ≡ Some g
    → s ≡ storage_symbol g ∷ drop 1 s
next_storage-is s g e =
    storage_of-is s (place_of_word words.Initial s) (place_of_word words.Data s) refl refl g e

values_of-sound : (found : Option Storage) (s : List Symbol)
    → next_storage s ≡ found
    → (r : List Symbol) (t : Option ValueListTree)
    → values_of found s ≡ Ok (t, r)
    → (s ≡ optional value_list_symbols t r) × IfSome t IsValueList
values_of-sound None s is r t e =
    let same = same_reading None t s r e in (
      respelled (optional value_list_symbols) s None t s r e refl,
      subst (λ k. IfSome k IsValueList) {x = None} same.0 tt,
    )
values_of-sound (Some g) s is r t e =
    let a = bind_ok (mark marks.LeftParenthesis (drop 1 s)) _ _ e in
    let b = bind_ok (items restricted a.0) _ _ a.2 in
    let c = bind_ok (mark marks.RightParenthesis b.0.1) _ _ b.2 in
    let found = list-spelled restricted restricted_symbols restricted-spelled a.0 b.0.1 b.0.0 b.1 in
    let own : Option ValueListTree = Some (record { storage = g; values = b.0.0 }) in
    let same = same_reading own t c.0 r c.2 in
    let spelled : s ≡ optional value_list_symbols own c.0 =
    next_storage-is s g is
    ∙ ap (λ k. storage_symbol g ∷ k)
    (mark-ok marks.LeftParenthesis (drop 1 s) a.0 a.1
    ∙ ap (λ k. MarkSymbol marks.LeftParenthesis ∷ k)
    (found.0 ∙ ap (between_commas restricted_symbols b.0.0) (mark-ok marks.RightParenthesis b.0.1 c.0 c.1)))
    in (
      respelled (optional value_list_symbols) s own t c.0 r c.2 spelled,
      subst (λ k. IfSome k IsValueList) {x = own} same.0 found.1,
    )

pub value_list-sound : (s r : List Symbol) (t : Option ValueListTree)
    → value_list s ≡ Ok (t, r)
    → (s ≡ optional value_list_symbols t r) × IfSome t IsValueList
unfolding value_list
value_list-sound s r t e = values_of-sound (next_storage s) s refl r t e

next_storage-at : (g : Storage) (r : List Symbol) → next_storage (storage_symbol g ∷ r) ≡ Some g
next_storage-at (Initial p) r = refl
next_storage-at (Data p) r = refl

pub value_list-reads : (t : Option ValueListTree) (r : List Symbol)
    → IfSome t IsValueList
    → next_storage r ≡ None
    → value_list (optional value_list_symbols t r) ≡ Ok (t, r)
unfolding value_list
value_list-reads None r h ends = ap (λ g. values_of g r) ends
value_list-reads (Some t) r h ends =
    let later : List Symbol = MarkSymbol marks.RightParenthesis ∷ r in
    ap (λ g. values_of g (value_list_symbols t r)) (next_storage-at t.storage _)
    ∙ bind_at (items restricted (between_commas restricted_symbols t.values later)) _ _
    (list-reads restricted restricted_symbols Anything (λ rest. next_sign rest ≡ None) restricted-keeps
    (λ a rest h k. restricted-reads a rest k) (λ rest. refl) t.values later h
    (all_anything t.values) refl refl)

pub base-spelled : Spelled base (optional base_symbols)
base-spelled s r b e = elim (if_cases (at_word words.Based s) _ _ _ e) [
  | inl h ↦
      let a = bind_ok (name (drop 1 s)) _ _ h.1 in
      respelled (optional base_symbols) s (Some (a.0.0)) b a.0.1 r a.2
      (at_word-is words.Based s h.0
      ∙ ap (λ k. ReservedSymbol words.Based ∷ k) (name-ok (drop 1 s) a.0.1 a.0.0 a.1))
  | inr h ↦ respelled (optional base_symbols) s None b s r h.1 refl
]

pub base-reads : (b : Option Identifier) (r : List Symbol)
    → at_word words.Based r ≡ false
    → base (optional base_symbols b r) ≡ Ok (b, r)
base-reads None r ends = if_false (at_word words.Based r) _ _ ends
base-reads (Some n) r ends = refl

subject_of-sound : (found : Option Identifier) (s : List Symbol)
    → next_name s ≡ found
    → (r : List Symbol) (t : SubjectTree)
    → subject_of found s ≡ Ok (t, r)
    → (s ≡ subject_symbols t r) × IsSubject t
subject_of-sound (Some n) s is r t e =
    let a = bind_ok (base (drop 1 s)) _ _ e in
    let same = same_reading (SingleSubject n a.0.0) t a.0.1 r a.2 in
    let spelled : s ≡ subject_symbols (SingleSubject n a.0.0) a.0.1 =
    next_name-is s n is ∙ ap (λ k. NameSymbol n ∷ k) (base-spelled (drop 1 s) a.0.1 a.0.0 a.1) in (
      respelled subject_symbols s (SingleSubject n a.0.0) t a.0.1 r a.2 spelled,
      subst IsSubject {x = SingleSubject n a.0.0} same.0 tt,
    )
subject_of-sound None s is r t e =
    let a = bind_ok (names s) _ _ e in
    let found = names-sound s a.0.1 a.0.0 a.1 in
    let same = same_reading (GroupSubject a.0.0) t a.0.1 r a.2 in (
      respelled subject_symbols s (GroupSubject a.0.0) t a.0.1 r a.2 found.0,
      subst IsSubject {x = GroupSubject a.0.0} same.0 found.1,
    )

pub subject-sound : (s r : List Symbol) (t : SubjectTree)
    → subject s ≡ Ok (t, r)
    → (s ≡ subject_symbols t r) × IsSubject t
unfolding subject
subject-sound s r t e = subject_of-sound (next_name s) s refl r t e

pub subject-reads : (t : SubjectTree) (r : List Symbol)
    → IsSubject t
    → at_word words.Based r ≡ false
    → subject (subject_symbols t r) ≡ Ok (t, r)
unfolding subject
subject-reads (SingleSubject n b) r h ends =
    bind_at (base (optional base_symbols b r)) _ _ (base-reads b r ends)
subject-reads (GroupSubject ns) r h ends = bind_at (names (names_symbols ns r)) _ _ (names-reads ns r h)

-- the symbols of an item, from those of its parts
item-parts : (t : ItemTree) (s size type link place values r : List Symbol)
    → s ≡ subject_symbols t.subject size
    → size ≡ optional dimension_symbols t.dimension type
    → type ≡ item_type_symbols t.item_type link
    → link ≡ optional linkage_symbols t.linkage place
    → place ≡ optional at_symbols t.at values
    → values ≡ optional value_list_symbols t.value_list r
    → s ≡ item_symbols t r
item-parts t s size type link place values r first second third fourth fifth sixth =
    first
    ∙ ap (subject_symbols t.subject) (second
    ∙ ap (optional dimension_symbols t.dimension) (third
    ∙ ap (item_type_symbols t.item_type) (fourth
    ∙ ap (optional linkage_symbols t.linkage) (fifth
    ∙ ap (optional at_symbols t.at) sixth))))

pub item-sound : (s r : List Symbol) (t : ItemTree) → item s ≡ Ok (t, r) → (s ≡ item_symbols t r) × IsItem t
unfolding item
item-sound s r t e =
    let a = bind_ok (subject s) _ _ e in
    let b = bind_ok (dimension a.0.1) _ _ a.2 in
    let c = bind_ok (item_type b.0.1) _ _ b.2 in
    let d = bind_ok (linkage c.0.1) _ _ c.2 in
    let f = bind_ok (at d.0.1) _ _ d.2 in
    let g = bind_ok (value_list f.0.1) _ _ f.2 in
    let own : ItemTree =
    record {
      subject = a.0.0;
      dimension = b.0.0;
      item_type = c.0.0;
      linkage = d.0.0;
      at = f.0.0;
      value_list = g.0.0;
    } in
    let same = same_reading own t g.0.1 r g.2 in
    let its_subject = subject-sound s a.0.1 a.0.0 a.1 in
    let its_type = item_type-sound b.0.1 c.0.1 c.0.0 c.1 in
    let its_values = value_list-sound f.0.1 g.0.1 g.0.0 g.1 in
    let spelled : s ≡ item_symbols own g.0.1 =
    item-parts own s a.0.1 b.0.1 c.0.1 d.0.1 f.0.1 g.0.1 its_subject.0
    (dimension-spelled a.0.1 b.0.1 b.0.0 b.1) its_type.0
    (linkage-spelled c.0.1 d.0.1 d.0.0 d.1) (at-spelled d.0.1 f.0.1 f.0.0 f.1) its_values.0 in (
      respelled item_symbols s own t g.0.1 r g.2 spelled,
      subst IsItem {x = own} same.0 (its_subject.1, its_type.1, its_values.1),
    )

-- what doesn't go on with an item
abbrev pub EndsItem : List Symbol → Type 0
EndsItem rest = (next_linkage rest ≡ None) × (place_of_word words.At rest ≡ None) × (next_storage rest ≡ None)

no_base : (d : Option Dimension) (t : ItemTypeTree) (r : List Symbol)
    → at_word words.Based (optional dimension_symbols d (item_type_symbols t r)) ≡ false
no_base None (ScalarItem Byte) r = refl
no_base None (ScalarItem Address) r = refl
no_base None (StructureItem ms) r = refl
no_base (Some (Count n)) t r = refl
no_base (Some Implied) t r = refl

no_dimension : (t : ItemTypeTree) (r : List Symbol)
    → at_mark marks.LeftParenthesis (item_type_symbols t r) ≡ false
no_dimension (ScalarItem Byte) r = refl
no_dimension (ScalarItem Address) r = refl
no_dimension (StructureItem ms) r = refl

no_linkage-values : (v : Option ValueListTree) (r : List Symbol)
    → next_linkage r ≡ None
    → next_linkage (optional value_list_symbols v r) ≡ None
no_linkage-values None r ends = ends
no_linkage-values (Some v) r ends = go v.storage
  where
    go : (g : Storage)
        → next_linkage (storage_symbol g ∷ MarkSymbol marks.LeftParenthesis
        ∷ between_commas restricted_symbols v.values (MarkSymbol marks.RightParenthesis ∷ r)) ≡ None
    go (Initial p) = refl
    go (Data p) = refl

no_linkage : (a : Option AtTree) (v : Option ValueListTree) (r : List Symbol)
    → next_linkage r ≡ None
    → next_linkage (optional at_symbols a (optional value_list_symbols v r)) ≡ None
no_linkage None v r ends = no_linkage-values v r ends
no_linkage (Some a) v r ends = refl

no_place : (v : Option ValueListTree) (r : List Symbol)
    → place_of_word words.At r ≡ None
    → place_of_word words.At (optional value_list_symbols v r) ≡ None
no_place None r ends = ends
no_place (Some v) r ends = go v.storage
  where
    go : (g : Storage)
        → place_of_word words.At
        (storage_symbol g ∷ MarkSymbol marks.LeftParenthesis ∷ between_commas restricted_symbols v.values
        (MarkSymbol marks.RightParenthesis ∷ r)) ≡ None
    go (Initial p) = refl
    go (Data p) = refl

pub item-reads : (t : ItemTree) (r : List Symbol)
    → IsItem t
    → EndsItem r
    → item (item_symbols t r) ≡ Ok (t, r)
unfolding item
item-reads t r h ends =
    let values : List Symbol = optional value_list_symbols t.value_list r in
    let place : List Symbol = optional at_symbols t.at values in
    let link : List Symbol = optional linkage_symbols t.linkage place in
    let type : List Symbol = item_type_symbols t.item_type link in
    let size : List Symbol = optional dimension_symbols t.dimension type in
    bind_at (subject (subject_symbols t.subject size)) _ _
    (subject-reads t.subject size h.0 (no_base t.dimension t.item_type link))
    ∙ bind_at (dimension size) _ _ (dimension-reads t.dimension type (no_dimension t.item_type link))
    ∙ bind_at (item_type type) _ _ (item_type-reads t.item_type link h.1)
    ∙ bind_at (linkage link) _ _ (linkage-reads t.linkage place (no_linkage t.at t.value_list r ends.0))
    ∙ bind_at (at place) _ _ (at-reads t.at values (no_place t.value_list r ends.1))
    ∙ bind_at (value_list values) _ _ (value_list-reads t.value_list r h.2 ends.2)

item_element-sound : (s r : List Symbol) (t : ElementTree)
    → item_element s ≡ Ok (t, r)
    → (s ≡ element_symbols t r) × IsElement t
item_element-sound s r t e =
    let a = bind_ok (item s) _ _ e in
    let found = item-sound s a.0.1 a.0.0 a.1 in
    let same = same_reading (ItemElement a.0.0) t a.0.1 r a.2 in (
      respelled element_symbols s (ItemElement a.0.0) t a.0.1 r a.2 found.0,
      subst IsElement {x = ItemElement a.0.0} same.0 found.1,
    )

element_of-sound : (found : Option Identifier) (s : List Symbol)
    → next_name s ≡ found
    → (r : List Symbol) (t : ElementTree)
    → element_of found s ≡ Ok (t, r)
    → (s ≡ element_symbols t r) × IsElement t
element_of-sound None s is r t e = item_element-sound s r t e
element_of-sound (Some n) s is r t e = elim (if_cases (at_word words.Literally (drop 1 s)) _ _ _ e) [
  | inl h ↦
      let a = bind_ok (string (drop 1 (drop 1 s))) _ _ h.1 in
      let same = same_reading (LiterallyElement n a.0.0) t a.0.1 r a.2 in
      let spelled : s ≡ element_symbols (LiterallyElement n a.0.0) a.0.1 =
      next_name-is s n is
      ∙ ap (λ k. NameSymbol n ∷ k)
      (at_word-is words.Literally (drop 1 s) h.0
      ∙ ap (λ k. ReservedSymbol words.Literally ∷ k) (string-ok (drop 1 (drop 1 s)) a.0.1 a.0.0 a.1)) in (
        respelled element_symbols s (LiterallyElement n a.0.0) t a.0.1 r a.2 spelled,
        subst IsElement {x = LiterallyElement n a.0.0} same.0 tt,
      )
  | inr h ↦ item_element-sound s r t h.1
]

pub element-sound : (s r : List Symbol) (t : ElementTree)
    → element s ≡ Ok (t, r)
    → (s ≡ element_symbols t r) × IsElement t
unfolding element
element-sound s r t e = element_of-sound (next_name s) s refl r t e

no_literally : (b : Option Identifier) (d : Option Dimension) (t : ItemTypeTree) (r : List Symbol)
    → at_word words.Literally (optional base_symbols b (optional dimension_symbols d (item_type_symbols t r)))
    ≡ false
no_literally (Some n) d t r = refl
no_literally None (Some (Count n)) t r = refl
no_literally None (Some Implied) t r = refl
no_literally None None (ScalarItem Byte) r = refl
no_literally None None (ScalarItem Address) r = refl
no_literally None None (StructureItem ms) r = refl

item_element-reads : (t : ItemTree) (r : List Symbol)
    → IsItem t
    → EndsItem r
    → item_element (item_symbols t r) ≡ Ok (ItemElement t, r)
item_element-reads t r h ends = bind_at (item (item_symbols t r)) _ _ (item-reads t r h ends)

element_of-item : (u : SubjectTree) (d : Option Dimension) (t : ItemTypeTree) (r : List Symbol)
    → element (subject_symbols u (optional dimension_symbols d (item_type_symbols t r)))
    ≡ item_element (subject_symbols u (optional dimension_symbols d (item_type_symbols t r)))
unfolding element
element_of-item (SingleSubject n b) d t r =
    if_false (at_word words.Literally
    (optional base_symbols b (optional dimension_symbols d (item_type_symbols t r)))) _ _
    (no_literally b d t r)
element_of-item (GroupSubject ns) d t r = refl

pub element-reads : (t : ElementTree) (r : List Symbol)
    → IsElement t
    → EndsItem r
    → element (element_symbols t r) ≡ Ok (t, r)
unfolding element
element-reads (LiterallyElement n text) r h ends = refl
element-reads (ItemElement t) r h ends =
    element_of-item t.subject t.dimension t.item_type _ ∙ item_element-reads t r h ends

base-lengthens : Lengthens base_symbols
base-lengthens n r = omega arith

pub names-lengthens : Lengthens names_symbols
names-lengthens ns r =
    omega (
      arith,
      between_commas-lengthens name_symbols name-lengthens ns
          (MarkSymbol marks.RightParenthesis ∷ r),
    )

subject-lengthens : Lengthens subject_symbols
subject-lengthens (SingleSubject n b) r = omega (arith, optional-lengthens base_symbols base-lengthens b r)
subject-lengthens (GroupSubject ns) r = names-lengthens ns r

item_type-lengthens : Lengthens item_type_symbols
item_type-lengthens (ScalarItem t) r = scalar-lengthens t r
item_type-lengthens (StructureItem ms) r =
    omega (
      arith,
      between_commas-lengthens member_symbols member-lengthens ms
          (MarkSymbol marks.RightParenthesis ∷ r),
    )

pub linkage-lengthens : Lengthens linkage_symbols
linkage-lengthens (Public p) r = omega arith
linkage-lengthens (External p) r = omega arith

at-lengthens : Lengthens at_symbols
at-lengthens t r = omega (arith, restricted-lengthens t.address (MarkSymbol marks.RightParenthesis ∷ r))

value_list-lengthens : Lengthens value_list_symbols
value_list-lengthens t r =
    omega (
      arith,
      between_commas-lengthens restricted_symbols restricted-lengthens t.values
          (MarkSymbol marks.RightParenthesis ∷ r),
    )

item-lengthens : Lengthens item_symbols
item-lengthens t r =
    let values : List Symbol = optional value_list_symbols t.value_list r in
    let place : List Symbol = optional at_symbols t.at values in
    let link : List Symbol = optional linkage_symbols t.linkage place in
    let type : List Symbol = item_type_symbols t.item_type link in
    let size : List Symbol = optional dimension_symbols t.dimension type in
    omega (
      arith,
      subject-lengthens t.subject size,
      optional-lengthens dimension_symbols dimension-lengthens t.dimension type,
      item_type-lengthens t.item_type link,
      optional-lengthens linkage_symbols linkage-lengthens t.linkage place,
      optional-lengthens at_symbols at-lengthens t.at values,
      optional-lengthens value_list_symbols value_list-lengthens t.value_list r,
    )

pub element-lengthens : Lengthens element_symbols
element-lengthens (LiterallyElement n text) r = omega arith
element-lengthens (ItemElement t) r = item-lengthens t r

pub element-keeps : Keeps element
element-keeps = keeps_of element element_symbols (λ s r t e. (element-sound s r t e).0) element-lengthens
