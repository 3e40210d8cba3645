-- The labels of procedures are bound in the code of their module, which knows them by numbers of its own.
use Rattle.program_laws.proofs.Prelude.{◌≡◌, ℕ, zero, suc, ◌+◌, ◌<◌, Bool, true, false, ◌||◌, List, [], ◌∷◌, ◌++◌, Some, option_map, refl, ap, sym, ◌∙◌, subst, arith, slice_get, AllByRecursion, eq-eqb, eqb-true, none-some, same_Some, Item, Plain, WithWord, Byte, Address, Gap, Mark, KnowsLabels, is_bound, marks, bound_in_parts, TreeModule, ProcedureKind, TreeProcedure, entry, Written, numbered, numbered_reference, AreCodeOf, IsCodeOf, IsProcedureCode, or_left, or_right}
use Rattle.treecode.specs.declared.procedure.ProcedureKind.TheVariants as kinds
use Rattle.program_laws.proofs.ModuleStands.{IsOwn}
use Rattle.program_laws.proofs.Renumbered.{front_of, mapped}

-- a procedure's code binds its label
bound_by_code :
    (tree : TreeModule) (called : List Bool) (number : ℕ) (procedure : TreeProcedure) (list : List Item)
    → IsProcedureCode tree called number procedure list
    → is_bound number list ≡ true
bound_by_code tree called number procedure list is =
    subst (λ one. is_bound number one ≡ true) (sym is.list_is)
    (or_left (marks number (Mark number)) (is_bound number (is.beginning ++ (is.statements ++ is.ending)))
    (eq-eqb number number refl))

bound_by_kind :
    (tree : TreeModule) (called : List Bool) (number : ℕ) (procedure : TreeProcedure) (kind : ProcedureKind)
    (list : List Item)
    → IsOwn kind
    → IsCodeOf tree called number procedure kind list
    → is_bound number list ≡ true
bound_by_kind tree called number procedure (kinds.External name) list own is = absurd (own name refl)
bound_by_kind tree called number procedure kinds.Static list own is =
    bound_by_code tree called number procedure list is
bound_by_kind tree called number procedure kinds.Reentrant list own is =
    bound_by_code tree called number procedure list is

pub procedures_bound :
    (tree : TreeModule) (called : List Bool) (first index : ℕ) (all : List TreeProcedure)
    (procedure : TreeProcedure) (list : List Item)
    → AreCodeOf tree called first all list
    → slice_get all index ≡ Some procedure
    → IsOwn procedure.kind
    → is_bound (first + index) list ≡ true
procedures_bound tree called first index [] procedure list are found own = absurd (none-some procedure found)
procedures_bound tree called first zero (one ∷ others) procedure list are found own =
    let same : one ≡ procedure = same_Some one procedure found in
    let here : first + 0 ≡ first = omega arith in
    subst (λ items. is_bound (first + 0) items ≡ true) (sym are.4)
    (bound_in_parts (first + 0) are.0 are.1
    ∙ or_left (is_bound (first + 0) are.0) (is_bound (first + 0) are.1)
    (ap (λ number. is_bound number are.0) here
    ∙ bound_by_kind tree called first one one.kind are.0
    (subst (λ (given : TreeProcedure). IsOwn given.kind) (sym same) own) are.2))
procedures_bound tree called first (suc index) (one ∷ others) procedure list are found own =
    let more : first + suc index ≡ suc first + index = omega arith in
    subst (λ items. is_bound (first + suc index) items ≡ true) (sym are.4)
    (bound_in_parts (first + suc index) are.0 are.1
    ∙ or_right (is_bound (first + suc index) are.0) (is_bound (first + suc index) are.1)
    (ap (λ number. is_bound number are.1) more
    ∙ procedures_bound tree called (suc first) index others procedure are.1 are.3 found own))

-- a label that items bind has a number in the code, which the code binds
pub record IsKnownAs (written : Written) (label : ℕ) (made : List Item) : Type 0 where
  pub number : ℕ
  pub entry_is : entry written.labels label ≡ Some number
  pub bound : is_bound number made ≡ true

with_first : (written : Written) (label : ℕ) (first : Item) (made : List Item) → IsKnownAs written label made
    → IsKnownAs written label (first ∷ made)
with_first written label first made known = record {
  number = known.number;
  entry_is = known.entry_is;
  bound = or_right (marks known.number first) (is_bound known.number made) known.bound;
}

at_front :
    (written : Written) (label other : ℕ) (first : Item) (made : List Item)
    → (label ≡ other)
    → option_map Mark (entry written.labels other) ≡ Some first
    → IsKnownAs written label (first ∷ made)
at_front written label other first made same is =
    let m = mapped Mark (entry written.labels other) first is in
    record {
      number = m.given;
      entry_is = ap (entry written.labels) same ∙ m.found_is;
      bound = or_left (marks m.given first) (is_bound m.given made)
          (ap (marks m.given) m.made_is ∙ eq-eqb m.given m.given refl);
    }

pub label_known :
    (written : Written) (label : ℕ) (items made : List Item)
    → numbered written items ≡ Some made
    → is_bound label items ≡ true
    → IsKnownAs written label made
label_known written label [] made is bound = absurd (cc)
label_known written label (Mark other ∷ others) made is bound =
    let front = front_of (option_map Mark (entry written.labels other)) (numbered written others) made is in
    subst (IsKnownAs written label) (sym front.made_is)
    (by (marks label (Mark other)) refl bound front.first front.more front.item_is
    (λ rest. label_known written label others front.more front.others_are rest))
  where
    by : (test : Bool) → marks label (Mark other) ≡ test → (test || is_bound label others) ≡ true
        → (first : Item) (more : List Item) → option_map Mark (entry written.labels other) ≡ Some first
        → (is_bound label others ≡ true → IsKnownAs written label more)
        → IsKnownAs written label (first ∷ more)
    by true marked there first more item_is rest =
        at_front written label other first more (eqb-true label other marked) item_is
    by false marked there first more item_is rest = with_first written label first more (rest there)
label_known written label (Plain i ∷ others) made is bound =
    let front = front_of (Some (Plain i)) (numbered written others) made is in
    subst (IsKnownAs written label) (sym front.made_is)
    (with_first written label front.first front.more
    (label_known written label others front.more front.others_are bound))
label_known written label (WithWord form reference ∷ others) made is bound =
    let front =
    front_of (option_map (WithWord form) (numbered_reference written reference))
    (numbered written others) made is in
    subst (IsKnownAs written label) (sym front.made_is)
    (with_first written label front.first front.more
    (label_known written label others front.more front.others_are bound))
label_known written label (Byte value ∷ others) made is bound =
    let front = front_of (Some (Byte value)) (numbered written others) made is in
    subst (IsKnownAs written label) (sym front.made_is)
    (with_first written label front.first front.more
    (label_known written label others front.more front.others_are bound))
label_known written label (Address reference ∷ others) made is bound =
    let front =
    front_of (option_map Address (numbered_reference written reference))
    (numbered written others) made is in
    subst (IsKnownAs written label) (sym front.made_is)
    (with_first written label front.first front.more
    (label_known written label others front.more front.others_are bound))
label_known written label (Gap count ∷ others) made is bound =
    let front = front_of (Some (Gap count)) (numbered written others) made is in
    subst (IsKnownAs written label) (sym front.made_is)
    (with_first written label front.first front.more
    (label_known written label others front.more front.others_are bound))

-- a label that items bind is one of those that they know
pub bound_label_small :
    (labels label : ℕ) (items : List Item)
    → AllByRecursion (KnowsLabels labels) items
    → is_bound label items ≡ true
    → label < labels
bound_label_small labels label [] known bound = absurd (cc)
bound_label_small labels label (Mark other ∷ others) known bound =
    by (marks label (Mark other)) refl bound (λ rest. bound_label_small labels label others known.1 rest)
  where
    by : (test : Bool) → marks label (Mark other) ≡ test → (test || is_bound label others) ≡ true
        → (is_bound label others ≡ true → label < labels) → label < labels
    by true marked there rest = subst (λ n. n < labels) (sym (eqb-true label other marked)) known.0
    by false marked there rest = rest there
bound_label_small labels label (Plain i ∷ others) known bound =
    bound_label_small labels label others known.1 bound
bound_label_small labels label (WithWord form reference ∷ others) known bound =
    bound_label_small labels label others known.1 bound
bound_label_small labels label (Byte value ∷ others) known bound =
    bound_label_small labels label others known.1 bound
bound_label_small labels label (Address reference ∷ others) known bound =
    bound_label_small labels label others known.1 bound
bound_label_small labels label (Gap count ∷ others) known bound =
    bound_label_small labels label others known.1 bound
