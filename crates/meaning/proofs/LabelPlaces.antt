-- The labels of lists: the rest of a list from a label on begins with that label.
use Rattle.meaning.proofs.Prelude.{◌≡◌, ℕ, zero, suc, ◌+◌, ◌-◌, ◌≤◌, Bool, true, false, List, [], ◌∷◌, slice_get, nat_le, Option, Some, None, cond, option_map, arith, refl, sym, ap, ◌∙◌, leb-true, LabelsStand, TypedStatement, LabelStatement, TypedStatements, NoStatements, MoreStatements, ListOf, dropped, rest_from}

-- what the places of labels say
record LabelAt (statements : TypedStatements) (place label found : ℕ) : Type 0 where
  pub others : TypedStatements
  pub from_here : place ≤ found
  pub dropped_is : dropped (found - place) statements ≡ MoreStatements (LabelStatement label) others

-- the label is the first statement
at_once : (others : TypedStatements) (number label place found first index : ℕ) → number ≡ label
    → first ≡ place → Some first ≡ Some found → index ≡ 0
    → LabelAt (MoreStatements (LabelStatement number) others) place (label + index) found
at_once others number label place found first index one two same here =
    let equal : first ≡ found = cc in
    let count : found - place ≡ 0 = omega (arith, equal, two) in
    let name : number ≡ label + index = omega (arith, one, here) in
    record {
      others = others;
      from_here = omega (arith, equal, two);
      dropped_is =
          ap (λ many. dropped many (MoreStatements (LabelStatement number) others)) count
          ∙ ap (λ many. MoreStatements (LabelStatement many) others) name;
    }

-- or it stands further on
further_on : (statement : TypedStatement) (others : TypedStatements) (place label other found : ℕ)
    → other ≡ label → LabelAt others (place + 1) other found
    → LabelAt (MoreStatements statement others) place label found
further_on statement others place label other found same rest =
    let here : place + 1 ≤ found = rest.from_here in
    let count : found - place ≡ suc (found - (place + 1)) = omega (arith, here) in
    record {
      others = rest.others;
      from_here = omega (arith, here);
      dropped_is =
          ap (λ many. dropped many (MoreStatements statement others)) count ∙ rest.dropped_is
          ∙ ap (λ many. MoreStatements (LabelStatement many) rest.others) same;
    }

label_at : (statements : TypedStatements) (label place : ℕ) (places : List ℕ)
    → LabelsStand label place places statements → (index found : ℕ) → slice_get places index ≡ Some found
    → LabelAt statements place (label + index) found
label_at NoStatements label place places stand index found same =
    let none : slice_get places index ≡ None = ap (λ all. slice_get all index) stand in
    let bad : None ≡ Some found = sym none ∙ same in
    let false_is : ⊥ = cc in
    absurd false_is
label_at (MoreStatements (LabelStatement number) others) label place [] stand index found same = absurd stand
label_at (MoreStatements (LabelStatement number) others) label place (first ∷ places) stand zero found same =
    at_once others number label place found first 0 stand.0 stand.1 same refl
label_at (MoreStatements (LabelStatement number) others) label place (first ∷ places) stand
    (suc index) found same =
    let equal : (label + 1) + index ≡ label + suc index = omega arith in
    further_on (LabelStatement number) others place (label + suc index) ((label + 1) + index) found equal
    (label_at others (label + 1) (place + 1) places stand.2 index found same)
label_at (MoreStatements statement others) label place [] stand index found same =
    further_on statement others place (label + index) (label + index) found refl
    (label_at others label (place + 1) [] stand index found same)
label_at (MoreStatements statement others) label place (first ∷ places) stand index found same =
    further_on statement others place (label + index) (label + index) found refl
    (label_at others label (place + 1) (first ∷ places) stand index found same)

-- the rest of a list from a label on
pub record RestAt (statements : TypedStatements) (label : ℕ) (rest : TypedStatements) : Type 0 where
  pub count : ℕ
  pub others : TypedStatements
  pub dropped_is : dropped count statements ≡ rest
  pub begins : rest ≡ MoreStatements (LabelStatement label) others

rest_found : (first label : ℕ) (places : List ℕ) (statements rest : TypedStatements)
    → LabelsStand first 0 places statements → first ≤ label → (found : Option ℕ)
    → slice_get places (label - first) ≡ found
    → option_map (λ place. dropped place statements) found ≡ Some rest → RestAt statements label rest
rest_found first label places statements rest stand below None is same = let bad : ⊥ = cc in absurd bad
rest_found first label places statements rest stand below (Some found) is same =
    let equal : dropped found statements ≡ rest = cc in
    let at = label_at statements first 0 places stand (label - first) found is in
    let none : found - 0 ≡ found = omega arith in
    let name : first + (label - first) ≡ label = omega (arith, below) in
    record {
      count = found;
      others = at.others;
      dropped_is = equal;
      begins =
          sym equal ∙ ap (λ many. dropped many statements) (sym none) ∙ at.dropped_is
          ∙ ap (λ many. MoreStatements (LabelStatement many) at.others) name;
    }

rest_by : (test : Bool) (first label : ℕ) (places : List ℕ) (statements rest : TypedStatements)
    → LabelsStand first 0 places statements → nat_le first label ≡ test
    → cond test (option_map (λ place. dropped place statements) (slice_get places (label - first))) None
    ≡ Some rest → RestAt statements label rest
rest_by true first label places statements rest stand is same =
    rest_found first label places statements rest stand (leb-true first label is)
    (slice_get places (label - first)) refl same
rest_by false first label places statements rest stand is same = let bad : ⊥ = cc in absurd bad

pub rest_at : (first label : ℕ) (places : List ℕ) (statements rest : TypedStatements)
    → LabelsStand first 0 places statements → rest_from label (ListOf first places statements) ≡ Some rest
    → RestAt statements label rest
rest_at first label places statements rest stand same =
    rest_by (nat_le first label) first label places statements rest stand refl same
