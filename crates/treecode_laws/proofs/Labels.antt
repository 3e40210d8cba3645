-- The labels of a body have numbers of their own: those of its lists are those that stand in its statements.
use Rattle.std.proofs.{Common.{◌≡◌, ◌≢◌, ◌⊎◌, inl, inr, ℕ, zero, suc, ◌+◌, ◌<◌, ◌≤◌, ◌==◌, Bool, true, false, List, [], ◌∷◌, ◌++◌, length, slice_get, slice_index_or, Some, arith, refl, sym, ap, subst, ◌∙◌, eq-eqb, ne_eqb}, lemmas.Bool.{cases_lt, eqb-true}, lemmas.List.Kept.{AllPairs-cons}, lemmas.Option.{same_Some}}
use Rattle.std.specs.Prelude.{AllPairs, flat_map}
use Rattle.typed_trees.specs.Jumps.{IsNoLabel, JumpsAreSound, LabelsStand, ListStands, ListsStand, ListsStandInCases, ListsStandInElse, ListsStandInStatements, labels_in, labels_in_else, labels_in_list, labels_in_module, labels_in_procedure, labels_in_statements}
use Rattle.typed_trees.specs.TypedTrees.{TypedModule, TypedProcedure, TypedStatement, LabelStatement, IfStatement, DoStatement, LoopStatement, CaseStatement, TypedElse, NoElse, ElseStatement, TypedStatements, NoStatements, MoreStatements, TypedList, ListOf}
use Rattle.treecode.specs.internal.Lowered.{labels_numbered, labels_numbered_in_else, labels_numbered_in_list, labels_numbered_in_statements, numbers_from}

-- how often a number stands in a list
abbrev once : Bool → ℕ
once true = 1
once false = 0

abbrev times : (number : ℕ) → List ℕ → ℕ
times number [] = 0
times number (first ∷ others) = once (number == first) + times number others

times_both : (number : ℕ) (one other : List ℕ)
    → times number (one ++ other) ≡ times number one + times number other
times_both number [] other = omega arith
times_both number (first ∷ one) other =
    let rest = times_both number one other in omega (arith, rest)

module _ (n : ℕ) where
  -- one that is no label, before others
  first_same : (first : TypedStatement) (others : TypedStatements) (label : ℕ) (places : List ℕ)
      → times n (labels_in first) ≡ times n (labels_numbered first)
      → times n (labels_in_statements others)
      ≡ times n (numbers_from label places) + times n (labels_numbered_in_statements others)
      → times n (labels_in first ++ labels_in_statements others)
      ≡ times n (numbers_from label places)
      + times n (labels_numbered first ++ labels_numbered_in_statements others)
  first_same first others label places one rest =
      let left = times_both n (labels_in first) (labels_in_statements others) in
      let right = times_both n (labels_numbered first) (labels_numbered_in_statements others) in
      omega (arith, one, rest, left, right)

  mutual
    statement_same : (statement : TypedStatement) → IsNoLabel statement → ListsStand statement
        → times n (labels_in statement) ≡ times n (labels_numbered statement)
    statement_same (LabelStatement label) none stand = absurd none
    statement_same (IfStatement condition body otherwise) none stand =
        let one = statement_same body stand.0 stand.1 in
        let other = else_same otherwise stand.2 in
        let first = times_both n (labels_in body) (labels_in_else otherwise) in
        let second = times_both n (labels_numbered body) (labels_numbered_in_else otherwise) in
        omega (arith, one, other, first, second)
    statement_same (DoStatement body) none stand = list_same body stand
    statement_same (LoopStatement head body) none stand = list_same body stand
    statement_same (CaseStatement choice body) none stand = cases_same body stand
    statement_same statement none stand = refl

    else_same : (otherwise : TypedElse) → ListsStandInElse otherwise
        → times n (labels_in_else otherwise) ≡ times n (labels_numbered_in_else otherwise)
    else_same NoElse stand = refl
    else_same (ElseStatement statement) stand = statement_same statement stand.0 stand.1

    cases_same : (statements : TypedStatements) → ListsStandInCases statements
        → times n (labels_in_statements statements) ≡ times n (labels_numbered_in_statements statements)
    cases_same NoStatements stand = refl
    cases_same (MoreStatements first others) stand =
        let one = statement_same first stand.0 stand.1 in
        let other = cases_same others stand.2 in
        let left = times_both n (labels_in first) (labels_in_statements others) in
        let right = times_both n (labels_numbered first) (labels_numbered_in_statements others) in
        omega (arith, one, other, left, right)

    statements_same : (statements : TypedStatements) (label place : ℕ) (places : List ℕ)
        → LabelsStand label place places statements
        → ListsStandInStatements statements
        → times n (labels_in_statements statements)
        ≡ times n (numbers_from label places) + times n (labels_numbered_in_statements statements)
    statements_same NoStatements label place places labels stand =
        let none = ap (λ (places : List ℕ). times n (numbers_from label places)) labels in
        omega (arith, none)
    statements_same (MoreStatements (LabelStatement number) others) label place [] labels stand =
        absurd labels
    statements_same (MoreStatements (LabelStatement number) others) label place
        (first ∷ places) labels stand =
        let next : label + 1 ≡ suc label = omega arith in
        let rest =
        subst (λ (one : ℕ).
        times n (labels_in_statements others)
        ≡ times n (numbers_from one places) + times n (labels_numbered_in_statements others)) next
        (statements_same others (label + 1) (place + 1) places labels.2 stand.1) in
        let same = ap (λ (one : ℕ). once (n == one)) labels.0 in
        omega (arith, rest, same)
    statements_same (MoreStatements statement others) label place [] labels stand =
        first_same statement others label [] (statement_same statement tt stand.0)
        (statements_same others label (place + 1) [] labels stand.1)
    statements_same (MoreStatements statement others) label place (first ∷ places) labels stand =
        first_same statement others label (first ∷ places) (statement_same statement tt stand.0)
        (statements_same others label (place + 1) (first ∷ places) labels stand.1)

    list_same : (list : TypedList) → ListStands list
        → times n (labels_in_list list) ≡ times n (labels_numbered_in_list list)
    list_same (ListOf first places statements) stand =
        statements_same statements first 0 places stand.0 stand.1
        ∙ sym (times_both n (numbers_from first places) (labels_numbered_in_statements statements))

-- numbers that differ stand once at most, and numbers that stand once at most differ
absent : (number : ℕ) (numbers : List ℕ)
    → ((index : ℕ) (d : ℕ) → index < length numbers → number ≢ slice_index_or numbers index d)
    → times number numbers ≡ 0
absent number [] differ = refl
absent number (first ∷ others) differ =
    let here : once (number == first) ≡ 0 = ap once (ne_eqb number first (differ 0 number (omega arith))) in
    let rest = absent number others (λ index d below. differ (suc index) d (omega (arith, below))) in
    omega (arith, here, rest)

few_by : (test : Bool) (number first : ℕ) (others : List ℕ)
    → (number == first) ≡ test
    → times number others ≤ 1
    → (number ≡ first → times number others ≡ 0)
    → times number (first ∷ others) ≤ 1
few_by true number first others is rest none =
    let here : once (number == first) ≡ 1 = ap once is in
    let zero_more = none (eqb-true number first is) in
    omega (arith, here, zero_more)
few_by false number first others is rest none =
    let here : once (number == first) ≡ 0 = ap once is in
    omega (arith, here, rest)

few : (number : ℕ) (numbers : List ℕ) → AllPairs (λ (one other : ℕ). one ≢ other) numbers
    → times number numbers ≤ 1
few number [] differ = omega arith
few number (first ∷ others) differ =
    few_by (number == first) number first others refl
    (few number others (λ i j d before within. differ (suc i) (suc j) d (omega (arith, before))
    (omega (arith, within))))
    (λ same. absent number others
    (λ index d below other. differ 0 (suc index) d (omega arith) (omega (arith, below)) (sym same ∙ other)))

there_once : (number : ℕ) (numbers : List ℕ) (index d : ℕ)
    → index < length numbers → slice_index_or numbers index d ≡ number → 1 ≤ times number numbers
there_once number [] index d below same = absurd (omega (arith, below))
there_once number (first ∷ others) zero d below same =
    let here : once (number == first) ≡ 1 = ap once (eq-eqb number first (sym same)) in
    omega (arith, here)
there_once number (first ∷ others) (suc index) d below same =
    let rest = there_once number others index d (omega (arith, below)) same in
    omega (arith, rest)

pub differ_of_few : (numbers : List ℕ) → ((number : ℕ) → times number numbers ≤ 1)
    → AllPairs (λ (one other : ℕ). one ≢ other) numbers
differ_of_few [] fews = λ i j d before within. absurd (omega (arith, within))
differ_of_few (first ∷ others) fews =
    AllPairs-cons (λ (one other : ℕ). one ≢ other) first others
    (λ index d below same.
    let once_here : once (first == first) ≡ 1 = ap once (eq-eqb first first refl) in
    let again = there_once first others index d below (sym same) in
    let most = fews first in
    absurd (omega (arith, once_here, again, most)))
    (differ_of_few others (λ number.
    let most = fews number in omega (arith, most)))

-- those of one procedure are some of those of all
in_one : (number index : ℕ) (procedures : List TypedProcedure) (procedure : TypedProcedure)
    → slice_get procedures index ≡ Some procedure
    → times number (labels_in_procedure procedure) ≤ times number (flat_map labels_in_procedure procedures)
in_one number index [] procedure there = let bad : ⊥ = cc in absurd bad
in_one number zero (first ∷ others) procedure there =
    let same : first ≡ procedure = cc in
    let both = times_both number (labels_in_procedure first) (flat_map labels_in_procedure others) in
    let its = ap (λ (one : TypedProcedure). times number (labels_in_procedure one)) same in
    omega (arith, both, its)
in_one number (suc index) (first ∷ others) procedure there =
    let both = times_both number (labels_in_procedure first) (flat_map labels_in_procedure others) in
    let rest = in_one number index others procedure there in
    omega (arith, both, rest)

pub procedure_labels_differ : (typed : TypedModule) (index : ℕ) (procedure : TypedProcedure)
    → JumpsAreSound typed
    → ListStands procedure.body
    → slice_get typed.procedures index ≡ Some procedure
    → AllPairs (λ (one other : ℕ). one ≢ other) (labels_numbered_in_list procedure.body)
procedure_labels_differ typed index procedure jumps stands there =
    differ_of_few (labels_numbered_in_list procedure.body) (λ number.
    let all = few number (labels_in_module typed) jumps.labels in
    let both =
    times_both number (flat_map labels_in_procedure typed.procedures) (labels_in_procedure typed.main) in
    let one = in_one number index typed.procedures procedure there in
    let same = list_same number procedure.body stands in
    omega (arith, all, both, one, same))

pub main_labels_differ : (typed : TypedModule)
    → JumpsAreSound typed
    → AllPairs (λ (one other : ℕ). one ≢ other) (labels_numbered_in_list typed.main.body)
main_labels_differ typed jumps =
    differ_of_few (labels_numbered_in_list typed.main.body) (λ number.
    let all = few number (labels_in_module typed) jumps.labels in
    let both =
    times_both number (flat_map labels_in_procedure typed.procedures) (labels_in_procedure typed.main) in
    let same = list_same number typed.main.body jumps.main.stands in
    omega (arith, all, both, same))

three_ways : (one other : ℕ) → (one < other) ⊎ ((other < one) ⊎ (one ≡ other))
three_ways one other = by (cases_lt one other) (cases_lt other one)
  where
    by : (one < other) ⊎ (other ≤ one) → (other < one) ⊎ (one ≤ other)
        → (one < other) ⊎ ((other < one) ⊎ (one ≡ other))
    by (inl less) second = inl less
    by (inr first) (inl more) = inr (inl more)
    by (inr first) (inr second) = inr (inr (omega (arith, first, second)))

-- numbers that differ: one number stands at one index
label_differs :
    (labels : List ℕ) (one other label : ℕ)
    → AllPairs (λ (a b : ℕ). a ≢ b) labels
    → slice_get labels one ≡ Some label
    → slice_get labels other ≡ Some label
    → one < other
    → ⊥
label_differs labels one other label differ first second less =
    differ one other 0 less (position labels other label second)
    (at_position labels one label first ∙ sym (at_position labels other label second))
  where
    position : (xs : List ℕ) (i x : ℕ) → slice_get xs i ≡ Some x → i < length xs
    position [] i x is = let never : ⊥ = cc in absurd never
    position (y ∷ xs) zero x is = omega arith
    position (y ∷ xs) (suc i) x is = let rest = position xs i x is in omega (arith, rest)

    at_position : (xs : List ℕ) (i x : ℕ) → slice_get xs i ≡ Some x → slice_index_or xs i 0 ≡ x
    at_position [] i x is = let never : ⊥ = cc in absurd never
    at_position (y ∷ xs) zero x is = same_Some y x is
    at_position (y ∷ xs) (suc i) x is = at_position xs i x is

pub same_number :
    (labels : List ℕ) (one other label : ℕ)
    → AllPairs (λ (a b : ℕ). a ≢ b) labels
    → slice_get labels one ≡ Some label
    → slice_get labels other ≡ Some label
    → one ≡ other
same_number labels one other label differ first second = by (three_ways one other)
  where
    by : (one < other) ⊎ ((other < one) ⊎ (one ≡ other)) → one ≡ other
    by (inl less) = absurd (label_differs labels one other label differ first second less)
    by (inr (inl more)) = absurd (label_differs labels other one label differ second first more)
    by (inr (inr same)) = same

-- so no label of a body has two numbers
pub procedure_label_has_one_number : (typed : TypedModule) (index : ℕ) (procedure : TypedProcedure)
    → JumpsAreSound typed
    → ListStands procedure.body
    → slice_get typed.procedures index ≡ Some procedure
    → (one other label : ℕ)
    → slice_get (labels_numbered_in_list procedure.body) one ≡ Some label
    → slice_get (labels_numbered_in_list procedure.body) other ≡ Some label
    → one ≡ other
procedure_label_has_one_number typed index procedure jumps stands there one other label first second =
    same_number (labels_numbered_in_list procedure.body) one other label
    (procedure_labels_differ typed index procedure jumps stands there) first second

pub main_label_has_one_number : (typed : TypedModule)
    → JumpsAreSound typed
    → (one other label : ℕ)
    → slice_get (labels_numbered_in_list typed.main.body) one ≡ Some label
    → slice_get (labels_numbered_in_list typed.main.body) other ≡ Some label
    → one ≡ other
main_label_has_one_number typed jumps one other label first second =
    same_number (labels_numbered_in_list typed.main.body) one other label
    (main_labels_differ typed jumps) first second
