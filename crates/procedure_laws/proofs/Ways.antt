-- How a body can be left: no jump leaves one in which each GOTO goes to a label of a list around it; its end
-- is reached only where its form and known conditions let it be; and a main program does not return.
use Rattle.procedure_laws.proofs.Prelude.{◌≡◌, ℕ, zero, suc, ◌+◌, ◌-◌, ◌≤◌, ◌==◌, Bool, true, false, not, List, [], ◌∷◌, length, slice_get, nat_le, nat_lt, Option, Some, None, cond, Any, option_map, arith, refl, sym, ap, subst, ◌∙◌, LabelsOf, IsAmongLabels, labels_of_list, IsClosed, JumpsStay, JumpsStayInElse, JumpsStayInStatements, JumpsStayInList, LabelsStand, ListsStand, ListsStandInCases, ListsStandInElse, ListsStandInStatements, ListStands, TypedExpression, TypedHead, TypedIteration, TypedModule, TypedStatement, LabelStatement, NullStatement, AssignmentStatement, CallStatement, MoveStatement, ReturnStatement, HaltStatement, GotoStatement, IfStatement, DoStatement, LoopStatement, CaseStatement, TypedElse, NoElse, ElseStatement, TypedStatements, NoStatements, MoreStatements, TypedList, ListOf, IsReturned, TypesHold, TypesHoldIn, TypesHoldInElse, TypesHoldInHead, TypesHoldInList, TypesHoldInStatements, Within, WithinMain, WithinProcedure, Storage, as_type, is_true, values_of, Surroundings, Later, LoopTurn, after_turn, begun_loop, called_for, callee_in, caught_in, done, done_all, done_case, done_else, done_list, dropped, going_on, iterated, later_by, moved, read_variable, rest_from, rest_of, returned, step_value, stepped, stored_in_each, turn_of, turned_loop, value, values, write_variable, Outcome, Gave, Stopped, then_do, taking_one, Flow, Onward, Returned, Jumped, Place, Number, known_number, known_value, ends_by, head_ends, reaches_end, reaches_end_of_else, reaches_end_of_list, reaches_end_of_statements, Nodes, HaveOperands, Resolves, have_operands, place_of_number, dropped_types, or_left, or_right, dropped_lists, jumps_dropped, outer_label}
use Rattle.typed_trees.specs.TypedTrees.{WhileHead, CountHead}
use Rattle.meaning.specs.{Meaning.{landed}, Outcomes.{State}}
use Rattle.treecode.specs.declared.place.Home.{Home}
use Rattle.treecode_laws.proofs.Operands.{known_gives}

-- whether a part can return
abbrev pub may_return : Within → Bool
may_return (WithinProcedure number result) = true
may_return WithinMain = false

-- the ways that lead out of a part: whether its end can be reached, whether it can return, and the labels
-- that it can jump to
pub record Ways : Type 0 where
  pub reaches : Bool
  pub returns : Bool
  pub labels : List LabelsOf

-- a flow leads out by one of them
abbrev pub LeavesBy : Ways → Flow → Type 0
LeavesBy ways Onward = ways.reaches ≡ true
LeavesBy ways (Returned found) = ways.returns ≡ true
LeavesBy ways (Jumped label) = Any (IsAmongLabels label) ways.labels

abbrev pub IsLeftBy : Ways → Outcome Flow → Type 0
IsLeftBy ways (Gave flow t) = LeavesBy ways flow
IsLeftBy ways (Stopped why t) = Unit {0}

-- there is a statement
abbrev IsSome : TypedStatements → Type 0
IsSome NoStatements = ⊥
IsSome (MoreStatements first others) = Unit {0}

left_then : {A : Type 0} (ways : Ways) (outcome : Outcome A) (go : A → State → Outcome Flow)
    → ((found : A) (t : State) → IsLeftBy ways (go found t)) → IsLeftBy ways (then_do outcome go)
left_then ways (Gave found t) go rest = rest found t
left_then ways (Stopped why t) go rest = tt

left_flow : (inner ways : Ways) (outcome : Outcome Flow) (go : Flow → State → Outcome Flow)
    → IsLeftBy inner outcome
    → ((flow : Flow) (t : State) → LeavesBy inner flow → IsLeftBy ways (go flow t))
    → IsLeftBy ways (then_do outcome go)
left_flow inner ways (Gave flow t) go first rest = rest flow t first
left_flow inner ways (Stopped why t) go first rest = tt

left_if : (ways : Ways) (test : Bool) (one other : Outcome Flow)
    → (test ≡ true → IsLeftBy ways one) → (test ≡ false → IsLeftBy ways other)
    → IsLeftBy ways (cond test one other)
left_if ways true one other first second = first refl
left_if ways false one other first second = second refl

left_taking : (ways : Ways) (s : State) (go : State → Outcome Flow)
    → ((t : State) → IsLeftBy ways (go t)) → IsLeftBy ways (taking_one s go)
left_taking ways s go rest =
    left_if ways (s.budget == 0) _ _ (λ same. tt) (λ same. rest (record s { budget = s.budget - 1 }))

-- more ways
left_wider : (one ways : Ways) (outcome : Outcome Flow)
    → ((flow : Flow) → LeavesBy one flow → LeavesBy ways flow)
    → IsLeftBy one outcome → IsLeftBy ways outcome
left_wider one ways (Gave flow t) wider left = wider flow left
left_wider one ways (Stopped why t) wider left = tt

reached : (reaches other returns : Bool) (labels : List LabelsOf) (flow : Flow)
    → (reaches ≡ true → other ≡ true)
    → LeavesBy (record { reaches = reaches; returns = returns; labels = labels }) flow
    → LeavesBy (record { reaches = other; returns = returns; labels = labels }) flow
reached reaches other returns labels Onward more leaves = more leaves
reached reaches other returns labels (Returned found) more leaves = leaves
reached reaches other returns labels (Jumped label) more leaves = leaves

-- what is left of a list: it begins with a label
record IsRest (label first : ℕ) (places : List ℕ) (body rest : TypedStatements) : Type 0 where
  place : ℕ
  found : slice_get places (label - first) ≡ Some place
  is : dropped place body ≡ rest

rest_is : (test : Bool) (label first : ℕ) (places : List ℕ) (found : Option ℕ) (body rest : TypedStatements)
    → slice_get places (label - first) ≡ found
    → cond test (option_map (λ place. dropped place body) found) None ≡ Some rest
    → IsRest label first places body rest
rest_is true label first places (Some place) body rest at same =
    record { place = place; found = at; is = cc }
rest_is true label first places None body rest at same = let bad : ⊥ = cc in absurd bad
rest_is false label first places found body rest at same = let bad : ⊥ = cc in absurd bad

-- a label stands at its place
record StandsThere (from place : ℕ) (body : TypedStatements) : Type 0 where
  low : from ≤ place
  some : IsSome (dropped (place - from) body)

one_on : (from place : ℕ) → from + 1 ≤ place → suc (place - (from + 1)) ≡ place - from
one_on from place low = omega (arith, low)

after_one : (from place : ℕ) (first : TypedStatement) (others : TypedStatements)
    → StandsThere (from + 1) place others → StandsThere from place (MoreStatements first others)
after_one from place first others there =
    let low = there.low in
    record {
      low = omega (arith, low);
      some =
          subst (λ (count : ℕ). IsSome (dropped count (MoreStatements first others)))
          (one_on from place low) there.some;
    }

none_there : (from other : ℕ) → from ≡ other → other - from ≡ 0
none_there from other same = omega (arith, same)

from_zero : (place : ℕ) → place - 0 ≡ place
from_zero place = omega arith

stands_there : (label from : ℕ) (places : List ℕ) (body : TypedStatements) (index place : ℕ)
    → LabelsStand label from places body
    → slice_get places index ≡ Some place
    → StandsThere from place body
stands_there label from places NoStatements index place stands found =
    absurd (nothing places index stands found)
  where
    nothing : (none : List ℕ) (index : ℕ) → none ≡ [] → slice_get none index ≡ Some place → ⊥
    nothing [] index same there = let bad : None ≡ Some place = there in cc
    nothing (first ∷ others) index same there = cc
stands_there label from [] (MoreStatements (LabelStatement number) others) index place stands found =
    absurd stands
stands_there label from (first ∷ places) (MoreStatements (LabelStatement number) others) zero
    place stands found =
    let here : first ≡ from = stands.1 in
    let same : first ≡ place = cc in
    record {
      low = omega (arith, here, same);
      some =
          subst (λ (count : ℕ). IsSome (dropped count (MoreStatements (LabelStatement number) others)))
          (sym (none_there from place (sym here ∙ same))) tt;
    }
stands_there label from (first ∷ places) (MoreStatements (LabelStatement number) others) (suc index)
    place stands found =
    after_one from place (LabelStatement number) others
    (stands_there (label + 1) (from + 1) places others index place stands.2 found)
stands_there label from places (MoreStatements statement others) index place stands found =
    after_one from place statement others
    (stands_there label (from + 1) places others index place stands found)

-- whether the end of a list is reached from a label on, which there is, is whether its end is reached
reaches_rest : (starts : List Home) (storage : Storage) (before other : Bool) (count : ℕ)
    (body : TypedStatements)
    → IsSome (dropped count body)
    → reaches_end_of_statements starts storage other (dropped count body)
    ≡ reaches_end_of_statements starts storage before body
reaches_rest starts storage before other zero NoStatements some = absurd some
reaches_rest starts storage before other zero (MoreStatements first others) some = refl
reaches_rest starts storage before other (suc count) NoStatements some = absurd some
reaches_rest starts storage before other (suc count) (MoreStatements first others) some =
    reaches_rest starts storage (reaches_end starts storage first) other count others some

module _ (typed : TypedModule) (within : Within) (nodes : Nodes) (storage : Storage) (address : Place → ℕ)
    (around : Surroundings) (resolves : Resolves around nodes.homes storage address)
    (lists : length storage.lists ≡ length typed.constants.lists) where
  abbrev by : (reaches : Bool) → List LabelsOf → Ways
  by reaches labels = record { reaches = reaches; returns = may_return within; labels = labels }

  -- what is true of a list
  pub record IsGood (labels : List LabelsOf) (list : TypedList) : Type 0 where
    pub jumps : JumpsStayInList labels list
    pub stands : ListStands list
    pub types : TypesHoldInList typed within list

  pub record LaterIsLeft (later : Later) : Type 0 where
    pub again : (labels : List LabelsOf) (head : TypedHead) (body : TypedList) (s : State)
        → IsGood labels body
        → TypesHoldInHead typed within head
        → IsLeftBy (by (head_ends nodes.homes storage head) labels)
        (later.again (LoopTurn head body) around s)
    pub onto : (labels : List LabelsOf) (list : TypedList) (rest : TypedStatements) (label : ℕ) (s : State)
        → IsGood labels list
        → rest_from label list ≡ Some rest
        → IsLeftBy (by (reaches_end_of_list nodes.homes storage true list) labels)
        (later.onto list rest around s)

  module _ (later : Later) (left : LaterIsLeft later) where
    abbrev starts : List Home
    starts = nodes.homes

    returns : (expression : Option TypedExpression) (labels : List LabelsOf) (s : State)
        → IsReturned typed within expression
        → IsLeftBy (by false labels) (returned later around expression s)
    returns expression labels s is = by_within within expression is
      where
        by_within : (of : Within) (expression : Option TypedExpression)
            → IsReturned typed of expression
            → IsLeftBy (record { reaches = false; returns = may_return of; labels = labels })
            (returned later around expression s)
        by_within WithinMain expression is = absurd is
        by_within (WithinProcedure number result) None is = refl
        by_within (WithinProcedure number result) (Some expression) is =
            left_then (record { reaches = false; returns = true; labels = labels })
            (value later around expression s) _
            (λ found t. refl)

    lands : (first label : ℕ) (places : List ℕ) (body : TypedStatements) (labels : List LabelsOf)
        (found : Option TypedStatements) (t : State)
        → rest_from label (ListOf first places body) ≡ found
        → IsGood labels (ListOf first places body)
        → Any (IsAmongLabels label) (labels_of_list first places ∷ labels)
        → IsLeftBy (by (reaches_end_of_list starts storage true (ListOf first places body)) labels)
        (landed later around (ListOf first places body) label found t)
    lands first label places body labels None t is good among =
        outer_label first label places body labels is among
    lands first label places body labels (Some rest) t is good among =
        left.onto labels (ListOf first places body) rest label t good is

    catches : (first : ℕ) (places : List ℕ) (body : TypedStatements) (labels : List LabelsOf) (flow : Flow)
        (t : State)
        → IsGood labels (ListOf first places body)
        → LeavesBy (by (reaches_end_of_list starts storage true (ListOf first places body))
        (labels_of_list first places ∷ labels)) flow
        → IsLeftBy (by (reaches_end_of_list starts storage true (ListOf first places body)) labels)
        (caught_in later around (ListOf first places body) flow t)
    catches first places body labels Onward t good leaves = leaves
    catches first places body labels (Returned found) t good leaves = leaves
    catches first places body labels (Jumped label) t good leaves =
        lands first label places body labels (rest_from label (ListOf first places body)) t refl good leaves

    turns : (labels : List LabelsOf) (head : TypedHead) (body : TypedList) (other : Bool)
        (flow : Flow) (t : State)
        → IsGood labels body
        → TypesHoldInHead typed within head
        → LeavesBy (by other labels) flow
        → IsLeftBy (by (head_ends starts storage head) labels)
        (after_turn later around (LoopTurn head body) flow t)
    turns labels head body other Onward t good types leaves = left.again labels head body t good types
    turns labels head body other (Returned found) t good types leaves = leaves
    turns labels head body other (Jumped label) t good types leaves = leaves

    steps_left : (labels : List LabelsOf) (head : TypedIteration) (body : TypedList)
        (other : Bool) (flow : Flow)
        (t : State)
        → IsGood labels body
        → TypesHoldInHead typed within (CountHead head)
        → LeavesBy (by other labels) flow
        → IsLeftBy (by true labels) (stepped later around head body flow t)
    steps_left labels head body other Onward t good types leaves =
        left_then (by true labels) (step_value later around head.step t) _
        (λ step u. left_then (by true labels) (read_variable around head u) _
        (λ found v.
        left_then (by true labels) (write_variable around head (as_type head.scalar (found + step)) v) _
        (λ done w.
        left_if (by true labels) (nat_lt (found + step) (values_of head.scalar))
        (later.again (LoopTurn (CountHead head) body) around w) (Gave Onward w)
        (λ same. left.again labels (CountHead head) body w good types) (λ same. refl))))
    steps_left labels head body other (Returned found) t good types leaves = leaves
    steps_left labels head body other (Jumped label) t good types leaves = leaves

    iterates : (labels : List LabelsOf) (head : TypedIteration) (body : TypedList) (s : State)
        → IsGood labels body
        → TypesHoldInHead typed within (CountHead head)
        → ((t : State)
        → IsLeftBy (by (reaches_end_of_list starts storage true body) labels) (done_list later around body t))
        → IsLeftBy (by true labels) (iterated later around head body (λ v. done_list later around body v) s)
    iterates labels head body s good types body_left =
        left_then (by true labels) (value later around head.last s) _
        (λ last t. left_then (by true labels) (read_variable around head t) _
        (λ found u.
        left_if (by true labels) (nat_lt last found) (Gave Onward u)
        (taking_one u (λ v. then_do (done_list later around body v) (stepped later around head body)))
        (λ same. refl)
        (λ same.
        left_taking (by true labels) u
        (λ v. then_do (done_list later around body v) (stepped later around head body))
        (λ v.
        left_flow (by (reaches_end_of_list starts storage true body) labels) (by true labels)
        (done_list later around body v) (stepped later around head body) (body_left v)
        (λ flow w leaves.
        steps_left labels head body (reaches_end_of_list starts storage true body) flow w good types
        leaves)))))

    -- a condition that is known gives its number
    known_condition : (condition : TypedExpression) (n : ℕ)
        → TypesHold typed within condition
        → known_number (known_value starts storage condition) ≡ Some n
        → (s : State)
        → value later around condition s ≡ Gave n s
    known_condition condition n types is s =
        known_gives around nodes storage address resolves later condition (Number n)
        (subst (λ (count : ℕ). HaveOperands count condition) (sym lists)
        (have_operands typed within condition types))
        (place_of_number (known_value starts storage condition) n is) s
        ∙ ap (λ (k : ℕ). Gave k s) (resolves.number n)

    -- what follows a turn of a DO WHILE, and the turn with it
    abbrev next : TypedExpression → TypedList → Flow → State → Outcome Flow
    next condition body flow t = after_turn later around (LoopTurn (WhileHead condition) body) flow t

    abbrev one_turn : TypedExpression → TypedList → State → Outcome Flow
    one_turn condition body t = then_do (done_list later around body t) (next condition body)

    whiles : (condition : TypedExpression) (body : TypedList) (labels : List LabelsOf) (s : State)
        (known : Option ℕ)
        → known_number (known_value starts storage condition) ≡ known
        → IsGood labels body
        → TypesHold typed within condition
        → ((t : State)
        → IsLeftBy (by (reaches_end_of_list starts storage true body) labels) (done_list later around body t))
        → IsLeftBy (by (ends_by known) labels)
        (turned_loop later around (WhileHead condition) body (λ t. done_list later around body t) s)
    whiles condition body labels s None known good types body_left =
        left_then (by true labels) (value later around condition s) _
        (λ found t.
        left_if (by true labels) (is_true found) (taking_one t (one_turn condition body)) (Gave Onward t)
        (λ same.
        left_taking (by true labels) t (one_turn condition body)
        (λ u.
        left_flow (by (reaches_end_of_list starts storage true body) labels) (by true labels)
        (done_list later around body u) (next condition body) (body_left u)
        (λ flow v leaves.
        left_wider (by (head_ends starts storage (WhileHead condition)) labels) (by true labels)
        (next condition body flow v)
        (λ flow leaves. reached (head_ends starts storage (WhileHead condition)) true
        (may_return within) labels flow (λ same. refl) leaves)
        (turns labels (WhileHead condition) body (reaches_end_of_list starts storage true body) flow v
        good types leaves))))
        (λ same. refl))
    whiles condition body labels s (Some n) known good types body_left =
        subst (λ (outcome : Outcome ℕ).
        IsLeftBy (by (not (is_true n)) labels)
        (then_do outcome
        (λ number t. cond (is_true number) (taking_one t (one_turn condition body)) (Gave Onward t))))
        (sym (known_condition condition n types known s))
        (by_test (is_true n) refl)
      where
        by_test : (test : Bool) → is_true n ≡ test
            → IsLeftBy (by (not test) labels)
            (cond test (taking_one s (one_turn condition body)) (Gave Onward s))
        by_test false same = refl
        by_test true same =
            left_taking (by false labels) s (one_turn condition body)
            (λ u.
            left_flow (by (reaches_end_of_list starts storage true body) labels) (by false labels)
            (done_list later around body u) (next condition body) (body_left u)
            (λ flow v leaves.
            subst (λ (test : Bool). IsLeftBy (by test labels) (next condition body flow v))
            (ap (λ (known : Option ℕ). ends_by known) known ∙ ap not same)
            (turns labels (WhileHead condition) body (reaches_end_of_list starts storage true body) flow v
            good types leaves)))

    -- a turn of a loop, and what comes before the first one
    turned_left : (labels : List LabelsOf) (head : TypedHead) (body : TypedList) (s : State)
        → IsGood labels body
        → TypesHoldInHead typed within head
        → ((t : State)
        → IsLeftBy (by (reaches_end_of_list starts storage true body) labels) (done_list later around body t))
        → IsLeftBy (by (head_ends starts storage head) labels)
        (turned_loop later around head body (λ t. done_list later around body t) s)
    turned_left labels (WhileHead condition) body s good types body_left =
        whiles condition body labels s (known_number (known_value starts storage condition)) refl good types
        body_left
    turned_left labels (CountHead head) body s good types body_left =
        iterates labels head body s good types body_left

    begun_left : (ways : Ways) (head : TypedHead) (turns : State → Outcome Flow) (s : State)
        → ((t : State) → IsLeftBy ways (turns t)) → IsLeftBy ways (begun_loop later around head turns s)
    begun_left ways (WhileHead condition) turns s rest = rest s
    begun_left ways (CountHead head) turns s rest =
        left_then ways (value later around head.first s) _
        (λ found t.
        left_then ways (write_variable around head (as_type head.scalar found) t) _ (λ done u. rest u))

    goes_on : (first : TypedStatement) (others : TypedStatements) (labels : List LabelsOf)
        (flow : Flow) (t : State)
        → LeavesBy (by (reaches_end starts storage first) labels) flow
        → IsLeftBy (by (reaches_end_of_statements starts storage true others) labels)
        (done_all later around others t)
        → IsLeftBy
        (by (reaches_end_of_statements starts storage (reaches_end starts storage first) others) labels)
        (going_on flow (λ u. done_all later around others u) t)
    goes_on first others labels Onward t leaves rest =
        subst (λ (before : Bool).
        IsLeftBy (by (reaches_end_of_statements starts storage before others) labels)
        (done_all later around others t))
        (sym leaves) rest
    goes_on first others labels (Returned found) t leaves rest = leaves
    goes_on first others labels (Jumped label) t leaves rest = leaves

    mutual
      statement_left : (statement : TypedStatement) (labels : List LabelsOf) (s : State)
          → JumpsStay labels statement
          → ListsStand statement
          → TypesHoldIn typed within statement
          → IsLeftBy (by (reaches_end starts storage statement) labels) (done later around statement s)
      statement_left (LabelStatement label) labels s jumps stand types = refl
      statement_left NullStatement labels s jumps stand types = refl
      statement_left (AssignmentStatement targets expression) labels s jumps stand types =
          left_then (by true labels) (value later around expression s) _
          (λ found t.
          left_then (by true labels) (stored_in_each later around targets found t) _ (λ done u. refl))
      statement_left (CallStatement procedure arguments) labels s jumps stand types =
          left_then (by true labels) (values later around arguments s) _
          (λ given t.
          left_then (by true labels) (called_for later (callee_in around procedure) given around t) _
          (λ found u. refl))
      statement_left (MoveStatement count source destination) labels s jumps stand types =
          left_then (by true labels) (value later around count s) _
          (λ bytes t. left_then (by true labels) (value later around source t) _
          (λ was u. left_then (by true labels) (value later around destination u) _
          (λ will v. left_then (by true labels) (moved around.program bytes was will v) _ (λ done w. refl))))
      statement_left (ReturnStatement expression) labels s jumps stand types =
          returns expression labels s types
      statement_left HaltStatement labels s jumps stand types = tt
      statement_left (GotoStatement label) labels s jumps stand types =
          left_taking (by false labels) s (λ t. Gave (Jumped label) t) (λ t. jumps)
      statement_left (IfStatement condition body otherwise) labels s jumps stand types =
          left_then (by (reaches_end starts storage (IfStatement condition body otherwise)) labels)
          (value later around condition s) _
          (λ found t.
          left_if (by (reaches_end starts storage (IfStatement condition body otherwise)) labels)
          (is_true found)
          (done later around body t) (done_else later around otherwise t)
          (λ same.
          left_wider (by (reaches_end starts storage body) labels)
          (by (reaches_end starts storage (IfStatement condition body otherwise)) labels)
          (done later around body t)
          (λ flow leaves.
          reached (reaches_end starts storage body)
          (reaches_end starts storage (IfStatement condition body otherwise))
          (may_return within) labels flow
          (or_left (reaches_end starts storage body) (reaches_end_of_else starts storage otherwise)) leaves)
          (statement_left body labels t jumps.0 stand.1 types.1))
          (λ same.
          left_wider (by (reaches_end_of_else starts storage otherwise) labels)
          (by (reaches_end starts storage (IfStatement condition body otherwise)) labels)
          (done_else later around otherwise t)
          (λ flow leaves.
          reached (reaches_end_of_else starts storage otherwise)
          (reaches_end starts storage (IfStatement condition body otherwise)) (may_return within) labels flow
          (or_right (reaches_end starts storage body) (reaches_end_of_else starts storage otherwise)) leaves)
          (else_left otherwise labels t jumps.1 stand.2 types.2)))
      statement_left (DoStatement body) labels s jumps stand types = list_left body labels s jumps stand types
      statement_left (LoopStatement head body) labels s jumps stand types =
          begun_left (by (head_ends starts storage head) labels) head
          (turned_loop later around head body (λ t. done_list later around body t)) s
          (λ t.
          turned_left labels head body t (record { jumps = jumps; stands = stand; types = types.1 }) types.0
          (λ u. list_left body labels u jumps stand types.1))
      statement_left (CaseStatement choice body) labels s jumps stand types =
          left_then (by true labels) (value later around choice s) _
          (λ found t. case_left body found labels t jumps stand types.1)

      else_left : (otherwise : TypedElse) (labels : List LabelsOf) (s : State)
          → JumpsStayInElse labels otherwise
          → ListsStandInElse otherwise
          → TypesHoldInElse typed within otherwise
          → IsLeftBy (by (reaches_end_of_else starts storage otherwise) labels)
          (done_else later around otherwise s)
      else_left NoElse labels s jumps stand types = refl
      else_left (ElseStatement statement) labels s jumps stand types =
          statement_left statement labels s jumps stand.1 types

      case_left : (body : TypedStatements) (found : ℕ) (labels : List LabelsOf) (s : State)
          → JumpsStayInStatements labels body
          → ListsStandInCases body
          → TypesHoldInStatements typed within body
          → IsLeftBy (by true labels) (done_case later around body found s)
      case_left NoStatements found labels s jumps stand types = refl
      case_left (MoreStatements first others) zero labels s jumps stand types =
          left_wider (by (reaches_end starts storage first) labels) (by true labels)
          (done later around first s)
          (λ flow leaves. reached (reaches_end starts storage first) true (may_return within) labels flow
          (λ same. refl) leaves)
          (statement_left first labels s jumps.0 stand.1 types.0)
      case_left (MoreStatements first others) (suc found) labels s jumps stand types =
          case_left others found labels s jumps.1 stand.2 types.1

      statements_left : (body : TypedStatements) (labels : List LabelsOf) (s : State)
          → JumpsStayInStatements labels body
          → ListsStandInStatements body
          → TypesHoldInStatements typed within body
          → IsLeftBy (by (reaches_end_of_statements starts storage true body) labels)
          (done_all later around body s)
      statements_left NoStatements labels s jumps stand types = refl
      statements_left (MoreStatements first others) labels s jumps stand types =
          left_flow (by (reaches_end starts storage first) labels)
          (by (reaches_end_of_statements starts storage (reaches_end starts storage first) others) labels)
          (done later around first s) _
          (statement_left first labels s jumps.0 stand.0 types.0)
          (λ flow t leaves.
          goes_on first others labels flow t leaves (statements_left others labels t jumps.1 stand.1 types.1))

      list_left : (list : TypedList) (labels : List LabelsOf) (s : State)
          → JumpsStayInList labels list
          → ListStands list
          → TypesHoldInList typed within list
          → IsLeftBy (by (reaches_end_of_list starts storage true list) labels)
          (done_list later around list s)
      list_left (ListOf first places body) labels s jumps stand types =
          left_flow
          (by (reaches_end_of_statements starts storage true body) (labels_of_list first places ∷ labels))
          (by (reaches_end_of_statements starts storage true body) labels)
          (done_all later around body s) (caught_in later around (ListOf first places body))
          (statements_left body (labels_of_list first places ∷ labels) s jumps stand.1 types)
          (λ flow t leaves.
          catches first places body labels flow t
          (record { jumps = jumps; stands = stand; types = types }) leaves)

    turn_left : (labels : List LabelsOf) (head : TypedHead) (body : TypedList) (s : State)
        → IsGood labels body
        → TypesHoldInHead typed within head
        → IsLeftBy (by (head_ends starts storage head) labels) (turn_of later (LoopTurn head body) around s)
    turn_left labels head body s good types =
        turned_left labels head body s good types
        (λ t. list_left body labels t good.jumps good.stands good.types)

    rest_left : (labels : List LabelsOf) (list : TypedList) (rest : TypedStatements) (label : ℕ) (s : State)
        → IsGood labels list
        → rest_from label list ≡ Some rest
        → IsLeftBy (by (reaches_end_of_list starts storage true list) labels)
        (rest_of later list rest around s)
    rest_left labels (ListOf first places body) rest label s good found =
        subst (λ (one : TypedStatements).
        IsLeftBy (by (reaches_end_of_statements starts storage true body) labels)
        (rest_of later (ListOf first places body) one around s))
        part.is
        (left_flow (by (reaches_end_of_statements starts storage true body)
        (labels_of_list first places ∷ labels))
        (by (reaches_end_of_statements starts storage true body) labels)
        (done_all later around (dropped part.place body) s)
        (caught_in later around (ListOf first places body))
        (subst (λ (reaches : Bool).
        IsLeftBy (by reaches (labels_of_list first places ∷ labels))
        (done_all later around (dropped part.place body) s))
        (reaches_rest starts storage true true part.place body some)
        (statements_left (dropped part.place body) (labels_of_list first places ∷ labels) s
        (jumps_dropped (labels_of_list first places ∷ labels) part.place body good.jumps)
        (dropped_lists part.place body good.stands.1)
        (dropped_types typed within part.place body good.types)))
        (λ flow t leaves. catches first places body labels flow t good leaves))
      where
        part : IsRest label first places body rest
        part = rest_is (nat_le first label) label first places (slice_get places (label - first))
            body rest refl found

        there : StandsThere 0 part.place body
        there = stands_there first 0 places body (label - first) part.place good.stands.0 part.found

        some : IsSome (dropped part.place body)
        some = subst (λ (count : ℕ). IsSome (dropped count body)) (from_zero part.place) there.some

  pub later_left : (count : ℕ) → LaterIsLeft (later_by count)
  later_left zero = record {
    again = λ labels head body s good types. tt;
    onto = λ labels list rest label s good found. tt;
  }
  later_left (suc count) = record {
    again = λ labels head body s good types. turn_left (later_by count) (later_left count) labels
        head body s good types;
    onto = λ labels list rest label s good found. rest_left (later_by count) (later_left count) labels list
        rest label s good found;
  }

  -- a closed body is left at its end, where that can be reached, or by a RETURN, where it is that of a
  -- procedure
  pub body_left : (count : ℕ) (body : TypedList) (s : State)
      → IsClosed body
      → ListStands body
      → TypesHoldInList typed within body
      → IsLeftBy (by (reaches_end_of_list nodes.homes storage true body) [])
      (done_list (later_by count) around body s)
  body_left count body s closed stands types =
      list_left (later_by count) (later_left count) body [] s closed stands types
