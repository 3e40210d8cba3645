-- The heads of loops: the weight of each, and the footprint of each loop.
use Rattle.measure_laws.proofs.Prelude.{◌≡◌, ℕ, ◌+◌, ◌*◌, ◌≤◌, ◌%◌, inl, inr, Bool, true, false, if◌then◌else◌, nat_eq, nat_lt, List, [], ◌∷◌, Option, Some, None, refl, arith, TypedExpression, TypedIteration, TypesHold, height_of_optional, Nop, Jump, Storage, ExpressionNumber, Range, Iteration, IsExpressionIn, IsIteration, Nodes, nodes_of, Facts, knowing, LabelNumber, label_of, Site, number, Planned, JumpOn, ListOf, Reaches, branch, forever_steps, tested_while_steps, while_steps, jump, mark, nth_label, plain, site_of, bytes_for, IfSome, BodyGround, HoldsWithinLevel, MayGo, PlanFootprint}
use Rattle.typed_trees.specs.Charge.{height_of_head}
use Rattle.typed_trees.specs.TypedTrees.{TypedHead}
use Rattle.typed_trees.specs.Weight as typed
use Rattle.typed_trees.specs.WellTyped.{TypesHoldInHead}
use Rattle.treecode.specs.declared.statement.LoopHead.{LoopHead}
use Rattle.treecode.specs.internal.Lowered.{IsCountHead, IsHead, IsWhileHead}
use Rattle.statements8080.specs.internal.Branches.{head_steps}
use Rattle.measure_laws.specs.internal.Bounds.{weight_of_expression, weight_of_head, weight_of_iteration}
use Rattle.measure_laws.proofs.{Bounds.Fitting.{both_fit, closed_fit, either_fit, finding_fits, less_fits, none_fit, then_fit}, Bounds.Iterations.{iteration_fits}, Bounds.Planning.{branch_fits, plain_fits, plains_fit, within_is}, Labels.Binding.{plan_later}}

-- the weight of a head in tree code is that in its tree
module _
    (nodes : Nodes) (storage : Storage)
    (expressions : (number : ExpressionNumber) (tree : TypedExpression)
    → IsExpressionIn nodes storage number tree
    → weight_of_expression nodes number ≡ typed.weight_of_expression tree)
    (iterations : (head : Iteration) (tree : TypedIteration)
    → IsIteration nodes storage head tree
    → weight_of_iteration nodes head ≡ typed.weight_of_iteration tree)
  where
    pub head_weighs :
        (head : LoopHead) (tree : TypedHead)
        → IsHead nodes storage head tree
        → weight_of_head nodes head ≡ typed.weight_of_head tree
    head_weighs head tree (IsWhileHead {condition = condition} {test = test} is) = expressions condition test is
    head_weighs head tree (IsCountHead {head = iteration} {tree = from} is) = iterations iteration from is

-- DO WHILE
module _
    {at : BodyGround} (site : Site) (condition : ExpressionNumber) (tested : ℕ)
    (branches : (label : LabelNumber) (sense : Bool) → MayGo at label.index
    → PlanFootprint at (branch condition label sense ∷ []) tested)
    (list : Range) (within : ℕ)
    (list_fits : PlanFootprint at (ListOf list ∷ []) within) (first : ℕ)
  where
    forever_fits : PlanFootprint at (forever_steps list first) (within + 6)
    forever_fits =
        closed_fit (λ own. less_fits
        (then_fit (plain_fits (plain Nop) refl tt)
        (then_fit (plain_fits (mark (label_of first)) refl tt)
        (then_fit list_fits
        (plains_fit (JumpOn (label_of first) ∷ Reaches false ∷ []) refl (own first (inr (inl refl)), tt)))))
        (omega arith))

    tested_while_fits : PlanFootprint at (tested_while_steps condition list first) (tested + within + 6)
    tested_while_fits =
        let skipped : List Planned =
        if nat_lt 0 list.count then jump Jump (nth_label first 1) ∷ [] else [] in
        closed_fit (λ own. less_fits
        (both_fit
        (either_fit (nat_lt 0 list.count)
        (plains_fit (jump Jump (nth_label first 1) ∷ []) refl
        (own (nth_label first 1).index (plan_later (nth_label first 1).index skipped _ (inr (inr (inl refl)))), tt))
        none_fit)
        (then_fit (plain_fits (mark (label_of first)) refl tt)
        (then_fit list_fits
        (then_fit (plain_fits (mark (nth_label first 1)) refl tt)
        (then_fit (branches (label_of first) true (own first (plan_later first skipped _ (inl refl))))
        (plains_fit (Reaches true ∷ []) refl tt))))))
        (omega arith))

    while_fits : PlanFootprint at (while_steps site condition list first) (tested + within + 6)
    while_fits =
        finding_fits (number site condition)
        (λ known there. either_fit (nat_eq (known % 2) 1) (less_fits forever_fits (omega arith)) none_fit)
        tested_while_fits

-- the step of an iteration, if it has one, is well typed
step_types :
    (at : BodyGround) (value : Option TypedExpression)
    → IfSome value (TypesHold at.source.typed at.source.within)
    → 2 * height_of_optional value ≤ at.level
    → IfSome value (HoldsWithinLevel at)
step_types at (Some value) is room = (is, room)
step_types at None is room = tt

-- a loop
module _
    (at : BodyGround) (facts : Facts) (range : Range) (within : ℕ)
    (list_fits : PlanFootprint at (ListOf range ∷ []) within) (first : ℕ)
  where
    pub loop_fits :
        {head : LoopHead} {tree : TypedHead}
        → IsHead (nodes_of at.body.tree.now) at.source.storage head tree
        → TypesHoldInHead at.source.typed at.source.within tree
        → 2 + 2 * height_of_head tree ≤ at.level
        → PlanFootprint at (head_steps at.body (knowing (site_of at.body) facts) head range first)
        (bytes_for (typed.weight_of_head tree) + within + 60)
    loop_fits (IsWhileHead {condition = condition} {test = test} is) types room =
        less_fits
        (while_fits (knowing (site_of at.body) facts) condition (bytes_for (typed.weight_of_expression test))
        (λ label sense to. branch_fits at condition label sense 0 (within_is is types (omega (arith, room))) to)
        range within list_fits first)
        (omega arith)
    loop_fits (IsCountHead {head = iteration} {tree = tree} is) types room =
        iteration_fits at facts iteration tree is (types.1, omega (arith, room)) (types.2, omega (arith, room))
        (step_types at tree.step types.3 (omega (arith, room))) (omega (arith, room)) range within list_fits first
