-- Targets that get a value, one after another.
use Rattle.measure_laws.proofs.Prelude.{◌≡◌, ℕ, suc, ◌+◌, ◌<◌, List, sum_by, Some, arith, sum_by-cons, ScalarType, TypedTarget, TypesHoldInTarget, TypesHoldInTargets, weight_of_target, Range, Target, AreTargets, IsTarget, MoreTargets, NoTargets, nodes_of, target_at, Planned, steps_from, bytes_for, BodyGround, PlanFootprint, height_of_target, height_of_targets, ◌*◌, ◌≤◌}
use Rattle.measure_laws.proofs.{Bounds.Ranges.{item_there}}
use Rattle.measure_laws.proofs.Bounds.Fitting.{both_fit, less_fits, none_fit}

-- the condition on the steps of the target at each index
abbrev pub EachFits :
    (at : BodyGround) → ScalarType → Range → (each : ℕ → List Planned) → Type 0
EachFits at scalar targets each =
    (bound index : ℕ) (target : Target) (tree : TypedTarget)
    → index < targets.count
    → target_at at.body.tree.now targets index ≡ Some target
    → IsTarget (nodes_of at.body.tree.now) at.source.storage bound target tree
    → TypesHoldInTarget at.source.typed at.source.within scalar tree
    → 2 + 2 * height_of_target tree ≤ at.level
    → PlanFootprint at (each index) (bytes_for (weight_of_target tree))

-- the remaining targets, from an index on
pub targets_fit :
    {at : BodyGround} {first left : ℕ} {trees : List TypedTarget}
    (scalar : ScalarType) (targets : Range) (each : ℕ → List Planned)
    → EachFits at scalar targets each
    → (index : ℕ)
    → first ≡ targets.first + index
    → index + left ≡ targets.count
    → AreTargets (nodes_of at.body.tree.now) at.source.storage first left trees
    → TypesHoldInTargets at.source.typed at.source.within scalar trees
    → 2 + 2 * height_of_targets trees ≤ at.level
    → PlanFootprint at (steps_from each index left) (bytes_for (sum_by weight_of_target trees))
targets_fit scalar targets each fit index place count NoTargets types room = none_fit
targets_fit {at = at} scalar targets each fit index place count
    (MoreTargets {first = first} {count = left} {target = target} {tree = tree} {others = more} found is
    others) types room =
    let less : index < targets.count = omega (arith, count) in
    let sum = sum_by-cons weight_of_target tree more in
    less_fits
    (both_fit
    (fit _ index target tree less (item_there at.body.tree.now.targets.items targets index first target place
    less found) is types.0
    (omega (arith, room)))
    (targets_fit scalar targets each fit (suc index) (omega (arith, place))
    (omega (arith, count)) others types.1
    (omega (arith, room))))
    (omega (arith, sum))
