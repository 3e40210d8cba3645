use Rattle.types.proofs.Prelude.{◌≡◌, map, target_view, targets_for}
use Rattle.typed_expressions.specs.internal.Views.{destination_view}
use Rattle.types.proofs.statements.targets_of.Given as goal

abbrev pub invariant-loop-place : goal.invariant-loop-place
invariant-loop-place l = map target_view l.targets.items ≡ targets_for (map destination_view l.yielded) l.from
