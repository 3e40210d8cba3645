-- Steps that are being added one after another.
use Rattle.std.specs.Prelude.{◌≡◌, List, ◌++◌}
use Rattle.statements8080.specs.declared.plan.Plan.{Plan}
use Rattle.statements8080.specs.declared.plan.Planned.{Planned}

-- appending the remaining steps to the plan `now` gives the plan `before` with the whole list appended; no
-- label is taken
pub record IsAdding (before now : Plan) (whole left : List Planned) : Type 0 where
  pub added : now.list.items ++ left ≡ before.list.items ++ whole
  pub first : now.first_label ≡ before.first_label
  pub taken : now.taken ≡ before.taken
