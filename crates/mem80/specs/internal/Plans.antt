-- What plans say.
use Rattle.std.specs.Prelude.{ℕ}
use Rattle.mem80.specs.declared.range.Range.{Range}
use Rattle.mem80.specs.Range.{address_past}
use Rattle.mem80.specs.declared.plan.Plan.{Plan}

-- the bytes of the stack
abbrev pub stack_range : Plan → Range
stack_range plan = record { start = plan.stack; len = plan.stack_size }

-- the address just past the stack
abbrev pub stack_end_of : Plan → ℕ
stack_end_of plan = address_past (stack_range plan)
