use Rattle.commands.specs.internal.Places.{IsLineIn}
use Rattle.commands.proofs.{Prelude.{◌-◌, IfSome}, Steps.{SoFar}}
use Rattle.commands.proofs.image_runs.run_counted.Given as goal

-- so many steps were made, and the machine runs; the line is one of those that are told
abbrev pub invariant-loop-done : goal.invariant-loop-done
invariant-loop-done g l = SoFar l.fn.limit l.fn.machine l.done l.machine × IfSome l.line (IsLineIn l.places)

abbrev pub decreases-loop-done : goal.decreases-loop-done
decreases-loop-done g l = l.fn.limit - l.done
