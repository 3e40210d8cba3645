use Rattle.stack_compiler.proofs.Prelude.{◌≡◌, drop, closed}
use Rattle.stack_compiler.proofs.jumps.close_cases.Given as goal

abbrev pub invariant-loop-end : goal.invariant-loop-end
invariant-loop-end l = closed (drop l.end-index l.ends) l.code.items ≡ closed l.ends l.fn.code.items
