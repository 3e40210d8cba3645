use Rattle.example_libraries.proofs.Prelude.{◌+◌, ◌*◌, ◌≤◌}
use Rattle.example_libraries.proofs.counting.put_program.Given as goal

-- each instruction took at most three bytes
abbrev pub invariant-loop-instr : goal.invariant-loop-instr
invariant-loop-instr l = l.address ≤ l.start + 3 * l.instr-index
