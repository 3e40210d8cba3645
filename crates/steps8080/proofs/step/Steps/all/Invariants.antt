use Rattle.steps8080.proofs.Prelude.{◌≡◌, ◌++◌, drop, plain}
use Rattle.steps8080.proofs.step.Steps.all.Given as goal

abbrev pub invariant-loop-instruction : goal.invariant-loop-instruction
invariant-loop-instruction l = record {
  added : l.self.list.items ++ plain (drop l.instruction-index l.instructions)
      ≡ l.fn.self.list.items ++ plain l.instructions;
  labels : l.self.labels ≡ l.fn.self.labels;
}
