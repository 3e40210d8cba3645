use Rattle.steps8080.proofs.Prelude.{◌≡◌, ◌++◌, ◌-◌, repeat_steps}
use Rattle.steps8080.proofs.instructions.repeat.Given as goal

abbrev pub invariant-loop : goal.invariant-loop
invariant-loop l = record {
  added : l.steps.list.items ++ repeat_steps l.instruction (l.count - l.counter)
      ≡ l.fn.steps.list.items ++ repeat_steps l.instruction l.count;
  labels : l.steps.labels ≡ l.fn.steps.labels;
}
