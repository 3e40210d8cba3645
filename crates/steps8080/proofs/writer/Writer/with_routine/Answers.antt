use Rattle.steps8080.proofs.Labels.{routine_added}
use Rattle.steps8080.proofs.writer.Writer.with_routine.Goals as goal

pub invariant_of-result : goal.invariant_of-result
invariant_of-result c =
    routine_added c.self.inside.labels.items c.self.inside.is_marked.items
    c.self.inside.code c.in_ok-code.code
    c.args.routine c.self.invariant c.in_ok-code.ensures.ok
