use Rattle.stack_need.proofs.Prelude.{map, subst, program_view, body_view, Answers}
use Rattle.stack_need.proofs.Told.{tells_need}
use Rattle.stack_need.proofs.stack_need.need_at.Goals as goal

pub returns : goal.returns
returns c =
    tells_need (program_view c.args.program.now).modules (map body_view c.in_ok-graph.graph.items)
    c.in_ok-need.need c.in_ok-graph.ensures
    (subst (λ bodies. Answers (map body_view bodies) c.in_ok-need.need) c.as_slice.ensures.value
    c.in_ok-need.ensures)
