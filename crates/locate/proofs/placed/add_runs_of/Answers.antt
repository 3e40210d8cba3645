use Rattle.locate.proofs.Prelude.{base_of, plan_view}
use Rattle.locate.proofs.Images.{runs_lie}
use Rattle.locate.proofs.placed.add_runs_of.Goals as goal

pub add_segment-requires : goal.add_segment-requires
add_segment-requires c =
    rw (c.base.ensures, c.runs.ensures.runs)
    (runs_lie c.args.object.now c.args.segment
    (base_of (plan_view c.args.plan.now) c.args.segment) c.requires)
