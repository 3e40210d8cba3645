use Rattle.locate.proofs.Prelude.{◌∙◌, plan_view}
use Rattle.locate.proofs.Loading.{gives_its_image}
use Rattle.locate.proofs.placed.absolute_of.Goals as goal

pub returns-clause-gives : goal.returns-clause-gives
returns-clause-gives c =
    gives_its_image (plan_view c.args.plan.now) c.args.object.now c.new-absolute.result c.requires
    c.start.ensures.object
    (c.new-absolute.ensures.pieces ∙ c.in_ok-pieces.ensures)
