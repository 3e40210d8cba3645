use Rattle.placing.proofs.Prelude.{module_view, map, modules_of, placement_view}
use Rattle.placing.proofs.TestDecides.{decides}
use Rattle.placing.proofs.lawfulness.lawful.Goals as goal

pub returns : goal.returns
returns c =
    decides (map module_view (modules_of c.args.joined.now))
    (placement_view c.args.placement.now) c.is_lawful.result
    c.is_lawful.ensures
