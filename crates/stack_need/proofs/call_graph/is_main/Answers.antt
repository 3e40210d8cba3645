use Rattle.join.proofs.MainModules.{statements_stand}
use Rattle.stack_need.proofs.call_graph.is_main.Goals as goal

pub returns : goal.returns
returns c =
    statements_stand c.args.typed.now.main.body.first_label c.args.typed.now.main.body.places.items
    c.args.typed.now.main.body.statements.items
    c.as_slice.result.now c.is_empty.result c.as_slice.ensures.value c.is_empty.ensures
