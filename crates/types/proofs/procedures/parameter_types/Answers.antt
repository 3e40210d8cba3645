use Rattle.types.proofs.Prelude.{declaration_trees}
use Rattle.types.proofs.Headings.{types_go_on}
use Rattle.types.proofs.procedures.parameter_types.Goals as goal

pub loop-parameter-preserved : goal.loop-parameter-preserved
loop-parameter-preserved c =
    types_go_on (declaration_trees c.args.declared.now) c.args.parameters.now c.loop-parameter.parameter-index
    c.parameter-item.result c.loop-parameter.types.items c.push.new.self.items
    c.parameter_type.result c.loop-parameter-test.true c.parameter-item.is c.loop-parameter.invariant
    c.parameter_type.ensures c.in_ok-push.ensures.items
