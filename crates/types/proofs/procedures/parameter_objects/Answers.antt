use Rattle.types.proofs.Prelude.{rules, answers_fault}
use Rattle.types.proofs.Headings.{objects_fail, objects_go_on}
use Rattle.types.proofs.procedures.parameter_objects.Goals as goal

pub loop-parameter-preserved : goal.loop-parameter-preserved
loop-parameter-preserved c =
    objects_go_on c.args.scopes.now c.args.parameters.now c.loop-parameter.parameter-index
    c.parameter-item.result c.loop-parameter-test.true c.parameter-item.is c.loop-parameter.made.items
    c.loop-parameter.invariant c.declared_here.result (search rules) c.in_ok-object.object
    c.push.new.self.items c.in_ok-object.ensures c.in_ok-push.ensures.items

pub returns-in_err-object : goal.returns-in_err-object
returns-in_err-object c =
    answers_fault _ _ c.in_err-object.field-0.0 _ (search rules)
    (objects_fail c.args.scopes.now c.args.parameters.now c.loop-parameter.parameter-index
    c.parameter-item.result c.loop-parameter-test.true c.parameter-item.is c.loop-parameter.made.items
    c.loop-parameter.invariant c.declared_here.result (search rules) _ c.in_err-object.ensures)
