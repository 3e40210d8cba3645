use Rattle.codegen8080.proofs.BodyParts.{entry_added}
use Rattle.codegen8080.proofs.{PlansStand.{entry_stands}, Standing.{planned_stand}}
use Rattle.codegen8080.proofs.bodies.put_entry.Goals as goal

pub returns : goal.returns
returns c =
    entry_added c.args.body.now c.count-start.result c.args.generator.now c.plan_next_entry.new.generator
    c.planned.new.self c.planned.result c.plan_next_entry.ensures.emission
    c.in_ok-plan_next_entry.ensures.labels
    c.plan_next_entry.ensures.goes_on
    c.in_ok-plan_next_entry.ensures.plan c.count-start.ensures c.planned.ensures.code

pub planned-requires-clause-stand : goal.planned-requires-clause-stand
planned-requires-clause-stand c =
    planned_stand c.args.generator.now.plan.list.items c.plan_next_entry.new.generator.plan.list.items _
    c.count-start.result c.in_ok-plan_next_entry.ensures.plan c.count-start.ensures
    (entry_stands c.args.body.now c.args.generator.now.emission.steps.labels)
