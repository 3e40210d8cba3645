use Rattle.codegen8080.proofs.Prelude.{refl, rules}
use Rattle.codegen8080.proofs.BodyParts.{end_added, no_end_added}
use Rattle.codegen8080.proofs.{PlansStand.{end_stands}, Standing.{planned_stand}}
use Rattle.codegen8080.proofs.bodies.put_end.Goals as goal

pub returns-then-not-body : goal.returns-then-not-body
returns-then-not-body c = no_end_added c.args.body.now c.args.generator.now (search rules)

pub returns : goal.returns
returns c =
    end_added c.args.body.now c.count-start.result c.args.generator.now
    (record (c.args.generator.now) { plan = c.plan_end.new.plan }) c.planned.new.self c.planned.result
    (search rules) refl refl c.in_ok-plan_end.ensures.added c.count-start.ensures c.planned.ensures.code

pub planned-requires-clause-stand : goal.planned-requires-clause-stand
planned-requires-clause-stand c =
    planned_stand c.args.generator.now.plan.list.items c.plan_end.new.plan.list.items _ c.count-start.result
    c.in_ok-plan_end.ensures.added c.count-start.ensures (end_stands c.args.body.now)
