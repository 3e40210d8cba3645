use Rattle.codegen8080.proofs.Prelude.{refl, sym, subst, ◌∙◌, arith, true, Planned, CarriesOut, Generator}
use Rattle.codegen8080.proofs.Driving.{carrying_begins, carrying_ends, holds_none, list_carried, listing_begins, listing_ends, none_passed_below, statement_added_if, statement_carried, statement_passed, step_carried_if, step_passed_below}
use Rattle.codegen8080.proofs.PlansStand.{statement_steps_stand}
use Rattle.codegen8080.proofs.Standing.{form_stands, item_is_there, item_stands, planned_stand, step_there}
use Rattle.std.proofs.Common.{◌<◌, drop, rules}
use Rattle.treecode.specs.internal.Nodes.{Nodes, nodes_of}
use Rattle.codegen8080.specs.internal.Standing.{StatementStands, StepStands, StepsStand}
use Rattle.codegen8080.proofs.generator.Generator.+statement.Goals.{planned-in-Some+in_ok-waiting, planned-in_default}
use Rattle.codegen8080.proofs.generator.Generator.+statement.Goals as goal

pub carry_out-returns-in_ok-statement-in-Statement : goal.carry_out-returns-in_ok-statement-in-Statement
carry_out-returns-in_ok-statement-in-Statement t c =
    subst
    (λ (step : Planned). CarriesOut c.args.body.now step c.args.waiting c.args.self.now c.statement.new.self
    c.args.waiting)
    (sym c.in-Statement.is)
    (statement_carried c.args.body.now c.args.waiting c.args.self.now c.statement.new.self _
    c.in_ok-statement-in-Statement.ensures.code c.in_ok-statement-in-Statement.ensures.plan)

pub carry_out-returns-in_ok-list-in-List : goal.carry_out-returns-in_ok-list-in-List
carry_out-returns-in_ok-list-in-List t c =
    subst
    (λ (step : Planned). CarriesOut c.args.body.now step c.args.waiting c.args.self.now c.list.new.self
    c.args.waiting)
    (sym c.in-List.is)
    (list_carried c.args.body.now c.args.waiting c.args.self.now c.list.new.self _
    c.in_ok-list-in-List.ensures.code c.in_ok-list-in-List.ensures.plan)

pub carry_out-returns-in_default : goal.carry_out-returns-in_default
carry_out-returns-in_default t c =
    step_carried_if c.args.body.now c.args.waiting c.args.self.now c.step.new.self c.args.step c.step.result
    c.step.ensures (holds_none c.args.step c.in_default.not-Statement c.in_default.not-List)

pub list-loop-index-init : goal.list-loop-index-init
list-loop-index-init t c = listing_begins c.args.body.now c.args.list c.args.self.now _ refl

pub list-loop-index-preserved : goal.list-loop-index-preserved
list-loop-index-preserved t c =
    statement_passed c.args.body.now c.args.list c.args.self.now c.loop-index.self c.loop-index.index
    c.loop-index.invariant c.statement.new.self _ c.loop-index-test.true c.item_at-item.ensures
    c.in_ok-statement.ensures.code c.in_ok-statement.ensures.plan

pub list-returns-clause-code : goal.list-returns-clause-code
list-returns-clause-code t c =
    listing_ends c.args.body.now c.args.list c.args.self.now c.loop-index.self c.loop-index.index
    c.loop-index.invariant c.loop-index-test.false

pub planned-loop-index-init : goal.planned-loop-index-init
planned-loop-index-init t c = record {
  carrying = carrying_begins c.args.body.now c.args.self.now c.args.start;
  stand = c.requires.stand;
}

pub planned-loop-index-preserved : goal.planned-loop-index-preserved
planned-loop-index-preserved t c = elim c.match-get.branch [
  | planned-in-Some+in_ok-waiting w ↦
      rw (w.self-is, w.waiting-is)
      (step_passed_below c.args.body.now c.args.self.now c.loop-index.self c.loop-index.waiting c.args.start
      c.loop-index.index c.args.bound _ _ _ c.loop-index.invariant (sym c.get.ensures ∙ w.in-Some.is)
      w.in_ok-waiting.ensures)
  | planned-in_default w ↦
      rw (w.self-is, w.waiting-is)
      (none_passed_below c.args.body.now c.args.self.now c.loop-index.self c.loop-index.waiting c.args.start
      c.loop-index.index c.args.bound c.loop-index.invariant (sym c.get.ensures ∙ w.in_default.is))
]

pub planned-returns-clause-code : goal.planned-returns-clause-code
planned-returns-clause-code t c =
    carrying_ends c.args.body.now c.args.self.now c.loop-index.self c.loop-index.waiting c.args.start
    c.loop-index.index (record (c.loop-index.self) { plan = c.truncate.new.self }) c.loop-index.invariant.carrying
    (omega (arith, c.count-end.ensures, c.loop-index-test.false)) refl refl

pub statement-returns-clause-code : goal.statement-returns-clause-code
statement-returns-clause-code t c =
    let ready : Generator = record (c.plan_next.new.self) { goes_on = true } in
    statement_added_if c.args.body.now c.args.number c.statement_at-statement.result c.count-start.result
    c.args.self.now ready
    c.planned.new.self c.planned.result c.statement_at-statement.ensures
    c.in_ok-plan_next.ensures.emission c.in_ok-plan_next.ensures.labels refl c.in_ok-plan_next.ensures.plan
    c.count-start.ensures
    c.planned.ensures.code

pub statement-planned-requires : goal.statement-planned-requires
statement-planned-requires t c =
    let nodes : Nodes = nodes_of c.args.body.now.tree.now in
    let stand : StepsStand nodes c.args.number.index (drop c.count-start.result c.plan_next.new.self.plan.list.items) =
    planned_stand c.args.self.now.plan.list.items c.plan_next.new.self.plan.list.items _ c.count-start.result
    c.in_ok-plan_next.ensures.plan c.count-start.ensures
    (statement_steps_stand c.args.body.now _ c.statement_at-statement.result _
    (form_stands c.statement_at-statement.result c.requires.stands c.statement_at-statement.ensures)) in
    search rules

pub planned-carry_out-requires : goal.planned-carry_out-requires
planned-carry_out-requires t c =
    let stands : StepStands (nodes_of c.args.body.now.tree.now) c.args.bound c.in-Some.step =
    (step_there c.loop-index.self.plan.list.items c.loop-index.index c.in-Some.step
    (sym c.get.ensures ∙ c.in-Some.is) c.loop-index.invariant.stand).0 in
    search rules

pub list-item_at-item-requires : goal.list-item_at-item-requires
list-item_at-item-requires t c = item_is_there c.requires.stands c.loop-index.index c.loop-index-test.true

pub list-statement-requires : goal.list-statement-requires
list-statement-requires t c =
    let stands =
    item_stands c.requires.stands c.loop-index.index c.item_at-item.result c.loop-index-test.true
    c.item_at-item.ensures in
    let below : c.item_at-item.result.index < c.args.bound = stands.0 in
    let there : StatementStands (nodes_of c.args.body.now.tree.now) c.item_at-item.result.index = stands.1 in
    search rules
