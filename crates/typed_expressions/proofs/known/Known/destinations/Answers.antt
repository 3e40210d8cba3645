use Rattle.typed_expressions.proofs.Prelude.{rules, fault_in, constants_view}
use Rattle.typed_expressions.proofs.DestinationLoops.{begins, first_fails, goes_on, destination_fails, destinations_ended}
use Rattle.typed_expressions.proofs.known.Known.destinations.Goals as goal

pub loop-target-init : goal.loop-target-init
loop-target-init c =
    rw c.in_ok-push.ensures.items
    (rw c.new-made.ensures.items
    (begins c.args.self.now c.args.first.now c.args.others.now (constants_view c.args.constants.now)
    (constants_view c.destination.new.constants) c.in_ok-place.place c.in_ok-place.ensures))

pub loop-target-preserved : goal.loop-target-preserved
loop-target-preserved c =
    rw c.in_ok-push-2.ensures.items
    (goes_on c.args.self.now c.args.others.now c.loop-target.target-index c.target-item.result
    c.loop-target.made.items (constants_view c.loop-target.constants) _
    c.loop-target-test.true c.target-item.is c.loop-target.invariant c.in_ok-place-2.place
    (constants_view c.destination-in-loop-target.new.constants) c.in_ok-place-2.ensures)

pub returns : goal.returns
returns c =
    destinations_ended c.args.self.now c.args.others.now c.loop-target.target-index c.loop-target.made.items
    (constants_view c.loop-target.constants) _
    c.loop-target-test.false c.loop-target.invariant

pub returns-in_err-place : goal.returns-in_err-place
returns-in_err-place c =
    let failed =
    first_fails c.args.self.now c.args.first.now c.args.others.now (constants_view c.args.constants.now)
    (fault_in c.in_err-place.field-0.0) c.in_err-place.ensures in
    search rules

pub returns-in_err-place-2 : goal.returns-in_err-place-2
returns-in_err-place-2 c =
    let failed =
    destination_fails c.args.self.now c.args.others.now c.loop-target.target-index c.target-item.result
    c.loop-target.made.items (constants_view c.loop-target.constants) _
    (fault_in c.in_err-place-2.field-0.0) c.loop-target-test.true c.target-item.is c.loop-target.invariant
    c.in_err-place-2.ensures in
    search rules
