use Rattle.object_reading.proofs.Prelude.{rules, ◌≡◌, Err, sym, ◌∙◌, arith, record_view, are_bytes, Spells, HasFirstFault, ObjectValue, state_view, record_taken}
use Rattle.object_reading.proofs.WholeFile.{passed_at_beginning, fewer_left, in_front, record_passed, record_refused, no_record_left, too_much, judged_whole, handed_on}
use Rattle.object_reading.proofs.judgement.judging.judge.Goals as goal

pub loop-records-init : goal.loop-records-init
loop-records-init c =
    passed_at_beginning c.args.bytes.now c.new-records.result (state_view c.new-state.result)
    c.new-records.ensures c.new-state.ensures

pub loop-records-smaller : goal.loop-records-smaller
loop-records-smaller c =
    fewer_left c.loop-records.records c.next_record.new.self c.in-Ok.ensures.no_fault c.in-Ok.ensures.rest

pub loop-records-preserved : goal.loop-records-preserved
loop-records-preserved c =
    record_passed c.args.bytes.now c.loop-records.records (state_view c.loop-records.state)
    (state_view c.take.new.self)
    c.in-Ok.read.kind c.in-Ok.read.body.now c.next_record.new.self c.loop-records.invariant
    (sym c.is_ended.ensures ∙ c.loop-records-test.true)
    (in_front c.loop-records.records c.next_record.new.self (record_view c.in-Ok.read) c.in-Ok.ensures.record
    c.in-Ok.ensures.no_fault c.in-Ok.ensures.of_type c.in-Ok.ensures.body c.in-Ok.ensures.rest)
    c.in_ok-take-in-Ok.ensures.ok

pub returns-in_err-take-in-Ok-clause-fault : goal.returns-in_err-take-in-Ok-clause-fault
returns-in_err-take-in-Ok-clause-fault c =
    handed_on c.from_residual.result c.in_err-take-in-Ok.field-0.0
    (λ fault. record_taken (state_view c.loop-records.state) c.in-Ok.read.kind c.in-Ok.read.body.now
    ≡ Err fault)
    (λ fault. HasFirstFault c.args.bytes.now fault) (search rules) c.in_err-take-in-Ok.ensures.fault
    (λ fault refused.
    (record_refused c.args.bytes.now c.loop-records.records
    (state_view c.loop-records.state) c.in-Ok.read.kind
    c.in-Ok.read.body.now c.next_record.new.self fault
    (are_bytes c.args.bytes.now (λ k. omega (arith, c.type_inv.bytes k))) c.loop-records.invariant
    (sym c.is_ended.ensures ∙ c.loop-records-test.true)
    (in_front c.loop-records.records c.next_record.new.self (record_view c.in-Ok.read) c.in-Ok.ensures.record
    c.in-Ok.ensures.no_fault c.in-Ok.ensures.of_type c.in-Ok.ensures.body
    c.in-Ok.ensures.rest) refused).first)

pub returns-in_err-take-in-Ok-clause-none : goal.returns-in_err-take-in-Ok-clause-none
returns-in_err-take-in-Ok-clause-none c =
    handed_on c.from_residual.result c.in_err-take-in-Ok.field-0.0
    (λ fault. record_taken (state_view c.loop-records.state) c.in-Ok.read.kind c.in-Ok.read.body.now
    ≡ Err fault)
    (λ fault. (object : ObjectValue) → Spells c.args.bytes.now object → ⊥) (search rules)
    c.in_err-take-in-Ok.ensures.fault
    (λ fault refused.
    (record_refused c.args.bytes.now c.loop-records.records
    (state_view c.loop-records.state) c.in-Ok.read.kind
    c.in-Ok.read.body.now c.next_record.new.self fault
    (are_bytes c.args.bytes.now (λ k. omega (arith, c.type_inv.bytes k))) c.loop-records.invariant
    (sym c.is_ended.ensures ∙ c.loop-records-test.true)
    (in_front c.loop-records.records c.next_record.new.self (record_view c.in-Ok.read) c.in-Ok.ensures.record
    c.in-Ok.ensures.no_fault c.in-Ok.ensures.of_type c.in-Ok.ensures.body c.in-Ok.ensures.rest)
    refused).spells_none)

pub returns-in-Err-clause-fault : goal.returns-in-Err-clause-fault
returns-in-Err-clause-fault c =
    (no_record_left c.args.bytes.now c.loop-records.records (state_view c.loop-records.state) c.in-Err.fault
    c.fault_from_record.result (are_bytes c.args.bytes.now (λ k. omega (arith, c.type_inv.bytes k)))
    c.loop-records.invariant (sym c.is_ended.ensures ∙ c.loop-records-test.true) c.in-Err.ensures.fault
    c.fault_from_record.ensures).first

pub returns-in-Err-clause-none : goal.returns-in-Err-clause-none
returns-in-Err-clause-none c =
    (no_record_left c.args.bytes.now c.loop-records.records (state_view c.loop-records.state) c.in-Err.fault
    c.fault_from_record.result (are_bytes c.args.bytes.now (λ k. omega (arith, c.type_inv.bytes k)))
    c.loop-records.invariant (sym c.is_ended.ensures ∙ c.loop-records-test.true) c.in-Err.ensures.fault
    c.fault_from_record.ensures).spells_none

pub returns-then-is_empty-clause-judged : goal.returns-then-is_empty-clause-judged
returns-then-is_empty-clause-judged c =
    judged_whole c.args.bytes.now c.loop-records.records c.rest.result.now (state_view c.loop-records.state)
    c.header.result (are_bytes c.args.bytes.now (λ k. omega (arith, c.type_inv.bytes k)))
    c.loop-records.invariant
    (sym c.is_ended.ensures ∙ c.loop-records-test.false) c.rest.ensures
    (sym c.is_empty.ensures ∙ c.if-is_empty.true)
    c.header.ensures

pub returns-clause-fault : goal.returns-clause-fault
returns-clause-fault c =
    (too_much c.args.bytes.now c.loop-records.records c.rest.result.now (state_view c.loop-records.state)
    (are_bytes c.args.bytes.now (λ k. omega (arith, c.type_inv.bytes k))) c.loop-records.invariant
    (sym c.is_ended.ensures ∙ c.loop-records-test.false) c.rest.ensures
    (sym c.is_empty.ensures ∙ c.if-is_empty.false)).first

pub returns-clause-none : goal.returns-clause-none
returns-clause-none c =
    (too_much c.args.bytes.now c.loop-records.records c.rest.result.now (state_view c.loop-records.state)
    (are_bytes c.args.bytes.now (λ k. omega (arith, c.type_inv.bytes k))) c.loop-records.invariant
    (sym c.is_ended.ensures ∙ c.loop-records-test.false) c.rest.ensures
    (sym c.is_empty.ensures ∙ c.if-is_empty.false)).spells_none
