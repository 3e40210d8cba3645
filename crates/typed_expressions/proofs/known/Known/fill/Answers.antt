use Rattle.typed_expressions.proofs.Prelude.{rules, scalars_of_elements, type_view, fault_in, filled_view, known_view, state_goes_on}
use Rattle.typed_expressions.proofs.Filled.{all_filled, onto_value, onto_values, some_fails, values_first}
use Rattle.typed_expressions.proofs.known.Known.fill.Goals as goal

pub loop-value-preserved : goal.loop-value-preserved
loop-value-preserved c =
    let known = known_view c.args.self.now in
    state_goes_on (onto_value known) (onto_values known) (values_first known) c.args.values.now
    c.loop-value.value-index c.value-item.result
    (filled_view (type_view c.args.object_type.now) c.loop-value.filling)
    (filled_view (type_view c.args.object_type.now) c.fill_value.new.filling) _
    c.loop-value-test.true c.value-item.is c.loop-value.invariant c.in_ok-fill_value.ensures

pub returns-in_err-fill_value : goal.returns-in_err-fill_value
returns-in_err-fill_value c =
    let object_type = type_view c.args.object_type.now in
    let failed =
    some_fails (known_view c.args.self.now) c.args.values.now c.loop-value.value-index
    (scalars_of_elements c.args.elements object_type)
    (filled_view object_type c.new-filling.result) (filled_view object_type c.loop-value.filling)
    c.new-filling.ensures c.loop-value.invariant
    c.value-item.result (fault_in c.in_err-fill_value.field-0.0) c.loop-value-test.true c.value-item.is
    c.in_err-fill_value.ensures in
    search rules

pub returns : goal.returns
returns c =
    let object_type = type_view c.args.object_type.now in
    all_filled (known_view c.args.self.now) c.args.values.now c.loop-value.value-index
    (scalars_of_elements c.args.elements object_type)
    (filled_view object_type c.new-filling.result) (filled_view object_type c.loop-value.filling)
    c.new-filling.ensures c.loop-value.invariant c.loop-value-test.false
