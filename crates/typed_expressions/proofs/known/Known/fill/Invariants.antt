use Rattle.typed_expressions.proofs.Prelude.{◌≡◌, drop, type_view, filled_view, known_view}
use Rattle.typed_expressions.proofs.Filled.{onto_values}
use Rattle.typed_expressions.proofs.known.Known.fill.Given as goal

abbrev pub invariant-loop-value : goal.invariant-loop-value
invariant-loop-value l =
    onto_values (known_view l.self) (drop l.value-index l.values)
    (filled_view (type_view l.object_type) l.filling)
    ≡ onto_values (known_view l.self) l.values (filled_view (type_view l.object_type) l.initial.filling)
