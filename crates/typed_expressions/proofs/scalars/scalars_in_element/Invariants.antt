use Rattle.typed_expressions.proofs.Prelude.{◌≡◌, ◌+◌, length, scalars_of_element, type_view, runs_from}
use Rattle.typed_expressions.proofs.scalars.scalars_in_element.Given as goal

abbrev pub invariant-loop-position : goal.invariant-loop-position
invariant-loop-position l =
    l.count + length (runs_from (type_view l.object_type) l.position)
    ≡ length (scalars_of_element (type_view l.object_type))
