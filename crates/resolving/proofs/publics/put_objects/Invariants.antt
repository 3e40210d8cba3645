use Rattle.resolving.proofs.Prelude.{◌≡◌, drop, map, object_view, with_objects}
use Rattle.resolving.proofs.publics.put_objects.Given as goal

abbrev pub invariant-loop-number : goal.invariant-loop-number
invariant-loop-number l =
    with_objects l.table.entries l.number_of_module l.number (map object_view (drop l.number l.objects))
    ≡ with_objects l.fn.table.entries l.number_of_module 0 (map object_view l.objects)
