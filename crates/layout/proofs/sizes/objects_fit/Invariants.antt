use Rattle.layout.proofs.Prelude.{◌≡◌, map, drop, list_all, object_view, fits_as_object}
use Rattle.layout.proofs.sizes.objects_fit.Given as goal

abbrev pub invariant-loop-object : goal.invariant-loop-object
invariant-loop-object l =
    list_all fits_as_object (map object_view (drop l.object-index l.objects))
    ≡ list_all fits_as_object (map object_view l.objects)
