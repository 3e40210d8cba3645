use Rattle.interpreter.proofs.Prelude.{◌≡◌, length, map, drop, zip, object_view, contents_of_object, address_of, site_view, with_all}
use Rattle.interpreter.proofs.contents.objects.put_objects.Given as goal

abbrev pub invariant-loop-object : goal.invariant-loop-object
invariant-loop-object l =
    with_all l.memory (map (contents_of_object (address_of (site_view l.site)))
    (zip (map object_view (drop (length l.yielded) l.objects)) (drop (length l.yielded) l.addresses)))
    ≡ with_all l.fn.memory (map (contents_of_object (address_of (site_view l.site)))
    (zip (map object_view l.objects) l.addresses))
