use Rattle.layout.proofs.Prelude.{◌≡◌, ◌+◌, ◌≤◌, ◌++◌, IsTrue, map, drop, list_all, object_view, SEGMENT_LIMIT, data_bytes, fits_as_object, slots_from}
use Rattle.layout.proofs.storage.object_slots.Given as goal

abbrev pub invariant-loop-object : goal.invariant-loop-object
invariant-loop-object l =
    (l.slots.items
    ++ slots_from l.offsets.objects l.constant_size l.number l.in_data
    (map object_view (drop l.object-index l.typed.objects.items))
    ≡ slots_from l.offsets.objects l.constant_size 0 0 (map object_view l.typed.objects.items))
    × (l.number ≡ l.object-index)
    × (l.in_data + data_bytes (map object_view (drop l.object-index l.typed.objects.items)) ≤ SEGMENT_LIMIT)
    × IsTrue (list_all fits_as_object (map object_view (drop l.object-index l.typed.objects.items)))
