use Rattle.layout.proofs.Prelude.{◌≡◌, ◌+◌, ◌≤◌, min, map, drop, object_view, data_bytes}
use Rattle.layout.proofs.sizes.data_size.Given as goal

abbrev pub invariant-loop-object : goal.invariant-loop-object
invariant-loop-object l =
    (l.total ≤ 4294967295)
    × (min (l.total + data_bytes (map object_view (drop l.object-index l.typed.objects.items))) 4294967295
    ≡ min (data_bytes (map object_view l.typed.objects.items)) 4294967295)
