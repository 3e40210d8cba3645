use Rattle.layout.proofs.Prelude.{◌≡◌, ◌++◌, IsTrue, map, drop, vec_items, list_all, fits_as_list, list_slots_from}
use Rattle.layout.proofs.storage.list_slots.Given as goal

abbrev pub invariant-loop-bytes : goal.invariant-loop-bytes
invariant-loop-bytes l =
    (l.slots.items
    ++ list_slots_from l.offsets.lists l.constant_size l.number
    (map vec_items (drop l.bytes-index l.typed.lists.items))
    ≡ list_slots_from l.offsets.lists l.constant_size 0 (map vec_items l.typed.lists.items))
    × (l.number ≡ l.bytes-index)
    × IsTrue (list_all fits_as_list (map vec_items (drop l.bytes-index l.typed.lists.items)))
