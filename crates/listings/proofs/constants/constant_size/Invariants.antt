use Rattle.listings.proofs.Prelude.{◌≡◌, ◌+◌, ◌≤◌, min, drop, sum_by, module_view, constant_bytes, size_of_constant}
use Rattle.listings.proofs.constants.constant_size.Given as goal

-- the bytes so far, and those of the constants that are left, are all
abbrev pub invariant-loop-item : goal.invariant-loop-item
invariant-loop-item l =
    (l.total ≤ 4294967295)
    × (min (l.total + sum_by (size_of_constant (module_view l.typed))
    (drop l.item-index l.typed.constants.items)) 4294967295
    ≡ min (constant_bytes (module_view l.typed)) 4294967295)
