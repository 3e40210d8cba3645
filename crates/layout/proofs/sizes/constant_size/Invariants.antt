use Rattle.layout.proofs.Prelude.{◌≡◌, ◌+◌, ◌≤◌, min, drop, sum_by, module_view, constant_bytes, size_of_constant}
use Rattle.layout.proofs.sizes.constant_size.Given as goal

abbrev pub invariant-loop-item : goal.invariant-loop-item
invariant-loop-item l =
    (l.total ≤ 4294967295)
    × (min (
    l.total + sum_by (size_of_constant (module_view l.typed))
    (drop l.item-index l.typed.constants.items)) 4294967295
    ≡ min (constant_bytes (module_view l.typed)) 4294967295)
