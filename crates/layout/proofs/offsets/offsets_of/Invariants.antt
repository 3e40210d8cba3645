use Rattle.layout.proofs.Prelude.{◌≡◌, ◌+◌, ◌≤◌, drop, sum_by, module_view, size_of_constant, SEGMENT_LIMIT, put_all}
use Rattle.layout.proofs.offsets.offsets_of.Given as goal

abbrev pub invariant-loop-item : goal.invariant-loop-item
invariant-loop-item l =
    (put_all (module_view l.typed) l.before (drop l.item-index l.typed.constants.items) l.offsets
    ≡ put_all (module_view l.typed) 0 l.typed.constants.items l.initial.offsets)
    × (l.before + sum_by (size_of_constant (module_view l.typed)) (drop l.item-index l.typed.constants.items)
    ≤ SEGMENT_LIMIT)
