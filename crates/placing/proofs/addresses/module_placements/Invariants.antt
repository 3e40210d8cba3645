use Rattle.placing.proofs.Prelude.{◌≡◌, ◌+◌, ◌≤◌, ◌++◌, length, map, sum, MEMORY_SIZE, module_placement_view, code_placements, layout_sizes}
use Rattle.placing.proofs.addresses.module_placements.Given as goal

abbrev pub invariant-loop-rest : goal.invariant-loop-rest
invariant-loop-rest l =
    (map module_placement_view l.placements.items ++ code_placements l.bases l.rest l.storages l.lengths
    ≡ code_placements l.fn.first l.modules l.layouts l.code_lengths)
    × (l.bases.code_base + sum l.lengths ≤ MEMORY_SIZE)
    × (l.bases.data_base + layout_sizes l.storages ≤ MEMORY_SIZE)

abbrev pub decreases-loop-rest : goal.decreases-loop-rest
decreases-loop-rest l = length l.rest
