use Rattle.placing.proofs.Prelude.{◌≡◌, ◌+◌, ◌≤◌, min, drop, layout_sizes}
use Rattle.placing.proofs.ranges.data_total.Given as goal

abbrev pub invariant-loop-layout : goal.invariant-loop-layout
invariant-loop-layout l =
    (l.total ≤ 4294967295)
    × (min (l.total + layout_sizes (drop l.layout-index l.layouts)) 4294967295
    ≡ min (layout_sizes l.layouts) 4294967295)
