use Rattle.treecode.proofs.Prelude.{◌≡◌, length, map, object_view, layout_view, all_placed, placed_in}
use Rattle.treecode.proofs.homes.add_homes.Given as goal

abbrev pub invariant-loop-rest : goal.invariant-loop-rest
invariant-loop-rest l =
    (l.tree
    ≡ record (l.fn.tree) {
      homes = l.tree.homes;
      procedures = l.tree.procedures;
      homes_are_words = l.tree.homes_are_words;
    })
    × (all_placed l.externals.objects.entries.items l.parameters.entries.items (layout_view l.storage)
    (placed_in l.tree) l.number (map object_view l.rest)
    ≡ all_placed l.externals.objects.entries.items l.parameters.entries.items (layout_view l.storage)
    (placed_in l.fn.tree) 0 (map object_view l.typed.objects.items))

abbrev pub decreases-loop-rest : goal.decreases-loop-rest
decreases-loop-rest l = length l.rest
