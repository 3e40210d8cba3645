use Rattle.treecode.proofs.Prelude.{◌≡◌, ◌++◌, length, map, procedure_view, headings_in, headings_of}
use Rattle.treecode.proofs.procedures.add_headings.Given as goal

abbrev pub invariant-loop-rest : goal.invariant-loop-rest
invariant-loop-rest l =
    (l.tree ≡ record (l.fn.tree) { procedures = l.tree.procedures })
    × (headings_of l.tree
    ++ headings_in l.externals.procedures.entries.items l.number (map procedure_view l.rest)
    ≡ headings_of l.fn.tree
    ++ headings_in l.externals.procedures.entries.items 0 (map procedure_view l.procedures))

abbrev pub decreases-loop-rest : goal.decreases-loop-rest
decreases-loop-rest l = length l.rest
