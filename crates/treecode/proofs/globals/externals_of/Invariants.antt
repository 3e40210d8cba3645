use Rattle.treecode.proofs.Prelude.{◌≡◌, length, module_view, all_gathered, gathered_view, none_gathered}
use Rattle.treecode.proofs.globals.externals_of.Given as goal

abbrev pub invariant-loop-rest : goal.invariant-loop-rest
invariant-loop-rest l =
    all_gathered (module_view l.typed) (gathered_view l.externals) l.rest
    ≡ all_gathered (module_view l.typed) none_gathered l.typed.globals.items

abbrev pub decreases-loop-rest : goal.decreases-loop-rest
decreases-loop-rest l = length l.rest
