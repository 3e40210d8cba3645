use Rattle.treecode.proofs.Prelude.{◌≡◌, [], length, module_view, constants_from, nodes_of}
use Rattle.treecode.proofs.contents.constants_of.Given as goal

abbrev pub invariant-loop-rest : goal.invariant-loop-rest
invariant-loop-rest l =
    constants_from (module_view l.typed) (nodes_of l.tree).homes l.contents.items l.rest
    ≡ constants_from (module_view l.typed) (nodes_of l.tree).homes [] l.typed.constants.items

abbrev pub decreases-loop-rest : goal.decreases-loop-rest
decreases-loop-rest l = length l.rest
