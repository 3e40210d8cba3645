use Rattle.placing.proofs.Prelude.{◌≡◌, length, map, module_view, module_placement_view, modules_fit}
use Rattle.placing.proofs.at_objects.modules_fit.Given as goal

abbrev pub invariant-loop-rest : goal.invariant-loop-rest
invariant-loop-rest l =
    modules_fit l.code l.stack l.table (map module_view l.rest) (map module_placement_view l.places)
    ≡ modules_fit l.code l.stack l.table (map module_view l.modules) (map module_placement_view l.placements)

abbrev pub decreases-loop-rest : goal.decreases-loop-rest
decreases-loop-rest l = length l.rest
