use Rattle.placing.proofs.Prelude.{◌≡◌, length, map, zip, flat_map, module_view, pieces_of_module, module_placement_view, with_pieces}
use Rattle.placing.proofs.reaches.Reaches.add_modules.Given as goal

abbrev pub invariant-loop-rest : goal.invariant-loop-rest
invariant-loop-rest l =
    with_pieces l.self (flat_map pieces_of_module
    (zip (map module_view l.rest) (map module_placement_view l.places)))
    ≡ with_pieces l.fn.self (flat_map pieces_of_module
    (zip (map module_view l.modules) (map module_placement_view l.placed)))

abbrev pub decreases-loop-rest : goal.decreases-loop-rest
decreases-loop-rest l = length l.rest
