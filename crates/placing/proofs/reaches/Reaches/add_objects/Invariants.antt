use Rattle.placing.proofs.Prelude.{◌≡◌, length, map, zip, filter_map, object_view, object_piece, with_pieces}
use Rattle.placing.proofs.reaches.Reaches.add_objects.Given as goal

abbrev pub invariant-loop-rest : goal.invariant-loop-rest
invariant-loop-rest l =
    with_pieces l.self (filter_map object_piece (zip (map object_view l.rest) l.places))
    ≡ with_pieces l.fn.self (filter_map object_piece (zip (map object_view l.objects) l.addresses))

abbrev pub decreases-loop-rest : goal.decreases-loop-rest
decreases-loop-rest l = length l.rest
