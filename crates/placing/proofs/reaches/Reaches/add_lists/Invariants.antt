use Rattle.placing.proofs.Prelude.{◌≡◌, length, map, zip, vec_items, list_piece, with_pieces}
use Rattle.placing.proofs.reaches.Reaches.add_lists.Given as goal

abbrev pub invariant-loop-rest : goal.invariant-loop-rest
invariant-loop-rest l =
    with_pieces l.self (map list_piece (zip (map vec_items l.rest) l.places))
    ≡ with_pieces l.fn.self (map list_piece (zip (map vec_items l.lists) l.addresses))

abbrev pub decreases-loop-rest : goal.decreases-loop-rest
decreases-loop-rest l = length l.rest
