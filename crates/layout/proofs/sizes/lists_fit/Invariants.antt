use Rattle.layout.proofs.Prelude.{◌≡◌, map, drop, vec_items, list_all, fits_as_list}
use Rattle.layout.proofs.sizes.lists_fit.Given as goal

abbrev pub invariant-loop-bytes : goal.invariant-loop-bytes
invariant-loop-bytes l =
    list_all fits_as_list (map vec_items (drop l.bytes-index l.lists))
    ≡ list_all fits_as_list (map vec_items l.lists)
