use Rattle.listings.proofs.Prelude.{◌≡◌, ◌++◌, filter_map, length, map, zip, object_view, module_symbols, object_symbol, pair_of, named_view}
use Rattle.listings.proofs.named.put_objects.Given as goal

-- the names so far, and those of what is left, are all
abbrev pub invariant-loop-objects : goal.invariant-loop-objects
invariant-loop-objects l =
    map named_view l.names.items ++ filter_map object_symbol (zip (map object_view l.objects) l.addresses)
    ≡ map named_view l.fn.names.items ++ module_symbols (pair_of l.view)

abbrev pub decreases-loop-objects : goal.decreases-loop-objects
decreases-loop-objects l = length l.objects
