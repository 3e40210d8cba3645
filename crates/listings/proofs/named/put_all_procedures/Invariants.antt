use Rattle.listings.proofs.Prelude.{◌≡◌, ◌++◌, length, map, public_names, named_view}
use Rattle.listings.proofs.named.put_all_procedures.Given as goal

-- the names so far, and those of the modules that are left, are all
abbrev pub invariant-loop-rest : goal.invariant-loop-rest
invariant-loop-rest l =
    map named_view l.names.items ++ public_names l.rest
    ≡ map named_view l.fn.names.items ++ public_names l.views

abbrev pub decreases-loop-rest : goal.decreases-loop-rest
decreases-loop-rest l = length l.rest
