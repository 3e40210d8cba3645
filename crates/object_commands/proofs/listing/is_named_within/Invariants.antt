use Rattle.object_commands.proofs.Prelude.{◌≡◌, map, length, symbol_view, is_named_within}
use Rattle.object_commands.proofs.listing.is_named_within.Given as goal

abbrev pub invariant-loop-rest : goal.invariant-loop-rest
invariant-loop-rest l =
    is_named_within (map symbol_view l.rest) l.address l.size
    ≡ is_named_within (map symbol_view l.initial.rest) l.address l.size

abbrev pub decreases-loop-rest : goal.decreases-loop-rest
decreases-loop-rest l = length l.rest
