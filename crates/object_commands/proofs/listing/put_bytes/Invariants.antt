use Rattle.object_commands.proofs.Prelude.{◌≡◌, ◌++◌, ◌∷◌, [], flat_map, length, byte_digits}
use Rattle.object_commands.proofs.listing.put_bytes.Given as goal

-- what was added, and then what the rest adds, is all
abbrev pub invariant-loop-rest : goal.invariant-loop-rest
invariant-loop-rest l =
    l.lines.items ++ flat_map (λ byte. byte_digits byte ++ 32 ∷ []) l.rest
    ≡ l.initial.lines.items ++ flat_map (λ byte. byte_digits byte ++ 32 ∷ []) l.initial.rest

abbrev pub decreases-loop-rest : goal.decreases-loop-rest
decreases-loop-rest l = length l.rest
