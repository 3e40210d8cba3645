use Rattle.object_commands.proofs.Prelude.{◌≡◌, ◌++◌, drop, map}
use Rattle.object_commands.proofs.linking.slices_of.Given as goal

-- what was made, and then what the rest makes, is all
abbrev pub invariant-loop-text : goal.invariant-loop-text
invariant-loop-text l =
    map (λ s. s.now) l.slices.items ++ map (λ t. t.items) (drop l.text-index l.texts)
    ≡ map (λ t. t.items) l.texts
