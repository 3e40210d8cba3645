use Rattle.commands.proofs.Prelude.{◌≡◌, ◌++◌, drop, map, texts_of}
use Rattle.commands.proofs.programs.loading.sources_of.Given as goal

-- what was made, and then what the rest makes, is all
abbrev pub invariant-loop-text : goal.invariant-loop-text
invariant-loop-text l = texts_of l.sources.items ++ map (λ t. t.items) (drop l.text-index l.texts) ≡ map (λ t. t.items) l.texts
