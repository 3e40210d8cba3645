use Rattle.explained_commands.proofs.Prelude.{◌≡◌, length, texts, asks, asks_after}
use Rattle.explained_commands.proofs.asking.asks.Given as goal

-- the words that are left ask just where all do
abbrev pub invariant-loop-rest : goal.invariant-loop-rest
invariant-loop-rest l = asks_after (texts l.rest) ≡ asks (texts l.words)

abbrev pub decreases-loop-rest : goal.decreases-loop-rest
decreases-loop-rest l = length l.rest
