use Rattle.explained_commands.proofs.Prelude.{◌≡◌, ◌++◌, length, texts, plain_after, plain_words}
use Rattle.explained_commands.proofs.asking.plain_words.Given as goal

-- what was added, with what the words that are left add, is what all add
abbrev pub invariant-loop-rest : goal.invariant-loop-rest
invariant-loop-rest l = texts l.plain.items ++ plain_after (texts l.rest) ≡ plain_words (texts l.words)

abbrev pub decreases-loop-rest : goal.decreases-loop-rest
decreases-loop-rest l = length l.rest
