use Rattle.literally.proofs.Prelude.{◌≤◌, ◌+◌, ◌-◌, ◌*◌, length, map, reverse, lexeme_of, lexemes_of, DEEPEST, MOST_WORDS, at_use}
use Rattle.literally.proofs.ExpansionTexts.{Waits}
use Rattle.literally.proofs.expansion.replace.Given as goal

-- what the texts that wait become completes what the use becomes
abbrev pub invariant-loop-words : goal.invariant-loop-words
invariant-loop-words l = record {
  in_range : l.processed ≤ MOST_WORDS;
  depth : length l.pending.items ≤ DEEPEST;
  waits : Waits (lexemes_of l.fn.output.items) l.fn.processed (lexeme_of l.used)
      (reverse (map (λ text. map (at_use (lexeme_of l.used)) (lexemes_of text.now)) l.pending.items))
      (lexemes_of l.output.items) l.processed;
}

-- each turn processes a word, or is done with a text
abbrev pub decreases-loop-words : goal.decreases-loop-words
decreases-loop-words l = 2 * (MOST_WORDS - l.processed) + length l.pending.items
