use Rattle.words.proofs.Prelude.{◌≡◌, ◌≤◌, ◌-◌, List, ◌++◌, length, Fault, Lexeme, lexemes_of, line_at, SpellsFrom, FaultFrom}
use Rattle.words.proofs.scanner.scan.Given as goal

-- the words so far with those from here on are those of the whole text, and a fault from here on is its first
abbrev pub invariant-loop-words : goal.invariant-loop-words
invariant-loop-words l = record {
  in_range : l.start ≤ length l.source;
  line : l.line ≡ line_at l.source l.start;
  words : (rest : List Lexeme) → SpellsFrom l.source l.start rest
      → SpellsFrom l.source 0 (lexemes_of l.words.items ++ rest);
  fault : (fault : Fault) → FaultFrom l.source l.start fault → FaultFrom l.source 0 fault;
}

abbrev pub decreases-loop-words : goal.decreases-loop-words
decreases-loop-words l = length l.source - l.start
