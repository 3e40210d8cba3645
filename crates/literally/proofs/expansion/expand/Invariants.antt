use Rattle.literally.proofs.Prelude.{◌≤◌, List, drop, Lexeme, lexemes_of, MOST_WORDS, Fault, ExpandsFrom, FaultFrom, Expands, IsFault, AreHeld}
use Rattle.literally.proofs.expansion.expand.Given as goal

-- what the words that are left make of the output is what all words make, and their fault is that of all
abbrev pub invariant-loop-i : goal.invariant-loop-i
invariant-loop-i l = record {
  in_range : l.processed ≤ MOST_WORDS;
  held : AreHeld (lexemes_of l.output.items) l.definitions.texts;
  expansion : (whole : List Lexeme) → ExpandsFrom (lexemes_of l.output.items) l.processed
      (lexemes_of (drop l.i l.words)) whole → Expands (lexemes_of l.words) whole;
  fault : (fault : Fault) → FaultFrom (lexemes_of l.output.items) l.processed (lexemes_of (drop l.i l.words))
      fault → IsFault (lexemes_of l.words) fault;
}
