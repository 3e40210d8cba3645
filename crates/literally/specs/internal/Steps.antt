-- The effect of one word of the list on the output.
use Rattle.std.specs.Prelude.{◌≡◌, ℕ, ◌+◌, ◌≤◌, List, [], ◌∷◌, ◌++◌}
use Rattle.words.specs.Spelling.{Lexeme}
use Rattle.literally.specs.declared.fault.Fault.{Fault}
use Rattle.literally.specs.declared.limits.TheConstants.{MOST_WORDS}
use Rattle.literally.specs.Expansion.{Becomes, FaultFrom}

-- what a word becomes makes an output this whole one, and this is then the count of words processed
abbrev pub Adds : List Lexeme → ℕ → Lexeme → List Lexeme → ℕ → Type 0
Adds output processed word whole count =
    (now : List Lexeme)
    × (more : ℕ)
    × Becomes output 0 (word ∷ []) now more
    × (whole ≡ output ++ now)
    × (count ≡ processed + more)
    × (count ≤ MOST_WORDS)

-- whatever follows the word, the list has this fault
abbrev pub IsFaultAt : List Lexeme → ℕ → Lexeme → Fault → Type 0
IsFaultAt output processed word fault =
    (words : List Lexeme) → FaultFrom output processed (word ∷ words) fault
