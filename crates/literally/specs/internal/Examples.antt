-- Examples of the definitions, each computed.
use Rattle.std.specs.Prelude.{◌≡◌, ℕ, List, [], ◌∷◌, None, Some, true, codes, refl}
use Rattle.std.proofs.Common.{arith}
use Rattle.words.specs.declared.vocabulary.Kind.{Kind}
use Rattle.words.specs.declared.vocabulary.Kind.TheVariants.{Name, Reserved, Number, String}
use Rattle.words.specs.declared.vocabulary.ReservedWord.TheVariants.{Declare, Literally}
use Rattle.words.specs.Names.{reserved_of, reserved_words}
use Rattle.words.specs.Spelling.{Lexeme, Spells, at_end as end_of_text, word_then as spelled}
use Rattle.literally.specs.Definitions.{in_force}
use Rattle.literally.specs.Expansion.{is_defined_again, Becomes, no_words, replaced, stays}

-- a word on the first line
abbrev at_first : Kind → List ℕ → Lexeme
at_first kind text = record { kind = kind; text = text; start = 0; line = 1 }

abbrev name : List ℕ → Lexeme
name text = at_first Name text

abbrev literally : Lexeme
literally = at_first (Reserved Literally) (codes "LITERALLY")

abbrev string : List ℕ → Lexeme
string text = at_first String text

-- ONE LITERALLY 'TWO' TWO LITERALLY '2'
abbrev defined : List Lexeme
defined =
    name (codes "ONE") ∷ literally ∷ string (codes "'TWO'") ∷
    name (codes "TWO") ∷ literally ∷ string (codes "'2'") ∷ []

first : in_force defined (name (codes "ONE")) ≡ Some (codes "TWO")
first = refl

second : in_force defined (name (codes "TWO")) ≡ Some (codes "2")
second = refl

other_spelling : in_force defined (name (codes "o$ne")) ≡ Some (codes "TWO")
other_spelling = refl

no_definition : in_force defined (name (codes "THREE")) ≡ None
no_definition = refl

abbrev declare : Lexeme
declare = at_first (Reserved Declare) (codes "DECLARE")

reserved_word : in_force (declare ∷ literally ∷ string (codes "'X'") ∷ []) declare ≡ None
reserved_word = refl

abbrev apart : List Lexeme
apart = name (codes "ONE") ∷ literally ∷ name (codes "X") ∷ string (codes "'TWO'") ∷ []

not_in_a_row : in_force apart (name (codes "ONE")) ≡ None
not_in_a_row = refl

again : is_defined_again defined (name (codes "ONE")) (literally ∷ []) ≡ true
again = refl

-- the text TWO is a name, and the text 2 a number
two : Spells (codes "TWO") (name (codes "TWO") ∷ [])
unfolding reserved_of reserved_words
two = spelled refl (end_of_text refl)

number : Spells (codes "2") (at_first (Number 2) (codes "2") ∷ [])
number = spelled refl (end_of_text refl)

-- ONE becomes 2, for which three words are processed
expansion : Becomes defined 0 (name (codes "ONE") ∷ []) (at_first (Number 2) (codes "2") ∷ []) 3
expansion =
    replaced refl two (omega arith)
    (replaced refl number (omega arith) (stays refl no_words) no_words)
    no_words
