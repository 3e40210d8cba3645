-- The words that a text spells, and its first fault.
use Rattle.std.specs.Prelude.{◌≡◌, ◌⊎◌, ℕ, ◌+◌, ◌==◌}
use Rattle.std.specs.Prelude.{List, [], ◌∷◌, map, take, drop, length, count_by, All}
use Rattle.std.specs.List.{slice_range}
use Rattle.std.specs.List.Sorted.{IsStrictlyIncreasing}
use Rattle.words.specs.declared.fault.Fault.{Fault}
use Rattle.words.specs.declared.fault.Fault.TheVariants as faults
use Rattle.words.specs.declared.items.Cause.{Cause}
use Rattle.words.specs.declared.items.Cause.TheVariants.{BadCharacter, NotClosed, BadNumber, LongName}
use Rattle.words.specs.declared.items.Item.TheVariants.{Ending, Blank, Spelled, Wrong}
use Rattle.words.specs.declared.vocabulary.Kind.{Kind}
use Rattle.words.specs.declared.word.Word.{Word}
use Rattle.words.specs.Items.{item_at}

-- a word as a reader sees it: what it is, its bytes, the place of the first of them and its line
pub record Lexeme : Type 0 where
  pub kind : Kind
  pub text : List ℕ
  pub start : ℕ
  pub line : ℕ

-- a word without where its bytes lie in memory
abbrev pub lexeme_of : Word → Lexeme
lexeme_of word = record { kind = word.kind; text = word.text.now; start = word.start; line = word.line }

abbrev pub lexemes_of : List Word → List Lexeme
lexemes_of words = map lexeme_of words

-- the line of a place: one more than the line feeds before it
abbrev pub line_at : List ℕ → ℕ → ℕ
line_at source place = 1 + count_by (λ b. b == 10) (take place source)

-- the word of a kind at a place, with its size
abbrev pub lexeme_at : List ℕ → ℕ → Kind → ℕ → Lexeme
lexeme_at source place kind length =
    record { kind = kind; text = take length (drop place source); start = place; line = line_at source place }

-- the fault that a cause is at a place on a line
abbrev pub fault_of : Cause → ℕ → ℕ → Fault
fault_of BadCharacter start line = faults.Character start line
fault_of NotClosed start line = faults.Unclosed start line
fault_of BadNumber start line = faults.Number start line
fault_of LongName start line = faults.Name start line

-- From a place on, blanks, comments and words cover the text to its end, and these are the words.
pub data SpellsFrom (source : List ℕ) : ℕ → List Lexeme → Type 0 where
  at_end : {place : ℕ}
      → item_at (drop place source) ≡ Ending
      → SpellsFrom source place []
  after_blank : {place length : ℕ} {words : List Lexeme}
      → item_at (drop place source) ≡ Blank length
      → SpellsFrom source (place + length) words
      → SpellsFrom source place words
  word_then : {place length : ℕ} {kind : Kind} {words : List Lexeme}
      → item_at (drop place source) ≡ Spelled kind length
      → SpellsFrom source (place + length) words
      → SpellsFrom source place (lexeme_at source place kind length ∷ words)

-- From a place on, blanks, comments and words lead up to this fault.
pub data FaultFrom (source : List ℕ) : ℕ → Fault → Type 0 where
  fault_here : {place : ℕ} {cause : Cause}
      → item_at (drop place source) ≡ Wrong cause
      → FaultFrom source place (fault_of cause place (line_at source place))
  fault_after_blank : {place length : ℕ} {fault : Fault}
      → item_at (drop place source) ≡ Blank length
      → FaultFrom source (place + length) fault
      → FaultFrom source place fault
  fault_after_word : {place length : ℕ} {kind : Kind} {fault : Fault}
      → item_at (drop place source) ≡ Spelled kind length
      → FaultFrom source (place + length) fault
      → FaultFrom source place fault

-- a text spells a list of words
abbrev pub Spells : List ℕ → List Lexeme → Type 0
Spells source words = SpellsFrom source 0 words

-- the first fault of a text
abbrev pub IsFirstFault : List ℕ → Fault → Type 0
IsFirstFault source fault = FaultFrom source 0 fault

-- each text is the slice of the source at its start
abbrev pub AreSlices : List ℕ → List Lexeme → Type 0
AreSlices source words =
    All (λ word. word.text ≡ slice_range source word.start (word.start + length word.text)) words

-- each word begins further on than the one before
abbrev pub StartsRise : List Lexeme → Type 0
StartsRise words = IsStrictlyIncreasing (map (λ word. word.start) words)

-- a text spells one list of words, or it has one first fault
pub record HasOneReading (source : List ℕ) : Type 0 where
  pub some : ((words : List Lexeme) × Spells source words) ⊎ ((fault : Fault) × IsFirstFault source fault)
  pub one_spelling : (one other : List Lexeme)
      → Spells source one
      → Spells source other
      → one ≡ other
  pub one_fault : (one other : Fault)
      → IsFirstFault source one
      → IsFirstFault source other
      → one ≡ other
  pub not_both : (words : List Lexeme) (fault : Fault)
      → Spells source words
      → IsFirstFault source fault
      → ⊥
