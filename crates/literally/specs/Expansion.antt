-- The expansion of a list of words, or the reason for which it has no expansion.
use Rattle.std.specs.Prelude.{◌≡◌, ◌⊎◌, ℕ, ◌+◌, ◌<◌, ◌≤◌, ◌&&◌, Bool, true, false}
use Rattle.std.specs.Prelude.{List, [], ◌∷◌, ◌++◌, map, reverse, None, Some, IfSome, is_some}
use Rattle.words.specs.declared.fault.Fault.{Fault as TextFault}
use Rattle.words.specs.declared.fault.Fault.TheVariants as text_faults
use Rattle.words.specs.Spelling.{Lexeme, Spells, IsFirstFault}
use Rattle.literally.specs.declared.fault.Fault.{Fault}
use Rattle.literally.specs.declared.fault.Fault.TheVariants.{Text, Depth, Count, Quote, Again}
use Rattle.literally.specs.declared.limits.TheConstants.{DEEPEST, MOST_WORDS}
use Rattle.literally.specs.Definitions.{in_force, definition_by, has_quote, is_literally}

-- a word of a text at the place of the word that the text replaces
abbrev pub at_use : Lexeme → Lexeme → Lexeme
at_use used word = record { kind = word.kind; text = word.text; start = used.start; line = used.line }

-- What words at a depth become after an output, and how many words are processed. A word for which no definition
-- is in force stays. Another is replaced by what the words of its text become, one deeper.
pub data Becomes (output : List Lexeme) : ℕ → List Lexeme → List Lexeme → ℕ → Type 0 where
  no_words : {depth : ℕ}
      → Becomes output depth [] [] 0
  stays : {depth count : ℕ} {word : Lexeme} {words now : List Lexeme}
      → in_force output word ≡ None
      → Becomes output depth words now count
      → Becomes output depth (word ∷ words) (word ∷ now) (1 + count)
  replaced : {depth count more : ℕ} {text : List ℕ} {word : Lexeme} {inner words front back : List Lexeme}
      → in_force output word ≡ Some text
      → Spells text inner
      → depth < DEEPEST
      → Becomes output (depth + 1) (map (at_use word) inner) front count
      → Becomes output depth words back more
      → Becomes output depth (word ∷ words) (front ++ back) (1 + count + more)

-- Among words at a depth, or in the texts that they stand for, a name would be replaced too deep.
pub data IsTooDeep (output : List Lexeme) : ℕ → List Lexeme → Type 0 where
  too_deep : {text : List ℕ} {word : Lexeme} {words : List Lexeme}
      → in_force output word ≡ Some text
      → IsTooDeep output DEEPEST (word ∷ words)
  deeper : {depth : ℕ} {text : List ℕ} {word : Lexeme} {inner words : List Lexeme}
      → in_force output word ≡ Some text
      → Spells text inner
      → IsTooDeep output (depth + 1) (map (at_use word) inner)
      → IsTooDeep output depth (word ∷ words)
  later_word : {depth : ℕ} {word : Lexeme} {words : List Lexeme}
      → IsTooDeep output depth words
      → IsTooDeep output depth (word ∷ words)

-- At least this many words are processed for words at a depth, those of the texts that they stand for included.
pub data ProcessesAtLeast (output : List Lexeme) : ℕ → List Lexeme → ℕ → Type 0 where
  none_yet : {depth : ℕ} {words : List Lexeme}
      → ProcessesAtLeast output depth words 0
  word_then : {depth count : ℕ} {word : Lexeme} {words : List Lexeme}
      → ProcessesAtLeast output depth words count
      → ProcessesAtLeast output depth (word ∷ words) (1 + count)
  text_then : {depth count more : ℕ} {text : List ℕ} {word : Lexeme} {inner words : List Lexeme}
      → in_force output word ≡ Some text
      → Spells text inner
      → ProcessesAtLeast output (depth + 1) (map (at_use word) inner) count
      → ProcessesAtLeast output depth words more
      → ProcessesAtLeast output depth (word ∷ words) (1 + count + more)

-- whether the first of some words is LITERALLY
abbrev pub begins_with_literally : List Lexeme → Bool
begins_with_literally [] = false
begins_with_literally (word ∷ words) = is_literally word.kind

-- whether a word is a name in force, and is defined again
abbrev pub is_defined_again : List Lexeme → Lexeme → List Lexeme → Bool
is_defined_again output word words = is_some (in_force output word) && begins_with_literally words

-- a text holds no quote and spells words
abbrev pub IsSoundText : List ℕ → Type 0
IsSoundText text = (has_quote text ≡ false) × ((inner : List Lexeme) × Spells text inner)

-- so is the text of the definition that a word completes after an output, if it completes one
abbrev pub IsSound : List Lexeme → Lexeme → Type 0
IsSound output word = IfSome (definition_by word (reverse output)) (λ definition. IsSoundText definition.1)

-- Words after an output, with a count of the words processed before, make it this whole output.
pub data ExpandsFrom : List Lexeme → ℕ → List Lexeme → List Lexeme → Type 0 where
  at_end : {output : List Lexeme} {processed : ℕ}
      → ExpandsFrom output processed [] output
  after_word : {output words now whole : List Lexeme} {processed count : ℕ} {word : Lexeme}
      → is_defined_again output word words ≡ false
      → IsSound output word
      → Becomes output 0 (word ∷ []) now count
      → processed + count ≤ MOST_WORDS
      → ExpandsFrom (output ++ now) (processed + count) words whole
      → ExpandsFrom output processed (word ∷ words) whole

-- the fault of a text, at the start and on the line of its string
abbrev pub at_string : Lexeme → TextFault → TextFault
at_string string (text_faults.Character start line) = text_faults.Character string.start string.line
at_string string (text_faults.Unclosed start line) = text_faults.Unclosed string.start string.line
at_string string (text_faults.Number start line) = text_faults.Number string.start string.line
at_string string (text_faults.Name start line) = text_faults.Name string.start string.line

-- Words after an output lead up to one that can't be expanded, with this fault.
pub data FaultFrom : List Lexeme → ℕ → List Lexeme → Fault → Type 0 where
  defined_again : {output words : List Lexeme} {processed : ℕ} {word : Lexeme}
      → is_defined_again output word words ≡ true
      → FaultFrom output processed (word ∷ words) (Again word.start word.line)
  quote_in_text : {output words : List Lexeme} {processed : ℕ} {word : Lexeme} {name text : List ℕ}
      → definition_by word (reverse output) ≡ Some (name, text)
      → has_quote text ≡ true
      → FaultFrom output processed (word ∷ words) (Quote word.start word.line)
  bad_text : {output words : List Lexeme} {processed : ℕ} {word : Lexeme}
      {name text : List ℕ} {fault : TextFault}
      → definition_by word (reverse output) ≡ Some (name, text)
      → has_quote text ≡ false
      → IsFirstFault text fault
      → FaultFrom output processed (word ∷ words) (Text (at_string word fault))
  depth_passed : {output words : List Lexeme} {processed : ℕ} {word : Lexeme}
      → IsTooDeep output 0 (word ∷ [])
      → FaultFrom output processed (word ∷ words) (Depth word.start word.line)
  count_passed : {output words : List Lexeme} {processed more : ℕ} {word : Lexeme}
      → ProcessesAtLeast output 0 (word ∷ []) more
      → MOST_WORDS < processed + more
      → FaultFrom output processed (word ∷ words) (Count word.start word.line)
  fault_after_word : {output words now : List Lexeme} {processed more : ℕ} {word : Lexeme} {fault : Fault}
      → is_defined_again output word words ≡ false
      → IsSound output word
      → Becomes output 0 (word ∷ []) now more
      → processed + more ≤ MOST_WORDS
      → FaultFrom (output ++ now) (processed + more) words fault
      → FaultFrom output processed (word ∷ words) fault

-- the expansion of a list of words
abbrev pub Expands : List Lexeme → List Lexeme → Type 0
Expands words output = ExpandsFrom [] 0 words output

-- why a list of words has no expansion
abbrev pub IsFault : List Lexeme → Fault → Type 0
IsFault words fault = FaultFrom [] 0 words fault

-- a list of words has one expansion, or it has a fault
pub record HasOneExpansion (words : List Lexeme) : Type 0 where
  pub some : ((output : List Lexeme) × Expands words output) ⊎ ((fault : Fault) × IsFault words fault)
  pub one_expansion : (one other : List Lexeme)
      → Expands words one
      → Expands words other
      → one ≡ other
  pub not_both : (output : List Lexeme) (fault : Fault)
      → Expands words output
      → IsFault words fault
      → ⊥
