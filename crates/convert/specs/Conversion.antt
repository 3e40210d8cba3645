-- The conversion of a text.
use Rattle.std.specs.Prelude.{◌≡◌, ℕ, List}
use Rattle.words.specs.declared.word.Word.{Word}
use Rattle.words.specs.declared.fault.Fault.{Fault as TextFault}
use Rattle.words.specs.Spelling.{Spells, IsFirstFault, lexemes_of}
use Rattle.literally.specs.declared.fault.Fault.{Fault}
use Rattle.literally.specs.declared.fault.Fault.TheVariants.{Text}
use Rattle.literally.specs.Expansion.{Expands, IsFault}
use Rattle.convert.specs.declared.converting.Note.{Note}
use Rattle.convert.specs.declared.rule.Rule.{Rule}
use Rattle.convert.specs.Classes.{seen}
use Rattle.convert.specs.Converting.{changes_after, notes_after}
use Rattle.convert.specs.Edits.{Change, spliced}

-- a text with these words, which have this expansion, is changed by rules
pub record IsChanged (rules : List Rule) (source : List ℕ) (words expanded : List Word)
    (text : List ℕ) (changes : List Change) (notes : List Note) : Type 0 where
  pub changed : changes ≡ changes_after rules source 0 (seen words expanded)
  pub noted : notes ≡ notes_after rules 0 (seen words expanded)
  pub spliced_is : text ≡ spliced source changes

-- a text is changed by rules to another
pub record IsConversion (rules : List Rule) (source text : List ℕ) (changes : List Change) (notes : List Note) : Type 0 where
  pub words : List Word
  pub expanded : List Word
  pub spelled : Spells source (lexemes_of words)
  pub expansion : Expands (lexemes_of words) (lexemes_of expanded)
  pub is_changed : IsChanged rules source words expanded text changes notes

-- a text is not a list of words, or its words have no expansion
pub data IsRefused (source : List ℕ) : Fault → Type 0 where
  no_words : {fault : TextFault}
      → IsFirstFault source fault
      → IsRefused source (Text fault)
  no_expansion : {fault : Fault} (words : List Word)
      → Spells source (lexemes_of words)
      → IsFault (lexemes_of words) fault
      → IsRefused source fault
