-- The map that holds the definitions in force.
use Rattle.std.specs.Prelude.{◌≡◌, ℕ, false, List, reverse, Option, None, Some}
use Rattle.std.specs.Str.{bytes_eq}
use Rattle.std.specs.declared.vec.Vec.{Vec}
use Rattle.std.specs.declared.alloc.Global.{Global}
use Rattle.indexmap.specs.IndexMap.{IndexMap, get_by}
use Rattle.words.specs.declared.word.Word.{Word}
use Rattle.symbols.specs.Names.{name_of}
use Rattle.words.specs.Spelling.{Lexeme, lexemes_of, Spells}
use Rattle.literally.specs.declared.names.Name.{Name}
use Rattle.literally.specs.Definitions.{has_quote, text_in, in_force}

-- the words that a map holds for a name
abbrev pub words_for : {S : Type 0} → IndexMap Name (Vec Word Global) S → List ℕ → Option (Vec Word Global)
words_for map name = get_by (λ key. bytes_eq name (name_of key.text.now)) map

-- a text has no quote and spells words
abbrev pub IsTextOf : List ℕ → List Lexeme → Type 0
IsTextOf text words = (has_quote text ≡ false) × Spells text words

-- there is neither a text nor words, or the text spells the words
abbrev pub Agree : Option (List ℕ) → Option (Vec Word Global) → Type 0
Agree None None = Unit {0}
Agree None (Some words) = ⊥
Agree (Some text) None = ⊥
Agree (Some text) (Some words) = IsTextOf text (lexemes_of words.items)

-- for each name that is in force after an output a map holds the words of its text, and none for any other
abbrev pub AreHeld : {S : Type 0} → List Lexeme → IndexMap Name (Vec Word Global) S → Type 0
AreHeld output map = (name : List ℕ) → Agree (text_in name (reverse output)) (words_for map name)

-- a word stands for these words after an output
abbrev pub StandsFor : List Lexeme → Lexeme → List Lexeme → Type 0
StandsFor output word inner = (text : List ℕ) × (in_force output word ≡ Some text) × IsTextOf text inner
