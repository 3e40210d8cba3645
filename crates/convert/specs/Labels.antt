-- Labels of a DO: the names, each with a colon, that stand directly before it. The rules of this folder are our own.
use Rattle.std.specs.Prelude.{ℕ, Bool, true, false, ◌&&◌, ◌||◌, List, [], ◌∷◌, reverse}
use Rattle.std.specs.Str.{bytes_eq}
use Rattle.symbols.specs.Names.{name_of, is_name as is_valid_name}
use Rattle.words.specs.declared.vocabulary.Mark.TheVariants.{Colon}
use Rattle.convert.specs.declared.class.Class.{Class}
use Rattle.convert.specs.declared.class.Class.TheVariants as classes
use Rattle.convert.specs.declared.class.Seen.{Seen}
use Rattle.convert.specs.Numbers.{is_name}

abbrev pub is_colon : Class → Bool
is_colon (classes.Mark Colon) = true
is_colon class = false

-- whether a word with this text is this name
abbrev pub is_text_of : List ℕ → List ℕ → Bool
is_text_of name text = is_valid_name (name_of text) && bytes_eq (name_of text) name

-- whether a name is one of the labels at the end of words, which are given from last to first
abbrev pub has_label : List ℕ → List Seen → Bool
has_label name [] = false
has_label name (word ∷ []) = false
has_label name (colon ∷ label ∷ words) =
    is_colon colon.class && is_name label.class
    && (is_text_of name label.word.text.now || has_label name words)

-- whether a word with this text is one of the labels at the end of words
abbrev pub is_label_of : List Seen → List ℕ → Bool
is_label_of words text = is_valid_name (name_of text) && has_label (name_of text) (reverse words)
