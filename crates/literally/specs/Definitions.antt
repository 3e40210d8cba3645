-- Definitions: a name, LITERALLY and a string, in a row.
use Rattle.std.specs.Prelude.{ℕ, ◌-◌, ◌==◌, ◌&&◌, Bool, true, false, if◌then◌else◌}
use Rattle.std.specs.Prelude.{List, [], ◌∷◌, length, reverse, slice_range, Option, None, Some}
use Rattle.std.specs.List.{list_any}
use Rattle.std.specs.Option.{option_map}
use Rattle.std.specs.Str.{bytes_eq}
use Rattle.words.specs.declared.vocabulary.Kind.{Kind}
use Rattle.words.specs.declared.vocabulary.Kind.TheVariants.{Name, Reserved, String}
use Rattle.words.specs.declared.vocabulary.ReservedWord.TheVariants.{Literally}
use Rattle.symbols.specs.Names.{name_of}
use Rattle.words.specs.Spelling.{Lexeme}

-- tests of a word's kind
abbrev pub is_name : Kind → Bool
is_name Name = true
is_name kind = false

abbrev pub is_string : Kind → Bool
is_string String = true
is_string kind = false

abbrev pub is_literally : Kind → Bool
is_literally (Reserved Literally) = true
is_literally kind = false

-- the bytes between the quotes of a string
abbrev pub text_of : Lexeme → List ℕ
text_of string = slice_range string.text 1 (length string.text - 1)

-- whether a text holds a quote
abbrev pub has_quote : List ℕ → Bool
has_quote text = list_any (λ b. b == 39) text

-- the name that a string after these words defines, the last of them first: LITERALLY, and a name before it
abbrev pub name_before : List Lexeme → Option (List ℕ)
name_before (literally ∷ name ∷ before) =
    if is_literally literally.kind && is_name name.kind then Some (name_of name.text) else None
name_before words = None

-- the name of the definition that a word completes, if it completes one, after these words, the last of them first
abbrev pub name_defined : Lexeme → List Lexeme → Option (List ℕ)
name_defined word before = if is_string word.kind then name_before before else None

-- that definition: its name and its text
abbrev pub definition_by : Lexeme → List Lexeme → Option (List ℕ × List ℕ)
definition_by word before = option_map (λ name. (name, text_of word)) (name_defined word before)

-- the text of a definition, if it is one of the name
abbrev pub text_if : List ℕ → Option (List ℕ × List ℕ) → Option (List ℕ) → Option (List ℕ)
text_if name None other = other
text_if name (Some definition) other = if bytes_eq name definition.0 then Some definition.1 else other

-- the text that a name is defined as in a list of words, the last of them first
abbrev pub text_in : List ℕ → List Lexeme → Option (List ℕ)
text_in name [] = None
text_in name (word ∷ before) = text_if name (definition_by word before) (text_in name before)

-- the text that a word stands for after an output, if it is a name that the output defines
abbrev pub in_force : List Lexeme → Lexeme → Option (List ℕ)
in_force output word = if is_name word.kind then text_in (name_of word.text) (reverse output) else None
