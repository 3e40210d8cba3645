-- Names and reserved words (PL/M-80 Programming Manual, on identifiers and reserved words).
use Rattle.std.specs.Prelude.{ℕ, Option, None, Some, nat_lt, if◌then◌else◌}
use Rattle.std.specs.Prelude.{List, [], ◌∷◌, map, length}
use Rattle.std.specs.Str.{bytes_eq}
use Rattle.std.specs.Option.{option_map_or}
use Rattle.symbols.specs.declared.name.TheConstants.{LONGEST_NAME}
use Rattle.symbols.specs.Names.{name_of}
use Rattle.words.specs.declared.items.Cause.TheVariants.{LongName}
use Rattle.words.specs.declared.items.Item.{Item}
use Rattle.words.specs.declared.items.Item.TheVariants.{Spelled, Wrong}
use Rattle.words.specs.declared.vocabulary.Kind.{Kind}
use Rattle.words.specs.declared.vocabulary.Kind.TheVariants.{Name, Reserved}
use Rattle.words.specs.declared.vocabulary.ReservedWord.{ReservedWord}
use Rattle.words.specs.declared.vocabulary.TheConstants.{RESERVED_WORDS}

-- how each reserved word is written: the table of the module `vocabulary`
unfoldable pub reserved_words : List (List ℕ × ReservedWord)
reserved_words = map (λ entry. (entry.0.now, entry.1)) RESERVED_WORDS

-- the first word of a table with these characters, if there is one
abbrev pub word_in : List (List ℕ × ReservedWord) → List ℕ → Option ReservedWord
word_in [] name = None
word_in (entry ∷ table) name = if bytes_eq entry.0 name then Some (entry.1) else word_in table name

-- the reserved word with these characters, if there is one
unfoldable pub reserved_of : List ℕ → Option ReservedWord
reserved_of name = word_in reserved_words name

-- the kind of a name with these characters: a reserved word, or a name like any other
abbrev pub kind_of_name : List ℕ → Kind
kind_of_name name = option_map_or Reserved (reserved_of name) Name

-- a word that begins with a letter, whose bytes are the text
abbrev pub name_item : List ℕ → Item
name_item text =
    if nat_lt LONGEST_NAME (length (name_of text)) then Wrong LongName
    else Spelled (kind_of_name (name_of text)) (length text)
