-- The words of a command line that ask for an explanation.
use Rattle.std.specs.Prelude.{ℕ, ◌+◌, Bool, true, false, ◌||◌, nat_eq, List, [], ◌∷◌, codes, if◌then◌else◌}
use Rattle.std.specs.List.{starts_with}
use Rattle.std.specs.Str.{bytes_eq}
use Rattle.clap.specs.Words.{Text}

-- the word that asks for it, wherever it stands before `--`
abbrev pub asking : Text
asking = codes "--explain"

-- what begins a word that also names a table of lines; its name follows
abbrev pub asking_by : Text
asking_by = codes "--explain="

abbrev pub end_of_options : Text
end_of_options = codes "--"

-- whether a word names a table of lines
abbrev pub names_table : Text → Bool
names_table word = starts_with nat_eq word asking_by

-- whether a word asks
abbrev pub is_asking : Text → Bool
is_asking word = bytes_eq word asking || names_table word

-- words that come after the program's name, without those that ask
abbrev pub plain_after : List Text → List Text
plain_after [] = []
plain_after (word ∷ words) =
    if bytes_eq word end_of_options then word ∷ words
    else if is_asking word then plain_after words
    else word ∷ plain_after words

-- the words of a command line, which begin with the program's name, without those that ask
abbrev pub plain_words : List Text → List Text
plain_words [] = []
plain_words (name ∷ words) = name ∷ plain_after words

-- whether one of the words after the program's name asks
abbrev pub asks_after : List Text → Bool
asks_after [] = false
asks_after (word ∷ words) =
    if is_asking word then true
    else if bytes_eq word end_of_options then false
    else asks_after words

abbrev pub asks : List Text → Bool
asks [] = false
asks (name ∷ words) = asks_after words

-- how many of the words after the program's name name a table
abbrev pub tables_after : List Text → ℕ
tables_after [] = 0
tables_after (word ∷ words) =
    if bytes_eq word end_of_options then 0
    else if names_table word then 1 + tables_after words
    else tables_after words

abbrev pub table_count : List Text → ℕ
table_count [] = 0
table_count (name ∷ words) = tables_after words
