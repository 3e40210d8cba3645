-- Groups: words in parentheses, and their items.
use Rattle.std.specs.Prelude.{ℕ, ◌+◌, ◌-◌, nat_lt, Bool, true, false, not, ◌==◌, ◌&&◌, ◌||◌, if◌then◌else◌}
use Rattle.std.specs.Prelude.{List, [], ◌∷◌, length, slice_range}
use Rattle.std.specs.List.{list_any}
use Rattle.words.specs.declared.vocabulary.Mark.TheVariants.{LeftParenthesis, RightParenthesis, Comma, AssignSign}
use Rattle.words.specs.declared.vocabulary.ReservedWord.TheVariants.{Based}
use Rattle.convert.specs.declared.class.Class.{Class}
use Rattle.convert.specs.declared.class.Class.TheVariants as classes
use Rattle.convert.specs.declared.class.Seen.{Seen}
use Rattle.convert.specs.declared.groups.TheConstants.{DEEPEST}

-- tests of a class
abbrev pub is_left : Class → Bool
is_left (classes.Mark LeftParenthesis) = true
is_left class = false

abbrev pub is_right : Class → Bool
is_right (classes.Mark RightParenthesis) = true
is_right class = false

abbrev pub is_comma : Class → Bool
is_comma (classes.Mark Comma) = true
is_comma class = false

abbrev pub is_based : Class → Bool
is_based (classes.Reserved Based) = true
is_based class = false

abbrev pub is_assign : Class → Bool
is_assign (classes.Mark AssignSign) = true
is_assign class = false

abbrev pub is_string : Class → Bool
is_string classes.String = true
is_string class = false

-- whether a word is a string that is not one character between quotes
abbrev pub is_text : Seen → Bool
is_text seen = is_string seen.class && not (length seen.word.text.now == 3)

-- how many parentheses are open after a word
abbrev pub depth_after : ℕ → Class → ℕ
depth_after depth class = if is_left class then depth + 1 else (if is_right class then depth - 1 else depth)

-- how many words there are up to the one that closes all parentheses, of which this many are open; 0 if none does, or
-- if they are too deep
abbrev pub closing : ℕ → ℕ → List Seen → ℕ
closing count depth [] = 0
closing count depth (seen ∷ words) =
    let after = depth_after depth seen.class in
    if after == 0 then count + 1 else (if nat_lt DEEPEST after then 0 else closing (count + 1) after words)

-- how many words the group at the front has, with its parentheses; 0 if there is no group
abbrev pub group_length : List Seen → ℕ
group_length [] = 0
group_length (seen ∷ words) = if is_left seen.class then closing 1 1 words else 0

-- the words of a group without its parentheses
abbrev pub inner : List Seen → List Seen
inner group = slice_range group 1 (length group - 1)

-- how many words come before the first comma that is in no further parentheses, or all
abbrev pub item_end : ℕ → List Seen → ℕ
item_end depth [] = 0
item_end depth (seen ∷ words) =
    if (depth == 0) && is_comma seen.class then 0 else 1 + item_end (depth_after depth seen.class) words

abbrev pub item_length : List Seen → ℕ
item_length words = item_end 0 words

-- how many commas are in no further parentheses
abbrev pub commas : ℕ → List Seen → ℕ
commas depth [] = 0
commas depth (seen ∷ words) =
    if (depth == 0) && is_comma seen.class then 1 + commas depth words
    else commas (depth_after depth seen.class) words

-- whether a word that passes a test is in no further parentheses
abbrev pub has_outside : (Class → Bool) → ℕ → List Seen → Bool
has_outside test depth [] = false
has_outside test depth (seen ∷ words) =
    if (depth == 0) && test seen.class then true
    else has_outside test (depth_after depth seen.class) words

-- whether words have a string of several characters
abbrev pub has_text : List Seen → Bool
has_text words = list_any is_text words
