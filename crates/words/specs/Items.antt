-- The item at one place of a text (PL/M-80 Programming Manual, on tokens, separators and blanks).
use Rattle.std.specs.Prelude.{ℕ, false, ◌==◌, ◌&&◌, if◌then◌else◌}
use Rattle.std.specs.Prelude.{List, [], ◌∷◌, length, drop, slice_index, take_while}
use Rattle.std.specs.Char.{is_ascii_alphabetic, is_ascii_digit}
use Rattle.words.specs.declared.items.Item.{Item}
use Rattle.words.specs.declared.items.Item.TheVariants.{Ending, Blank}
use Rattle.words.specs.Characters.{is_word_byte, is_blank}
use Rattle.words.specs.Marks.{mark_item}
use Rattle.words.specs.Names.{name_item}
use Rattle.words.specs.Numbers.{number_item}
use Rattle.words.specs.Strings.{string_end, string_item, comment_end, comment_item}

-- the item that begins with a byte other than a blank, letter, digit or quote: a comment, a mark, or a fault
abbrev pub comment_or_mark : ℕ → List ℕ → Item
comment_or_mark first text =
    if (first == 47) && (slice_index text 0 == 42) then comment_item (comment_end false (drop 1 text))
    else mark_item (first ∷ text)

-- The item with which a text begins: a run of blanks, a name, a number, a string, a comment, or a mark, each
-- as long as it can be.
abbrev pub item_at : List ℕ → Item
item_at [] = Ending
item_at (first ∷ text) =
    if is_blank first then Blank (length (take_while is_blank (first ∷ text)))
    else (if is_ascii_alphabetic first then name_item (take_while is_word_byte (first ∷ text))
    else (if is_ascii_digit first then number_item (take_while is_word_byte (first ∷ text))
    else (if first == 39 then string_item (string_end false text)
    else comment_or_mark first text)))
