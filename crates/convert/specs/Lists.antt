-- Lists of names, divided, and lists of items, each in parentheses of its own.
use Rattle.std.specs.Prelude.{ℕ, ◌+◌, ◌*◌, Bool, true, false, ◌==◌, ◌&&◌, if◌then◌else◌}
use Rattle.std.specs.Prelude.{List, [], ◌∷◌, ◌++◌, length, take, drop, codes, decimal}
use Rattle.convert.specs.declared.class.Seen.{Seen}
use Rattle.convert.specs.declared.rule.Value.{Value}
use Rattle.convert.specs.declared.rule.Value.TheVariants as values
use Rattle.convert.specs.Groups.{depth_after, has_outside, is_assign, is_comma, item_length}
use Rattle.convert.specs.Texts.{between, text_of}

-- where a word ends
abbrev pub end_of_word : Seen → ℕ
end_of_word seen = seen.word.start + length seen.word.text.now

-- what is added to an address for the item of a number
abbrev pub offset_text : ℕ → ℕ → List ℕ
offset_text number bytes = if number == 0 then [] else codes " + " ++ decimal (number * bytes)

-- the value of the item of a number, after its attributes
abbrev pub value_text : List ℕ → Value → ℕ → List Seen → List ℕ
value_text source values.Nothing number values = []
value_text source (values.Item part) number values =
    codes " (" ++ text_of source (take (item_length values) values) ++ codes ")"
value_text source (values.Address part bytes) number values =
    codes " (" ++ text_of source values ++ offset_text number bytes ++ codes ")"

-- the values of the items after one
abbrev pub next_values : Value → List Seen → List Seen
next_values values.Nothing values = values
next_values (values.Item part) values = drop (item_length values + 1) values
next_values (values.Address part bytes) values = values

-- the text after item `number`
abbrev pub ending : List ℕ → List ℕ → Value → ℕ → List Seen → List ℕ
ending source attributes value number values = 32 ∷ (attributes ++ value_text source value number values)

-- The words of a list, each item with attributes and its value. The item that is begun has a number, from 0, begins at a
-- place, and has come to an end; it is in this many parentheses there.
abbrev pub list_text : List ℕ → List ℕ → Value → ℕ → List Seen → ℕ → ℕ → ℕ → List Seen → List ℕ
list_text source attributes value number values place end depth [] =
    between source place end ++ ending source attributes value number values
list_text source attributes value number values place end depth (seen ∷ words) =
    if (depth == 0) && is_comma seen.class then
    between source place end ++ (ending source attributes value number values ++ (44 ∷
    list_text source attributes value (number + 1) (next_values value values)
    (seen.word.start + 1) (seen.word.start + 1) depth words))
    else list_text source attributes value number values place (end_of_word seen) (depth_after depth seen.class) words
