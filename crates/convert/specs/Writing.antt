-- What rules write.
use Rattle.std.specs.Prelude.{ℕ, zero, suc, true, false}
use Rattle.std.specs.Prelude.{List, [], ◌∷◌, ◌++◌, take, drop}
use Rattle.std.specs.List.{flat_map}
use Rattle.convert.specs.declared.class.Seen.{Seen}
use Rattle.convert.specs.declared.rule.Part.{Part}
use Rattle.convert.specs.declared.rule.Put.{Put}
use Rattle.convert.specs.declared.rule.Put.TheVariants as puts
use Rattle.convert.specs.declared.rule.Value.{Value}
use Rattle.convert.specs.declared.rule.Value.TheVariants as values
use Rattle.convert.specs.Groups.{inner}
use Rattle.convert.specs.Lists.{list_text}
use Rattle.convert.specs.Matching.{part_length}
use Rattle.convert.specs.Texts.{between, end_after, start_of, text_of}
use Rattle.convert.specs.Wrapping.{wrapped_text}

-- the words of the part of this number, from 0
abbrev pub words_of_part : List Part → ℕ → ℕ → List Seen → List Seen
words_of_part [] number first words = []
words_of_part (part ∷ parts) zero first words = take (part_length part first words) words
words_of_part (part ∷ parts) (suc number) first words =
    words_of_part parts number first (drop (part_length part first words) words)

-- the text from one part to another
abbrev pub attributes_of : List ℕ → List Part → ℕ → List Seen → ℕ → ℕ → List ℕ
attributes_of source parts first words from last =
    between source (start_of (words_of_part parts from first words)) (end_after 0 (words_of_part parts last first words))

-- the text after a part, up to the end of another
abbrev pub text_after : List ℕ → List Part → ℕ → List Seen → ℕ → ℕ → List ℕ
text_after source parts first words part last =
    between source (end_after 0 (words_of_part parts part first words)) (end_after 0 (words_of_part parts last first words))

-- the words of the group that has the values
abbrev pub values_of : List Part → ℕ → List Seen → Value → List Seen
values_of parts first words values.Nothing = []
values_of parts first words (values.Item number) = inner (words_of_part parts number first words)
values_of parts first words (values.Address number bytes) = inner (words_of_part parts number first words)

-- the words of a group, each item that assigns in parentheses
abbrev pub wrapped : List ℕ → List Seen → List ℕ
wrapped source words = 40 ∷ (wrapped_text source true false (start_of words) (start_of words) 0 words ++ 41 ∷ [])

-- the names of a list, each with attributes and its value
abbrev pub divided : List ℕ → List ℕ → Value → List Seen → List Seen → List ℕ
divided source attributes value values names =
    list_text source attributes value 0 values (start_of names) (start_of names) 0 names

-- what a rule with these parts writes for one of its pieces
abbrev pub put_text : List ℕ → List Part → ℕ → List Seen → Put → List ℕ
put_text source parts first words (puts.Copy number) = text_of source (words_of_part parts number first words)
put_text source parts first words (puts.After part last) = text_after source parts first words part last
put_text source parts first words (puts.Text bytes) = bytes.now
put_text source parts first words (puts.Inner number) = text_of source (inner (words_of_part parts number first words))
put_text source parts first words (puts.Wrapped number) = wrapped source (inner (words_of_part parts number first words))
put_text source parts first words (puts.Each from last value) =
    divided source (attributes_of source parts first words from last) value (values_of parts first words value)
    (inner (words_of_part parts 0 first words))

abbrev pub puts_text : List ℕ → List Part → ℕ → List Seen → List Put → List ℕ
puts_text source parts first words puts = flat_map (put_text source parts first words) puts
