-- Where rules fit.
use Rattle.std.specs.Prelude.{ℕ, ◌+◌, nat_lt, Bool, true, false, not, ◌==◌, ◌&&◌, if◌then◌else◌}
use Rattle.std.specs.Prelude.{List, [], ◌∷◌, take, drop}
use Rattle.words.specs.declared.vocabulary.ReservedWord.TheVariants.{Eof}
use Rattle.convert.specs.declared.class.Class.{Class}
use Rattle.convert.specs.declared.class.Class.TheVariants as classes
use Rattle.convert.specs.declared.class.Seen.{Seen}
use Rattle.convert.specs.declared.rule.Part.{Part}
use Rattle.convert.specs.declared.rule.Part.TheVariants as parts
use Rattle.convert.specs.Numbers.{class_number, is_attribute, is_type, is_scope, is_values, is_name}
use Rattle.convert.specs.Groups.{group_length, inner, commas, has_outside, is_based, is_assign, has_text}
use Rattle.convert.specs.Sides.{clash_length}

-- one word, if it passes a test
abbrev pub one : (Class → Bool) → List Seen → ℕ
one test [] = 0
one test (seen ∷ words) = if test seen.class then 1 else 0

-- a word of a class
abbrev pub class_length : Class → List Seen → ℕ
class_length class words = one (λ found. class_number found == class_number class) words

-- a name, or the group at the front
abbrev pub name_length : List Seen → ℕ
name_length [] = group_length []
name_length (seen ∷ words) = if is_name seen.class then 1 else group_length (seen ∷ words)

-- what the group at the front holds
abbrev pub held : List Seen → List Seen
held words = inner (take (group_length words) words)

-- a group with BASED, of several items or of one
abbrev pub based_length : Bool → List Seen → ℕ
based_length several words =
    if has_outside is_based 0 (held words)
    then (if nat_lt 0 (commas 0 (held words)) then (if several then group_length words else 0)
    else (if several then 0 else group_length words))
    else 0

-- a group of several items, none with BASED
abbrev pub list_length : List Seen → ℕ
list_length words =
    if not (has_outside is_based 0 (held words)) && nat_lt 0 (commas 0 (held words)) then group_length words else 0

-- a group with `:=` in no further parentheses
abbrev pub assigning_length : List Seen → ℕ
assigning_length words = if has_outside is_assign 0 (held words) then group_length words else 0

-- a group with this many commas, and no string of several characters
abbrev pub items_length : ℕ → List Seen → ℕ
items_length first words =
    if not (has_text (held words)) && (commas 0 (held words) == first) then group_length words else 0

-- EOF, if no word comes after it
abbrev pub end_length : List Seen → ℕ
end_length [] = 0
end_length (seen ∷ []) = class_length (classes.Reserved Eof) (seen ∷ [])
end_length (seen ∷ other ∷ words) = 0

-- How many words at the front are a part; 0 if it does not fit there. The first part of the rule has this many commas.
abbrev pub part_length : Part → ℕ → List Seen → ℕ
part_length (parts.Is class) first words = class_length class words
part_length parts.Type first words = one is_type words
part_length parts.Scope first words = one is_scope words
part_length parts.Values first words = one is_values words
part_length parts.Group first words = group_length words
part_length parts.Names first words = name_length words
part_length parts.BasedOne first words = based_length false words
part_length parts.BasedList first words = based_length true words
part_length parts.List first words = list_length words
part_length parts.Assigning first words = assigning_length words
part_length parts.ItemsFor first words = items_length first words
part_length parts.Attribute first words = one is_attribute words
part_length parts.EndOfText first words = end_length words
part_length parts.Clash first words = clash_length words

-- How many words at the front are the parts of a rule, after this many words; 0 if one does not fit there.
abbrev pub length_of_parts : ℕ → List Part → ℕ → List Seen → ℕ
length_of_parts before [] first words = before
length_of_parts before (part ∷ parts) first words =
    if part_length part first words == 0 then 0
    else length_of_parts (before + part_length part first words) parts first (drop (part_length part first words) words)
