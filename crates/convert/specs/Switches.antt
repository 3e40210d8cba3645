-- Switches, which SET and RESET change, and conditions of them.
use Rattle.std.specs.Prelude.{ℕ, Bool, true, false, not, ◌==◌, ◌&&◌, ◌||◌, if◌then◌else◌, Option, None, Some}
use Rattle.std.specs.Prelude.{List, [], ◌∷◌, length, codes}
use Rattle.std.specs.List.{list_all, slice_split}
use Rattle.std.specs.Char.{is_ascii_alphabetic}
use Rattle.std.specs.Str.{str_eq_ignore_ascii_case}
use Rattle.words.specs.Characters.{is_word_byte}
use Rattle.convert.specs.declared.switches.Condition.{Condition}
use Rattle.convert.specs.declared.switches.Expects.{Expects}
use Rattle.convert.specs.declared.switches.Expects.TheVariants.{Operand, Negated, Operator, Nothing}
use Rattle.convert.specs.declared.switches.Switch.{Switch}
use Rattle.convert.specs.Controls.{is_blank}

-- a switch that was changed, without where its name lies in memory
pub record SwitchView : Type 0 where
  pub name : List ℕ
  pub on : Bool

abbrev pub switch_view : Switch → SwitchView
switch_view switch = record { name = switch.name.now; on = switch.on }

-- whether a switch is on after changes: its last one counts, where the case of letters does not; before, it is this
abbrev pub on_after : Bool → List ℕ → List SwitchView → Bool
on_after on name [] = on
on_after on name (switch ∷ switches) =
    on_after (if str_eq_ignore_ascii_case switch.name name then switch.on else on) name switches

-- whether a switch is on; one that was never changed is off
abbrev pub is_on : List SwitchView → List ℕ → Bool
is_on switches name = on_after false name switches

-- NOT, AND or OR
abbrev pub is_operator : List ℕ → Bool
is_operator word =
    str_eq_ignore_ascii_case word (codes "NOT")
    || (str_eq_ignore_ascii_case word (codes "AND") || str_eq_ignore_ascii_case word (codes "OR"))

-- a letter, a digit, `$` or `_` (95)
abbrev pub is_name_byte : ℕ → Bool
is_name_byte c = is_word_byte c || (c == 95)

abbrev pub begins_name : List ℕ → Bool
begins_name [] = false
begins_name (c ∷ word) = is_ascii_alphabetic c

-- a name: a letter, and then letters, digits, `$` and `_`; not an operator
abbrev pub is_name : List ℕ → Bool
is_name word = begins_name word && (list_all is_name_byte word && not (is_operator word))

-- a condition that is not understood
abbrev pub failed : Condition → Condition
failed condition = record condition { expects = Nothing }

-- a condition with a name that has this value
abbrev pub with_value : List ℕ → Bool → Condition → Condition
with_value word value condition =
    if is_name word then record condition { all = condition.all && value; expects = Operator } else failed condition

abbrev pub with_operand : List SwitchView → List ℕ → Condition → Condition
with_operand switches word condition =
    if str_eq_ignore_ascii_case word (codes "NOT") then record condition { expects = Negated }
    else with_value word (is_on switches word) condition

abbrev pub with_operator : List ℕ → Condition → Condition
with_operator word condition =
    if str_eq_ignore_ascii_case word (codes "AND") then record condition { expects = Operand }
    else (if str_eq_ignore_ascii_case word (codes "OR") then
    record { any = condition.any || condition.all; all = true; expects = Operand } else failed condition)

abbrev pub with_expected : List SwitchView → List ℕ → Condition → Expects → Condition
with_expected switches word condition Operand = with_operand switches word condition
with_expected switches word condition Negated = with_value word (not (is_on switches word)) condition
with_expected switches word condition Operator = with_operator word condition
with_expected switches word condition Nothing = condition

-- a condition with one more word
abbrev pub with_word : List SwitchView → List ℕ → Condition → Condition
with_word switches word condition =
    if length word == 0 then condition else with_expected switches word condition condition.expects

abbrev pub with_words : List SwitchView → List (List ℕ) → Condition → Condition
with_words switches [] condition = condition
with_words switches (word ∷ words) condition = with_words switches words (with_word switches word condition)

-- what a condition says that ends here: any of its parts between ORs; None if it is not understood
abbrev pub said : Condition → Expects → Option Bool
said condition Operator = Some (condition.any || condition.all)
said condition Operand = None
said condition Negated = None
said condition Nothing = None

abbrev pub said_by : Condition → Option Bool
said_by condition = said condition condition.expects

-- a condition before its first word
abbrev pub no_words : Condition
no_words = record { any = false; all = true; expects = Operand }

-- what a text says as a condition: names, each with NOT or without, AND between them, and OR between these
abbrev pub condition_value : List SwitchView → List ℕ → Option Bool
condition_value switches text = said_by (with_words switches (slice_split is_blank text) no_words)

-- a comma (44) or a blank
abbrev pub is_between_names : ℕ → Bool
is_between_names c = (c == 44) || is_blank c

-- what is set or reset: texts with commas and blanks between them
abbrev pub items_of : List ℕ → List (List ℕ)
items_of argument = slice_split is_between_names argument

-- whether the items but empty ones are names; whether there were some before says what holds if there are none
abbrev pub all_names : Bool → List (List ℕ) → Bool
all_names some [] = some
all_names some (item ∷ items) =
    if length item == 0 then all_names some items else (if is_name item then all_names true items else false)

-- whether there are items that are not empty, and these are names
abbrev pub are_names : List (List ℕ) → Bool
are_names items = all_names false items

-- the switches of the items but of empty ones, on or off
abbrev pub switches_of : Bool → List (List ℕ) → List SwitchView
switches_of on [] = []
switches_of on (item ∷ items) =
    if length item == 0 then switches_of on items else record { name = item; on = on } ∷ switches_of on items
