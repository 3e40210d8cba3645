-- Numbers (PL/M-80 Programming Manual, on whole number constants).
use Rattle.std.specs.Prelude.{ℕ, ◌+◌, ◌-◌, ◌*◌, ◌==◌, ◌&&◌, ◌||◌, nat_lt, nat_le, if◌then◌else◌}
use Rattle.std.specs.Prelude.{Option, None, Some, List, length, take, slice_index, fold}
use Rattle.std.specs.List.{list_all}
use Rattle.std.specs.Option.{option_map_or}
use Rattle.std.specs.Char.{is_ascii_digit}
use Rattle.words.specs.declared.items.Cause.TheVariants.{BadNumber}
use Rattle.words.specs.declared.items.Item.{Item}
use Rattle.words.specs.declared.items.Item.TheVariants.{Spelled, Wrong}
use Rattle.words.specs.declared.limits.TheConstants.{GREATEST_NUMBER}
use Rattle.words.specs.declared.vocabulary.Kind.TheVariants.{Number}
use Rattle.symbols.specs.Names.{name_of}

-- the base that the last character of a number stands for: B for 2, O and Q for 8, D for 10, H for 16
abbrev pub base_of : ℕ → Option ℕ
base_of c =
    if c == 66 then Some 2
    else (if (c == 79) || (c == 81) then Some 8
    else (if c == 68 then Some 10
    else (if c == 72 then Some 16
    else None)))

-- 0 to 9 for a digit, 10 for A, 11 for B and so on
abbrev pub digit_value : ℕ → ℕ
digit_value c = if is_ascii_digit c then c - 48 else c - 55

-- the value of digits, the highest first
abbrev pub value_of : ℕ → List ℕ → ℕ
value_of base digits = fold (λ value digit. value * base + digit_value digit) 0 digits

-- the number that the digits are, if each is a digit of the base and the value is not too great
abbrev pub number_in : ℕ → List ℕ → Option ℕ
number_in base digits =
    if list_all (λ digit. nat_lt (digit_value digit) base) digits
    && nat_le (value_of base digits) GREATEST_NUMBER
    then Some (value_of base digits)
    else None

-- with a letter of a base at the end the digits are those before it, otherwise all are decimal
abbrev pub number_with : Option ℕ → List ℕ → Option ℕ
number_with None characters = number_in 10 characters
number_with (Some base) characters = number_in base (take (length characters - 1) characters)

-- the number with these characters, if they are one
abbrev pub number_of : List ℕ → Option ℕ
number_of characters = number_with (base_of (slice_index characters (length characters - 1))) characters

-- a word that begins with a digit, whose bytes are the text
abbrev pub number_item : List ℕ → Item
number_item text =
    option_map_or (λ value. Spelled (Number value) (length text)) (number_of (name_of text)) (Wrong BadNumber)
