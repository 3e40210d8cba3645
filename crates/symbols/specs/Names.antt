-- What a name is, and which one a text has.
use Rattle.std.specs.Prelude.{ℕ, Bool, false, ◌&&◌, ◌||◌, ◌==◌, not, List, [], ◌∷◌, map, filter, length, nat_le}
use Rattle.std.specs.List.{list_all}
use Rattle.std.specs.Char.{is_ascii_uppercase, is_ascii_digit, to_ascii_uppercase}

-- the characters of a name or a number, from the bytes of its word: `$` is ignored, and a small letter is read
-- as its capital
abbrev pub name_of : List ℕ → List ℕ
name_of text = map to_ascii_uppercase (filter (λ b. not (b == 36)) text)

-- a capital letter or a digit
abbrev pub is_name_character : ℕ → Bool
is_name_character c = is_ascii_uppercase c || is_ascii_digit c

-- a capital letter, and then at most 30 capital letters and digits
abbrev pub is_name : List ℕ → Bool
is_name [] = false
is_name (first ∷ rest) =
    is_ascii_uppercase first && list_all is_name_character rest && nat_le (length rest) 30
