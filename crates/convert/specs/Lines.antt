-- Lines of old sources.
use Rattle.std.specs.Prelude.{ℕ, ◌-◌, Bool, true, false, not, ◌==◌, ◌&&◌, if◌then◌else◌}
use Rattle.std.specs.Prelude.{List, [], ◌∷◌, ◌++◌, length, take, get_or}
use Rattle.std.specs.List.{list_any, slice_split}
use Rattle.convert.specs.Edits.{gap}

-- a blank between two bytes that would be of one word, if a form feed stood there
abbrev pub fed_gap : (fed : Bool) → ℕ → ℕ → List ℕ
fed_gap fed before after = if fed then gap before after else []

-- a text up to the first ^Z (26), without form feeds (12) and zeros, after a byte and, if `fed`, a form feed
abbrev pub plain_after : ℕ → (fed : Bool) → List ℕ → List ℕ
plain_after last fed [] = []
plain_after last fed (c ∷ source) =
    if c == 26 then [] else (if c == 12 then plain_after last true source else
    (if c == 0 then plain_after last fed source else fed_gap fed last c ++ (c ∷ plain_after c false source)))

abbrev pub plain : List ℕ → List ℕ
plain source = plain_after 32 false source

-- the lines of a text, without the line feeds (10) between them
abbrev pub lines_of : List ℕ → List (List ℕ)
lines_of text = slice_split (λ c. c == 10) text

-- a text with returns (13), but without line feeds (10), is one line
abbrev pub is_unbroken : List ℕ → Bool
is_unbroken text = list_any (λ c. c == 13) text && not (list_any (λ c. c == 10) text)

-- a line with controls begins with a dollar sign (36)
abbrev pub is_control : List ℕ → Bool
is_control [] = false
is_control (c ∷ line) = c == 36

-- the return (13) with which a line may end
abbrev pub return_of : List ℕ → List ℕ
return_of line = if get_or line (length line - 1) 0 == 13 then 13 ∷ [] else []

-- a text without a line feed at its end
abbrev pub without_end : List ℕ → List ℕ
without_end text = if get_or text (length text - 1) 0 == 10 then take (length text - 1) text else text

-- the lines of a file that is included: a line feed at its end ends the last one
abbrev pub lines_of_file : List ℕ → List (List ℕ)
lines_of_file text = lines_of (without_end text)
