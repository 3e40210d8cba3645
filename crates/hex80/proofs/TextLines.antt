-- The lines of a text that is written.
use Rattle.std.proofs.lemmas.Bool.{ne_eqb}
use Rattle.hex80.proofs.Prelude.{◌≡◌, ℕ, ◌+◌, ◌-◌, ◌/◌, ◌%◌, ◌<◌, ◌≤◌, Bool, true, false, cond, ◌==◌, nat_lt, List, [], ◌∷◌, ◌++◌, length, get_or, take, flat_map, map, refl, ap, sym, ◌∙◌, arith, All, AllByRecursion, slice_split, onto_first, lines, lines_of_parts, strip_carriage_return, eqb-true, append_assoc, All-from_recursion, All-get_or, slice_split_at, Piece, checksum_of, digit_of, digits_of, data_line_bytes, data_line, end_line, ended_line, written_line}

-- a character that ends no line
abbrev IsPlain : ℕ → Type 0
IsPlain character = 48 ≤ character

not_equal : (a b : ℕ) → b < a → (a == b) ≡ false
not_equal a b h = ne_eqb a b (λ (same : a ≡ b). omega arith)

-- the parts of a text are some
pub data Parts (xs : List ℕ) : Type 0 where
  Some_parts : (first : List ℕ) (others : List (List ℕ))
      → slice_split (λ b. b == 10) xs ≡ first ∷ others → Parts xs

pub parts_of_text : (xs : List ℕ) → Parts xs
parts_of_text [] = Some_parts [] [] refl
parts_of_text (x ∷ xs) = go (x == 10) refl (parts_of_text xs)
  where
    go : (b : Bool) → (x == 10) ≡ b → Parts xs → Parts (x ∷ xs)
    go true e p = Some_parts [] (slice_split (λ c. c == 10) xs)
        (ap (λ t. cond t ([] ∷ slice_split (λ c. c == 10) xs) (onto_first x (slice_split (λ c. c == 10) xs)))
        e)
    go false e (Some_parts first others is) = Some_parts (x ∷ first) others
        (ap (λ t. cond t ([] ∷ slice_split (λ c. c == 10) xs) (onto_first x (slice_split (λ c. c == 10) xs)))
        e
        ∙ ap (onto_first x) is)

-- a line before a line feed, and the lines after it
pub line_before :
    (line rest : List ℕ) → All (λ c. (c == 10) ≡ false) line
    → lines (line ++ 10 ∷ rest) ≡ strip_carriage_return line ∷ lines rest
line_before line rest plain =
    ap lines_of_parts (slice_split_at (λ b. b == 10) line 10 rest plain refl) ∙ go (parts_of_text rest)
  where
    go : Parts rest → lines_of_parts (line ∷ slice_split (λ b. b == 10) rest)
        ≡ strip_carriage_return line ∷ lines rest
    go (Some_parts first others is) =
        ap (λ p. lines_of_parts (line ∷ p)) is
        ∙ ap (λ p. strip_carriage_return line ∷ lines_of_parts p) (sym is)

no_feeds : (line : List ℕ) → AllByRecursion IsPlain line → AllByRecursion (λ c. (c == 10) ≡ false) line
no_feeds [] plain = tt
no_feeds (c ∷ line) plain =
    let low : 48 ≤ c = plain.0 in (not_equal c 10 (omega arith), no_feeds line plain.1)

no_return : (line : List ℕ) → 0 < length line → AllByRecursion IsPlain line
    → strip_carriage_return line ≡ line
no_return line some plain =
    let last : 48 ≤ get_or line (length line - 1) 0 =
    All-get_or IsPlain line (length line - 1) 0 (omega arith) (All-from_recursion IsPlain line plain) in
    ap (λ t. cond t (take (length line - 1) line) line)
    (not_equal (get_or line (length line - 1) 0) 13 (omega arith))

plain_line :
    (line rest : List ℕ) → 0 < length line → AllByRecursion IsPlain line
    → lines (ended_line line ++ rest) ≡ line ∷ lines rest
plain_line line rest some plain =
    ap lines (append_assoc line (10 ∷ []) rest)
    ∙ line_before line rest (All-from_recursion (λ c. (c == 10) ≡ false) line (no_feeds line plain))
    ∙ ap (λ l. l ∷ lines rest) (no_return line some plain)

plain_digit : (number : ℕ) → IsPlain (digit_of number)
plain_digit number = go (nat_lt number 10) refl
  where
    go : (b : Bool) → nat_lt number 10 ≡ b → 48 ≤ cond b (48 + number) (55 + number)
    go true e = omega arith
    go false e = omega arith

plain_digits : (bytes : List ℕ) → AllByRecursion IsPlain (flat_map digits_of bytes)
plain_digits [] = tt
plain_digits (byte ∷ others) = (plain_digit (byte / 16), (plain_digit (byte % 16), plain_digits others))

-- the lines of rows, and of the end
pub lines_of_rows :
    (rows : List Piece)
    → lines (flat_map written_line rows ++ ended_line end_line) ≡ map data_line rows ++ end_line ∷ []
lines_of_rows [] = refl
lines_of_rows (row ∷ others) =
    let bytes : List ℕ = data_line_bytes row in
    ap lines (append_assoc (written_line row) (flat_map written_line others) (ended_line end_line))
    ∙ plain_line (data_line row) (flat_map written_line others ++ ended_line end_line) (omega arith)
    ((let z : 48 ≤ 58 = omega arith in z), plain_digits (bytes ++ checksum_of bytes ∷ []))
    ∙ ap (λ l. data_line row ∷ l) (lines_of_rows others)
