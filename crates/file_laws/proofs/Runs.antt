-- An image has one row of longest runs.
use Rattle.file_laws.proofs.Prelude.{◌≡◌, ℕ, ◌+◌, ◌-◌, ◌<◌, ◌≤◌, Bool, true, false, cond, ◌&&◌, nat_lt, nat_le, List, [], ◌∷◌, length, Option, Some, None, option_map, refl, ap, sym, ◌∙◌, arith, find, slice_index, and_parts, and_left, and_right, and_from, ltb-true, ltb-false, lt-ltb, le-leb, lt-leb, le-ltb, same_number_lists, Piece, AreLongestRuns, are_runs, byte_in, has_address, has_bytes}

abbrev end_of : Piece → ℕ
end_of piece = piece.start + length piece.bytes

-- a piece has a byte from its start to its end
has_it :
    (piece : Piece) (address : ℕ) → piece.start ≤ address → address < end_of piece
    → has_address address piece ≡ true
has_it piece address low high =
    and_from (nat_le piece.start address) (nat_lt address (end_of piece)) (le-leb piece.start address low)
    (lt-ltb address (end_of piece) high)

before_it : (piece : Piece) (address : ℕ) → address < piece.start → has_address address piece ≡ false
before_it piece address low =
    and_left (nat_le piece.start address) (nat_lt address (end_of piece)) (lt-leb piece.start address low)

after_it : (piece : Piece) (address : ℕ) → end_of piece ≤ address → has_address address piece ≡ false
after_it piece address high =
    and_right (nat_le piece.start address) (nat_lt address (end_of piece))
    (le-ltb address (end_of piece) high)

-- what pieces have where the first of them has a byte, or none
first_has :
    (piece : Piece) (others : List Piece) (address : ℕ) → has_address address piece ≡ true
    → byte_in (piece ∷ others) address ≡ Some (slice_index piece.bytes (address - piece.start))
first_has piece others address h =
    ap (λ b. option_map (λ (found : Piece). slice_index found.bytes (address - found.start))
    (cond b (Some piece) (find (has_address address) others))) h

others_have :
    (piece : Piece) (others : List Piece) (address : ℕ) → has_address address piece ≡ false
    → byte_in (piece ∷ others) address ≡ byte_in others address
others_have piece others address h =
    ap (λ b. option_map (λ (found : Piece). slice_index found.bytes (address - found.start))
    (cond b (Some piece) (find (has_address address) others))) h

-- what runs are
record IsRun (piece : Piece) (others : List Piece) : Type 0 where
  some : 0 < length piece.bytes
  later : are_runs others ≡ true
  none_between : (address : ℕ) → address ≤ end_of piece → byte_in others address ≡ None

-- nothing lies before the first run
none_before :
    (piece : Piece) (others : List Piece) (address : ℕ) → are_runs (piece ∷ others) ≡ true
    → address < piece.start
    → byte_in (piece ∷ others) address ≡ None
none_before piece [] address h low = others_have piece [] address (before_it piece address low)
none_before piece (next ∷ others) address h low =
    let cut = and_parts (has_bytes piece && nat_lt (end_of piece) next.start) (are_runs (next ∷ others)) h in
    let first = and_parts (has_bytes piece) (nat_lt (end_of piece) next.start) cut.0 in
    let apart : end_of piece < next.start = ltb-true (end_of piece) next.start first.1 in
    others_have piece (next ∷ others) address (before_it piece address low)
    ∙ none_before next others address cut.1 (omega (arith, low, apart))

is_run : (piece : Piece) (others : List Piece) → are_runs (piece ∷ others) ≡ true → IsRun piece others
is_run piece [] h =
    record { some = ltb-true 0 (length piece.bytes) h; later = refl; none_between = λ address low. refl }
is_run piece (next ∷ others) h =
    let cut = and_parts (has_bytes piece && nat_lt (end_of piece) next.start) (are_runs (next ∷ others)) h in
    let first = and_parts (has_bytes piece) (nat_lt (end_of piece) next.start) cut.0 in
    let apart : end_of piece < next.start = ltb-true (end_of piece) next.start first.1 in
    record {
      some = ltb-true 0 (length piece.bytes) first.0;
      later = cut.1;
      none_between = λ address low. none_before next others address cut.1 (omega (arith, low, apart));
    }

-- two rows have the same byte at each address
abbrev SameBytes : (left right : List Piece) → Type 0
SameBytes left right = (address : ℕ) → byte_in left address ≡ byte_in right address

some_is_none : {P : Type 0} (byte : ℕ) (found : Option ℕ) → found ≡ Some byte → found ≡ None → P
some_is_none byte found h none = absurd (let bad : Some byte ≡ None = sym h ∙ none in cc)

-- where one begins the other has a byte, so it begins there or before
begins_before :
    (left right : Piece) (others more : List Piece) → are_runs (left ∷ others) ≡ true
    → are_runs (right ∷ more) ≡ true → SameBytes (left ∷ others) (right ∷ more) → right.start ≤ left.start
begins_before left right others more l r same = go (nat_lt left.start right.start) refl
  where
    go : (b : Bool) → nat_lt left.start right.start ≡ b → right.start ≤ left.start
    go false e = ltb-false left.start right.start e
    go true e =
        let run = is_run left others l in
        let some = run.some in
        some_is_none (slice_index left.bytes (left.start - left.start)) (byte_in (left ∷ others) left.start)
        (first_has left others left.start (has_it left left.start (omega arith) (omega (arith, some))))
        (same left.start ∙ none_before right more left.start r (ltb-true left.start right.start e))

-- and where one ends the other ends, or before
ends_before :
    (left right : Piece) (others more : List Piece) → are_runs (left ∷ others) ≡ true
    → are_runs (right ∷ more) ≡ true → SameBytes (left ∷ others) (right ∷ more) → left.start ≡ right.start
    → end_of right ≤ end_of left
ends_before left right others more l r same begin = go (nat_lt (end_of left) (end_of right)) refl
  where
    go : (b : Bool) → nat_lt (end_of left) (end_of right) ≡ b → end_of right ≤ end_of left
    go false e = ltb-false (end_of left) (end_of right) e
    go true e =
        let run = is_run left others l in
        let low = ltb-true (end_of left) (end_of right) e in
        some_is_none (slice_index right.bytes (end_of left - right.start))
        (byte_in (right ∷ more) (end_of left))
        (first_has right more (end_of left) (has_it right (end_of left) (omega (arith, begin)) low))
        (sym (same (end_of left)) ∙ others_have left others (end_of left)
        (after_it left (end_of left) (omega arith))
        ∙ run.none_between (end_of left) (omega arith))

abbrev given : (byte : ℕ) → Option ℕ → ℕ
given byte None = byte
given byte (Some found) = found

same_piece :
    (left right : Piece) (others more : List Piece) → are_runs (left ∷ others) ≡ true
    → are_runs (right ∷ more) ≡ true → SameBytes (left ∷ others) (right ∷ more) → left ≡ right
same_piece left right others more l r same =
    let one = begins_before left right others more l r same in
    let other = begins_before right left more others r l (λ address. sym (same address)) in
    let begin : left.start ≡ right.start = omega (arith, one, other) in
    let short = ends_before left right others more l r same begin in
    let long = ends_before right left more others r l (λ address. sym (same address)) (sym begin) in
    let size : length left.bytes ≡ length right.bytes = omega (arith, begin, short, long) in
    let bytes : left.bytes ≡ right.bytes =
    same_number_lists left.bytes right.bytes size
    (λ k low.
    let here : ℕ = left.start + k in
    let from_left : here - left.start ≡ k = omega arith in
    let from_right : here - right.start ≡ k = omega (arith, begin) in
    let at : slice_index left.bytes (here - left.start) ≡ slice_index right.bytes (here - right.start) =
    ap (given (slice_index left.bytes (here - left.start)))
    (sym (first_has left others here (has_it left here (omega arith) (omega (arith, low))))
    ∙ same here
    ∙ first_has right more here
    (has_it right here (omega (arith, begin)) (omega (arith, low, begin, size)))) in
    sym (ap (slice_index left.bytes) from_left) ∙ at ∙ ap (slice_index right.bytes) from_right) in
    ap (λ start. piece_of start left.bytes) begin ∙ ap (piece_of right.start) bytes
  where
    piece_of : ℕ → List ℕ → Piece
    piece_of start bytes = record { start = start; bytes = bytes }

-- the rest has the same bytes
rest_same :
    (piece : Piece) (others more : List Piece) → are_runs (piece ∷ others) ≡ true
    → are_runs (piece ∷ more) ≡ true
    → SameBytes (piece ∷ others) (piece ∷ more) → SameBytes others more
rest_same piece others more l r same address = go (nat_lt address (end_of piece)) refl
  where
    go : (b : Bool) → nat_lt address (end_of piece) ≡ b → byte_in others address ≡ byte_in more address
    go true e =
        let low = ltb-true address (end_of piece) e in
        let one = is_run piece others l in
        let other = is_run piece more r in
        one.none_between address (omega (arith, low)) ∙ sym (other.none_between address (omega (arith, low)))
    go false e =
        let out = after_it piece address (ltb-false address (end_of piece) e) in
        sym (others_have piece others address out) ∙ same address ∙ others_have piece more address out

one_row :
    (left right : List Piece) → are_runs left ≡ true → are_runs right ≡ true
    → SameBytes left right → left ≡ right
one_row [] [] l r same = refl
one_row [] (piece ∷ others) l r same =
    let some = (is_run piece others r).some in
    some_is_none (slice_index piece.bytes (piece.start - piece.start)) (byte_in (piece ∷ others) piece.start)
    (first_has piece others piece.start (has_it piece piece.start (omega arith) (omega (arith, some))))
    (sym (same piece.start))
one_row (piece ∷ others) [] l r same =
    let some = (is_run piece others l).some in
    some_is_none (slice_index piece.bytes (piece.start - piece.start)) (byte_in (piece ∷ others) piece.start)
    (first_has piece others piece.start (has_it piece piece.start (omega arith) (omega (arith, some))))
    (same piece.start)
one_row (piece ∷ others) (next ∷ more) l r same =
    let equal : piece ≡ next = same_piece piece next others more l r same in
    let later : are_runs (piece ∷ more) ≡ true = ap (λ first. are_runs (first ∷ more)) equal ∙ r in
    let there : SameBytes (piece ∷ others) (piece ∷ more) =
    λ address. same address ∙ sym (ap (λ first. byte_in (first ∷ more) address) equal) in
    ap (λ first. first ∷ others) equal
    ∙ ap (λ rest. next ∷ rest)
    (one_row others more (is_run piece others l).later (is_run piece more later).later
    (rest_same piece others more l later there))

pub one_image :
    (left right : List Piece) (bytes_at : ℕ → Option ℕ) → AreLongestRuns left bytes_at
    → AreLongestRuns right bytes_at → left ≡ right
one_image left right bytes_at l r =
    one_row left right l.runs r.runs (λ address. l.bytes address ∙ sym (r.bytes address))
