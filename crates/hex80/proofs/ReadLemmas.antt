-- What the parts of the reader do, and what follows for a text.
use Rattle.hex80.proofs.Prelude.{◌≡◌, ℕ, zero, suc, ◌+◌, ◌-◌, ◌*◌, ◌%◌, ◌<◌, ◌≤◌, ◌≢◌, min, Bool, true, false, cond, not, ◌&&◌, ◌||◌, ◌==◌, nat_lt, nat_le, List, [], ◌∷◌, ◌++◌, length, get_or, set, take, drop, replicate, sum, Option, Some, None, Result, Ok, Err, option_map, option_and_then, refl, ap, sym, subst, ◌∙◌, arith, All, list_any, option_map_or, bytes_eq, lines, lines_of_parts, strip_carriage_return, slice_split, onto_first, flat_map, eqb-true, eq-eqb, leb-true, leb-false, le-leb, ltb-true, ltb-false, append_assoc, append-nil, drop_more, drop_all, take_more_set, length-append, length-take, length-drop, take-append-drop, get_or_append_left, get_or-append_right, get_or-replicate, get_or-take, get_or-drop, length-replicate, set_at, replicate-append-replicate, take_rest, drop-drop, All-from_get_or, slice_split_none, bytes_eq-Decides, none-some, Piece, range_of, pieces_meet, has_address, meets_decides, Fault, BadLine, WrongSum, NoEnd, Overlap, digits_of, end_line, digit_value, bytes_in, bytes_of_line, has_form, piece_in, read_line, fault_of_data, fault_of_line, is_empty, fault_at, Spells, HasFirstFault, judged_by, judged_after, judgement_of, byte_of, piece_at, line_at, Marks, marked_from, TakesLine}
use Rattle.hex80.specs.declared.read.Place.{Place}
use Rattle.hex80.proofs.Digits.{IsBytes, bytes_back}
use Rattle.hex80.proofs.Judged.{JudgesText, judged}
use Rattle.hex80.proofs.TextsAgain.{no_fault}
use Rattle.hex80.proofs.Counting.{has_address_is_in, is_in_has_address}
use Rattle.hex80.proofs.TextLines.{line_before, Parts, Some_parts, parts_of_text}

-- bytes in front of others
abbrev pub in_front : List ℕ → Option (List ℕ) → Option (List ℕ)
in_front front others = option_map (λ (rest : List ℕ). front ++ rest) others

pub nothing_in_front : (read : Option (List ℕ)) → read ≡ in_front [] read
nothing_in_front None = refl
nothing_in_front (Some bytes) = refl

pair_read :
    (high low : ℕ) (rest : List ℕ) (byte : ℕ) → byte_of high low ≡ Some byte
    → bytes_in (high ∷ low ∷ rest) ≡ in_front (byte ∷ []) (bytes_in rest)
pair_read high low rest byte h = go (digit_value high) (digit_value low) h (bytes_in rest)
  where
    go : (a b : Option ℕ)
        → option_and_then (λ (h : ℕ). option_map (λ (l : ℕ). 16 * h + l) b) a ≡ Some byte
        → (r : Option (List ℕ))
        → option_and_then
        (λ (h : ℕ).
        option_and_then (λ (l : ℕ). option_map (λ (others : List ℕ). (16 * h + l) ∷ others) r) b) a
        ≡ in_front (byte ∷ []) r
    go None b h r = absurd (none-some byte h)
    go (Some x) None h r = absurd (none-some byte h)
    go (Some x) (Some y) h None = refl
    go (Some x) (Some y) h (Some others) =
        let e : Some (16 * x + y) ≡ Some byte = h in
        ap (λ o. in_front [] (option_map (λ (b : ℕ). b ∷ others) o)) e

no_pair : (high low : ℕ) (rest : List ℕ) → byte_of high low ≡ None → bytes_in (high ∷ low ∷ rest) ≡ None
no_pair high low rest h = go (digit_value high) (digit_value low) h (bytes_in rest)
  where
    go : (a b : Option ℕ)
        → option_and_then (λ (h : ℕ). option_map (λ (l : ℕ). 16 * h + l) b) a ≡ None → (r : Option (List ℕ))
        → option_and_then
        (λ (h : ℕ).
        option_and_then (λ (l : ℕ). option_map (λ (others : List ℕ). (16 * h + l) ∷ others) r) b) a
        ≡ None
    go None b h r = refl
    go (Some x) None h r = refl
    go (Some x) (Some y) h r = absurd (none-some (16 * x + y) (sym h))

two_dropped :
    (digits : List ℕ) (i : ℕ) → 2 * i + 1 < length digits
    → drop (2 * i) digits ≡ get_or digits (2 * i) 0 ∷ get_or digits (2 * i + 1) 0 ∷ drop (2 * (i + 1)) digits
two_dropped digits i h =
    let next : 2 * i + 1 + 1 ≡ 2 * (i + 1) = omega arith in
    drop_more digits (2 * i) 0 (omega arith)
    ∙ ap (λ r. get_or digits (2 * i) 0 ∷ r) (drop_more digits (2 * i + 1) 0 h)
    ∙ ap (λ n. get_or digits (2 * i) 0 ∷ get_or digits (2 * i + 1) 0 ∷ drop n digits) next

in_front_twice : (front : List ℕ) (byte : ℕ) (rest : Option (List ℕ))
    → in_front front (in_front (byte ∷ []) rest) ≡ in_front (front ++ byte ∷ []) rest
in_front_twice front byte None = refl
in_front_twice front byte (Some others) = ap Some (sym (append_assoc front (byte ∷ []) others))

-- one byte more is read
pub byte_more :
    (digits buffer : List ℕ) (i byte : ℕ) → 2 * i + 1 < length digits → i < length buffer
    → byte_of (get_or digits (2 * i) 0) (get_or digits (2 * i + 1) 0) ≡ Some byte
    → in_front (take i buffer) (bytes_in (drop (2 * i) digits))
    ≡ in_front (take (i + 1) (set buffer i byte)) (bytes_in (drop (2 * (i + 1)) digits))
byte_more digits buffer i byte within room is =
    ap (λ d. in_front (take i buffer) (bytes_in d)) (two_dropped digits i within)
    ∙ ap (in_front (take i buffer))
    (pair_read (get_or digits (2 * i) 0) (get_or digits (2 * i + 1) 0) (drop (2 * (i + 1)) digits) byte is)
    ∙ in_front_twice (take i buffer) byte (bytes_in (drop (2 * (i + 1)) digits))
    ∙ ap (λ f. in_front f (bytes_in (drop (2 * (i + 1)) digits))) (sym (take_more_set buffer i byte room))

-- no byte there
pub no_byte :
    (digits front : List ℕ) (i : ℕ) → 2 * i + 1 < length digits
    → byte_of (get_or digits (2 * i) 0) (get_or digits (2 * i + 1) 0) ≡ None
    → in_front front (bytes_in (drop (2 * i) digits)) ≡ None
no_byte digits front i within is =
    ap (λ d. in_front front (bytes_in d)) (two_dropped digits i within)
    ∙ ap (in_front front)
    (no_pair (get_or digits (2 * i) 0) (get_or digits (2 * i + 1) 0) (drop (2 * (i + 1)) digits) is)

pub all_read :
    (digits front : List ℕ) (count : ℕ) → length digits ≤ 2 * count
    → in_front front (bytes_in (drop (2 * count) digits)) ≡ Some front
all_read digits front count short =
    ap (λ d. in_front front (bytes_in d)) (drop_all (2 * count) digits short) ∙ ap Some (append-nil front)

pub odd_digits : (digits : List ℕ) → length digits % 2 ≢ 0 → bytes_in digits ≡ None
odd_digits [] h = absurd (h (let z : 0 % 2 ≡ 0 = refl in z))
odd_digits (character ∷ []) h = refl
odd_digits (high ∷ low ∷ rest) h =
    go (digit_value high) (digit_value low)
    (odd_digits rest (λ e. h (let n : ℕ = length rest in let z : n % 2 ≡ 0 = e in omega arith)))
  where
    go : (a b : Option ℕ) → bytes_in rest ≡ None
        → option_and_then
        (λ (h : ℕ).
        option_and_then (λ (l : ℕ). option_map (λ (others : List ℕ). (16 * h + l) ∷ others) (bytes_in rest))
        b) a
        ≡ None
    go None b e = refl
    go (Some x) None e = refl
    go (Some x) (Some y) e = ap (option_map (λ (others : List ℕ). (16 * x + y) ∷ others)) e

-- a line that has no colon, or no digits
pub no_line : (line : List ℕ) → bytes_of_line line ≡ None → read_line line ≡ None
no_line line h =
    ap (option_and_then
    (λ (bytes : List ℕ). option_map (λ (piece : Piece). (piece, bytes)) (piece_in bytes))) h

pub no_colon : (line : List ℕ) → (get_or line 0 0 == 58) ≡ false → bytes_of_line line ≡ None
no_colon [] h = refl
no_colon (first ∷ rest) h = ap (λ b. cond b (bytes_in rest) None) h

pub after_colon : (line : List ℕ) → 0 < length line → (get_or line 0 0 == 58) ≡ true
    → bytes_of_line line ≡ bytes_in (drop 1 line)
after_colon [] some h = absurd (omega arith)
after_colon (first ∷ rest) some h = ap (λ b. cond b (bytes_in rest) None) h

length_digits : (bytes : List ℕ) → length (flat_map digits_of bytes) ≡ 2 * length bytes
length_digits [] = refl
length_digits (byte ∷ others) = omega (arith, length_digits others)

-- a long line is no data line
long_piece : (bytes : List ℕ) → IsBytes bytes → 260 < length bytes → piece_in bytes ≡ None
long_piece [] all long = refl
long_piece (a ∷ []) all long = refl
long_piece (a ∷ b ∷ []) all long = refl
long_piece (a ∷ b ∷ c ∷ []) all long = refl
long_piece (count ∷ high ∷ low ∷ type ∷ rest) all long = go (type == 0) (length rest == count + 1) refl
  where
    go : (t s : Bool) → (length rest == count + 1) ≡ s
        → cond {A = Option Piece} (t && s && nat_le (256 * high + low + count) 65536)
        (Some (record { start = 256 * high + low; bytes = take count rest })) None ≡ None
    go false s e = refl
    go true false e = refl
    go true true e =
        let small : count < 256 = all.0 in
        let size : length rest ≡ count + 1 = eqb-true (length rest) (count + 1) e in absurd (omega arith)

abbrev paired : List ℕ → Option Piece → Option (Piece × List ℕ)
paired bytes found = option_map (λ (piece : Piece). (piece, bytes)) found

abbrev read_by : Option (List ℕ) → Option (Piece × List ℕ)
read_by read =
    option_and_then (λ (bytes : List ℕ). option_map (λ (piece : Piece). (piece, bytes)) (piece_in bytes)) read

pub long_line : (line : List ℕ) → 521 < length line → read_line line ≡ None
long_line [] long = absurd (omega arith)
long_line (first ∷ rest) long = go (first == 58) (bytes_in rest) refl
  where
    in_it : (bytes : List ℕ) → bytes_in rest ≡ Some bytes → piece_in bytes ≡ None
    in_it bytes e =
        let b = bytes_back rest bytes e in
        let size : length rest ≡ 2 * length bytes = ap length b.0 ∙ length_digits bytes in
        long_piece bytes b.1 (omega arith)

    go : (colon : Bool) (read : Option (List ℕ)) → bytes_in rest ≡ read
        → read_by (cond colon (bytes_in rest) None) ≡ None
    go false read e = refl
    go true None e = ap read_by e
    go true (Some bytes) e = ap read_by e ∙ ap (paired bytes) (in_it bytes e)

-- the form of a line's bytes
abbrev pub form_of : (bytes : List ℕ) → Bool
form_of bytes =
    has_form (get_or bytes 0 0) (256 * get_or bytes 1 0 + get_or bytes 2 0) (get_or bytes 3 0) (drop 4 bytes)

pub short_bytes : (bytes : List ℕ) → length bytes < 4 → piece_in bytes ≡ None
short_bytes [] h = refl
short_bytes (a ∷ []) h = refl
short_bytes (a ∷ b ∷ []) h = refl
short_bytes (a ∷ b ∷ c ∷ []) h = refl
short_bytes (a ∷ b ∷ c ∷ d ∷ rest) h = absurd (omega arith)

pub no_form : (bytes : List ℕ) → form_of bytes ≡ false → piece_in bytes ≡ None
no_form [] h = refl
no_form (a ∷ []) h = refl
no_form (a ∷ b ∷ []) h = refl
no_form (a ∷ b ∷ c ∷ []) h = refl
no_form (count ∷ high ∷ low ∷ type ∷ rest) h =
    ap (λ b. cond b (Some (record { start = 256 * high + low; bytes = take count rest })) None) h

pub with_form :
    (bytes : List ℕ) → 4 ≤ length bytes → form_of bytes ≡ true
    → piece_in bytes
    ≡ Some (record { start = 256 * get_or bytes 1 0 + get_or bytes 2 0; bytes = take (get_or bytes 0 0) (drop 4 bytes) })
with_form [] long h = absurd (omega arith)
with_form (a ∷ []) long h = absurd (omega arith)
with_form (a ∷ b ∷ []) long h = absurd (omega arith)
with_form (a ∷ b ∷ c ∷ []) long h = absurd (omega arith)
with_form (count ∷ high ∷ low ∷ type ∷ rest) long h =
    ap (λ b. cond b (Some (record { start = 256 * high + low; bytes = take count rest })) None) h

pub form_holds :
    (count address type : ℕ) (rest : List ℕ) → type ≡ 0 → length rest ≡ count + 1 → address + count ≤ 65536
    → has_form count address type rest ≡ true
form_holds count address type rest a b c =
    ap (λ t. t && length rest == count + 1 && nat_le (address + count) 65536) (eq-eqb type 0 a)
    ∙ ap (λ t. t && nat_le (address + count) 65536) (eq-eqb (length rest) (count + 1) b)
    ∙ le-leb (address + count) 65536 c

-- marks
get_marked :
    (start count : ℕ) (used : List Bool) (address : ℕ) → start + count ≤ length used → start ≤ address
    → address < start + count → get_or (marked_from start count used) address false ≡ true
get_marked start count used address fits low high =
    let front : length (take start used) ≡ start = omega (arith, length-take start used) in
    let size : length (replicate count true) ≡ count = length-replicate count true in
    get_or-append_right (take start used) (replicate count true ++ drop (start + count) used) start
    address false front low
    ∙ get_or_append_left (replicate count true) (drop (start + count) used) false
    (address - start) (omega arith)
    ∙ get_or-replicate count (address - start) true false (omega arith)

get_below :
    (start count : ℕ) (used : List Bool) (address : ℕ) → start + count ≤ length used → address < start
    → get_or (marked_from start count used) address false ≡ get_or used address false
get_below start count used address fits low =
    let front : length (take start used) ≡ start = omega (arith, length-take start used) in
    get_or_append_left (take start used) (replicate count true ++ drop (start + count) used) false
    address (omega arith)
    ∙ get_or-take start used address false low

get_above :
    (start count : ℕ) (used : List Bool) (address : ℕ) → start + count ≤ length used → start + count ≤ address
    → get_or (marked_from start count used) address false ≡ get_or used address false
get_above start count used address fits high =
    let front : length (take start used) ≡ start = omega (arith, length-take start used) in
    let size : length (replicate count true) ≡ count = length-replicate count true in
    let place : start + count + (address - start - count) ≡ address = omega arith in
    get_or-append_right (take start used) (replicate count true ++ drop (start + count) used)
    start address false front
    (omega arith)
    ∙ get_or-append_right (replicate count true) (drop (start + count) used) count (address - start)
    false size (omega arith)
    ∙ get_or-drop (start + count) used (address - start - count) false
    ∙ ap (λ i. get_or used i false) place

any_append : (test : Piece → Bool) (left right : List Piece)
    → list_any test (left ++ right) ≡ (list_any test left || list_any test right)
any_append test [] right = refl
any_append test (piece ∷ left) right = go (test piece) (any_append test left right)
  where
    go : (b : Bool) → list_any test (left ++ right) ≡ (list_any test left || list_any test right)
        → (b || list_any test (left ++ right)) ≡ ((b || list_any test left) || list_any test right)
    go true e = refl
    go false e = e

or_true : (b : Bool) → (b || (true || false)) ≡ true
or_true true = refl
or_true false = refl

or_false : (b : Bool) → (b || (false || false)) ≡ b
or_false true = refl
or_false false = refl

pub marks_more :
    (used : List Bool) (pieces : List Piece) (piece : Piece) → Marks used pieces
    → piece.start + length piece.bytes ≤ 65536
    → Marks (marked_from piece.start (length piece.bytes) used) (pieces ++ piece ∷ [])
marks_more used pieces piece marks fits =
    let start : ℕ = piece.start in
    let count : ℕ = length piece.bytes in
    let whole : length used ≡ 65536 = marks.size in
    let front : length (take start used) ≡ min start (length used) = length-take start used in
    let middle : length (replicate count true) ≡ count = length-replicate count true in
    let last : length (drop (start + count) used) ≡ length used - (start + count) =
    length-drop (start + count) used in
    let all : length (take start used) + (length (replicate count true) + length (drop (start + count) used))
    ≡ 65536 =
    omega arith in
    record {
      size =
          length-append (take start used) (replicate count true ++ drop (start + count) used)
          ∙ ap (λ n. length (take start used) + n)
          (length-append (replicate count true) (drop (start + count) used))
          ∙ all;
      marked = λ address h.
          there address h (nat_le start address) refl (nat_lt address (start + count)) refl
          (any_append (has_address address) pieces (piece ∷ [])) (marks.marked address h);
    }
  where
    there : (address : ℕ) → address < 65536 → (low : Bool) → nat_le piece.start address ≡ low
        → (high : Bool) → nat_lt address (piece.start + length piece.bytes) ≡ high
        → list_any (has_address address) (pieces ++ piece ∷ [])
        ≡ (list_any (has_address address) pieces
        || ((nat_le piece.start address && nat_lt address (piece.start + length piece.bytes)) || false))
        → get_or used address false ≡ list_any (has_address address) pieces
        → get_or (marked_from piece.start (length piece.bytes) used) address false
        ≡ list_any (has_address address) (pieces ++ piece ∷ [])
    there address h true e true f whole old =
        let size : length used ≡ 65536 = marks.size in
        get_marked piece.start (length piece.bytes) used address (omega arith)
        (leb-true piece.start address e)
        (ltb-true address (piece.start + length piece.bytes) f)
        ∙ sym (whole
        ∙ ap (λ x. list_any (has_address address) pieces
        || ((x && nat_lt address (piece.start + length piece.bytes)) || false)) e
        ∙ ap (λ x. list_any (has_address address) pieces || (x || false)) f
        ∙ or_true (list_any (has_address address) pieces))
    there address h true e false f whole old =
        let size : length used ≡ 65536 = marks.size in
        get_above piece.start (length piece.bytes) used address (omega arith)
        (ltb-false address (piece.start + length piece.bytes) f)
        ∙ old
        ∙ sym (whole
        ∙ ap (λ x. list_any (has_address address) pieces
        || ((x && nat_lt address (piece.start + length piece.bytes)) || false)) e
        ∙ ap (λ x. list_any (has_address address) pieces || (x || false)) f
        ∙ or_false (list_any (has_address address) pieces))
    there address h false e high f whole old =
        let size : length used ≡ 65536 = marks.size in
        get_below piece.start (length piece.bytes) used address (omega arith)
        (leb-false piece.start address e)
        ∙ old
        ∙ sym (whole
        ∙ ap (λ x. list_any (has_address address) pieces
        || ((x && nat_lt address (piece.start + length piece.bytes)) || false)) e
        ∙ or_false (list_any (has_address address) pieces))

-- no mark where no piece is
pub no_marks : (count : ℕ) (used : List Bool) → count ≡ 65536 → used ≡ replicate count false → Marks used []
no_marks count used many is = record {
  size = ap length is ∙ length-replicate count false ∙ many;
  marked = λ address h.
      let low : address < 65536 = h in
      ap (λ u. get_or u address false) is ∙ get_or-replicate count address false false (omega arith);
}

-- marks of one address after the other
pub mark_none : (start : ℕ) (used : List Bool) → used ≡ marked_from start (start - start) used
mark_none start used =
    let none : start - start ≡ 0 = omega arith in
    let same : start + 0 ≡ start = omega arith in
    sym (take-append-drop start used) ∙ ap (λ n. take start used ++ drop n used) (sym same)
    ∙ ap (λ n. marked_from start n used) (sym none)

mark_one :
    (start count : ℕ) (used : List Bool) → start + count < length used
    → set (marked_from start count used) (start + count) true ≡ marked_from start (count + 1) used
mark_one start count used within =
    let front : List Bool = take start used in
    let middle : List Bool = replicate count true in
    let rest : List Bool = drop (start + count + 1) used in
    let size : length (take start used ++ replicate count true) ≡ start + count =
    omega (
      arith,
      length-append (take start used) (replicate count true),
      length-take start used,
      length-replicate count true,
    ) in
    let next : start + count + 1 ≡ start + (count + 1) = omega arith in
    ap (λ l. set l (start + count) true)
    (sym (append_assoc front middle (drop (start + count) used))
    ∙ ap (λ r. (front ++ middle) ++ r) (drop_more used (start + count) false within))
    ∙ set_at (front ++ middle) (get_or used (start + count) false) rest true (start + count) size
    ∙ append_assoc front middle (true ∷ rest)
    ∙ ap (λ r. front ++ r)
    (sym (append_assoc middle (true ∷ []) rest)
    ∙ ap (λ m. m ++ rest) (replicate-append-replicate count 1 true))
    ∙ ap (λ n. front ++ (replicate (count + 1) true ++ drop n used)) next

pub mark_step :
    (start address : ℕ) (used : List Bool) → start ≤ address → address < length used
    → set (marked_from start (address - start) used) address true
    ≡ marked_from start (address + 1 - start) used
mark_step start address used low within =
    let place : start + (address - start) ≡ address = omega arith in
    let next : address - start + 1 ≡ address + 1 - start = omega arith in
    ap (λ a. set (marked_from start (address - start) used) a true) (sym place)
    ∙ mark_one start (address - start) used (omega arith) ∙ ap (λ n. marked_from start n used) next

pub mark_end :
    (start count address : ℕ) (used after : List Bool) → after ≡ marked_from start (address - start) used
    → address ≡ start + count → after ≡ marked_from start count used
mark_end start count address used after is end =
    let all : address - start ≡ count = omega arith in is ∙ ap (λ n. marked_from start n used) all

-- a mark that is looked for
pub any_hit :
    (marks : List Bool) (i : ℕ) → i < length marks → get_or marks i false ≡ true
    → list_any (λ mark. mark) (drop i marks) ≡ true
any_hit marks i within is =
    ap (list_any (λ mark. mark)) (drop_more marks i false within)
    ∙ ap (λ b. b || list_any (λ mark. mark) (drop (i + 1) marks)) is

pub any_miss :
    (marks : List Bool) (i : ℕ) → i < length marks → get_or marks i false ≡ false
    → list_any (λ mark. mark) (drop i marks) ≡ list_any (λ mark. mark) (drop (i + 1) marks)
any_miss marks i within is =
    ap (list_any (λ mark. mark)) (drop_more marks i false within)
    ∙ ap (λ b. b || list_any (λ mark. mark) (drop (i + 1) marks)) is

pub any_end : (marks : List Bool) (i : ℕ) → length marks ≤ i → list_any (λ mark. mark) (drop i marks) ≡ false
any_end marks i past = ap (list_any (λ mark. mark)) (drop_all i marks past)

-- some address of a range is marked
marked_at :
    (marks : List Bool) (k : ℕ) → k < length marks → get_or marks k false ≡ true
    → list_any (λ mark. mark) marks ≡ true
marked_at [] k h e = absurd (omega arith)
marked_at (mark ∷ marks) zero h e = ap (λ b. b || list_any (λ m. m) marks) e
marked_at (mark ∷ marks) (suc k) h e = go mark (marked_at marks k (omega arith) e)
  where
    go : (b : Bool) → list_any (λ m. m) marks ≡ true → (b || list_any (λ m. m) marks) ≡ true
    go true e = refl
    go false e = e

abbrev MarkAt : List Bool → Type 0
MarkAt marks = (k : ℕ) × (k < length marks) × (get_or marks k false ≡ true)

mark_at : (marks : List Bool) → list_any (λ mark. mark) marks ≡ true → MarkAt marks
mark_at [] h = absurd (let bad : false ≡ true = h in cc)
mark_at (mark ∷ marks) h = go mark refl h (mark_at marks)
  where
    go : (b : Bool) → mark ≡ b → (b || list_any (λ m. m) marks) ≡ true
        → (list_any (λ m. m) marks ≡ true → MarkAt marks)
        → MarkAt (mark ∷ marks)
    go true e h rest = (0, omega arith, e)
    go false e h rest =
        let r = rest h in (suc r.0, let l : r.0 < length marks = r.1 in omega arith, r.2)

-- some piece
abbrev PieceAt : (test : Piece → Bool) → List Piece → Type 0
PieceAt test pieces =
    (k : ℕ) × (piece : Piece) × (k < length pieces) × (get_or pieces k piece ≡ piece) × (test piece ≡ true)

piece_there : (test : Piece → Bool) (pieces : List Piece) → list_any test pieces ≡ true → PieceAt test pieces
piece_there test [] h = absurd (let bad : false ≡ true = h in cc)
piece_there test (piece ∷ others) h = go (test piece) refl h (piece_there test others)
  where
    go : (b : Bool) → test piece ≡ b → (b || list_any test others) ≡ true
        → (list_any test others ≡ true → PieceAt test others) → PieceAt test (piece ∷ others)
    go true e h rest = (0, piece, omega arith, refl, e)
    go false e h rest =
        let r = rest h in (suc r.0, r.1, let l : r.0 < length others = r.2 in omega arith, r.3, r.4)

any_there : (test : Piece → Bool) (pieces : List Piece) (k : ℕ) (piece : Piece) → k < length pieces
    → get_or pieces k piece ≡ piece → test piece ≡ true → list_any test pieces ≡ true
any_there test [] k piece h e t = absurd (omega arith)
any_there test (other ∷ others) zero piece h e t =
    ap (λ b. b || list_any test others) (ap test e ∙ t)
any_there test (other ∷ others) (suc k) piece h e t =
    go (test other) (any_there test others k piece (omega arith) e t)
  where
    go : (b : Bool) → list_any test others ≡ true → (b || list_any test others) ≡ true
    go true e = refl
    go false e = e

same_tests : (a b : Bool) → (a ≡ true → b ≡ true) → (b ≡ true → a ≡ true) → a ≡ b
same_tests true b f g = sym (f refl)
same_tests false true f g = g refl
same_tests false false f g = refl

-- a piece meets those before it where one of its addresses is marked
pub meets_marked :
    (used : List Bool) (pieces : List Piece) (piece : Piece) → Marks used pieces
    → piece.start + length piece.bytes ≤ 65536
    → list_any (pieces_meet piece) pieces
    ≡ list_any (λ mark. mark) (take (length piece.bytes) (drop piece.start used))
meets_marked used pieces piece marks fits =
    same_tests (list_any (pieces_meet piece) pieces)
    (list_any (λ mark. mark) (take (length piece.bytes) (drop piece.start used))) met marked
  where
    size_of : length (take (length piece.bytes) (drop piece.start used)) ≡ length piece.bytes
    size_of =
        let size : length used ≡ 65536 = marks.size in
        omega (arith, length-take (length piece.bytes) (drop piece.start used), length-drop piece.start used)

    place_of : (k : ℕ) → k < length piece.bytes
        → get_or (take (length piece.bytes) (drop piece.start used)) k false
        ≡ get_or used (piece.start + k) false
    place_of k h =
        get_or-take (length piece.bytes) (drop piece.start used) k false h
        ∙ get_or-drop piece.start used k false

    met_at : (address : ℕ) → piece.start ≤ address → address < piece.start + length piece.bytes
        → list_any (has_address address) pieces ≡ true
        → list_any (λ mark. mark) (take (length piece.bytes) (drop piece.start used)) ≡ true
    met_at address low high there =
        let place : piece.start + (address - piece.start) ≡ address = omega arith in
        let size : length (take (length piece.bytes) (drop piece.start used)) ≡ length piece.bytes =
        size_of in
        let top : address < 65536 = omega arith in
        marked_at (take (length piece.bytes) (drop piece.start used)) (address - piece.start) (omega arith)
        (place_of (address - piece.start) (omega arith) ∙ ap (λ a. get_or used a false) place
        ∙ marks.marked address top ∙ there)

    met : list_any (pieces_meet piece) pieces ≡ true
        → list_any (λ mark. mark) (take (length piece.bytes) (drop piece.start used)) ≡ true
    met h =
        let other = piece_there (pieces_meet piece) pieces h in
        let both_have = (meets_decides (range_of piece) (range_of other.1)).0 other.4 in
        met_at both_have.0 both_have.1.0 both_have.1.1
        (any_there (has_address both_have.0) pieces other.0 other.1 other.2 other.3
        (is_in_has_address both_have.0 other.1 both_have.2))

    marked_of : (k : ℕ) → k < length piece.bytes
        → get_or (take (length piece.bytes) (drop piece.start used)) k false ≡ true
        → list_any (pieces_meet piece) pieces ≡ true
    marked_of k within e =
        let top : piece.start + k < 65536 = omega arith in
        let there : list_any (has_address (piece.start + k)) pieces ≡ true =
        sym (marks.marked (piece.start + k) top) ∙ sym (place_of k within) ∙ e in
        let other = piece_there (has_address (piece.start + k)) pieces there in
        any_there (pieces_meet piece) pieces other.0 other.1 other.2 other.3
        ((meets_decides (range_of piece) (range_of other.1)).1
        (piece.start + k, (omega arith, omega arith), has_address_is_in (piece.start + k) other.1 other.4))

    marked : list_any (λ mark. mark) (take (length piece.bytes) (drop piece.start used)) ≡ true
        → list_any (pieces_meet piece) pieces ≡ true
    marked h =
        let m = mark_at (take (length piece.bytes) (drop piece.start used)) h in
        marked_of m.0 (omega (arith, m.1, size_of)) m.2

-- lines
not_empty : (count : ℕ) → (suc count == 0) ≡ false
not_empty count = go (suc count == 0) refl
  where
    go : (b : Bool) → (suc count == 0) ≡ b → b ≡ false
    go false e = refl
    go true e = let none : suc count ≡ 0 = eqb-true (suc count) 0 e in absurd (omega arith)

no_feed : (character : ℕ) → character ≢ 10 → (character == 10) ≡ false
no_feed character other = go (character == 10) refl
  where
    go : (b : Bool) → (character == 10) ≡ b → b ≡ false
    go false e = refl
    go true e = absurd (other (eqb-true character 10 e))

pub line_in_front :
    (text row : List ℕ) (end : ℕ) → end < length text → ((k : ℕ) → k < end → get_or text k 0 ≢ 10)
    → get_or text end 0 ≡ 10 → row ≡ strip_carriage_return (take end text)
    → lines text ≡ row ∷ lines (drop (end + 1) text)
line_in_front text row end within before found is =
    let size : length (take end text) ≡ end = omega (arith, length-take end text) in
    let front : All (λ c. (c == 10) ≡ false) (take end text) =
    All-from_get_or (λ c. (c == 10) ≡ false) (take end text) 0
    (λ k h. ap (λ c. c == 10) (get_or-take end text k 0 (omega arith))
    ∙ no_feed (get_or text k 0) (before k (omega arith))) in
    let whole : text ≡ take end text ++ 10 ∷ drop (end + 1) text =
    sym (take-append-drop end text)
    ∙ ap (λ r. take end text ++ r) (drop_more text end 0 within ∙ ap (λ c. c ∷ drop (end + 1) text) found) in
    ap lines whole ∙ line_before (take end text) (drop (end + 1) text) front
    ∙ ap (λ r. r ∷ lines (drop (end + 1) text)) (sym is)

pub last_line :
    (text : List ℕ) (end : ℕ) → 0 < length text → length text ≤ end
    → ((k : ℕ) → k < end → get_or text k 0 ≢ 10) → lines text ≡ text ∷ lines (drop end text)
last_line text end some past before =
    let all : All (λ c. (c == 10) ≡ false) text =
    All-from_get_or (λ c. (c == 10) ≡ false) text 0
    (λ k h. no_feed (get_or text k 0) (before k (omega arith))) in
    ap lines_of_parts (slice_split_none (λ b. b == 10) text all) ∙ one text some
    ∙ ap (λ r. text ∷ lines r) (sym (drop_all end text past))
  where
    one : (text : List ℕ) → 0 < length text → lines_of_parts (text ∷ []) ≡ text ∷ lines []
    one [] h = absurd (omega arith)
    one (c ∷ text) h = ap (λ b. cond b [] ((c ∷ text) ∷ [])) (not_empty (length text))

-- the judgement, line by line
end_judged :
    (before : List Piece) (rest : List ℕ) → length rest ≤ 0
    → judged_after before (end_line ∷ lines rest) ≡ Ok before
unfolding fault_at
end_judged before [] h = refl
end_judged before (c ∷ rest) h = absurd (omega arith)

pub judged_end :
    (before : List Piece) (text line rest : List ℕ) → lines text ≡ line ∷ lines rest
    → bytes_eq line end_line ≡ true
    → length rest ≤ 0 → judged_after before (lines text) ≡ Ok before
judged_end before text line rest is last none =
    ap (judged_after before) (is ∙ ap (λ l. l ∷ lines rest) ((bytes_eq-Decides line end_line).0 last))
    ∙ end_judged before rest none

some_line : (rest : List ℕ) → 0 < length rest → is_empty (lines rest) ≡ false
some_line [] h = absurd (omega arith)
some_line (c ∷ rest) h = go (c == 10) refl (parts_of_text rest)
  where
    one : (others : List (List ℕ)) (first : List ℕ) → is_empty (lines_of_parts ((c ∷ first) ∷ others)) ≡ false
    one [] first = ap (λ b. is_empty (cond b [] ((c ∷ first) ∷ []))) (not_empty (length first))
    one (other ∷ others) first = refl

    go : (b : Bool) → (c == 10) ≡ b → Parts rest → is_empty (lines (c ∷ rest)) ≡ false
    go true e (Some_parts first others is) =
        ap (λ t. is_empty (lines_of_parts (cond t ([] ∷ slice_split (λ b. b == 10) rest)
        (onto_first c (slice_split (λ b. b == 10) rest))))) e
        ∙ ap (λ p. is_empty (lines_of_parts ([] ∷ p))) is
    go false e (Some_parts first others is) =
        ap (λ t. is_empty (lines_of_parts (cond t ([] ∷ slice_split (λ b. b == 10) rest)
        (onto_first c (slice_split (λ b. b == 10) rest))))) e
        ∙ ap (λ p. is_empty (lines_of_parts (onto_first c p))) is ∙ one others first

more_judged :
    (before : List Piece) (rest : List (List ℕ)) → is_empty rest ≡ false
    → judged_after before (end_line ∷ rest) ≡ Err BadLine
unfolding fault_at
more_judged before rest h =
    ap (λ e. judged_by (λ pieces. judged_after pieces rest) before (cond e None (Some BadLine))
    (read_line end_line)) h

pub judged_more :
    (before : List Piece) (text line rest : List ℕ) → lines text ≡ line ∷ lines rest
    → bytes_eq line end_line ≡ true
    → 0 < length rest → judged_after before (lines text) ≡ Err BadLine
judged_more before text line rest is last some =
    ap (judged_after before) (is ∙ ap (λ l. l ∷ lines rest) ((bytes_eq-Decides line end_line).0 last))
    ∙ more_judged before (lines rest) (some_line rest some)

other_judged :
    (before : List Piece) (line : List ℕ) (rest : List (List ℕ)) (fault : Option Fault)
    → bytes_eq line end_line ≡ false
    → fault_of_line before line ≡ fault
    → judged_after before (line ∷ rest)
    ≡ judged_by (λ pieces. judged_after pieces rest) before fault (read_line line)
unfolding fault_at
other_judged before line rest fault other h =
    ap (λ b. judged_by (λ pieces. judged_after pieces rest) before
    (cond b (cond (is_empty rest) None (Some BadLine)) (fault_of_line before line)) (read_line line)) other
    ∙ ap (λ f. judged_by (λ pieces. judged_after pieces rest) before f (read_line line)) h

pub judged_fault :
    (before : List Piece) (text line rest : List ℕ) (fault : Fault) → lines text ≡ line ∷ lines rest
    → bytes_eq line end_line ≡ false → fault_of_line before line ≡ Some fault
    → judged_after before (lines text) ≡ Err fault
judged_fault before text line rest fault is other h =
    ap (judged_after before) is ∙ other_judged before line (lines rest) (Some fault) other h

pub judged_on :
    (before after : List Piece) (text line rest : List ℕ) → lines text ≡ line ∷ lines rest
    → bytes_eq line end_line ≡ false → TakesLine before after line
    → judged_after before (lines text) ≡ judged_after after (lines rest)
judged_on before after text line rest is other taken =
    ap (judged_after before) is ∙ other_judged before line (lines rest) None other taken.none
    ∙ ap (judged_by (λ pieces. judged_after pieces (lines rest)) before None) taken.found
    ∙ ap (λ pieces. judged_after pieces (lines rest)) (sym taken.after_is)

pub judged_none : (before : List Piece) (text : List ℕ) → length text ≤ 0
    → judged_after before (lines text) ≡ Err NoEnd
judged_none before [] h = refl
judged_none before (c ∷ text) h = absurd (omega arith)

-- a text from its front
pub judged_first : (text : List ℕ) → judged_after [] (lines text) ≡ judgement_of text
unfolding judgement_of
judged_first text = refl

-- the fault of a line
pub bad_line : (before : List Piece) (line : List ℕ) → read_line line ≡ None
    → fault_of_line before line ≡ Some BadLine
bad_line before line h = ap (λ read. option_map_or (fault_of_data before) read (Some BadLine)) h

abbrev pub fault_by : (adds meets : Bool) → Option Fault
fault_by adds meets = cond (not adds) (Some WrongSum) (cond meets (Some Overlap) None)

pub data_fault :
    (before : List Piece) (line : List ℕ) (read : Piece × List ℕ) (adds meets : Bool)
    → read_line line ≡ Some read
    → adds ≡ (sum read.1 % 256 == 0) → list_any (pieces_meet read.0) before ≡ meets
    → fault_of_line before line ≡ fault_by adds meets
data_fault before line read adds meets is a b =
    ap (λ r. option_map_or (fault_of_data before) r (Some BadLine)) is
    ∙ ap (λ m. fault_by (sum read.1 % 256 == 0) m) b ∙ ap (λ t. fault_by t meets) (sym a)

abbrev rest_of : (text : List ℕ) → ℕ → List ℕ
rest_of text start = take (length text - start) (drop start text)

in_front_of :
    (text row : List ℕ) (start size : ℕ)
    → lines (rest_of text start) ≡ row ∷ lines (drop size (rest_of text start))
    → lines (drop start text) ≡ row ∷ lines (drop (start + size) text)
in_front_of text row start size h =
    let whole : rest_of text start ≡ drop start text = take_rest text start in
    ap lines (sym whole) ∙ h ∙ ap (λ r. row ∷ lines (drop size r)) whole
    ∙ ap (λ r. row ∷ lines r) (drop-drop size start text)

-- the judgement after a line
pub judge_on :
    (text row : List ℕ) (start size : ℕ) (before after : List Piece) (all : Result (List Piece) Fault)
    → judged_after before (lines (drop start text)) ≡ all
    → lines (rest_of text start) ≡ row ∷ lines (drop size (rest_of text start))
    → bytes_eq row end_line ≡ false
    → TakesLine before after row → judged_after after (lines (drop (start + size) text)) ≡ all
judge_on text row start size before after all old is other taken =
    sym (judged_on before after (drop start text) row (drop (start + size) text)
    (in_front_of text row start size is)
    other taken)
    ∙ old

pub judge_fault :
    (text row : List ℕ) (start size : ℕ) (before : List Piece)
    (all : Result (List Piece) Fault) (fault : Fault)
    → judged_after before (lines (drop start text)) ≡ all
    → lines (rest_of text start) ≡ row ∷ lines (drop size (rest_of text start))
    → bytes_eq row end_line ≡ false
    → fault_of_line before row ≡ Some fault → all ≡ Err fault
judge_fault text row start size before all fault old is other h =
    sym old
    ∙ judged_fault before (drop start text) row (drop (start + size) text) fault
    (in_front_of text row start size is)
    other h

pub judge_end :
    (text row : List ℕ) (start size : ℕ) (before : List Piece) (all : Result (List Piece) Fault)
    → judged_after before (lines (drop start text)) ≡ all
    → lines (rest_of text start) ≡ row ∷ lines (drop size (rest_of text start)) → bytes_eq row end_line ≡ true
    → length text ≤ start + size → all ≡ Ok before
judge_end text row start size before all old is last past =
    sym old
    ∙ judged_end before (drop start text) row (drop (start + size) text)
    (in_front_of text row start size is) last
    (omega (arith, length-drop (start + size) text))

pub judge_more :
    (text row : List ℕ) (start size : ℕ) (before : List Piece) (all : Result (List Piece) Fault)
    → judged_after before (lines (drop start text)) ≡ all
    → lines (rest_of text start) ≡ row ∷ lines (drop size (rest_of text start)) → bytes_eq row end_line ≡ true
    → start + size < length text → all ≡ Err BadLine
judge_more text row start size before all old is last more =
    sym old
    ∙ judged_more before (drop start text) row (drop (start + size) text)
    (in_front_of text row start size is) last
    (omega (arith, length-drop (start + size) text))

pub judge_none :
    (text : List ℕ) (start : ℕ) (before : List Piece) (all : Result (List Piece) Fault)
    → judged_after before (lines (drop start text)) ≡ all → length text ≤ start → all ≡ Err NoEnd
judge_none text start before all old past =
    sym old ∙ judged_none before (drop start text) (omega (arith, length-drop start text))

-- the fault of a line of data, and its piece
pub wrong_sum :
    (before : List Piece) (line buffer : List ℕ) (place : Place) (sum_of : ℕ)
    → read_line line ≡ Some (line_at buffer place)
    → sum_of ≡ sum (take (place.count + 5) buffer) % 256 → sum_of ≢ 0
    → fault_of_line before line ≡ Some WrongSum
wrong_sum before line buffer place sum_of is total wrong =
    data_fault before line (line_at buffer place) false
    (list_any (pieces_meet (piece_at buffer place)) before) is
    (sym (no_sum (sum (take (place.count + 5) buffer) % 256) (λ e. wrong (total ∙ e)))) refl
  where
    no_sum : (n : ℕ) → n ≢ 0 → (n == 0) ≡ false
    no_sum zero h = absurd (h refl)
    no_sum (suc n) h = not_empty n

piece_size :
    (buffer : List ℕ) (place : Place) → place.count + 4 ≤ length buffer
    → length (take place.count (drop 4 buffer)) ≡ place.count
piece_size buffer place room =
    omega (arith, length-take place.count (drop 4 buffer), length-drop 4 buffer)

-- no address of the line is marked, or one is
meets_by :
    (used : List Bool) (before : List Piece) (buffer : List ℕ) (place : Place) → Marks used before
    → place.start + place.count ≤ 65536 → place.count + 4 ≤ length buffer
    → list_any (pieces_meet (piece_at buffer place)) before
    ≡ list_any (λ mark. mark) (take place.count (drop place.start used))
meets_by used before buffer place marks fits room =
    let size : length (take place.count (drop 4 buffer)) ≡ place.count = piece_size buffer place room in
    meets_marked used before (piece_at buffer place) marks (omega arith)
    ∙ ap (λ n. list_any (λ mark. mark) (take n (drop place.start used))) size

pub overlaps :
    (used : List Bool) (before : List Piece) (line buffer : List ℕ) (place : Place) (sum_of : ℕ)
    → Marks used before
    → place.start + place.count ≤ 65536 → place.count + 4 ≤ length buffer
    → read_line line ≡ Some (line_at buffer place)
    → sum_of ≡ sum (take (place.count + 5) buffer) % 256 → sum_of ≡ 0
    → list_any (λ mark. mark) (take place.count (drop place.start used)) ≡ true
    → fault_of_line before line ≡ Some Overlap
overlaps used before line buffer place sum_of marks fits room is total none meets =
    data_fault before line (line_at buffer place) true true is
    (sym (eq-eqb (sum (take (place.count + 5) buffer) % 256) 0 (sym total ∙ none)))
    (meets_by used before buffer place marks fits room ∙ meets)

pub takes_line :
    (used : List Bool) (before after : List Piece) (line buffer : List ℕ) (place : Place) (sum_of : ℕ)
    → Marks used before → place.start + place.count ≤ 65536 → place.count + 4 ≤ length buffer
    → read_line line ≡ Some (line_at buffer place)
    → sum_of ≡ sum (take (place.count + 5) buffer) % 256 → sum_of ≡ 0
    → list_any (λ mark. mark) (take place.count (drop place.start used)) ≡ false
    → after ≡ before ++ piece_at buffer place ∷ [] → TakesLine before after line
takes_line used before after line buffer place sum_of marks fits room is total none meets after_is = record {
  read = line_at buffer place;
  found = is;
  none =
      data_fault before line (line_at buffer place) true false is
      (sym (eq-eqb (sum (take (place.count + 5) buffer) % 256) 0 (sym total ∙ none)))
      (meets_by used before buffer place marks fits room ∙ meets);
  after_is = after_is;
}

pub marks_taken :
    (used new : List Bool) (before after : List Piece) (buffer : List ℕ) (place : Place) → Marks used before
    → place.start + place.count ≤ 65536 → place.count + 4 ≤ length buffer
    → new ≡ marked_from place.start place.count used → after ≡ before ++ piece_at buffer place ∷ []
    → Marks new after
marks_taken used new before after buffer place marks fits room new_is after_is =
    let size : length (take place.count (drop 4 buffer)) ≡ place.count = piece_size buffer place room in
    subst (λ u. Marks u after)
    (ap (λ n. marked_from place.start n used) size ∙ sym new_is)
    (subst (Marks (marked_from place.start (length (take place.count (drop 4 buffer))) used)) (sym after_is)
    (marks_more used before (piece_at buffer place) marks (omega arith)))

-- what the judgement of a text says of it
pub spelled_by : (text : List ℕ) (pieces : List Piece) → judgement_of text ≡ Ok pieces → Spells text pieces
spelled_by text pieces h = subst (JudgesText text) h (judged text)

pub faulty_by : (text : List ℕ) (fault : Fault) → judgement_of text ≡ Err fault → HasFirstFault text fault
faulty_by text fault h = subst (JudgesText text) h (judged text)

pub none_by : (text : List ℕ) (fault : Fault) (pieces : List Piece) → judgement_of text ≡ Err fault
    → Spells text pieces → ⊥
none_by text fault pieces h s = no_fault text pieces fault s (faulty_by text fault h)
