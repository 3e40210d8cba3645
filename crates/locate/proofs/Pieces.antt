-- Pieces that are put after others: what they have at an address, and that they stay runs.
use Rattle.locate.proofs.Prelude.{◌≡◌, ℕ, ◌+◌, ◌-◌, ◌<◌, ◌≤◌, ◌==◌, inl, inr, Bool, true, false, cond, ◌&&◌, nat_le, nat_lt, List, [], ◌∷◌, ◌++◌, length, find, slice_index, get_or, Option, Some, None, option_map, refl, ap, sym, ◌∙◌, arith, AllByRecursion, option_or, eqb-true, eqb-false, ltb-true, lt-ltb, le-ltb, le-leb, lt-leb, and_parts, and_from, and_left, and_right, cases_lt, length-append, get_or_append_left, get_or-append_right, Piece, has_address, byte_in, has_bytes, are_runs, joined, with_piece, with_pieces, or_none_same}

abbrev pub piece_end : Piece → ℕ
piece_end piece = piece.start + length piece.bytes

-- the byte of one piece
abbrev pub byte_of_piece : Piece → (address : ℕ) → Option ℕ
byte_of_piece piece address =
    cond (has_address address piece) (Some (slice_index piece.bytes (address - piece.start))) None

pub or_assoc : (x y z : Option ℕ) → option_or (option_or x y) z ≡ option_or x (option_or y z)
or_assoc None y z = refl
or_assoc (Some value) y z = refl

pub one_more :
    (piece : Piece) (others : List Piece) (address : ℕ)
    → byte_in (piece ∷ others) address ≡ option_or (byte_of_piece piece address) (byte_in others address)
one_more piece others address = go (has_address address piece)
  where
    go : (b : Bool)
        → option_map (λ (p : Piece). slice_index p.bytes (address - p.start))
        (cond b (Some piece) (find (has_address address) others))
        ≡ option_or (cond b (Some (slice_index piece.bytes (address - piece.start))) None)
        (byte_in others address)
    go true = refl
    go false = refl

pub byte_in_one_piece : (piece : Piece) (address : ℕ)
    → byte_in (piece ∷ []) address ≡ byte_of_piece piece address
byte_in_one_piece piece address = one_more piece [] address ∙ or_none_same (byte_of_piece piece address)

pub within :
    (piece : Piece) (address : ℕ) → piece.start ≤ address → address < piece_end piece
    → byte_of_piece piece address ≡ Some (get_or piece.bytes (address - piece.start) 0)
within piece address low high =
    ap (λ b. cond b (Some (slice_index piece.bytes (address - piece.start))) None)
    (and_from (nat_le piece.start address) (nat_lt address (piece_end piece)) (le-leb piece.start address low)
    (lt-ltb address (piece_end piece) high))

pub no_byte_below : (piece : Piece) (address : ℕ) → address < piece.start → byte_of_piece piece address ≡ None
no_byte_below piece address h =
    ap (λ b. cond b (Some (slice_index piece.bytes (address - piece.start))) None)
    (and_left (nat_le piece.start address) (nat_lt address (piece_end piece)) (lt-leb piece.start address h))

pub no_byte_above : (piece : Piece) (address : ℕ) → piece_end piece ≤ address
    → byte_of_piece piece address ≡ None
no_byte_above piece address h =
    ap (λ b. cond b (Some (slice_index piece.bytes (address - piece.start))) None)
    (and_right (nat_le piece.start address) (nat_lt address (piece_end piece))
    (le-ltb address (piece_end piece) h))

abbrev both_in_one : Piece → Piece → Piece
both_in_one piece next = record { start = piece.start; bytes = piece.bytes ++ next.bytes }

either :
    (piece next : Piece) (address : ℕ) (x y z w : Option ℕ)
    → byte_of_piece (both_in_one piece next) address ≡ x → byte_of_piece piece address ≡ y
    → byte_of_piece next address ≡ z → x ≡ option_or y z
    → byte_of_piece (both_in_one piece next) address
    ≡ option_or (byte_of_piece piece address) (byte_of_piece next address)
either piece next address x y z w a b c is =
    a ∙ is ∙ ap (λ v. option_or v z) (sym b) ∙ ap (option_or (byte_of_piece piece address)) (sym c)

-- pieces that touch, as one
pub touching :
    (piece next : Piece) (address : ℕ) → piece_end piece ≡ next.start
    → byte_of_piece (both_in_one piece next) address
    ≡ option_or (byte_of_piece piece address) (byte_of_piece next address)
touching piece next address touch =
    let sum = length-append piece.bytes next.bytes in
    elim (cases_lt address piece.start) [
      | inl under ↦
          either piece next address None None None None (no_byte_below (both_in_one piece next) address under)
          (no_byte_below piece address under) (no_byte_below next address (omega arith)) refl
      | inr low ↦
          elim (cases_lt address (piece_end piece)) [
            | inl first ↦
                either piece next address
                (Some (get_or (piece.bytes ++ next.bytes) (address - piece.start) 0))
                (Some (get_or piece.bytes (address - piece.start) 0)) None None
                (within (both_in_one piece next) address low (omega arith)) (within piece address low first)
                (no_byte_below next address (omega arith))
                (ap Some (get_or_append_left piece.bytes next.bytes 0 (address - piece.start) (omega arith)))
            | inr past ↦
                elim (cases_lt address (piece_end next)) [
                  | inl second ↦
                      let same : address - piece.start - length piece.bytes ≡ address - next.start =
                      omega arith in
                      either piece next address
                      (Some (get_or (piece.bytes ++ next.bytes) (address - piece.start) 0)) None
                      (Some (get_or next.bytes (address - next.start) 0)) None
                      (within (both_in_one piece next) address low (omega arith))
                      (no_byte_above piece address past)
                      (within next address (omega arith) second)
                      (ap Some
                      (get_or-append_right piece.bytes next.bytes (length piece.bytes)
                      (address - piece.start) 0 refl
                      (omega arith)
                      ∙ ap (λ i. get_or next.bytes i 0) same))
                  | inr over ↦
                      either piece next address None None None None
                      (no_byte_above (both_in_one piece next) address (omega arith))
                      (no_byte_above piece address past) (no_byte_above next address over) refl
                ]
          ]
    ]

joined_is :
    (piece next : Piece) (address : ℕ)
    → byte_in (joined piece next) address
    ≡ option_or (byte_of_piece piece address) (byte_of_piece next address)
joined_is piece next address = go (piece_end piece == next.start) refl
  where
    go : (b : Bool) → (piece_end piece == next.start) ≡ b
        → byte_in (cond b (both_in_one piece next ∷ []) (piece ∷ next ∷ [])) address
        ≡ option_or (byte_of_piece piece address) (byte_of_piece next address)
    go true e =
        byte_in_one_piece (both_in_one piece next) address
        ∙ touching piece next address (eqb-true (piece_end piece) next.start e)
    go false e =
        one_more piece (next ∷ []) address
        ∙ ap (option_or (byte_of_piece piece address)) (byte_in_one_piece next address)

with_piece_is :
    (pieces : List Piece) (next : Piece) (address : ℕ)
    → byte_in (with_piece pieces next) address
    ≡ option_or (byte_in pieces address) (byte_of_piece next address)
with_piece_is [] next address = byte_in_one_piece next address
with_piece_is (piece ∷ []) next address =
    joined_is piece next address ∙ ap (λ x. option_or x (byte_of_piece next address))
    (sym (byte_in_one_piece piece address))
with_piece_is (piece ∷ second ∷ others) next address =
    one_more piece (with_piece (second ∷ others) next) address
    ∙ ap (option_or (byte_of_piece piece address)) (with_piece_is (second ∷ others) next address)
    ∙ sym (or_assoc (byte_of_piece piece address) (byte_in (second ∷ others) address)
    (byte_of_piece next address))
    ∙ ap (λ x. option_or x (byte_of_piece next address)) (sym (one_more piece (second ∷ others) address))

-- pieces with others after them have the bytes of both
pub with_pieces_is :
    (pieces others : List Piece) (address : ℕ)
    → byte_in (with_pieces pieces others) address
    ≡ option_or (byte_in pieces address) (byte_in others address)
with_pieces_is pieces [] address = sym (or_none_same (byte_in pieces address))
with_pieces_is pieces (next ∷ others) address =
    with_pieces_is (with_piece pieces next) others address
    ∙ ap (λ x. option_or x (byte_in others address)) (with_piece_is pieces next address)
    ∙ or_assoc (byte_in pieces address) (byte_of_piece next address) (byte_in others address)
    ∙ ap (option_or (byte_in pieces address)) (sym (one_more next others address))

-- each piece ends at an address or before it
abbrev pub Ends : ℕ → List Piece → Type 0
Ends n pieces = AllByRecursion (λ (piece : Piece). piece_end piece ≤ n) pieces

-- the first piece begins at an address or after it; or after it
abbrev pub Begins : ℕ → List Piece → Type 0
Begins n [] = Unit {0}
Begins n (piece ∷ others) = n ≤ piece.start

pub Ends-more : (m n : ℕ) (pieces : List Piece) → m ≤ n → Ends m pieces → Ends n pieces
Ends-more m n [] h e = tt
Ends-more m n (piece ∷ others) h e =
    (let k : piece_end piece ≤ m = e.0 in omega arith, Ends-more m n others h e.1)

pub runs_cons :
    (piece : Piece) (others : List Piece) → has_bytes piece ≡ true → Begins (piece_end piece + 1) others
    → are_runs others ≡ true → are_runs (piece ∷ others) ≡ true
runs_cons piece [] has gap runs = has
runs_cons piece (next ∷ others) has gap runs =
    and_from (has_bytes piece && nat_lt (piece_end piece) next.start) (are_runs (next ∷ others))
    (and_from (has_bytes piece) (nat_lt (piece_end piece) next.start) has
    (lt-ltb (piece_end piece) next.start (omega arith))) runs

-- what runs are, from the first on
pub runs_parts :
    (piece : Piece) (others : List Piece) → are_runs (piece ∷ others) ≡ true
    → (has_bytes piece ≡ true) × Begins (piece_end piece + 1) others × (are_runs others ≡ true)
runs_parts piece [] h = (h, tt, refl)
runs_parts piece (next ∷ others) h =
    let p = and_parts (has_bytes piece && nat_lt (piece_end piece) next.start) (are_runs (next ∷ others)) h in
    let q = and_parts (has_bytes piece) (nat_lt (piece_end piece) next.start) p.0 in
    let gap : piece_end piece < next.start = ltb-true (piece_end piece) next.start q.1 in
    (q.0, omega arith, p.1)

joined_begins : (n : ℕ) (piece next : Piece) → n ≤ piece.start → Begins n (joined piece next)
joined_begins n piece next h = go (piece_end piece == next.start)
  where
    go : (b : Bool) → Begins n (cond b (both_in_one piece next ∷ []) (piece ∷ next ∷ []))
    go true = h
    go false = h

begins_with :
    (n : ℕ) (piece : Piece) (others : List Piece) (next : Piece) → n ≤ piece.start
    → Begins n (with_piece (piece ∷ others) next)
begins_with n piece [] next h = joined_begins n piece next h
begins_with n piece (second ∷ others) next h = h

joined_ends : (piece next : Piece) → piece_end piece ≤ next.start → Ends (piece_end next) (joined piece next)
joined_ends piece next h = go (piece_end piece == next.start) refl
  where
    go : (b : Bool) → (piece_end piece == next.start) ≡ b
        → Ends (piece_end next) (cond b (both_in_one piece next ∷ []) (piece ∷ next ∷ []))
    go true e =
        let touch : piece_end piece ≡ next.start = eqb-true (piece_end piece) next.start e in
        let sum = length-append piece.bytes next.bytes in
        (omega arith, tt)
    go false e = (omega arith, (omega arith, tt))

ends_with :
    (m : ℕ) (pieces : List Piece) (next : Piece) → Ends m pieces → m ≤ next.start
    → Ends (piece_end next) (with_piece pieces next)
ends_with m [] next e h = (omega arith, tt)
ends_with m (piece ∷ []) next e h = let k : piece_end piece ≤ m = e.0 in joined_ends piece next (omega arith)
ends_with m (piece ∷ second ∷ others) next e h =
    let k : piece_end piece ≤ m = e.0 in
    (omega arith, ends_with m (second ∷ others) next e.1 h)

pub has_more : (piece : Piece) → has_bytes piece ≡ true → 0 < length piece.bytes
has_more piece h = ltb-true 0 (length piece.bytes) h

joined_runs :
    (piece next : Piece) → has_bytes piece ≡ true → has_bytes next ≡ true → piece_end piece ≤ next.start
    → are_runs (joined piece next) ≡ true
joined_runs piece next has more h = go (piece_end piece == next.start) refl
  where
    go : (b : Bool) → (piece_end piece == next.start) ≡ b
        → are_runs (cond b (both_in_one piece next ∷ []) (piece ∷ next ∷ [])) ≡ true
    go true e =
        let sum = length-append piece.bytes next.bytes in
        let some = has_more piece has in
        lt-ltb 0 (length (piece.bytes ++ next.bytes)) (omega arith)
    go false e =
        let apart : (piece_end piece ≡ next.start → ⊥) = eqb-false (piece_end piece) next.start e in
        runs_cons piece (next ∷ []) has (omega arith) more

runs_with :
    (m : ℕ) (pieces : List Piece) (next : Piece) → are_runs pieces ≡ true → Ends m pieces → m ≤ next.start
    → has_bytes next ≡ true → are_runs (with_piece pieces next) ≡ true
runs_with m [] next runs e h has = has
runs_with m (piece ∷ []) next runs e h has =
    let k : piece_end piece ≤ m = e.0 in
    joined_runs piece next runs has (omega arith)
runs_with m (piece ∷ second ∷ others) next runs e h has =
    let p = runs_parts piece (second ∷ others) runs in
    runs_cons piece (with_piece (second ∷ others) next) p.0
    (begins_with (piece_end piece + 1) second others next p.1)
    (runs_with m (second ∷ others) next p.2 e.1 h has)

pub Begins-less : (m n : ℕ) (pieces : List Piece) → m ≤ n → Begins n pieces → Begins m pieces
Begins-less m n [] h b = tt
Begins-less m n (piece ∷ others) h b = omega arith

-- runs with others after them are runs
pub runs_with_pieces :
    (m : ℕ) (pieces others : List Piece) → are_runs pieces ≡ true → Ends m pieces → are_runs others ≡ true
    → Begins m others → are_runs (with_pieces pieces others) ≡ true
runs_with_pieces m pieces [] runs e more b = runs
runs_with_pieces m pieces (next ∷ others) runs e more b =
    let p = runs_parts next others more in
    runs_with_pieces (piece_end next) (with_piece pieces next) others (runs_with m pieces next runs e b p.0)
    (ends_with m pieces next e b) p.2
    (Begins-less (piece_end next) (piece_end next + 1) others (omega arith) p.1)

pub ends_with_pieces :
    (m n : ℕ) (pieces others : List Piece) → Ends m pieces → m ≤ n → are_runs others ≡ true → Begins m others
    → Ends n others → Ends n (with_pieces pieces others)
ends_with_pieces m n pieces [] e h runs b last = Ends-more m n pieces h e
ends_with_pieces m n pieces (next ∷ others) e h runs b last =
    let p = runs_parts next others runs in
    ends_with_pieces (piece_end next) n (with_piece pieces next) others
    (ends_with m pieces next e b) last.0 p.2
    (Begins-less (piece_end next) (piece_end next + 1) others (omega arith) p.1) last.1

-- a piece after others of which one is the last
pub with_last :
    (front : List Piece) (last next : Piece)
    → with_piece (front ++ last ∷ []) next ≡ front ++ joined last next
with_last [] last next = refl
with_last (piece ∷ []) last next = refl
with_last (piece ∷ second ∷ others) last next = ap (λ r. piece ∷ r) (with_last (second ∷ others) last next)
