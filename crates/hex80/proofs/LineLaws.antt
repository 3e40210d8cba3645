-- A data line that is read is the line of its piece, and the line of a piece is read.
use Rattle.hex80.proofs.Prelude.{◌≡◌, ℕ, zero, suc, ◌+◌, ◌*◌, ◌/◌, ◌%◌, ◌<◌, ◌≤◌, min, Bool, true, false, cond, ◌==◌, ◌&&◌, nat_le, List, [], ◌∷◌, ◌++◌, length, take, flat_map, sum, Some, None, option_map, option_and_then, refl, ap, sym, subst, ◌∙◌, arith, eqb-true, eq-eqb, leb-true, le-leb, length-append, length-take, take_at, none-some, cond_some, option_and_then_some, some_pair_parts, Piece, checksum_of, checksum_is, checksum_below, digits_of, data_line_bytes, data_line, bytes_in, bytes_of_line, has_form, piece_in, read_line, all_bytes, and_parts, option_map_some}
use Rattle.hex80.proofs.Digits.{IsBytes, bytes_back, bytes_again}

-- a piece that a line can have
pub record IsLine (piece : Piece) : Type 0 where
  pub short : length piece.bytes < 256
  pub bytes : IsBytes piece.bytes
  pub start : piece.start < 65536
  pub in_memory : piece.start + length piece.bytes ≤ 65536

-- the last of some bytes
pub record Last (xs : List ℕ) (n : ℕ) : Type 0 where
  pub item : ℕ
  pub whole : xs ≡ take n xs ++ item ∷ []
  pub is_byte : IsBytes xs → item < 256
  pub others : IsBytes xs → IsBytes (take n xs)

last_of : (xs : List ℕ) (n : ℕ) → length xs ≡ suc n → Last xs n
last_of [] n h = absurd (omega arith)
last_of (x ∷ []) zero h = record { item = x; whole = refl; is_byte = λ all. all.0; others = λ all. tt }
last_of (x ∷ y ∷ xs) zero h = absurd (omega arith)
last_of (x ∷ xs) (suc n) h =
    let l = last_of xs n (omega arith) in
    record {
      item = l.item;
      whole = ap (λ r. x ∷ r) l.whole;
      is_byte = λ all. l.is_byte all.1;
      others = λ all. (all.0, l.others all.1);
    }

-- a piece is that of the bytes of a line
abbrev pub IsPieceOf : List ℕ → Piece → Type 0
IsPieceOf bytes piece =
    (bytes ≡ data_line_bytes piece ++ checksum_of (data_line_bytes piece) ∷ []) × IsLine piece

piece_back :
    (bytes : List ℕ) (piece : Piece) → IsBytes bytes → piece_in bytes ≡ Some piece → sum bytes % 256 ≡ 0
    → IsPieceOf bytes piece
piece_back [] piece all h adds = absurd (none-some piece h)
piece_back (a ∷ []) piece all h adds = absurd (none-some piece h)
piece_back (a ∷ b ∷ []) piece all h adds = absurd (none-some piece h)
piece_back (a ∷ b ∷ c ∷ []) piece all h adds = absurd (none-some piece h)
piece_back (count ∷ high ∷ low ∷ type ∷ rest) piece all h adds =
    let start : ℕ = 256 * high + low in
    let made : Piece = record { start = start; bytes = take count rest } in
    let found = cond_some (has_form count start type rest) made piece h in
    let forms = and_parts (type == 0 && length rest == count + 1) (nat_le (start + count) 65536) found.0 in
    let counts = and_parts (type == 0) (length rest == count + 1) forms.0 in
    let data_type : type ≡ 0 = eqb-true type 0 counts.0 in
    let size : length rest ≡ count + 1 = eqb-true (length rest) (count + 1) counts.1 in
    let fits : start + count ≤ 65536 = leb-true (start + count) 65536 forms.1 in
    let l = last_of rest count (omega arith) in
    let cut : length (take count rest) ≡ min count (length rest) = length-take count rest in
    let long : length (take count rest) ≡ count = omega arith in
    let front : List ℕ = count ∷ high ∷ low ∷ 0 ∷ take count rest in
    let small : low < 256 = all.1.1.0 in
    let small_high : high < 256 = all.1.0 in
    let small_count : count < 256 = all.0 in
    let top : start / 256 ≡ high = omega arith in
    let bottom : start % 256 ≡ low = omega arith in
    let front_is : data_line_bytes made ≡ front =
    ap (λ n. n ∷ start / 256 ∷ start % 256 ∷ 0 ∷ take count rest) long
    ∙ ap (λ n. count ∷ n ∷ start % 256 ∷ 0 ∷ take count rest) top
    ∙ ap (λ n. count ∷ high ∷ n ∷ 0 ∷ take count rest) bottom in
    let whole : count ∷ high ∷ low ∷ type ∷ rest ≡ front ++ l.item ∷ [] =
    ap (λ t. count ∷ high ∷ low ∷ t ∷ rest) data_type
    ∙ ap (λ r. count ∷ high ∷ low ∷ 0 ∷ r) l.whole in
    let sum_is : l.item ≡ checksum_of front =
    checksum_is front l.item (l.is_byte all.1.1.1.1) (ap (λ b. sum b % 256) (sym whole) ∙ adds) in
    subst (IsPieceOf (count ∷ high ∷ low ∷ type ∷ rest)) found.1 (
      whole ∙ ap (λ s. front ++ s ∷ []) sum_is ∙ ap (λ f. f ++ checksum_of f ∷ []) (sym front_is),
      record {
        short = omega arith;
        bytes = l.others all.1.1.1.1;
        start = omega arith;
        in_memory = omega arith;
      },
    )

-- what is read of a line that adds up
pub line_back :
    (line : List ℕ) (piece : Piece) (bytes : List ℕ) → read_line line ≡ Some (piece, bytes)
    → sum bytes % 256 ≡ 0 → (line ≡ data_line piece) × IsLine piece
line_back [] piece bytes h adds = absurd (none-some (piece, bytes) h)
line_back (first ∷ rest) piece bytes h adds =
    option_and_then_some _ (bytes_of_line (first ∷ rest)) (piece, bytes) h
    (λ read one later.
    option_map_some (λ (p : Piece). (p, read)) (piece_in read) (piece, bytes) later
    (λ p two is.
    go (first == 58) refl read one p two (some_pair_parts p piece read bytes (ap Some is))))
  where
    go : (colon : Bool) → (first == 58) ≡ colon → (read : List ℕ)
        → cond colon (bytes_in rest) None ≡ Some read
        → (p : Piece) → piece_in read ≡ Some p → (p ≡ piece) × (read ≡ bytes)
        → (first ∷ rest ≡ data_line piece) × IsLine piece
    go false e read one p two is = absurd (none-some read one)
    go true e read one p two is =
        let digits = bytes_back rest read one in
        let k = piece_back read p digits.1 two (ap (λ b. sum b % 256) is.1 ∙ adds) in
        subst (λ q. (first ∷ rest ≡ data_line q) × IsLine q) is.0 (
          ap (λ c. c ∷ rest) (eqb-true first 58 e)
              ∙ ap (λ r. 58 ∷ r) (digits.0 ∙ ap (flat_map digits_of) k.0),
          k.1,
        )

bytes_append : (xs ys : List ℕ) → IsBytes xs → IsBytes ys → IsBytes (xs ++ ys)
bytes_append [] ys a b = b
bytes_append (x ∷ xs) ys a b = (a.0, bytes_append xs ys a.1 b)

line_bytes : (piece : Piece) → IsLine piece → IsBytes (all_bytes piece)
line_bytes piece is =
    let short : length piece.bytes < 256 = is.short in
    let start : piece.start < 65536 = is.start in
    bytes_append (data_line_bytes piece) (checksum_of (data_line_bytes piece) ∷ []) (
      short,
      (
        (let z : piece.start / 256 < 256 = omega arith in z),
        ((let z : piece.start % 256 < 256 = omega arith in z), ((let z : 0 < 256 = omega arith in z), is.bytes)),
      ),
    )
    (checksum_below (data_line_bytes piece), tt)

piece_again : (piece : Piece) → IsLine piece → piece_in (all_bytes piece) ≡ Some piece
piece_again piece is =
    let last : ℕ = checksum_of (data_line_bytes piece) in
    let count : ℕ = length piece.bytes in
    let start_is : 256 * (piece.start / 256) + piece.start % 256 ≡ piece.start = omega arith in
    let fits : piece.start + count ≤ 65536 = is.in_memory in
    let size : length (piece.bytes ++ last ∷ []) ≡ count + 1 = length-append piece.bytes (last ∷ []) in
    let rest : List ℕ = piece.bytes ++ last ∷ [] in
    ap (λ s. cond (has_form count s 0 rest) (Some (record { start = s; bytes = take count rest })) None)
    start_is
    ∙ ap (λ b. cond (b && nat_le (piece.start + count) 65536)
    (Some (record { start = piece.start; bytes = take count rest })) None)
    (eq-eqb (length rest) (count + 1) size)
    ∙ ap (λ b. cond b (Some (record { start = piece.start; bytes = take count rest })) None)
    (le-leb (piece.start + count) 65536 fits)
    ∙ ap (λ b. Some (record { start = piece.start; bytes = b })) (take_at piece.bytes (last ∷ []) count refl)

pub line_again : (piece : Piece) → IsLine piece → read_line (data_line piece) ≡ Some (piece, all_bytes piece)
line_again piece is =
    ap (option_and_then (λ (bytes : List ℕ). option_map (λ (p : Piece). (p, bytes)) (piece_in bytes)))
    (bytes_again (all_bytes piece) (line_bytes piece is))
    ∙ ap (option_map (λ (p : Piece). (p, all_bytes piece))) (piece_again piece is)
