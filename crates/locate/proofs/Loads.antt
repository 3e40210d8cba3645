-- Pieces that are put into a memory, and runs, which have no address in common.
use Rattle.locate.proofs.Prelude.{◌≡◌, ℕ, ◌+◌, ◌-◌, ◌<◌, ◌≤◌, ◌⊎◌, inl, inr, true, List, [], ◌∷◌, ◌++◌, length, take, drop, get_or, All, AllPairs, Option, Some, None, unwrap_or, refl, ap, sym, subst, ◌∙◌, arith, AllByRecursion, option_or, cases_lt, length-append, length-take-le, length-drop, get_or_append_left, get_or-append_right, get_or-take, get_or-drop, All-from_recursion, recursion_from_All, AllPairs-cons, Piece, with_bytes, AreApart, AreWritable, EndsInMemory, IsLoaded, byte_in, are_runs, loaded}
use Rattle.locate.proofs.Pieces.{piece_end, byte_of_piece, one_more, within, no_byte_below, no_byte_above, Begins, Begins-less, Ends, runs_parts}
use Rattle.locate.proofs.Images.{none_before}

-- each piece begins at an address or after it
abbrev Starts : ℕ → List Piece → Type 0
Starts n pieces = AllByRecursion (λ (piece : Piece). n ≤ piece.start) pieces

starts_all : (n : ℕ) (pieces : List Piece) → are_runs pieces ≡ true → Begins n pieces → Starts n pieces
starts_all n [] runs begins = tt
starts_all n (piece ∷ others) runs begins =
    let p = runs_parts piece others runs in
    let k : n ≤ piece.start = begins in
    (begins, starts_all n others p.2 (Begins-less n (piece_end piece + 1) others (omega arith) p.1))

apart_from : (piece : Piece) (others : List Piece) → Starts (piece_end piece + 1) others
    → AllByRecursion (AreApart piece) others
apart_from piece [] s = tt
apart_from piece (next ∷ others) s =
    let k : piece_end piece + 1 ≤ next.start = s.0 in
    (λ both. let first = both.1 in let second = both.2 in omega arith, apart_from piece others s.1)

-- runs have no address in common
pub runs_apart : (pieces : List Piece) → are_runs pieces ≡ true → AllPairs AreApart pieces
runs_apart [] runs = λ i j d before within. absurd (omega arith)
runs_apart (piece ∷ others) runs =
    let p = runs_parts piece others runs in
    AllPairs-cons AreApart piece others
    (All-from_recursion (AreApart piece) others
    (apart_from piece others (starts_all (piece_end piece + 1) others p.2 p.1)))
    (runs_apart others p.2)

pub runs_writable : (pieces : List Piece) → are_runs pieces ≡ true → All EndsInMemory pieces
    → AreWritable pieces
runs_writable pieces runs ends = record { in_memory = ends; apart = runs_apart pieces runs }

-- bytes that are put into a memory
length_with : (bytes : List ℕ) (start : ℕ) (memory : List ℕ) → start + length bytes ≤ length memory
    → length (with_bytes bytes start memory) ≡ length memory
length_with bytes start memory h =
    omega (
      arith,
      length-append (take start memory) (bytes ++ drop (start + length bytes) memory),
      length-append bytes (drop (start + length bytes) memory),
      length-take-le start memory (omega arith),
      length-drop (start + length bytes) memory,
    )

byte_before :
    (bytes : List ℕ) (start : ℕ) (memory : List ℕ) (address : ℕ)
    → start + length bytes ≤ length memory → address < start
    → get_or (with_bytes bytes start memory) address 0 ≡ get_or memory address 0
byte_before bytes start memory address h k =
    let size = length-take-le start memory (omega arith) in
    get_or_append_left (take start memory) (bytes ++ drop (start + length bytes) memory) 0
    address (omega arith)
    ∙ get_or-take start memory address 0 k

byte_within :
    (bytes : List ℕ) (start : ℕ) (memory : List ℕ) (address : ℕ) → start + length bytes ≤ length memory
    → start ≤ address → address < start + length bytes
    → get_or (with_bytes bytes start memory) address 0 ≡ get_or bytes (address - start) 0
byte_within bytes start memory address h low high =
    get_or-append_right (take start memory) (bytes ++ drop (start + length bytes) memory) start address 0
    (length-take-le start memory (omega arith)) low
    ∙ get_or_append_left bytes (drop (start + length bytes) memory) 0 (address - start) (omega arith)

byte_after :
    (bytes : List ℕ) (start : ℕ) (memory : List ℕ) (address : ℕ) → start + length bytes ≤ length memory
    → start + length bytes ≤ address
    → get_or (with_bytes bytes start memory) address 0 ≡ get_or memory address 0
byte_after bytes start memory address h past =
    let same : start + length bytes + (address - start - length bytes) ≡ address = omega arith in
    get_or-append_right (take start memory) (bytes ++ drop (start + length bytes) memory) start address 0
    (length-take-le start memory (omega arith)) (omega arith)
    ∙ get_or-append_right bytes (drop (start + length bytes) memory) (length bytes) (address - start)
    0 refl (omega arith)
    ∙ get_or-drop (start + length bytes) memory (address - start - length bytes) 0
    ∙ ap (λ i. get_or memory i 0) same

-- a piece that is put into a memory
one_loaded :
    (piece : Piece) (memory : List ℕ) (address : ℕ) → piece_end piece ≤ length memory
    → get_or (with_bytes piece.bytes piece.start memory) address 0
    ≡ unwrap_or (byte_of_piece piece address) (get_or memory address 0)
one_loaded piece memory address h =
    elim (cases_lt address piece.start) [
      | inl under ↦
          byte_before piece.bytes piece.start memory address h under
          ∙ sym (ap (λ o. unwrap_or o (get_or memory address 0)) (no_byte_below piece address under))
      | inr low ↦
          elim (cases_lt address (piece_end piece)) [
            | inl high ↦
                byte_within piece.bytes piece.start memory address h low high
                ∙ sym (ap (λ o. unwrap_or o (get_or memory address 0)) (within piece address low high))
            | inr past ↦
                byte_after piece.bytes piece.start memory address h past
                ∙ sym (ap (λ o. unwrap_or o (get_or memory address 0)) (no_byte_above piece address past))
          ]
    ]

-- first a piece and then others, where no address is in both
in_turn : (first others : Option ℕ) (byte : ℕ) → (others ≡ None) ⊎ (first ≡ None)
    → unwrap_or others (unwrap_or first byte) ≡ unwrap_or (option_or first others) byte
in_turn None others byte h = refl
in_turn (Some value) None byte h = refl
in_turn (Some value) (Some other) byte (inl h) =
    absurd (let bad : ◌≡◌ {A = Option ℕ} (Some other) None = h in cc)
in_turn (Some value) (Some other) byte (inr h) =
    absurd (let bad : ◌≡◌ {A = Option ℕ} (Some value) None = h in cc)

not_in_both :
    (piece : Piece) (others : List Piece) (address : ℕ) → are_runs (piece ∷ others) ≡ true
    → (byte_in others address ≡ None) ⊎ (byte_of_piece piece address ≡ None)
not_in_both piece others address runs =
    let p = runs_parts piece others runs in
    elim (cases_lt address (piece_end piece)) [
      | inl before ↦
          inl (none_before (piece_end piece + 1) others address p.2 p.1 (omega arith))
      | inr past ↦ inr (no_byte_above piece address past)
    ]

length_loaded :
    (pieces : List Piece) (memory : List ℕ) → Ends (length memory) pieces
    → length (loaded pieces memory) ≡ length memory
length_loaded [] memory ends = refl
length_loaded (piece ∷ others) memory ends =
    let size = length_with piece.bytes piece.start memory ends.0 in
    let P : ℕ → Type 0 = λ n. Ends n others in
    length_loaded others (with_bytes piece.bytes piece.start memory) (subst P (sym size) ends.1) ∙ size

byte_loaded :
    (pieces : List Piece) (memory : List ℕ) (address : ℕ) → are_runs pieces ≡ true
    → Ends (length memory) pieces
    → get_or (loaded pieces memory) address 0 ≡ unwrap_or (byte_in pieces address) (get_or memory address 0)
byte_loaded [] memory address runs ends = refl
byte_loaded (piece ∷ others) memory address runs ends =
    let p = runs_parts piece others runs in
    let size = length_with piece.bytes piece.start memory ends.0 in
    let P : ℕ → Type 0 = λ n. Ends n others in
    byte_loaded others (with_bytes piece.bytes piece.start memory) address p.2 (subst P (sym size) ends.1)
    ∙ ap (unwrap_or (byte_in others address)) (one_loaded piece memory address ends.0)
    ∙ in_turn (byte_of_piece piece address) (byte_in others address) (get_or memory address 0)
    (not_in_both piece others address runs)
    ∙ sym (ap (λ o. unwrap_or o (get_or memory address 0)) (one_more piece others address))

ends_of : (pieces : List Piece) → AllByRecursion EndsInMemory pieces → Ends 65536 pieces
ends_of [] ends = tt
ends_of (piece ∷ others) ends = (ends.0, ends_of others ends.1)

-- runs that are put into a whole memory are loaded
pub is_loaded :
    (pieces : List Piece) (before after : List ℕ) → are_runs pieces ≡ true → All EndsInMemory pieces
    → loaded pieces before ≡ after → length before ≡ 65536 → IsLoaded (byte_in pieces) before after
is_loaded pieces before after runs ends same size =
    let P : ℕ → Type 0 = λ n. Ends n pieces in
    let room : Ends (length before) pieces =
    subst P (sym size) (ends_of pieces (recursion_from_All EndsInMemory pieces ends)) in
    record {
      size = ap length (sym same) ∙ length_loaded pieces before room;
      bytes = λ address low. ap (λ m. get_or m address 0) (sym same)
          ∙ byte_loaded pieces before address runs room;
    }

-- the same where there may be no pieces, and the size of the memory is known only where there are some
pub all_loaded :
    (pieces : List Piece) (before after : List ℕ) → are_runs pieces ≡ true → All EndsInMemory pieces
    → loaded pieces before ≡ after → (0 < length pieces → length before ≡ 65536)
    → IsLoaded (byte_in pieces) before after
all_loaded [] before after runs ends same size = record {
  size = ap length (sym same);
  bytes = λ address low. ap (λ m. get_or m address 0) (sym same);
}
all_loaded (piece ∷ others) before after runs ends same size =
    is_loaded (piece ∷ others) before after runs ends same (size (omega arith))
