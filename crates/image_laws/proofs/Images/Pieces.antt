-- Where the pieces of a segment stand in memory, of which the whole stands there.
use Rattle.image_laws.proofs.Prelude.{◌≡◌, ℕ, suc, ◌+◌, ◌-◌, ◌≤◌, Bool, true, false, not, ◌||◌, List, [], ◌∷◌, ◌++◌, length, map, replicate, Option, None, option_map, refl, ap, subst, ◌∙◌, arith, AllByRecursion, and_parts, map-append, length-append, length-map, length-replicate, Target, joined_after, SetByte, begins_word, is_plain, words_are_whole, moved, bytes_resolved, moved_length, nothing_whole, whole_append, PiecesFollow, end_after, last_place, moved_in_parts, BytesAreLoaded}
use Rattle.image_laws.proofs.Images.TwoSteps.{nothing_kept, value_of}

no_last : (b : Bool) (next : Bool) → (not b || false) ≡ true → b ≡ false
no_last false next h = refl
no_last true next h = absurd (let bad : false ≡ true = h in cc)

-- whole places end in no word
last_whole :
    (before : Option SetByte) (places : List (Option SetByte)) → words_are_whole (before ∷ places) ≡ true
    → begins_word (last_place before places) ≡ false
last_whole before [] h =
    let cut = and_parts (not (begins_word before) || false) true h in no_last (begins_word before) false cut.0
last_whole before (here ∷ others) h =
    let cut = and_parts (not (begins_word before) || is_plain here) (words_are_whole (here ∷ others)) h in
    last_whole here others cut.1

module _ (address_of : Target → ℕ) where
  pub resolved_length :
      (places : List (Option SetByte)) → length (bytes_resolved address_of places) ≡ length places
  resolved_length places =
      length-map (moved address_of nothing_kept places) (option_map value_of)
      ∙ moved_length address_of nothing_kept None places

  resolved_append :
      (xs ys : List (Option SetByte)) → words_are_whole xs ≡ true
      → bytes_resolved address_of (xs ++ ys) ≡ bytes_resolved address_of xs ++ bytes_resolved address_of ys
  resolved_append xs ys h =
      ap (map (option_map value_of)) (moved_in_parts address_of nothing_kept xs ys (last_whole None xs h))
      ∙ map-append (option_map value_of) (moved address_of nothing_kept xs) (moved address_of nothing_kept ys)

-- bytes that are loaded are so in parts
loaded_append :
    (before after : List ℕ) (address : ℕ) (xs ys : List (Option ℕ))
    → BytesAreLoaded before after address (xs ++ ys)
    → BytesAreLoaded before after address xs × BytesAreLoaded before after (address + length xs) ys
loaded_append before after address [] ys h =
    let same : address ≡ address + 0 = omega arith in
    (tt, subst (λ n. BytesAreLoaded before after n ys) same h)
loaded_append before after address (x ∷ xs) ys h =
    let same : (address + 1) + length xs ≡ address + suc (length xs) = omega arith in
    let later = loaded_append before after (address + 1) xs ys h.1 in
    ((h.0, later.0), subst (λ n. BytesAreLoaded before after n ys) same later.1)

-- words of each piece are whole
abbrev pub WholePiece : ℕ × List (Option SetByte) → Type 0
WholePiece piece = words_are_whole piece.1 ≡ true

module _ (address_of : Target → ℕ) (before after : List ℕ) (base : ℕ) where
  -- a piece stands where the segment begins and so much after it
  abbrev pub PieceStands : ℕ × List (Option SetByte) → Type 0
  PieceStands piece = BytesAreLoaded before after (base + piece.0) (bytes_resolved address_of piece.1)

  -- places after a gap and before others
  middle_stands :
      (end start : ℕ) (piece rest : List (Option SetByte)) → end ≤ start → words_are_whole piece ≡ true
      → BytesAreLoaded before after (base + end)
      (bytes_resolved address_of (replicate (start - end) None ++ piece ++ rest))
      → BytesAreLoaded before after (base + start) (bytes_resolved address_of piece)
      × BytesAreLoaded before after (base + (start + length piece)) (bytes_resolved address_of rest)
  middle_stands end start piece rest follows whole h =
      let gap : List (Option SetByte) = replicate (start - end) None in
      let g : length (bytes_resolved address_of gap) ≡ length gap = resolved_length address_of gap in
      let n : length gap ≡ start - end = length-replicate {A = Option SetByte} (start - end) None in
      let p : length (bytes_resolved address_of piece) ≡ length piece = resolved_length address_of piece in
      let blank : words_are_whole gap ≡ true = nothing_whole (start - end) in
      let cut =
      resolved_append address_of (gap ++ piece) rest (whole_append gap piece blank whole)
      ∙ ap (λ bytes. bytes ++ bytes_resolved address_of rest) (resolved_append address_of gap piece blank) in
      let outer =
      loaded_append before after (base + end)
      (bytes_resolved address_of gap ++ bytes_resolved address_of piece)
      (bytes_resolved address_of rest) (subst (BytesAreLoaded before after (base + end)) cut h) in
      let inner =
      loaded_append before after (base + end) (bytes_resolved address_of gap)
      (bytes_resolved address_of piece)
      outer.0 in
      let both =
      length-append (bytes_resolved address_of gap) (bytes_resolved address_of piece) in
      let first : base + end + length (bytes_resolved address_of gap) ≡ base + start =
      omega (arith, g, n, follows) in
      let next :
      base + end + length (bytes_resolved address_of gap ++ bytes_resolved address_of piece)
      ≡ base + (start + length piece) = omega (arith, both, g, n, p, follows) in (
        subst (λ a. BytesAreLoaded before after a (bytes_resolved address_of piece)) first inner.1,
        subst (λ a. BytesAreLoaded before after a (bytes_resolved address_of rest)) next outer.1,
      )

  pub pieces_stand :
      (end : ℕ) (pieces : List (ℕ × List (Option SetByte))) → AllByRecursion WholePiece pieces
      → PiecesFollow end pieces
      → BytesAreLoaded before after (base + end) (bytes_resolved address_of (joined_after end pieces))
      → AllByRecursion PieceStands pieces
  pieces_stand end [] whole follow h = tt
  pieces_stand end (piece ∷ others) whole follow h =
      let parts =
      middle_stands end piece.0 piece.1 (joined_after (piece.0 + length piece.1) others) follow.0 whole.0 h in
      (parts.0, pieces_stand (piece.0 + length piece.1) others whole.1 follow.1 parts.1)

-- pieces end where the last of them does, or before that
end_grows :
    (end : ℕ) (pieces : List (ℕ × List (Option SetByte))) → PiecesFollow end pieces
    → end ≤ end_after end pieces
end_grows end [] follow = omega arith
end_grows end (piece ∷ others) follow =
    let here : end ≤ piece.0 = follow.0 in
    let later : piece.0 + length piece.1 ≤ end_after (piece.0 + length piece.1) others =
    end_grows (piece.0 + length piece.1) others follow.1 in
    omega (arith, here, later)

abbrev pub EndsBy : (end : ℕ) → ℕ × List (Option SetByte) → Type 0
EndsBy end piece = piece.0 + length piece.1 ≤ end

pub pieces_end :
    (end : ℕ) (pieces : List (ℕ × List (Option SetByte))) → PiecesFollow end pieces
    → AllByRecursion (EndsBy (end_after end pieces)) pieces
pieces_end end [] follow = tt
pieces_end end (piece ∷ others) follow = (
  end_grows (piece.0 + length piece.1) others follow.1,
  pieces_end (piece.0 + length piece.1) others follow.1,
)
