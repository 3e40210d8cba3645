-- Places that are moved and joined stay valid: each byte, each word, and how many there are.
use Rattle.object_laws.proofs.Prelude.{◌≡◌, ℕ, zero, suc, ◌+◌, ◌-◌, ◌≤◌, Bool, true, false, not, ◌||◌, nat_lt, List, [], ◌∷◌, ◌++◌, length, replicate, slice_get, Option, Some, None, option_map, option_and_then, refl, ap, ◌∙◌, arith, list_all, AllByRecursion, option_map_or, option_flatten, and_parts, and_from, lt-ltb, ltb-true, length-append, length-replicate, list_all-append, Target, Fixup, SetByte, is_both, begins_word, is_plain, words_are_whole, is_target, is_valid_byte, fixup_moved, byte_moved, moved_after, joined_after, moved_is_byte}

-- each place has a valid byte, or none
abbrev pub are_valid : (count : ℕ) → List (Option SetByte) → Bool
are_valid count places = list_all (λ place. option_map_or (is_valid_byte count) place true) places

-- what is kept of the targets of a module is a target in the merge, which has no external names
abbrev pub Keeps : (count : ℕ) → (kept : Target → Option Target) → Type 0
Keeps count kept =
    (target : Target) → is_target count target ≡ true
    → option_map_or (λ (other : Target). is_target 0 other) (kept target) true ≡ true

fixup_valid :
    (count : ℕ) (kept : Target → Option Target) (fixup : Option Fixup) → Keeps count kept
    → option_map_or (λ (f : Fixup). is_target count f.target) fixup true ≡ true
    → option_map_or (λ (f : Fixup). is_target 0 f.target) (option_and_then (fixup_moved kept) fixup) true
    ≡ true
fixup_valid count kept None keeps h = refl
fixup_valid count kept (Some fixup) keeps h = go (kept fixup.target) (keeps fixup.target h)
  where
    go : (other : Option Target) → option_map_or (λ (t : Target). is_target 0 t) other true ≡ true
        → option_map_or (λ (f : Fixup). is_target 0 f.target)
        (option_map (λ (target : Target). record { kind = fixup.kind; target = target }) other) true ≡ true
    go None k = refl
    go (Some target) k = k

place_moved_valid :
    (count : ℕ) (gain_of : Target → ℕ) (kept : Target → Option Target) (before here : Option SetByte)
    → Keeps count kept
    → option_map_or (is_valid_byte count) here true ≡ true
    → option_map_or (is_valid_byte 0) (option_map (byte_moved gain_of kept before) here) true ≡ true
place_moved_valid count gain_of kept before None keeps h = refl
place_moved_valid count gain_of kept before (Some here) keeps h =
    let cut = and_parts (nat_lt here.value 256) _ h in
    and_from _ _
    (lt-ltb _ 256 (moved_is_byte gain_of before here.value here.fixup (ltb-true here.value 256 cut.0)))
    (fixup_valid count kept here.fixup keeps cut.1)

pub moved_valid :
    (count : ℕ) (gain_of : Target → ℕ) (kept : Target → Option Target) (before : Option SetByte)
    (places : List (Option SetByte)) → Keeps count kept → are_valid count places ≡ true
    → are_valid 0 (moved_after gain_of kept before places) ≡ true
moved_valid count gain_of kept before [] keeps h = refl
moved_valid count gain_of kept before (here ∷ others) keeps h =
    let cut = and_parts (option_map_or (is_valid_byte count) here true) (are_valid count others) h in
    and_from _ _ (place_moved_valid count gain_of kept before here keeps cut.0)
    (moved_valid count gain_of kept here others keeps cut.1)

-- words
fixup_word :
    (kept : Target → Option Target) (fixup : Option Fixup)
    → option_map_or (λ (f : Fixup). is_both f.kind) (option_and_then (fixup_moved kept) fixup) false ≡ true
    → option_map_or (λ (f : Fixup). is_both f.kind) fixup false ≡ true
fixup_word kept None h = h
fixup_word kept (Some fixup) h = go (kept fixup.target) h
  where
    go : (other : Option Target)
        → option_map_or (λ (f : Fixup). is_both f.kind)
        (option_map (λ (target : Target). record { kind = fixup.kind; target = target }) other) false ≡ true
        → is_both fixup.kind ≡ true
    go None k = absurd (let bad : false ≡ true = k in cc)
    go (Some target) k = k

pub word_before :
    (gain_of : Target → ℕ) (kept : Target → Option Target) (before here : Option SetByte)
    → begins_word (option_map (byte_moved gain_of kept before) here) ≡ true → begins_word here ≡ true
word_before gain_of kept before None h = h
word_before gain_of kept before (Some here) h = fixup_word kept here.fixup h

fixup_plain :
    (kept : Target → Option Target) (fixup : Option Fixup)
    → option_map_or (λ (f : Fixup). false) fixup true ≡ true
    → option_map_or (λ (f : Fixup). false) (option_and_then (fixup_moved kept) fixup) true ≡ true
fixup_plain kept None h = refl
fixup_plain kept (Some fixup) h = absurd (let bad : false ≡ true = h in cc)

plain_after :
    (gain_of : Target → ℕ) (kept : Target → Option Target) (before here : Option SetByte)
    → is_plain here ≡ true
    → is_plain (option_map (byte_moved gain_of kept before) here) ≡ true
plain_after gain_of kept before None h = h
plain_after gain_of kept before (Some here) h = fixup_plain kept here.fixup h

-- a test that is passed by fewer, before one that more pass
implies : (a b x y : Bool) → (x ≡ true → a ≡ true) → (b ≡ true → y ≡ true) → (not a || b) ≡ true
    → (not x || y) ≡ true
implies a b false y f g h = refl
implies true b true y f g h = g h
implies false b true y f g h = absurd (let bad : false ≡ true = f refl in cc)

next_plain :
    (gain_of : Target → ℕ) (kept : Target → Option Target) (before : Option SetByte)
    (others : List (Option SetByte))
    → is_plain (option_flatten (slice_get others 0)) ≡ true
    → is_plain (option_flatten (slice_get (moved_after gain_of kept before others) 0)) ≡ true
next_plain gain_of kept before [] h = h
next_plain gain_of kept before (next ∷ others) h = plain_after gain_of kept before next h

pub moved_whole :
    (gain_of : Target → ℕ) (kept : Target → Option Target) (before : Option SetByte)
    (places : List (Option SetByte))
    → words_are_whole places ≡ true → words_are_whole (moved_after gain_of kept before places) ≡ true
moved_whole gain_of kept before [] h = refl
moved_whole gain_of kept before (here ∷ others) h =
    let cut = and_parts (not (begins_word here) || is_plain (option_flatten (slice_get others 0)))
    (words_are_whole others) h in
    and_from _ _
    (implies (begins_word here) (is_plain (option_flatten (slice_get others 0))) _ _
    (word_before gain_of kept before here) (next_plain gain_of kept here others) cut.0)
    (moved_whole gain_of kept here others cut.1)

pub moved_length :
    (gain_of : Target → ℕ) (kept : Target → Option Target) (before : Option SetByte)
    (places : List (Option SetByte))
    → length (moved_after gain_of kept before places) ≡ length places
moved_length gain_of kept before [] = refl
moved_length gain_of kept before (here ∷ others) = ap suc (moved_length gain_of kept here others)

-- Joining.
nothing_valid : (count : ℕ) → are_valid 0 (replicate count None) ≡ true
nothing_valid zero = refl
nothing_valid (suc count) = nothing_valid count

pub nothing_whole : (count : ℕ) → words_are_whole (replicate count None) ≡ true
nothing_whole zero = refl
nothing_whole (suc count) = nothing_whole count

implied : (a b : Bool) → (not a || false) ≡ true → (not a || b) ≡ true
implied true b h = absurd (let bad : false ≡ true = h in cc)
implied false b h = refl

pub whole_append :
    (xs ys : List (Option SetByte)) → words_are_whole xs ≡ true → words_are_whole ys ≡ true
    → words_are_whole (xs ++ ys) ≡ true
whole_append [] ys h k = k
whole_append (here ∷ []) ys h k =
    let cut = and_parts (not (begins_word here) || false) true h in
    and_from _ _ (implied (begins_word here) (is_plain (option_flatten (slice_get ys 0))) cut.0) k
whole_append (here ∷ next ∷ others) ys h k =
    let cut = and_parts (not (begins_word here) || is_plain next) (words_are_whole (next ∷ others)) h in
    and_from _ _ cut.0 (whole_append (next ∷ others) ys cut.1 k)

-- pieces that are valid each
pub record Piece (piece : ℕ × List (Option SetByte)) : Type 0 where
  pub valid : are_valid 0 piece.1 ≡ true
  pub whole : words_are_whole piece.1 ≡ true

pub joined_valid :
    (end : ℕ) (pieces : List (ℕ × List (Option SetByte))) → AllByRecursion Piece pieces
    → are_valid 0 (joined_after end pieces) ≡ true
joined_valid end [] all = refl
joined_valid end (piece ∷ others) all =
    let gap : List (Option SetByte) = replicate (piece.0 - end) None in
    let rest : List (Option SetByte) = joined_after (piece.0 + length piece.1) others in
    list_all-append (λ place. option_map_or (is_valid_byte 0) place true) (gap ++ piece.1) rest
    ∙ and_from (are_valid 0 (gap ++ piece.1)) (are_valid 0 rest)
    (list_all-append (λ place. option_map_or (is_valid_byte 0) place true) gap piece.1
    ∙ and_from (are_valid 0 gap) (are_valid 0 piece.1) (nothing_valid (piece.0 - end)) all.0.valid)
    (joined_valid (piece.0 + length piece.1) others all.1)

pub joined_whole :
    (end : ℕ) (pieces : List (ℕ × List (Option SetByte))) → AllByRecursion Piece pieces
    → words_are_whole (joined_after end pieces) ≡ true
joined_whole end [] all = refl
joined_whole end (piece ∷ others) all =
    let gap : List (Option SetByte) = replicate (piece.0 - end) None in
    whole_append (gap ++ piece.1) (joined_after (piece.0 + length piece.1) others)
    (whole_append gap piece.1 (nothing_whole (piece.0 - end)) all.0.whole)
    (joined_whole (piece.0 + length piece.1) others all.1)

-- pieces that each begin where those before them end, or after that
abbrev pub PiecesFollow : (end : ℕ) → List (ℕ × List (Option SetByte)) → Type 0
PiecesFollow end [] = Unit {0}
PiecesFollow end (piece ∷ others) = (end ≤ piece.0) × PiecesFollow (piece.0 + length piece.1) others

-- where the last of the pieces ends
abbrev pub end_after : (end : ℕ) → List (ℕ × List (Option SetByte)) → ℕ
end_after end [] = end
end_after end (piece ∷ others) = end_after (piece.0 + length piece.1) others

pub joined_length :
    (end : ℕ) (pieces : List (ℕ × List (Option SetByte))) → PiecesFollow end pieces
    → end + length (joined_after end pieces) ≡ end_after end pieces
joined_length end [] follow = omega arith
joined_length end (piece ∷ others) follow =
    let rest : List (Option SetByte) = joined_after (piece.0 + length piece.1) others in
    let gap : List (Option SetByte) = replicate (piece.0 - end) None in
    let a : length ((gap ++ piece.1) ++ rest) ≡ length (gap ++ piece.1) + length rest =
    length-append (gap ++ piece.1) rest in
    let b : length (gap ++ piece.1) ≡ length gap + length piece.1 = length-append gap piece.1 in
    let c : length gap ≡ piece.0 - end = length-replicate {A = Option SetByte} (piece.0 - end) None in
    let d : (piece.0 + length piece.1) + length rest ≡ end_after (piece.0 + length piece.1) others =
    joined_length (piece.0 + length piece.1) others follow.1 in
    let e : end ≤ piece.0 = follow.0 in
    omega (arith, a, b, c, d, e)
