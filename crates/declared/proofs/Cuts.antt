-- Bytes cut into pieces: a byte of a piece is a byte of the whole.
use Rattle.declared.proofs.Prelude.{◌≡◌, ℕ, zero, suc, ◌+◌, ◌-◌, ◌<◌, ◌≤◌, min, List, [], ◌∷◌, length, take, drop, get_or, set, replicate, refl, ap, sym, ◌∙◌, arith, length-take, drop-drop, set_past, take-set-le, drop-set-lt, drop-set-add, take-replicate, drop-replicate, take-set-lt, zeroed, cut, total}

taken_short : (size offset : ℕ) (bytes : List ℕ) → size ≤ offset → length (take size bytes) ≤ offset
taken_short size offset bytes past =
    let is : length (take size bytes) ≡ min size (length bytes) = length-take size bytes in omega arith

-- a piece lies within the whole
pub piece_within :
    (sizes : List ℕ) (object : ℕ)
    → total (take object sizes) + get_or sizes object 0 ≤ total sizes
piece_within [] zero = omega arith
piece_within [] (suc object) = omega arith
piece_within (size ∷ sizes) zero = omega arith
piece_within (size ∷ sizes) (suc object) =
    let others : total (take object sizes) + get_or sizes object 0 ≤ total sizes =
    piece_within sizes object in
    omega arith

-- a piece as a part of the whole
pub piece_is :
    (sizes bytes : List ℕ) (object : ℕ)
    → get_or (cut sizes bytes) object []
    ≡ take (get_or sizes object 0) (drop (total (take object sizes)) bytes)
piece_is [] bytes object = refl
piece_is (size ∷ sizes) bytes zero = refl
piece_is (size ∷ sizes) bytes (suc object) =
    piece_is sizes (drop size bytes) object
    ∙ ap (take (get_or sizes object 0)) (drop-drop (total (take object sizes)) size bytes)

pub write_inside :
    (sizes bytes : List ℕ) (object offset place byte : ℕ)
    → offset < get_or sizes object 0
    → place ≡ total (take object sizes) + offset
    → cut sizes (set bytes place byte)
    ≡ set (cut sizes bytes) object (set (get_or (cut sizes bytes) object []) offset byte)
write_inside [] bytes object offset place byte within is = absurd (omega arith)
write_inside (size ∷ sizes) bytes zero offset place byte within is =
    let same : place ≡ offset = omega arith in
    ap (λ k. take size (set bytes k byte) ∷ cut sizes (drop size (set bytes k byte))) same
    ∙ ap (λ piece. piece ∷ cut sizes (drop size (set bytes offset byte)))
    (take-set-lt size bytes offset byte within)
    ∙ ap (λ rest. set (take size bytes) offset byte ∷ cut sizes rest)
    (drop-set-lt size bytes offset byte within)
write_inside (size ∷ sizes) bytes (suc object) offset place byte within is =
    let before : ℕ = total (take object sizes) + offset in
    let same : place ≡ size + before = omega arith in
    ap (λ k. take size (set bytes k byte) ∷ cut sizes (drop size (set bytes k byte))) same
    ∙ ap (λ piece. piece ∷ cut sizes (drop size (set bytes (size + before) byte)))
    (take-set-le size bytes (size + before) byte (omega arith))
    ∙ ap (λ rest. take size bytes ∷ cut sizes rest) (drop-set-add size bytes before byte)
    ∙ ap (λ others. take size bytes ∷ others)
    (write_inside sizes (drop size bytes) object offset before byte within refl)

pub write_outside :
    (sizes bytes : List ℕ) (object offset byte : ℕ)
    → get_or sizes object 0 ≤ offset
    → cut sizes bytes ≡ set (cut sizes bytes) object (set (get_or (cut sizes bytes) object []) offset byte)
write_outside [] bytes object offset byte past = refl
write_outside (size ∷ sizes) bytes zero offset byte past =
    ap (λ piece. piece ∷ cut sizes (drop size bytes))
    (sym (set_past (take size bytes) offset byte (taken_short size offset bytes past)))
write_outside (size ∷ sizes) bytes (suc object) offset byte past =
    ap (λ others. take size bytes ∷ others) (write_outside sizes (drop size bytes) object offset byte past)

-- zeros are cut into zeros
pub cut_zeros : (sizes : List ℕ) → cut sizes (replicate (total sizes) 0) ≡ zeroed sizes
cut_zeros [] = refl
cut_zeros (size ∷ sizes) =
    let left : (size + total sizes) - size ≡ total sizes = omega arith in
    ap (λ piece. piece ∷ cut sizes (drop size (replicate (size + total sizes) 0)))
    (take-replicate size (size + total sizes) 0 (omega arith))
    ∙ ap (λ rest. replicate size 0 ∷ cut sizes rest)
    (drop-replicate size (size + total sizes) 0 ∙ ap (λ count. replicate count 0) left)
    ∙ ap (λ others. replicate size 0 ∷ others) (cut_zeros sizes)
