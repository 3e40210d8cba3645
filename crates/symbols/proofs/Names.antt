-- Names that are made character by character.
use Rattle.symbols.proofs.Prelude.{◌≡◌, ℕ, suc, ◌+◌, ◌-◌, ◌<◌, ◌≤◌, false, true, List, [], ◌∷◌, ◌++◌, length, take, set, replicate, IsTrue, refl, sym, ◌∙◌, ap, arith, append_assoc, length-append, common_steps, take_at, list_all-append, set-append_seam, list_all, is_name, is_name_character}

-- more than 31 characters are no name
pub long-is-no-name : (taken rest : List ℕ) (c : ℕ)
    → length taken ≡ 31
    → IsTrue (is_name (taken ++ c ∷ rest))
    → ⊥
long-is-no-name [] rest c l h = omega (arith, l)
long-is-no-name (x ∷ taken) rest c l h = grind (arith, common_steps, length-append taken (c ∷ rest))

-- a name has only letters and digits
pub other-character-is-no-name : (taken rest : List ℕ) (c : ℕ)
    → is_name_character c ≡ false
    → IsTrue (is_name (taken ++ c ∷ rest))
    → ⊥
other-character-is-no-name [] rest c l h = grind (arith, common_steps)
other-character-is-no-name (x ∷ taken) rest c l h =
    grind (arith, common_steps, list_all-append is_name_character taken (c ∷ rest))

-- one more character, where zeros stand
set-zeros : (taken : List ℕ) (count more c : ℕ)
    → length taken ≡ count
    → 31 - count ≡ suc more
    → set (taken ++ replicate (31 - count) 0) count c ≡ (taken ++ c ∷ []) ++ replicate more 0
set-zeros taken count more c l e = rw (e, ← l, append_assoc) (set-append_seam taken 0 (replicate more 0) c)

-- the first `count` bytes are characters of a name, and the others are 0
pub record IsFilled (bytes : List ℕ) (count : ℕ) : Type 0 where
  pub counted : length (take count bytes) ≡ count
  pub bounded : count ≤ 31
  pub rest_is_zero : bytes ≡ take count bytes ++ replicate (31 - count) 0
  pub valid : list_all is_name_character (take count bytes) ≡ true

-- the bytes once one more is set
set-filled : (bytes : List ℕ) (count c : ℕ)
    → IsFilled bytes count
    → count < 31
    → set bytes count c ≡ (take count bytes ++ c ∷ []) ++ replicate (31 - (count + 1)) 0
set-filled bytes count c f b =
    ap (λ list. set list count c) f.rest_is_zero ∙ set-zeros (take count bytes) count (31 - (count + 1)) c
    f.counted (omega arith)

pub take-set-filled : (bytes : List ℕ) (count c : ℕ)
    → IsFilled bytes count
    → count < 31
    → take (count + 1) (set bytes count c) ≡ take count bytes ++ c ∷ []
take-set-filled bytes count c f b =
    ap (take (count + 1)) (set-filled bytes count c f b)
    ∙ take_at (take count bytes ++ c ∷ []) (replicate (31 - (count + 1)) 0) (count + 1)
    (omega (arith, f.counted, length-append (take count bytes) (c ∷ [])))

pub IsFilled-push : (bytes : List ℕ) (count c : ℕ)
    → IsFilled bytes count
    → count < 31
    → is_name_character c ≡ true
    → IsFilled (set bytes count c) (count + 1)
IsFilled-push bytes count c f b h =
    let taken = take-set-filled bytes count c f b in
    record {
      counted = rw taken (omega (arith, f.counted, length-append (take count bytes) (c ∷ [])));
      bounded = omega arith;
      rest_is_zero =
          set-filled bytes count c f b ∙ ap (λ list. list ++ replicate (31 - (count + 1)) 0) (sym taken);
      valid = rw (taken, list_all-append, f.valid) (rw h refl);
    }
