-- A name that is one already is the name that its characters are in a source.
use Rattle.objmod.proofs.Prelude.{◌≡◌, ℕ, true, cond, not, ◌&&◌, ◌==◌, nat_le, List, [], ◌∷◌, length, map, filter, refl, ap, ◌∙◌, arith, is_ascii_uppercase, to_ascii_uppercase, list_all, and_parts, common_steps, is_name, is_name_character, name_of}

-- a character of a name is no dollar sign, and its own capital
kept : (c : ℕ) → is_name_character c ≡ true → not (c == 36) ≡ true
kept c h = grind (arith, common_steps)

same : (c : ℕ) → is_name_character c ≡ true → to_ascii_uppercase c ≡ c
same c h = grind (arith, common_steps)

pub letter : (c : ℕ) → is_ascii_uppercase c ≡ true → is_name_character c ≡ true
letter c h = grind (arith, common_steps)

pub all_same : (text : List ℕ) → list_all is_name_character text ≡ true → name_of text ≡ text
all_same [] h = refl
all_same (c ∷ text) h =
    let parts = and_parts (is_name_character c) (list_all is_name_character text) h in
    ap (λ b. map to_ascii_uppercase (cond b (c ∷ filter (λ b. not (b == 36)) text)
    (filter (λ b. not (b == 36)) text)))
    (kept c parts.0)
    ∙ ap (λ first. first ∷ name_of text) (same c parts.0)
    ∙ ap (λ rest. c ∷ rest) (all_same text parts.1)

pub valid_name : (text : List ℕ) → is_name text ≡ true → name_of text ≡ text
valid_name [] h = refl
valid_name (first ∷ rest) h =
    let parts =
    and_parts (is_ascii_uppercase first && list_all is_name_character rest) (nat_le (length rest) 30) h in
    let front = and_parts (is_ascii_uppercase first) (list_all is_name_character rest) parts.0 in
    ap (λ b.
    map to_ascii_uppercase
    (cond b (first ∷ filter (λ b. not (b == 36)) rest) (filter (λ b. not (b == 36)) rest)))
    (kept first (letter first front.0))
    ∙ ap (λ c. c ∷ name_of rest) (same first (letter first front.0))
    ∙ ap (λ others. first ∷ others) (all_same rest front.1)

pub still_name : (text : List ℕ) → is_name text ≡ true → is_name (name_of text) ≡ true
still_name text h = ap is_name (valid_name text h) ∙ h
