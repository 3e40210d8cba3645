-- Bytes that are written over a memory, one after another.
use Rattle.layout.proofs.Prelude.{◌≡◌, ◌≢◌, ℕ, zero, suc, ◌+◌, ◌-◌, ◌<◌, ◌≤◌, ◌⊎◌, inl, inr, Bool, true, false, List, [], ◌∷◌, ◌++◌, length, slice_set, slice_index, refl, sym, ap, ◌∙◌, subst, arith, All, fold, cases_lt, length-set, get_or-set_same, get_or-set_other, MEMORY_SIZE, byte_at, Contents, Covers, IsAmong, written}

-- no address is covered by two
abbrev pub AreApart : Contents → Contents → Type 0
AreApart one other = (address : ℕ) → Covers one address → Covers other address → ⊥

abbrev pub EachApart : List Contents → Type 0
EachApart [] = Unit {0}
EachApart (first ∷ others) = All (AreApart first) others × EachApart others

abbrev pub all_written : (memory : List ℕ) → List Contents → List ℕ
all_written memory contents =
    fold (λ (so_far : List ℕ) (each : Contents). written so_far each.0 each.1) memory contents

pub written_size : (memory : List ℕ) (start : ℕ) (bytes : List ℕ)
    → length (written memory start bytes) ≡ length memory
written_size memory start [] = refl
written_size memory start (byte ∷ others) =
    written_size (slice_set memory start byte) (start + 1) others ∙ length-set memory start byte

-- a byte before or after what is written
pub written_elsewhere :
    (memory : List ℕ) (start : ℕ) (bytes : List ℕ) (address : ℕ)
    → (Covers (start, bytes) address → ⊥)
    → byte_at (written memory start bytes) address ≡ byte_at memory address
written_elsewhere memory start [] address outside = refl
written_elsewhere memory start (byte ∷ others) address outside =
    written_elsewhere (slice_set memory start byte) (start + 1) others address
    (λ inside. outside (omega (arith, inside.0), omega (arith, inside.1)))
    ∙ get_or-set_other memory start address byte 0
    (λ same. outside (omega (arith, same), omega (arith, same)))

-- a byte that is written
pub written_here :
    (memory : List ℕ) (start : ℕ) (bytes : List ℕ) (index : ℕ)
    → start + length bytes ≤ length memory
    → index < length bytes
    → byte_at (written memory start bytes) (start + index) ≡ slice_index bytes index
written_here memory start [] index fits within = absurd (omega (arith, within))
written_here memory start (byte ∷ others) zero fits within =
    ap (byte_at (written (slice_set memory start byte) (start + 1) others)) (omega arith)
    ∙ written_elsewhere (slice_set memory start byte) (start + 1) others start
    (λ inside. omega (arith, inside.0))
    ∙ get_or-set_same memory start byte 0 (omega (arith, fits))
written_here memory start (byte ∷ others) (suc index) fits within =
    ap (byte_at (written (slice_set memory start byte) (start + 1) others)) (omega arith)
    ∙ written_here (slice_set memory start byte) (start + 1) others index
    (rw (length-set memory start byte) (omega (arith, fits))) (omega (arith, within))

pub all_size : (memory : List ℕ) (contents : List Contents)
    → length (all_written memory contents) ≡ length memory
all_size memory [] = refl
all_size memory (first ∷ others) =
    all_size (written memory first.0 first.1) others ∙ written_size memory first.0 first.1

-- a byte that nothing covers
pub all_elsewhere :
    (memory : List ℕ) (contents : List Contents) (address : ℕ)
    → All (λ (each : Contents). Covers each address → ⊥) contents
    → byte_at (all_written memory contents) address ≡ byte_at memory address
all_elsewhere memory [] address none = refl
all_elsewhere memory (first ∷ others) address none =
    all_elsewhere (written memory first.0 first.1) others address
    (λ k d within. none (suc k) d (omega (arith, within)))
    ∙ written_elsewhere memory first.0 first.1 address (none 0 first (omega arith))

-- a byte that one of them covers
pub all_here :
    (memory : List ℕ) (contents : List Contents) (wanted : Contents) (index : ℕ)
    → EachApart contents
    → wanted.0 + length wanted.1 ≤ length memory
    → IsAmong wanted contents
    → index < length wanted.1
    → byte_at (all_written memory contents) (wanted.0 + index) ≡ slice_index wanted.1 index
all_here memory [] wanted index apart fits among within = absurd among
all_here memory (first ∷ others) wanted index apart fits (inl same) within =
    all_elsewhere (written memory first.0 first.1) others (wanted.0 + index)
    (λ k d inside covers. apart.0 k d inside (wanted.0 + index)
    (subst (λ (each : Contents). Covers each (wanted.0 + index)) same (omega arith, omega (arith, within)))
    covers)
    ∙ subst (λ (each : Contents). byte_at (written memory each.0 each.1) (wanted.0 + index)
    ≡ slice_index wanted.1 index)
    same (written_here memory wanted.0 wanted.1 index fits within)
all_here memory (first ∷ others) wanted index apart fits (inr further) within =
    all_here (written memory first.0 first.1) others wanted index apart.1
    (rw (written_size memory first.0 first.1) fits) further within
