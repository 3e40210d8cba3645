-- Bytes that are written one after another, and contents that are.
use Rattle.interpreter.proofs.Prelude.{◌≡◌, ℕ, ◌+◌, ◌≤◌, List, [], ◌∷◌, ◌++◌, length, set, refl, ap, ◌∙◌, arith, set_past, Contents, written, with_contents, with_all}

-- past the end of memory nothing is written
pub written_past : (memory bytes : List ℕ) (address : ℕ) → length memory ≤ address
    → written memory address bytes ≡ memory
written_past memory [] address past = refl
written_past memory (byte ∷ others) address past =
    ap (λ one. written one (address + 1) others) (set_past memory address byte past)
    ∙ written_past memory others (address + 1) (omega arith)

pub written_after :
    (memory bytes others : List ℕ) (address after : ℕ)
    → after ≡ address + length bytes
    → written memory address (bytes ++ others) ≡ written (written memory address bytes) after others
written_after memory [] others address after is =
    ap (λ at. written memory at others) (let e : address ≡ after = omega arith in e)
written_after memory (byte ∷ bytes) others address after is =
    written_after (set memory address byte) bytes others (address + 1) after (omega arith)

pub all_after : (memory : List ℕ) (contents others : List Contents)
    → with_all memory (contents ++ others) ≡ with_all (with_all memory contents) others
all_after memory [] others = refl
all_after memory (first ∷ contents) others = all_after (with_contents memory first) contents others
