-- Texts that are added to other lines.
use Rattle.std.specs.Prelude.{◌≡◌, ℕ, List, ◌++◌}

-- a text with this property was added
pub record Adds (P : (text : List ℕ) → Type 0) (old new : List ℕ) : Type 0 where
  pub text : List ℕ
  pub holds : P text
  pub added : new ≡ old ++ text

-- A text was added that makes a text of what is left a text of all.
pub record IsBegun {A : Type 0} (IsText : A → (text : List ℕ) → Type 0) (all left : A)
    (old now : List ℕ) : Type 0 where
  pub text : List ℕ
  pub added : now ≡ old ++ text
  pub with_rest : (more : List ℕ) → IsText left more → IsText all (text ++ more)
