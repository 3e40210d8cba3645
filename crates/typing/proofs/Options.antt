-- Values that may be missing.
use Rattle.typing.proofs.Prelude.{None, Option, ScalarType, Some, is_none, option_or, refl, true, ℕ, ◌≡◌}

pub nothing_more : (found : Option ScalarType) → found ≡ option_or found None
nothing_more None = refl
nothing_more (Some scalar) = refl

pub equals_none : (dimension : Option ℕ) → is_none dimension ≡ true → dimension ≡ None
equals_none None is = refl
equals_none (Some count) is = absurd cc
