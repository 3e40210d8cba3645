-- A constant more changes no list.
use Rattle.typing.proofs.Prelude.{Constants, Home, InConstants, refl, with_constant, ℕ, ◌≡◌}

pub lists_kept : (home : Home) (number : ℕ) (constants : Constants)
    → (with_constant home number constants).lists ≡ constants.lists
lists_kept (InConstants values) number constants = refl
lists_kept home number constants = refl
