-- Values that may be missing.
use Rattle.std.proofs.Common.{None, Option, Some, option_map, refl, sym, ℕ, ◌≡◌}
use Rattle.std.proofs.lemmas.Option.{none-some, same_Some}
use Rattle.std.specs.Option.{option_or}

pub option_map_some :
    {A B P : Type 0} (f : A → B) (o : Option A) (y : B) → option_map f o ≡ Some y
    → ((x : A) → o ≡ Some x → f x ≡ y → P) → P
option_map_some f None y h k = absurd (none-some y h)
option_map_some f (Some x) y h k = k x refl (same_Some (f x) y h)

-- where neither of two is given, each is missing
pub both_are_none : {A : Type 0} (first second : Option A) → option_or first second ≡ None
    → (first ≡ None) × (second ≡ None)
both_are_none None second none = (refl, none)
both_are_none (Some value) second none = absurd (none-some value (sym none))

pub none_before_map : {A B : Type 0} (f : A → B) (found : Option A) → option_map f found ≡ None → found ≡ None
none_before_map f None none = refl
none_before_map f (Some value) none = absurd (none-some (f value) (sym none))

pub or_none_same : (x : Option ℕ) → option_or x None ≡ x
or_none_same None = refl
or_none_same (Some value) = refl
