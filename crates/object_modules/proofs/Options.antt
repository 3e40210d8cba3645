-- Values that may be missing.
use Rattle.object_modules.proofs.Prelude.{Bool, None, Option, cond, false, refl, true, ◌≡◌}

pub none_either_way : {A : Type 0} (b : Bool) → ◌≡◌ {A = Option A} (cond b None None) None
none_either_way true = refl
none_either_way false = refl
