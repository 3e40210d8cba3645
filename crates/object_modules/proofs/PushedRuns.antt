-- A run pushed after others joins the last of them at most.
use Rattle.object_modules.proofs.Prelude.{◌≡◌, List, [], ◌∷◌, ◌++◌, refl, ap, Run}
use Rattle.object_modules.specs.Runs.{with_run}

pub with_run_last :
    {A : Type 0} (first : List (Run A)) (last run : Run A)
    → with_run (first ++ last ∷ []) run ≡ first ++ with_run (last ∷ []) run
with_run_last [] last run = refl
with_run_last (one ∷ []) last run = refl
with_run_last (one ∷ two ∷ others) last run = ap (λ r. one ∷ r) (with_run_last (two ∷ others) last run)
