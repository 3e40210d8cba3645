-- What is added one after another.
use Rattle.command_line.proofs.Prelude.{◌≡◌, ◌<◌, ◌≤◌, ◌-◌, ◌∷◌, [], List, arith, drop, fold, get_or, length, refl, take, take-length}

-- a step over what is added next
pub fold_step : {A X : Type 0} (add : A → X → A) (before after : A) (d : X) (rest : List X) → 1 ≤ length rest
    → after ≡ add before (get_or rest 0 d)
    → fold add after (take (length rest - 1) (drop 1 rest)) ≡ fold add before rest
fold_step add before after d [] one is = absurd (omega arith)
fold_step add before after d (x ∷ more) one is =
    let count : length (x ∷ more) - 1 ≡ length more = omega arith in
    rw (is, count, take-length more) refl

-- where nothing is left, all was added
pub fold_end : {A X : Type 0} (add : A → X → A) (made : A) (rest : List X) → length rest < 1
    → made ≡ fold add made rest
fold_end add made [] none = refl
fold_end add made (x ∷ more) none = absurd (omega arith)
