-- What holds of every typing holds of what the checker gives.
use Rattle.typing.proofs.Prelude.{◌≡◌, Result, Ok, Err, IfOk, Failure, Fault, Checked, Answers}

pub where_typed : {X Y : Type 0} (view : X → Y) (result : Result X (Failure Fault))
    (checked : Checked Y) (P : Y → Type 0)
    → Answers view result checked → ((found : Y) → checked ≡ Ok found → P found)
    → IfOk result (λ made. P (view made))
where_typed view (Ok made) checked P is law = law (view made) is
where_typed view (Err failure) checked P is law = tt
