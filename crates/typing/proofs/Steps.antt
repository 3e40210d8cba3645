-- What holds of what checks give, step by step.
use Rattle.typing.proofs.Prelude.{Ok, Err, IfOk, Checked, ◌>>=◌}

-- one check, and then what is done with what it gives
pub then_checks :
    {A B : Type 0} (P : A → Type 0) (Q : B → Type 0) (given : Checked A) (next : A → Checked B)
    → IfOk given P → ((a : A) → P a → IfOk (next a) Q) → IfOk (given >>= next) Q
then_checks P Q (Ok a) next holds goes_on = goes_on a holds
then_checks P Q (Err fault) next holds goes_on = tt

-- the same, where it does not matter what the first check gives
pub then_any :
    {A B : Type 0} (Q : B → Type 0) (given : Checked A) (next : A → Checked B)
    → ((a : A) → IfOk (next a) Q) → IfOk (given >>= next) Q
then_any Q (Ok a) next goes_on = goes_on a
then_any Q (Err fault) next goes_on = tt
