-- What fails first, fails as a whole.
use Rattle.syntax.proofs.Prelude.{◌≡◌, ◌≢◌, List, [], ◌∷◌, Option, Some, None, Result, Ok, Err, refl, ap, Symbol, IfOk, Failure, Fault, FailsBy, Gives, OrMemory, at_the_end, Cause, Reading, Unexpected, ◌>>=◌}

pub fails_bind : {A B : Type 0} (cause : Option Cause) (read : Result A Cause) (next : A → Result B Cause)
    → FailsBy cause read
    → FailsBy cause (read >>= next)
fails_bind None read next fails = tt
fails_bind (Some cause) read next fails = ap (λ r. r >>= next) fails

-- what is made of what was read is what is read, unless memory ran out
pub gives_made : {X Y E : Type 0} (view : X → Y) (made : Result X E) (result : Result X (Failure Fault))
    (rest : List Symbol) (y : Y) (read : Reading Y)
    → OrMemory made result
    → IfOk made (λ x. view x ≡ y)
    → read ≡ Ok (y, rest)
    → Gives view result rest read
gives_made view (Ok x) result rest y read is same found = rw is (rw same found)
gives_made view (Err error) result rest y read is same found = rw is tt
