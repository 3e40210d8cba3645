-- Code that is finished, and the reasons for which it cannot be.
use Rattle.steps8080.proofs.Prelude.{◌≡◌, Bool, List, Result, Err, Ok, subst, Fault, IsAssembly, IsFinished, Written}
use Rattle.asm8080.specs.Assembled.{Assembled}
use Rattle.failure.specs.{declared.Failure.{Failure}, Failure.{IfFault}}
use Rattle.failure.specs.declared.Failure.TheVariants as failures
use Rattle.steps8080.specs.internal.Writer.{Finishes}
use Rattle.steps8080.specs.internal.Labels.{AreKept}
use Rattle.steps8080.proofs.Labels.{all_known}

-- code that is finished, with its labels
pub finished : (inside written : Written) (flags : List Bool) (bytes : Assembled)
    → inside ≡ written
    → AreKept inside.labels flags inside.code
    → IsAssembly inside.code
    → IsFinished inside.code (Ok bytes)
    → Finishes written bytes inside.labels
finished inside written flags bytes same kept is done =
    subst (λ (to : Written). Finishes to bytes inside.labels) same (record {
      assembles = done.2;
      is_assembly = is;
      known = all_known inside.labels inside.code kept.of_code;
    })

-- a fault of code is a fault of the items that were written
pub refused_for :
    (inside written : Written) (A : Type 0) (result : Result A (Failure Fault)) (fault : Fault)
    → inside ≡ written
    → result ≡ Err (failures.Fault fault)
    → IfFault result (λ (found : Fault). IsFinished inside.code (Err found))
    → IsFinished written.code (Err fault)
refused_for inside written A result fault same is given =
    subst (λ (to : Written). IsFinished to.code (Err fault)) same
    (subst (λ (to : Result A (Failure Fault)). IfFault to
    (λ (found : Fault). IsFinished inside.code (Err found))) is
    given)
