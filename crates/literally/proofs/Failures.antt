-- What holds of the fault of a failed call, whatever it would have answered.
use Rattle.literally.proofs.Prelude.{◌≡◌, Err, subst, sym}
use Rattle.failure.specs.{Failure.{IfFault}, declared.Failure.{Failure, TheVariants.{Fault, Memory}}}

abbrev pub Holds : {F : Type 0} → (F → Type 0) → Failure F → Type 0
Holds {F} P failure = IfFault {A = Unit {0}} {F = F} (Err failure) P

-- where the failure is known to be a fault
pub of_fault : {F : Type 0} (P : F → Type 0) (failure : Failure F) (fault : F)
    → failure ≡ Fault fault
    → Holds P failure
    → P fault
of_fault P failure fault is holds = subst (Holds P) is holds

pub if_fault : {F : Type 0} (P : F → Type 0) (failure : Failure F) (fault : F)
    → failure ≡ Fault fault
    → P fault
    → Holds P failure
if_fault P failure fault is holds = subst (Holds P) (sym is) holds

-- a failure that is passed on
pub passed_on : {F : Type 0} (P Q : F → Type 0) (failure : Failure F)
    → ((fault : F) → P fault → Q fault)
    → Holds P failure
    → Holds Q failure
passed_on P Q (Fault fault) each holds = each fault holds
passed_on P Q Memory each holds = tt
