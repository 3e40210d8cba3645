-- A function of the checker returned the result of the definitions, unless memory ran out.
use Rattle.std.specs.Prelude.{◌≡◌, Option, None, Some, Result, Ok, Err}
use Rattle.failure.specs.declared.Failure.{Failure}
use Rattle.failure.specs.declared.Failure.TheVariants as failures
use Rattle.names.specs.declared.fault.Fault.{Fault as NameFault}
use Rattle.names.specs.internal.Faults.{place_of}
use Rattle.typing.specs.declared.fault.Cause.TheVariants.{DeclaredTwice}
use Rattle.typing.specs.declared.fault.Fault.{Fault}
use Rattle.typing.specs.internal.Checks.{Checked, ◌>>=◌}

-- the fault that a failure gives; out of memory gives none
abbrev pub fault_in : Failure Fault → Option Fault
fault_in (failures.Fault fault) = Some fault
fault_in failures.Memory = None

-- a fault is the fault of a failed check; without one nothing is said
abbrev pub FailsBy : {Y : Type 0} → Option Fault → Checked Y → Type 0
FailsBy None checked = Unit {0}
FailsBy (Some fault) checked = checked ≡ Err fault

-- a returned value is the result of a check
abbrev pub Answers : {X Y : Type 0} → (X → Y) → Result X (Failure Fault) → Checked Y → Type 0
Answers view (Ok x) checked = checked ≡ Ok (view x)
Answers view (Err failure) checked = FailsBy (fault_in failure) checked

-- a returned value, with the state after it, is the result of a check
abbrev pub Gives :
    {X Y S : Type 0} → (X → Y) → Result X (Failure Fault) → (after : S) → Checked (Y × S) → Type 0
Gives view (Ok x) after checked = checked ≡ Ok (view x, after)
Gives view (Err failure) after checked = FailsBy (fault_in failure) checked

-- the same for a result that is only the state after it
abbrev pub Leaves : {X S : Type 0} → Result X (Failure Fault) → (after : S) → Checked S → Type 0
Leaves (Ok x) after checked = checked ≡ Ok after
Leaves (Err failure) after checked = FailsBy (fault_in failure) checked

-- a result of the scopes, as one of the checker
abbrev pub as_fault : {A : Type 0} → Result A (Failure NameFault) → Result A (Failure Fault)
as_fault (Ok done) = Ok done
as_fault (Err failures.Memory) = Err failures.Memory
as_fault (Err (failures.Fault fault)) =
    Err (failures.Fault (record { cause = DeclaredTwice; place = place_of fault }))

-- the result of a check, with another part in front of it
abbrev pub in_front : {Q : Type 0} → (Q → Q) → Checked Q → Checked Q
in_front front given = given >>= (λ rest. Ok (front rest))
