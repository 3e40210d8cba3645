-- What a failure says.
use Rattle.std.specs.Prelude.{ℕ, List, Option, Some, Result, Ok, Err, codes}
use Rattle.failure.specs.declared.Failure.{Failure}
use Rattle.failure.specs.declared.Failure.TheVariants.{Fault, Memory}

-- where a call failed for another cause than memory, this holds of its fault
abbrev pub IfFault : {A F : Type 0} → Result A (Failure F) → (F → Type 0) → Type 0
IfFault (Ok value) P = Unit {0}
IfFault (Err (Fault fault)) P = P fault
IfFault (Err Memory) P = Unit {0}

-- the text that a failure writes, from that of its fault
abbrev pub output_of : {F : Type 0} → (F → Option (List ℕ)) → Failure F → Option (List ℕ)
output_of output (Fault fault) = output fault
output_of output Memory = Some (codes "out of memory")
