-- The numbers of faults.
use Rattle.std.specs.Prelude.{ℕ, List, codes}
use Rattle.asm8080.specs.declared.fault.Fault.{Fault}
use Rattle.asm8080.specs.declared.fault.Fault.TheVariants.{UnboundLabel, TooLong}

-- the number of a fault
abbrev pub number_of : Fault → List ℕ
number_of UnboundLabel = codes "A1"
number_of TooLong = codes "A2"
