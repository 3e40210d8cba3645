-- The numbers of faults.
use Rattle.std.specs.Prelude.{ℕ, List, codes}
use Rattle.hex80.specs.declared.fault.Fault.{Fault}
use Rattle.hex80.specs.declared.fault.Fault.TheVariants.{BadLine, WrongSum, NoEnd, Overlap}

-- the number of a fault
abbrev pub number_of : Fault → List ℕ
number_of BadLine = codes "H1"
number_of WrongSum = codes "H2"
number_of NoEnd = codes "H3"
number_of Overlap = codes "H4"
