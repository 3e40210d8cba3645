-- The numbers of faults.
use Rattle.std.specs.Prelude.{ℕ, List, codes}
use Rattle.omf80.specs.declared.fault.Fault.{Fault}
use Rattle.omf80.specs.declared.fault.Fault.TheVariants.{Truncated, WrongSum, WrongLength, UnknownType}

-- the number of a fault
abbrev pub number_of : Fault → List ℕ
number_of Truncated = codes "O1"
number_of WrongSum = codes "O2"
number_of WrongLength = codes "O3"
number_of UnknownType = codes "O4"
