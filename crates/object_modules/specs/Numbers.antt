-- The numbers of faults.
use Rattle.std.specs.Prelude.{ℕ, List, codes}
use Rattle.object_modules.specs.declared.fault.Fault.{Fault}
use Rattle.object_modules.specs.declared.fault.Fault.TheVariants.{Truncated, WrongSum, WrongLength, UnknownType, OutOfOrder, WrongBody, ContentMisplaced, FixMisplaced, WrongAlignment}

-- the number of a fault
abbrev pub number_of : Fault → List ℕ
number_of Truncated = codes "O1"
number_of WrongSum = codes "O2"
number_of WrongLength = codes "O3"
number_of UnknownType = codes "O4"
number_of OutOfOrder = codes "O5"
number_of WrongBody = codes "O6"
number_of ContentMisplaced = codes "O7"
number_of FixMisplaced = codes "O8"
number_of WrongAlignment = codes "O9"
