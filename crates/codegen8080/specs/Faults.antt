-- The numbers of the faults of code generation.
use Rattle.std.specs.Prelude.{ℕ, List, codes}
use Rattle.codegen8080.specs.declared.fault.Fault.{Fault}
use Rattle.codegen8080.specs.declared.fault.Fault.TheVariants.{TooLong}

-- the number of a fault
abbrev pub number_of : Fault → List ℕ
number_of TooLong = codes "G1"
