-- The numbers of faults.
use Rattle.std.specs.Prelude.{ℕ, List, codes}
use Rattle.object_modules.specs.Numbers.{number_of}
use Rattle.objmod.specs.declared.reading.ReadFault.{ReadFault}
use Rattle.objmod.specs.declared.reading.ReadFault.TheVariants.{Read, Object}

abbrev pub read_fault_number : ReadFault → List ℕ
read_fault_number Read = codes "U3"
read_fault_number (Object fault) = number_of fault
