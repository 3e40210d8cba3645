-- How a fault of a program is reported.
use Rattle.std.specs.Prelude.{ℕ, List, Option, None, Some}
use Rattle.join.specs.Views as of_joining
use Rattle.join.specs.declared.fault.Fault as join_fault
use Rattle.join.specs.declared.fault.Fault.TheVariants as join_faults
use Rattle.placing.specs.Views as of_placement
use Rattle.placing.specs.declared.fault.Fault as placing_fault
use Rattle.placing.specs.declared.fault.Fault.TheVariants as placing_faults
use Rattle.sources.specs.declared.fault.ProgramFault.{ProgramFault}
use Rattle.sources.specs.declared.fault.ProgramFault.TheVariants.{Join, Placement}

-- its number
abbrev pub number_of : ProgramFault → List ℕ
number_of (Join fault) = of_joining.number_of fault
number_of (Placement fault) = of_placement.number_of fault

-- the name in a fault of joining
abbrev pub name_of_joining : join_fault.Fault → Option (List ℕ)
name_of_joining (join_faults.NoPublic name) = Some name
name_of_joining (join_faults.PublicTwice name) = Some name
name_of_joining (join_faults.DeclarationsDiffer name) = Some name
name_of_joining join_faults.NotOneMain = None

-- and in a fault of placing
abbrev pub name_of_placing : placing_fault.Fault → Option (List ℕ)
name_of_placing (placing_faults.ObjectMisplaced name) = Some name
name_of_placing fault = None

-- the name in a fault of a program
abbrev pub name_of : ProgramFault → Option (List ℕ)
name_of (Join fault) = name_of_joining fault
name_of (Placement fault) = name_of_placing fault
