-- Faults: their numbers, their places and their lines.
use Rattle.std.specs.Prelude.{ℕ, List, codes}
use Rattle.trees.specs.declared.identifier.Place.{Place}
use Rattle.names.specs.declared.fault.Fault.{Fault}
use Rattle.names.specs.declared.fault.Fault.TheVariants.{Unknown, DeclaredTwice}

-- the number of a fault
abbrev pub number_of : Fault → List ℕ
number_of (Unknown place) = codes "C11"
number_of (DeclaredTwice place) = codes "C12"

-- the place of a fault
abbrev pub place_of : Fault → Place
place_of (Unknown place) = place
place_of (DeclaredTwice place) = place

-- the line of a fault
abbrev pub line_of : Fault → ℕ
line_of fault = (place_of fault).line
