-- How a fault of a text is reported.
use Rattle.std.specs.Prelude.{ℕ, List, codes}
use Rattle.words.specs.declared.fault.Fault.{Fault}
use Rattle.words.specs.declared.fault.Fault.TheVariants.{Character, Unclosed, Number, Name}

-- its number
abbrev pub number_of : Fault → List ℕ
number_of (Character start line) = codes "C1"
number_of (Unclosed start line) = codes "C2"
number_of (Number start line) = codes "C3"
number_of (Name start line) = codes "C4"

-- the place of the first byte of the word or comment at fault
abbrev pub start_of : Fault → ℕ
start_of (Character start line) = start
start_of (Unclosed start line) = start
start_of (Number start line) = start
start_of (Name start line) = start

-- its line
abbrev pub line_of : Fault → ℕ
line_of (Character start line) = line
line_of (Unclosed start line) = line
line_of (Number start line) = line
line_of (Name start line) = line
