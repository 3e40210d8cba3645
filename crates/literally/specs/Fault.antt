-- How a fault of a list of words is reported.
use Rattle.std.specs.Prelude.{ℕ, List, codes}
use Rattle.words.specs.Fault as text_fault
use Rattle.literally.specs.declared.fault.Fault.{Fault}
use Rattle.literally.specs.declared.fault.Fault.TheVariants.{Text, Depth, Count, Quote, Again}

-- its number
abbrev pub number_of : Fault → List ℕ
number_of (Text fault) = text_fault.number_of fault
number_of (Depth start line) = codes "C5"
number_of (Count start line) = codes "C5"
number_of (Quote start line) = codes "C6"
number_of (Again start line) = codes "C6"

-- the place of the first byte of the word at which it is found
abbrev pub start_of : Fault → ℕ
start_of (Text fault) = text_fault.start_of fault
start_of (Depth start line) = start
start_of (Count start line) = start
start_of (Quote start line) = start
start_of (Again start line) = start

-- its line
abbrev pub line_of : Fault → ℕ
line_of (Text fault) = text_fault.line_of fault
line_of (Depth start line) = line
line_of (Count start line) = line
line_of (Quote start line) = line
line_of (Again start line) = line
