-- How a fault of a source is reported.
use Rattle.std.specs.Prelude.{ℕ, List, Option, None, Some, codes}
use Rattle.trees.specs.declared.identifier.Place.{Place}
use Rattle.words.specs.Fault as of_words
use Rattle.literally.specs.Fault as of_expansion
use Rattle.syntax.specs.Faults as of_syntax
use Rattle.typing.specs.Faults as of_typing
use Rattle.sources.specs.declared.read.ReadFault.{ReadFault}
use Rattle.sources.specs.declared.read.ReadFault.TheVariants.{TooLong, Words, Expansion, Syntax, Typing, Storage}

-- its number
abbrev pub number_of : ReadFault → List ℕ
number_of TooLong = codes "U2"
number_of (Words fault) = of_words.number_of fault
number_of (Expansion fault) = of_expansion.number_of fault
number_of (Syntax fault) = of_syntax.number_of fault
number_of (Typing fault) = of_typing.number_of fault.cause
number_of (Storage fault) = codes "C18"

-- its line, or 0 if the whole source is refused, or its segments
abbrev pub line_of : ReadFault → ℕ
line_of TooLong = 0
line_of (Words fault) = of_words.line_of fault
line_of (Expansion fault) = of_expansion.line_of fault
line_of (Syntax fault) = of_syntax.line_of fault
line_of (Typing fault) = fault.place.line
line_of (Storage fault) = 0

-- the place of the word at fault, or None if the whole source is refused, or its segments
abbrev pub place_of : ReadFault → Option Place
place_of TooLong = None
place_of (Words fault) = Some (record { start = of_words.start_of fault; line = of_words.line_of fault })
place_of (Expansion fault) = Some (record { start = of_expansion.start_of fault; line = of_expansion.line_of fault })
place_of (Syntax fault) = Some (of_syntax.place_of fault)
place_of (Typing fault) = Some fault.place
place_of (Storage fault) = None
