-- The names of the modules whose lines are told, and these lines.
use Rattle.std.specs.Prelude.{ℕ, List}
use Rattle.listings.specs.declared.origins.SourceLine.{SourceLine}
use Rattle.commands.specs.Standing.{module_names, no_names}
use Rattle.commands.specs.declared.places.Places.{Places}
use Rattle.commands.specs.declared.places.Places.TheVariants.{Addresses, Lines}
use Rattle.commands.specs.internal.Lines.{IsLineOf}

-- none, where addresses are told
abbrev pub names_in : Places → List (List ℕ)
names_in Addresses = no_names
names_in (Lines known) = module_names known.program.now

-- a line is one of these modules
abbrev pub IsLineIn : Places → SourceLine → Type 0
IsLineIn Addresses line = ⊥
IsLineIn (Lines known) line = IsLineOf known.program.now line
