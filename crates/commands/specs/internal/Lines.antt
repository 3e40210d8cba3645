-- The lines of the modules of a program.
use Rattle.std.specs.Prelude.{◌<◌, length}
use Rattle.join.specs.Views.{modules_of}
use Rattle.join.specs.declared.joined.Joined.{Joined}
use Rattle.listings.specs.declared.origins.SourceLine.{SourceLine}

-- a line is one of a module of a program
abbrev pub IsLineOf : Joined → SourceLine → Type 0
IsLineOf program line = line.«module» < length (modules_of program)
