-- A built program as the laws of programs know it.
use Rattle.std.specs.Prelude.{ℕ, List}
use Rattle.meaning.specs.Outcomes.{Program}
use Rattle.sources.specs.Programs.{program_modules}
use Rattle.tool.specs.Construction.{Construction}

-- the program that was built, where it lies, with a script of its ports
abbrev pub program_of : Construction → (script : List (List ℕ)) → Program
program_of built script =
    record { modules = program_modules built.program; placement = built.placement; script = script }
