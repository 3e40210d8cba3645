-- Programs and their parts, in the terms of the meaning of programs.
use Rattle.std.specs.Prelude.{[], map}
use Rattle.typed_trees.specs.Views.{module_view}
use Rattle.layout.specs.Joined.{InProgram}
use Rattle.placing.specs.Views.{placement_view}
use Rattle.meaning.specs.Outcomes.{Program}
use Rattle.meaning.specs.Access.{Surroundings}
use Rattle.resolving.specs.declared.program.Program.{Program as CodeProgram}
use Rattle.resolving.specs.declared.publics.Found.{Found}
use Rattle.resolving.specs.declared.site.Site.{Site}

-- an object or a procedure of a program
abbrev pub found_view : Found → InProgram
found_view found = record { number_of_module = found.number_of_module; number = found.number }

-- a program at a placement; names and numbers mean the same with each script
abbrev pub program_view : CodeProgram → Program
program_view program = record {
  modules = map module_view program.modules.now;
  placement = placement_view program.placement.now;
  script = [];
}

-- the surroundings of a part of a program; names and numbers mean the same with each room
abbrev pub site_view : Site → Surroundings
site_view site = record {
  program = program_view site.program.now;
  number_of_module = site.number_of_module;
  room = 0;
}
