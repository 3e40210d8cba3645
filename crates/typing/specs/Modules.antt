-- The blocks of a module, where its typing begins, and the module that is typed at its end.
use Rattle.std.specs.Prelude.{ℕ, false, true, List, [], None}
use Rattle.names.specs.Environment.{at_the_start, into_block, out_of_block}
use Rattle.typed_trees.specs.declared.parts.Visibility.TheVariants.{Private}
use Rattle.typed_trees.specs.TypedTrees.{TypedList, TypedProcedure, TypedModule}
use Rattle.typing.specs.Blocks.{TheModule, Block, Progress}
use Rattle.typing.specs.Statements.{with_here}

-- into a simple DO of a block's owner, and out of it
abbrev pub inner_block : Block → Block
inner_block block = record block { is_own = false }

abbrev pub entered : Progress → Progress
entered progress = with_here (into_block progress.known.here) progress

abbrev pub left : Progress → Progress
left progress = with_here (out_of_block progress.known.here) progress

-- the block of the module
abbrev pub module_block : Block
module_block = record { owner = TheModule; is_own = true }

-- where a module begins
abbrev pub at_the_beginning : Progress
at_the_beginning = record {
  known = record { here = at_the_start; objects = []; procedures = [] };
  constants = record { lists = []; items = [] };
  globals = [];
  frame = 0;
}

-- the statements at the outer level, as a procedure
abbrev pub main_procedure : List ℕ → TypedList → TypedProcedure
main_procedure name body = record {
  name = name;
  visibility = Private;
  result = None;
  is_reentrant = false;
  parameter_types = [];
  parameters = [];
  frame_bytes = 0;
  body = body;
}

-- the module that is typed at its end
abbrev pub module_with : List ℕ → TypedList → Progress → TypedModule
module_with name body progress = record {
  name = name;
  objects = progress.known.objects;
  procedures = progress.known.procedures;
  constants = progress.constants;
  globals = progress.globals;
  main = main_procedure name body;
}
