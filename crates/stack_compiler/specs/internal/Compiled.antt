-- Programs compiled to stack code.
use Rattle.std.specs.Prelude.{◌≡◌, List, Some, slice_get}
use Rattle.typed_trees.specs.TypedTrees.{TypedModule}
use Rattle.layout.specs.Placement.{Placement}
use Rattle.meaning.specs.Run.{number_of_main}
use Rattle.stack_code.specs.declared.program.StackProgram.{StackProgram}
use Rattle.stack_code.specs.internal.Program.{IsProgramAt}

-- the main module, or the first one if no module has statements at its outer level
abbrev pub IsMainOf : List TypedModule → TypedModule → Type 0
IsMainOf modules main = slice_get modules (number_of_main modules) ≡ Some main

-- the code of modules at a placement, with their tables; nothing is said if there are no modules
abbrev pub IsCompiled : List TypedModule → Placement → StackProgram → Type 0
IsCompiled modules placement program =
    (main : TypedModule) → IsMainOf modules main
    → IsProgramAt modules placement (number_of_main modules) main program
