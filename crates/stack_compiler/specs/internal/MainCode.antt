-- The code of a program without its tables.
use Rattle.std.specs.Prelude.{◌≡◌, List}
use Rattle.typed_trees.specs.TypedTrees.{TypedModule}
use Rattle.layout.specs.Placement.{Placement}
use Rattle.meaning.specs.Run.{number_of_main}
use Rattle.stack_code.specs.declared.instruction.Instruction.{Instruction}
use Rattle.stack_code.specs.internal.Code.{program_code}
use Rattle.stack_compiler.specs.internal.Compiled.{IsMainOf}

-- the code of modules at a placement
abbrev pub IsCodeOf : List TypedModule → Placement → List Instruction → Type 0
IsCodeOf modules placement code =
    (main : TypedModule) → IsMainOf modules main
    → code ≡ program_code modules placement (number_of_main modules) main
