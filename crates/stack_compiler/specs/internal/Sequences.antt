-- The procedures of a module and the modules of a program, from a number on.
use Rattle.std.specs.Prelude.{ℕ, ◌+◌, List, [], ◌∷◌, ◌++◌}
use Rattle.typed_trees.specs.TypedTrees.{TypedProcedure, TypedModule}
use Rattle.layout.specs.Placement.{Placement}
use Rattle.stack_code.specs.declared.instruction.Instruction.{Instruction}
use Rattle.stack_code.specs.internal.Code.{Site, procedure_code, site_of}

abbrev pub procedures_code_from : Site → (number : ℕ) → List TypedProcedure → List Instruction
procedures_code_from site number [] = []
procedures_code_from site number (procedure ∷ others) =
    procedure_code site (number, procedure) ++ procedures_code_from site (number + 1) others

abbrev pub modules_code_from :
    List TypedModule → Placement → (number_of_module : ℕ) → List TypedModule → List Instruction
modules_code_from modules placement number_of_module [] = []
modules_code_from modules placement number_of_module (typed ∷ others) =
    procedures_code_from (site_of modules placement number_of_module) 0 typed.procedures
    ++ modules_code_from modules placement (number_of_module + 1) others
