-- The call graph of a program, whose bodies are numbered: 0 is that of the main module, and those of the
-- procedures follow, module by module, in the order of their texts.
use Rattle.std.specs.Prelude.{ℕ, ◌+◌, List, [], ◌∷◌, ◌++◌, find, filter_map, length, map, option_map, slice_get, slice_index, Option}
use Rattle.std.specs.Option.{option_and_then, option_map_or}
use Rattle.typed_trees.specs.Charge.{charge_of}
use Rattle.typed_trees.specs.TypedTrees.{TypedProcedure, TypedModule}
use Rattle.layout.specs.Joined.{InProgram, is_main, procedure_meant}
use Rattle.meaning.specs.Run.{number_of_main}
use Rattle.call_graphs.specs.Chains.{Body}
use Rattle.stack_need.specs.Calls.{calls_in_list}

-- the number of the first body of each module, from the next one on
abbrev pub first_numbers : (next : ℕ) → List TypedModule → List ℕ
first_numbers next [] = []
first_numbers next (typed ∷ others) = next ∷ first_numbers (next + length typed.procedures) others

-- the number of a procedure's body
abbrev pub number_of_body : List TypedModule → InProgram → ℕ
number_of_body modules at = slice_index (first_numbers 1 modules) at.number_of_module + at.number

-- the procedure that a call in a module stands for
abbrev pub procedure_called : List TypedModule → (number_of_module procedure : ℕ) → Option InProgram
procedure_called modules number_of_module procedure =
    option_and_then
    (λ (typed : TypedModule).
    option_and_then
    (λ (found : TypedProcedure).
    procedure_meant modules (record { number_of_module = number_of_module; number = procedure }) found found.visibility)
    (slice_get typed.procedures procedure))
    (slice_get modules number_of_module)

-- the body of a procedure, or of the main module, that stands in a module
abbrev pub body_of : List TypedModule → (number_of_module : ℕ) → TypedProcedure → Body
body_of modules number_of_module procedure = record {
  charge = charge_of procedure;
  callees =
      filter_map
      (λ called. option_map (number_of_body modules) (procedure_called modules number_of_module called))
      (calls_in_list procedure.body);
}

-- the bodies of the procedures of modules from a number on
abbrev pub bodies_from : List TypedModule → (number_of_module : ℕ) → List TypedModule → List Body
bodies_from modules number_of_module [] = []
bodies_from modules number_of_module (typed ∷ others) =
    map (body_of modules number_of_module) typed.procedures ++ bodies_from modules (number_of_module + 1) others

-- the body of the main module
abbrev pub main_body : List TypedModule → Body
main_body modules =
    option_map_or (λ (typed : TypedModule). body_of modules (number_of_main modules) typed.main)
    (find is_main modules) (record { charge = 0; callees = [] })

unfoldable pub call_graph : List TypedModule → List Body
call_graph modules = main_body modules ∷ bodies_from modules 0 modules
