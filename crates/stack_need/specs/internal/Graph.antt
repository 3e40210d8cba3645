-- The call graph as the code makes it.
use Rattle.std.specs.Prelude.{ℕ, ◌+◌, List, [], ◌∷◌, option_map, slice_index, Option, if◌then◌else◌}
use Rattle.typed_trees.specs.TypedTrees.{TypedModule}
use Rattle.layout.specs.Joined.{InProgram, is_main}
use Rattle.meaning.specs.Access.{Surroundings}
use Rattle.meaning.specs.Meaning.{callee_in}
use Rattle.call_graphs.specs.Chains.{Body}
use Rattle.stack_need.specs.CallGraph.{body_of}

abbrev pub modules_at : Surroundings → List TypedModule
modules_at around = around.program.modules

-- the body that a call is of, where the first body of each module has this number
abbrev pub callee_at : Surroundings → (firsts : List ℕ) → (procedure : ℕ) → Option ℕ
callee_at around firsts procedure =
    option_map (λ (at : InProgram). slice_index firsts at.number_of_module + at.number) (callee_in around procedure)

-- the body of the main module among modules from a number on
abbrev pub main_from : List TypedModule → (number_of_module : ℕ) → List TypedModule → Body
main_from all number_of_module [] = record { charge = 0; callees = [] }
main_from all number_of_module (typed ∷ others) =
    if is_main typed then body_of all number_of_module typed.main else main_from all (number_of_module + 1) others
