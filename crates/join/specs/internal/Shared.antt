-- What modules share, as the code holds it, in the words of programs.
use Rattle.std.specs.Prelude.{ℕ, List, map, find, filter, not, Bool, Option, option_map}
use Rattle.typed_trees.specs.Views.{object_view, procedure_view}
use Rattle.layout.specs.Joined.{Global, global_object, global_procedure}
use Rattle.join.specs.declared.shared.Shared.{Shared}
use Rattle.join.specs.declared.shared.Shared.TheVariants as shared_names

abbrev pub global_view : Shared → Global
global_view (shared_names.Object object) = global_object (object_view object.now)
global_view (shared_names.Procedure procedure) = global_procedure (procedure_view procedure.now)

abbrev pub globals_view : List Shared → List Global
globals_view globals = map global_view globals

-- the name of the first EXTERNAL that passes a test
abbrev pub first_external : (Global → Bool) → List Global → Option (List ℕ)
first_external test globals =
    option_map (λ (global : Global). global.name)
    (find test (filter (λ (global : Global). not global.is_public) globals))
