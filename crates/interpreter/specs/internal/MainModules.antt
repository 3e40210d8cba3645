-- The main module of a program, as the code finds it.
use Rattle.std.specs.Prelude.{ℕ, ◌+◌, List, [], ◌∷◌, Option, Some, None, if◌then◌else◌}
use Rattle.typed_trees.specs.TypedTrees.{TypedModule}
use Rattle.typed_trees.specs.Views.{module_view}
use Rattle.layout.specs.Joined.{is_main}
use Rattle.interpreter.specs.declared.main_module.MainModule.{MainModule}

abbrev pub found_view : MainModule → ℕ × TypedModule
found_view found = (found.number, module_view found.typed.now)

-- the first main module of those from a number on
abbrev pub found_from : (number : ℕ) → List TypedModule → Option (ℕ × TypedModule)
found_from number [] = None
found_from number (first ∷ others) =
    if is_main first then Some (number, first) else found_from (number + 1) others
