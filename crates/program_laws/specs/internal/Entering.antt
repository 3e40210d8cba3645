-- The modules of a program, and where the code of each procedure begins.
use Rattle.std.specs.Prelude.{◌≡◌, ℕ, List, Option, Some, slice_get}
use Rattle.std.specs.Option.{option_map_or}
use Rattle.object_modules.specs.Module.{ObjectModule}
use Rattle.typed_trees.specs.TypedTrees.{TypedModule}
use Rattle.layout.specs.Placing.{Plan as PlacingPlan}
use Rattle.procedure_laws.specs.Calls.{Entries}
use Rattle.program_laws.specs.internal.Linked.{ModuleIs, layout_of}

-- each module of a program, by its number
pub record ModulesAre
    (plan : PlacingPlan) (modules : List TypedModule) (objects : List ObjectModule) (merged : ObjectModule)
    (before after : List ℕ) : Type 0 where
  pub at : (number : ℕ) → Option (ModuleIs plan modules objects merged before after number)
  pub all : (number : ℕ) (typed : TypedModule) → slice_get modules number ≡ Some typed
      → (module_is : ModuleIs plan modules objects merged before after number) × (at number ≡ Some module_is)

-- where the code of a procedure begins
abbrev pub entries_of :
    {plan : PlacingPlan} {modules : List TypedModule} {objects : List ObjectModule} {merged : ObjectModule}
    {before after : List ℕ}
    → ModulesAre plan modules objects merged before after → Entries
entries_of modules_are place =
    option_map_or (λ module_is. (layout_of module_is).place_of place.number) (modules_are.at place.number_of_module) 0
