-- A module of a program whose object module is linked, placed and loaded, and where the labels and targets of its code lie
-- then.
use Rattle.std.specs.Prelude.{◌≡◌, ℕ, List, Some, slice_get}
use Rattle.object_modules.specs.declared.segment.Target.{Target}
use Rattle.object_modules.specs.Displacements.{public_named}
use Rattle.object_modules.specs.Module.{ObjectModule}
use Rattle.image_laws.specs.internal.InMemory.{address_of_public, address_of_target}
use Rattle.typed_trees.specs.TypedTrees.{TypedModule}
use Rattle.layout.specs.Placing.{Plan as PlacingPlan}
use Rattle.asm8080.specs.Items.{Layout}
use Rattle.program_laws.specs.internal.Made.{IsMadeOf}
use Rattle.image_laws.specs.internal.AtPlans.{plan_of}
use Rattle.image_laws.specs.internal.Linked.{IsLinked}
use Rattle.program_laws.specs.internal.Layouts.{module_layout}
use Rattle.program_laws.specs.internal.Typed.{IsSoundlyMade}

-- a module by its number in a program
pub record ModuleIs
    (plan : PlacingPlan) (modules : List TypedModule) (objects : List ObjectModule) (merged : ObjectModule)
    (before after : List ℕ) (number : ℕ) : Type 0 where
  pub typed : TypedModule
  pub found : slice_get modules number ≡ Some typed
  pub at : IsLinked plan modules objects merged before after number typed
  pub sound : IsSoundlyMade typed at.linked.object

-- how its object module was made
abbrev pub made_of :
    {plan : PlacingPlan} {modules : List TypedModule} {objects : List ObjectModule} {merged : ObjectModule}
    {before after : List ℕ} {number : ℕ}
    → (module_is : ModuleIs plan modules objects merged before after number)
    → IsMadeOf module_is.typed module_is.at.linked.object
made_of module_is = module_is.sound.made

-- the addresses of its targets
abbrev pub targets_of :
    {plan : PlacingPlan} {modules : List TypedModule} {objects : List ObjectModule} {merged : ObjectModule}
    {before after : List ℕ} {number : ℕ}
    → ModuleIs plan modules objects merged before after number → Target → ℕ
targets_of {plan = plan} {merged = merged} module_is =
    address_of_target (plan_of plan) merged module_is.at.linked

-- EXTERNAL names lie where the PUBLIC ones do that have the same name
abbrev pub public_address : PlacingPlan → (merged : ObjectModule) → (name : List ℕ) → ℕ
public_address plan merged name = address_of_public (plan_of plan) (public_named merged.publics name)

-- where labels lie by the numbers of a module, and its targets
abbrev pub layout_of :
    {plan : PlacingPlan} {modules : List TypedModule} {objects : List ObjectModule} {merged : ObjectModule}
    {before after : List ℕ} {number : ℕ}
    → ModuleIs plan modules objects merged before after number → Layout
layout_of {plan = plan} {merged = merged} module_is =
    module_layout (targets_of module_is) (public_address plan merged) (made_of module_is).generated.to
    (made_of module_is).generated.code (made_of module_is).tree.externals.items
