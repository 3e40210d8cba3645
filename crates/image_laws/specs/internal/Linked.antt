-- A module of a program whose object modules are linked, placed by a plan and loaded.
use Rattle.std.specs.Prelude.{◌≡◌, ℕ, List, Some, slice_get}
use Rattle.typed_trees.specs.Storable.{IsStorable}
use Rattle.typed_trees.specs.TypedTrees.{TypedModule}
use Rattle.layout.specs.Following.{FollowsBases}
use Rattle.layout.specs.Lawful.{HasAddresses, LiesWhereAtSays}
use Rattle.layout.specs.Placement.{ModulePlacement}
use Rattle.layout.specs.Placing.{Plan as PlacingPlan, module_placement_by}
use Rattle.layout.specs.Storage.{storage_with}
use Rattle.object_modules.specs.Displacements.{Linked, linked_modules}
use Rattle.object_modules.specs.Module.{ObjectModule}
use Rattle.image_laws.specs.internal.AtPlans.{StandsAt, bases_of}
use Rattle.image_laws.specs.internal.ProgramInMemory.{placement_of}
use Rattle.image_laws.specs.Segments.{HasSegments}

-- where its objects and its constant lists lie
abbrev pub placed_by : PlacingPlan → Linked → TypedModule → ModulePlacement
placed_by plan linked typed = module_placement_by (bases_of plan linked) typed (storage_with typed)

-- the module of a number is linked, stands in memory, and lies as the plan says
pub record IsLinked
    (plan : PlacingPlan) (modules : List TypedModule) (objects : List ObjectModule) (merged : ObjectModule)
    (before after : List ℕ) (number : ℕ) (typed : TypedModule) : Type 0 where
  pub linked : Linked
  pub found : slice_get (linked_modules objects) number ≡ Some linked
  pub object_found : slice_get objects number ≡ Some linked.object
  pub segments : HasSegments typed linked.object
  pub storable : IsStorable typed
  pub stands : StandsAt plan merged before after (linked, bases_of plan linked)
  pub placed :
      slice_get (placement_of plan modules objects).modules number ≡ Some (placed_by plan linked typed)
  pub follows : FollowsBases (bases_of plan linked) (storage_with typed) (placed_by plan linked typed)
  pub at_says : LiesWhereAtSays (typed, placed_by plan linked typed)
  pub addresses : HasAddresses (typed, placed_by plan linked typed)
