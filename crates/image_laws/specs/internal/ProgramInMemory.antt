-- Programs whose object modules were linked, placed and loaded: in declared bytes the memory is the one that a run of
-- the source starts with.
use Rattle.std.specs.Prelude.{◌≡◌, ℕ, List, [], ◌∷◌, All, length}
use Rattle.mem80.specs.declared.memory.TheConstants.{MEMORY_SIZE}
use Rattle.typed_trees.specs.Globals.{ListsGlobals}
use Rattle.typed_trees.specs.Storable.{IsStorable}
use Rattle.typed_trees.specs.TypedTrees.{TypedModule}
use Rattle.layout.specs.Joined.{IsJoined}
use Rattle.layout.specs.Lawful.{IsLawful}
use Rattle.layout.specs.Placement.{Placement, AgreesOnDeclared}
use Rattle.layout.specs.Placing.{Plan as PlacingPlan, placement_by}
use Rattle.layout.specs.StartingMemory.{starting_memory}
use Rattle.object_modules.specs.Image.{Image}
use Rattle.object_modules.specs.Module.{ObjectModule}
use Rattle.image_laws.specs.internal.InMemory.{ArePlaced}
use Rattle.image_laws.specs.internal.AtPlans.{AreObjectsOf, code_lengths_of, plan_of}
use Rattle.image_laws.specs.Segments.{HasSegments}

-- object modules that have the segments of modules, one for each module, in their order
abbrev pub HaveSegments : List TypedModule → List ObjectModule → Type 0
HaveSegments [] [] = Unit {0}
HaveSegments (typed ∷ others) (object ∷ objects) = HasSegments typed object × HaveSegments others objects
HaveSegments modules objects = ⊥

-- where a program lies whose object modules have code segments of their lengths
abbrev pub placement_of : PlacingPlan → List TypedModule → List ObjectModule → Placement
placement_of plan modules objects = placement_by plan modules (code_lengths_of objects)

-- a program that lies lawfully by a plan, and its object modules, which are linked, placed by the plan and put into a
-- memory
pub record IsInMemory
    (plan : PlacingPlan) (modules : List TypedModule) (objects : List ObjectModule) (merged : ObjectModule)
    (image : Image) (before after : List ℕ) : Type 0 where
  pub joined : IsJoined modules
  pub globals : All ListsGlobals modules
  pub storable : All IsStorable modules
  pub lawful : IsLawful modules (placement_of plan modules objects)
  pub made : AreObjectsOf modules objects
  pub segments : HaveSegments modules objects
  pub placed : ArePlaced objects merged (plan_of plan) image before after
  pub size : length before ≡ MEMORY_SIZE

-- in declared bytes, the memory is the one that a run of the source starts with
abbrev pub StartsAsItsSource : Type 0
StartsAsItsSource =
    (plan : PlacingPlan) (modules : List TypedModule) (objects : List ObjectModule) (merged : ObjectModule)
    (image : Image) (before after : List ℕ)
    → IsInMemory plan modules objects merged image before after
    → AgreesOnDeclared modules (placement_of plan modules objects)
    (starting_memory modules (placement_of plan modules objects) before) after
