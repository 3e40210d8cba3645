-- Object modules with the names of the modules of a program: linking and placing them is refused only if the
-- placement of the program is.
use Rattle.std.specs.Prelude.{◌≡◌, List, [], ◌∷◌, None, Ok}
use Rattle.typed_trees.specs.TypedTrees.{TypedModule}
use Rattle.layout.specs.Joined.{IsJoined}
use Rattle.layout.specs.Placing.{Plan as PlacingPlan, placing_refusal}
use Rattle.object_modules.specs.Image.{Image, image_of}
use Rattle.object_modules.specs.Merge.{merge_of}
use Rattle.object_modules.specs.Module.{ObjectModule}
use Rattle.image_laws.specs.internal.AtPlans.{AreObjectsOf, code_lengths_of, plan_of}
use Rattle.image_laws.specs.Names.{HasNames}

-- object modules with the names of modules, one for each module, in their order
abbrev pub HaveNames : List TypedModule → List ObjectModule → Type 0
HaveNames [] [] = Unit {0}
HaveNames (typed ∷ others) (object ∷ objects) = HasNames typed object × HaveNames others objects
HaveNames modules objects = ⊥

-- object modules that have a merge, which has an image at a plan
pub record HaveImage (plan : PlacingPlan) (objects : List ObjectModule) : Type 0 where
  pub merged : ObjectModule
  pub merge : merge_of objects ≡ Ok merged
  pub image : Image
  pub placed : image_of (plan_of plan) merged ≡ Ok image

-- so have those of a program that its plan is not refused for
abbrev pub ProgramHasImage : Type 0
ProgramHasImage =
    (plan : PlacingPlan) (modules : List TypedModule) (objects : List ObjectModule)
    → IsJoined modules
    → AreObjectsOf modules objects
    → HaveNames modules objects
    → placing_refusal plan modules (code_lengths_of objects) ≡ None
    → HaveImage plan objects
