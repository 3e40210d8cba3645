-- What a text is compiled to, and what an image is that LINK and LOCATE make of object modules.
use Rattle.std.specs.Prelude.{◌≡◌, ℕ, List, map, Ok}
use Rattle.mem80.specs.Memory.{IsMemory}
use Rattle.typed_trees.specs.TypedTrees.{TypedModule}
use Rattle.sources.specs.Reading.{IsSourceOf}
use Rattle.object_modules.specs.Merge.{merge_of}
use Rattle.object_modules.specs.Module.{ObjectModule, length_of}
use Rattle.object_modules.specs.Text.{text_of}
use Rattle.object_modules.specs.declared.segment.Segment.TheVariants.{Code}
use Rattle.locate.specs.Locating.{Absolute, IsPlaced, loaded, plan_view}
use Rattle.mem80.specs.declared.plan.Plan.{Plan}
use Rattle.file_laws.specs.FileImages.{LinkTo, PlacesAs, files_of}
use Rattle.generation.specs.Kept.{KeepsContract}
use Rattle.layout.specs.Placement.{AgreesOnDeclared, Placement}
use Rattle.layout.specs.StartingMemory.{starting_memory}

-- A text is compiled to an object module: this keeps what is promised of an object module of the module that the text is the
-- source of.
pub record IsCompiledTo (text : List ℕ) (object : ObjectModule) : Type 0 where
  pub typed : TypedModule
  pub source : IsSourceOf text typed
  pub contract : KeepsContract typed object

-- how long the code segments of object modules are
abbrev pub code_lengths : List ObjectModule → List ℕ
code_lengths objects = map (λ (object : ObjectModule). length_of object Code) objects

-- an image is the merge of object modules, placed by a plan
pub record IsImageOfObjects (plan : Plan) (objects : List ObjectModule) (image : Absolute) : Type 0 where
  pub merged : ObjectModule
  pub merge : merge_of objects ≡ Ok merged
  pub placed : IsPlaced (plan_view plan) merged image

-- An image is that of the files of object modules. Written to files, these are linked to one file, whose text is that of
-- their merge, and that file is read and placed by the plan as the image. No step is refused.
pub record IsImageOfFiles (plan : Plan) (objects : List ObjectModule) (image : Absolute) : Type 0 where
  pub merged : ObjectModule
  pub merge : merge_of objects ≡ Ok merged
  pub linked : LinkTo (files_of objects) (text_of merged)
  pub placed : PlacesAs (plan_view plan) (text_of merged) image

-- In every memory into which an image is loaded each declared byte begins as a run of the source has it: those
-- of DATA, of INITIAL and of constant lists with their values, and any other as it was.
abbrev pub StartsAsItsSource : List TypedModule → Placement → Absolute → Type 0
StartsAsItsSource modules placement image =
    (memory : List ℕ)
    → IsMemory memory
    → AgreesOnDeclared modules placement (starting_memory modules placement memory) (loaded image.pieces memory)
