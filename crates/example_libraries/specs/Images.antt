-- What the image of object files is, and why they have none.
use Rattle.std.specs.Prelude.{◌≡◌, ℕ, List, ◌∷◌, ◌++◌, Ok, Err}
use Rattle.std.specs.List.{AllZip}
use Rattle.object_modules.specs.declared.fault.Fault.{Fault}
use Rattle.object_modules.specs.Image.{Plan, PlacementRefusal, image_of}
use Rattle.object_modules.specs.Merge.{LinkRefusal, merge_of}
use Rattle.object_modules.specs.Module.{ObjectModule}
use Rattle.object_modules.specs.Spelling.{HasFirstFault, Spells}
use Rattle.link.specs.Faults as linking
use Rattle.locate.specs.Locating.{Absolute, IsPlaced}
use Rattle.locate.specs.Locating as placing
use Rattle.example_libraries.specs.declared.images.ImageFault.{ImageFault}
use Rattle.example_libraries.specs.declared.images.ImageFault.TheVariants.{Object, Link, Place}

-- files spell modules, and the merge of these in this order is placed by a plan
pub record IsImageOf (files : List (List ℕ)) (plan : Plan) (absolute : Absolute) : Type 0 where
  pub objects : List ObjectModule
  pub spelled : AllZip Spells files objects
  pub merged : ObjectModule
  pub merge : merge_of objects ≡ Ok merged
  pub placed : IsPlaced plan merged absolute

-- the files before one spell modules, and that one has this fault
pub record FirstIsFaulty (files : List (List ℕ)) (fault : Fault) : Type 0 where
  pub before : List (List ℕ)
  pub bytes : List ℕ
  pub after : List (List ℕ)
  pub objects : List ObjectModule
  pub split : files ≡ before ++ bytes ∷ after
  pub spelled : AllZip Spells before objects
  pub faulty : HasFirstFault bytes fault

-- files spell modules that have no merge, for this reason
pub record IsUnmerged (files : List (List ℕ)) (refusal : LinkRefusal) : Type 0 where
  pub objects : List ObjectModule
  pub spelled : AllZip Spells files objects
  pub refused : merge_of objects ≡ Err refusal

-- files spell modules with a merge that has no image, for this reason
pub record IsUnplaced (files : List (List ℕ)) (plan : Plan) (refusal : PlacementRefusal) : Type 0 where
  pub objects : List ObjectModule
  pub spelled : AllZip Spells files objects
  pub merged : ObjectModule
  pub merge : merge_of objects ≡ Ok merged
  pub refused : image_of plan merged ≡ Err refusal

-- why files have no image by a plan
abbrev pub HasNoImage : (files : List (List ℕ)) → (plan : Plan) → ImageFault → Type 0
HasNoImage files plan (Object fault) = FirstIsFaulty files fault
HasNoImage files plan (Link fault) = IsUnmerged files (linking.refusal_of fault)
HasNoImage files plan (Place fault) = IsUnplaced files plan (placing.refusal_of fault)
