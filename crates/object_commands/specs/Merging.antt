-- Object files whose merge is placed in memory, and why they have none.
use Rattle.std.specs.Prelude.{◌≡◌, ◌⊎◌, ℕ, List, codes, slice_get, unwrap_or, Err, Option}
use Rattle.host.specs.Files.{Directory}
use Rattle.host.specs.Reading.{HasFiles, StopsAt}
use Rattle.host.specs.Refusals.{Tells, file_line, memory_line, refusal_line}
use Rattle.link.specs.Streams.{IsFirstFaulty, IsRefused, Merges}
use Rattle.locate.specs.Locating.{Absolute, IsPlaced, plan_view}
use Rattle.mem80.specs.declared.plan.Plan.{Plan}
use Rattle.host.specs.Events.{CountsFailure}
use Rattle.object_modules.specs.Image.{PlacementRefusal, image_of, placement_number}
use Rattle.object_modules.specs.Merge.{LinkRefusal, DuplicatePublic, UnresolvedExternal, SegmentTooLong, NotOneMain}
use Rattle.object_modules.specs.Merge.{HighByteMoves, link_number}
use Rattle.object_modules.specs.Module.{ObjectModule}
use Rattle.object_modules.specs.Numbers.{number_of}
use Rattle.object_modules.specs.declared.fault.Fault.{Fault}

-- the modules that these texts spell have a merge, which is placed by the plan
pub record PlacesTexts (texts : List (List ℕ)) (plan : Plan) (absolute : Absolute) : Type 0 where
  pub object : ObjectModule
  pub merges : Merges texts object
  pub placed : IsPlaced (plan_view plan) object absolute

-- the files of these names have such texts
pub record PlacesMerge (files : Option Directory) (names : List (List ℕ)) (plan : Plan)
    (absolute : Absolute) : Type 0 where
  pub texts : List (List ℕ)
  pub read : HasFiles files names texts
  pub placed : PlacesTexts texts plan absolute

-- the name of the file of this number, counted from 0, or a dash
abbrev pub file_at : (names : List (List ℕ)) → (number : ℕ) → List ℕ
file_at names number = unwrap_or (slice_get names number) (codes "-")

-- the name that a refusal of a merge is about, or a dash
abbrev pub name_told : LinkRefusal → List ℕ
name_told (DuplicatePublic name) = name
name_told (UnresolvedExternal name) = name
name_told SegmentTooLong = codes "-"
name_told NotOneMain = codes "-"
name_told HighByteMoves = codes "-"

-- the line of a fault of an object file, of a refusal of a merge, and of a plan was told, which is to say that it was
-- printed, or a beginning of it, which may be nothing; and the first of these texts that spells no module has that
-- fault, their modules have no merge for that reason, or the plan does not place their merge
pub record TellsFaulty (names texts : List (List ℕ)) (old new : Option (List ℕ)) : Type 0 where
  pub file : ℕ
  pub fault : Fault
  pub faulty : IsFirstFaulty texts file fault
  pub told : Tells (refusal_line (number_of fault) (file_at names file) 0) old new

pub record TellsUnmerged (texts : List (List ℕ)) (old new : Option (List ℕ)) : Type 0 where
  pub refusal : LinkRefusal
  pub refused : IsRefused texts refusal
  pub told : Tells (refusal_line (link_number refusal) (name_told refusal) 0) old new

pub record TellsUnplaced (texts : List (List ℕ)) (plan : Plan) (old new : Option (List ℕ)) : Type 0 where
  pub object : ObjectModule
  pub merges : Merges texts object
  pub refusal : PlacementRefusal
  pub refused : image_of (plan_view plan) object ≡ Err refusal
  pub told : Tells (refusal_line (placement_number refusal) (codes "-") 0) old new

-- Why texts of files of these names have no merge that the plan places was told, or that memory ran out.
unfoldable pub TellsNoMerge : (names texts : List (List ℕ)) → Plan → (old new : Option (List ℕ)) → Type 0
TellsNoMerge names texts plan old new =
    Tells memory_line old new
    ⊎ (TellsFaulty names texts old new ⊎ (TellsUnmerged texts old new ⊎ TellsUnplaced texts plan old new))

-- the files of these names have texts, and that was told of the texts
pub record RefusesMerge (files : Option Directory) (names : List (List ℕ)) (plan : Plan)
    (old new : Option (List ℕ)) : Type 0 where
  pub texts : List (List ℕ)
  pub read : HasFiles files names texts
  pub told : TellsNoMerge names texts plan old new

-- A merge of the files of these names was not placed: the line was told of the first of them that can't be read, whose
-- failure was counted; or, where no failure was counted, that memory ran out or why there is no such merge.
unfoldable pub RefusesPlacing :
    (files : Option Directory) → (names : List (List ℕ)) → Plan → (before after : ℕ)
    → (old new : Option (List ℕ)) → Type 0
RefusesPlacing files names plan before after old new =
    (CountsFailure before after × ((name : List ℕ) × StopsAt files names name × Tells (file_line name) old new))
    ⊎ ((after ≡ before) × (Tells memory_line old new ⊎ RefusesMerge files names plan old new))
