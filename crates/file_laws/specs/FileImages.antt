-- Object files that were written of modules: what it gives to link them to one file, to read that file and to
-- place what was read, as the contracts of `write`, `link_records`, `read` and `locate` say it.
use Rattle.std.specs.Prelude.{◌≡◌, ℕ, List, All, map, IsPermutation, Option, Ok, Err}
use Rattle.std.specs.Io.KnownBytes.{Appends}
use Rattle.failure.specs.Writing.{AppendsBeginning}
use Rattle.object_modules.specs.declared.fault.Fault.{Fault}
use Rattle.object_modules.specs.Image.{Plan, PlacementRefusal, image_of}
use Rattle.object_modules.specs.Merge.{LinkRefusal, link_number, merge_of}
use Rattle.object_modules.specs.Module.{ObjectModule, IsObjectModule}
use Rattle.object_modules.specs.Spelling.{Spells, HasFirstFault}
use Rattle.object_modules.specs.Text.{text_of}
use Rattle.link.specs.Streams.{Merges, WritesMerge, BeginsMerge, IsFirstFaulty, IsRefused}
use Rattle.locate.specs.Locating.{Absolute, IsPlaced}

-- the files that are written for modules, in their order
abbrev pub files_of : List ObjectModule → List (List ℕ)
files_of objects = map text_of objects

-- Files are linked to one file, which has this text, byte for byte: the merge of what they spell has it, and
-- `link_records` writes it, or a beginning of it where the writer fails. No file has a fault, and the merge is
-- not refused.
pub record LinkTo (files : List (List ℕ)) (text : List ℕ) : Type 0 where
  pub linked : ObjectModule
  pub merges : Merges files linked
  pub same : (object : ObjectModule) → Merges files object → text_of object ≡ text
  pub written : (old new : Option (List ℕ)) → WritesMerge files old new → Appends old new text
  pub begun : (old new : Option (List ℕ)) → BeginsMerge files old new → AppendsBeginning old new text
  pub no_fault : (file : ℕ) (fault : Fault) → ¬ IsFirstFaulty files file fault
  pub no_refusal : (refusal : LinkRefusal) → ¬ IsRefused files refusal

-- the same bytes at the same addresses, the same start, and the same symbols, if in another order
pub record IsSameImage (left right : Absolute) : Type 0 where
  pub pieces : left.pieces ≡ right.pieces
  pub start : left.start ≡ right.start
  pub symbols : IsPermutation left.symbols right.symbols

-- A text is read, and what it spells is placed by a plan as this image: it has no fault, and placing is not
-- refused.
pub record PlacesAs (plan : Plan) (text : List ℕ) (image : Absolute) : Type 0 where
  pub read : ObjectModule
  pub spelled : Spells text read
  pub placed : Absolute
  pub is_placed : IsPlaced plan read placed
  pub same :
      (object : ObjectModule) (other : Absolute) → Spells text object → IsPlaced plan object other
      → IsSameImage other image
  pub no_fault : (fault : Fault) → ¬ HasFirstFault text fault
  pub no_refusal :
      (object : ObjectModule) (refusal : PlacementRefusal) → Spells text object
      → ¬ (image_of plan object ≡ Err refusal)

-- Where a merge of modules is placed by a plan, the files that are written for these modules, linked to one
-- file which is read and placed by that plan, give the same image: the file is that of the merge, byte for byte,
-- and no step is refused.
abbrev pub FilesGiveTheImage : Type 0
FilesGiveTheImage =
    (objects : List ObjectModule) (merged : ObjectModule) (plan : Plan) (image : Absolute)
    → All IsObjectModule objects
    → merge_of objects ≡ Ok merged
    → IsPlaced plan merged image
    → LinkTo (files_of objects) (text_of merged) × PlacesAs plan (text_of merged) image

-- Files that spell modules are not linked: no file has a fault, and the merge is refused by this number.
pub record AreRefusedBy (files : List (List ℕ)) (number : List ℕ) : Type 0 where
  pub refusal : LinkRefusal
  pub refused : IsRefused files refusal
  pub same : (other : LinkRefusal) → IsRefused files other → link_number other ≡ number
  pub no_fault : (file : ℕ) (fault : Fault) → ¬ IsFirstFaulty files file fault
  pub no_merge : (object : ObjectModule) → ¬ Merges files object

-- Where a merge of modules is refused, so are the files that are written for these modules, by the same
-- number.
abbrev pub FilesAreRefused : Type 0
FilesAreRefused =
    (objects : List ObjectModule) (refusal : LinkRefusal)
    → All IsObjectModule objects
    → merge_of objects ≡ Err refusal
    → AreRefusedBy (files_of objects) (link_number refusal)

-- Where placing a merge of modules is refused, so is placing what is read of its file, for the same reason.
abbrev pub FilesAreNotPlaced : Type 0
FilesAreNotPlaced =
    (merged object : ObjectModule) (plan : Plan) (refusal : PlacementRefusal)
    → IsObjectModule merged
    → image_of plan merged ≡ Err refusal
    → Spells (text_of merged) object
    → image_of plan object ≡ Err refusal
