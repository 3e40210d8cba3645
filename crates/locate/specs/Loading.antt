-- What is promised of placed modules for every memory.
use Rattle.std.specs.Prelude.{◌≡◌, ℕ, List, Ok}
use Rattle.mem80.specs.Memory.{IsMemory}
use Rattle.mem80.specs.Pieces.{IsLoaded}
use Rattle.mem80.specs.declared.range.Piece.{Piece}
use Rattle.object_modules.specs.Image.{Plan, Image, image_of}
use Rattle.object_modules.specs.Module.{ObjectModule}
use Rattle.locate.specs.Locating.{Absolute, loaded}

-- With pieces put into it, a memory has the bytes of an image where the image has any, and is as before elsewhere; and it
-- is a memory still.
pub record GivesImage (image : Image) (pieces : List Piece) (memory : List ℕ) : Type 0 where
  pub has_image : IsLoaded image.byte_at memory (loaded pieces memory)
  pub is_memory : IsMemory (loaded pieces memory)

-- a placed module gives each memory the image of the module that was placed
abbrev pub GivesItsImage : Plan → ObjectModule → Absolute → Type 0
GivesItsImage plan object absolute =
    (image : Image)
    → image_of plan object ≡ Ok image
    → (memory : List ℕ)
    → IsMemory memory
    → GivesImage image absolute.pieces memory
