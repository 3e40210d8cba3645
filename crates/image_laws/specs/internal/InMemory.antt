-- Modules that are linked and placed: where the segments of each module begin in memory, what address each
-- target of its fixes has there, and that its bytes stand there.
use Rattle.std.specs.Prelude.{◌≡◌, ℕ, ◌+◌, ◌%◌, ◌<◌, ◌≤◌, List, [], ◌∷◌, All, length, Option, Some, IfSome, Ok, unwrap_or}
use Rattle.std.specs.Option.{option_map_or}
use Rattle.mem80.specs.declared.memory.TheConstants.{MEMORY_SIZE}
use Rattle.mem80.specs.Memory.{byte_at}
use Rattle.mem80.specs.declared.range.Piece.{Piece}
use Rattle.mem80.specs.Pieces.{AreLongestRuns, IsLoaded, byte_in}
use Rattle.mem80.specs.Range.{IsIn}
use Rattle.object_modules.specs.declared.segment.Segment.{Segment}
use Rattle.object_modules.specs.declared.segment.Segment.TheVariants.{Code, Data}
use Rattle.object_modules.specs.declared.segment.Target.{Target}
use Rattle.object_modules.specs.declared.segment.Target.TheVariants.{InSegment, External}
use Rattle.object_modules.specs.Displacements.{Start, Linked, start_of, linked_modules, public_moved, public_named, public_meant}
use Rattle.object_modules.specs.Image.{Plan, Image, base_of, symbol_at, code_range, data_range, image_of}
use Rattle.object_modules.specs.Merge.{merge_of}
use Rattle.object_modules.specs.Module.{Public, ObjectModule, IsObjectModule, places_of}
use Rattle.object_modules.specs.Moving.{bytes_resolved}
use Rattle.asm8080.specs.Standing.{SetBytesStand}

-- where a segment of a module begins in memory; of the stack, the address just past it
abbrev pub piece_base : Plan → Start → Segment → ℕ
piece_base plan start segment = base_of plan segment + start_of start segment

-- the address of a public of a merge, 0 without one
abbrev pub address_of_public : Plan → Option Public → ℕ
address_of_public plan public = option_map_or (λ (given : Public). (symbol_at plan given).address) public 0

-- the address of a target of a module of a merge: where its segment begins, or that of the public with its
-- name
abbrev pub address_of_target : Plan → (merged : ObjectModule) → Linked → Target → ℕ
address_of_target plan merged linked (InSegment segment) = piece_base plan linked.start segment
address_of_target plan merged linked (External number) =
    address_of_public plan (public_meant merged.publics linked.object number)

-- the bytes of a segment of a module where it is placed, with all fixes applied
abbrev pub segment_bytes : Plan → (merged : ObjectModule) → Linked → Segment → List (Option ℕ)
segment_bytes plan merged linked segment =
    bytes_resolved (address_of_target plan merged linked) (places_of linked.object segment)

-- a memory has the bytes from an address on that are set, and the others there are as before
abbrev pub BytesAreLoaded : (before after : List ℕ) → (address : ℕ) → List (Option ℕ) → Type 0
BytesAreLoaded before after address [] = Unit {0}
BytesAreLoaded before after address (byte ∷ others) =
    (byte_at after address ≡ unwrap_or byte (byte_at before address))
    × BytesAreLoaded before after (address + 1) others

-- a segment of a module stands in memory: it ends there, its bytes that are set stand, and the others are as
-- before
pub record SegmentStands
    (plan : Plan) (merged : ObjectModule) (linked : Linked) (segment : Segment)
    (before after : List ℕ) : Type 0 where
  pub in_memory :
      piece_base plan linked.start segment + length (places_of linked.object segment) ≤ MEMORY_SIZE
  pub stands :
      SetBytesStand after (piece_base plan linked.start segment) (segment_bytes plan merged linked segment)
  pub loaded :
      BytesAreLoaded before after (piece_base plan linked.start segment)
      (segment_bytes plan merged linked segment)

-- the same for both segments of a module that have bytes
pub record ModuleStands
    (plan : Plan) (merged : ObjectModule) (before after : List ℕ) (linked : Linked) : Type 0 where
  pub code : SegmentStands plan merged linked Code before after
  pub data_places : SegmentStands plan merged linked Data before after

-- modules that are merged, and their merge that is placed and put into a memory
pub record ArePlaced
    (objects : List ObjectModule) (merged : ObjectModule) (plan : Plan) (image : Image)
    (before after : List ℕ) : Type 0 where
  pub valid : All IsObjectModule objects
  pub merge : merge_of objects ≡ Ok merged
  pub placed : image_of plan merged ≡ Ok image
  pub loaded : IsLoaded image.byte_at before after

-- a memory into which the longest runs of an image were put has the image
abbrev pub RunsAreLoaded : Type 0
RunsAreLoaded =
    (pieces : List Piece) (bytes_at : ℕ → Option ℕ) (before after : List ℕ)
    → AreLongestRuns pieces bytes_at
    → IsLoaded (byte_in pieces) before after
    → IsLoaded bytes_at before after

-- each of them stands there
abbrev pub ObjectsStand : Type 0
ObjectsStand =
    (objects : List ObjectModule) (merged : ObjectModule) (plan : Plan) (image : Image)
    (before after : List ℕ)
    → ArePlaced objects merged plan image before after
    → All (ModuleStands plan merged before after) (linked_modules objects)

-- the bytes outside both segments of the merge are as they were
abbrev pub OthersStay : Type 0
OthersStay =
    (objects : List ObjectModule) (merged : ObjectModule) (plan : Plan) (image : Image)
    (before after : List ℕ)
    → ArePlaced objects merged plan image before after
    → (address : ℕ)
    → address < MEMORY_SIZE
    → (IsIn address (code_range plan merged) → ⊥)
    → (IsIn address (data_range plan merged) → ⊥)
    → byte_at after address ≡ byte_at before address

-- the image starts where the main module does
abbrev pub StartsAt : Plan → Image → Linked → Type 0
StartsAt plan image linked =
    IfSome (linked.object).start
    (λ offset. image.start ≡ (piece_base plan linked.start Code + offset) % MEMORY_SIZE)

abbrev pub MainStarts : Type 0
MainStarts =
    (objects : List ObjectModule) (merged : ObjectModule) (plan : Plan) (image : Image)
    → merge_of objects ≡ Ok merged
    → image_of plan merged ≡ Ok image
    → All (StartsAt plan image) (linked_modules objects)

-- a public of a module is the one with its name in the merge, and lies where its module has it
pub record PublicLies (plan : Plan) (merged : ObjectModule) (linked : Linked) (public : Public) : Type 0 where
  pub named : public_named merged.publics public.name ≡ Some (public_moved linked public)
  pub address :
      address_of_public plan (public_named merged.publics public.name)
      ≡ (piece_base plan linked.start public.segment + public.offset) % MEMORY_SIZE

-- the same for each public of each module of a merge
abbrev pub PublicsLie : Type 0
PublicsLie =
    (objects : List ObjectModule) (merged : ObjectModule) (plan : Plan)
    → merge_of objects ≡ Ok merged
    → All
    (λ (linked : Linked). All (PublicLies plan merged linked) (linked.object).publics)
    (linked_modules objects)
