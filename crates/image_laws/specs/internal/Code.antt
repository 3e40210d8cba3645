-- Code that was assembled and stands in memory as a segment of a module that is linked and placed.
use Rattle.std.specs.Prelude.{◌≡◌, ℕ, ◌+◌, ◌≤◌, true, List, All, length, map}
use Rattle.mem80.specs.declared.memory.TheConstants.{MEMORY_SIZE}
use Rattle.object_modules.specs.declared.segment.Fix.{Fix}
use Rattle.object_modules.specs.declared.segment.Segment.{Segment}
use Rattle.object_modules.specs.declared.segment.Segment.TheVariants.{Code}
use Rattle.object_modules.specs.declared.segment.Target.{Target}
use Rattle.object_modules.specs.declared.segment.Target.TheVariants.{InSegment}
use Rattle.object_modules.specs.Displacements.{Linked, linked_modules}
use Rattle.object_modules.specs.Image.{Plan, Image}
use Rattle.object_modules.specs.Module.{ObjectModule, holds_bytes, places_of}
use Rattle.asm8080.specs.Assembled.{Assembled, Assembles, layout_at, resolved}
use Rattle.asm8080.specs.Assembled.{places_of as code_places}
use Rattle.asm8080.specs.Items.{Assembly, Stands}
use Rattle.asm8080.specs.Standing.{SetBytesStand}
use Rattle.image_laws.specs.internal.InMemory.{ArePlaced, address_of_target, piece_base}

-- a fix with another target
abbrev pub retargeted : (to : Target → Target) → Fix → Fix
retargeted to fix = record { kind = fix.kind; target = to fix.target; offset = fix.offset }

-- code whose fixes have other targets, as where its module lists external names in another order
abbrev pub with_targets : (to : Target → Target) → Assembled → Assembled
with_targets to code = record code { fixes = map (retargeted to) code.fixes }

-- a segment of a module is this code with these targets
abbrev pub HasSegment : Linked → Segment → (to : Target → Target) → Assembled → Type 0
HasSegment linked segment to code = places_of linked.object segment ≡ code_places (with_targets to code)

-- the addresses of the targets of the code
abbrev pub addresses_of : Plan → (merged : ObjectModule) → Linked → (to : Target → Target) → Target → ℕ
addresses_of plan merged linked to target = address_of_target plan merged linked (to target)

-- the code stands where the segment begins, each reference at the address of its target
pub record CodeStands
    (plan : Plan) (merged : ObjectModule) (memory : List ℕ) (linked : Linked) (segment : Segment)
    (to : Target → Target) (code : Assembled) : Type 0 where
  pub in_memory : piece_base plan linked.start segment + length code.bytes ≤ MEMORY_SIZE
  pub stands :
      SetBytesStand memory (piece_base plan linked.start segment)
      (resolved (addresses_of plan merged linked to) code)

-- the same for the code of each module of a merge
abbrev pub AssembledStands : Type 0
AssembledStands =
    (objects : List ObjectModule) (merged : ObjectModule) (plan : Plan) (image : Image)
    (before after : List ℕ)
    → ArePlaced objects merged plan image before after
    → All
    (λ (linked : Linked).
    (segment : Segment) (to : Target → Target) (code : Assembled)
    → holds_bytes segment ≡ true
    → HasSegment linked segment to code
    → CodeStands plan merged after linked segment to code)
    (linked_modules objects)

-- the items that code was assembled of stand where its segment begins
abbrev pub ItemsOf :
    Plan → (merged : ObjectModule) → (memory : List ℕ) → Linked → (to : Target → Target)
    → Assembly → Assembled → Type 0
ItemsOf plan merged memory linked to assembly code =
    Stands (layout_at (addresses_of plan merged linked to) assembly) memory assembly.items
    (piece_base plan linked.start Code)
    (piece_base plan linked.start Code + length code.bytes)

-- so they do in the code segment of each module of a merge, where what counts from the code still does
abbrev pub ItemsStand : Type 0
ItemsStand =
    (objects : List ObjectModule) (merged : ObjectModule) (plan : Plan) (image : Image)
    (before after : List ℕ)
    → ArePlaced objects merged plan image before after
    → All
    (λ (linked : Linked).
    (to : Target → Target) (assembly : Assembly) (code : Assembled)
    → to (InSegment Code) ≡ InSegment Code
    → Assembles assembly code
    → HasSegment linked Code to code
    → ItemsOf plan merged after linked to assembly code)
    (linked_modules objects)
