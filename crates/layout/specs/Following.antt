-- Placements in which the objects and the constant lists of modules lie as their segments have them.
use Rattle.std.specs.Prelude.{◌≡◌, ℕ, ◌+◌, ◌%◌, List, [], ◌∷◌, zip, All, Option, Some, None}
use Rattle.mem80.specs.declared.memory.TheConstants.{MEMORY_SIZE}
use Rattle.typed_trees.specs.TypedTrees.{TypedModule}
use Rattle.layout.specs.declared.slot.Segment.{Segment}
use Rattle.layout.specs.declared.slot.Segment.TheVariants.{Code, Data}
use Rattle.layout.specs.declared.slot.Slot.{Slot}
use Rattle.layout.specs.Lawful.{HasAddresses}
use Rattle.layout.specs.Storage.{Storage, storage_with}
use Rattle.layout.specs.Placement.{ModulePlacement, range_of, EndsInMemory}

-- where the segments of a module begin
pub record Bases : Type 0 where
  pub code_base : ℕ
  pub data_base : ℕ

abbrev pub base_of : Bases → Segment → ℕ
base_of bases Code = bases.code_base
base_of bases Data = bases.data_base

-- The address of a slot: its offset after the base of its segment. A slot without bytes at the end of memory
-- has the address 0.
abbrev pub address_of_slot : Bases → Slot → ℕ
address_of_slot bases slot = (base_of bases slot.segment + slot.offset) % MEMORY_SIZE

abbrev pub LiesInSlot : Bases → (address : ℕ) → Option Slot → Type 0
LiesInSlot bases address None = Unit {0}
LiesInSlot bases address (Some slot) = address ≡ address_of_slot bases slot

-- each object and each constant list with a place in a segment lies there, and neither segment passes the end
-- of memory
pub record FollowsBases (bases : Bases) (storage : Storage) (placed : ModulePlacement) : Type 0 where
  pub objects :
      All (λ (object : Option Slot × ℕ). LiesInSlot bases object.1 object.0)
      (zip storage.objects placed.objects)
  pub lists :
      All (λ (list : Slot × ℕ). list.1 ≡ address_of_slot bases list.0) (zip storage.lists placed.lists)
  pub constants_in_memory : EndsInMemory (range_of bases.code_base storage.constant_size)
  pub data_in_memory : EndsInMemory (range_of bases.data_base storage.data_size)

-- a module whose segments begin there: it has an address for each object and each constant list, and what
-- has a place in its segments lies there by its storage
pub record LiesAtBases (bases : Bases) (typed : TypedModule) (placed : ModulePlacement) : Type 0 where
  pub addresses : HasAddresses (typed, placed)
  pub follows : FollowsBases bases (storage_with typed) placed

-- the modules of a program, each with bases of its own and a placement of its own
abbrev pub FollowsStorage : List Bases → List TypedModule → List ModulePlacement → Type 0
FollowsStorage [] [] [] = Unit {0}
FollowsStorage (bases ∷ others) (typed ∷ modules) (placed ∷ placements) =
    LiesAtBases bases typed placed × FollowsStorage others modules placements
FollowsStorage bases modules placements = ⊥
