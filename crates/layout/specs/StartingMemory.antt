-- The memory that a source run starts with: a given one with INITIAL, DATA and the constant lists written
-- over it.
use Rattle.std.specs.Prelude.{◌≡◌, ℕ, ◌+◌, ◌/◌, ◌%◌, ◌<◌, ◌≤◌, ◌⊎◌, true, length, All, List, [], ◌∷◌, ◌++◌, map, flat_map, fold, zip, Option, slice_get, slice_index, slice_set}
use Rattle.std.specs.List.{enumerate_from}
use Rattle.std.specs.Option.{option_map_or, option_and_then}
use Rattle.mem80.specs.declared.memory.TheConstants.{MEMORY_SIZE}
use Rattle.mem80.specs.Memory.{byte_at}
use Rattle.typed_trees.specs.declared.parts.InitialValue.TheVariants.{ByteValue, WordValue, LocationValue}
use Rattle.typed_trees.specs.declared.parts.InitialValue.{InitialValue}
use Rattle.typed_trees.specs.TypedTrees.{Home, InData, InConstants, TypedObject, TypedModule}
use Rattle.layout.specs.Joined.{InProgram, object_meant}
use Rattle.layout.specs.Placement.{ModulePlacement, Placement, is_declared}

-- where an object of a program lies
abbrev pub address_in : Placement → InProgram → ℕ
address_in placement at =
    option_map_or (λ (placed : ModulePlacement). slice_index placed.objects at.number)
    (slice_get placement.modules at.number_of_module) 0

-- the address of the object that an object of a module stands for
abbrev pub meant_in : List TypedModule → (number_of_module number : ℕ) → TypedModule → Option InProgram
meant_in modules number_of_module number typed =
    option_and_then
    (λ (object : TypedObject).
    object_meant modules (record { number_of_module = number_of_module; number = number }) object object.home)
    (slice_get typed.objects number)

abbrev pub address_of_object :
    List TypedModule → Placement → (number_of_module : ℕ) → TypedModule → (number : ℕ) → ℕ
address_of_object modules placement number_of_module typed number =
    option_map_or (address_in placement) (meant_in modules number_of_module number typed) 0

-- a word, the low byte first
abbrev pub bytes_of_word : ℕ → List ℕ
bytes_of_word word = word % 256 ∷ word / 256 ∷ []

-- the bytes of a value, with these addresses of objects
abbrev pub bytes_of_value : (address_of : ℕ → ℕ) → InitialValue → List ℕ
bytes_of_value address_of (ByteValue byte) = byte ∷ []
bytes_of_value address_of (WordValue word) = bytes_of_word word
bytes_of_value address_of (LocationValue object offset) =
    bytes_of_word ((address_of object + offset) % MEMORY_SIZE)

-- the bytes that fill an object from its start on
abbrev pub values_in : Home → List InitialValue
values_in (InData values) = values
values_in (InConstants values) = values
values_in home = []

-- bytes written one after another from an address on
abbrev pub written : (memory : List ℕ) → (address : ℕ) → List ℕ → List ℕ
written memory address [] = memory
written memory address (byte ∷ others) = written (slice_set memory address byte) (address + 1) others

-- bytes with the address that they begin at
abbrev pub Contents : Type 0
Contents = ℕ × List ℕ

abbrev pub contents_of_object : (address_of : ℕ → ℕ) → TypedObject × ℕ → Contents
contents_of_object address_of placed =
    (placed.1, flat_map (bytes_of_value address_of) (values_in (placed.0).home))

abbrev pub contents_of_list : List ℕ × ℕ → Contents
contents_of_list placed = (placed.1, placed.0)

abbrev pub contents_of_module :
    List TypedModule → Placement → (number_of_module : ℕ) → TypedModule → ModulePlacement → List Contents
contents_of_module modules placement number_of_module typed placed =
    map (contents_of_object (address_of_object modules placement number_of_module typed))
    (zip typed.objects placed.objects)
    ++ map contents_of_list (zip typed.constants.lists placed.lists)

-- all contents of a program
abbrev pub contents_of : List TypedModule → Placement → List Contents
contents_of modules placement =
    flat_map
    (λ (numbered : ℕ × (TypedModule × ModulePlacement)).
    contents_of_module modules placement numbered.0 (numbered.1).0 (numbered.1).1)
    (enumerate_from 0 (zip modules placement.modules))

unfoldable pub starting_memory : List TypedModule → Placement → (memory : List ℕ) → List ℕ
starting_memory modules placement memory =
    fold (λ (so_far : List ℕ) (contents : Contents). written so_far contents.0 contents.1) memory
    (contents_of modules placement)

-- an address that contents have a byte at
abbrev pub Covers : Contents → (address : ℕ) → Type 0
Covers contents address = (contents.0 ≤ address) × (address < contents.0 + length contents.1)

abbrev pub IsAmong : Contents → List Contents → Type 0
IsAmong wanted [] = ⊥
IsAmong wanted (first ∷ others) = (wanted ≡ first) ⊎ IsAmong wanted others

-- A memory that has at each address the byte of the contents that cover it, and else that of a given memory; what is
-- covered is declared.
pub record StartsAs (modules : List TypedModule) (placement : Placement) (given memory : List ℕ) : Type 0 where
  pub size : length memory ≡ length given
  pub covered : (contents : Contents) → IsAmong contents (contents_of modules placement)
      → (index : ℕ) → index < length contents.1
      → byte_at memory (contents.0 + index) ≡ slice_index contents.1 index
  pub others : (address : ℕ)
      → All (λ (contents : Contents). Covers contents address → ⊥) (contents_of modules placement)
      → byte_at memory address ≡ byte_at given address
  pub declared : (contents : Contents) → IsAmong contents (contents_of modules placement)
      → (address : ℕ) → Covers contents address → is_declared modules placement address ≡ true
