-- What assembling gives.
use Rattle.std.specs.Prelude.{slice_get, ◌≡◌, ℕ, ◌+◌, ◌<◌, ◌≤◌, Bool, true, if◌then◌else◌, nat_lt, nat_le, IsTrue, List, [], ◌∷◌, All, length, Option, Some, None, option_map, Result, Ok, Err, unwrap_or}
use Rattle.std.specs.List.{list_all}
use Rattle.mem80.specs.declared.memory.TheConstants.{MEMORY_SIZE}
use Rattle.isa8080.specs.State.{wrap}
use Rattle.object_modules.specs.declared.segment.Fix.{Fix}
use Rattle.object_modules.specs.declared.segment.Alignment.TheVariants.{Byte as OnByte}
use Rattle.object_modules.specs.declared.segment.FixKind.TheVariants.{Both}
use Rattle.object_modules.specs.declared.segment.Target.{Target}
use Rattle.object_modules.specs.declared.segment.Segment.TheVariants.{Code}
use Rattle.object_modules.specs.declared.segment.Target.TheVariants.{InSegment}
use Rattle.object_modules.specs.declared.segment.TheConstants.{SEGMENT_LIMIT}
use Rattle.object_modules.specs.Module.{SetByte, is_target, words_are_whole}
use Rattle.object_modules.specs.Moving.{bytes_resolved}
use Rattle.object_modules.specs.Rules.{fix_end}
use Rattle.object_modules.specs.Runs.{fixup_at}
use Rattle.object_modules.specs.Stored.{StoredSegment, fixes_ascend, is_in_a_run}
use Rattle.object_modules.specs.Text.{runs_from}
use Rattle.asm8080.specs.declared.fault.Fault.{Fault}
use Rattle.asm8080.specs.declared.fault.Fault.TheVariants.{UnboundLabel, TooLong}
use Rattle.asm8080.specs.declared.item.Item.{Item}
use Rattle.asm8080.specs.declared.item.Item.TheVariants.{WithWord, Address}
use Rattle.asm8080.specs.declared.item.Reference.{Reference}
use Rattle.asm8080.specs.declared.item.Reference.TheVariants.{AtLabel, AtTarget, AtNumber}
use Rattle.asm8080.specs.Items.{Assembly, Layout, ListsExternals, Stands, flags_of_items, is_bound, offset_of, size_of, size_of_items}
use Rattle.asm8080.specs.Standing.{SetBytesStand}

-- the bytes of a code segment, which of them are set, its fixes in the order of their offsets, and how far its
-- labels are from its start, by their numbers
pub record Assembled : Type 0 where
  pub bytes : List ℕ
  pub is_set : List Bool
  pub fixes : List Fix
  pub places : List (Option ℕ)

-- bytes with a flag for each, kept only where the flag is set
abbrev pub set_bytes : (bytes : List ℕ) → (is_set : List Bool) → List (Option ℕ)
set_bytes [] is_set = []
set_bytes (byte ∷ others) [] = None ∷ set_bytes others []
set_bytes (byte ∷ others) (here ∷ later) = (if here then Some byte else None) ∷ set_bytes others later

abbrev pub place_or_start : Option (Option ℕ) → ℕ
place_or_start None = 0
place_or_start (Some None) = 0
place_or_start (Some (Some place)) = place

-- the place of a label by a table
abbrev pub place_in : List (Option ℕ) → (label : ℕ) → ℕ
place_in places label = place_or_start (slice_get places label)

-- the place of a label of the segment, from its start
abbrev pub place_of : Assembled → (label : ℕ) → ℕ
place_of code label = wrap (place_in code.places label)

-- bytes from an offset on, each that is set with the fix that begins there
abbrev pub fixed_bytes : List Fix → (offset : ℕ) → List (Option ℕ) → List (Option SetByte)
fixed_bytes fixes offset [] = []
fixed_bytes fixes offset (byte ∷ others) =
    option_map (λ value. record { value = value; fixup = fixup_at fixes offset }) byte
    ∷ fixed_bytes fixes (offset + 1) others

-- the places of the segment
abbrev pub places_of : Assembled → List (Option SetByte)
places_of code = fixed_bytes code.fixes 0 (set_bytes code.bytes code.is_set)

-- the segment that an object module keeps of it: the longest runs of bytes that are set. No function here makes
-- it: laws say that it is one as object modules keep them, with the places of the code.
abbrev pub segment_of : Assembled → StoredSegment
segment_of code = record {
  size = length code.bytes;
  alignment = OnByte;
  runs = runs_from 0 (set_bytes code.bytes code.is_set);
  fixes = code.fixes;
}

-- the bytes where targets have these addresses
abbrev pub resolved : (address_of : Target → ℕ) → Assembled → List (Option ℕ)
resolved address_of code = bytes_resolved address_of (places_of code)

-- the target that a reference counts from: the code for a label, and none for a number
abbrev pub target_of : Reference → Option Target
target_of (AtLabel label) = Some (InSegment Code)
target_of (AtTarget target offset) = Some target
target_of (AtNumber number) = None

-- the fix of a word that counts from a target
abbrev pub fix_at : (offset : ℕ) → Target → Fix
fix_at offset target = record { kind = Both; target = target; offset = offset }

-- the fix of a word, if it counts from a target, before others
abbrev pub with_fix : (offset : ℕ) → Option Target → List Fix → List Fix
with_fix offset None others = others
with_fix offset (Some target) others = fix_at offset target ∷ others

-- the fixes of items from an offset on: each word that counts from a target has one
abbrev pub fixes_of_items : (offset : ℕ) → List Item → List Fix
fixes_of_items offset [] = []
fixes_of_items offset (WithWord form reference ∷ others) =
    with_fix (offset + 1) (target_of reference) (fixes_of_items (offset + 3) others)
fixes_of_items offset (Address reference ∷ others) =
    with_fix offset (target_of reference) (fixes_of_items (offset + 2) others)
fixes_of_items offset (item ∷ others) = fixes_of_items (offset + size_of item) others

-- the labels of items that begin at an address
abbrev pub layout_at : (address_of : Target → ℕ) → Assembly → Layout
layout_at address_of assembly = record {
  place_of = λ label. address_of (InSegment Code) + unwrap_or (offset_of label assembly.items) 0;
  address_of = address_of;
}

-- What code that was assembled keeps to: it has no more bytes than a segment, of each byte it says whether it
-- is set, no fix begins before the one before it ends, and each ends within the bytes.
pub record FitsSegment (code : Assembled) : Type 0 where
  pub few : length code.bytes ≤ SEGMENT_LIMIT
  pub told : length code.is_set ≡ length code.bytes
  pub ascending : IsTrue (fixes_ascend code.fixes)
  pub within : IsTrue (list_all (λ (fix : Fix). nat_le (fix_end fix) (length code.bytes)) code.fixes)

-- A segment whose bytes, resolved anywhere in memory, are the code.
pub record Assembles (assembly : Assembly) (code : Assembled) : Type 0 where
  -- it has as many bytes as the items take
  pub size : length code.bytes ≡ size_of_items assembly.items
  -- of each byte it says whether it is set: those of gaps are not, and all others are
  pub set : code.is_set ≡ flags_of_items assembly.items
  -- each word that counts from a target has a fix, and nothing else has one
  pub fixes : code.fixes ≡ fixes_of_items 0 assembly.items
  -- no fix begins before the one before it ends
  pub ascending : IsTrue (fixes_ascend code.fixes)
  -- each fix ends within the bytes
  pub within : IsTrue (list_all (λ (fix : Fix). nat_le (fix_end fix) (length code.bytes)) code.fixes)
  -- and all its bytes are set
  pub filled : IsTrue (list_all (is_in_a_run Code (segment_of code).runs) code.fixes)
  -- no fix begins at the second byte of a word
  pub whole : IsTrue (words_are_whole (places_of code))
  -- an object module with the external names that the items refer to may have the targets of the fixes
  pub targets :
      (external_count : ℕ)
      → All (ListsExternals external_count) assembly.items
      → IsTrue (list_all (λ (fix : Fix). is_target external_count fix.target) code.fixes)
  -- each label lies where it is bound
  pub places :
      (label : ℕ) → label < assembly.labels → offset_of label assembly.items ≡ Some (place_of code label)
  -- and if the set bytes stand anywhere, resolved there, the items stand there
  pub stands :
      (address_of : Target → ℕ) (memory : List ℕ)
      → address_of (InSegment Code) + length code.bytes ≤ MEMORY_SIZE
      → SetBytesStand memory (address_of (InSegment Code)) (resolved address_of code)
      → Stands
      (layout_at address_of assembly)
      memory
      assembly.items
      (address_of (InSegment Code))
      (address_of (InSegment Code) + length code.bytes)

-- each of the labels below a number is bound
abbrev pub AllBound : Assembly → Type 0
AllBound assembly = (label : ℕ) → nat_lt label assembly.labels ≡ true → IsTrue (is_bound label assembly.items)

-- the code, or its fault: a label that is not bound, or else too many bytes
abbrev pub IsFinished : Assembly → Result Assembled Fault → Type 0
IsFinished assembly (Ok code) =
    AllBound assembly × (size_of_items assembly.items ≤ SEGMENT_LIMIT) × Assembles assembly code
IsFinished assembly (Err UnboundLabel) = AllBound assembly → ⊥
IsFinished assembly (Err TooLong) = AllBound assembly × (SEGMENT_LIMIT + 1 ≤ size_of_items assembly.items)
