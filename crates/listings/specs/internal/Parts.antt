-- Parts as the code keeps them, and what they are shown as.
use Rattle.std.specs.Prelude.{◌≡◌, ℕ, ◌+◌, ◌-◌, ◌<◌, ◌≤◌, min, Bool, cond, List, [], ◌∷◌, ◌++◌, codes, flat_map, take, slice_index, Option, Some, None}
use Rattle.std.specs.List.{AllByRecursion}
use Rattle.isa8080.specs.Code.{bytes_of}
use Rattle.isa8080.specs.Text.{byte_digits}
use Rattle.isa8080.specs.declared.instr.Instr.{Instr}
use Rattle.mem80.specs.declared.range.Piece.{Piece}
use Rattle.object_modules.specs.Image.{Symbol}
use Rattle.object_modules.specs.declared.segment.Fix.{Fix}
use Rattle.listings.specs.Listing.{IsNoCodeAt, Part as ShownPart, cells_from, cells_in, instr_text, is_address_at, part_lines}
use Rattle.listings.specs.declared.image.Coded.{Coded}
use Rattle.listings.specs.declared.parts.CodeSegment.{CodeSegment}
use Rattle.listings.specs.declared.parts.Part.{Part}
use Rattle.listings.specs.internal.Reading.{IsCodedAt}

-- the bytes that a part shows, and these with their addresses
abbrev pub bytes_shown : Part → List ℕ
bytes_shown part = take (min part.size 3) part.bytes

abbrev pub kept_cells : Part → List (ℕ × ℕ)
kept_cells part = cells_from part.address (bytes_shown part)

-- the text of a part
abbrev pub text_for : (name_at : ℕ → Option Symbol) → Part → Option Instr → List ℕ
text_for name_at part None = codes "DB " ++ byte_digits (slice_index part.bytes 0)
text_for name_at part (Some i) = instr_text name_at part.is_address i

-- what a part is shown as, with the number of its line
abbrev pub part_view : (name_at : ℕ → Option Symbol) → Part → ShownPart
part_view name_at part =
    record { address = part.address; bytes = bytes_shown part; text = text_for name_at part part.instr }

abbrev pub lined : (name_at : ℕ → Option Symbol) → Part → ℕ × ShownPart
lined name_at part = (part.line, part_view name_at part)

-- a part shows the bytes of its instruction, or one byte
abbrev pub IsGoodBy : Option Instr → Part → Type 0
IsGoodBy None part = bytes_shown part ≡ slice_index part.bytes 0 ∷ []
IsGoodBy (Some i) part = bytes_shown part ≡ bytes_of i

abbrev pub IsGood : Part → Type 0
IsGood part = IsGoodBy part.instr part

-- a part shows one byte, and stands below no line
pub record IsLone (part : Part) : Type 0 where
  pub good : IsGood part
  pub line : part.line ≡ 0
  pub instr : part.instr ≡ None

-- a part shows the byte of an address, and stands below a line
pub record IsByteAt (line address : ℕ) (part : Part) : Type 0 where
  pub good : IsGood part
  pub line_is : part.line ≡ line
  pub instr : part.instr ≡ None
  pub at_is : part.address ≡ address
  pub word : part.address < 65536

-- no instruction is shown of an offset of a code segment
abbrev pub IsNoCode : List Piece → CodeSegment → (offset : ℕ) → Type 0
IsNoCode pieces segment offset =
    IsNoCodeAt pieces (segment.start + segment.constants) (segment.start + segment.length) (segment.start + offset)

-- an instruction is shown of it
pub record IsCodeIn (pieces : List Piece) (segment : CodeSegment) (offset : ℕ) (code : Coded) : Type 0 where
  pub coded : IsCodedAt pieces (segment.start + offset) code
  pub fits : code.size ≤ segment.length - offset
  pub past : segment.constants ≤ offset

-- A part of code that begins after its constants at one address, and ends before another, shows an instruction, or a byte
-- where no instruction is shown.
abbrev pub IsKindBy : Option Instr → List Piece → (begin end address : ℕ) → Type 0
IsKindBy (Some i) pieces begin end address = begin ≤ address
IsKindBy None pieces begin end address = IsNoCodeAt pieces begin end address

-- The word of an instruction is shown with its name, if it has one, just where a fix of these says that it is an address.
abbrev pub IsNamedBy : Option Instr → (is_address : Bool) → List Fix → (place : ℕ) → Type 0
IsNamedBy (Some i) is_address fixes place = is_address ≡ is_address_at fixes (place + 1)
IsNamedBy None is_address fixes place = Unit {0}

pub record IsCodePart (pieces : List Piece) (fixes : List Fix) (start begin end : ℕ) (part : Part) : Type 0 where
  pub good : IsGood part
  pub word : part.address < 65536
  pub kind : IsKindBy part.instr pieces begin end part.address
  pub named : IsNamedBy part.instr part.is_address fixes (part.address - start)
  pub beside : part.address < begin → part.line ≡ 0

-- a part of the code of a segment
abbrev pub IsPartOf : List Piece → CodeSegment → Part → Type 0
IsPartOf pieces segment part =
    IsCodePart pieces segment.fixes.now segment.start (segment.start + segment.constants)
    (segment.start + segment.length) part

-- how many places a part takes, if there is one, and its cells
abbrev pub room_of : Option Part → ℕ
room_of None = 1
room_of (Some part) = part.size

abbrev pub cells_if : Option Part → List (ℕ × ℕ)
cells_if None = []
cells_if (Some part) = kept_cells part

-- Of `room` places from an address on, the first ones are shown as a part, or no byte is in the first one.
pub record StepsOver (pieces : List Piece) (address room : ℕ) (part : Option Part) : Type 0 where
  pub cells : cells_if part ++ cells_in pieces (address + room_of part) (room - room_of part) ≡ cells_in pieces address room

-- Parts of a kind were added that show some places, where these others are left of all.
pub record IsAdding (P : Part → Type 0) (all left : List (ℕ × ℕ)) (old now : List Part) : Type 0 where
  pub added : List Part
  pub now_is : now ≡ old ++ added
  pub cells : flat_map kept_cells added ++ left ≡ all
  pub each : AllByRecursion P added

-- parts of a kind were added that show these places
pub record AddsParts (P : Part → Type 0) (cells : List (ℕ × ℕ)) (old new : List Part) : Type 0 where
  pub added : List Part
  pub new_is : new ≡ old ++ added
  pub cells_are : flat_map kept_cells added ≡ cells
  pub each : AllByRecursion P added

-- the lines of a part, or none
abbrev pub lines_if : Bool → (name_at : ℕ → Option Symbol) → ShownPart → List ℕ
lines_if shown name_at part = cond shown (part_lines name_at part) []
