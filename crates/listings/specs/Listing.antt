-- The listing of a module: the lines of its source, each with the code of what begins there. Which line that is no
-- definition says.
use Rattle.std.specs.Prelude.{◌≡◌, ◌⊎◌, ℕ, zero, suc, ◌+◌, ◌-◌, ◌%◌, ◌<◌, ◌≤◌, ◌==◌, Bool, true, false, ◌&&◌, ◌||◌, nat_lt, if◌then◌else◌, cond}
use Rattle.std.specs.Prelude.{List, [], ◌∷◌, ◌++◌, codes, length, replicate, take, slice_get, All, filter, flat_map, Option, Some, None, option_and_then}
use Rattle.std.specs.Option.{option_or}
use Rattle.std.specs.Fmt.{decimal}
use Rattle.isa8080.specs.Code.{bytes_of}
use Rattle.isa8080.specs.Text.{byte_digits, text_of}
use Rattle.isa8080.specs.declared.instr.Instr.{Instr}
use Rattle.isa8080.specs.declared.instr.Instr.TheVariants.{Lxi, Shld, Lhld, Sta, Lda, JumpIf, CallIf, Jmp, Call}
use Rattle.mem80.specs.declared.memory.TheConstants.{MEMORY_SIZE}
use Rattle.mem80.specs.declared.range.Piece.{Piece}
use Rattle.mem80.specs.declared.range.Range.{Range}
use Rattle.object_commands.specs.Listing.{part_line}
use Rattle.object_commands.specs.Placing.{range_line}
use Rattle.object_modules.specs.Image.{Symbol}
use Rattle.object_modules.specs.Module.{is_both}
use Rattle.object_modules.specs.declared.segment.Fix.{Fix}
use Rattle.object_modules.specs.declared.segment.Segment.TheVariants.{Code, Data}
use Rattle.object_modules.specs.declared.segment.Target.{Target}
use Rattle.object_modules.specs.declared.segment.Target.TheVariants.{InSegment, External}
use Rattle.listings.specs.Names.{symbol_at}

-- what is shown of an address: the bytes from there on, and a text
pub record Part : Type 0 where
  pub address : ℕ
  pub bytes : List ℕ
  pub text : List ℕ

-- bytes with their addresses, from one on
abbrev pub cells_from : (address : ℕ) → List ℕ → List (ℕ × ℕ)
cells_from address [] = []
cells_from address (byte ∷ bytes) = (address, byte) ∷ cells_from (address + 1) bytes

abbrev pub cells_of : Part → List (ℕ × ℕ)
cells_of part = cells_from part.address part.bytes

-- the byte of a piece at an address, if it has one there
abbrev pub byte_of_piece : Piece → (address : ℕ) → Option ℕ
byte_of_piece piece address =
    if nat_lt address piece.start then None else slice_get piece.bytes (address - piece.start)

-- the byte of pieces at an address, if one of them has one there
abbrev pub byte_among : List Piece → (address : ℕ) → Option ℕ
byte_among [] address = None
byte_among (piece ∷ pieces) address = option_or (byte_of_piece piece address) (byte_among pieces address)

-- the byte of an image at an address of the memory, if it has one there
unfoldable pub byte_in : List Piece → (address : ℕ) → Option ℕ
byte_in pieces address = if nat_lt address MEMORY_SIZE then byte_among pieces address else None

-- `count` bytes of an image from an address on, as far as they are there, with their addresses
abbrev pub cell_of : (address : ℕ) → Option ℕ → List (ℕ × ℕ)
cell_of address None = []
cell_of address (Some byte) = (address, byte) ∷ []

abbrev pub cells_in : List Piece → (address count : ℕ) → List (ℕ × ℕ)
cells_in pieces address zero = []
cells_in pieces address (suc count) =
    cell_of address (byte_in pieces address) ++ cells_in pieces (address + 1) count

-- the word that an instruction ends in, if it does
abbrev pub word_of : Instr → Option ℕ
word_of (Lxi pair word) = Some word
word_of (Shld word) = Some word
word_of (Lhld word) = Some word
word_of (Sta word) = Some word
word_of (Lda word) = Some word
word_of (JumpIf condition word) = Some word
word_of (CallIf condition word) = Some word
word_of (Jmp word) = Some word
word_of (Call word) = Some word
word_of i = None

-- the text of an instruction, with a name in place of the four digits of its word
abbrev pub named_text : Instr → (name : List ℕ) → List ℕ
named_text i name = take (length (text_of i) - 4) (text_of i) ++ name

-- the text of an instruction, with the name of its word, if that has one
abbrev pub text_by : Instr → Option Symbol → List ℕ
text_by i None = text_of i
text_by i (Some symbol) = named_text i symbol.name

-- A number stays a number: the name stands where the word is an address, and only there.
abbrev pub instr_text : (name_at : ℕ → Option Symbol) → (is_address : Bool) → Instr → List ℕ
instr_text name_at false i = text_of i
instr_text name_at true i = text_by i (option_and_then name_at (word_of i))

-- whether something at a target may have a name: code, data, or what an EXTERNAL name stands for, and not the stack
abbrev pub has_names : Target → Bool
has_names (InSegment Code) = true
has_names (InSegment Data) = true
has_names (InSegment segment) = false
has_names (External number) = true

-- whether the word at a place of a segment with these fixes is an address: a fix of both its bytes begins there
abbrev pub is_address_at : List Fix → (place : ℕ) → Bool
is_address_at [] place = false
is_address_at (fix ∷ fixes) place =
    if fix.offset == place then is_both fix.kind && has_names fix.target else is_address_at fixes place

-- A part shows the bytes that encode an instruction, with its text, where the first one is at a place of a segment with
-- these fixes; or one byte, with DB and that byte.
pub record ShowsInstruction (name_at : ℕ → Option Symbol) (fixes : List Fix) (place : ℕ) (part : Part) : Type 0 where
  pub i : Instr
  pub bytes_are : part.bytes ≡ bytes_of i
  pub text_is : part.text ≡ instr_text name_at (is_address_at fixes (place + 1)) i

pub record ShowsByte (part : Part) : Type 0 where
  pub byte : ℕ
  pub bytes_are : part.bytes ≡ byte ∷ []
  pub text_is : part.text ≡ codes "DB " ++ byte_digits byte

-- these bytes lie in an image, one after another from an address on
abbrev pub AllThere : List Piece → (address : ℕ) → (bytes : List ℕ) → Type 0
AllThere pieces address [] = Unit {0}
AllThere pieces address (byte ∷ bytes) =
    (byte_in pieces address ≡ Some byte) × AllThere pieces (address + 1) bytes

-- an instruction lies at an address, in at most `room` bytes
pub record LiesAt (pieces : List Piece) (address room : ℕ) (i : Instr) : Type 0 where
  pub there : AllThere pieces address (bytes_of i)
  pub within : length (bytes_of i) ≤ room

-- No instruction is shown of an address of code that begins after its constants at one address, and ends before another:
-- the address is that of a constant, or no instruction lies there.
abbrev pub IsNoCodeAt : List Piece → (begin end address : ℕ) → Type 0
IsNoCodeAt pieces begin end address =
    (address < begin) ⊎ ((i : Instr) → ¬ LiesAt pieces address (end - address) i)

-- a part of the code of a segment with these fixes, from a start on, shows an instruction if one is shown of its address,
-- and else a byte
abbrev pub IsShown :
    (name_at : ℕ → Option Symbol) → List Piece → List Fix → (start begin end : ℕ) → Part → Type 0
IsShown name_at pieces fixes start begin end part =
    ((begin ≤ part.address) × ShowsInstruction name_at fixes (part.address - start) part)
    ⊎ (IsNoCodeAt pieces begin end part.address × ShowsByte part)

-- the room before what is printed below a line: six spaces (32)
abbrev pub margin : List ℕ
margin = replicate 6 32

-- the name of an address, on a line of its own with a colon (58)
abbrev pub name_line : Option Symbol → List ℕ
name_line None = []
name_line (Some symbol) = margin ++ symbol.name ++ 58 ∷ 10 ∷ []

-- the lines of a part
abbrev pub part_lines : (name_at : ℕ → Option Symbol) → Part → List ℕ
part_lines name_at part =
    name_line (name_at part.address) ++ margin ++ part_line part.address part.bytes part.text

-- the lines of a text, each without the line feed (10) that ends it; none comes after the last line feed
abbrev pub before_lines : ℕ → List (List ℕ) → List (List ℕ)
before_lines c [] = (c ∷ []) ∷ []
before_lines c (line ∷ lines) = (c ∷ line) ∷ lines

abbrev pub lines_of : List ℕ → List (List ℕ)
lines_of [] = []
lines_of (c ∷ text) = cond (c == 10) ([] ∷ lines_of text) (before_lines c (lines_of text))

-- a line after its number, which ends in the fifth column, and a space
abbrev pub numbered_line : (number : ℕ) → (line : List ℕ) → List ℕ
numbered_line number line =
    replicate (5 - length (decimal number)) 32 ++ decimal number ++ 32 ∷ line ++ 10 ∷ []

-- The parts, each with the number of a line, that stand below the line of this number; and those that stand below none
-- of the lines 1 to `count`.
abbrev pub parts_in : (number : ℕ) → List (ℕ × Part) → List (ℕ × Part)
parts_in number parts = filter (λ (part : ℕ × Part). part.0 == number) parts

abbrev pub parts_beside : (count : ℕ) → List (ℕ × Part) → List (ℕ × Part)
parts_beside count parts = filter (λ (part : ℕ × Part). (part.0 == 0) || nat_lt count part.0) parts

-- the lines of parts
abbrev pub parts_text : (name_at : ℕ → Option Symbol) → List (ℕ × Part) → List ℕ
parts_text name_at parts = flat_map (λ (part : ℕ × Part). part_lines name_at part.1) parts

-- lines, numbered from one on, each with the parts that stand below it
abbrev pub listed_from :
    (number : ℕ) → (name_at : ℕ → Option Symbol) → (lines : List (List ℕ)) → List (ℕ × Part) → List ℕ
listed_from number name_at [] parts = []
listed_from number name_at (line ∷ lines) parts =
    numbered_line number line
    ++ parts_text name_at (parts_in number parts)
    ++ listed_from (number + 1) name_at lines parts

-- where the code and the data of a module lie; what has no bytes may begin just past the memory, which is printed as 0
abbrev pub sizes_text : (name : List ℕ) → (code data_range : Range) → List ℕ
sizes_text name code data_range =
    range_line (codes "CODE " ++ name) (code.start % MEMORY_SIZE) code.len
    ++ range_line (codes "DATA " ++ name) (data_range.start % MEMORY_SIZE) data_range.len

-- A module whose segments lie in these ranges is listed as this text: its lines, each with parts of its code; the
-- parts of its code that stand below no line; its data, byte by byte; and where its segments lie. The parts are the bytes
-- of the image in these ranges, in order, each once. The code begins with `constants` bytes of constants, which stand
-- below no line and are shown byte by byte; the rest is shown as the instructions that it encodes, one after another.
-- The first name of an address stands on a line before what begins there, and in place of each word that is the address.
pub record ListsModule (names : List Symbol) (pieces : List Piece) (code : Range) (constants : ℕ) (fixes : List Fix)
    (data_range : Range) (name source text : List ℕ) : Type 0 where
  pub code_parts : List (ℕ × Part)
  pub data_parts : List (ℕ × Part)
  pub code_is :
      flat_map (λ (part : ℕ × Part). cells_of part.1) code_parts ≡ cells_in pieces code.start code.len
  pub data_is :
      flat_map (λ (part : ℕ × Part). cells_of part.1) data_parts
      ≡ cells_in pieces data_range.start data_range.len
  pub code_shown :
      All
      (λ (part : ℕ × Part). IsShown (symbol_at names) pieces fixes code.start (code.start + constants)
      (code.start + code.len) part.1)
      code_parts
  pub constants_beside :
      All (λ (part : ℕ × Part). part.1.address < code.start + constants → part.0 ≡ 0) code_parts
  pub data_shown : All (λ (part : ℕ × Part). ShowsByte part.1) data_parts
  pub text_is : text
      ≡ listed_from 1 (symbol_at names) (lines_of source) code_parts
      ++ parts_text (symbol_at names) (parts_beside (length (lines_of source)) code_parts)
      ++ parts_text (symbol_at names) data_parts
      ++ sizes_text name code data_range
