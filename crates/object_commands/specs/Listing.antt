-- What is printed of an object file as a listing: the bytes of the placed module by rising addresses, with the
-- instructions that they encode.
use Rattle.std.specs.Prelude.{◌≡◌, ◌⊎◌, ℕ, ◌+◌, ◌-◌, ◌*◌, ◌<◌, ◌==◌, Bool, ◌&&◌, not, nat_le, nat_lt, if◌then◌else◌}
use Rattle.std.specs.Prelude.{List, [], ◌∷◌, ◌++◌, codes, drop, length, replicate, slice_index, take, Option, None, Some}
use Rattle.std.specs.Io.KnownBytes.{Appends, Keeps}
use Rattle.std.specs.List.{flat_map, list_any}
use Rattle.host.specs.Writing.{AppendsBeginning}
use Rattle.isa8080.specs.Code.{first_instruction}
use Rattle.isa8080.specs.Text.{byte_digits, text_of, word_digits}
use Rattle.isa8080.specs.declared.instr.Instr.{Instr}
use Rattle.locate.specs.Locating.{Absolute, plan_view}
use Rattle.mem80.specs.declared.plan.Plan.{Plan}
use Rattle.mem80.specs.declared.range.Piece.{Piece}
use Rattle.mem80.specs.declared.range.Range.{Range}
use Rattle.object_modules.specs.Image.{Symbol, code_range}
use Rattle.object_modules.specs.Module.{ObjectModule}
use Rattle.object_commands.specs.Placing.{PlacesBytes}

-- a public name that lies at this address, on a line of its own with a colon (58), and nothing of another
abbrev pub label_line : (address : ℕ) → Symbol → List ℕ
label_line address symbol = if symbol.address == address then symbol.name ++ 58 ∷ 10 ∷ [] else []

-- bytes with a space (32) after each, in the room of three
abbrev pub byte_column : List ℕ → List ℕ
byte_column bytes =
    flat_map (λ byte. byte_digits byte ++ 32 ∷ []) bytes ++ replicate (9 - 3 * length bytes) 32

-- what a line begins with: an address, and the bytes there
abbrev pub start_of : (address : ℕ) → (bytes : List ℕ) → List ℕ
start_of address bytes = word_digits address ++ 32 ∷ (byte_column bytes ++ 32 ∷ [])

-- a line: an address, the bytes there, and a text
abbrev pub part_line : (address : ℕ) → (bytes text : List ℕ) → List ℕ
part_line address bytes text = start_of address bytes ++ text ++ 10 ∷ []

-- a public name lies at one of the `size` addresses from `address` on, other than the first
abbrev pub is_named_within : List Symbol → (address size : ℕ) → Bool
is_named_within symbols address size =
    list_any (λ symbol. nat_lt address symbol.address && nat_lt symbol.address (address + size)) symbols

-- the first `size` of `count` bytes can be one instruction: they are there and in the code, and no name is within them
abbrev pub is_whole : List Symbol → (code : Range) → (address count size : ℕ) → Bool
is_whole symbols code address count size =
    nat_le size count && nat_le code.start address && nat_le (address + size) (code.start + code.len)
    && not (is_named_within symbols address size)

-- an instruction with its number of bytes, if that many bytes can be one instruction
abbrev pub if_whole :
    List Symbol → (code : Range) → (address count : ℕ) → Option (Instr × ℕ) → Option (Instr × ℕ)
if_whole symbols code address count None = None
if_whole symbols code address count (Some (i, size)) =
    if is_whole symbols code address count size then Some (i, size) else None

-- what the line at an address shows: an instruction, with its number of bytes, or none, and then one byte
unfoldable pub shown_at : List Symbol → (code : Range) → (address : ℕ) → (bytes : List ℕ) → Option (Instr × ℕ)
shown_at symbols code address bytes = if_whole symbols code address (length bytes) (first_instruction bytes)

-- how many bytes such a line shows
abbrev pub size_of : Option (Instr × ℕ) → ℕ
size_of None = 1
size_of (Some (i, size)) = size

-- the text of an instruction, or DB and the byte
abbrev pub shown_text : Option (Instr × ℕ) → (bytes : List ℕ) → List ℕ
shown_text None bytes = codes "DB " ++ byte_digits (slice_index bytes 0)
shown_text (Some (i, size)) bytes = text_of i

-- the lines of what begins at an address: the names there, and its bytes
unfoldable pub part_lines : List Symbol → (address : ℕ) → (bytes : List ℕ) → Option (Instr × ℕ) → List ℕ
part_lines symbols address bytes shown =
    flat_map (label_line address) symbols ++ part_line address (take (size_of shown) bytes) (shown_text shown bytes)

-- Bytes from an address on are listed as this text: what begins there, and then the bytes after it.
pub data IsListing (symbols : List Symbol) (code : Range) : (address : ℕ) → (bytes text : List ℕ) → Type 0 where
  ends : (address : ℕ) → IsListing symbols code address [] []
  begins : (address : ℕ) (bytes text : List ℕ) (shown : Option (Instr × ℕ))
      → 0 < length bytes
      → shown ≡ shown_at symbols code address bytes
      → IsListing symbols code (address + size_of shown) (drop (size_of shown) bytes) text
      → IsListing symbols code address bytes (part_lines symbols address bytes shown ++ text)

-- pieces are listed as this text, one after another
pub data AreListed (symbols : List Symbol) (code : Range) : (pieces : List Piece) → (text : List ℕ) → Type 0 where
  no_piece : AreListed symbols code [] []
  next_piece : (piece : Piece) (others : List Piece) (text more : List ℕ)
      → IsListing symbols code piece.start piece.bytes text
      → AreListed symbols code others more
      → AreListed symbols code (piece ∷ others) (text ++ more)

-- a placed module is listed as this text
abbrev pub ListsModule : Plan → ObjectModule → Absolute → (text : List ℕ) → Type 0
ListsModule plan object absolute text =
    AreListed absolute.symbols (code_range (plan_view plan) object) absolute.pieces text

-- the listing of the placed module that bytes spell was written
pub record PrintsListing (bytes : List ℕ) (plan : Plan) (old new : Option (List ℕ)) : Type 0 where
  pub object : ObjectModule
  pub absolute : Absolute
  pub of_bytes : PlacesBytes bytes plan object absolute
  pub text : List ℕ
  pub listed : ListsModule plan object absolute text
  pub printed : Appends old new text

-- a beginning of that was written
pub record BeginsListing (bytes : List ℕ) (plan : Plan) (old new : Option (List ℕ)) : Type 0 where
  pub object : ObjectModule
  pub absolute : Absolute
  pub of_bytes : PlacesBytes bytes plan object absolute
  pub text : List ℕ
  pub listed : ListsModule plan object absolute text
  pub printed : AppendsBeginning old new text

-- what was not printed whole: nothing was written, or a beginning
abbrev pub StopsListing : (bytes : List ℕ) → Plan → (old new : Option (List ℕ)) → Type 0
StopsListing bytes plan old new = Keeps old new ⊎ BeginsListing bytes plan old new
