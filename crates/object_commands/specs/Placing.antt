-- What is printed of an object file that is placed in memory.
use Rattle.std.specs.Prelude.{◌≡◌, ◌⊎◌, ℕ, ◌/◌, ◌%◌, Bool, ◌||◌, List, [], ◌∷◌, ◌++◌, codes, Option, None, Some}
use Rattle.std.specs.Fmt.{decimal}
use Rattle.std.specs.Io.KnownBytes.{Appends, Keeps}
use Rattle.std.specs.List.{flat_map}
use Rattle.host.specs.Writing.{AppendsBeginning}
use Rattle.host.specs.Files.{Directory, HasFile}
use Rattle.hex80.specs.Lines.{digits_of}
use Rattle.hex80.specs.Texts.{BeginsText, WritesText}
use Rattle.isa8080.specs.Code.{bytes_of}
use Rattle.isa8080.specs.declared.instr.Instr.TheVariants.{Jmp}
use Rattle.locate.specs.Locating.{Absolute, IsPlaced, plan_view}
use Rattle.mem80.specs.Range.{ranges_meet}
use Rattle.mem80.specs.declared.plan.Plan.{Plan}
use Rattle.mem80.specs.declared.range.Piece.{Piece}
use Rattle.mem80.specs.declared.range.Range.{Range}
use Rattle.omf80.specs.Records.{first_that_holds}
use Rattle.object_modules.specs.declared.segment.Segment.TheVariants.{Code, Data}
use Rattle.object_modules.specs.Image.{PlacementRefusal, PassesMemory, SegmentsMeet, Symbol, code_range}
use Rattle.object_modules.specs.Image.{data_range, passes_memory, range_at, stack_range}
use Rattle.object_modules.specs.Module.{ObjectModule, length_of}
use Rattle.object_modules.specs.Spelling.{Spells}

-- an address as four upper-case hexadecimal digits
abbrev pub address_digits : ℕ → List ℕ
address_digits address = digits_of (address / 256) ++ digits_of (address % 256)

-- the line of a range: a word, the address where it begins and how many bytes it has, with spaces (32) between
-- them and a line feed (10) at the end
abbrev pub range_line : List ℕ → (address size : ℕ) → List ℕ
range_line word address size = word ++ 32 ∷ address_digits address ++ 32 ∷ decimal size ++ 10 ∷ []

abbrev pub start_line : (address : ℕ) → List ℕ
start_line address = codes "START " ++ address_digits address ++ 10 ∷ []

-- the line of a public name
abbrev pub symbol_line : Symbol → List ℕ
symbol_line symbol = codes "PUBLIC " ++ symbol.name ++ 32 ∷ address_digits symbol.address ++ 10 ∷ []

-- where the parts of a module lie that is placed by a plan, where it starts, and where its public names lie
abbrev pub places_text : Plan → ObjectModule → Absolute → List ℕ
places_text plan object absolute =
    range_line (codes "CODE") plan.code (length_of object Code)
    ++ range_line (codes "DATA") plan.data_base (length_of object Data)
    ++ range_line (codes "STACK") plan.stack plan.stack_size
    ++ start_line absolute.start
    ++ flat_map symbol_line absolute.symbols

-- bytes spell a module, which is placed by the plan
pub record PlacesBytes (bytes : List ℕ) (plan : Plan) (object : ObjectModule) (absolute : Absolute) : Type 0 where
  pub spelled : Spells bytes object
  pub placed : IsPlaced (plan_view plan) object absolute

-- the file of this name spells a module, which is placed by the plan
pub record PlacesFile (files : Option Directory) (name : List ℕ) (plan : Plan)
    (object : ObjectModule) (absolute : Absolute) : Type 0 where
  pub bytes : List ℕ
  pub read : HasFile files name bytes
  pub spelled : Spells bytes object
  pub placed : IsPlaced (plan_view plan) object absolute

-- the lines of the placed module were written
pub record PrintsPlaces (files : Option Directory) (name : List ℕ) (plan : Plan)
    (old new : Option (List ℕ)) : Type 0 where
  pub object : ObjectModule
  pub absolute : Absolute
  pub of_file : PlacesFile files name plan object absolute
  pub printed : Appends old new (places_text plan object absolute)

-- a beginning of the lines of the placed module was written
pub record BeginsPlaces (files : Option Directory) (name : List ℕ) (plan : Plan)
    (old new : Option (List ℕ)) : Type 0 where
  pub object : ObjectModule
  pub absolute : Absolute
  pub of_file : PlacesFile files name plan object absolute
  pub printed : AppendsBeginning old new (places_text plan object absolute)

-- the bytes of a jump to where a module starts
abbrev pub jump_piece : (address start : ℕ) → Piece
jump_piece address start = record { start = address; bytes = bytes_of (Jmp start) }

-- the pieces of a placed module, after that of a jump at an address to its start, where one is wanted
abbrev pub pieces_with : (jump : Option ℕ) → Absolute → List Piece
pieces_with None absolute = absolute.pieces
pieces_with (Some address) absolute = jump_piece address absolute.start ∷ absolute.pieces

-- the addresses of a jump
abbrev pub jump_range : (address : ℕ) → Range
jump_range address = range_at address 3

-- a jump has an address in common with the code, the data or the stack of a module at a plan
abbrev pub jump_meets : Plan → ObjectModule → (address : ℕ) → Bool
jump_meets plan object address =
    ranges_meet (jump_range address) (code_range (plan_view plan) object)
    || ranges_meet (jump_range address) (data_range (plan_view plan) object)
    || ranges_meet (jump_range address) (stack_range (plan_view plan))

-- What can be wrong with a jump beside a module that is placed by a plan, in the order in which it is judged.
abbrev pub jump_refusals : Plan → ObjectModule → (address : ℕ) → List (Bool × PlacementRefusal)
jump_refusals plan object address =
    (passes_memory (jump_range address), PassesMemory)
    ∷ (jump_meets plan object address, SegmentsMeet)
    ∷ []

-- why there is no room for a jump, where one is wanted
abbrev pub jump_refusal : Plan → ObjectModule → (jump : Option ℕ) → Option PlacementRefusal
jump_refusal plan object None = None
jump_refusal plan object (Some address) = first_that_holds (jump_refusals plan object address)

-- the text of the pieces of the placed module was written, with a jump to its start, for which there is room, where
-- one is wanted
pub record PrintsHex (files : Option Directory) (name : List ℕ) (plan : Plan) (jump : Option ℕ)
    (old new : Option (List ℕ)) : Type 0 where
  pub object : ObjectModule
  pub absolute : Absolute
  pub of_file : PlacesFile files name plan object absolute
  pub room : jump_refusal plan object jump ≡ None
  pub printed : WritesText (pieces_with jump absolute) old new

-- a beginning of that text was written
pub record BeginsHex (files : Option Directory) (name : List ℕ) (plan : Plan) (jump : Option ℕ)
    (old new : Option (List ℕ)) : Type 0 where
  pub object : ObjectModule
  pub absolute : Absolute
  pub of_file : PlacesFile files name plan object absolute
  pub room : jump_refusal plan object jump ≡ None
  pub printed : BeginsText (pieces_with jump absolute) old new

-- what was not printed whole: nothing was written, or a beginning of the lines, or of the text
abbrev pub StopsPlaces :
    (files : Option Directory) → (name : List ℕ) → Plan → (old new : Option (List ℕ)) → Type 0
StopsPlaces files name plan old new = Keeps old new ⊎ BeginsPlaces files name plan old new

abbrev pub StopsHex :
    (files : Option Directory) → (name : List ℕ) → Plan → (jump : Option ℕ)
    → (old new : Option (List ℕ)) → Type 0
StopsHex files name plan jump old new = Keeps old new ⊎ BeginsHex files name plan jump old new
