-- Where a joined program lies in memory.
use Rattle.std.specs.Prelude.{◌≡◌, ℕ, ◌+◌, ◌%◌, ◌≤◌, Bool, true, false, ◌&&◌, nat_le, nat_lt, List, ◌++◌, length, map, filter_map, flat_map, zip, Any, filter, Option, Some, None, option_map, slice_index}
use Rattle.std.specs.List.{list_any}
use Rattle.mem80.specs.declared.memory.TheConstants.{MEMORY_SIZE}
use Rattle.mem80.specs.declared.range.Range.{Range}
use Rattle.mem80.specs.Memory.{byte_at}
use Rattle.mem80.specs.Range.{IsIn}
use Rattle.typed_trees.specs.declared.parts.AtAddress.TheVariants.{AtNumber, AtObject}
use Rattle.typed_trees.specs.declared.parts.AtAddress.{AtAddress}
use Rattle.typed_trees.specs.TypedTrees.{Home, InData, InConstants, Placed, TypedObject, TypedModule}
use Rattle.typed_trees.specs.Sizes.{size_of_object}

-- where the objects and the constant lists of a module lie, by their numbers; for an object that has no
-- storage and no AT place the address says nothing
pub record ModulePlacement : Type 0 where
  pub objects : List ℕ
  pub lists : List ℕ

pub record Placement : Type 0 where
  pub modules : List ModulePlacement
  pub code : Range
  pub stack : Range

-- a placed piece: a static object, an object with DATA or a constant list, or an object with AT
pub data PieceKind : Type 0 where
  StaticPiece : PieceKind
  ConstantPiece : PieceKind
  AtPiece : PieceKind

pub record PlacedPiece : Type 0 where
  pub kind : PieceKind
  pub range : Range

abbrev pub range_of : (start len : ℕ) → Range
range_of start len = record { start = start; len = len }

abbrev pub EndsInMemory : Range → Type 0
EndsInMemory range = range.start + range.len ≤ MEMORY_SIZE

-- The address that AT gives, with these addresses of the objects of the module: a number, or an offset from the
-- start of another object, modulo the size of memory.
abbrev pub address_at : (addresses : List ℕ) → AtAddress → ℕ
address_at addresses (AtNumber address) = address
address_at addresses (AtObject object offset) = (slice_index addresses object + offset) % MEMORY_SIZE

abbrev pub kind_of : Home → Option PieceKind
kind_of (InData values) = Some StaticPiece
kind_of (InConstants values) = Some ConstantPiece
kind_of (Placed address) = Some AtPiece
kind_of home = None

abbrev pub piece_of : (address : ℕ) → TypedObject → PieceKind → PlacedPiece
piece_of address object kind = record { kind = kind; range = range_of address (size_of_object object) }

abbrev pub object_piece : TypedObject × ℕ → Option PlacedPiece
object_piece placed = option_map (piece_of placed.1 placed.0) (kind_of (placed.0).home)

abbrev pub list_piece : List ℕ × ℕ → PlacedPiece
list_piece placed = record { kind = ConstantPiece; range = range_of placed.1 (length placed.0) }

abbrev pub pieces_of_module : TypedModule × ModulePlacement → List PlacedPiece
pieces_of_module placed =
    filter_map object_piece (zip (placed.0).objects (placed.1).objects)
    ++ map list_piece (zip (placed.0).constants.lists (placed.1).lists)

-- all pieces of a program
abbrev pub pieces_of : List TypedModule → Placement → List PlacedPiece
pieces_of modules placement = flat_map pieces_of_module (zip modules placement.modules)

abbrev pub is_constant_piece : PlacedPiece → Bool
is_constant_piece piece = is_constant_kind piece.kind
  where
    is_constant_kind : PieceKind → Bool
    is_constant_kind StaticPiece = false
    is_constant_kind ConstantPiece = true
    is_constant_kind AtPiece = false

-- whether a piece has a place of its own, which it shares with no other
abbrev pub has_own_place : PlacedPiece → Bool
has_own_place piece = is_own_kind piece.kind
  where
    is_own_kind : PieceKind → Bool
    is_own_kind StaticPiece = true
    is_own_kind ConstantPiece = true
    is_own_kind AtPiece = false

-- the pieces with a place of their own, and the constants among them
abbrev pub own_pieces : List TypedModule → Placement → List PlacedPiece
own_pieces modules placement = filter has_own_place (pieces_of modules placement)

abbrev pub constant_pieces : List TypedModule → Placement → List PlacedPiece
constant_pieces modules placement = filter is_constant_piece (pieces_of modules placement)

-- a byte is declared if a placed piece has it, and it is a constant if an object with DATA or
-- a constant list has it
abbrev pub IsOneOf : List PlacedPiece → (address : ℕ) → Type 0
IsOneOf pieces address = Any (λ (piece : PlacedPiece). IsIn address piece.range) pieces

abbrev pub IsDeclared : List TypedModule → Placement → (address : ℕ) → Type 0
IsDeclared modules placement address = IsOneOf (pieces_of modules placement) address

abbrev pub IsConstant : List TypedModule → Placement → (address : ℕ) → Type 0
IsConstant modules placement address = IsOneOf (constant_pieces modules placement) address

-- the same as tests
abbrev pub holds_byte : (address : ℕ) → PlacedPiece → Bool
holds_byte address piece =
    nat_le piece.range.start address && nat_lt address (piece.range.start + piece.range.len)

abbrev pub is_declared : List TypedModule → Placement → (address : ℕ) → Bool
is_declared modules placement address = list_any (holds_byte address) (pieces_of modules placement)

abbrev pub is_constant : List TypedModule → Placement → (address : ℕ) → Bool
is_constant modules placement address = list_any (holds_byte address) (constant_pieces modules placement)

-- a declared byte that is not a constant may be written
pub record IsWritable (modules : List TypedModule) (placement : Placement) (address : ℕ) : Type 0 where
  pub declared : IsDeclared modules placement address
  pub variable : ¬ IsConstant modules placement address

-- two memories have the same declared bytes
abbrev pub AgreesOnDeclared : List TypedModule → Placement → (one other : List ℕ) → Type 0
AgreesOnDeclared modules placement one other =
    (address : ℕ) → IsDeclared modules placement address → byte_at other address ≡ byte_at one address
