-- Lawful placements of a joined program. That the elements of an array and the members of a structure follow
-- each other is not said here: an object is one piece, and `typed_trees` says where its parts begin in it.
use Rattle.std.specs.Prelude.{◌≡◌, ℕ, List, length, zip, All, AllPairs}
use Rattle.mem80.specs.declared.range.Range.{Range}
use Rattle.mem80.specs.Range.{IsIn, Meets}
use Rattle.typed_trees.specs.TypedTrees.{Home, Placed, TypedObject, TypedModule}
use Rattle.layout.specs.Placement.{ModulePlacement, Placement, EndsInMemory, address_at, PlacedPiece, pieces_of, own_pieces, constant_pieces, IsWritable}

-- an address for each object and each constant list of a module, and that for each module
pub record HasAddresses (placed : TypedModule × ModulePlacement) : Type 0 where
  pub objects : length (placed.1).objects ≡ length (placed.0).objects
  pub lists : length (placed.1).lists ≡ length (placed.0).constants.lists

-- an object with AT lies where that says
abbrev pub LiesByHome : ModulePlacement → (address : ℕ) → Home → Type 0
LiesByHome placed address (Placed at) = address ≡ address_at placed.objects at
LiesByHome placed address home = Unit {0}

abbrev pub LiesWhereAtSays : TypedModule × ModulePlacement → Type 0
LiesWhereAtSays placed =
    All (λ (object : TypedObject × ℕ). LiesByHome placed.1 object.1 (object.0).home)
    (zip (placed.0).objects (placed.1).objects)

-- Each byte of something lies in a range. This says nothing of a list without bytes, which has the address
-- where the next thing begins.
abbrev pub LiesIn : (outer : Range) → PlacedPiece → Type 0
LiesIn outer piece = (address : ℕ) → IsIn address piece.range → IsIn address outer

-- two pieces have no byte in common
abbrev pub AreDisjoint : PlacedPiece → PlacedPiece → Type 0
AreDisjoint left right = ¬ Meets left.range right.range

-- a placement that a program can run at
pub record IsLawful (modules : List TypedModule) (placement : Placement) : Type 0 where
  pub for_each_module : length placement.modules ≡ length modules
  pub complete : All HasAddresses (zip modules placement.modules)
  pub in_memory : All (λ (piece : PlacedPiece). EndsInMemory piece.range) (pieces_of modules placement)
  pub code_in_memory : EndsInMemory placement.code
  pub stack_in_memory : EndsInMemory placement.stack
  pub disjoint : AllPairs AreDisjoint (own_pieces modules placement)
  pub where_at_says : All LiesWhereAtSays (zip modules placement.modules)
  pub constants_in_code : All (LiesIn placement.code) (constant_pieces modules placement)
  pub code_apart_from_stack : ¬ Meets placement.code placement.stack
  pub not_in_code : (address : ℕ) → IsWritable modules placement address → ¬ IsIn address placement.code
  pub not_in_stack : (address : ℕ) → IsWritable modules placement address → ¬ IsIn address placement.stack
