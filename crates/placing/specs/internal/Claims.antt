-- The test of a placement: the bytes of memory are claimed one after another, in a table.
use Rattle.std.specs.Prelude.{ℕ, zero, suc, ◌+◌, ◌-◌, min, max, Bool, true, false, not, ◌&&◌, ◌||◌, nat_eq, nat_le, nat_lt, List, [], ◌∷◌, length, replicate, slice_index_or, set, Option, Some, None, option_and_then, if◌then◌else◌}
use Rattle.std.specs.Option.{option_map_or}
use Rattle.mem80.specs.declared.memory.TheConstants.{MEMORY_SIZE}
use Rattle.mem80.specs.declared.range.Range.{Range}
use Rattle.typed_trees.specs.TypedTrees.{Home, Placed, TypedObject, TypedModule}
use Rattle.typed_trees.specs.Sizes.{size_of_object}
use Rattle.layout.specs.Placement.{ModulePlacement, Placement, PieceKind, StaticPiece, ConstantPiece, AtPiece, PlacedPiece, range_of, address_at, object_piece, list_piece}

-- the result of a claim: the table, or none if a byte was claimed before
abbrev pub claimed_as : (accepted : Bool) → List Bool → Option (List Bool)
claimed_as true table = Some table
claimed_as false table = None

-- claims `count` bytes from an address on
abbrev pub claim_bytes : (count address : ℕ) → List Bool → Option (List Bool)
claim_bytes zero address table = Some table
claim_bytes (suc count) address table =
    if slice_index_or table address false then None
    else claim_bytes count (suc address) (set table address true)

unfoldable pub claim_between : (address end : ℕ) → List Bool → Option (List Bool)
claim_between address end table = claim_bytes (end - address) address table

-- whether `count` bytes from an address on are claimed
abbrev pub are_claimed : (count address : ℕ) → List Bool → Bool
are_claimed zero address table = true
are_claimed (suc count) address table =
    slice_index_or table address false && are_claimed count (suc address) table

unfoldable pub claimed_between : (address end : ℕ) → List Bool → Bool
claimed_between address end table = are_claimed (end - address) address table

unfoldable pub ends_in_memory : Range → Bool
ends_in_memory range = nat_le (range.start + range.len) MEMORY_SIZE

-- whether two ranges have an address in common
unfoldable pub ranges_meet : (left right : Range) → Bool
ranges_meet left right =
    nat_lt (max left.start right.start) (min (left.start + left.len) (right.start + right.len))

unfoldable pub is_within : (outer inner : Range) → Bool
is_within outer inner =
    nat_eq inner.len 0
    || (nat_le outer.start inner.start && nat_le (inner.start + inner.len) (outer.start + outer.len))

-- claims a piece with a place of its own, if it may lie where it does
abbrev pub claim_if : Bool → Range → List Bool → Option (List Bool)
claim_if allowed range table =
    if allowed then claim_between range.start (range.start + range.len) table else None

abbrev pub may_hold_variables : (code stack : Range) → Range → Bool
may_hold_variables code stack range =
    ends_in_memory range && not (ranges_meet range code) && not (ranges_meet range stack)

abbrev pub may_hold_constants : (code : Range) → Range → Bool
may_hold_constants code range = ends_in_memory range && is_within code range

abbrev pub claim_by_kind : (code stack : Range) → PieceKind → Range → List Bool → Option (List Bool)
claim_by_kind code stack StaticPiece range table = claim_if (may_hold_variables code stack range) range table
claim_by_kind code stack ConstantPiece range table = claim_if (may_hold_constants code range) range table
claim_by_kind code stack AtPiece range table = Some table

unfoldable pub claim_piece : (code stack : Range) → PlacedPiece → List Bool → Option (List Bool)
claim_piece code stack piece table = claim_by_kind code stack piece.kind piece.range table

abbrev pub claim_pieces : (code stack : Range) → List PlacedPiece → List Bool → Option (List Bool)
claim_pieces code stack [] table = Some table
claim_pieces code stack (piece ∷ others) table =
    option_and_then (claim_pieces code stack others) (claim_piece code stack piece table)

-- an object, the objects and the constant lists of a module, and the modules
abbrev pub claim_found : (code stack : Range) → Option PlacedPiece → List Bool → Option (List Bool)
claim_found code stack None table = Some table
claim_found code stack (Some piece) table = claim_piece code stack piece table

unfoldable pub claim_object : (code stack : Range) → TypedObject → (address : ℕ) → List Bool → Option (List Bool)
claim_object code stack object address table = claim_found code stack (object_piece (object, address)) table

abbrev pub claim_objects :
    (code stack : Range) → List TypedObject → (addresses : List ℕ) → List Bool → Option (List Bool)
claim_objects code stack [] addresses table = Some table
claim_objects code stack (object ∷ objects) [] table = Some table
claim_objects code stack (object ∷ objects) (address ∷ addresses) table =
    option_and_then (claim_objects code stack objects addresses) (claim_object code stack object address table)

abbrev pub claim_lists :
    (code stack : Range) → List (List ℕ) → (addresses : List ℕ) → List Bool → Option (List Bool)
claim_lists code stack [] addresses table = Some table
claim_lists code stack (bytes ∷ lists) [] table = Some table
claim_lists code stack (bytes ∷ lists) (address ∷ addresses) table =
    option_and_then (claim_lists code stack lists addresses)
    (claim_piece code stack (list_piece (bytes, address)) table)

unfoldable pub claim_module : (code stack : Range) → TypedModule → ModulePlacement → List Bool → Option (List Bool)
claim_module code stack typed placed table =
    option_and_then (claim_lists code stack typed.constants.lists placed.lists)
    (claim_objects code stack typed.objects placed.objects table)

abbrev pub claim_modules :
    (code stack : Range) → List TypedModule → List ModulePlacement → List Bool → Option (List Bool)
claim_modules code stack [] placements table = Some table
claim_modules code stack (typed ∷ modules) [] table = Some table
claim_modules code stack (typed ∷ modules) (placed ∷ placements) table =
    option_and_then (claim_modules code stack modules placements) (claim_module code stack typed placed table)

-- Whether an object with AT may lie in a range, if the bytes with a place of their own are claimed: the part
-- in the code is claimed.
unfoldable pub may_lie_at : (code stack : Range) → List Bool → Range → Bool
may_lie_at code stack table range =
    ends_in_memory range
    && not (ranges_meet range stack)
    && claimed_between (max range.start code.start) (min (range.start + range.len) (code.start + code.len)) table

abbrev pub home_fits :
    (code stack : Range) → List Bool → (all : List ℕ) → TypedObject → (address : ℕ) → Home → Bool
home_fits code stack table all object address (Placed at) =
    nat_eq address (address_at all at)
    && may_lie_at code stack table (range_of address (size_of_object object))
home_fits code stack table all object address home = true

unfoldable pub object_fits :
    (code stack : Range) → List Bool → (all : List ℕ) → TypedObject → (address : ℕ) → Bool
object_fits code stack table all object address = home_fits code stack table all object address object.home

abbrev pub objects_fit :
    (code stack : Range) → List Bool → (all : List ℕ) → List TypedObject → (addresses : List ℕ) → Bool
objects_fit code stack table all [] addresses = true
objects_fit code stack table all (object ∷ objects) [] = true
objects_fit code stack table all (object ∷ objects) (address ∷ addresses) =
    object_fits code stack table all object address && objects_fit code stack table all objects addresses

unfoldable pub module_fits : (code stack : Range) → List Bool → TypedModule → ModulePlacement → Bool
module_fits code stack table typed placed =
    nat_eq (length placed.objects) (length typed.objects)
    && nat_eq (length placed.lists) (length typed.constants.lists)
    && objects_fit code stack table placed.objects typed.objects placed.objects

abbrev pub modules_fit : (code stack : Range) → List Bool → List TypedModule → List ModulePlacement → Bool
modules_fit code stack table [] placements = true
modules_fit code stack table (typed ∷ modules) [] = true
modules_fit code stack table (typed ∷ modules) (placed ∷ placements) =
    module_fits code stack table typed placed && modules_fit code stack table modules placements

-- the whole test
unfoldable pub ranges_fit : (code stack : Range) → Bool
ranges_fit code stack = ends_in_memory code && ends_in_memory stack && not (ranges_meet code stack)

unfoldable pub unclaimed : List Bool
unclaimed = replicate MEMORY_SIZE false

unfoldable pub all_fit : (code stack : Range) → List TypedModule → List ModulePlacement → Bool
all_fit code stack modules placements =
    option_map_or (λ table. modules_fit code stack table modules placements)
    (claim_modules code stack modules placements unclaimed) false

unfoldable pub is_lawful : List TypedModule → Placement → Bool
is_lawful modules placement =
    nat_eq (length placement.modules) (length modules)
    && ranges_fit placement.code placement.stack
    && all_fit placement.code placement.stack modules placement.modules
