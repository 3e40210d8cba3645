-- The bytes of an object that has a place are declared.
use Rattle.meaning_laws.proofs.Prelude.{◌≡◌, ℕ, zero, suc, ◌+◌, ◌<◌, Bool, true, ◌||◌, List, [], ◌∷◌, length, zip, filter_map, flat_map, map, slice_get, Option, Some, None, refl, sym, ap, subst, ◌∙◌, arith, option_map, slice_index, cons_option, list_any, list_any-append, none-some, MEMORY_SIZE, size_of_object, HasPlace, Home, InData, InConstants, Placed, BasedOn, Elsewhere, Nowhere, InFrame, TypedObject, TypedModule, AtPiece, ConstantPiece, EndsInMemory, IsDeclared, ModulePlacement, PieceKind, PlacedPiece, Placement, StaticPiece, holds_byte, is_declared, kind_of, list_piece, object_piece, piece_of, pieces_of_module, IsLawful, Decides-declared, Decides-holds, or_right}

-- among the pieces of a module
later_has : (address : ℕ) (found : Option PlacedPiece) (rest : List PlacedPiece)
    → list_any (holds_byte address) rest ≡ true
    → list_any (holds_byte address) (cons_option found rest) ≡ true
later_has address None rest is = is
later_has address (Some piece) rest is =
    or_right (holds_byte address piece) (list_any (holds_byte address) rest) is

object_has : (address : ℕ) (objects : List TypedObject) (addresses : List ℕ) (number : ℕ)
    (object : TypedObject)
    (kind : PieceKind)
    → slice_get objects number ≡ Some object
    → number < length addresses
    → kind_of object.home ≡ Some kind
    → holds_byte address (piece_of (slice_index addresses number) object kind) ≡ true
    → list_any (holds_byte address) (filter_map object_piece (zip objects addresses)) ≡ true
object_has address [] addresses number object kind there below is holds = absurd (none-some object there)
object_has address (first ∷ objects) [] number object kind there below is holds =
    absurd (omega (arith, below))
object_has address (first ∷ objects) (start ∷ addresses) zero object kind there below is holds =
    let same : first ≡ object = cc in
    let found : object_piece (first, start) ≡ Some (piece_of start object kind) =
    ap (λ (one : TypedObject). object_piece (one, start)) same
    ∙ ap (λ (entry : Option PieceKind). option_map (piece_of start object) entry) is in
    subst
    (λ (entry : Option PlacedPiece).
    list_any (holds_byte address) (cons_option entry (filter_map object_piece (zip objects addresses)))
    ≡ true)
    (sym found)
    (ap (λ (test : Bool).
    test || list_any (holds_byte address) (filter_map object_piece (zip objects addresses))) holds)
object_has address (first ∷ objects) (start ∷ addresses) (suc number) object kind there below is holds =
    later_has address (object_piece (first, start)) (filter_map object_piece (zip objects addresses))
    (object_has address objects addresses number object kind there (omega (arith, below)) is holds)

module_has : (address : ℕ) (typed : TypedModule) (placed : ModulePlacement)
    → list_any (holds_byte address) (filter_map object_piece (zip typed.objects placed.objects)) ≡ true
    → list_any (holds_byte address) (pieces_of_module (typed, placed)) ≡ true
module_has address typed placed is =
    list_any-append (holds_byte address) (filter_map object_piece (zip typed.objects placed.objects))
    (map list_piece (zip typed.constants.lists placed.lists))
    ∙ ap (λ (test : Bool).
    test || list_any (holds_byte address) (map list_piece (zip typed.constants.lists placed.lists))) is

-- and among those of a program
program_has : (address : ℕ) (modules : List TypedModule) (placements : List ModulePlacement) (number : ℕ)
    (typed : TypedModule) (placed : ModulePlacement)
    → slice_get modules number ≡ Some typed
    → slice_get placements number ≡ Some placed
    → list_any (holds_byte address) (pieces_of_module (typed, placed)) ≡ true
    → list_any (holds_byte address) (flat_map pieces_of_module (zip modules placements)) ≡ true
program_has address [] placements number typed placed its is has = absurd (none-some typed its)
program_has address (first ∷ modules) [] number typed placed its is has = absurd (none-some placed is)
program_has address (first ∷ modules) (start ∷ placements) zero typed placed its is has =
    let same : first ≡ typed = cc in
    let same_placed : start ≡ placed = cc in
    list_any-append (holds_byte address) (pieces_of_module (first, start))
    (flat_map pieces_of_module (zip modules placements))
    ∙ ap (λ (test : Bool).
    test || list_any (holds_byte address) (flat_map pieces_of_module (zip modules placements)))
    (ap (λ (one : TypedModule). list_any (holds_byte address) (pieces_of_module (one, start))) same
    ∙ ap (λ (one : ModulePlacement). list_any (holds_byte address) (pieces_of_module (typed, one)))
    same_placed
    ∙ has)
program_has address (first ∷ modules) (start ∷ placements) (suc number) typed placed its is has =
    list_any-append (holds_byte address) (pieces_of_module (first, start))
    (flat_map pieces_of_module (zip modules placements))
    ∙ or_right (list_any (holds_byte address) (pieces_of_module (first, start)))
    (list_any (holds_byte address) (flat_map pieces_of_module (zip modules placements)))
    (program_has address modules placements number typed placed its is has)

-- what has a place is a piece
record IsPiece (home : Home) : Type 0 where
  kind : PieceKind
  is : kind_of home ≡ Some kind

has_kind : (home : Home) → HasPlace home → IsPiece home
has_kind (InData values) place = record { kind = StaticPiece; is = refl }
has_kind (InConstants values) place = record { kind = ConstantPiece; is = refl }
has_kind (Placed address) place = record { kind = AtPiece; is = refl }
has_kind (BasedOn base) place = absurd place
has_kind Elsewhere place = absurd place
has_kind Nowhere place = absurd place
has_kind (InFrame procedure) place = absurd place

pub bytes_declared : (modules : List TypedModule) (placement : Placement) (module_number number : ℕ)
    (typed : TypedModule) (placed : ModulePlacement) (object : TypedObject)
    → slice_get modules module_number ≡ Some typed
    → slice_get placement.modules module_number ≡ Some placed
    → slice_get typed.objects number ≡ Some object
    → number < length placed.objects
    → HasPlace object.home
    → (offset : ℕ)
    → offset < size_of_object object
    → IsDeclared modules placement (slice_index placed.objects number + offset)
bytes_declared modules placement module_number number typed placed object its is there below
    place offset inside =
    let piece : IsPiece object.home = has_kind object.home place in
    let start : ℕ = slice_index placed.objects number in
    (Decides-declared modules placement (start + offset)).0
    (program_has (start + offset) modules placement.modules module_number typed placed its is
    (module_has (start + offset) typed placed
    (object_has (start + offset) typed.objects placed.objects number object piece.kind there below piece.is
    ((Decides-holds (start + offset) (piece_of start object piece.kind)).1
    (omega arith, omega (arith, inside))))))

-- each byte that is declared is one of memory
pub declared_in_memory :
    (modules : List TypedModule) (placement : Placement) (address : ℕ)
    → IsLawful modules placement
    → is_declared modules placement address ≡ true
    → address < MEMORY_SIZE
declared_in_memory modules placement address lawful declared =
    let found = (Decides-declared modules placement address).0 declared in
    let ends : EndsInMemory (found.1).range =
    subst (λ (piece : PlacedPiece). EndsInMemory piece.range) found.3
    (lawful.in_memory found.0 found.1 found.2) in
    let inside = (found.4).1 in
    omega (arith, ends, inside)
