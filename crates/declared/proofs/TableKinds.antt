-- What a table of kinds says of pieces.
use Rattle.declared.proofs.Prelude.{◌≡◌, ℕ, ◌<◌, ◌≤◌, ◌+◌, Bool, true, false, cond, List, [], ◌∷◌, get_or, Decides, refl, sym, subst, arith, filter, ◌||◌, nat_le, nat_lt, list_any, Any-from_list_any, list_any-from_Any, nat_tests, Decides-and, Decides-ltb, TypedModule, ByteKind, Undeclared, Writable, IsKind, IsTableOf, is_declared_at, is_constant_at, or_kept, or_right}
use Rattle.mem80.specs.{declared.memory.TheConstants.{MEMORY_SIZE}, Range.{IsIn}}
use Rattle.layout.specs.Placement.{Placement, PlacedPiece, IsOneOf, holds_byte, is_constant_piece, pieces_of}
use Rattle.layout.proofs.Declared.{Decides-one_of}
use Rattle.placing.specs.declared.table.ByteKind.TheVariants.{Constant}
use Rattle.declared.specs.internal.Kinds.{says_declared, says_constant}

-- what holds of one that passes a test holds of one
module _ {X : Type 0} (p q : X → Bool) where
  any_kept : (xs : List X) → list_any p (filter q xs) ≡ true → list_any p xs ≡ true
  any_kept [] is = is
  any_kept (x ∷ xs) is = step (q x) (any_kept xs) is
    where
      step :
          (passes : Bool)
          → (list_any p (filter q xs) ≡ true → list_any p xs ≡ true)
          → list_any p (cond passes (x ∷ filter q xs) (filter q xs)) ≡ true
          → (p x || list_any p xs) ≡ true
      step true next is = or_kept (p x) (list_any p (filter q xs)) (list_any p xs) next is
      step false next is = or_right (p x) (list_any p xs) (next is)

not_decided : {P : Type 0} → (b : Bool) → Decides b P → ¬ P → b ≡ false
not_decided true decides not = absurd (not (decides.0 refl))
not_decided false decides not = refl

pub declared_told :
    (pieces : List PlacedPiece) (address : ℕ) (kind : ByteKind)
    → IsKind pieces address kind
    → list_any (holds_byte address) pieces ≡ says_declared kind
declared_told pieces address Undeclared is =
    not_decided (list_any (holds_byte address) pieces) (Decides-one_of pieces address) is
declared_told pieces address Writable is = (Decides-one_of pieces address).1 is.0
declared_told pieces address Constant is =
    any_kept (holds_byte address) is_constant_piece pieces
    ((Decides-one_of (filter is_constant_piece pieces) address).1 is)

pub constant_told :
    (pieces : List PlacedPiece) (address : ℕ) (kind : ByteKind)
    → IsKind pieces address kind
    → list_any (holds_byte address) (filter is_constant_piece pieces) ≡ says_constant kind
constant_told pieces address Undeclared is =
    not_decided (list_any (holds_byte address) (filter is_constant_piece pieces))
    (Decides-one_of (filter is_constant_piece pieces) address)
    (λ found.
    is ((Decides-one_of pieces address).0
    (any_kept (holds_byte address) is_constant_piece pieces
    ((Decides-one_of (filter is_constant_piece pieces) address).1 found))))
constant_told pieces address Writable is =
    not_decided (list_any (holds_byte address) (filter is_constant_piece pieces))
    (Decides-one_of (filter is_constant_piece pieces) address) is.1
constant_told pieces address Constant is = (Decides-one_of (filter is_constant_piece pieces) address).1 is

-- what a table says of a byte
pub table_declares :
    (modules : List TypedModule) (placement : Placement) (kinds : List ByteKind)
    (address : ℕ) (kind : ByteKind)
    → IsTableOf (pieces_of modules placement) kinds
    → address < MEMORY_SIZE
    → kind ≡ get_or kinds address Undeclared
    → is_declared_at modules placement address ≡ says_declared kind
unfolding is_declared_at
table_declares modules placement kinds address kind told within is =
    declared_told (pieces_of modules placement) address kind
    (subst (IsKind (pieces_of modules placement) address) (sym is) (told address within))

pub table_tells_constants :
    (modules : List TypedModule) (placement : Placement) (kinds : List ByteKind)
    (address : ℕ) (kind : ByteKind)
    → IsTableOf (pieces_of modules placement) kinds
    → address < MEMORY_SIZE
    → kind ≡ get_or kinds address Undeclared
    → is_constant_at modules placement address ≡ says_constant kind
unfolding is_constant_at
table_tells_constants modules placement kinds address kind told within is =
    constant_told (pieces_of modules placement) address kind
    (subst (IsKind (pieces_of modules placement) address) (sym is) (told address within))
