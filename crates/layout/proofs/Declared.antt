-- Bytes that are declared, and those that may be written: the tests decide it, and where a lawful placement has them.
use Rattle.layout.proofs.Prelude.{◌≡◌, ℕ, zero, suc, ◌+◌, ◌<◌, ◌≤◌, Bool, true, false, ◌&&◌, ◌||◌, nat_le, nat_lt, List, [], ◌∷◌, length, Decides, refl, sym, ◌∙◌, arith, All, filter, list_any, Any-from_list_any, list_any-from_Any, nat_tests, Decides-and, Decides-ltb, Range, IsIn, Meets, TypedModule, Placement, PlacedPiece, IsConstant, IsDeclared, IsOneOf, IsWritable, constant_pieces, holds_byte, is_constant, is_declared, pieces_of, IsLawful, LiesIn}

Decides-le : (a b : ℕ) → Decides (nat_le a b) (a ≤ b)
Decides-le a b = (λ is. grind (arith, nat_tests), λ is. grind (arith, nat_tests))

pub Decides-holds : (address : ℕ) (piece : PlacedPiece)
    → Decides (holds_byte address piece) (IsIn address piece.range)
Decides-holds address piece =
    Decides-and (nat_le piece.range.start address) (nat_lt address (piece.range.start + piece.range.len))
    (Decides-le piece.range.start address) (Decides-ltb address (piece.range.start + piece.range.len))

-- the test decides whether one of the pieces has an address
pub Decides-one_of :
    (pieces : List PlacedPiece) (address : ℕ)
    → Decides (list_any (holds_byte address) pieces) (IsOneOf pieces address)
Decides-one_of pieces address = (
  λ is.
      let found = Any-from_list_any (holds_byte address) pieces is in
      (found.0, found.1, found.2, found.3, (Decides-holds address found.1).0 found.4),
  λ found.
      list_any-from_Any (holds_byte address) pieces
      (found.0, found.1, found.2, found.3, (Decides-holds address found.1).1 found.4),
)

pub Decides-declared :
    (modules : List TypedModule) (placement : Placement) (address : ℕ)
    → Decides (is_declared modules placement address) (IsDeclared modules placement address)
Decides-declared modules placement address = Decides-one_of (pieces_of modules placement) address

pub Decides-constant :
    (modules : List TypedModule) (placement : Placement) (address : ℕ)
    → Decides (is_constant modules placement address) (IsConstant modules placement address)
Decides-constant modules placement address = Decides-one_of (constant_pieces modules placement) address

-- what passes the test of a byte, where each piece lies in a range
in_outer :
    (outer : Range) (address : ℕ) (pieces : List PlacedPiece)
    → All (LiesIn outer) pieces
    → list_any (holds_byte address) pieces ≡ true
    → IsIn address outer
in_outer outer address [] all is = let bad : false ≡ true = is in absurd cc
in_outer outer address (piece ∷ others) all is =
    first_or_other (in_outer outer address others (λ k d within. all (suc k) d (omega (arith, within))))
    (holds_byte address piece) refl is
  where
    first_or_other :
        (list_any (holds_byte address) others ≡ true → IsIn address outer)
        → (here : Bool) → holds_byte address piece ≡ here
        → (here || list_any (holds_byte address) others) ≡ true
        → IsIn address outer
    first_or_other other true here found =
        all 0 piece (omega arith) address ((Decides-holds address piece).0 here)
    first_or_other other false here found = other found

-- a constant lies in the code
pub constant_in_code :
    (modules : List TypedModule) (placement : Placement) (address : ℕ)
    → IsLawful modules placement
    → is_constant modules placement address ≡ true
    → IsIn address placement.code
constant_in_code modules placement address lawful is =
    in_outer placement.code address (constant_pieces modules placement) lawful.constants_in_code is

pub writable_told :
    (modules : List TypedModule) (placement : Placement) (address : ℕ)
    → is_declared modules placement address ≡ true
    → is_constant modules placement address ≡ false
    → IsWritable modules placement address
writable_told modules placement address declared variable = record {
  declared = (Decides-declared modules placement address).0 declared;
  variable = λ constant.
      let bad : false ≡ true = sym variable ∙ (Decides-constant modules placement address).1 constant in
      absurd cc;
}

-- no declared byte lies in the stack
pub declared_not_in_stack :
    (modules : List TypedModule) (placement : Placement) (address : ℕ)
    → IsLawful modules placement
    → is_declared modules placement address ≡ true
    → IsIn address placement.stack
    → ⊥
declared_not_in_stack modules placement address lawful declared inside =
    either (is_constant modules placement address) refl
  where
    either : (constant : Bool) → is_constant modules placement address ≡ constant → ⊥
    either true is =
        lawful.code_apart_from_stack (address, constant_in_code modules placement address lawful is, inside)
    either false is =
        lawful.not_in_stack address (writable_told modules placement address declared is) inside

-- no byte that may be written lies in the code
pub writable_not_in_code :
    (modules : List TypedModule) (placement : Placement) (address : ℕ)
    → IsLawful modules placement
    → is_declared modules placement address ≡ true
    → is_constant modules placement address ≡ false
    → IsIn address placement.code
    → ⊥
writable_not_in_code modules placement address lawful declared variable inside =
    lawful.not_in_code address (writable_told modules placement address declared variable) inside
