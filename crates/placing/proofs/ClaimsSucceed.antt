-- Where pieces lie lawfully, their bytes can be claimed, and those with AT may lie where they do.
use Rattle.placing.proofs.Prelude.{◌≡◌, ℕ, ◌+◌, ◌<◌, min, max, Bool, true, false, not, List, [], ◌∷◌, length, get_or, Some, refl, sym, arith, All, filter, AllByRecursion, true≢false, inl, inr, ⊎_elim, and_parts, and_from, get_or_default, All-from_recursion, recursion_from_All, Range, IsIn, Meets, PieceKind, StaticPiece, ConstantPiece, AtPiece, PlacedPiece, EndsInMemory, IsOneOf, has_own_place, is_constant_piece, AreDisjoint, LiesIn, claim_pieces, claimed_between, ends_in_memory, ranges_meet, is_within, may_lie_at, unclaimed}
use Rattle.placing.proofs.Claiming.{ends_true, each_of_three, all_three}
use Rattle.placing.proofs.ClaimedBytes.{between_each}
use Rattle.placing.proofs.SomePieces.{Some_of, some_at, any_from_some, some_weaker, any_of_filter, all_of_filter, Pairs_of, pairs_of_filter}
use Rattle.placing.proofs.PieceClaims.{HasByte, HaveByte, allowed, MayLie, PiecesClaimed, no_byte_of, false_true, pieces_claimed, pieces_can}
use Rattle.placing.proofs.PieceOrder.{at_allowed, AtMayLie}
use Rattle.placing.proofs.PiecesLawful.{LieLawfully, ConstantByte, StaticByte, ranges_apart, apart_true, within, within_true, unclaimed_free, unclaimed_long}

kind_own :
    (kind : PieceKind) (range : Range)
    → is_constant_piece (record { kind = kind; range = range }) ≡ true
    → has_own_place (record { kind = kind; range = range }) ≡ true
kind_own StaticPiece range constant = refl
kind_own ConstantPiece range constant = refl
kind_own AtPiece range constant = constant

constant_own : (piece : PlacedPiece) → is_constant_piece piece ≡ true → has_own_place piece ≡ true
constant_own piece = kind_own piece.kind piece.range

module _ (a : ℕ) where
  constant_has : (piece : PlacedPiece) → ConstantByte a piece → HasByte a piece
  constant_has piece constant = (constant_own piece constant.0, constant.1)

  constants_have : (pieces : List PlacedPiece) → Some_of (ConstantByte a) pieces → HaveByte a pieces
  constants_have pieces = some_weaker (ConstantByte a) (HasByte a) constant_has pieces

  statics_have : (pieces : List PlacedPiece) → Some_of (StaticByte a) pieces → HaveByte a pieces
  statics_have pieces =
      some_weaker (StaticByte a) (HasByte a)
      (λ (piece : PlacedPiece) (static : StaticByte a piece). (static.own, static.inside)) pieces

  -- a byte of a variable is no constant
  static_apart :
      (pieces : List PlacedPiece)
      → Pairs_of has_own_place AreDisjoint pieces
      → Some_of (StaticByte a) pieces
      → Some_of (ConstantByte a) pieces
      → ⊥
  static_apart [] pairs static constant = absurd static
  static_apart (piece ∷ pieces) pairs (inl static) (inl constant) =
      false_true (is_constant_piece piece) static.variable constant.0
  static_apart (piece ∷ pieces) pairs (inl static) (inr constant) =
      no_byte_of piece pieces (pairs.0 static.own) a static.inside (constants_have pieces constant)
  static_apart (piece ∷ pieces) pairs (inr static) (inl constant) =
      no_byte_of piece pieces (pairs.0 (constant_own piece constant.0)) a constant.1
      (statics_have pieces static)
  static_apart (piece ∷ pieces) pairs (inr static) (inr constant) =
      static_apart pieces pairs.1 static constant

module _ (code stack : Range) (code_apart : ¬ Meets code stack) where
  one_own_in_stack :
      (kind : PieceKind) (range : Range)
      → allowed code stack kind range ≡ true
      → (a : ℕ)
      → HasByte a (record { kind = kind; range = range })
      → IsIn a stack
      → ⊥
  one_own_in_stack StaticPiece range may a has in_stack =
      ranges_apart range stack
      (each_of_three (ends_in_memory range) (not (ranges_meet range code))
      (not (ranges_meet range stack)) may).2
      a has.1 in_stack
  one_own_in_stack ConstantPiece range may a has in_stack =
      code_apart
      (a, within code range (and_parts (ends_in_memory range) (is_within code range) may).1 a has.1, in_stack)
  one_own_in_stack AtPiece range may a has in_stack = true≢false (sym has.0)

  own_in_stack :
      (a : ℕ) (pieces : List PlacedPiece)
      → AllByRecursion (MayLie code stack) pieces
      → HaveByte a pieces
      → IsIn a stack
      → ⊥
  own_in_stack a [] may have in_stack = absurd have
  own_in_stack a (piece ∷ pieces) may (inl has) in_stack =
      one_own_in_stack piece.kind piece.range may.0 a has in_stack
  own_in_stack a (piece ∷ pieces) may (inr have) in_stack = own_in_stack a pieces may.1 have in_stack

  module _ (pieces : List PlacedPiece) (lawful : LieLawfully code stack pieces) where
    pairs : Pairs_of has_own_place AreDisjoint pieces
    pairs = pairs_of_filter has_own_place AreDisjoint pieces lawful.disjoint

    constant_of : (a : ℕ) → IsOneOf (filter is_constant_piece pieces) a → Some_of (ConstantByte a) pieces
    constant_of a = any_of_filter is_constant_piece (λ (piece : PlacedPiece). IsIn a piece.range) pieces

    -- a piece is one of all
    Stands : PlacedPiece → Type 1
    Stands piece = (P : PlacedPiece → Type 0) → P piece → Some_of P pieces

    stands : (k : ℕ) (d : PlacedPiece) → k < length pieces → Stands (get_or pieces k d)
    unfolding Stands
    stands k d below P holds =
        some_at P pieces k (get_or pieces k d) below
        (get_or_default pieces k (get_or pieces k d) d below) holds

    one_of : (piece : PlacedPiece) (a : ℕ) → Stands piece → IsIn a piece.range → IsOneOf pieces a
    unfolding Stands
    one_of piece a stands inside =
        any_from_some (λ (piece : PlacedPiece). IsIn a piece.range) pieces
        (stands (λ (piece : PlacedPiece). IsIn a piece.range) inside)

    no_constant :
        (range : Range) (a : ℕ)
        → Stands (record { kind = StaticPiece; range = range })
        → IsIn a range
        → ¬ IsOneOf (filter is_constant_piece pieces) a
    unfolding Stands
    no_constant range a stands inside constant =
        static_apart a pieces pairs
        (stands (StaticByte a) (record { own = refl; variable = refl; inside = inside }))
        (constant_of a constant)

    one_may :
        (kind : PieceKind) (range : Range)
        → Stands (record { kind = kind; range = range })
        → EndsInMemory range
        → (is_constant_piece (record { kind = kind; range = range }) ≡ true → (a : ℕ)
        → IsIn a range → IsIn a code)
        → allowed code stack kind range ≡ true
    one_may StaticPiece range stands ends constant =
        all_three (ends_in_memory range) (not (ranges_meet range code)) (not (ranges_meet range stack))
        (ends_true range ends)
        (apart_true range code (λ a inside in_code.
        lawful.not_in_code a (one_of (record { kind = StaticPiece; range = range }) a stands inside)
        (no_constant range a stands inside) in_code))
        (apart_true range stack (λ a inside in_stack.
        lawful.not_in_stack a (one_of (record { kind = StaticPiece; range = range }) a stands inside)
        (no_constant range a stands inside) in_stack))
    one_may ConstantPiece range stands ends constant =
        and_from (ends_in_memory range) (is_within code range) (ends_true range ends)
        (within_true code range (constant refl))
    one_may AtPiece range stands ends constant = refl

    constants : All (λ (piece : PlacedPiece). is_constant_piece piece ≡ true → LiesIn code piece) pieces
    constants =
        All-from_recursion (λ (piece : PlacedPiece). is_constant_piece piece ≡ true → LiesIn code piece)
        pieces
        (all_of_filter is_constant_piece (LiesIn code) pieces lawful.constants_in_code)

    may_lie : AllByRecursion (MayLie code stack) pieces
    may_lie =
        recursion_from_All (MayLie code stack) pieces
        (λ k d below. one_may (get_or pieces k d).kind (get_or pieces k d).range (stands k d below)
        (lawful.in_memory k d below) (constants k d below))

    -- the table after the claims
    claims : (table : List Bool) × (claim_pieces code stack pieces unclaimed ≡ Some table)
    claims = pieces_can code stack pieces unclaimed unclaimed_long may_lie pairs (λ a have. unclaimed_free a)

    module _ (table : List Bool) (is : claim_pieces code stack pieces unclaimed ≡ Some table) where
      claimed : PiecesClaimed code stack pieces unclaimed table
      claimed = pieces_claimed code stack pieces unclaimed table unclaimed_long is

      free_variable : (a : ℕ) → get_or table a false ≡ false → ¬ IsOneOf (filter is_constant_piece pieces) a
      free_variable a free constant =
          false_true (get_or table a false) free
          (claimed.marked a (constants_have a pieces (constant_of a constant)))

      taken_not_in_stack : (a : ℕ) → get_or table a false ≡ true → IsIn a stack → ⊥
      taken_not_in_stack a taken in_stack =
          ⊎_elim
          (λ (before : get_or unclaimed a false ≡ true). false_true (get_or unclaimed a false)
          (unclaimed_free a) before)
          (λ (have : HaveByte a pieces). own_in_stack a pieces may_lie have in_stack)
          (claimed.came a taken)

      one_not_in_stack :
          (a : ℕ)
          → IsOneOf pieces a
          → IsIn a stack
          → (taken : Bool)
          → get_or table a false ≡ taken
          → ⊥
      one_not_in_stack a one in_stack true taken = taken_not_in_stack a taken in_stack
      one_not_in_stack a one in_stack false free = lawful.not_in_stack a one (free_variable a free) in_stack

      one_in_code_taken :
          (a : ℕ)
          → IsOneOf pieces a
          → IsIn a code
          → (taken : Bool)
          → get_or table a false ≡ taken
          → get_or table a false ≡ true
      one_in_code_taken a one in_code true taken = taken
      one_in_code_taken a one in_code false free =
          absurd (lawful.not_in_code a one (free_variable a free) in_code)

      one_at :
          (kind : PieceKind) (range : Range)
          → Stands (record { kind = kind; range = range })
          → EndsInMemory range
          → at_allowed code stack table kind range
      unfolding may_lie_at
      one_at StaticPiece range stands ends = tt
      one_at ConstantPiece range stands ends = tt
      one_at AtPiece range stands ends =
          all_three (ends_in_memory range) (not (ranges_meet range stack))
          (claimed_between (max range.start code.start)
          (min (range.start + range.len) (code.start + code.len)) table)
          (ends_true range ends)
          (apart_true range stack (λ a inside in_stack.
          one_not_in_stack a (one_of (record { kind = AtPiece; range = range }) a stands inside) in_stack
          (get_or table a false) refl))
          (between_each (max range.start code.start)
          (min (range.start + range.len) (code.start + code.len)) table
          (λ a low high.
          let inside : IsIn a range = (omega arith, omega arith) in
          let in_code : IsIn a code = (omega arith, omega arith) in
          one_in_code_taken a (one_of (record { kind = AtPiece; range = range }) a stands inside) in_code
          (get_or table a false) refl))

      at_may_lie : AllByRecursion (AtMayLie code stack table) pieces
      at_may_lie =
          recursion_from_All (AtMayLie code stack table) pieces
          (λ k d below. one_at (get_or pieces k d).kind (get_or pieces k d).range (stands k d below)
          (lawful.in_memory k d below))

pub record Succeed (code stack : Range) (pieces : List PlacedPiece) : Type 0 where
  pub table : List Bool
  pub claims : claim_pieces code stack pieces unclaimed ≡ Some table
  pub at_may_lie : AllByRecursion (AtMayLie code stack table) pieces

pub succeed :
    (code stack : Range) (pieces : List PlacedPiece)
    → ¬ Meets code stack
    → LieLawfully code stack pieces
    → Succeed code stack pieces
succeed code stack pieces code_apart lawful =
    let found = claims code stack code_apart pieces lawful in
    record {
      table = found.0;
      claims = found.1;
      at_may_lie = at_may_lie code stack code_apart pieces lawful found.0 found.1;
    }
