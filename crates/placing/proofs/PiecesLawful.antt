-- Pieces lie lawfully just where their bytes can be claimed and those with AT may lie where they do.
use Rattle.placing.proofs.Prelude.{◌≡◌, ℕ, zero, suc, ◌+◌, ◌-◌, ◌<◌, ◌≤◌, min, max, Bool, true, false, not, ◌&&◌, ◌||◌, nat_eq, nat_le, List, [], ◌∷◌, length, get_or, replicate, Some, refl, ap, sym, ◌∙◌, arith, ◌⊎◌, All, AllPairs, filter, AllByRecursion, true≢false, inl, inr, ⊎_elim, and_parts, and_from, le-leb, leb-true, eqb-true, eqb-false, length-replicate, All-from_recursion, Range, IsIn, Meets, PieceKind, StaticPiece, ConstantPiece, AtPiece, PlacedPiece, EndsInMemory, IsOneOf, has_own_place, is_constant_piece, AreDisjoint, LiesIn, claim_pieces, claimed_between, ends_in_memory, ranges_meet, is_within, may_hold_variables, may_lie_at, unclaimed, not-true}
use Rattle.placing.proofs.Claiming.{ends_in_memory_holds, meets_decides, each_of_three}
use Rattle.placing.proofs.ClaimedBytes.{between_all}
use Rattle.placing.proofs.SomePieces.{Some_of, some_from_any, any_in_filter, all_in_filter, all_weaker, all_both, pairs_in_filter}
use Rattle.placing.proofs.PieceClaims.{HasByte, HaveByte, allowed, MayLie, PiecesClaimed, variables_end, constants_end, false_true, pieces_claimed}
use Rattle.placing.proofs.PieceOrder.{at_allowed, AtMayLie}

-- what a lawful placement says of its pieces
pub record LieLawfully (code stack : Range) (pieces : List PlacedPiece) : Type 0 where
  pub in_memory : All (λ (piece : PlacedPiece). EndsInMemory piece.range) pieces
  pub disjoint : AllPairs AreDisjoint (filter has_own_place pieces)
  pub constants_in_code : All (LiesIn code) (filter is_constant_piece pieces)
  pub not_in_code :
      (a : ℕ) → IsOneOf pieces a → ¬ IsOneOf (filter is_constant_piece pieces) a → ¬ IsIn a code
  pub not_in_stack :
      (a : ℕ) → IsOneOf pieces a → ¬ IsOneOf (filter is_constant_piece pieces) a → ¬ IsIn a stack

-- a constant piece has a byte, and a static one
abbrev pub ConstantByte : (a : ℕ) → PlacedPiece → Type 0
ConstantByte a piece = (is_constant_piece piece ≡ true) × IsIn a piece.range

pub record StaticByte (a : ℕ) (piece : PlacedPiece) : Type 0 where
  pub own : has_own_place piece ≡ true
  pub variable : is_constant_piece piece ≡ false
  pub inside : IsIn a piece.range

-- tests on ranges
pub ranges_apart :
    (left right : Range)
    → not (ranges_meet left right) ≡ true
    → (a : ℕ)
    → IsIn a left
    → IsIn a right
    → ⊥
ranges_apart left right is a first second =
    false_true (ranges_meet left right) (not-true (ranges_meet left right) is)
    ((meets_decides left right).1 (a, first, second))

never : (b : Bool) → (b ≡ true → ⊥) → not b ≡ true
never true none = absurd (none refl)
never false none = refl

pub apart_true :
    (left right : Range)
    → ((a : ℕ) → IsIn a left → IsIn a right → ⊥)
    → not (ranges_meet left right) ≡ true
apart_true left right none =
    never (ranges_meet left right)
    (λ is. let meets : Meets left right = (meets_decides left right).0 is in none meets.0 meets.1 meets.2)

within_either :
    (code range : Range) (empty : Bool)
    → nat_eq range.len 0 ≡ empty
    → (empty || (nat_le code.start range.start && nat_le (range.start + range.len) (code.start + code.len)))
    ≡ true
    → (a : ℕ)
    → IsIn a range
    → IsIn a code
within_either code range true empty is a inside =
    let none : range.len ≡ 0 = eqb-true range.len 0 empty in
    let low : range.start ≤ a = inside.0 in
    let high : a < range.start + range.len = inside.1 in
    absurd (omega arith)
within_either code range false empty is a inside =
    let both =
    and_parts (nat_le code.start range.start)
    (nat_le (range.start + range.len) (code.start + code.len)) is in
    let first : code.start ≤ range.start = leb-true code.start range.start both.0 in
    let last : range.start + range.len ≤ code.start + code.len =
    leb-true (range.start + range.len) (code.start + code.len) both.1 in
    let low : range.start ≤ a = inside.0 in
    let high : a < range.start + range.len = inside.1 in
    (omega arith, omega arith)

pub within : (code range : Range) → is_within code range ≡ true → (a : ℕ) → IsIn a range → IsIn a code
unfolding is_within
within code range is a inside = within_either code range (nat_eq range.len 0) refl is a inside

within_from :
    (code range : Range) (empty : Bool)
    → (empty ≡ false → 0 < range.len)
    → ((a : ℕ) → IsIn a range → IsIn a code)
    → (empty || (nat_le code.start range.start && nat_le (range.start + range.len) (code.start + code.len)))
    ≡ true
within_from code range true some lies = refl
within_from code range false some lies =
    let any : 0 < range.len = some refl in
    let first : IsIn range.start code = lies range.start (omega arith, omega arith) in
    let last : IsIn (range.start + (range.len - 1)) code =
    lies (range.start + (range.len - 1)) (omega arith, omega arith) in
    let low : code.start ≤ range.start = first.0 in
    let high : range.start + (range.len - 1) < code.start + code.len = last.1 in
    and_from (nat_le code.start range.start) (nat_le (range.start + range.len) (code.start + code.len))
    (le-leb code.start range.start low)
    (le-leb (range.start + range.len) (code.start + code.len) (omega arith))

some_bytes : (len : ℕ) → nat_eq len 0 ≡ false → 0 < len
some_bytes len is = omega (arith, eqb-false len 0 is)

pub within_true : (code range : Range) → ((a : ℕ) → IsIn a range → IsIn a code) → is_within code range ≡ true
unfolding is_within
within_true code range lies = within_from code range (nat_eq range.len 0) (some_bytes range.len) lies

-- pieces whose bytes are claimed
module _ (code stack : Range) (table : List Bool) where
  one_ends :
      (kind : PieceKind) (range : Range)
      → allowed code stack kind range ≡ true
      → at_allowed code stack table kind range
      → EndsInMemory range
  unfolding may_lie_at
  one_ends StaticPiece range may at = variables_end code stack range may
  one_ends ConstantPiece range may at = constants_end code range may
  one_ends AtPiece range may at =
      ends_in_memory_holds range (each_of_three (ends_in_memory range) (not (ranges_meet range stack))
      (claimed_between (max range.start code.start)
      (min (range.start + range.len) (code.start + code.len)) table) at).0

  one_in_code :
      (kind : PieceKind) (range : Range)
      → allowed code stack kind range ≡ true
      → is_constant_piece (record { kind = kind; range = range }) ≡ true
      → (a : ℕ)
      → IsIn a range
      → IsIn a code
  one_in_code StaticPiece range may constant = absurd (true≢false (sym constant))
  one_in_code ConstantPiece range may constant =
      within code range (and_parts (ends_in_memory range) (is_within code range) may).1
  one_in_code AtPiece range may constant = absurd (true≢false (sym constant))

  static_apart_code :
      (range : Range)
      → may_hold_variables code stack range ≡ true
      → (a : ℕ)
      → IsIn a range
      → IsIn a code
      → ⊥
  static_apart_code range may =
      ranges_apart range code
      (each_of_three (ends_in_memory range) (not (ranges_meet range code))
      (not (ranges_meet range stack)) may).1

  static_apart_stack :
      (range : Range)
      → may_hold_variables code stack range ≡ true
      → (a : ℕ)
      → IsIn a range
      → IsIn a stack
      → ⊥
  static_apart_stack range may =
      ranges_apart range stack
      (each_of_three (ends_in_memory range) (not (ranges_meet range code))
      (not (ranges_meet range stack)) may).2

  module _ (a : ℕ) where
    one_constant_or_claimed :
        (kind : PieceKind) (range : Range)
        → allowed code stack kind range ≡ true
        → at_allowed code stack table kind range
        → IsIn a range
        → IsIn a code
        → ConstantByte a (record { kind = kind; range = range }) ⊎ (get_or table a false ≡ true)
    unfolding may_lie_at
    one_constant_or_claimed StaticPiece range may at inside in_code =
        absurd (static_apart_code range may a inside in_code)
    one_constant_or_claimed ConstantPiece range may at inside in_code = inl (refl, inside)
    one_constant_or_claimed AtPiece range may at inside in_code =
        let low : range.start ≤ a = inside.0 in
        let high : a < range.start + range.len = inside.1 in
        let code_low : code.start ≤ a = in_code.0 in
        let code_high : a < code.start + code.len = in_code.1 in
        inr (between_all (max range.start code.start)
        (min (range.start + range.len) (code.start + code.len)) table
        (each_of_three (ends_in_memory range) (not (ranges_meet range stack))
        (claimed_between (max range.start code.start)
        (min (range.start + range.len) (code.start + code.len)) table) at).2
        a (omega arith) (omega arith))

    constant_or_claimed :
        (pieces : List PlacedPiece)
        → AllByRecursion (MayLie code stack) pieces
        → AllByRecursion (AtMayLie code stack table) pieces
        → Some_of (λ (piece : PlacedPiece). IsIn a piece.range) pieces
        → IsIn a code
        → Some_of (ConstantByte a) pieces ⊎ (get_or table a false ≡ true)
    constant_or_claimed [] may at some in_code = absurd some
    constant_or_claimed (piece ∷ pieces) may at (inl inside) in_code =
        ⊎_elim (λ constant. inl (inl constant)) inr
        (one_constant_or_claimed piece.kind piece.range may.0 at.0 inside in_code)
    constant_or_claimed (piece ∷ pieces) may at (inr some) in_code =
        ⊎_elim (λ constant. inl (inr constant)) inr (constant_or_claimed pieces may.1 at.1 some in_code)

    one_own_in_code :
        (kind : PieceKind) (range : Range)
        → allowed code stack kind range ≡ true
        → HasByte a (record { kind = kind; range = range })
        → IsIn a code
        → ConstantByte a (record { kind = kind; range = range })
    one_own_in_code StaticPiece range may has in_code = absurd (static_apart_code range may a has.1 in_code)
    one_own_in_code ConstantPiece range may has in_code = (refl, has.1)
    one_own_in_code AtPiece range may has in_code = absurd (true≢false (sym has.0))

    own_in_code :
        (pieces : List PlacedPiece)
        → AllByRecursion (MayLie code stack) pieces
        → HaveByte a pieces
        → IsIn a code
        → Some_of (ConstantByte a) pieces
    own_in_code [] may have in_code = absurd have
    own_in_code (piece ∷ pieces) may (inl has) in_code =
        inl (one_own_in_code piece.kind piece.range may.0 has in_code)
    own_in_code (piece ∷ pieces) may (inr have) in_code = inr (own_in_code pieces may.1 have in_code)

    one_in_stack :
        (kind : PieceKind) (range : Range)
        → allowed code stack kind range ≡ true
        → at_allowed code stack table kind range
        → IsIn a range
        → IsIn a stack
        → ConstantByte a (record { kind = kind; range = range })
    unfolding may_lie_at
    one_in_stack StaticPiece range may at inside in_stack =
        absurd (static_apart_stack range may a inside in_stack)
    one_in_stack ConstantPiece range may at inside in_stack = (refl, inside)
    one_in_stack AtPiece range may at inside in_stack =
        absurd (ranges_apart range stack (each_of_three (ends_in_memory range) (not (ranges_meet range stack))
        (claimed_between (max range.start code.start)
        (min (range.start + range.len) (code.start + code.len)) table) at).1
        a inside in_stack)

    in_stack_constant :
        (pieces : List PlacedPiece)
        → AllByRecursion (MayLie code stack) pieces
        → AllByRecursion (AtMayLie code stack table) pieces
        → Some_of (λ (piece : PlacedPiece). IsIn a piece.range) pieces
        → IsIn a stack
        → Some_of (ConstantByte a) pieces
    in_stack_constant [] may at some in_stack = absurd some
    in_stack_constant (piece ∷ pieces) may at (inl inside) in_stack =
        inl (one_in_stack piece.kind piece.range may.0 at.0 inside in_stack)
    in_stack_constant (piece ∷ pieces) may at (inr some) in_stack =
        inr (in_stack_constant pieces may.1 at.1 some in_stack)

-- the table before any claim
none_claimed : (n a : ℕ) → get_or (replicate n false) a false ≡ false
none_claimed zero a = refl
none_claimed (suc n) zero = refl
none_claimed (suc n) (suc a) = none_claimed n a

none_in : (n : ℕ) (table : List Bool) → table ≡ replicate n false → (a : ℕ) → get_or table a false ≡ false
none_in n table same a = ap (λ table. get_or table a false) same ∙ none_claimed n a

as_long : (n : ℕ) (table : List Bool) → table ≡ replicate n false → length table ≡ n
as_long n table same = ap length same ∙ length-replicate n false

pub unclaimed_free : (a : ℕ) → get_or unclaimed a false ≡ false
unfolding unclaimed
unclaimed_free = none_in 65536 (replicate 65536 false) refl

pub unclaimed_long : length unclaimed ≡ 65536
unfolding unclaimed
unclaimed_long = as_long 65536 (replicate 65536 false) refl

-- sound
pub lie_lawfully :
    (code stack : Range) (pieces : List PlacedPiece) (table : List Bool)
    → claim_pieces code stack pieces unclaimed ≡ Some table
    → AllByRecursion (AtMayLie code stack table) pieces
    → LieLawfully code stack pieces
lie_lawfully code stack pieces table is at =
    let claimed : PiecesClaimed code stack pieces unclaimed table =
    pieces_claimed code stack pieces unclaimed table unclaimed_long is in
    record {
      in_memory = All-from_recursion (λ (piece : PlacedPiece). EndsInMemory piece.range) pieces
          (all_weaker (λ (piece : PlacedPiece). MayLie code stack piece × AtMayLie code stack table piece)
          (λ (piece : PlacedPiece). EndsInMemory piece.range)
          (λ piece both. one_ends code stack table piece.kind piece.range both.0 both.1) pieces
          (all_both (MayLie code stack) (AtMayLie code stack table) pieces claimed.may at));
      disjoint = pairs_in_filter has_own_place AreDisjoint pieces claimed.apart;
      constants_in_code = all_in_filter is_constant_piece (LiesIn code) pieces
          (all_weaker (MayLie code stack) (λ piece. is_constant_piece piece ≡ true → LiesIn code piece)
          (λ piece may. one_in_code code stack table piece.kind piece.range may) pieces claimed.may);
      not_in_code = λ a one variable in_code.
          let known : Some_of (ConstantByte a) pieces → ⊥ =
          λ (constant : Some_of (ConstantByte a) pieces). variable
          (any_in_filter is_constant_piece
          (λ (piece : PlacedPiece). IsIn a piece.range) pieces constant) in
          ⊎_elim known
          (λ (taken : get_or table a false ≡ true). ⊎_elim
          (λ (before : get_or unclaimed a false ≡ true). false_true (get_or unclaimed a false)
          (unclaimed_free a) before)
          (λ (have : HaveByte a pieces). known
          (own_in_code code stack table a pieces claimed.may have in_code))
          (claimed.came a taken))
          (constant_or_claimed code stack table a pieces claimed.may at
          (some_from_any (λ (piece : PlacedPiece). IsIn a piece.range) pieces one) in_code);
      not_in_stack = λ a one variable in_stack.
          variable (any_in_filter is_constant_piece (λ (piece : PlacedPiece). IsIn a piece.range) pieces
          (in_stack_constant code stack table a pieces claimed.may at
          (some_from_any (λ (piece : PlacedPiece). IsIn a piece.range) pieces one) in_stack));
    }
