-- What the claims of pieces say: each may lie where it does, no two share a byte, and the table has their bytes.
use Rattle.placing.proofs.Prelude.{◌≡◌, ℕ, ◌+◌, ◌<◌, ◌≤◌, Bool, true, false, not, List, [], ◌∷◌, length, get_or, Option, Some, None, refl, ap, sym, ◌∙◌, arith, ◌⊎◌, option_and_then, AllByRecursion, true≢false, inl, inr, ⊎_elim, and_parts, cases_lt, Range, IsIn, PieceKind, StaticPiece, ConstantPiece, AtPiece, PlacedPiece, EndsInMemory, has_own_place, AreDisjoint, claim_between, claim_if, may_hold_variables, may_hold_constants, ends_in_memory, ranges_meet, is_within, claim_by_kind, claim_piece, claim_pieces, false_from_ne_true}
use Rattle.placing.proofs.Claiming.{ends_in_memory_holds, each_of_three}
use Rattle.placing.proofs.ClaimedBytes.{BytesClaimed, between_claimed, between_can}
use Rattle.placing.proofs.SomePieces.{Some_of, Pairs_of}

-- a piece with a place of its own has a byte
abbrev pub HasByte : (a : ℕ) → PlacedPiece → Type 0
HasByte a piece = (has_own_place piece ≡ true) × IsIn a piece.range

abbrev pub HaveByte : (a : ℕ) → List PlacedPiece → Type 0
HaveByte a pieces = Some_of (HasByte a) pieces

-- whether a piece of a kind may lie in a range, but for others
abbrev pub allowed : (code stack : Range) → PieceKind → Range → Bool
allowed code stack StaticPiece range = may_hold_variables code stack range
allowed code stack ConstantPiece range = may_hold_constants code range
allowed code stack AtPiece range = true

abbrev pub MayLie : (code stack : Range) → PlacedPiece → Type 0
MayLie code stack piece = allowed code stack piece.kind piece.range ≡ true

pub record PieceClaimed (code stack : Range) (piece : PlacedPiece) (before after : List Bool) : Type 0 where
  pub same_length : length after ≡ length before
  pub may : MayLie code stack piece
  pub free : (a : ℕ) → HasByte a piece → get_or before a false ≡ false
  pub marked : (a : ℕ) → HasByte a piece → get_or after a false ≡ true
  pub came : (a : ℕ) → get_or after a false ≡ true → (get_or before a false ≡ true) ⊎ HasByte a piece
  pub still : (a : ℕ) → get_or before a false ≡ true → get_or after a false ≡ true

from_bytes :
    (code stack : Range) (piece : PlacedPiece) (before after : List Bool)
    → has_own_place piece ≡ true
    → MayLie code stack piece
    → BytesClaimed piece.range.start (piece.range.start + piece.range.len) before after
    → PieceClaimed code stack piece before after
from_bytes code stack piece before after own may claimed = record {
  same_length = claimed.same_length;
  may = may;
  free = λ a (has : HasByte a piece). let inside : IsIn a piece.range =
      has.1 in claimed.free a inside.0 inside.1;
  marked =
      λ a (has : HasByte a piece). let inside : IsIn a piece.range =
      has.1 in claimed.marked a inside.0 inside.1;
  came = λ a marked. ⊎_elim
      (λ (low : a < piece.range.start). inl (sym (claimed.below a low) ∙ marked))
      (λ (high : piece.range.start ≤ a). ⊎_elim
      (λ (short : a < piece.range.start + piece.range.len). inr (own, (high, short)))
      (λ (past : piece.range.start + piece.range.len ≤ a). inl (sym (claimed.above a past) ∙ marked))
      (cases_lt a (piece.range.start + piece.range.len)))
      (cases_lt a piece.range.start);
  still = λ a marked. ⊎_elim
      (λ (low : a < piece.range.start). claimed.below a low ∙ marked)
      (λ (high : piece.range.start ≤ a). ⊎_elim
      (λ (short : a < piece.range.start + piece.range.len). claimed.marked a high short)
      (λ (past : piece.range.start + piece.range.len ≤ a). claimed.above a past ∙ marked)
      (cases_lt a (piece.range.start + piece.range.len)))
      (cases_lt a piece.range.start);
}

if_claimed :
    (test : Bool) (range : Range) (before after : List Bool)
    → claim_if test range before ≡ Some after
    → (test ≡ true) × (claim_between range.start (range.start + range.len) before ≡ Some after)
if_claimed true range before after is = (refl, is)
if_claimed false range before after is = absurd (cc)

own_claimed :
    (code stack : Range) (piece : PlacedPiece) (before after : List Bool)
    → length before ≡ 65536
    → has_own_place piece ≡ true
    → (allowed code stack piece.kind piece.range ≡ true → EndsInMemory piece.range)
    → claim_if (allowed code stack piece.kind piece.range) piece.range before ≡ Some after
    → PieceClaimed code stack piece before after
own_claimed code stack piece before after long own then_ends is =
    let both = if_claimed (allowed code stack piece.kind piece.range) piece.range before after is in
    let within : EndsInMemory piece.range = then_ends both.0 in
    from_bytes code stack piece before after own both.0
    (between_claimed piece.range.start (piece.range.start + piece.range.len) before after
    (omega arith) (omega (arith, within, long)) both.1)

pub variables_end :
    (code stack range : Range)
    → may_hold_variables code stack range ≡ true
    → EndsInMemory range
variables_end code stack range may =
    ends_in_memory_holds range
    (each_of_three (ends_in_memory range) (not (ranges_meet range code))
    (not (ranges_meet range stack)) may).0

pub constants_end : (code range : Range) → may_hold_constants code range ≡ true → EndsInMemory range
constants_end code range may =
    ends_in_memory_holds range (and_parts (ends_in_memory range) (is_within code range) may).0

by_kind :
    (code stack : Range) (kind : PieceKind) (range : Range) (before after : List Bool)
    → length before ≡ 65536
    → claim_by_kind code stack kind range before ≡ Some after
    → PieceClaimed code stack (record { kind = kind; range = range }) before after
by_kind code stack StaticPiece range before after long is =
    own_claimed code stack (record { kind = StaticPiece; range = range }) before after long refl
    (variables_end code stack range) is
by_kind code stack ConstantPiece range before after long is =
    own_claimed code stack (record { kind = ConstantPiece; range = range }) before after long refl
    (constants_end code range) is
by_kind code stack AtPiece range before after long is =
    let same : before ≡ after = cc in
    record {
      same_length = sym (ap length same);
      may = refl;
      free = λ a (has : HasByte a (record { kind = AtPiece; range = range })). absurd
          (true≢false (sym has.0));
      marked =
          λ a (has : HasByte a (record { kind = AtPiece; range = range })). absurd (true≢false (sym has.0));
      came = λ a marked. inl (ap (λ table. get_or table a false) same ∙ marked);
      still = λ a marked. sym (ap (λ table. get_or table a false) same) ∙ marked;
    }

pub piece_claimed :
    (code stack : Range) (piece : PlacedPiece) (before after : List Bool)
    → length before ≡ 65536
    → claim_piece code stack piece before ≡ Some after
    → PieceClaimed code stack piece before after
unfolding claim_piece
piece_claimed code stack piece before after long is =
    by_kind code stack piece.kind piece.range before after long is

own_can :
    (test : Bool) (range : Range) (before : List Bool)
    → length before ≡ 65536
    → test ≡ true
    → EndsInMemory range
    → ((a : ℕ) → IsIn a range → get_or before a false ≡ false)
    → (after : List Bool) × (claim_if test range before ≡ Some after)
own_can true range before long test within free =
    between_can range.start (range.start + range.len) before (omega arith) (omega arith)
    (λ a low high. free a (low, high))
own_can false range before long test within free = absurd (cc)

kind_can :
    (code stack : Range) (kind : PieceKind) (range : Range) (before : List Bool)
    → length before ≡ 65536
    → allowed code stack kind range ≡ true
    → ((a : ℕ) → HasByte a (record { kind = kind; range = range }) → get_or before a false ≡ false)
    → (after : List Bool) × (claim_by_kind code stack kind range before ≡ Some after)
kind_can code stack StaticPiece range before long may free =
    own_can (may_hold_variables code stack range) range before long may (variables_end code stack range may)
    (λ a inside. free a (refl, inside))
kind_can code stack ConstantPiece range before long may free =
    own_can (may_hold_constants code range) range before long may (constants_end code range may)
    (λ a inside. free a (refl, inside))
kind_can code stack AtPiece range before long may free = (before, refl)

pub piece_can :
    (code stack : Range) (piece : PlacedPiece) (before : List Bool)
    → length before ≡ 65536
    → MayLie code stack piece
    → ((a : ℕ) → HasByte a piece → get_or before a false ≡ false)
    → (after : List Bool) × (claim_piece code stack piece before ≡ Some after)
unfolding claim_piece
piece_can code stack piece before long may free =
    kind_can code stack piece.kind piece.range before long may free

-- pieces one after another
pub record PiecesClaimed (code stack : Range) (pieces : List PlacedPiece)
    (before after : List Bool) : Type 0 where
  pub may : AllByRecursion (MayLie code stack) pieces
  pub apart : Pairs_of has_own_place AreDisjoint pieces
  pub free : (a : ℕ) → HaveByte a pieces → get_or before a false ≡ false
  pub marked : (a : ℕ) → HaveByte a pieces → get_or after a false ≡ true
  pub came : (a : ℕ) → get_or after a false ≡ true → (get_or before a false ≡ true) ⊎ HaveByte a pieces
  pub still : (a : ℕ) → get_or before a false ≡ true → get_or after a false ≡ true

apart_from :
    (piece : PlacedPiece) (others : List PlacedPiece)
    → ((a : ℕ) → IsIn a piece.range → HaveByte a others → ⊥)
    → AllByRecursion (λ other. has_own_place other ≡ true → AreDisjoint piece other) others
apart_from piece [] none = tt
apart_from piece (other ∷ others) none =
    ((λ own meets. none meets.0 meets.1 (inl (own, meets.2))), apart_from piece others (λ a inside have. none a inside (inr have)))

pub no_byte_of :
    (piece : PlacedPiece) (others : List PlacedPiece)
    → AllByRecursion (λ other. has_own_place other ≡ true → AreDisjoint piece other) others
    → (a : ℕ)
    → IsIn a piece.range
    → HaveByte a others
    → ⊥
no_byte_of piece [] apart a inside have = absurd have
no_byte_of piece (other ∷ others) apart a inside (inl has) = apart.0 has.0 (a, inside, has.1)
no_byte_of piece (other ∷ others) apart a inside (inr have) = no_byte_of piece others apart.1 a inside have

pub false_true : (b : Bool) → b ≡ false → b ≡ true → ⊥
false_true true is_false is_true = true≢false is_false
false_true false is_false is_true = true≢false (sym is_true)

claimed_first :
    (code stack : Range) (piece : PlacedPiece) (others : List PlacedPiece) (before between after : List Bool)
    → PieceClaimed code stack piece before between
    → PiecesClaimed code stack others between after
    → PiecesClaimed code stack (piece ∷ others) before after
claimed_first code stack piece others before between after one rest = record {
  may = (one.may, rest.may);
  apart = (
    (λ own. apart_from piece others
        (λ a inside have. false_true (get_or between a false) (rest.free a have)
        (one.marked a (own, inside)))),
    rest.apart,
  );
  free = λ a (have : HaveByte a (piece ∷ others)). ⊎_elim (one.free a)
      (λ (have : HaveByte a others). was_free (get_or before a false) refl (one.still a) (rest.free a have))
      have;
  marked =
      λ a (have : HaveByte a (piece ∷ others)). ⊎_elim (λ has. rest.still a (one.marked a has))
      (rest.marked a) have;
  came = λ a marked. ⊎_elim (λ earlier. ⊎_elim inl (λ has. inr (inl has)) (one.came a earlier))
      (λ have. inr (inr have)) (rest.came a marked);
  still = λ a marked. rest.still a (one.still a marked);
}
  where
    was_free : {now : Bool} (b : Bool) → b ≡ b → (b ≡ true → now ≡ true) → now ≡ false → b ≡ false
    was_free true same still free = absurd (false_true _ free (still refl))
    was_free false same still free = refl

after_some :
    (f : List Bool → Option (List Bool)) (first : Option (List Bool)) (after : List Bool)
    → option_and_then f first ≡ Some after
    → (between : List Bool) × (first ≡ Some between) × (f between ≡ Some after)
after_some f None after is = absurd (cc)
after_some f (Some between) after is = (between, refl, is)

pub pieces_claimed :
    (code stack : Range) (pieces : List PlacedPiece) (before after : List Bool)
    → length before ≡ 65536
    → claim_pieces code stack pieces before ≡ Some after
    → PiecesClaimed code stack pieces before after
pieces_claimed code stack [] before after long is =
    let same : before ≡ after = cc in
    record {
      may = tt;
      apart = tt;
      free = λ a (have : ⊥). absurd have;
      marked = λ a (have : ⊥). absurd have;
      came = λ a marked. inl (ap (λ table. get_or table a false) same ∙ marked);
      still = λ a marked. sym (ap (λ table. get_or table a false) same) ∙ marked;
    }
pieces_claimed code stack (piece ∷ others) before after long is =
    let found = after_some (claim_pieces code stack others) (claim_piece code stack piece before) after is in
    let one = piece_claimed code stack piece before found.0 long found.1 in
    claimed_first code stack piece others before found.0 after one
    (pieces_claimed code stack others found.0 after (one.same_length ∙ long) found.2)

pub pieces_can :
    (code stack : Range) (pieces : List PlacedPiece) (before : List Bool)
    → length before ≡ 65536
    → AllByRecursion (MayLie code stack) pieces
    → Pairs_of has_own_place AreDisjoint pieces
    → ((a : ℕ) → HaveByte a pieces → get_or before a false ≡ false)
    → (after : List Bool) × (claim_pieces code stack pieces before ≡ Some after)
pieces_can code stack [] before long may apart free = (before, refl)
pieces_can code stack (piece ∷ others) before long may apart free =
    let first = piece_can code stack piece before long may.0 (λ a has. free a (inl has)) in
    let one = piece_claimed code stack piece before first.0 long first.1 in
    let rest = pieces_can code stack others first.0 (one.same_length ∙ long) may.1 apart.1
    (λ a have. false_from_ne_true (get_or first.0 a false)
    (λ marked. ⊎_elim
    (λ (earlier : get_or before a false ≡ true). false_true (get_or before a false)
    (free a (inr have)) earlier)
    (λ (has : HasByte a piece). no_byte_of piece others (apart.0 has.0) a has.1 have)
    (one.came a marked))) in
    (rest.0, ap (option_and_then (claim_pieces code stack others)) first.1 ∙ rest.1)
