-- What a module has lies in its segments, where these lie in memory.
use Rattle.placing.proofs.Prelude.{◌≡◌, ℕ, ◌+◌, ◌-◌, ◌%◌, ◌<◌, ◌≤◌, length, arith, mod-le, mod-eq_of_lt, Range, IsIn, Meets, TypedModule, constant_bytes, Segment, Code, Data, Slot, data_bytes, PieceKind, StaticPiece, ConstantPiece, AtPiece, PlacedPiece, range_of, EndsInMemory, AreDisjoint, Bases, address_of_slot}
use Rattle.placing.proofs.LawStorage.{Apart, apart_swap, FitsIn, Fits}
use Rattle.placing.proofs.LawSlots.{ApartIn, SlotsApart}

-- each byte of a range lies in another
abbrev pub LiesWithin : (outer inner : Range) → Type 0
LiesWithin outer inner = (address : ℕ) → IsIn address inner → IsIn address outer

-- Static objects lie in a part of DATA, constants in a part of CODE, and what has AT lies neither in CODE nor
-- in STACK.
abbrev pub LiesByKind : (code_part data_part code stack : Range) → Range → PieceKind → Type 0
LiesByKind code_part data_part code stack range StaticPiece = LiesWithin data_part range
LiesByKind code_part data_part code stack range ConstantPiece = LiesWithin code_part range
LiesByKind code_part data_part code stack range AtPiece = ¬ Meets range code × ¬ Meets range stack

pub record InPlace (code_part data_part code stack : Range) (piece : PlacedPiece) : Type 0 where
  pub ends : EndsInMemory piece.range
  pub lies : LiesByKind code_part data_part code stack piece.range piece.kind

-- what lies in a slot
abbrev pub kind_in : Segment → PieceKind
kind_in Code = ConstantPiece
kind_in Data = StaticPiece

abbrev pub slot_piece : Bases → Slot → PlacedPiece
slot_piece bases slot =
    record { kind = kind_in slot.segment; range = range_of (address_of_slot bases slot) slot.size }

-- an address modulo the size of memory is that address where something with a byte lies there
still_ends : (start rest size : ℕ) → rest ≤ start → start + size ≤ 65536 → rest + size ≤ 65536
still_ends start rest size less within = omega arith

starts_below : (start rest size x : ℕ) → start + size ≤ 65536 → rest ≤ x → x < rest + size → start < 65536
starts_below start rest size x within after before = omega arith

not_wrapped :
    (start size x : ℕ)
    → start + size ≤ 65536
    → start % 65536 ≤ x
    → x < start % 65536 + size
    → start % 65536 ≡ start
not_wrapped start size x within after before =
    mod-eq_of_lt {n = start} {m = 65536} (starts_below start (start % 65536) size x within after before)

slot_ends : (base offset size length : ℕ) → offset + size ≤ length → base + length ≤ 65536
    → base + offset + size ≤ 65536
slot_ends base offset size length fits within = omega arith

pub place_ends :
    (base offset size length : ℕ)
    → offset + size ≤ length
    → base + length ≤ 65536
    → (base + offset) % 65536 + size ≤ 65536
place_ends base offset size length fits within =
    still_ends (base + offset) ((base + offset) % 65536) size (mod-le (base + offset) 65536)
    (slot_ends base offset size length fits within)

in_part :
    (base offset size length rest x : ℕ)
    → offset + size ≤ length
    → rest ≡ base + offset
    → rest ≤ x
    → x < rest + size
    → (base ≤ x) × (x < base + length)
in_part base offset size length rest x fits is after before = (omega arith, omega arith)

pub place_within :
    (base offset size length : ℕ)
    → offset + size ≤ length
    → base + length ≤ 65536
    → LiesWithin (range_of base length) (range_of ((base + offset) % 65536) size)
place_within base offset size length fits within = λ x is_in.
    in_part base offset size length ((base + offset) % 65536) x fits
    (not_wrapped (base + offset) size x (slot_ends base offset size length fits within) is_in.0 is_in.1)
    is_in.0
    is_in.1

longer : (offset size one all : ℕ) → offset + size ≤ one → one ≤ all → offset + size ≤ all
longer offset size one all fits holds = omega arith

in_place_by_segment :
    (bases : Bases) (typed : TypedModule) (code_length : ℕ) (code stack : Range) (segment : Segment)
    (offset size : ℕ)
    → constant_bytes typed ≤ code_length
    → bases.code_base + code_length ≤ 65536
    → bases.data_base + data_bytes typed.objects ≤ 65536
    → FitsIn typed segment offset size
    → InPlace (range_of bases.code_base code_length)
    (range_of bases.data_base (data_bytes typed.objects)) code
    stack (slot_piece bases (record { segment = segment; offset = offset; size = size }))
in_place_by_segment bases typed code_length code stack Code offset size holds code_within data_within fits =
    let long : offset + size ≤ code_length =
    longer offset size (constant_bytes typed) code_length fits holds in
    record {
      ends = place_ends bases.code_base offset size code_length long code_within;
      lies = place_within bases.code_base offset size code_length long code_within;
    }
in_place_by_segment bases typed code_length code stack Data offset size holds code_within data_within fits =
    record {
      ends = place_ends bases.data_base offset size (data_bytes typed.objects) fits data_within;
      lies = place_within bases.data_base offset size (data_bytes typed.objects) fits data_within;
    }

pub slot_in_place :
    (bases : Bases) (typed : TypedModule) (code_length : ℕ) (code stack : Range)
    → constant_bytes typed ≤ code_length
    → bases.code_base + code_length ≤ 65536
    → bases.data_base + data_bytes typed.objects ≤ 65536
    → (slot : Slot)
    → Fits typed slot
    → InPlace (range_of bases.code_base code_length)
    (range_of bases.data_base (data_bytes typed.objects)) code
    stack (slot_piece bases slot)
slot_in_place bases typed code_length code stack holds code_within data_within slot fits =
    in_place_by_segment bases typed code_length code stack slot.segment slot.offset
    slot.size holds code_within
    data_within fits

-- slots that are apart
shifted :
    (base a m b n p q x : ℕ)
    → Apart a m b n
    → p ≡ base + a
    → q ≡ base + b
    → p ≤ x
    → x < p + m
    → q ≤ x
    → x < q + n
    → ⊥
shifted base a m b n p q x apart p_is q_is after before after' before' =
    apart (x - base) (omega arith) (omega arith) (omega arith) (omega arith)

same_segment :
    (base length a m b n : ℕ)
    → base + length ≤ 65536
    → a + m ≤ length
    → b + n ≤ length
    → Apart a m b n
    → ¬ Meets (range_of ((base + a) % 65536) m) (range_of ((base + b) % 65536) n)
same_segment base length a m b n within fits fits' apart = λ meets.
    shifted base a m b n ((base + a) % 65536) ((base + b) % 65536) meets.0 apart
    (not_wrapped (base + a) m meets.0 (slot_ends base a m length fits within) (meets.1).0 (meets.1).1)
    (not_wrapped (base + b) n meets.0 (slot_ends base b n length fits' within) (meets.2).0 (meets.2).1)
    (meets.1).0 (meets.1).1 (meets.2).0 (meets.2).1

pub never_meet :
    (one other inner inner' : Range)
    → Apart one.start one.len other.start other.len
    → LiesWithin one inner
    → LiesWithin other inner'
    → ¬ Meets inner inner'
never_meet one other inner inner' apart within within' = λ meets.
    apart meets.0 (within meets.0 meets.1).0 (within meets.0 meets.1).1 (within' meets.0 meets.2).0
    (within' meets.0 meets.2).1

apart_by_segment :
    (bases : Bases) (code_length : ℕ) (typed : TypedModule) (segment segment' : Segment)
    (a m b n : ℕ)
    → constant_bytes typed ≤ code_length
    → bases.code_base + code_length ≤ 65536
    → bases.data_base + data_bytes typed.objects ≤ 65536
    → Apart bases.code_base code_length bases.data_base (data_bytes typed.objects)
    → FitsIn typed segment a m
    → FitsIn typed segment' b n
    → ApartIn segment segment' a m b n
    → AreDisjoint (slot_piece bases (record { segment = segment; offset = a; size = m }))
    (slot_piece bases (record { segment = segment'; offset = b; size = n }))
apart_by_segment bases code_length typed Code Code a m b n holds code_within data_within
    apart fits fits' differ =
    same_segment bases.code_base code_length a m b n code_within
    (longer a m (constant_bytes typed) code_length fits holds)
    (longer b n (constant_bytes typed) code_length fits' holds) differ
apart_by_segment bases code_length typed Data Data a m b n holds code_within data_within
    apart fits fits' differ =
    same_segment bases.data_base (data_bytes typed.objects) a m b n data_within fits fits' differ
apart_by_segment bases code_length typed Code Data a m b n holds code_within data_within
    apart fits fits' differ =
    never_meet (range_of bases.code_base code_length) (range_of bases.data_base (data_bytes typed.objects))
    (range_of ((bases.code_base + a) % 65536) m) (range_of ((bases.data_base + b) % 65536) n) apart
    (place_within bases.code_base a m code_length
    (longer a m (constant_bytes typed) code_length fits holds) code_within)
    (place_within bases.data_base b n (data_bytes typed.objects) fits' data_within)
apart_by_segment bases code_length typed Data Code a m b n holds code_within data_within
    apart fits fits' differ =
    never_meet (range_of bases.data_base (data_bytes typed.objects)) (range_of bases.code_base code_length)
    (range_of ((bases.data_base + a) % 65536) m) (range_of ((bases.code_base + b) % 65536) n)
    (apart_swap bases.code_base code_length bases.data_base (data_bytes typed.objects) apart)
    (place_within bases.data_base a m (data_bytes typed.objects) fits data_within)
    (place_within bases.code_base b n code_length
    (longer b n (constant_bytes typed) code_length fits' holds) code_within)

pub slots_disjoint :
    (bases : Bases) (code_length : ℕ) (typed : TypedModule)
    → constant_bytes typed ≤ code_length
    → bases.code_base + code_length ≤ 65536
    → bases.data_base + data_bytes typed.objects ≤ 65536
    → Apart bases.code_base code_length bases.data_base (data_bytes typed.objects)
    → (one other : Slot)
    → Fits typed one
    → Fits typed other
    → SlotsApart one other
    → AreDisjoint (slot_piece bases one) (slot_piece bases other)
slots_disjoint bases code_length typed holds code_within data_within apart one other fits fits' differ =
    apart_by_segment bases code_length typed one.segment other.segment one.offset one.size
    other.offset other.size
    holds code_within data_within apart fits fits' differ
