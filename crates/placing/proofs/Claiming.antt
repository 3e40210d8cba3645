-- Claiming bytes one after another, and the tests on ranges.
use Rattle.placing.proofs.Prelude.{◌≡◌, ℕ, suc, ◌+◌, ◌-◌, ◌<◌, ◌≤◌, min, max, Bool, true, false, not, ◌&&◌, List, get_or, set, Option, Some, None, if◌then◌else◌, IsTrue, refl, ap, sym, ◌∙◌, arith, ◌↔◌, Decides, dec_le, le-leb, leb-true, ltb-true, lt-ltb, lt-leb, same_from_decides, Range, Meets, StaticPiece, ConstantPiece, EndsInMemory, range_of, claim_bytes, claim_between, are_claimed, claimed_between, ends_in_memory, ranges_meet, claim_by_kind, may_lie_at, ranges_fit}

one_more : (address end : ℕ) → address < end → end - address ≡ suc (end - suc address)
one_more address end below = omega arith

module _ (address end : ℕ) (table : List Bool) (all : Option (List Bool)) where
  step :
      (taken : Bool)
      → get_or table address false ≡ taken
      → address < end
      → claim_between address end table
      ≡ (if taken then None else claim_between (suc address) end (set table address true))
  unfolding claim_between
  step taken is below =
      ap (λ n. claim_bytes n address table) (one_more address end below)
      ∙ ap (λ (b : Bool). if b then None else claim_bytes (end - suc address) (suc address)
      (set table address true)) is

  pub claim_next :
      claim_between address end table ≡ all
      → address < end
      → get_or table address false ≡ false
      → claim_between (address + 1) end (set table address true) ≡ all
  claim_next so_far below free =
      let next : address + 1 ≡ suc address = omega arith in
      ap (λ n. claim_between n end (set table address true)) next ∙ sym (step false free below) ∙ so_far

  pub claim_twice :
      claim_between address end table ≡ all → address < end → get_or table address false ≡ true → None ≡ all
  claim_twice so_far below taken = sym (step true taken below) ∙ so_far

  pub claim_end : claim_between address end table ≡ all → end ≤ address → Some table ≡ all
  unfolding claim_between
  claim_end so_far past =
      let none : 0 ≡ end - address = omega arith in
      ap (λ n. claim_bytes n address table) none ∙ so_far

module _ (address end : ℕ) (table : List Bool) (all : Bool) where
  next_claimed :
      (taken : Bool)
      → get_or table address false ≡ taken
      → address < end
      → claimed_between address end table ≡ (taken && claimed_between (suc address) end table)
  unfolding claimed_between
  next_claimed taken is below =
      ap (λ n. are_claimed n address table) (one_more address end below)
      ∙ ap (λ (b : Bool). b && are_claimed (end - suc address) (suc address) table) is

  pub claimed_next :
      claimed_between address end table ≡ all
      → address < end
      → get_or table address false ≡ true
      → claimed_between (address + 1) end table ≡ all
  claimed_next so_far below taken =
      let next : address + 1 ≡ suc address = omega arith in
      ap (λ n. claimed_between n end table) next ∙ sym (next_claimed true taken below) ∙ so_far

  pub claimed_gap :
      claimed_between address end table ≡ all
      → address < end
      → get_or table address false ≡ false
      → false ≡ all
  claimed_gap so_far below free = sym (next_claimed false free below) ∙ so_far

  pub claimed_end : claimed_between address end table ≡ all → end ≤ address → true ≡ all
  unfolding claimed_between
  claimed_end so_far past =
      let none : 0 ≡ end - address = omega arith in
      ap (λ n. are_claimed n address table) none ∙ so_far

-- the tests on ranges
pub ends_in_memory_holds : (range : Range) → ends_in_memory range ≡ true → EndsInMemory range
unfolding ends_in_memory
ends_in_memory_holds range is = leb-true (range.start + range.len) 65536 is

pub ends_true : (range : Range) → EndsInMemory range → ends_in_memory range ≡ true
unfolding ends_in_memory
ends_true range within = le-leb (range.start + range.len) 65536 within

pub ends_past_memory : (range : Range) → 65536 < range.start + range.len → ends_in_memory range ≡ false
unfolding ends_in_memory
ends_past_memory range beyond = lt-leb (range.start + range.len) 65536 beyond

pub meets_decides : (left right : Range) → Decides (ranges_meet left right) (Meets left right)
unfolding ranges_meet
meets_decides left right = (
  (λ is.
      let below =
      ltb-true (max left.start right.start) (min (left.start + left.len) (right.start + right.len)) is in
      (max left.start right.start, (omega arith, omega arith), (omega arith, omega arith))),
  (λ both.
      let first = both.1 in
      let second = both.2 in
      lt-ltb (max left.start right.start)
      (min (left.start + left.len) (right.start + right.len)) (omega arith)),
)

pub meets_same :
    (result : Bool) (left right : Range) → (IsTrue result ↔ Meets left right)
    → result ≡ ranges_meet left right
meets_same result left right decides =
    same_from_decides result (ranges_meet left right) decides (meets_decides left right)

-- what has more bytes than memory
pub long_list :
    (code stack : Range) (start size : ℕ) (table : List Bool)
    → 65536 < size
    → claim_by_kind code stack ConstantPiece (range_of start size) table ≡ None
long_list code stack start size table long = rw (ends_past_memory (range_of start size) (omega arith)) refl

long_variables :
    (code stack : Range) (start size : ℕ) (table : List Bool)
    → 65536 < size
    → claim_by_kind code stack StaticPiece (range_of start size) table ≡ None
long_variables code stack start size table long =
    rw (ends_past_memory (range_of start size) (omega arith)) refl

-- a size that stops at the greatest number of 32 bits
pub capped_variables :
    (code stack : Range) (start size : ℕ) (table : List Bool)
    → claim_by_kind code stack StaticPiece (range_of start (min size 4294967295)) table
    ≡ claim_by_kind code stack StaticPiece (range_of start size) table
capped_variables code stack start size table =
    elim (dec_le size 4294967295) [
      | yes small ↦ ap (λ n. claim_by_kind code stack StaticPiece (range_of start n) table)
          (let e : min size 4294967295 ≡ size = omega (arith, small) in e)
      | no large ↦
          long_variables code stack start (min size 4294967295) table (omega (arith, large))
          ∙ sym (long_variables code stack start size table (omega (arith, large)))
    ]

pub capped_constants :
    (code stack : Range) (start size : ℕ) (table : List Bool)
    → claim_by_kind code stack ConstantPiece (range_of start (min size 4294967295)) table
    ≡ claim_by_kind code stack ConstantPiece (range_of start size) table
capped_constants code stack start size table =
    elim (dec_le size 4294967295) [
      | yes small ↦ ap (λ n. claim_by_kind code stack ConstantPiece (range_of start n) table)
          (let e : min size 4294967295 ≡ size = omega (arith, small) in e)
      | no large ↦
          long_list code stack start (min size 4294967295) table (omega (arith, large))
          ∙ sym (long_list code stack start size table (omega (arith, large)))
    ]

past_at :
    (code stack : Range) (start size : ℕ) (table : List Bool)
    → 65536 < size
    → may_lie_at code stack table (range_of start size) ≡ false
unfolding may_lie_at
past_at code stack start size table long = rw (ends_past_memory (range_of start size) (omega arith)) refl

pub capped_at :
    (code stack : Range) (start size : ℕ) (table : List Bool)
    → may_lie_at code stack table (range_of start (min size 4294967295))
    ≡ may_lie_at code stack table (range_of start size)
capped_at code stack start size table =
    elim (dec_le size 4294967295) [
      | yes small ↦ ap (λ n. may_lie_at code stack table (range_of start n))
          (let e : min size 4294967295 ≡ size = omega (arith, small) in e)
      | no large ↦
          past_at code stack start (min size 4294967295) table (omega (arith, large))
          ∙ sym (past_at code stack start size table (omega (arith, large)))
    ]

pub each_of_three : (a b c : Bool) → a && b && c ≡ true → (a ≡ true) × (b ≡ true) × (c ≡ true)
each_of_three true true true all = (refl, refl, refl)
each_of_three false b c all = absurd (cc)
each_of_three true false c all = absurd (cc)
each_of_three true true false all = absurd (cc)

pub all_three : (a b c : Bool) → a ≡ true → b ≡ true → c ≡ true → a && b && c ≡ true
all_three a b c first second third = rw (first, second, third) refl

pub code_ends : (code stack : Range) → ranges_fit code stack ≡ true → code.start + code.len ≤ 65536
unfolding ranges_fit
code_ends code stack fit =
    ends_in_memory_holds code (each_of_three (ends_in_memory code) (ends_in_memory stack) (not (ranges_meet code stack)) fit).0
