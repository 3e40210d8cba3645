-- What the test of overlapping ranges says, and that a list without bytes lies in every range.
use Rattle.layout.proofs.Prelude.{ℕ, ◌+◌, ◌<◌, ◌≤◌, arith, ◌↔◌, max, min, [], IsTrue, lt-ltb, ltb-true, Range, Meets, list_piece, LiesIn}
use Rattle.layout.specs.Placing.{overlaps}

-- the greater of the starts lies in both
greater_start : (a m b n : ℕ) → max a b < min (a + m) (b + n) → max a b < a + m
greater_start a m b n below = omega arith

other_start : (a m b n : ℕ) → max a b < min (a + m) (b + n) → max a b < b + n
other_start a m b n below = omega arith

left_start : (a b : ℕ) → a ≤ max a b
left_start a b = omega arith

right_start : (a b : ℕ) → b ≤ max a b
right_start a b = omega arith

starts_below : (a m b n x : ℕ) → a ≤ x → x < a + m → b ≤ x → x < b + n → max a b < min (a + m) (b + n)
starts_below a m b n x after before after' before' = omega arith

-- the test of ranges is whether they meet
pub overlaps_meets : (left right : Range) → IsTrue (overlaps left right) ↔ Meets left right
overlaps_meets left right = (
  λ yes.
      let below : max left.start right.start < min (left.start + left.len) (right.start + right.len) =
      ltb-true (max left.start right.start) (min (left.start + left.len) (right.start + right.len)) yes in (
        max left.start right.start,
        (left_start left.start right.start, greater_start left.start left.len right.start right.len below),
        (right_start left.start right.start, other_start left.start left.len right.start right.len below),
      ),
  λ meets.
      lt-ltb (max left.start right.start) (min (left.start + left.len) (right.start + right.len))
      (starts_below left.start left.len right.start right.len meets.0 (meets.1).0 (meets.1).1 (meets.2).0
      (meets.2).1),
)

no_address : (start address : ℕ) → start ≤ address → address < start + 0 → ⊥
no_address start address after before = omega arith

-- a list without bytes lies in each range
pub empty_lies_anywhere : (outer : Range) (start : ℕ) → LiesIn outer (list_piece ([], start))
empty_lies_anywhere outer start = λ address is_in. absurd (no_address start address is_in.0 is_in.1)
