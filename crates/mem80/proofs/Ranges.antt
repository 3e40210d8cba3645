-- What the test of ranges says.
use Rattle.std.proofs.Common.{◌+◌, arith}
use Rattle.std.specs.Prelude.{◌↔◌, max, min, IsTrue}
use Rattle.std.proofs.lemmas.Bool.{lt-ltb, ltb-true}
use Rattle.mem80.specs.declared.range.Range.{Range}
use Rattle.mem80.specs.Range.{Meets, ranges_meet}

-- ranges meet where the test of them holds
pub meets_decides : (left right : Range) → IsTrue (ranges_meet left right) ↔ Meets left right
meets_decides left right = (
  (λ is.
      let below =
      ltb-true (max left.start right.start) (min (left.start + left.len) (right.start + right.len)) is in
      (max left.start right.start, (omega arith, omega arith), (omega arith, omega arith))),
  (λ both.
      let first = both.1 in
      let second = both.2 in
      lt-ltb (max left.start right.start)
      (min (left.start + left.len) (right.start + right.len)) (omega arith)),
)
