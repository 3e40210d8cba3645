-- Tests that the code has from elsewhere.
use Rattle.locate.proofs.Prelude.{◌≡◌, Bool, ◌↔◌, IsTrue, Range, Meets, ranges_meet, same_test}
use Rattle.mem80.proofs.Ranges.{meets_decides}

pub meet_is : (result : Bool) (left right : Range) → IsTrue result ↔ Meets left right
    → result ≡ ranges_meet left right
meet_is result left right meets = same_test result (ranges_meet left right) meets (meets_decides left right)
