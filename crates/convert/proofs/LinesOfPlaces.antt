-- The lines of places in a text.
use Rattle.std.proofs.Common.{◌≡◌, ◌≤◌, ◌<◌, ◌+◌, ◌-◌, ◌∙◌, ◌==◌, ℕ, suc, Bool, true, false, if◌then◌else◌, List, [], ◌∷◌, ◌++◌, length, take, slice_range, refl, ap, arith, length-take, take-add}
use Rattle.convert.specs.Origins.{line_at, line_feeds}

-- a line feed or another byte before a text
counted_once : (is : Bool) (n m : ℕ) → (if is then 1 + (n + m) else (n + m)) ≡ (if is then 1 + n else n) + m
counted_once true n m = omega arith
counted_once false n m = refl

none_before : (n : ℕ) → n ≡ 0 + n
none_before n = omega arith

pub feeds_append : (front back : List ℕ) → line_feeds (front ++ back) ≡ line_feeds front + line_feeds back
feeds_append [] back = none_before (line_feeds back)
feeds_append (c ∷ front) back =
    ap (λ (n : ℕ). if c == 10 then 1 + n else n) (feeds_append front back)
    ∙ counted_once (c == 10) (line_feeds front) (line_feeds back)

-- a text has no more line feeds than bytes
one_more : (is : Bool) (n m : ℕ) → n ≤ m → (if is then 1 + n else n) ≤ suc m
one_more true n m few = omega (arith, few)
one_more false n m few = omega (arith, few)

feeds_few : (text : List ℕ) → line_feeds text ≤ length text
feeds_few [] = omega arith
feeds_few (c ∷ text) = one_more (c == 10) (line_feeds text) (length text) (feeds_few text)

feeds_between : (source : List ℕ) (from to : ℕ) → from ≤ to
    → line_feeds (take to source) ≡ line_feeds (take from source) + line_feeds (slice_range source from to)
feeds_between source from to ordered =
    let far : to ≡ from + (to - from) = omega (arith, ordered) in
    ap (λ (n : ℕ). line_feeds (take n source)) far ∙ ap line_feeds (take-add from (to - from) source)
    ∙ feeds_append (take from source) (slice_range source from to)

-- the line of a place comes by the line feeds after that of one before it
pub further : (source : List ℕ) (from to line count : ℕ) → from ≤ to → line ≡ line_at source from
    → count ≡ line_feeds (slice_range source from to) → line + count ≡ line_at source to
further source from to line count ordered line_is count_is =
    omega (arith, line_is, count_is, feeds_between source from to ordered)

-- no text has so many lines that they can't be counted
pub countable : (source : List ℕ) (from to line count : ℕ) → from ≤ to → line ≡ line_at source from
    → count ≡ line_feeds (slice_range source from to) → length source < 9223372036854775808
    → line + count ≤ 18446744073709551615
countable source from to line count ordered line_is count_is short =
    omega (arith, short, further source from to line count ordered line_is count_is, feeds_few (take to source), length-take to source)

-- the line of a place is one more than the line feeds before it
pub from_the_top : (source before : List ℕ) (place count : ℕ) → before ≡ take place source
    → count ≡ line_feeds before → count + 1 ≡ line_at source place
from_the_top source before place count before_is count_is =
    omega (arith, count_is, ap line_feeds before_is)
