-- Tests of ranges, where a length stops at the greatest of 32 bits.
use Rattle.placing.proofs.Prelude.{◌≡◌, ℕ, ◌+◌, ◌<◌, Bool, true, min, ap, sym, ◌∙◌, arith, ◌↔◌, ◌||◌, IsTrue, dec_le, lt-ltb, Range, Meets, range_of, overlaps, passes_memory, may_not_lie, overlaps_meets, same_test}

pub overlap_is : (result : Bool) (left right : Range) → IsTrue result ↔ Meets left right
    → result ≡ overlaps left right
overlap_is result left right meets = same_test result (overlaps left right) meets (overlaps_meets left right)

-- what is larger than a capped length passes the end of memory with both
passes : (start len : ℕ) → 65536 < len → passes_memory (range_of start len) ≡ true
passes start len large = lt-ltb 65536 (start + len) (omega arith)

pub capped_object :
    (code stack : Range) (start size len : ℕ)
    → len ≡ min size 4294967295
    → may_not_lie code stack (range_of start len) ≡ may_not_lie code stack (range_of start size)
capped_object code stack start size len is = elim (dec_le size 4294967295) [
  | yes small ↦ ap (λ n. may_not_lie code stack (range_of start n))
      (let e : len ≡ size = omega (arith, small) in e)
  | no large ↦
      ap (λ b. b || overlaps (range_of start len) code || overlaps (range_of start len) stack)
      (passes start len (omega (arith, large)))
      ∙ sym (ap (λ b. b || overlaps (range_of start size) code || overlaps (range_of start size) stack)
      (passes start size (omega (arith, large))))
]
