-- The results of the machine's operations on bytes, in terms of the source's operators, and the flags after
-- them.
use Rattle.code_meaning.proofs.Prelude.{◌≡◌, ◌≢◌, ℕ, ◌+◌, ◌-◌, ◌*◌, ◌/◌, ◌%◌, ◌<◌, ◌≤◌, ◌==◌, Bool, true, false, not, nat_lt, nat_le, if◌then◌else◌, refl, sym, ap, ◌∙◌, arith, ltb-true, ltb-false, lt-ltb, le-ltb, leb-true, leb-false, le-leb, lt-leb, eqb-true, eqb-false, eq-eqb, ne_eqb, Flags, bit, subtract_of, add_of, increment_of, decrement_of}

-- a difference modulo 256
pub difference_is :
    (x y : ℕ) → x < 256 → y < 256
    → (subtract_of x y false).value ≡ (x + (256 - y)) % 256
difference_is x y one two = omega (arith, one, two)

-- two tests with the same result
pub same_test :
    (one other : Bool)
    → (one ≡ true → other ≡ true)
    → (one ≡ false → other ≡ false)
    → one ≡ other
same_test true other when unless = sym (when refl)
same_test false other when unless = sym (unless refl)

-- the borrow shows that the first is less
pub borrow_shows :
    (x y : ℕ) → y < 256
    → (subtract_of x y false).flags.cy ≡ nat_lt x y
borrow_shows x y two =
    sym (same_test (nat_lt x y) (nat_lt (x + (255 - y) + 1) 256)
    (λ here. lt-ltb (x + (255 - y) + 1) 256 (omega (arith, two, ltb-true x y here)))
    (λ here. le-ltb (x + (255 - y) + 1) 256 (omega (arith, two, ltb-false x y here))))

-- with a borrow before it, that the first is less than the second with the borrow added
pub borrow_shows_more :
    (x y : ℕ) (borrow : Bool) → y < 256
    → (subtract_of x y borrow).flags.cy ≡ nat_lt x (y + bit borrow)
borrow_shows_more x y true two =
    sym (same_test (nat_lt x (y + 1)) (nat_lt (x + (255 - y) + 0) 256)
    (λ here. lt-ltb (x + (255 - y) + 0) 256 (omega (arith, two, ltb-true x (y + 1) here)))
    (λ here. le-ltb (x + (255 - y) + 0) 256 (omega (arith, two, ltb-false x (y + 1) here))))
borrow_shows_more x y false two =
    sym (same_test (nat_lt x (y + 0)) (nat_lt (x + (255 - y) + 1) 256)
    (λ here. lt-ltb (x + (255 - y) + 1) 256 (omega (arith, two, ltb-true x (y + 0) here)))
    (λ here. le-ltb (x + (255 - y) + 1) 256 (omega (arith, two, ltb-false x (y + 0) here))))

-- the zero flag shows that they are equal
pub zero_shows :
    (x y : ℕ) → x < 256 → y < 256
    → (subtract_of x y false).flags.z ≡ (x == y)
zero_shows x y one two =
    sym (same_test (x == y) ((x + (255 - y) + 1) % 256 == 0)
    (λ here. eq-eqb ((x + (255 - y) + 1) % 256) 0 (omega (arith, one, two, eqb-true x y here)))
    (λ here. ne_eqb ((x + (255 - y) + 1) % 256) 0
    (λ same. eqb-false x y here (omega (arith, one, two, same)))))

-- an ADDRESS is less by its high bytes and the borrow of its low ones
pub word_borrow :
    (high low other_high other_low : ℕ)
    → low < 256
    → other_low < 256
    → nat_lt high (other_high + bit (nat_lt low other_low))
    ≡ nat_lt (256 * high + low) (256 * other_high + other_low)
word_borrow high low other_high other_low one two = by_low (nat_lt low other_low) refl
  where
    by_low : (less : Bool) → nat_lt low other_low ≡ less
        → nat_lt high (other_high + bit less) ≡ nat_lt (256 * high + low) (256 * other_high + other_low)
    by_low true here =
        same_test (nat_lt high (other_high + 1)) (nat_lt (256 * high + low) (256 * other_high + other_low))
        (λ less. lt-ltb (256 * high + low) (256 * other_high + other_low)
        (omega (arith, one, two, ltb-true low other_low here, ltb-true high (other_high + 1) less)))
        (λ less. le-ltb (256 * high + low) (256 * other_high + other_low)
        (omega (arith, one, two, ltb-true low other_low here, ltb-false high (other_high + 1) less)))
    by_low false here =
        same_test (nat_lt high (other_high + 0)) (nat_lt (256 * high + low) (256 * other_high + other_low))
        (λ less. lt-ltb (256 * high + low) (256 * other_high + other_low)
        (omega (arith, one, two, ltb-false low other_low here, ltb-true high (other_high + 0) less)))
        (λ less. le-ltb (256 * high + low) (256 * other_high + other_low)
        (omega (arith, one, two, ltb-false low other_low here, ltb-false high (other_high + 0) less)))

-- the carry shows that a sum exceeds a byte
pub carry_shows : (x y : ℕ) → (add_of x y false).flags.cy ≡ nat_le 256 (x + y)
carry_shows x y = ap (nat_le 256) (omega arith)

-- A counted up becomes 0 if it was 255
pub count_shows : (x : ℕ) (f : Flags) → x < 256 → (increment_of x f).flags.z ≡ (x == 255)
count_shows x f small =
    sym (same_test (x == 255) ((x + 1) % 256 == 0)
    (λ here. eq-eqb ((x + 1) % 256) 0 (omega (arith, small, eqb-true x 255 here)))
    (λ here. ne_eqb ((x + 1) % 256) 0 (λ same. eqb-false x 255 here (omega (arith, small, same)))))
