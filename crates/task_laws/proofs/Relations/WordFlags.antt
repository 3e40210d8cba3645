-- The flags after the bytes of two words were subtracted.
use Rattle.task_laws.proofs.Prelude.{◌≡◌, ℕ, ◌+◌, ◌-◌, ◌*◌, ◌/◌, ◌%◌, ◌<◌, ◌==◌, Bool, true, false, nat_lt, bit_or, sym, ap, ◌∙◌, arith, ltb-true, ltb-false, lt-ltb, le-ltb, eqb-true, eqb-false, eq-eqb, ne_eqb, le_or_l, le_or_r, subtract_of, bit, borrow_shows, borrow_shows_more, same_test, word_borrow, halves_joined}

-- the borrow of both bytes shows that a word is less than another one
pub word_below :
    (v w h l d e : ℕ)
    → h ≡ v / 256 → l ≡ v % 256 → d ≡ w / 256 → e ≡ w % 256
    → w < 65536
    → (subtract_of h d (subtract_of l e false).flags.cy).flags.cy ≡ nat_lt v w
word_below v w h l d e one two three four small =
    borrow_shows_more h d (subtract_of l e false).flags.cy (omega (arith, three, small))
    ∙ (ap (λ b. nat_lt h (d + bit b)) (borrow_shows l e (omega (arith, four)))
    ∙ (word_borrow h l d e (omega (arith, two)) (omega (arith, four))
    ∙ (ap (λ n. nat_lt n (256 * d + e))
    (ap (λ m. 256 * m + l) one ∙ ap (λ m. 256 * (v / 256) + m) two ∙ halves_joined v)
    ∙ ap (λ n. nat_lt v n)
    (ap (λ m. 256 * m + e) three ∙ ap (λ m. 256 * (w / 256) + m) four ∙ halves_joined w))))

-- an OR is 0 where both sides are
pub or_is_zero : (x y : ℕ) → bit_or x y ≡ 0 → (x ≡ 0) × (y ≡ 0)
or_is_zero x y is =
    let one = le_or_l x y in
    let two = le_or_r x y in
    (omega (arith, one, is), omega (arith, two, is))

pub or_of_zeros : (x y : ℕ) → x ≡ 0 → y ≡ 0 → bit_or x y ≡ 0
or_of_zeros x y one two = ap (λ n. bit_or n y) one ∙ ap (λ n. bit_or 0 n) two

high_difference : (d h : ℕ) (borrow : Bool) → d < 256 → h < 256 → borrow ≡ false
    → (((subtract_of d h borrow).value ≡ 0) → d ≡ h) × (d ≡ h → (subtract_of d h borrow).value ≡ 0)
high_difference d h true one two is = absurd (Rattle.std.proofs.lemmas.Bool.false≢true (sym is))
high_difference d h false one two is =
    ((λ same. omega (arith, one, two, same)), (λ same. omega (arith, one, two, same)))

-- the OR of both differences is 0 where two words are equal
pub word_equal :
    (v w h l d e : ℕ)
    → h ≡ v / 256 → l ≡ v % 256 → d ≡ w / 256 → e ≡ w % 256
    → v < 65536
    → w < 65536
    → (bit_or (subtract_of d h (subtract_of e l false).flags.cy).value (subtract_of e l false).value == 0)
    ≡ (v == w)
word_equal v w h l d e one two three four small other_small =
    let x = (subtract_of d h (subtract_of e l false).flags.cy).value in
    let y = (subtract_of e l false).value in
    let h_small : h < 256 = omega (arith, one, small) in
    let d_small : d < 256 = omega (arith, three, other_small) in
    let l_small : l < 256 = omega (arith, two) in
    let e_small : e < 256 = omega (arith, four) in
    let no_borrow : e ≡ l → (subtract_of e l false).flags.cy ≡ false =
    (λ same. borrow_shows e l l_small ∙ le-ltb e l (omega (arith, same))) in
    same_test (bit_or x y == 0) (v == w)
    (λ is.
    let both = or_is_zero x y (eqb-true (bit_or x y) 0 is) in
    let y_is : (e + (255 - l) + 1) % 256 ≡ 0 = both.1 in
    let lows : e ≡ l = omega (arith, y_is, e_small, l_small) in
    let highs =
    (high_difference d h (subtract_of e l false).flags.cy d_small h_small (no_borrow lows)).0 both.0 in
    eq-eqb v w (omega (arith, one, two, three, four, lows, highs)))
    (λ is. ne_eqb v w (λ same.
    let lows : e ≡ l = omega (arith, two, four, same) in
    let highs : d ≡ h = omega (arith, one, three, same) in
    let x_is =
    (high_difference d h (subtract_of e l false).flags.cy d_small h_small (no_borrow lows)).1 highs in
    let y_is : (e + (255 - l) + 1) % 256 ≡ 0 = omega (arith, lows, l_small) in
    eqb-false (bit_or x y) 0 is (or_of_zeros x y x_is y_is)))

-- the low bytes alone
pub low_equal : (e l : ℕ) → e < 256 → l < 256 → ((subtract_of e l false).value == 0) ≡ (e == l)
low_equal e l one two =
    same_test ((e + (255 - l) + 1) % 256 == 0) (e == l)
    (λ is. eq-eqb e l (omega (arith, one, two, eqb-true ((e + (255 - l) + 1) % 256) 0 is)))
    (λ is. ne_eqb e l (λ same. eqb-false ((e + (255 - l) + 1) % 256) 0 is (omega (arith, two, same))))
