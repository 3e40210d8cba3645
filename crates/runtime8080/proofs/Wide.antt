-- The quotient by a divisor above a byte: HL and B are doubled together, and where DE fits into HL it is
-- taken away and B gains a bit; C counts the bits.
use Rattle.runtime8080.proofs.Prelude.{◌≡◌, ℕ, zero, suc, ◌+◌, ◌-◌, ◌*◌, ◌/◌, ◌%◌, ◌^◌, ◌<◌, ◌≤◌, ◌==◌, Bool, true, false, not, nat_le, nat_lt, List, [], ◌∷◌, refl, sym, ap, subst, ◌∙◌, arith, pow-suc, leb-false, leb-true, pow_pos, MEMORY_SIZE, Event, bit, A, B, C, D, E, H, L, Of, Hl, Carry, NoCarry, NotZero, Add, Subtract, SubtractWithBorrow, Instr, Accumulate, Dad, Dcr, Inr, Mov, Registers, word, wrap, JumpWhere, AtLabel, Item, Plain, WithWord, Mark, Layout, Stands, Comes, comes_on, at, goes_past, jumps_where, effect, plain, straight, counted_out, counts_on, one_less_is, word_is, high_of_wrapped, low_is_byte, same_after}
use Rattle.runtime8080.proofs.Quotients.{Quotient, QuotientBit, no_bits, one_bit_more}
use Rattle.runtime8080.proofs.Numbers.{product_at_most, without_carry, small_by}

abbrev doubling : List Instr
doubling = Dad Hl ∷ Mov A (Of B) ∷ Accumulate Add (Of A) ∷ Mov B (Of A) ∷ []

abbrev odd : List Instr
odd = Inr (Of L) ∷ []

abbrev comparing : List Instr
comparing =
    Mov A (Of L) ∷ Accumulate Subtract (Of E) ∷ Mov A (Of H) ∷ Accumulate SubtractWithBorrow (Of D) ∷ []

abbrev taking : List Instr
taking = Mov H (Of A) ∷ Mov A (Of L) ∷ Accumulate Subtract (Of E) ∷ Mov L (Of A) ∷ Inr (Of B) ∷ []

abbrev counting : List Instr
counting = Dcr (Of C) ∷ []

abbrev pub at_less : (fifth : ℕ) → List Item → List Item
at_less fifth others = Plain (Dcr (Of C)) ∷ WithWord (JumpWhere NotZero) (AtLabel fifth) ∷ others

abbrev pub at_even : (fifth seventh : ℕ) → List Item → List Item
at_even fifth seventh others =
    plain comparing
    (WithWord (JumpWhere Carry) (AtLabel seventh) ∷ plain taking (Mark seventh ∷ at_less fifth others))

abbrev pub wide : (fifth sixth seventh : ℕ) → List Item → List Item
wide fifth sixth seventh others =
    plain doubling
    (WithWord (JumpWhere NoCarry) (AtLabel sixth) ∷ Plain (Inr (Of L)) ∷ Mark sixth
    ∷ at_even fifth seventh others)

-- remainder and dividend side by side
abbrev pub both : Registers → ℕ
both r = 256 * word r.h r.l + r.b

-- registers that hold bytes, with a remainder that can be doubled
record CanDouble (r : Registers) : Type 0 where
  b : r.b < 256
  c : r.c < 256
  d : r.d < 256
  e : r.e < 256
  h : r.h < 256
  l : r.l < 256
  low : 2 * word r.h r.l + 2 ≤ 65536

low_small : (n : ℕ) → n % 256 < 256
low_small n = omega arith

even_word : (v : ℕ) → 2 * v + 2 ≤ 65536 → word ((v + v) % 65536 / 256) ((v + v) % 65536 % 256) ≡ 2 * v
even_word v h = omega arith

odd_word : (v : ℕ) → 2 * v + 2 ≤ 65536
    → word ((v + v) % 65536 / 256) (((v + v) % 65536 % 256 + 1) % 256) ≡ 2 * v + 1
odd_word v h = omega arith

-- registers after the doubling
record Doubled (r after : Registers) : Type 0 where
  sum : 256 * word after.h after.l + after.b ≡ 2 * both r
  most : word after.h after.l ≤ 2 * word r.h r.l + 1
  b : after.b ≡ (r.b + r.b) % 256
  c : after.c ≡ r.c
  d : after.d ≡ r.d
  e : after.e ≡ r.e
  h : after.h < 256
  l : after.l < 256
  sp : after.sp ≡ r.sp

record Doubles
    (script : List (List ℕ)) (top : ℕ) (r : Registers) (memory : List ℕ) (events : List Event) : Type 0 where
  steps : ℕ
  after : Registers
  run :
      Comes script steps (at top r memory events)
      (at (top + 1 + 1 + 1 + 1 + 3 + 1) after memory events)
  few : steps ≤ 6
  doubled : Doubled r after

sum_even : (v b w : ℕ) → nat_le 256 (b + b + 0) ≡ false → w ≡ 2 * v
    → 256 * w + (b + b + 0) % 256 ≡ 2 * (256 * v + b)
sum_even v b w h is = let small : b + b + 0 < 256 = leb-false 256 (b + b + 0) h in omega arith

sum_odd : (v b w : ℕ) → b < 256 → nat_le 256 (b + b + 0) ≡ true → w ≡ 2 * v + 1
    → 256 * w + (b + b + 0) % 256 ≡ 2 * (256 * v + b)
sum_odd v b w small h is = let large : 256 ≤ b + b + 0 = leb-true 256 (b + b + 0) h in omega arith

at_most : (w n : ℕ) → w ≡ n → w ≤ n + 1
at_most w n e = omega arith

at_most_one : (w n : ℕ) → w ≡ n → w ≤ n
at_most_one w n e = omega arith

doubles :
    (script : List (List ℕ)) (layout : Layout) (fifth sixth seventh top to : ℕ) (others : List Item)
    (r : Registers) (memory : List ℕ) (events : List Event)
    → Stands layout memory (wide fifth sixth seventh others) top to
    → to ≤ MEMORY_SIZE
    → top + 1 + 1 + 1 + 1 + 3 + 1 < MEMORY_SIZE
    → CanDouble r
    → (test : Bool)
    → nat_le 256 (r.b + r.b + 0) ≡ test
    → Doubles script top r memory events
doubles script layout fifth sixth seventh top to others r memory events stands limit fits can false carry =
    let r1 = effect doubling r in
    let v = word r.h r.l in
    let place = top + 1 + 1 + 1 + 1 + 3 + 1 in
    let u = at place r1 memory events in
    let is = even_word v can.low in
    record {
      steps = 5;
      after = r1;
      run =
          straight script layout doubling
          (WithWord (JumpWhere NoCarry) (AtLabel sixth) ∷ Plain (Inr (Of L)) ∷ Mark sixth
          ∷ at_even fifth seventh others) top to r memory events 1 u refl stands (omega arith)
          (jumps_where script 0 NoCarry (wrap (layout.place_of sixth)) (top + 1 + 1 + 1 + 1) place r1 memory
          events u stands.1.1.1.1.0 (omega arith) (ap not carry)
          (word_is (layout.place_of sixth) place stands.1.1.1.1.1.1.0 fits)
          (same_after script u));
      few = omega arith;
      doubled = record {
        sum = sum_even v r.b (word r1.h r1.l) carry is;
        most = at_most (word r1.h r1.l) (2 * v) is;
        b = without_carry r.b;
        c = refl;
        d = refl;
        e = refl;
        h = high_of_wrapped (v + v);
        l = low_small (wrap (v + v));
        sp = refl;
      };
    }
doubles script layout fifth sixth seventh top to others r memory events stands limit fits can true carry =
    let r1 = effect doubling r in
    let r2 = effect odd r1 in
    let v = word r.h r.l in
    let place = top + 1 + 1 + 1 + 1 + 3 + 1 in
    let u = at place r2 memory events in
    let is = odd_word v can.low in
    record {
      steps = 6;
      after = r2;
      run =
          straight script layout doubling
          (WithWord (JumpWhere NoCarry) (AtLabel sixth) ∷ Plain (Inr (Of L)) ∷ Mark sixth
          ∷ at_even fifth seventh others) top to r memory events 2 u refl stands (omega arith)
          (goes_past script 1 NoCarry (wrap (layout.place_of sixth)) (top + 1 + 1 + 1 + 1) r1 memory events u
          stands.1.1.1.1.0 (omega arith) (ap not carry)
          (straight script layout odd (Mark sixth ∷ at_even fifth seventh others) (top + 1 + 1 + 1 + 1 + 3) to
          r1 memory events 0 u refl stands.1.1.1.1.1 fits
          (same_after script u)));
      few = omega arith;
      doubled = record {
        sum = sum_odd v r.b (word r2.h r2.l) can.b carry is;
        most = at_most_one (word r2.h r2.l) (2 * v + 1) is;
        b = without_carry r.b;
        c = refl;
        d = refl;
        e = refl;
        h = high_of_wrapped (v + v);
        l = low_small (wrap (v + v) % 256 + 1);
        sp = refl;
      };
    }

-- the borrow of the low bytes, and of the words
abbrev borrow_of : Registers → Bool
borrow_of r = nat_lt (r.l + (255 - r.e) + 1) 256

abbrev is_less : Registers → Bool
is_less r = nat_lt (r.h + (255 - r.d) + bit (not (borrow_of r))) 256

-- what a comparison of words by their bytes says
word_less :
    (h l d e : ℕ) (borrow : Bool)
    → nat_lt (l + (255 - e) + 1) 256 ≡ borrow
    → nat_lt (h + (255 - d) + bit (not borrow)) 256 ≡ true
    → h < 256
    → l < 256
    → d < 256
    → e < 256
    → word h l < word d e
word_less h l d e true low less sh sl sd se =
    let a : suc (l + (255 - e) + 1) ≤ 256 = leb-true (suc (l + (255 - e) + 1)) 256 low in
    let b : suc (h + (255 - d) + 0) ≤ 256 = leb-true (suc (h + (255 - d) + 0)) 256 less in
    omega arith
word_less h l d e false low less sh sl sd se =
    let a : 256 < suc (l + (255 - e) + 1) = leb-false (suc (l + (255 - e) + 1)) 256 low in
    let b : suc (h + (255 - d) + 1) ≤ 256 = leb-true (suc (h + (255 - d) + 1)) 256 less in
    omega arith

word_taken :
    (h l d e : ℕ) (borrow : Bool)
    → nat_lt (l + (255 - e) + 1) 256 ≡ borrow
    → nat_lt (h + (255 - d) + bit (not borrow)) 256 ≡ false
    → h < 256
    → l < 256
    → d < 256
    → e < 256
    → word ((h + (255 - d) + bit (not borrow)) % 256) ((l + (255 - e) + 1) % 256) + word d e ≡ word h l
word_taken h l d e true low less sh sl sd se =
    let a : suc (l + (255 - e) + 1) ≤ 256 = leb-true (suc (l + (255 - e) + 1)) 256 low in
    let b : 256 < suc (h + (255 - d) + 0) = leb-false (suc (h + (255 - d) + 0)) 256 less in
    omega arith
word_taken h l d e false low less sh sl sd se =
    let a : 256 < suc (l + (255 - e) + 1) = leb-false (suc (l + (255 - e) + 1)) 256 low in
    let b : 256 < suc (h + (255 - d) + 1) = leb-false (suc (h + (255 - d) + 1)) 256 less in
    omega arith

-- registers after the comparison, and what is taken away
record Compared (r after : Registers) : Type 0 where
  quotient : ℕ
  one : quotient ≤ 1
  sum : 256 * word after.h after.l + after.b + word r.d r.e * 256 * quotient
      ≡ 256 * word r.h r.l + r.b + quotient
  most : word after.h after.l ≤ word r.h r.l
  less : word r.h r.l < 2 * word r.d r.e → word after.h after.l < word r.d r.e
  a : after.a < 256
  b : after.b < 256
  c : after.c ≡ (r.c + 254 + 1) % 256
  d : after.d ≡ r.d
  e : after.e ≡ r.e
  h : after.h < 256
  l : after.l < 256
  sp : after.sp ≡ r.sp
  z : after.flags.z ≡ ((r.c + 254 + 1) % 256 == 0)

record Compares
    (script : List (List ℕ)) (place : ℕ) (r : Registers) (memory : List ℕ)
    (events : List Event) : Type 0 where
  steps : ℕ
  after : Registers
  run :
      Comes script steps (at place r memory events)
      (at (place + 1 + 1 + 1 + 1 + 3 + 1 + 1 + 1 + 1 + 1 + 1) after memory events)
  few : steps ≤ 11
  compared : Compared r after

nothing_taken : (w b x : ℕ) → 256 * w + b + x * 256 * 0 ≡ 256 * w + b + 0
nothing_taken w b x = omega arith

once_taken : (w x y b half : ℕ) → w + x ≡ y → b ≡ (half + half) % 256
    → 256 * w + (b + 1) % 256 + x * 256 * 1 ≡ 256 * y + b + 1
once_taken w x y b half h even = omega arith

taken_most : (w x y : ℕ) → w + x ≡ y → w ≤ y
taken_most w x y h = omega arith

taken_less : (w x y : ℕ) → w + x ≡ y → y < 2 * x → w < x
taken_less w x y h less = omega arith

record Holds (r : Registers) (half : ℕ) : Type 0 where
  b : r.b ≡ (half + half) % 256
  d : r.d < 256
  e : r.e < 256
  h : r.h < 256
  l : r.l < 256

compares :
    (script : List (List ℕ)) (layout : Layout) (fifth seventh place to half : ℕ) (others : List Item)
    (r : Registers) (memory : List ℕ) (events : List Event)
    → Stands layout memory (at_even fifth seventh others) place to
    → to ≤ MEMORY_SIZE
    → place + 1 + 1 + 1 + 1 + 3 + 1 + 1 + 1 + 1 + 1 + 1 + 3 < MEMORY_SIZE
    → Holds r half
    → (test : Bool)
    → is_less r ≡ test
    → Compares script place r memory events
compares script layout fifth seventh place to half others r memory events stands limit fits are true less =
    let r1 = effect comparing r in
    let r2 = effect counting r1 in
    let top = place + 1 + 1 + 1 + 1 + 3 + 1 + 1 + 1 + 1 + 1 in
    let u = at (top + 1) r2 memory events in
    record {
      steps = 6;
      after = r2;
      run =
          straight script layout comparing
          (WithWord (JumpWhere Carry) (AtLabel seventh)
          ∷ plain taking (Mark seventh ∷ at_less fifth others)) place to r memory events 2 u refl
          stands (omega arith)
          (jumps_where script 1 Carry (wrap (layout.place_of seventh)) (place + 1 + 1 + 1 + 1) top r1 memory
          events u stands.1.1.1.1.0 (omega arith) less
          (word_is (layout.place_of seventh) top stands.1.1.1.1.1.1.1.1.1.1.0 (omega arith))
          (straight script layout counting (WithWord (JumpWhere NotZero) (AtLabel fifth) ∷ others) top to r1
          memory events 0 u refl stands.1.1.1.1.1.1.1.1.1.1.1 (omega arith)
          (same_after script u)));
      few = omega arith;
      compared = record {
        quotient = 0;
        one = omega arith;
        sum = nothing_taken (word r.h r.l) r.b (word r.d r.e);
        most = omega arith;
        less = λ twice. word_less r.h r.l r.d r.e (borrow_of r) refl less are.h are.l are.d are.e;
        a = low_small (r.h + (255 - r.d) + bit (not (borrow_of r)));
        b = small_is r.b half are.b;
        c = refl;
        d = refl;
        e = refl;
        h = are.h;
        l = are.l;
        sp = refl;
        z = refl;
      };
    }
  where
    small_is : (n half : ℕ) → n ≡ (half + half) % 256 → n < 256
    small_is n half h = omega arith
compares script layout fifth seventh place to half others r memory events stands limit fits are false less =
    let r1 = effect comparing r in
    let r2 = effect taking r1 in
    let r3 = effect counting r2 in
    let top = place + 1 + 1 + 1 + 1 + 3 + 1 + 1 + 1 + 1 + 1 in
    let u = at (top + 1) r3 memory events in
    let taken = word_taken r.h r.l r.d r.e (borrow_of r) refl less are.h are.l are.d are.e in
    record {
      steps = 11;
      after = r3;
      run =
          straight script layout comparing
          (WithWord (JumpWhere Carry) (AtLabel seventh)
          ∷ plain taking (Mark seventh ∷ at_less fifth others)) place to r memory events 7 u refl
          stands (omega arith)
          (goes_past script 6 Carry (wrap (layout.place_of seventh)) (place + 1 + 1 + 1 + 1) r1 memory events
          u stands.1.1.1.1.0 (omega arith) less
          (straight script layout taking (Mark seventh ∷ at_less fifth others) (place + 1 + 1 + 1 + 1 + 3) to
          r1 memory events 1 u refl stands.1.1.1.1.1 (omega arith)
          (straight script layout counting (WithWord (JumpWhere NotZero) (AtLabel fifth) ∷ others) top to r2
          memory events 0 u refl stands.1.1.1.1.1.1.1.1.1.1.1 (omega arith)
          (same_after script u))));
      few = omega arith;
      compared = record {
        quotient = 1;
        one = omega arith;
        sum = once_taken (word r3.h r3.l) (word r.d r.e) (word r.h r.l) r.b half taken are.b;
        most = taken_most (word r3.h r3.l) (word r.d r.e) (word r.h r.l) taken;
        less = λ twice. taken_less (word r3.h r3.l) (word r.d r.e) (word r.h r.l) taken twice;
        a = low_small (r.l + (255 - r.e) + 1);
        b = low_small (r.b + 1);
        c = refl;
        d = refl;
        e = refl;
        h = low_small (r.h + (255 - r.d) + bit (not (borrow_of r)));
        l = low_small (r.l + (255 - r.e) + 1);
        sp = refl;
        z = refl;
      };
    }

-- registers after so many bits
pub record Bits (count : ℕ) (r after : Registers) : Type 0 where
  pub divides : Quotient (word r.d r.e * 256) count (both r) (both after)
  pub less : word after.h after.l < word r.d r.e
  pub a : after.a < 256
  pub b : after.b < 256
  pub c : after.c < 256
  pub d : after.d ≡ r.d
  pub e : after.e ≡ r.e
  pub h : after.h < 256
  pub l : after.l < 256
  pub sp : after.sp ≡ r.sp

pub record TakesBits
    (script : List (List ℕ)) (top exit : ℕ) (r : Registers) (memory : List ℕ) (events : List Event)
    (count : ℕ) : Type 0 where
  pub steps : ℕ
  pub after : Registers
  pub run : Comes script steps (at top r memory events) (at exit after memory events)
  pub few : steps ≤ 18 * count
  pub bits : Bits count r after

-- registers that hold bytes, with a remainder that can be doubled so often
pub record CanTake (count : ℕ) (r : Registers) : Type 0 where
  pub b : r.b < 256
  pub d : r.d < 256
  pub e : r.e < 256
  pub h : r.h < 256
  pub l : r.l < 256
  pub less : word r.h r.l < word r.d r.e
  pub low : (word r.h r.l + 1) * 2 ^ count ≤ 65536

-- one bit, up to the jump back
record TakesBit
    (script : List (List ℕ)) (top : ℕ) (r : Registers) (memory : List ℕ) (events : List Event) : Type 0 where
  steps : ℕ
  after : Registers
  run :
      Comes script steps (at top r memory events)
      (at (top + 1 + 1 + 1 + 1 + 3 + 1 + 1 + 1 + 1 + 1 + 3 + 1 + 1 + 1 + 1 + 1 + 1) after memory events)
  few : steps ≤ 17
  divides : QuotientBit (word r.d r.e * 256) (both r) (both after)
  less : word after.h after.l < word r.d r.e
  most : word after.h after.l ≤ 2 * word r.h r.l + 1
  a : after.a < 256
  b : after.b < 256
  c : after.c ≡ (r.c + 254 + 1) % 256
  d : after.d ≡ r.d
  e : after.e ≡ r.e
  h : after.h < 256
  l : after.l < 256
  sp : after.sp ≡ r.sp
  z : after.flags.z ≡ ((r.c + 254 + 1) % 256 == 0)

sum_both :
    (w b w1 b1 w2 b2 x q : ℕ)
    → 256 * w1 + b1 ≡ 2 * (256 * w + b)
    → 256 * w2 + b2 + x * 256 * q ≡ 256 * w1 + b1 + q
    → 256 * w2 + b2 + x * 256 * q ≡ 2 * (256 * w + b) + q
sum_both w b w1 b1 w2 b2 x q h g = g ∙ ap (λ n. n + q) h

twice_less : (w w1 x : ℕ) → w1 ≤ 2 * w + 1 → w < x → w1 < 2 * x
twice_less w w1 x h less = omega arith

most_on : (w w1 w2 : ℕ) → w1 ≤ 2 * w + 1 → w2 ≤ w1 → w2 ≤ 2 * w + 1
most_on w w1 w2 h g = omega arith

takes_bit :
    (script : List (List ℕ)) (layout : Layout) (fifth sixth seventh top to : ℕ) (others : List Item)
    (r : Registers) (memory : List ℕ) (events : List Event)
    → Stands layout memory (wide fifth sixth seventh others) top to
    → to ≤ MEMORY_SIZE
    → top + 1 + 1 + 1 + 1 + 3 + 1 + 1 + 1 + 1 + 1 + 3 + 1 + 1 + 1 + 1 + 1 + 1 + 3 < MEMORY_SIZE
    → CanDouble r
    → word r.h r.l < word r.d r.e
    → TakesBit script top r memory events
takes_bit script layout fifth sixth seventh top to others r memory events stands limit fits can less =
    let first =
    doubles script layout fifth sixth seventh top to others r memory events stands limit (omega arith) can
    (nat_le 256 (r.b + r.b + 0)) refl in
    let r1 = first.after in
    let one = first.doubled in
    let place = top + 1 + 1 + 1 + 1 + 3 + 1 in
    let second =
    compares script layout fifth seventh place to r.b others r1 memory events stands.1.1.1.1.1.1.1 limit fits
    (record { b = one.b; d = small_by r1.d r.d one.d can.d; e = small_by r1.e r.e one.e can.e; h = one.h; l = one.l })
    (is_less r1) refl in
    let r2 = second.after in
    let two = second.compared in
    let divisor : word r1.d r1.e ≡ word r.d r.e = ap (λ n. word n r1.e) one.d ∙ ap (word r.d) one.e in
    let end = at (place + 1 + 1 + 1 + 1 + 3 + 1 + 1 + 1 + 1 + 1 + 1) r2 memory events in
    record {
      steps = second.steps + first.steps;
      after = r2;
      run =
          comes_on script first.steps second.steps (at top r memory events) (at place r1 memory events) end
          first.run second.run;
      few = let x = first.few in let y = second.few in omega arith;
      divides = record {
        bit = two.quotient;
        small = two.one;
        same =
            sum_both (word r.h r.l) r.b (word r1.h r1.l) r1.b (word r2.h r2.l) r2.b (word r.d r.e)
            two.quotient one.sum
            (subst (λ n. 256 * word r2.h r2.l + r2.b + n * 256 * two.quotient
            ≡ 256 * word r1.h r1.l + r1.b + two.quotient) divisor two.sum);
      };
      less =
          subst (λ n. word r2.h r2.l < n) divisor
          (two.less
          (subst (λ n. word r1.h r1.l < 2 * n) (sym divisor)
          (twice_less (word r.h r.l) (word r1.h r1.l) (word r.d r.e) one.most less)));
      most = most_on (word r.h r.l) (word r1.h r1.l) (word r2.h r2.l) one.most two.most;
      a = two.a;
      b = two.b;
      c = two.c ∙ ap (λ n. (n + 254 + 1) % 256) one.c;
      d = two.d ∙ one.d;
      e = two.e ∙ one.e;
      h = two.h;
      l = two.l;
      sp = two.sp ∙ one.sp;
      z = two.z ∙ ap (λ n. (n + 254 + 1) % 256 == 0) one.c;
    }

twice_power : (w p : ℕ) → (w + 1) * (p * 2) ≡ (2 * w + 2) * p
twice_power w p = omega arith

-- what is left of the room after a doubling
room_after : (w w1 n : ℕ) → (w + 1) * 2 ^ suc n ≤ 65536 → w1 ≤ 2 * w + 1 → (w1 + 1) * 2 ^ n ≤ 65536
room_after w w1 n h most =
    let more : (w1 + 1) * 2 ^ n ≤ (2 * w + 2) * 2 ^ n =
    product_at_most (w1 + 1) (2 * w + 2) (2 ^ n) (omega arith) in
    let same : (w + 1) * 2 ^ suc n ≡ (2 * w + 2) * 2 ^ n =
    ap (λ p. (w + 1) * p) (pow-suc 2 n) ∙ twice_power w (2 ^ n) in
    le_by ((w1 + 1) * 2 ^ n) ((2 * w + 2) * 2 ^ n) ((w + 1) * 2 ^ suc n) more same h
  where
    le_by : (x y z : ℕ) → x ≤ y → z ≡ y → z ≤ 65536 → x ≤ 65536
    le_by x y z a b c = omega arith

-- and before one
room_before : (w n : ℕ) → (w + 1) * 2 ^ suc n ≤ 65536 → 2 * w + 2 ≤ 65536
room_before w n h =
    let power : 1 ≤ 2 ^ n = pow_pos n in
    let more : 1 * (2 * w + 2) ≤ 2 ^ n * (2 * w + 2) = product_at_most 1 (2 ^ n) (2 * w + 2) power in
    let same : (w + 1) * 2 ^ suc n ≡ 2 ^ n * (2 * w + 2) =
    ap (λ p. (w + 1) * p) (pow-suc 2 n) ∙ turned w (2 ^ n) in
    le_by (2 * w + 2) (2 ^ n * (2 * w + 2)) ((w + 1) * 2 ^ suc n) more same h
  where
    turned : (w p : ℕ) → (w + 1) * (p * 2) ≡ p * (2 * w + 2)
    turned w p = omega arith

    le_by : (x y z : ℕ) → 1 * x ≤ y → z ≡ y → z ≤ 65536 → x ≤ 65536
    le_by x y z a b c = omega arith

pub takes_bits :
    (script : List (List ℕ)) (layout : Layout) (fifth sixth seventh top to : ℕ) (others : List Item)
    (memory : List ℕ) (events : List Event)
    → Stands layout memory (wide fifth sixth seventh others) top to
    → to ≤ MEMORY_SIZE
    → top + 1 + 1 + 1 + 1 + 3 + 1 + 1 + 1 + 1 + 1 + 3 + 1 + 1 + 1 + 1 + 1 + 1 + 3 < MEMORY_SIZE
    → layout.place_of fifth ≡ top
    → (n : ℕ) (r : Registers)
    → r.c ≡ suc n
    → n < 255
    → CanTake (suc n) r
    → TakesBits script top (top + 1 + 1 + 1 + 1 + 3 + 1 + 1 + 1 + 1 + 1 + 3 + 1 + 1 + 1 + 1 + 1 + 1 + 3) r
    memory events (suc n)
takes_bits script layout fifth sixth seventh top to others memory events stands limit fits bound
    zero r counter few can =
    let taken =
    takes_bit script layout fifth sixth seventh top to others r memory events stands limit fits
    (record { b = can.b; c = omega arith; d = can.d; e = can.e; h = can.h; l = can.l; low = room_before (word r.h r.l) 0 can.low })
    can.less in
    let place = top + 1 + 1 + 1 + 1 + 3 + 1 + 1 + 1 + 1 + 1 + 3 + 1 + 1 + 1 + 1 + 1 + 1 in
    let exit = at (place + 3) taken.after memory events in
    record {
      steps = 1 + taken.steps;
      after = taken.after;
      run =
          comes_on script taken.steps 1 (at top r memory events)
          (at place taken.after memory events) exit taken.run
          (goes_past script 0 NotZero (wrap (layout.place_of fifth)) place taken.after memory events exit
          stands.1.1.1.1.1.1.1.1.1.1.1.1.1.1.1.1.1.1.1.0 fits (ap not taken.z ∙ counted_out r.c counter)
          (same_after script exit));
      few = let count = taken.few in omega arith;
      bits = record {
        divides =
            one_bit_more (word r.d r.e * 256) 0 (both r) (both taken.after) (both taken.after) taken.divides
            (no_bits (word r.d r.e * 256) (both taken.after));
        less = taken.less;
        a = taken.a;
        b = taken.b;
        c = low_is_byte taken.after.c (r.c + 254 + 1) taken.c;
        d = taken.d;
        e = taken.e;
        h = taken.h;
        l = taken.l;
        sp = taken.sp;
      };
    }
takes_bits script layout fifth sixth seventh top to others memory events stands limit fits bound
    (suc n) r counter few can =
    let taken =
    takes_bit script layout fifth sixth seventh top to others r memory events stands limit fits
    (record { b = can.b; c = omega arith; d = can.d; e = can.e; h = can.h; l = can.l; low = room_before (word r.h r.l) (suc n) can.low })
    can.less in
    let r1 = taken.after in
    let place = top + 1 + 1 + 1 + 1 + 3 + 1 + 1 + 1 + 1 + 1 + 3 + 1 + 1 + 1 + 1 + 1 + 1 in
    let divisor : word r1.d r1.e ≡ word r.d r.e = ap (λ k. word k r1.e) taken.d ∙ ap (word r.d) taken.e in
    let more =
    takes_bits script layout fifth sixth seventh top to others memory events stands limit fits bound n r1
    (taken.c ∙ one_less_is r.c (suc n) counter (omega arith)) (omega arith)
    (record {
      b = taken.b;
      d = small_by r1.d r.d taken.d can.d;
      e = small_by r1.e r.e taken.e can.e;
      h = taken.h;
      l = taken.l;
      less = subst (λ k. word r1.h r1.l < k) (sym divisor) taken.less;
      low = room_after (word r.h r.l) (word r1.h r1.l) (suc n) can.low taken.most;
    }) in
    let exit = at (place + 3) more.after memory events in
    record {
      steps = suc more.steps + taken.steps;
      after = more.after;
      run =
          comes_on script taken.steps (suc more.steps) (at top r memory events)
          (at place r1 memory events) exit taken.run
          (jumps_where script more.steps NotZero (wrap (layout.place_of fifth)) place top
          r1 memory events exit
          stands.1.1.1.1.1.1.1.1.1.1.1.1.1.1.1.1.1.1.1.0 (omega arith)
          (ap not taken.z ∙ counts_on r.c n counter (omega arith))
          (word_is (layout.place_of fifth) top bound (omega arith)) more.run);
      few = let one = taken.few in let rest = more.few in omega arith;
      bits = record {
        divides =
            one_bit_more (word r.d r.e * 256) (suc n) (both r) (both r1) (both more.after) taken.divides
            (subst (λ k. Quotient (k * 256) (suc n) (both r1) (both more.after)) divisor more.bits.divides);
        less = subst (λ k. word more.after.h more.after.l < k) divisor more.bits.less;
        a = more.bits.a;
        b = more.bits.b;
        c = more.bits.c;
        d = more.bits.d ∙ taken.d;
        e = more.bits.e ∙ taken.e;
        h = more.bits.h;
        l = more.bits.l;
        sp = more.bits.sp ∙ taken.sp;
      };
    }
