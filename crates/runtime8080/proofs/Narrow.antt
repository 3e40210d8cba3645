-- The quotient by a byte: HL is doubled into A, and where E fits into A it is taken away and L gains a bit; D
-- counts the bits.
use Rattle.runtime8080.proofs.Prelude.{◌≡◌, ℕ, zero, suc, ◌+◌, ◌-◌, ◌*◌, ◌/◌, ◌%◌, ◌<◌, ◌≤◌, ◌==◌, Bool, true, false, not, nat_le, nat_lt, List, [], ◌∷◌, refl, ap, subst, ◌∙◌, arith, leb-false, leb-true, MEMORY_SIZE, Event, bit, D, E, L, Of, Hl, Carry, NotZero, Compare, Subtract, Instr, Accumulate, Dad, Dcr, Inr, Ral, Registers, word, wrap, JumpWhere, AtLabel, Item, Plain, WithWord, Mark, Layout, Stands, Comes, comes_on, at, goes_past, jumps_where, effect, straight, counted_out, counts_on, one_less_is, word_is, high_of_wrapped, same_after, word_of_halves}
use Rattle.runtime8080.proofs.Quotients.{Quotient, QuotientBit, no_bits, one_bit_more}
use Rattle.runtime8080.proofs.AddressBits.{word_small}
use Rattle.runtime8080.proofs.Numbers.{small_by}

abbrev doubling : List Instr
doubling = Dad Hl ∷ Ral ∷ []

abbrev comparing : List Instr
comparing = Accumulate Compare (Of E) ∷ []

abbrev taking : List Instr
taking = Accumulate Subtract (Of E) ∷ Inr (Of L) ∷ []

abbrev counting : List Instr
counting = Dcr (Of D) ∷ []

abbrev pub at_skip : (first : ℕ) → List Item → List Item
at_skip first others = Plain (Dcr (Of D)) ∷ WithWord (JumpWhere NotZero) (AtLabel first) ∷ others

abbrev pub at_fits : (first third : ℕ) → List Item → List Item
at_fits first third others =
    Plain (Accumulate Subtract (Of E)) ∷ Plain (Inr (Of L)) ∷ Mark third ∷ at_skip first others

abbrev pub at_compare : (first second third : ℕ) → List Item → List Item
at_compare first second third others =
    Plain (Accumulate Compare (Of E)) ∷ WithWord (JumpWhere Carry) (AtLabel third) ∷ Mark second
    ∷ at_fits first third others

abbrev pub narrow : (first second third : ℕ) → List Item → List Item
narrow first second third others =
    Plain (Dad Hl) ∷ Plain Ral ∷ WithWord (JumpWhere Carry) (AtLabel second)
    ∷ at_compare first second third others

-- remainder and dividend side by side
abbrev pub both : Registers → ℕ
both r = 65536 * r.a + word r.h r.l

-- registers after a bit
record Bit (r after : Registers) : Type 0 where
  a : after.a < 256
  b : after.b ≡ r.b
  c : after.c ≡ r.c
  d : after.d ≡ (r.d + 254 + 1) % 256
  e : after.e ≡ r.e
  h : after.h < 256
  l : after.l < 256
  sp : after.sp ≡ r.sp
  z : after.flags.z ≡ ((r.d + 254 + 1) % 256 == 0)
  less : r.a < r.e → after.a < r.e
  divides : r.a < r.e → QuotientBit (r.e * 65536) (both r) (both after)

record TakesBit
    (script : List (List ℕ)) (top : ℕ) (r : Registers) (memory : List ℕ) (events : List Event) : Type 0 where
  steps : ℕ
  after : Registers
  run :
      Comes script steps (at top r memory events)
      (at (top + 1 + 1 + 3 + 1 + 3 + 1 + 1 + 1) after memory events)
  few : steps ≤ 8
  bit : Bit r after

low_small : (n : ℕ) → n % 256 < 256
low_small n = omega arith

-- A after the doubling, with the bit that HL gave
abbrev doubled_a : Registers → ℕ
doubled_a r = r.a * 2 % 256 + bit (nat_le 65536 (word r.h r.l + word r.h r.l))

-- where A goes past a byte, the divisor fits
past_byte :
    (a e v a1 : ℕ) (carry : Bool)
    → nat_le 65536 (v + v) ≡ carry
    → nat_le 128 a ≡ true
    → a < e
    → e < 256
    → v < 65536
    → a1 ≡ a * 2 % 256 + bit carry
    → ((a1 + (255 - e) + 1) % 256 < e)
    × (65536 * ((a1 + (255 - e) + 1) % 256) + ((v + v) % 65536 + 1) + e * 65536 * 1 ≡ 2 * (65536 * a + v) + 1)
past_byte a e v a1 true h large less small small_v is =
    let above : 65536 ≤ v + v = leb-true 65536 (v + v) h in
    let high : 128 ≤ a = leb-true 128 a large in
    (omega arith, omega arith)
past_byte a e v a1 false h large less small small_v is =
    let under : v + v < 65536 = leb-false 65536 (v + v) h in
    let high : 128 ≤ a = leb-true 128 a large in
    (omega arith, omega arith)

-- where it does not, and the divisor fits
fits_byte :
    (a e v a1 : ℕ) (carry : Bool)
    → nat_le 65536 (v + v) ≡ carry
    → nat_le 128 a ≡ false
    → nat_lt (a1 + (255 - e) + 1) 256 ≡ false
    → a < e
    → e < 256
    → v < 65536
    → a1 ≡ a * 2 % 256 + bit carry
    → ((a1 + (255 - e) + 1) % 256 < e)
    × (65536 * ((a1 + (255 - e) + 1) % 256) + ((v + v) % 65536 + 1) + e * 65536 * 1 ≡ 2 * (65536 * a + v) + 1)
fits_byte a e v a1 true h low fits less small small_v is =
    let above : 65536 ≤ v + v = leb-true 65536 (v + v) h in
    let under : a < 128 = leb-false 128 a low in
    let large : 256 < suc (a1 + (255 - e) + 1) = leb-false (suc (a1 + (255 - e) + 1)) 256 fits in
    (omega arith, omega arith)
fits_byte a e v a1 false h low fits less small small_v is =
    let above : v + v < 65536 = leb-false 65536 (v + v) h in
    let under : a < 128 = leb-false 128 a low in
    let large : 256 < suc (a1 + (255 - e) + 1) = leb-false (suc (a1 + (255 - e) + 1)) 256 fits in
    (omega arith, omega arith)

-- and where it does not fit
stays_byte :
    (a e v a1 : ℕ) (carry : Bool)
    → nat_le 65536 (v + v) ≡ carry
    → nat_le 128 a ≡ false
    → nat_lt (a1 + (255 - e) + 1) 256 ≡ true
    → a < e
    → e < 256
    → v < 65536
    → a1 ≡ a * 2 % 256 + bit carry
    → (a1 < e) × (65536 * a1 + (v + v) % 65536 + e * 65536 * 0 ≡ 2 * (65536 * a + v) + 0)
stays_byte a e v a1 true h low fits less small small_v is =
    let above : 65536 ≤ v + v = leb-true 65536 (v + v) h in
    let under : a < 128 = leb-false 128 a low in
    let room : suc (a1 + (255 - e) + 1) ≤ 256 = leb-true (suc (a1 + (255 - e) + 1)) 256 fits in
    (omega arith, omega arith)
stays_byte a e v a1 false h low fits less small small_v is =
    let above : v + v < 65536 = leb-false 65536 (v + v) h in
    let under : a < 128 = leb-false 128 a low in
    let room : suc (a1 + (255 - e) + 1) ≤ 256 = leb-true (suc (a1 + (255 - e) + 1)) 256 fits in
    (omega arith, omega arith)

-- the low byte of what was doubled is even, so that one more does not carry
one_more : (v : ℕ) → word ((v + v) % 65536 / 256) (((v + v) % 65536 % 256 + 1) % 256) ≡ (v + v) % 65536 + 1
one_more v = omega arith

doubled_small : (a : ℕ) (carry : Bool) → a * 2 % 256 + bit carry < 256
doubled_small a true = omega arith
doubled_small a false = omega arith

record AreHeld (r : Registers) : Type 0 where
  a : r.a < 256
  e : r.e < 256
  h : r.h < 256
  l : r.l < 256

-- from where the divisor fits, a bit is taken
takes_fit :
    (script : List (List ℕ)) (layout : Layout) (first third place to : ℕ) (others : List Item)
    (r : Registers) (memory : List ℕ) (events : List Event)
    → Stands layout memory (at_fits first third others) place to
    → to ≤ MEMORY_SIZE
    → place + 1 + 1 + 1 + 3 < MEMORY_SIZE
    → Comes script 3 (at place r memory events)
    (at (place + 1 + 1 + 1) (effect counting (effect taking r)) memory events)
takes_fit script layout first third place to others r memory events stands limit fits =
    let r1 = effect taking r in
    let r2 = effect counting r1 in
    let u = at (place + 1 + 1 + 1) r2 memory events in
    straight script layout taking (Mark third ∷ at_skip first others) place to r memory events 1 u refl
    stands (omega arith)
    (straight script layout counting (WithWord (JumpWhere NotZero) (AtLabel first) ∷ others) (place + 1 + 1)
    to r1 memory events 0 u refl stands.1.1.1 (omega arith)
    (same_after script u))

takes_bit :
    (script : List (List ℕ)) (layout : Layout) (first second third top to : ℕ) (others : List Item)
    (r : Registers) (memory : List ℕ) (events : List Event)
    → Stands layout memory (narrow first second third others) top to
    → to ≤ MEMORY_SIZE
    → top + 1 + 1 + 3 + 1 + 3 + 1 + 1 + 1 + 3 < MEMORY_SIZE
    → AreHeld r
    → (past fit : Bool)
    → nat_le 128 r.a ≡ past
    → nat_lt (doubled_a r + (255 - r.e) + 1) 256 ≡ fit
    → TakesBit script top r memory events
takes_bit script layout first second third top to others r memory events stands limit fits are
    true fit past less =
    let r1 = effect doubling r in
    let r2 = effect counting (effect taking r1) in
    let place = top + 1 + 1 + 3 + 1 + 3 in
    let v = word r.h r.l in
    let u = at (place + 1 + 1 + 1) r2 memory events in
    record {
      steps = 6;
      after = r2;
      run =
          straight script layout doubling
          (WithWord (JumpWhere Carry) (AtLabel second) ∷ at_compare first second third others) top to r
          memory events 4 u refl stands (omega arith)
          (jumps_where script 3 Carry (wrap (layout.place_of second)) (top + 1 + 1) place r1 memory events u
          stands.1.1.0 (omega arith) past
          (word_is (layout.place_of second) place stands.1.1.1.1.1.0 (omega arith))
          (takes_fit script layout first third place to others r1 memory events stands.1.1.1.1.1.1
          limit (omega arith)));
      few = omega arith;
      bit = record {
        a = low_small (doubled_a r + (255 - r.e) + 1);
        b = refl;
        c = refl;
        d = refl;
        e = refl;
        h = high_of_wrapped (v + v);
        l = low_small (wrap (v + v) % 256 + 1);
        sp = refl;
        z = refl;
        less = λ small.
            (past_byte r.a r.e v (doubled_a r) (nat_le 65536 (v + v)) refl past small are.e
            (word_small r.h r.l are.h are.l) refl).0;
        divides = λ small. record {
          bit = 1;
          small = omega arith;
          same =
              ap (λ n. 65536 * ((doubled_a r + (255 - r.e) + 1) % 256) + n + r.e * 65536 * 1) (one_more v)
              ∙ (past_byte r.a r.e v (doubled_a r) (nat_le 65536 (v + v)) refl past small are.e
              (word_small r.h r.l are.h are.l) refl).1;
        };
      };
    }
takes_bit script layout first second third top to others r memory events stands limit fits are
    false false past less =
    let r1 = effect doubling r in
    let r2 = effect comparing r1 in
    let r3 = effect counting (effect taking r2) in
    let place = top + 1 + 1 + 3 + 1 + 3 in
    let v = word r.h r.l in
    let u = at (place + 1 + 1 + 1) r3 memory events in
    record {
      steps = 8;
      after = r3;
      run =
          straight script layout doubling
          (WithWord (JumpWhere Carry) (AtLabel second) ∷ at_compare first second third others) top to r
          memory events 6 u refl stands (omega arith)
          (goes_past script 5 Carry (wrap (layout.place_of second)) (top + 1 + 1) r1 memory events u
          stands.1.1.0 (omega arith) past
          (straight script layout comparing
          (WithWord (JumpWhere Carry) (AtLabel third) ∷ Mark second ∷ at_fits first third others)
          (top + 1 + 1 + 3) to r1 memory events 4 u refl stands.1.1.1 (omega arith)
          (goes_past script 3 Carry (wrap (layout.place_of third)) (top + 1 + 1 + 3 + 1) r2 memory events u
          stands.1.1.1.1.0 (omega arith) less
          (takes_fit script layout first third place to others r2 memory events stands.1.1.1.1.1.1
          limit (omega arith)))));
      few = omega arith;
      bit = record {
        a = low_small (doubled_a r + (255 - r.e) + 1);
        b = refl;
        c = refl;
        d = refl;
        e = refl;
        h = high_of_wrapped (v + v);
        l = low_small (wrap (v + v) % 256 + 1);
        sp = refl;
        z = refl;
        less = λ small.
            (fits_byte r.a r.e v (doubled_a r) (nat_le 65536 (v + v)) refl past less small are.e
            (word_small r.h r.l are.h are.l) refl).0;
        divides = λ small. record {
          bit = 1;
          small = omega arith;
          same =
              ap (λ n. 65536 * ((doubled_a r + (255 - r.e) + 1) % 256) + n + r.e * 65536 * 1) (one_more v)
              ∙ (fits_byte r.a r.e v (doubled_a r) (nat_le 65536 (v + v)) refl past less small are.e
              (word_small r.h r.l are.h are.l) refl).1;
        };
      };
    }
takes_bit script layout first second third top to others r memory events stands limit fits are
    false true past less =
    let r1 = effect doubling r in
    let r2 = effect comparing r1 in
    let r3 = effect counting r2 in
    let place = top + 1 + 1 + 3 + 1 + 3 + 1 + 1 in
    let v = word r.h r.l in
    let u = at (place + 1) r3 memory events in
    record {
      steps = 6;
      after = r3;
      run =
          straight script layout doubling
          (WithWord (JumpWhere Carry) (AtLabel second) ∷ at_compare first second third others) top to r
          memory events 4 u refl stands (omega arith)
          (goes_past script 3 Carry (wrap (layout.place_of second)) (top + 1 + 1) r1 memory events u
          stands.1.1.0 (omega arith) past
          (straight script layout comparing
          (WithWord (JumpWhere Carry) (AtLabel third) ∷ Mark second ∷ at_fits first third others)
          (top + 1 + 1 + 3) to r1 memory events 2 u refl stands.1.1.1 (omega arith)
          (jumps_where script 1 Carry (wrap (layout.place_of third)) (top + 1 + 1 + 3 + 1) place r2 memory
          events u stands.1.1.1.1.0 (omega arith) less
          (word_is (layout.place_of third) place stands.1.1.1.1.1.1.1.1.0 (omega arith))
          (straight script layout counting (WithWord (JumpWhere NotZero) (AtLabel first) ∷ others) place to r2
          memory events 0 u refl stands.1.1.1.1.1.1.1.1.1 (omega arith)
          (same_after script u)))));
      few = omega arith;
      bit = record {
        a = doubled_small r.a (nat_le 65536 (v + v));
        b = refl;
        c = refl;
        d = refl;
        e = refl;
        h = high_of_wrapped (v + v);
        l = low_small (wrap (v + v));
        sp = refl;
        z = refl;
        less = λ small.
            (stays_byte r.a r.e v (doubled_a r) (nat_le 65536 (v + v)) refl past less small are.e
            (word_small r.h r.l are.h are.l) refl).0;
        divides = λ small. record {
          bit = 0;
          small = omega arith;
          same =
              ap (λ n. 65536 * doubled_a r + n + r.e * 65536 * 0) (word_of_halves (wrap (v + v)))
              ∙ (stays_byte r.a r.e v (doubled_a r) (nat_le 65536 (v + v)) refl past less small are.e
              (word_small r.h r.l are.h are.l) refl).1;
        };
      };
    }

-- registers after so many bits
pub record Bits (count : ℕ) (r after : Registers) : Type 0 where
  pub a : after.a < 256
  pub b : after.b ≡ r.b
  pub c : after.c ≡ r.c
  pub d : after.d ≡ 0
  pub e : after.e ≡ r.e
  pub h : after.h < 256
  pub l : after.l < 256
  pub sp : after.sp ≡ r.sp
  pub less : r.a < r.e → after.a < r.e
  pub divides : r.a < r.e → Quotient (r.e * 65536) count (both r) (both after)

pub record TakesBits
    (script : List (List ℕ)) (top exit : ℕ) (r : Registers) (memory : List ℕ) (events : List Event)
    (count : ℕ) : Type 0 where
  pub steps : ℕ
  pub after : Registers
  pub run : Comes script steps (at top r memory events) (at exit after memory events)
  pub few : steps ≤ 9 * count
  pub bits : Bits count r after

less_than : (a e e' : ℕ) → e' ≡ e → a < e → a < e'
less_than a e e' same h = omega arith

less_back : (a e e' : ℕ) → e' ≡ e → a < e' → a < e
less_back a e e' same h = omega arith

pub takes_bits :
    (script : List (List ℕ)) (layout : Layout) (first second third top to : ℕ) (others : List Item)
    (memory : List ℕ) (events : List Event)
    → Stands layout memory (narrow first second third others) top to
    → to ≤ MEMORY_SIZE
    → top + 1 + 1 + 3 + 1 + 3 + 1 + 1 + 1 + 3 < MEMORY_SIZE
    → layout.place_of first ≡ top
    → (n : ℕ) (r : Registers)
    → r.d ≡ suc n
    → n < 255
    → r.a < 256
    → r.e < 256
    → r.h < 256
    → r.l < 256
    → TakesBits script top (top + 1 + 1 + 3 + 1 + 3 + 1 + 1 + 1 + 3) r memory events (suc n)
takes_bits script layout first second third top to others memory events stands limit fits bound zero r
    counter few a e h l =
    let taken =
    takes_bit script layout first second third top to others r memory events stands limit fits
    (record { a = a; e = e; h = h; l = l })
    (nat_le 128 r.a) (nat_lt (doubled_a r + (255 - r.e) + 1) 256) refl refl in
    let bit = taken.bit in
    let place = top + 1 + 1 + 3 + 1 + 3 + 1 + 1 + 1 in
    let exit = at (place + 3) taken.after memory events in
    record {
      steps = 1 + taken.steps;
      after = taken.after;
      run =
          comes_on script taken.steps 1 (at top r memory events)
          (at place taken.after memory events) exit taken.run
          (goes_past script 0 NotZero (wrap (layout.place_of first)) place taken.after memory events exit
          stands.1.1.1.1.1.1.1.1.1.1.0 fits (ap not bit.z ∙ counted_out r.d counter)
          (same_after script exit));
      few = let count = taken.few in omega arith;
      bits = record {
        a = bit.a;
        b = bit.b;
        c = bit.c;
        d = bit.d ∙ one_less_is r.d 0 counter (omega arith);
        e = bit.e;
        h = bit.h;
        l = bit.l;
        sp = bit.sp;
        less = bit.less;
        divides =
            λ small. one_bit_more (r.e * 65536) 0 (both r) (both taken.after) (both taken.after)
            (bit.divides small) (no_bits (r.e * 65536) (both taken.after));
      };
    }
takes_bits script layout first second third top to others memory events stands limit fits bound (suc n) r
    counter few a e h l =
    let taken =
    takes_bit script layout first second third top to others r memory events stands limit fits
    (record { a = a; e = e; h = h; l = l })
    (nat_le 128 r.a) (nat_lt (doubled_a r + (255 - r.e) + 1) 256) refl refl in
    let bit = taken.bit in
    let r1 = taken.after in
    let place = top + 1 + 1 + 3 + 1 + 3 + 1 + 1 + 1 in
    let more =
    takes_bits script layout first second third top to others memory events stands limit fits bound n r1
    (bit.d ∙ one_less_is r.d (suc n) counter (omega arith)) (omega arith) bit.a
    (small_by r1.e r.e bit.e e) bit.h bit.l in
    let exit = at (place + 3) more.after memory events in
    record {
      steps = suc more.steps + taken.steps;
      after = more.after;
      run =
          comes_on script taken.steps (suc more.steps) (at top r memory events)
          (at place r1 memory events) exit taken.run
          (jumps_where script more.steps NotZero (wrap (layout.place_of first)) place top
          r1 memory events exit
          stands.1.1.1.1.1.1.1.1.1.1.0 (omega arith) (ap not bit.z ∙ counts_on r.d n counter (omega arith))
          (word_is (layout.place_of first) top bound (omega arith)) more.run);
      few = let one = taken.few in let rest = more.few in omega arith;
      bits = record {
        a = more.bits.a;
        b = more.bits.b ∙ bit.b;
        c = more.bits.c ∙ bit.c;
        d = more.bits.d;
        e = more.bits.e ∙ bit.e;
        h = more.bits.h;
        l = more.bits.l;
        sp = more.bits.sp ∙ bit.sp;
        less = λ small.
            less_back more.after.a r.e r1.e bit.e
            (more.bits.less (less_than r1.a r.e r1.e bit.e (bit.less small)));
        divides = λ small.
            one_bit_more (r.e * 65536) (suc n) (both r) (both r1) (both more.after) (bit.divides small)
            (subst (λ k. Quotient (k * 65536) (suc n) (both r1) (both more.after)) bit.e
            (more.bits.divides (less_than r1.a r.e r1.e bit.e (bit.less small))));
      };
    }
