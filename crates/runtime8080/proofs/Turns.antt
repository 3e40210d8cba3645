-- A product, bit by bit: HL is doubled, and gains BC where the next bit of A is 1; D counts the bits.
use Rattle.runtime8080.proofs.Prelude.{◌≡◌, ℕ, zero, suc, ◌+◌, ◌*◌, ◌/◌, ◌%◌, ◌^◌, ◌<◌, ◌≤◌, ◌==◌, Bool, true, false, not, nat_le, List, [], ◌∷◌, refl, sym, ap, ◌∙◌, arith, add-mod, pow-suc, mul-mod_first, leb-false, leb-true, MEMORY_SIZE, Event, A, D, Of, Bc, Hl, NoCarry, NotZero, Add, Instr, Accumulate, Dad, Dcr, Registers, word, wrap, JumpWhere, AtLabel, Item, Plain, WithWord, Mark, Layout, Stands, Comes, comes_on, at, goes_past, jumps_where, effect, straight, counted_out, counts_on, one_less_is, word_is, high_of_wrapped, low_is_byte, same_after, word_of_halves}
use Rattle.runtime8080.proofs.Numbers.{without_carry}

abbrev doubling : List Instr
doubling = Dad Hl ∷ Accumulate Add (Of A) ∷ []

abbrev pub after_skip : (label : ℕ) → List Item → List Item
after_skip label others = Plain (Dcr (Of D)) ∷ WithWord (JumpWhere NotZero) (AtLabel label) ∷ others

abbrev pub after_double : (label skip : ℕ) → List Item → List Item
after_double label skip others =
    WithWord (JumpWhere NoCarry) (AtLabel skip) ∷ Plain (Dad Bc) ∷ Mark skip ∷ after_skip label others

-- the items of the loop
abbrev pub bits : (label skip : ℕ) → List Item → List Item
bits label skip others = Plain (Dad Hl) ∷ Plain (Accumulate Add (Of A)) ∷ after_double label skip others

-- registers after a bit
record Bit (r after : Registers) : Type 0 where
  hl : word after.h after.l ≡ (word r.h r.l + word r.h r.l + r.a / 128 * word r.b r.c) % MEMORY_SIZE
  h : after.h < 256
  l : after.l < 256
  a : after.a ≡ (r.a + r.a) % 256
  b : after.b ≡ r.b
  c : after.c ≡ r.c
  d : after.d ≡ (r.d + 254 + 1) % 256
  e : after.e ≡ r.e
  sp : after.sp ≡ r.sp
  z : after.flags.z ≡ ((r.d + 254 + 1) % 256 == 0)

low_small : (n : ℕ) → n % 256 < 256
low_small n = omega arith

no_bit : (a : ℕ) → nat_le 256 (a + a + 0) ≡ false → a / 128 ≡ 0
no_bit a h = let small : a + a + 0 < 256 = leb-false 256 (a + a + 0) h in omega arith

one_bit : (a : ℕ) → a < 256 → nat_le 256 (a + a + 0) ≡ true → a / 128 ≡ 1
one_bit a small h = let large : 256 ≤ a + a + 0 = leb-true 256 (a + a + 0) h in omega arith

without : (x y t : ℕ) → t ≡ 0 → wrap (x + x) ≡ (x + x + t * y) % MEMORY_SIZE
without x y t h = plain_sum x y ∙ ap (λ n. (x + x + n * y) % MEMORY_SIZE) (sym h)
  where
    plain_sum : (x y : ℕ) → wrap (x + x) ≡ (x + x + 0 * y) % MEMORY_SIZE
    plain_sum x y = omega arith

with_one : (x y t : ℕ) → t ≡ 1 → wrap (wrap (x + x) + y) ≡ (x + x + t * y) % MEMORY_SIZE
with_one x y t h = sum_of x y ∙ ap (λ n. (x + x + n * y) % MEMORY_SIZE) (sym h)
  where
    sum_of : (x y : ℕ) → wrap (wrap (x + x) + y) ≡ (x + x + 1 * y) % MEMORY_SIZE
    sum_of x y = omega arith

-- a run over one bit, up to the jump back
record TakesBit
    (script : List (List ℕ)) (top : ℕ) (r : Registers) (memory : List ℕ) (events : List Event) : Type 0 where
  steps : ℕ
  after : Registers
  run :
      Comes script steps (at top r memory events)
      (at (top + 1 + 1 + 3 + 1 + 1) after memory events)
  few : steps ≤ 5
  bit : Bit r after

takes_bit :
    (script : List (List ℕ)) (layout : Layout) (label skip top to : ℕ) (others : List Item)
    (r : Registers) (memory : List ℕ) (events : List Event)
    → Stands layout memory (bits label skip others) top to
    → to ≤ MEMORY_SIZE
    → top + 1 + 1 + 3 + 1 + 1 + 3 < MEMORY_SIZE
    → r.a < 256
    → (test : Bool)
    → nat_le 256 (r.a + r.a + 0) ≡ test
    → TakesBit script top r memory events
takes_bit script layout label skip top to others r memory events stands limit fits small false bit =
    let r1 = effect doubling r in
    let r2 = effect (Dcr (Of D) ∷ []) r1 in
    let x = word r.h r.l in
    let u = at (top + 1 + 1 + 3 + 1 + 1) r2 memory events in
    record {
      steps = 4;
      after = r2;
      run =
          straight script layout doubling (after_double label skip others) top to r memory events 2 u refl
          stands (omega arith)
          (jumps_where script 1 NoCarry (wrap (layout.place_of skip)) (top + 1 + 1) (top + 1 + 1 + 3 + 1) r1
          memory events u stands.1.1.0 (omega arith)
          (ap not bit) (word_is (layout.place_of skip) (top + 1 + 1 + 3 + 1) stands.1.1.1.1.0 (omega arith))
          (straight script layout (Dcr (Of D) ∷ []) (WithWord (JumpWhere NotZero) (AtLabel label) ∷ others)
          (top + 1 + 1 + 3 + 1) to r1 memory events 0 u refl stands.1.1.1.1.1 (omega arith)
          (same_after script u)));
      few = omega arith;
      bit = record {
        hl = word_of_halves (wrap (x + x)) ∙ without x (word r.b r.c) (r.a / 128) (no_bit r.a bit);
        h = high_of_wrapped (x + x);
        l = low_small (wrap (x + x));
        a = without_carry r.a;
        b = refl;
        c = refl;
        d = refl;
        e = refl;
        sp = refl;
        z = refl;
      };
    }
takes_bit script layout label skip top to others r memory events stands limit fits small true bit =
    let r1 = effect doubling r in
    let r2 = effect (Dad Bc ∷ []) r1 in
    let r3 = effect (Dcr (Of D) ∷ []) r2 in
    let x = word r.h r.l in
    let y = word r.b r.c in
    let x1 = word (wrap (x + x) / 256) (wrap (x + x) % 256) in
    let u = at (top + 1 + 1 + 3 + 1 + 1) r3 memory events in
    record {
      steps = 5;
      after = r3;
      run =
          straight script layout doubling (after_double label skip others) top to r memory events 3 u refl
          stands (omega arith)
          (goes_past script 2 NoCarry (wrap (layout.place_of skip)) (top + 1 + 1) r1 memory events u
          stands.1.1.0 (omega arith) (ap not bit)
          (straight script layout (Dad Bc ∷ []) (Mark skip ∷ after_skip label others) (top + 1 + 1 + 3) to r1
          memory events 1 u refl stands.1.1.1 (omega arith)
          (straight script layout (Dcr (Of D) ∷ []) (WithWord (JumpWhere NotZero) (AtLabel label) ∷ others)
          (top + 1 + 1 + 3 + 1) to r2 memory events 0 u refl stands.1.1.1.1.1 (omega arith)
          (same_after script u))));
      few = omega arith;
      bit = record {
        hl =
            word_of_halves (wrap (x1 + y))
            ∙ (ap (λ n. wrap (n + y)) (word_of_halves (wrap (x + x)))
            ∙ with_one x y (r.a / 128) (one_bit r.a small bit));
        h = high_of_wrapped (x1 + y);
        l = low_small (wrap (x1 + y));
        a = without_carry r.a;
        b = refl;
        c = refl;
        d = refl;
        e = refl;
        sp = refl;
        z = refl;
      };
    }

-- the number that the highest bits of a byte are
abbrev pub highest : (count byte : ℕ) → ℕ
highest zero byte = 0
highest (suc count) byte = byte / 128 * 2 ^ count + highest count ((byte + byte) % 256)

-- registers after so many bits
pub record Bits (count : ℕ) (r after : Registers) : Type 0 where
  pub hl : word after.h after.l ≡ (word r.h r.l * 2 ^ count + word r.b r.c * highest count r.a) % MEMORY_SIZE
  pub h : after.h < 256
  pub l : after.l < 256
  pub a : after.a < 256
  pub b : after.b ≡ r.b
  pub c : after.c ≡ r.c
  pub d : after.d < 256
  pub e : after.e ≡ r.e
  pub sp : after.sp ≡ r.sp

pub record TakesBits
    (script : List (List ℕ)) (top exit : ℕ) (r : Registers) (memory : List ℕ) (events : List Event)
    (count : ℕ) : Type 0 where
  pub steps : ℕ
  pub after : Registers
  pub run : Comes script steps (at top r memory events) (at exit after memory events)
  pub few : steps ≤ 6 * count
  pub bits : Bits count r after

-- a sum modulo 65536 of a product with a remainder
pub absorbed : (x p q : ℕ) → (x % MEMORY_SIZE * p + q) % MEMORY_SIZE ≡ (x * p + q) % MEMORY_SIZE
absorbed x p q =
    add-mod (x % MEMORY_SIZE * p) q MEMORY_SIZE
    ∙ (ap (λ n. (n + q % MEMORY_SIZE) % MEMORY_SIZE) (mul-mod_first x p MEMORY_SIZE)
    ∙ sym (add-mod (x * p) q MEMORY_SIZE))

one_sum : (x y t : ℕ) → x + x + t * y ≡ x * 2 + y * (t * 1 + 0)
one_sum x y t = omega arith

regrouped : (x y t p q : ℕ) → (x + x + t * y) * p + y * q ≡ x * (p * 2) + y * (t * p + q)
regrouped x y t p q = omega arith

more_bits :
    (x y t n q hl : ℕ)
    → hl ≡ (x + x + t * y) % MEMORY_SIZE
    → (hl * 2 ^ n + y * q) % MEMORY_SIZE ≡ (x * 2 ^ suc n + y * (t * 2 ^ n + q)) % MEMORY_SIZE
more_bits x y t n q hl h =
    ap (λ m. (m * 2 ^ n + y * q) % MEMORY_SIZE) h
    ∙ (absorbed (x + x + t * y) (2 ^ n) (y * q)
    ∙ (ap (λ m. m % MEMORY_SIZE) (regrouped x y t (2 ^ n) q)
    ∙ ap (λ p. (x * p + y * (t * 2 ^ n + q)) % MEMORY_SIZE) (sym (pow-suc 2 n))))

pub takes_bits :
    (script : List (List ℕ)) (layout : Layout) (label skip top to : ℕ) (others : List Item)
    (memory : List ℕ) (events : List Event)
    → Stands layout memory (bits label skip others) top to
    → to ≤ MEMORY_SIZE
    → top + 1 + 1 + 3 + 1 + 1 + 3 < MEMORY_SIZE
    → layout.place_of label ≡ top
    → (n : ℕ) (r : Registers)
    → r.d ≡ suc n
    → n < 255
    → r.a < 256
    → TakesBits script top (top + 1 + 1 + 3 + 1 + 1 + 3) r memory events (suc n)
takes_bits script layout label skip top to others memory events stands limit fits bound zero
    r counter few small =
    let taken =
    takes_bit script layout label skip top to others r memory events stands limit fits small
    (nat_le 256 (r.a + r.a + 0)) refl in
    let bit = taken.bit in
    let exit = at (top + 1 + 1 + 3 + 1 + 1 + 3) taken.after memory events in
    record {
      steps = 1 + taken.steps;
      after = taken.after;
      run =
          comes_on script taken.steps 1 (at top r memory events)
          (at (top + 1 + 1 + 3 + 1 + 1) taken.after memory events) exit taken.run
          (goes_past script 0 NotZero (wrap (layout.place_of label)) (top + 1 + 1 + 3 + 1 + 1)
          taken.after memory events exit
          stands.1.1.1.1.1.1.0 fits (ap not bit.z ∙ counted_out r.d counter) (same_after script exit));
      few = let small_count = taken.few in omega arith;
      bits = record {
        hl = bit.hl ∙ ap (λ m. m % MEMORY_SIZE) (one_sum (word r.h r.l) (word r.b r.c) (r.a / 128));
        h = bit.h;
        l = bit.l;
        a = low_is_byte taken.after.a (r.a + r.a) bit.a;
        b = bit.b;
        c = bit.c;
        d = low_is_byte taken.after.d (r.d + 254 + 1) bit.d;
        e = bit.e;
        sp = bit.sp;
      };
    }
takes_bits script layout label skip top to others memory events stands limit fits bound (suc n)
    r counter few small =
    let taken =
    takes_bit script layout label skip top to others r memory events stands limit fits small
    (nat_le 256 (r.a + r.a + 0)) refl in
    let bit = taken.bit in
    let r1 = taken.after in
    let place = top + 1 + 1 + 3 + 1 + 1 in
    let more =
    takes_bits script layout label skip top to others memory events stands limit fits bound n r1
    (bit.d ∙ one_less_is r.d (suc n) counter (omega arith)) (omega arith)
    (low_is_byte r1.a (r.a + r.a) bit.a) in
    let exit = at (place + 3) more.after memory events in
    let x = word r.h r.l in
    let y = word r.b r.c in
    record {
      steps = suc more.steps + taken.steps;
      after = more.after;
      run =
          comes_on script taken.steps (suc more.steps) (at top r memory events)
          (at place r1 memory events) exit taken.run
          (jumps_where script more.steps NotZero (wrap (layout.place_of label)) place top
          r1 memory events exit
          stands.1.1.1.1.1.1.0 (omega arith) (ap not bit.z ∙ counts_on r.d n counter (omega arith))
          (word_is (layout.place_of label) top bound (omega arith)) more.run);
      few = let one = taken.few in let rest = more.few in omega arith;
      bits = record {
        hl =
            more.bits.hl
            ∙ (ap (λ b. (word r1.h r1.l * 2 ^ suc n + word b r1.c * highest (suc n) r1.a) % MEMORY_SIZE) bit.b
            ∙ (ap (λ c. (word r1.h r1.l * 2 ^ suc n + word r.b c * highest (suc n) r1.a) % MEMORY_SIZE) bit.c
            ∙ (ap (λ a. (word r1.h r1.l * 2 ^ suc n + y * highest (suc n) a) % MEMORY_SIZE) bit.a
            ∙ more_bits x y (r.a / 128) (suc n) (highest (suc n) ((r.a + r.a) % 256))
            (word r1.h r1.l) bit.hl)));
        h = more.bits.h;
        l = more.bits.l;
        a = more.bits.a;
        b = more.bits.b ∙ bit.b;
        c = more.bits.c ∙ bit.c;
        d = more.bits.d;
        e = more.bits.e ∙ bit.e;
        sp = more.bits.sp ∙ bit.sp;
      };
    }
