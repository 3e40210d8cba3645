-- The shift of an ADDRESS to the right: by 1 and 2 it is halved and quartered; by 3 to 7 the 24 bits of A, H and L are
-- doubled, 8 less the count times, and the higher 16 of them are the value; by 8 or more the high byte takes
-- the place of the low one, and the rest of the count begins anew.
use Rattle.runtime8080.proofs.Prelude.{◌≡◌, ℕ, zero, suc, ◌+◌, ◌-◌, ◌*◌, ◌/◌, ◌%◌, ◌^◌, ◌<◌, ◌≤◌, ◌==◌, min, Bool, true, false, not, nat_le, nat_lt, List, [], ◌∷◌, refl, sym, ap, ◌∙◌, arith, eq-eqb, le-leb, leb-false, leb-true, lt-leb, MEMORY_SIZE, Event, A, H, L, Of, Hl, Carry, NoCarry, ParityOdd, Zero, Add, And, Compare, ExclusiveOr, Instr, Accumulate, AccumulateImmediate, Dad, Dcr, Mov, Mvi, Ral, Rar, Ret, ReturnIf, Rrc, bit, HoldBytes, Registers, State, word, wrap, JumpWhere, AtLabel, Item, Plain, WithWord, Mark, Layout, Stands, Comes, at, goes_past, jumps_where, returned, returns, returns_where, stays_here, effect, past, plain, steps_of, straight, not_equal, not_zero, one_less_is, word_is, stands_size, stands_still, IsRoutine, shift_right_address, high_of_wrapped, word_of_halves}
use Rattle.runtime8080.specs.declared.routine.Routine.TheVariants as routines
use Rattle.runtime8080.proofs.AddressBits.{by_eight, even_of, half_small, halves, high_alone, low_small, none_left, not_doubled, odd_of, once_more, quarter_high_small, quarter_low_small, quarters, shifted_is, turned, turned_small, word_small}
use Rattle.runtime8080.proofs.Bodies.{Body, bytes_with_sp, returns_quietly}
use Rattle.runtime8080.proofs.Numbers.{small_by}

abbrev head : List Instr
head = AccumulateImmediate Add 254 ∷ []

abbrev counting : List Instr
counting = Dcr (Of A) ∷ []

abbrev doubling : List Instr
doubling = Dad Hl ∷ Ral ∷ []

abbrev ending : List Instr
ending = Mov L (Of H) ∷ Mov H (Of A) ∷ []

abbrev last : List Item
last = plain ending (Plain Ret ∷ [])

-- A is counted down once for each label, where the code goes on once A is 0
abbrev tests : List ℕ → List Item → List Item
tests [] others = others
tests (label ∷ labels) others =
    plain counting (WithWord (JumpWhere Zero) (AtLabel label) ∷ tests labels others)

-- A, H and L are doubled once for each label, and then HL takes the higher 16 of their bits
abbrev doublings : List ℕ → List Item
doublings [] = last
doublings (label ∷ labels) = Mark label ∷ plain doubling (doublings labels)

abbrev many : List ℕ → ℕ
many [] = zero
many (label ∷ labels) = suc (many labels)

-- the place after the tests, and the registers and the steps there where A was more than they count
abbrev past_tests : (place : ℕ) → List ℕ → ℕ
past_tests place [] = place
past_tests place (label ∷ labels) = past_tests (place + 1 + 3) labels

abbrev counted_by : List ℕ → Registers → Registers
counted_by [] r = r
counted_by (label ∷ labels) r = counted_by labels (effect counting r)

abbrev steps_past : List ℕ → (more : ℕ) → ℕ
steps_past [] more = more
steps_past (label ∷ labels) more = suc (suc (steps_past labels more))

-- the registers after the doublings, and the steps from there to the return
abbrev doubled_by : List ℕ → Registers → Registers
doubled_by [] r = r
doubled_by (label ∷ labels) r = doubled_by labels (effect doubling r)

abbrev steps_to_end : List ℕ → ℕ
steps_to_end [] = 3
steps_to_end (label ∷ labels) = suc (suc (steps_to_end labels))

steps_are : (labels : List ℕ) → steps_to_end labels ≡ 2 * many labels + 3
steps_are [] = refl
steps_are (label ∷ labels) =
    let more : steps_to_end labels ≡ 2 * many labels + 3 = steps_are labels in omega arith

-- the registers that a shift keeps, and those that it gives another byte
abbrev Kept : (r after : Registers) → Type 0
Kept r after =
    (after.b ≡ r.b) × (after.c ≡ r.c) × (after.d ≡ r.d) × (after.e ≡ r.e) × (after.sp ≡ r.sp)

abbrev Small : Registers → Type 0
Small r = (r.a < 256) × (r.h < 256) × (r.l < 256)

-- a run to the return, after which HL has a value
record Ends
    (script : List (List ℕ)) (place : ℕ) (r : Registers) (memory : List ℕ) (events : List Event)
    (value most : ℕ) : Type 0 where
  steps : ℕ
  after : Registers
  run : Comes script steps (at place r memory events) (returned after memory events)
  few : steps ≤ most
  hl : word after.h after.l ≡ value
  small : Small after
  kept : Kept r after

not_none : (m p n : ℕ) → m ≡ p + suc n → m ≡ 0 → ⊥
not_none m p n is none = omega arith

-- a run past tests that do not come to 0
passes :
    (script : List (List ℕ)) (layout : Layout) (labels : List ℕ) (others : List Item)
    (place to : ℕ) (r : Registers)
    (memory : List ℕ) (events : List Event) (n k : ℕ) (u : State)
    → Stands layout memory (tests labels others) place to
    → place + 4 * many labels < MEMORY_SIZE
    → r.a ≡ many labels + suc n
    → many labels + suc n < 256
    → Comes script k (at (past_tests place labels) (counted_by labels r) memory events) u
    → Comes script (steps_past labels k) (at place r memory events) u
passes script layout [] others place to r memory events n k u stands fits is small more = more
passes script layout (label ∷ labels) others place to r memory events n k u stands fits is small more =
    let next : (r.a + 254 + 1) % 256 ≡ many labels + suc n = omega arith in
    straight script layout counting (WithWord (JumpWhere Zero) (AtLabel label) ∷ tests labels others) place to
    r memory events (suc (steps_past labels k)) u refl stands (omega arith)
    (goes_past script (steps_past labels k) Zero (wrap (layout.place_of label)) (place + 1)
    (effect counting r) memory events u stands.1.0 (omega arith)
    (not_equal ((r.a + 254 + 1) % 256) 0 (not_none ((r.a + 254 + 1) % 256) (many labels) n next))
    (passes script layout labels others (place + 1 + 3) to (effect counting r) memory events n k u stands.1.1
    (omega arith) next (omega arith) more))

counted_is :
    (labels : List ℕ) (n : ℕ) (r : Registers)
    → r.a ≡ many labels + suc n
    → many labels + suc n < 256
    → (counted_by labels r).a ≡ suc n
counted_is [] n r is small = omega arith
counted_is (label ∷ labels) n r is small =
    let next : (r.a + 254 + 1) % 256 ≡ many labels + suc n = omega arith in
    counted_is labels n (effect counting r) next (omega arith)

-- the 24 bits of A, H and L
abbrev bits_of : Registers → ℕ
bits_of r = 65536 * r.a + word r.h r.l

one_doubling : (r : Registers) → r.a < 256 → r.h < 256 → r.l < 256
    → bits_of (effect doubling r) ≡ (bits_of r + bits_of r) % 16777216
one_doubling r a h l =
    let x = word r.h r.l in
    ap (λ n. 65536 * (r.a * 2 % 256 + bit (nat_le 65536 (x + x))) + n) (word_of_halves (wrap (x + x)))
    ∙ turned r.a x (nat_le 65536 (x + x)) refl a (word_small r.h r.l h l)

record Doubled (r after : Registers) (count : ℕ) : Type 0 where
  bits : bits_of after ≡ (bits_of r * 2 ^ count) % 16777216
  small : Small after
  kept : Kept r after

doubled :
    (labels : List ℕ) (r : Registers)
    → r.a < 256
    → r.h < 256
    → r.l < 256
    → Doubled r (doubled_by labels r) (many labels)
doubled [] r a h l = record {
  bits = not_doubled r.a r.h r.l a h l;
  small = (a, h, l);
  kept = (refl, refl, refl, refl, refl);
}
doubled (label ∷ labels) r a h l =
    let x = word r.h r.l in
    let more =
    doubled labels (effect doubling r) (turned_small r.a (nat_le 65536 (x + x)) a) (high_of_wrapped (x + x))
    (low_small (wrap (x + x))) in
    record {
      bits =
          more.bits
          ∙ (ap (λ z. (z * 2 ^ many labels) % 16777216) (one_doubling r a h l)
          ∙ once_more (bits_of r) (many labels));
      small = more.small;
      kept = more.kept;
    }

-- a run over the doublings to the return
from_label :
    (script : List (List ℕ)) (layout : Layout) (labels : List ℕ) (place to : ℕ)
    (r : Registers) (memory : List ℕ)
    (events : List Event)
    → Stands layout memory (doublings labels) place to
    → place + 2 * many labels + 2 < MEMORY_SIZE
    → Comes script (steps_to_end labels) (at place r memory events)
    (returned (effect ending (doubled_by labels r)) memory events)
from_label script layout [] place to r memory events stands fits =
    straight script layout ending (Plain Ret ∷ []) place to r memory events 1
    (returned (effect ending r) memory events) refl stands (omega arith)
    (returns script (place + 1 + 1) (effect ending r) memory events stands.1.1.0 (omega arith))
from_label script layout (label ∷ labels) place to r memory events stands fits =
    straight script layout doubling (doublings labels) place to r memory events (steps_to_end labels)
    (returned (effect ending (doubled_by (label ∷ labels) r)) memory events) refl stands.1 (omega arith)
    (from_label script layout labels (place + 1 + 1) to (effect doubling r) memory events
    stands.1.1.1 (omega arith))

no_high : (a x : ℕ) → a ≡ 0 → 65536 * a + x ≡ x
no_high a x h = omega arith

few_to_end : (steps n : ℕ) → steps ≡ 2 * n + 3 → suc (suc steps) ≤ 2 * n + 5
few_to_end steps n is = omega arith

few_more : (steps n : ℕ) → steps ≤ 2 * n + 5 → suc (suc steps) ≤ 2 * suc n + 5
few_more steps n few = omega arith

-- a run from the tests that come to 0: A tells at which of the labels the code goes on
reaches :
    (script : List (List ℕ)) (layout : Layout) (labels : List ℕ) (others : List Item)
    (place to top bottom : ℕ)
    (r : Registers) (memory : List ℕ) (events : List Event) (n count : ℕ)
    → Stands layout memory (tests labels others) place to
    → place + 4 * many labels < MEMORY_SIZE
    → Stands layout memory (doublings labels) top bottom
    → top + 2 * many labels + 2 < MEMORY_SIZE
    → r.a ≡ suc n
    → n < many labels
    → many labels ≤ 5
    → count + many labels ≡ n + 8
    → r.h < 256
    → r.l < 256
    → Ends script place r memory events (word r.h r.l / 2 ^ count) (2 * many labels + 5)
reaches script layout [] others place to top bottom r memory events n count stands fits below top_fits
    is less most sum h l =
    absurd (omega arith)
reaches script layout (label ∷ labels) others place to top bottom r memory events zero count stands fits below
    top_fits is less most sum h l =
    let r1 = effect counting r in
    let r2 = doubled_by (label ∷ labels) r1 in
    let after = effect ending r2 in
    let u = returned after memory events in
    let none : (r.a + 254 + 1) % 256 ≡ 0 = omega arith in
    let done = doubled (label ∷ labels) r1 (low_small (r.a + 254 + 1)) h l in
    record {
      steps = suc (suc (steps_to_end (label ∷ labels)));
      after = after;
      run =
          straight script layout counting (WithWord (JumpWhere Zero) (AtLabel label) ∷ tests labels others)
          place to r memory events (suc (steps_to_end (label ∷ labels))) u refl stands (omega arith)
          (jumps_where script (steps_to_end (label ∷ labels)) Zero (wrap (layout.place_of label)) (place + 1)
          top r1 memory events u stands.1.0 (omega arith)
          (eq-eqb ((r.a + 254 + 1) % 256) 0 none)
          (word_is (layout.place_of label) top below.0 (omega arith))
          (from_label script layout (label ∷ labels) top bottom r1 memory events below top_fits));
      few = few_to_end (steps_to_end (label ∷ labels)) (many (label ∷ labels)) (steps_are (label ∷ labels));
      hl =
          shifted_is r2.a r2.h r2.l (bits_of r1) (word r.h r.l) count (many (label ∷ labels))
          done.small.1 done.small.2
          (no_high r1.a (word r.h r.l) none) (word_small r.h r.l h l) done.bits sum;
      small = (done.small.0, done.small.0, done.small.1);
      kept = done.kept;
    }
reaches script layout (label ∷ labels) others place to top bottom r memory events (suc n) count stands fits
    below top_fits is less most sum h l =
    let r1 = effect counting r in
    let next : (r.a + 254 + 1) % 256 ≡ suc n = omega arith in
    let end =
    reaches script layout labels others (place + 1 + 3) to (top + 1 + 1) bottom r1 memory events n count
    stands.1.1 (omega arith) below.1.1.1 (omega arith) next (omega arith) (omega arith)
    (omega arith) h l in
    let u = returned end.after memory events in
    record {
      steps = suc (suc end.steps);
      after = end.after;
      run =
          straight script layout counting (WithWord (JumpWhere Zero) (AtLabel label) ∷ tests labels others)
          place to r memory events (suc end.steps) u refl stands (omega arith)
          (goes_past script end.steps Zero (wrap (layout.place_of label)) (place + 1) r1 memory events u
          stands.1.0 (omega arith)
          (not_zero ((r.a + 254 + 1) % 256) n next) end.run);
      few = few_more end.steps (many labels) end.few;
      hl = end.hl;
      small = end.small;
      kept = end.kept;
    }

-- The parts of the listing, and where they stand.

abbrev exits : (first : ℕ) → List ℕ
exits first = (first + 3) ∷ (first + 4) ∷ (first + 5) ∷ (first + 6) ∷ (first + 7) ∷ []

abbrev halving : List Instr
halving = Mov A (Of H) ∷ Rar ∷ Mov H (Of A) ∷ Mov A (Of L) ∷ Rar ∷ Mov L (Of A) ∷ []

abbrev quartering : List Instr
quartering =
    Mov A (Of L) ∷ Accumulate ExclusiveOr (Of H) ∷ AccumulateImmediate And 252 ∷ Accumulate ExclusiveOr (Of H)
    ∷ Rrc ∷ Rrc ∷ Mov L (Of A) ∷ Mov A (Of H) ∷ AccumulateImmediate And 252 ∷ Rrc ∷ Rrc ∷ Mov H (Of A) ∷ []

-- by 8 bits, and what is left of the count
abbrev by_byte : List Instr
by_byte = Mov L (Of H) ∷ Mvi (Of H) 0 ∷ Dcr (Of A) ∷ []

abbrev comparing : List Instr
comparing = AccumulateImmediate Compare 8 ∷ []

abbrev emptying : List Instr
emptying = Mvi (Of L) 0 ∷ []

abbrev of_two : (first : ℕ) → List Item
of_two first = plain quartering (Plain Ret ∷ doublings (exits first))

abbrev after_one : (first : ℕ) → List Item
after_one first = plain halving (Plain Ret ∷ Mark (first + 2) ∷ of_two first)

abbrev after_emptying : (first : ℕ) → List Item
after_emptying first = Plain Ret ∷ Mark (first + 1) ∷ Plain (ReturnIf ParityOdd) ∷ after_one first

abbrev after_comparing : (first : ℕ) → List Item
after_comparing first = WithWord (JumpWhere Carry) (AtLabel first) ∷ plain emptying (after_emptying first)

abbrev after_byte : (first : ℕ) → List Item
after_byte first = Plain (ReturnIf Zero) ∷ plain comparing (after_comparing first)

abbrev of_more : (first : ℕ) → List Item
of_more first = plain by_byte (after_byte first)

abbrev after_head : (first : ℕ) → List Item
after_head first =
    WithWord (JumpWhere Zero) (AtLabel (first + 2)) ∷ WithWord (JumpWhere NoCarry) (AtLabel (first + 1))
    ∷ tests (exits first) (of_more first)

abbrev place_of_more : (first from : ℕ) → ℕ
place_of_more first from = past_tests (from + 2 + 3 + 3) (exits first)

abbrev place_of_one : (first from : ℕ) → ℕ
place_of_one first from = past (place_of_more first from) by_byte + 1 + 2 + 3 + 2 + 1

abbrev place_of_two : (first from : ℕ) → ℕ
place_of_two first from = past (place_of_one first from + 1) halving + 1

abbrev place_of_exits : (first from : ℕ) → ℕ
place_of_exits first from = past (place_of_two first from) quartering + 1

record Parts (layout : Layout) (memory : List ℕ) (first from to : ℕ) : Type 0 where
  start : layout.place_of first ≡ from
  all : Stands layout memory (plain head (after_head first)) from to
  more : Stands layout memory (of_more first) (place_of_more first from) to
  one : layout.place_of (first + 1) ≡ place_of_one first from
  for_one : Stands layout memory (Plain (ReturnIf ParityOdd) ∷ after_one first) (place_of_one first from) to
  two : layout.place_of (first + 2) ≡ place_of_two first from
  for_two : Stands layout memory (of_two first) (place_of_two first from) to
  at_exits : Stands layout memory (doublings (exits first)) (place_of_exits first from) to
  size : to ≡ from + 77

parts_of :
    (layout : Layout) (memory : List ℕ) (first from to : ℕ)
    → Stands layout memory (shift_right_address first) from to
    → Parts layout memory first from to
parts_of layout memory first from to stands =
    let more : Stands layout memory (of_more first) (place_of_more first from) to =
    stands.1.1.1.1.1.1.1.1.1.1.1.1.1.1 in
    let one : Stands layout memory (Mark (first + 1) ∷ Plain (ReturnIf ParityOdd) ∷ after_one first)
    (place_of_one first from) to =
    more.1.1.1.1.1.1.1.1 in
    let two : Stands layout memory (Mark (first + 2) ∷ of_two first) (place_of_two first from) to =
    one.1.1.1.1.1.1.1.1.1 in
    record {
      start = stands.0;
      all = stands.1;
      more = more;
      one = one.0;
      for_one = one.1;
      two = two.0;
      for_two = two.1;
      at_exits = two.1.1.1.1.1.1.1.1.1.1.1.1.1.1;
      size = stands_size layout memory (shift_right_address first) from to stands;
    }

-- a run past the tests of 0, 1 and 2
past_two :
    (script : List (List ℕ)) (layout : Layout) (first from to : ℕ) (r : Registers) (memory : List ℕ)
    (events : List Event) (k : ℕ) (u : State)
    → Parts layout memory first from to
    → to ≤ MEMORY_SIZE
    → 3 ≤ r.a
    → r.a < 256
    → Comes script k (at (from + 2 + 3 + 3) (effect head r) memory events) u
    → Comes script (suc (suc (suc k))) (at from r memory events) u
past_two script layout first from to r memory events k u parts limit large small more =
    let size = parts.size in
    let r1 = effect head r in
    straight script layout head (after_head first) from to r memory events (suc (suc k)) u refl
    parts.all (omega arith)
    (goes_past script (suc k) Zero (wrap (layout.place_of (first + 2))) (from + 2) r1 memory events u
    parts.all.1.0 (omega arith)
    (not_equal ((r.a + 254 + 0) % 256) 0 (not_two r.a large small))
    (goes_past script k NoCarry (wrap (layout.place_of (first + 1))) (from + 2 + 3) r1 memory events u
    parts.all.1.1.0 (omega arith)
    (ap not (le-leb 256 (r.a + 254 + 0) (omega arith))) more))
  where
    not_two : (a : ℕ) → 3 ≤ a → a < 256 → (a + 254 + 0) % 256 ≡ 0 → ⊥
    not_two a large small none = omega arith

by_none : (x : ℕ) → x ≡ x / 1
by_none x = omega arith

zero_left : (a : ℕ) → a ≡ 0 → (a + 254 + 0) % 256 ≡ 0 → ⊥
zero_left a is none = omega arith

one_left : (a : ℕ) → a ≡ 1 → (a + 254 + 0) % 256 ≡ 0 → ⊥
one_left a is none = omega arith

-- a count below 8
few_ends :
    (script : List (List ℕ)) (layout : Layout) (first from to : ℕ) (r : Registers) (memory : List ℕ)
    (events : List Event) (n : ℕ)
    → Parts layout memory first from to
    → to ≤ MEMORY_SIZE
    → r.a ≡ n
    → n < 8
    → r.h < 256
    → r.l < 256
    → Ends script from r memory events (word r.h r.l / 2 ^ n) (min 18 (7 + 4 * n))
few_ends script layout first from to r memory events zero parts limit is less h l =
    let size = parts.size in
    let r1 = effect head r in
    let u = returned r1 memory events in
    record {
      steps = steps_of head 3;
      after = r1;
      run =
          straight script layout head (after_head first) from to r memory events 3 u refl
          parts.all (omega arith)
          (goes_past script 2 Zero (wrap (layout.place_of (first + 2))) (from + 2) r1 memory events u
          parts.all.1.0 (omega arith)
          (not_equal ((r.a + 254 + 0) % 256) 0 (zero_left r.a is))
          (jumps_where script 1 NoCarry (wrap (layout.place_of (first + 1))) (from + 2 + 3)
          (place_of_one first from) r1 memory events u parts.all.1.1.0 (omega arith)
          (ap not (lt-leb 256 (r.a + 254 + 0) (omega arith)))
          (word_is (layout.place_of (first + 1)) (place_of_one first from) parts.one (omega arith))
          (returns_where script ParityOdd (place_of_one first from) r1 memory events
          parts.for_one.0 (omega arith)
          (odd_of ((r.a + 254 + 0) % 256) (omega arith)))));
      few = omega arith;
      hl = by_none (word r.h r.l);
      small = (low_small (r.a + 254 + 0), h, l);
      kept = (refl, refl, refl, refl, refl);
    }
few_ends script layout first from to r memory events (suc zero) parts limit is less h l =
    let size = parts.size in
    let r1 = effect head r in
    let after = effect halving r1 in
    let u = returned after memory events in
    let none : nat_le 256 (r.a + 254 + 0) ≡ false = lt-leb 256 (r.a + 254 + 0) (omega arith) in
    let low = half_small r.l (r.h % 2 == 1) l in
    record {
      steps = steps_of head (suc (suc (suc (steps_of halving 1))));
      after = after;
      run =
          straight script layout head (after_head first) from to r memory events
          (suc (suc (suc (steps_of halving 1)))) u refl parts.all (omega arith)
          (goes_past script (suc (suc (steps_of halving 1))) Zero (wrap (layout.place_of (first + 2)))
          (from + 2) r1 memory events u parts.all.1.0 (omega arith)
          (not_equal ((r.a + 254 + 0) % 256) 0 (one_left r.a is))
          (jumps_where script (suc (steps_of halving 1)) NoCarry (wrap (layout.place_of (first + 1)))
          (from + 2 + 3) (place_of_one first from) r1 memory events u parts.all.1.1.0 (omega arith)
          (ap not none)
          (word_is (layout.place_of (first + 1)) (place_of_one first from) parts.one (omega arith))
          (stays_here script (steps_of halving 1) ParityOdd (place_of_one first from) r1 memory events u
          parts.for_one.0 (omega arith)
          (even_of ((r.a + 254 + 0) % 256) (omega arith))
          (straight script layout halving (Plain Ret ∷ Mark (first + 2) ∷ of_two first)
          (place_of_one first from + 1) to r1 memory events 1 u refl parts.for_one.1 (omega arith)
          (returns script (past (place_of_one first from + 1) halving) after memory events
          parts.for_one.1.1.1.1.1.1.1.0 (omega arith))))));
      few = omega arith;
      hl = halves r.h r.l (nat_le 256 (r.a + 254 + 0)) none;
      small = (low, half_small r.h (nat_le 256 (r.a + 254 + 0)) h, low);
      kept = (refl, refl, refl, refl, refl);
    }
few_ends script layout first from to r memory events (suc (suc zero)) parts limit is less h l =
    let size = parts.size in
    let r1 = effect head r in
    let after = effect quartering r1 in
    let u = returned after memory events in
    record {
      steps = steps_of head (suc (steps_of quartering 1));
      after = after;
      run =
          straight script layout head (after_head first) from to r memory events (suc (steps_of quartering 1))
          u refl parts.all (omega arith)
          (jumps_where script (steps_of quartering 1) Zero (wrap (layout.place_of (first + 2))) (from + 2)
          (place_of_two first from) r1 memory events u parts.all.1.0 (omega arith)
          (eq-eqb ((r.a + 254 + 0) % 256) 0 (omega arith))
          (word_is (layout.place_of (first + 2)) (place_of_two first from) parts.two (omega arith))
          (straight script layout quartering (Plain Ret ∷ doublings (exits first)) (place_of_two first from)
          to r1 memory events 1 u refl parts.for_two (omega arith)
          (returns script (past (place_of_two first from) quartering) after memory events
          parts.for_two.1.1.1.1.1.1.1.1.1.1.1.1.0 (omega arith))));
      few = omega arith;
      hl = quarters r.h r.l h l;
      small = (quarter_high_small r.h h, quarter_high_small r.h h, quarter_low_small r.h r.l h l);
      kept = (refl, refl, refl, refl, refl);
    }
few_ends script layout first from to r memory events (suc (suc (suc n))) parts limit is less h l =
    let size = parts.size in
    let r1 = effect head r in
    let end =
    reaches script layout (exits first) (of_more first) (from + 2 + 3 + 3) to (place_of_exits first from) to
    r1 memory events n (suc (suc (suc n))) parts.all.1.1.1 (omega arith) parts.at_exits (omega arith)
    (omega arith) (omega arith) (omega arith) (omega arith) h l in
    record {
      steps = suc (suc (suc end.steps));
      after = end.after;
      run = past_two script layout first from to r memory events end.steps (returned end.after memory events)
          parts limit (omega arith) (omega arith) end.run;
      few = let most = end.few in omega arith;
      hl = end.hl;
      small = end.small;
      kept = end.kept;
    }

-- the registers where the high byte has taken the place of the low one, and A is the rest of the count
abbrev moved_down : (first : ℕ) → Registers → Registers
moved_down first r = effect by_byte (counted_by (exits first) (effect head r))

rest_is : (first n : ℕ) (r : Registers) → r.a ≡ 8 + n → r.a < 256 → (moved_down first r).a ≡ n
rest_is first n r is small =
    one_less_is (counted_by (exits first) (effect head r)).a n
    (counted_is (exits first) n (effect head r) (omega arith) (omega arith)) (omega arith)

-- a run to there
comes_down :
    (script : List (List ℕ)) (layout : Layout) (first from to : ℕ) (r : Registers) (memory : List ℕ)
    (events : List Event) (n k : ℕ) (u : State)
    → Parts layout memory first from to
    → to ≤ MEMORY_SIZE
    → r.a ≡ 8 + n
    → r.a < 256
    → Comes script k (at (past (place_of_more first from) by_byte) (moved_down first r) memory events) u
    → Comes script (suc (suc (suc (steps_past (exits first) (steps_of by_byte k)))))
    (at from r memory events) u
comes_down script layout first from to r memory events n k u parts limit is small more =
    let size = parts.size in
    let r1 = effect head r in
    past_two script layout first from to r memory events (steps_past (exits first) (steps_of by_byte k)) u
    parts limit (omega arith) small
    (passes script layout (exits first) (of_more first) (from + 2 + 3 + 3) to r1 memory events n
    (steps_of by_byte k) u parts.all.1.1.1 (omega arith) (omega arith) (omega arith)
    (straight script layout by_byte (after_byte first) (place_of_more first from) to
    (counted_by (exits first) r1) memory events k u refl parts.more (omega arith) more))

borrows : (e n : ℕ) → e ≡ n → n < 8 → nat_lt (e + 247 + 1) 256 ≡ true
borrows e n is less = le-leb (suc (e + 247 + 1)) 256 (omega arith)

does_not_borrow : (e n : ℕ) → e ≡ n → 8 ≤ n → nat_lt (e + 247 + 1) 256 ≡ false
does_not_borrow e n is more = lt-leb (suc (e + 247 + 1)) 256 (omega arith)

some_left : (m n : ℕ) → m ≡ n → 1 ≤ n → m ≡ 0 → ⊥
some_left m n is some none = omega arith

-- a count of 8
eight_ends :
    (script : List (List ℕ)) (layout : Layout) (first from to : ℕ) (r : Registers) (memory : List ℕ)
    (events : List Event)
    → Parts layout memory first from to
    → to ≤ MEMORY_SIZE
    → r.a ≡ 8 + 0
    → r.a < 256
    → r.h < 256
    → r.l < 256
    → Ends script from r memory events (word r.h r.l / 2 ^ r.a) 37
eight_ends script layout first from to r memory events parts limit is small h l =
    let size = parts.size in
    let after = moved_down first r in
    let rest = rest_is first 0 r is small in
    let eight : 8 ≡ r.a = omega arith in
    record {
      steps = suc (suc (suc (steps_past (exits first) (steps_of by_byte 1))));
      after = after;
      run =
          comes_down script layout first from to r memory events 0 1 (returned after memory events)
          parts limit is small
          (returns_where script Zero (past (place_of_more first from) by_byte) after memory events
          parts.more.1.1.1.0 (omega arith)
          (eq-eqb after.a 0 rest));
      few = omega arith;
      hl = high_alone r.h r.l l ∙ ap (λ n. word r.h r.l / 2 ^ n) eight;
      small = (small_by after.a 0 rest (omega arith), omega arith, h);
      kept = (refl, refl, refl, refl, refl);
    }

-- a count from 9 to 15
again_ends :
    (script : List (List ℕ)) (layout : Layout) (first from to : ℕ) (r : Registers) (memory : List ℕ)
    (events : List Event) (n : ℕ)
    → Parts layout memory first from to
    → to ≤ MEMORY_SIZE
    → r.a ≡ 8 + n
    → 1 ≤ n
    → n < 8
    → r.h < 256
    → r.l < 256
    → Ends script from r memory events (word r.h r.l / 2 ^ r.a) 37
again_ends script layout first from to r memory events n parts limit is some less h l =
    let size = parts.size in
    let r1 = moved_down first r in
    let r2 = effect comparing r1 in
    let rest = rest_is first n r is (omega arith) in
    let end = few_ends script layout first from to r2 memory events n parts limit rest less (omega arith) h in
    let u = returned end.after memory events in
    let place = past (place_of_more first from) by_byte in
    record {
      steps = suc
          (suc (suc (steps_past (exits first)
          (steps_of by_byte (suc (steps_of comparing (suc end.steps)))))));
      after = end.after;
      run =
          comes_down script layout first from to r memory events n (suc (steps_of comparing (suc end.steps)))
          u parts limit is (omega arith)
          (stays_here script (steps_of comparing (suc end.steps)) Zero place r1 memory events u
          parts.more.1.1.1.0 (omega arith)
          (not_equal r1.a 0 (some_left r1.a n rest some))
          (straight script layout comparing (after_comparing first) (place + 1) to r1 memory events
          (suc end.steps) u refl parts.more.1.1.1.1 (omega arith)
          (jumps_where script end.steps Carry (wrap (layout.place_of first)) (place + 1 + 2) from r2 memory
          events u parts.more.1.1.1.1.1.0 (omega arith)
          (borrows r1.a n rest less)
          (word_is (layout.place_of first) from parts.start (omega arith)) end.run)));
      few = let most = end.few in omega arith;
      hl =
          end.hl
          ∙ (ap (λ x. x / 2 ^ n) (high_alone r.h r.l l) ∙ by_eight (word r.h r.l) r.a n is);
      small = end.small;
      kept = end.kept;
    }

-- a count of 16 or more
none_ends :
    (script : List (List ℕ)) (layout : Layout) (first from to : ℕ) (r : Registers) (memory : List ℕ)
    (events : List Event) (n : ℕ)
    → Parts layout memory first from to
    → to ≤ MEMORY_SIZE
    → r.a ≡ 8 + n
    → r.a < 256
    → 8 ≤ n
    → r.h < 256
    → r.l < 256
    → Ends script from r memory events (word r.h r.l / 2 ^ r.a) 37
none_ends script layout first from to r memory events n parts limit is small many h l =
    let size = parts.size in
    let r1 = moved_down first r in
    let r2 = effect comparing r1 in
    let after = effect emptying r2 in
    let rest = rest_is first n r is small in
    let u = returned after memory events in
    let place = past (place_of_more first from) by_byte in
    record {
      steps = suc
          (suc (suc (steps_past (exits first)
          (steps_of by_byte (suc (steps_of comparing (suc (steps_of emptying 1))))))));
      after = after;
      run =
          comes_down script layout first from to r memory events n
          (suc (steps_of comparing (suc (steps_of emptying 1)))) u parts limit is small
          (stays_here script (steps_of comparing (suc (steps_of emptying 1))) Zero place r1 memory events u
          parts.more.1.1.1.0 (omega arith)
          (not_equal r1.a 0 (some_left r1.a n rest (omega arith)))
          (straight script layout comparing (after_comparing first) (place + 1) to r1 memory events
          (suc (steps_of emptying 1)) u refl parts.more.1.1.1.1 (omega arith)
          (goes_past script (steps_of emptying 1) Carry (wrap (layout.place_of first)) (place + 1 + 2) r2
          memory events u parts.more.1.1.1.1.1.0 (omega arith)
          (does_not_borrow r1.a n rest many)
          (straight script layout emptying (after_emptying first) (place + 1 + 2 + 3) to r2 memory events 1 u
          refl parts.more.1.1.1.1.1.1 (omega arith)
          (returns script (place + 1 + 2 + 3 + 2) after memory events
          parts.more.1.1.1.1.1.1.1.0 (omega arith))))));
      few = omega arith;
      hl = sym (none_left (word r.h r.l) r.a (omega arith) (word_small r.h r.l h l));
      small = (small_by r1.a n rest (omega arith), omega arith, omega arith);
      kept = (refl, refl, refl, refl, refl);
    }

-- a count of 8 or more, by what is left of it
large_ends :
    (script : List (List ℕ)) (layout : Layout) (first from to : ℕ) (r : Registers) (memory : List ℕ)
    (events : List Event) (n : ℕ) (test : Bool)
    → nat_lt n 8 ≡ test
    → Parts layout memory first from to
    → to ≤ MEMORY_SIZE
    → r.a ≡ 8 + n
    → r.a < 256
    → r.h < 256
    → r.l < 256
    → Ends script from r memory events (word r.h r.l / 2 ^ r.a) 37
large_ends script layout first from to r memory events zero test below parts limit is small h l =
    eight_ends script layout first from to r memory events parts limit is small h l
large_ends script layout first from to r memory events (suc n) true below parts limit is small h l =
    again_ends script layout first from to r memory events (suc n) parts limit is (omega arith)
    (leb-true (suc (suc n)) 8 below) h l
large_ends script layout first from to r memory events (suc n) false below parts limit is small h l =
    let large : 8 < suc (suc n) = leb-false (suc (suc n)) 8 below in
    none_ends script layout first from to r memory events (suc n) parts limit is small (omega arith) h l

body_of :
    (script : List (List ℕ)) (from : ℕ) (r : Registers) (memory : List ℕ) (events : List Event) (most : ℕ)
    → most ≤ min 37 (7 + 4 * r.a)
    → HoldBytes r
    → Ends script from r memory events (word r.h r.l / 2 ^ r.a) most
    → Body script routines.ShiftRightAddress from r memory events
body_of script from r memory events most limit are end = record {
  count = end.steps;
  after = end.after;
  run = end.run;
  few = let few = end.few in omega arith;
  sp = end.kept.4;
  bytes = record {
    a = end.small.0;
    b = small_by end.after.b r.b end.kept.0 are.b;
    c = small_by end.after.c r.c end.kept.1 are.c;
    d = small_by end.after.d r.d end.kept.2 are.d;
    e = small_by end.after.e r.e end.kept.3 are.e;
    h = end.small.1;
    l = end.small.2;
  };
  computes = end.hl;
  leaves = record { b = end.kept.0; c = end.kept.1; d = end.kept.2; e = end.kept.3 };
}

right_body :
    (script : List (List ℕ)) (layout : Layout) (first from to : ℕ) (r : Registers) (memory : List ℕ)
    (events : List Event) (test : Bool)
    → nat_lt r.a 8 ≡ test
    → Stands layout memory (shift_right_address first) from to
    → to ≤ MEMORY_SIZE
    → HoldBytes r
    → Body script routines.ShiftRightAddress from r memory events
right_body script layout first from to r memory events true below stands limit are =
    let parts = parts_of layout memory first from to stands in
    body_of script from r memory events (min 18 (7 + 4 * r.a)) (omega arith) are
    (few_ends script layout first from to r memory events r.a parts limit refl
    (leb-true (suc r.a) 8 below) are.h are.l)
right_body script layout first from to r memory events false below stands limit are =
    let parts = parts_of layout memory first from to stands in
    let large : 8 < suc r.a = leb-false (suc r.a) 8 below in
    body_of script from r memory events 37 (omega arith) are
    (large_ends script layout first from to r memory events (r.a - 8) (nat_lt (r.a - 8) 8) refl parts limit
    (omega arith) are.a are.h are.l)

pub shifts_address_right : (first : ℕ) → IsRoutine routines.ShiftRightAddress (shift_right_address first)
shifts_address_right first layout from to script level s limit stands may =
    returns_quietly script routines.ShiftRightAddress from to level s may refl
    (λ memory alike.
    right_body script layout first from to (record s.registers { sp = level - 2 }) memory s.events
    (nat_lt s.registers.a 8) refl
    (stands_still layout s.memory memory (shift_right_address first) from to limit alike stands) limit
    (bytes_with_sp s.registers (level - 2) may.registers))
