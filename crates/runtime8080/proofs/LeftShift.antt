-- The shift of an ADDRESS to the left: by 16 or more it is 0, else it is doubled once for each that E counts.
use Rattle.runtime8080.proofs.Prelude.{◌≡◌, ℕ, zero, suc, ◌+◌, ◌-◌, ◌*◌, ◌%◌, ◌^◌, ◌<◌, ◌≤◌, min, Bool, true, false, nat_lt, List, [], ◌∷◌, refl, sym, ap, ◌∙◌, arith, pow-add, pow-suc, mul-mod_first, leb-false, leb-true, MEMORY_SIZE, Event, E, A, Of, Hl, Carry, Compare, Instr, AccumulateImmediate, Dad, Lxi, Mov, Ret, HoldBytes, Registers, pair_of, word, wrap, JumpWhere, AtLabel, Item, Plain, WithWord, Mark, Layout, Stands, goes_past, jumps_where, returned, returns, effect, past, steps_of, straight, counted, loop_before, steps_below, tested_before, turns_below, word_is, stands_size, stands_still, IsRoutine, shift_left_address, high_of_wrapped, word_of_halves}
use Rattle.runtime8080.specs.declared.routine.Routine.TheVariants as routines
use Rattle.runtime8080.proofs.AddressBits.{doubled_product, low_small}
use Rattle.runtime8080.proofs.Bodies.{Body, bytes_with_sp, returns_quietly}
use Rattle.runtime8080.proofs.Numbers.{one_less_small, small_by}

-- E takes the count, which is compared with 16
abbrev head : List Instr
head = Mov E (Of A) ∷ AccumulateImmediate Compare 16 ∷ []

abbrev twice : List Instr
twice = Dad Hl ∷ []

abbrev rest : (first : ℕ) → List Item
rest first =
    WithWord (JumpWhere Carry) (AtLabel first) ∷ Plain (Lxi Hl 0) ∷ Plain Ret ∷ Mark first
    ∷ tested_before twice first []

-- registers of which HL has a value, and E some byte
record ChangedHl (r after : Registers) (value : ℕ) : Type 0 where
  hl : pair_of Hl after ≡ value
  h : after.h < 256
  l : after.l < 256
  a : after.a ≡ r.a
  b : after.b ≡ r.b
  c : after.c ≡ r.c
  d : after.d ≡ r.d
  e : after.e < 256
  sp : after.sp ≡ r.sp

not_shifted : (h l : ℕ) → h < 256 → l < 256 → word h l ≡ (word h l * 1) % MEMORY_SIZE
not_shifted h l small_h small_l = omega arith

once_more : (x n : ℕ) → ((x + x) % MEMORY_SIZE * 2 ^ n) % MEMORY_SIZE ≡ (x * 2 ^ suc n) % MEMORY_SIZE
once_more x n =
    mul-mod_first (x + x) (2 ^ n) MEMORY_SIZE
    ∙ ap (λ p. p % MEMORY_SIZE) (doubled_product x (2 ^ n) ∙ ap (λ p. x * p) (sym (pow-suc 2 n)))

doubled :
    (n : ℕ) (r : Registers)
    → r.h < 256
    → r.l < 256
    → ChangedHl r (turns_below twice n r) ((pair_of Hl r * 2 ^ n) % MEMORY_SIZE)
doubled zero r small_h small_l = record {
  hl = not_shifted r.h r.l small_h small_l;
  h = small_h;
  l = small_l;
  a = refl;
  b = refl;
  c = refl;
  d = refl;
  e = one_less_small r.e;
  sp = refl;
}
doubled (suc n) r small_h small_l =
    let x = pair_of Hl r in
    let r1 = counted r in
    let more = doubled n (effect twice r1) (high_of_wrapped (x + x)) (low_small (wrap (x + x))) in
    record {
      hl =
          more.hl
          ∙ (ap (λ w. (w * 2 ^ n) % MEMORY_SIZE) (word_of_halves (wrap (x + x))) ∙ once_more x n);
      h = more.h;
      l = more.l;
      a = more.a;
      b = more.b;
      c = more.c;
      d = more.d;
      e = more.e;
      sp = more.sp;
    }

is_below : (e : ℕ) → nat_lt (e + 239 + 1) 256 ≡ true → e < 16
is_below e h = let small : suc (e + 239 + 1) ≤ 256 = leb-true (suc (e + 239 + 1)) 256 h in omega arith

is_not_below : (e : ℕ) → nat_lt (e + 239 + 1) 256 ≡ false → 16 ≤ e
is_not_below e h = let large : 256 < suc (e + 239 + 1) = leb-false (suc (e + 239 + 1)) 256 h in omega arith

steps_is : (n : ℕ) → steps_below twice n ≡ 4 * n + 2
steps_is zero = refl
steps_is (suc n) = let more : steps_below twice n ≡ 4 * n + 2 = steps_is n in omega arith

few : (count n : ℕ) → count ≡ 4 * n + 2 → n < 16 → suc (suc (suc (suc count))) ≤ min 66 (6 + 4 * n)
few count n is less = omega arith

count_again : (count : ℕ) → 16 ≤ count → count ≡ count - 16 + 16
count_again count h = omega arith

shifted_past : (x p : ℕ) → (x * (p * 65536)) % 65536 ≡ 0
shifted_past x p = omega arith

none_left : (count x : ℕ) → 16 ≤ count → (x * 2 ^ count) % 65536 ≡ 0
none_left count x h =
    ap (λ k. (x * 2 ^ k) % 65536) (count_again count h)
    ∙ (ap (λ p. (x * p) % 65536) (pow-add 2 (count - 16) 16) ∙ shifted_past x (2 ^ (count - 16)))

shift_body :
    (script : List (List ℕ)) (layout : Layout) (first from to : ℕ) (r : Registers) (memory : List ℕ)
    (events : List Event)
    → Stands layout memory (shift_left_address first) from to
    → to ≤ MEMORY_SIZE
    → HoldBytes r
    → (test : Bool)
    → nat_lt (r.a + 239 + 1) 256 ≡ test
    → Body script routines.ShiftLeftAddress from r memory events
shift_body script layout first from to r memory events stands limit are true below =
    let r1 = effect head r in
    let more : Stands layout memory (rest first) (past from head) to = stands.1.1 in
    let top = past from head + 3 + 3 + 1 in
    let loop : Stands layout memory (tested_before twice first []) top to = more.1.1.1.1 in
    let size = stands_size layout memory (tested_before twice first []) top to loop in
    let after = turns_below twice r.a r1 in
    let changed = doubled r.a r1 are.h are.l in
    let u = returned after memory events in
    let less = is_below r.a below in
    record {
      count = steps_of head (suc (steps_below twice r.a));
      after = after;
      run =
          straight script layout head (rest first) from to r memory events (suc (steps_below twice r.a)) u
          refl stands (omega arith)
          (jumps_where script (steps_below twice r.a) Carry (wrap (layout.place_of first)) (past from head)
          top r1 memory events u more.0 (omega arith) below
          (word_is (layout.place_of first) top more.1.1.1.0 (omega arith))
          (loop_before script layout twice first top to [] memory events refl (λ r. refl) loop (omega arith)
          more.1.1.1.0 r.a r1 refl (omega arith)));
      few = few (steps_below twice r.a) r.a (steps_is r.a) less;
      sp = changed.sp;
      bytes = record {
        a = small_by after.a r.a changed.a are.a;
        b = small_by after.b r.b changed.b are.b;
        c = small_by after.c r.c changed.c are.c;
        d = small_by after.d r.d changed.d are.d;
        e = changed.e;
        h = changed.h;
        l = changed.l;
      };
      computes = changed.hl;
      leaves = record { b = changed.b; c = changed.c; d = changed.d };
    }
shift_body script layout first from to r memory events stands limit are false below =
    let r1 = effect head r in
    let more : Stands layout memory (rest first) (past from head) to = stands.1.1 in
    let top = past from head + 3 + 3 + 1 in
    let loop : Stands layout memory (tested_before twice first []) top to = more.1.1.1.1 in
    let size = stands_size layout memory (tested_before twice first []) top to loop in
    let after = effect (Lxi Hl 0 ∷ []) r1 in
    let u = returned after memory events in
    record {
      count = steps_of head 3;
      after = after;
      run =
          straight script layout head (rest first) from to r memory events 3 u refl stands (omega arith)
          (goes_past script 2 Carry (wrap (layout.place_of first)) (past from head) r1 memory events u
          more.0 (omega arith) below
          (straight script layout (Lxi Hl 0 ∷ []) (Plain Ret ∷ Mark first ∷ tested_before twice first [])
          (past from head + 3) to r1 memory events 1 u refl more.1 (omega arith)
          (returns script (past from head + 3 + 3) after memory events more.1.1.0 (omega arith))));
      few = omega arith;
      sp = refl;
      bytes = record { a = are.a; b = are.b; c = are.c; d = are.d; e = are.a; h = omega arith; l = omega arith };
      computes = sym (none_left r.a (pair_of Hl r) (is_not_below r.a below));
      leaves = record { b = refl; c = refl; d = refl };
    }

pub shifts_address_left : (first : ℕ) → IsRoutine routines.ShiftLeftAddress (shift_left_address first)
shifts_address_left first layout from to script level s limit stands may =
    returns_quietly script routines.ShiftLeftAddress from to level s may refl
    (λ memory alike.
    shift_body script layout first from to (record s.registers { sp = level - 2 }) memory s.events
    (stands_still layout s.memory memory (shift_left_address first) from to limit alike stands) limit
    (bytes_with_sp s.registers (level - 2) may.registers) (nat_lt (s.registers.a + 239 + 1) 256) refl)
