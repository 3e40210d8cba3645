-- The shifts of a byte: by 8 or more it is 0, else it is shifted once for each that E counts.
use Rattle.runtime8080.proofs.Prelude.{◌≡◌, ℕ, zero, suc, ◌+◌, ◌-◌, ◌*◌, ◌/◌, ◌%◌, ◌<◌, ◌≤◌, Bool, true, false, nat_lt, List, [], ◌∷◌, refl, sym, ap, ◌∙◌, arith, bit_or, or_self, leb-false, leb-true, MEMORY_SIZE, Event, D, E, A, Of, Carry, Add, Compare, Or, Instr, Accumulate, AccumulateImmediate, Mov, Mvi, Rar, Ret, HoldBytes, Registers, State, wrap, JumpWhere, AtLabel, Item, Plain, WithWord, Mark, Layout, Stands, goes_past, jumps_where, returned, returns, effect, past, past_later, plain, stands_after, steps_of, straight, touch_registers, loop_before, steps_below, tested_before, turns_below, word_is, stands_size, stands_still, Routine, Computes, IsRoutine, Leaves, LeavesBcAndHl, memory_after, most_steps, shift_left_byte, shift_right_byte}
use Rattle.runtime8080.specs.declared.routine.Routine.TheVariants as routines
use Rattle.runtime8080.proofs.Bits.{none_left, none_right, shift_left, shift_right, shifted_left, shifted_right, times}
use Rattle.runtime8080.proofs.Bodies.{Body, bytes_with_sp, returns_quietly}
use Rattle.runtime8080.proofs.ByteLoops.{ChangesA, before_turns, changed_bytes}

-- E is compared with 8, and A kept in D meanwhile
abbrev head : List Instr
head =
    Mov D (Of A) ∷ Mov A (Of E) ∷ AccumulateImmediate Compare 8 ∷ Mov A (Of D) ∷ []

abbrev rest : (body : List Instr) → (first : ℕ) → List Item
rest body first =
    WithWord (JumpWhere Carry) (AtLabel first) ∷ Plain (Mvi (Of A) 0) ∷ Plain Ret ∷ Mark first
    ∷ tested_before body first []

-- what a shift is proved from: its instructions, and what they do to a byte
record Shift (routine : Routine) (body : List Instr) (f : ℕ → ℕ) : Type 0 where
  touches : touch_registers body ≡ true
  changes : ChangesA body f
  most : (r : Registers) (n : ℕ) → n < 8 → 6 + steps_below body n ≤ most_steps routine r
  most_none : (r : Registers) → 8 ≤ most_steps routine r
  computes :
      (r after : Registers) → HoldBytes r → r.e < 8 → after.a ≡ times f r.e r.a → Computes routine r after
  computes_none :
      (r after : Registers) → HoldBytes r → 8 ≤ r.e → after.a ≡ 0 → Computes routine r after
  leaves : (r after : Registers) → LeavesBcAndHl r after → Leaves routine r after

six_more : (count most : ℕ) → 6 + count ≤ most → suc (suc (suc (suc (suc (suc count))))) ≤ most
six_more count most h = omega arith

is_below : (e : ℕ) → nat_lt (e + 247 + 1) 256 ≡ true → e < 8
is_below e h = let small : suc (e + 247 + 1) ≤ 256 = leb-true (suc (e + 247 + 1)) 256 h in omega arith

is_not_below : (e : ℕ) → nat_lt (e + 247 + 1) 256 ≡ false → 8 ≤ e
is_not_below e h = let large : 256 < suc (e + 247 + 1) = leb-false (suc (e + 247 + 1)) 256 h in omega arith

shift_body :
    (script : List (List ℕ)) (routine : Routine) (body : List Instr) (f : ℕ → ℕ)
    → Shift routine body f
    → (layout : Layout) (first from to : ℕ) (r : Registers) (memory : List ℕ) (events : List Event)
    → Stands layout memory (plain head (rest body first)) from to
    → to ≤ MEMORY_SIZE
    → HoldBytes r
    → (test : Bool)
    → nat_lt (r.e + 247 + 1) 256 ≡ test
    → Body script routine from r memory events
shift_body script routine body f is layout first from to r memory events stands limit are true below =
    let r1 = effect head r in
    let more : Stands layout memory (rest body first) (past from head) to = stands.1.1.1.1 in
    let top = past from head + 3 + 2 + 1 in
    let loop : Stands layout memory (tested_before body first []) top to = more.1.1.1.1 in
    let last = stands_after layout memory body _ (top + 1 + 1) to loop.1.1 in
    let end : past (top + 1 + 1) body + 3 ≡ to = last.1 in
    let later = past_later body (top + 1 + 1) in
    let after = turns_below body r.e r1 in
    let changed = before_turns body f is.changes r.e r1 are.a in
    let u = returned after memory events in
    let less = is_below r.e below in
    record {
      count = steps_of head (suc (steps_below body r.e));
      after = after;
      run =
          straight script layout head (rest body first) from to r memory events (suc (steps_below body r.e)) u
          refl stands (omega arith)
          (jumps_where script (steps_below body r.e) Carry (wrap (layout.place_of first)) (past from head) top
          r1 memory events u more.0 (omega arith) below
          (word_is (layout.place_of first) top more.1.1.1.0 (omega arith))
          (loop_before script layout body first top to [] memory events is.touches is.changes.e loop
          (omega arith) more.1.1.1.0 r.e r1 refl (omega arith)));
      few = six_more (steps_below body r.e) (most_steps routine r) (is.most r r.e less);
      sp = changed.sp;
      bytes = changed_bytes r r1 after (times f r.e r.a) are changed refl refl refl refl refl;
      computes = is.computes r after are less changed.a;
      leaves = is.leaves r after (record { b = changed.b; c = changed.c; h = changed.h; l = changed.l });
    }
shift_body script routine body f is layout first from to r memory events stands limit are false below =
    let r1 = effect head r in
    let more : Stands layout memory (rest body first) (past from head) to = stands.1.1.1.1 in
    let top = past from head + 3 + 2 + 1 in
    let loop : Stands layout memory (tested_before body first []) top to = more.1.1.1.1 in
    let size = stands_size layout memory (tested_before body first []) top to loop in
    let after = effect (Mvi (Of A) 0 ∷ []) r1 in
    let u = returned after memory events in
    record {
      count = steps_of head 3;
      after = after;
      run =
          straight script layout head (rest body first) from to r memory events 3 u refl stands (omega arith)
          (goes_past script 2 Carry (wrap (layout.place_of first)) (past from head) r1 memory events u
          more.0 (omega arith) below
          (straight script layout (Mvi (Of A) 0 ∷ []) (Plain Ret ∷ Mark first ∷ tested_before body first [])
          (past from head + 3) to r1 memory events 1 u refl more.1 (omega arith)
          (returns script (past from head + 3 + 2) after memory events more.1.1.0 (omega arith))));
      few = is.most_none r;
      sp = refl;
      bytes = record { a = omega arith; b = are.b; c = are.c; d = are.a; e = are.e; h = are.h; l = are.l };
      computes = is.computes_none r after are (is_not_below r.e below) refl;
      leaves = is.leaves r after (record { b = refl; c = refl; h = refl; l = refl });
    }

shifts :
    (routine : Routine) (body : List Instr) (f : ℕ → ℕ)
    → Shift routine body f
    → (first : ℕ)
    → ((s : State) → memory_after routine s ≡ s.memory)
    → IsRoutine routine (plain head (rest body first))
shifts routine body f is first quiet layout from to script level s limit stands may =
    returns_quietly script routine from to level s may (quiet s)
    (λ memory alike.
    shift_body script routine body f is layout first from to
    (record s.registers { sp = level - 2 }) memory s.events
    (stands_still layout s.memory memory (plain head (rest body first)) from to limit alike stands) limit
    (bytes_with_sp s.registers (level - 2) may.registers) (nat_lt (s.registers.e + 247 + 1) 256) refl)

steps_left : (n : ℕ) → steps_below (Accumulate Add (Of A) ∷ []) n ≡ 4 * n + 2
steps_left zero = refl
steps_left (suc n) =
    let more : steps_below (Accumulate Add (Of A) ∷ []) n ≡ 4 * n + 2 = steps_left n in omega arith

few_left : (count n : ℕ) → count ≡ 4 * n + 2 → n < 8 → 6 + count ≤ 36
few_left count n is less = omega arith

steps_right : (n : ℕ) → steps_below (Accumulate Or (Of A) ∷ Rar ∷ []) n ≡ 5 * n + 2
steps_right zero = refl
steps_right (suc n) =
    let more : steps_below (Accumulate Or (Of A) ∷ Rar ∷ []) n ≡ 5 * n + 2 = steps_right n in omega arith

few_right : (count n : ℕ) → count ≡ 5 * n + 2 → n < 8 → 6 + count ≤ 43
few_right count n is less = omega arith

doubled : (a : ℕ) → (a + a + 0) % 256 ≡ shift_left a
doubled a = omega arith

left_small : (byte : ℕ) → byte < 256 → shift_left byte < 256
left_small byte h = omega arith

halved : (a : ℕ) → bit_or a a / 2 + 128 * 0 ≡ shift_right a
halved a = ap (λ n. n / 2 + 128 * 0) (or_self a) ∙ omega arith

right_small : (byte : ℕ) → byte < 256 → shift_right byte < 256
right_small byte h = omega arith

to_the_left : Shift routines.ShiftLeftByte (Accumulate Add (Of A) ∷ []) shift_left
to_the_left = record {
  touches = refl;
  changes = record {
    a = λ r small. doubled r.a;
    small = left_small;
    b = λ r. refl;
    c = λ r. refl;
    d = λ r. refl;
    e = λ r. refl;
    h = λ r. refl;
    l = λ r. refl;
    sp = λ r. refl;
  };
  most = λ r n less. few_left (steps_below (Accumulate Add (Of A) ∷ []) n) n (steps_left n) less;
  most_none = λ r. omega arith;
  computes = λ r after are less is. is ∙ shifted_left r.e r.a less are.a;
  computes_none = λ r after are more is. is ∙ sym (none_left r.e r.a more);
  leaves = λ r after is. is;
}

to_the_right : Shift routines.ShiftRightByte (Accumulate Or (Of A) ∷ Rar ∷ []) shift_right
to_the_right = record {
  touches = refl;
  changes = record {
    a = λ r small. halved r.a;
    small = right_small;
    b = λ r. refl;
    c = λ r. refl;
    d = λ r. refl;
    e = λ r. refl;
    h = λ r. refl;
    l = λ r. refl;
    sp = λ r. refl;
  };
  most = λ r n less. few_right (steps_below (Accumulate Or (Of A) ∷ Rar ∷ []) n) n (steps_right n) less;
  most_none = λ r. omega arith;
  computes = λ r after are less is. is ∙ shifted_right r.e r.a less are.a;
  computes_none = λ r after are more is. is ∙ sym (none_right r.e r.a more are.a);
  leaves = λ r after is. is;
}

pub shifts_left : (first : ℕ) → IsRoutine routines.ShiftLeftByte (shift_left_byte first)
shifts_left first =
    shifts routines.ShiftLeftByte (Accumulate Add (Of A) ∷ []) shift_left to_the_left first (λ s. refl)

pub shifts_right : (first : ℕ) → IsRoutine routines.ShiftRightByte (shift_right_byte first)
shifts_right first =
    shifts routines.ShiftRightByte (Accumulate Or (Of A) ∷ Rar ∷ []) shift_right to_the_right first (λ s. refl)
