-- The rotations: a byte is turned once for each that the lowest three bits of E count.
use Rattle.runtime8080.proofs.Prelude.{◌≡◌, ℕ, zero, suc, ◌+◌, ◌-◌, ◌*◌, ◌%◌, ◌<◌, ◌≤◌, true, List, [], ◌∷◌, refl, sym, ap, ◌∙◌, arith, bit_and, eq-eqb, MEMORY_SIZE, Event, D, E, A, Of, Zero, And, Instr, Rlc, Rrc, Mov, AccumulateImmediate, ReturnIf, Ret, HoldBytes, Registers, Item, Plain, Mark, Layout, Stands, size_of_instruction, returned, returns, returns_where, stays_here, effect, past, plain, steps_of, straight, touch_registers, loop_after, not_zero, steps_counted, tested_after, turns_counted, stands_still, turned, Routine, Computes, IsRoutine, Leaves, LeavesBcAndHl, most_steps, rotate_left, rotate_right, byte_is_low}
use Rattle.runtime8080.specs.declared.routine.Routine.TheVariants as routines
use Rattle.runtime8080.proofs.Bits.{low_three, times, turn_left, turn_right, turned_left, turned_right}
use Rattle.runtime8080.proofs.Bodies.{Body, bytes_with_sp, returns_quietly}
use Rattle.runtime8080.proofs.ByteLoops.{ChangesA, after_turns, changed_bytes}

-- the lowest three bits of E are put into E, and A is kept in D meanwhile
abbrev head : List Instr
head =
    Mov D (Of A) ∷ Mov A (Of E) ∷ AccumulateImmediate And 7 ∷ Mov E (Of A) ∷ Mov A (Of D) ∷ []

abbrev rest : (turn : Instr) → (first : ℕ) → List Item
rest turn first =
    Plain (ReturnIf Zero) ∷ Mark first ∷ tested_after (turn ∷ []) first (Plain Ret ∷ [])

-- what a rotation is proved from: its instruction, and what that does to a byte
record Rotation (routine : Routine) (turn : Instr) (f : ℕ → ℕ) : Type 0 where
  touches : touch_registers (turn ∷ []) ≡ true
  size : size_of_instruction turn ≡ 1
  changes : ChangesA (turn ∷ []) f
  most : (r : Registers) → 29 ≤ most_steps routine r
  computes :
      (r after : Registers) → r.a < 256 → after.a ≡ times f (r.e % 8) r.a → Computes routine r after
  leaves : (r after : Registers) → LeavesBcAndHl r after → Leaves routine r after

low_is : (e k : ℕ) → e < 256 → e % 8 ≡ k → bit_and e 7 ≡ k
low_is e k small is = low_three e small ∙ is

low_small : (e k m : ℕ) → e % 8 ≡ k → m ≡ k → m < 256
low_small e k m is same = omega arith

steps_is : (turn : Instr) (n k : ℕ) → steps_counted (turn ∷ []) n k ≡ k + 3 * n + 3
steps_is turn zero k = omega arith
steps_is turn (suc n) k =
    let more : steps_counted (turn ∷ []) n k ≡ k + 3 * n + 3 = steps_is turn n k in omega arith

few_turns : (count n most : ℕ) → count ≡ 1 + 3 * n + 3 → n < 7 → 29 ≤ most
    → suc (suc (suc (suc (suc (suc (suc count)))))) ≤ most
few_turns count n most is less room = omega arith

below_seven : (e n : ℕ) → e % 8 ≡ suc n → n < 7
below_seven e n is = omega arith

rotation_body :
    (script : List (List ℕ)) (routine : Routine) (turn : Instr) (f : ℕ → ℕ)
    → Rotation routine turn f
    → (layout : Layout) (first from to : ℕ) (r : Registers) (memory : List ℕ) (events : List Event)
    → Stands layout memory (plain head (rest turn first)) from to
    → to ≤ MEMORY_SIZE
    → HoldBytes r
    → (k : ℕ)
    → r.e % 8 ≡ k
    → Body script routine from r memory events
rotation_body script routine turn f is layout first from to r memory events stands limit are zero low =
    let r1 = effect head r in
    let more : Stands layout memory (rest turn first) (past from head) to = stands.1.1.1.1.1 in
    let end : past from head + 1 + size_of_instruction turn + 1 + 3 + 1 ≡ to = more.1.1.1.1.1.1 in
    let room = is.most r in
    record {
      count = steps_of head 1;
      after = r1;
      run =
          straight script layout head (rest turn first) from to r memory events 1 (returned r1 memory events)
          refl stands (omega arith)
          (returns_where script Zero (past from head) r1 memory events more.0 (omega arith)
          (eq-eqb (bit_and r.e 7) 0 (low_is r.e 0 are.e low)));
      few = omega arith;
      sp = refl;
      bytes = record {
        a = are.a;
        b = are.b;
        c = are.c;
        d = are.a;
        e = low_small r.e 0 (bit_and r.e 7) low (low_is r.e 0 are.e low);
        h = are.h;
        l = are.l;
      };
      computes = is.computes r r1 are.a (ap (λ k. times f k r.a) (sym low));
      leaves = is.leaves r r1 (record { b = refl; c = refl; h = refl; l = refl });
    }
rotation_body script routine turn f is layout first from to r memory events stands limit are (suc n) low =
    let r1 = effect head r in
    let more : Stands layout memory (rest turn first) (past from head) to = stands.1.1.1.1.1 in
    let end : past from head + 1 + size_of_instruction turn + 1 + 3 + 1 ≡ to = more.1.1.1.1.1.1 in
    let size = is.size in
    let top = past from head + 1 in
    let after = turns_counted (turn ∷ []) n r1 in
    let changed = after_turns (turn ∷ []) f is.changes n r1 are.a in
    let u = returned after memory events in
    record {
      count = steps_of head (suc (steps_counted (turn ∷ []) n 1));
      after = after;
      run =
          straight script layout head (rest turn first) from to r memory events
          (suc (steps_counted (turn ∷ []) n 1)) u refl stands (omega arith)
          (stays_here script (steps_counted (turn ∷ []) n 1) Zero (past from head) r1 memory events u
          more.0 (omega arith)
          (not_zero (bit_and r.e 7) n (low_is r.e (suc n) are.e low))
          (loop_after script layout (turn ∷ []) first top to (Plain Ret ∷ []) memory events is.touches
          is.changes.e more.1.1 (omega arith) more.1.0 n r1 1 u
          (low_is r.e (suc n) are.e low) (omega arith)
          (returns script (past top (turn ∷ []) + 1 + 3) after memory events
          more.1.1.1.1.1.0 (omega arith))));
      few = few_turns (steps_counted (turn ∷ []) n 1) n (most_steps routine r) (steps_is turn n 1)
          (below_seven r.e n low) (is.most r);
      sp = changed.sp;
      bytes = changed_bytes r r1 after (times f (suc n) r.a) are changed refl refl refl refl refl;
      computes = is.computes r after are.a (changed.a ∙ ap (λ k. times f k r.a) (sym low));
      leaves = is.leaves r after (record { b = changed.b; c = changed.c; h = changed.h; l = changed.l });
    }

rotates :
    (routine : Routine) (turn : Instr) (f : ℕ → ℕ)
    → Rotation routine turn f
    → (first : ℕ)
    → ((s : Rattle.isa8080.specs.State.State)
    → Rattle.runtime8080.specs.internal.Routines.memory_after routine s ≡ s.memory)
    → IsRoutine routine (plain head (rest turn first))
rotates routine turn f is first quiet layout from to script level s limit stands may =
    returns_quietly script routine from to level s may (quiet s)
    (λ memory alike.
    rotation_body script routine turn f is layout first from to
    (record s.registers { sp = level - 2 }) memory s.events
    (stands_still layout s.memory memory (plain head (rest turn first)) from to limit alike stands) limit
    (bytes_with_sp s.registers (level - 2) may.registers) (s.registers.e % 8) refl)

below_eight : (e : ℕ) → e % 8 < 8
below_eight e = omega arith

left_small : (byte : ℕ) → byte < 256 → turn_left byte < 256
left_small byte h = omega arith

right_small : (byte : ℕ) → byte < 256 → turn_right byte < 256
right_small byte h = omega arith

to_the_left : Rotation routines.RotateLeft Rlc turn_left
to_the_left = record {
  touches = refl;
  size = refl;
  changes = record {
    a = λ r small. refl;
    small = left_small;
    b = λ r. refl;
    c = λ r. refl;
    d = λ r. refl;
    e = λ r. refl;
    h = λ r. refl;
    l = λ r. refl;
    sp = λ r. refl;
  };
  most = λ r. omega arith;
  computes = λ r after small is.
      is ∙ (turned_left (r.e % 8) r.a (below_eight r.e) small
      ∙ ap (λ n. turned n (r.e % 8)) (byte_is_low r.a small));
  leaves = λ r after is. is;
}

to_the_right : Rotation routines.RotateRight Rrc turn_right
to_the_right = record {
  touches = refl;
  size = refl;
  changes = record {
    a = λ r small. refl;
    small = right_small;
    b = λ r. refl;
    c = λ r. refl;
    d = λ r. refl;
    e = λ r. refl;
    h = λ r. refl;
    l = λ r. refl;
    sp = λ r. refl;
  };
  most = λ r. omega arith;
  computes = λ r after small is.
      is ∙ (turned_right (r.e % 8) r.a (below_eight r.e) small
      ∙ ap (λ n. turned n ((8 - r.e % 8) % 8)) (byte_is_low r.a small));
  leaves = λ r after is. is;
}

pub rotates_left : (first : ℕ) → IsRoutine routines.RotateLeft (rotate_left first)
rotates_left first = rotates routines.RotateLeft Rlc turn_left to_the_left first (λ s. refl)

pub rotates_right : (first : ℕ) → IsRoutine routines.RotateRight (rotate_right first)
rotates_right first = rotates routines.RotateRight Rrc turn_right to_the_right first (λ s. refl)
