-- Multiply: the bits of D, where it has any, and then those of E.
use Rattle.runtime8080.proofs.Prelude.{◌≡◌, ℕ, suc, ◌+◌, ◌-◌, ◌*◌, ◌%◌, ◌<◌, ◌≤◌, ◌==◌, Bool, true, false, List, [], ◌∷◌, Some, refl, sym, ap, ◌∙◌, arith, bit_or, or_self, MEMORY_SIZE, Event, A, B, C, D, E, H, L, Of, Hl, Zero, Or, Instr, Accumulate, Lxi, Mov, Mvi, Ret, HoldBytes, Registers, word, wrap, JumpWhere, AtLabel, Item, Plain, WithWord, Mark, Layout, Stands, Comes, comes_on, at, goes_past, jumps_where, returned, returns, effect, past, steps_of, straight, word_is, stands_size, stands_still, IsRoutine, multiply}
use Rattle.runtime8080.specs.declared.routine.Routine.TheVariants as routines
use Rattle.runtime8080.proofs.Bits.{equal_below}
use Rattle.runtime8080.proofs.Bodies.{Body, bytes_with_sp, returns_quietly}
use Rattle.runtime8080.proofs.Turns.{absorbed, bits, highest, takes_bits}
use Rattle.runtime8080.proofs.Numbers.{none_of_or, or_small, small_by}

all_bits : (byte : ℕ) → byte < 256 → highest 8 byte ≡ byte
all_bits byte h = equal_below (highest 8) (λ n. n) 256 byte refl h

abbrev head : List Instr
head =
    Mov B (Of H) ∷ Mov C (Of L) ∷ Lxi Hl 0 ∷ Mov A (Of D) ∷ Accumulate Or (Of A) ∷ []

abbrev loading : List Instr
loading = Mov A (Of E) ∷ Mvi (Of D) 8 ∷ []

abbrev low : (first : ℕ) → List Item
low first =
    Plain (Mov A (Of E)) ∷ Plain (Mvi (Of D) 8) ∷ Mark (first + 3)
    ∷ bits (first + 3) (first + 4) (Plain Ret ∷ [])

abbrev high : (first : ℕ) → List Item
high first = Mark first ∷ bits first (first + 2) (Mark (first + 1) ∷ low first)

abbrev after_head : (first : ℕ) → List Item
after_head first =
    WithWord (JumpWhere Zero) (AtLabel (first + 1)) ∷ Plain (Mvi (Of D) 8) ∷ high first

-- a run over the bits of E to the return
record Ends
    (script : List (List ℕ)) (place : ℕ) (r : Registers) (memory : List ℕ)
    (events : List Event) : Type 0 where
  steps : ℕ
  after : Registers
  run : Comes script steps (at place r memory events) (returned after memory events)
  few : steps ≤ 51
  hl : word after.h after.l ≡ (word r.h r.l * 256 + word r.b r.c * r.e) % MEMORY_SIZE
  h : after.h < 256
  l : after.l < 256
  a : after.a < 256
  b : after.b ≡ r.b
  c : after.c ≡ r.c
  d : after.d < 256
  e : after.e ≡ r.e
  sp : after.sp ≡ r.sp

ends :
    (script : List (List ℕ)) (layout : Layout) (first place to : ℕ) (r : Registers) (memory : List ℕ)
    (events : List Event)
    → Stands layout memory (low first) place to
    → to ≤ MEMORY_SIZE
    → r.e < 256
    → Ends script place r memory events
ends script layout first place to r memory events stands limit small =
    let size = stands_size layout memory (low first) place to stands in
    let top = place + 1 + 2 in
    let exit = top + 1 + 1 + 3 + 1 + 1 + 3 in
    let r1 = effect loading r in
    let taken =
    takes_bits script layout (first + 3) (first + 4) top to (Plain Ret ∷ []) memory events stands.1.1.1 limit
    (omega arith) stands.1.1.0 7 r1 refl (omega arith) small in
    let u = returned taken.after memory events in
    record {
      steps = steps_of loading (1 + taken.steps);
      after = taken.after;
      run =
          straight script layout loading (Mark (first + 3) ∷ bits (first + 3) (first + 4) (Plain Ret ∷ []))
          place to r memory events (1 + taken.steps) u refl stands (omega arith)
          (comes_on script taken.steps 1 (at top r1 memory events)
          (at exit taken.after memory events) u taken.run
          (returns script exit taken.after memory events stands.1.1.1.1.1.1.1.1.1.1.0 (omega arith)));
      few = let count = taken.few in omega arith;
      hl =
          taken.bits.hl
          ∙ ap (λ n. (word r.h r.l * 256 + word r.b r.c * n) % MEMORY_SIZE) (all_bits r.e small);
      h = taken.bits.h;
      l = taken.bits.l;
      a = taken.bits.a;
      b = taken.bits.b;
      c = taken.bits.c;
      d = taken.bits.d;
      e = taken.bits.e;
      sp = taken.bits.sp;
    }

product_of_zero : (y d : ℕ) → d ≡ 0 → 0 ≡ (y * d) % MEMORY_SIZE
product_of_zero y d h = by_zero y ∙ ap (λ n. (y * n) % MEMORY_SIZE) (sym h)
  where
    by_zero : (y : ℕ) → 0 ≡ (y * 0) % MEMORY_SIZE
    by_zero y = omega arith

nothing_before : (y q : ℕ) → (0 * 256 + y * q) % MEMORY_SIZE ≡ (y * q) % MEMORY_SIZE
nothing_before y q = omega arith

joined : (y d e : ℕ) → y * d * 256 + y * e ≡ y * word d e
joined y d e = omega arith

product :
    (y d e hl : ℕ)
    → hl ≡ (y * d) % MEMORY_SIZE
    → (hl * 256 + y * e) % MEMORY_SIZE ≡ (y * word d e) % MEMORY_SIZE
product y d e hl h =
    ap (λ n. (n * 256 + y * e) % MEMORY_SIZE) h
    ∙ (absorbed (y * d) 256 (y * e) ∙ ap (λ n. n % MEMORY_SIZE) (joined y d e))

multiply_body :
    (script : List (List ℕ)) (layout : Layout) (first from to : ℕ) (r : Registers) (memory : List ℕ)
    (events : List Event)
    → Stands layout memory (multiply first) from to
    → to ≤ MEMORY_SIZE
    → HoldBytes r
    → (test : Bool)
    → (bit_or r.d r.d == 0) ≡ test
    → Body script routines.Multiply from r memory events
multiply_body script layout first from to r memory events stands limit are true is =
    let size = stands_size layout memory (multiply first) from to stands in
    let r1 = effect head r in
    let more : Stands layout memory (after_head first) (past from head) to = stands.1.1.1.1.1 in
    let bits_at = past from head + 3 + 2 in
    let place = bits_at + 1 + 1 + 3 + 1 + 1 + 3 in
    let last : Stands layout memory (Mark (first + 1) ∷ low first) place to = more.1.1.1.1.1.1.1.1.1.1 in
    let end = ends script layout first place to r1 memory events last.1 limit are.e in
    let u = returned end.after memory events in
    let y = word r.h r.l in
    record {
      count = steps_of head (suc end.steps);
      after = end.after;
      run =
          straight script layout head (after_head first) from to r memory events (suc end.steps) u refl
          stands (omega arith)
          (jumps_where script end.steps Zero (wrap (layout.place_of (first + 1))) (past from head) place r1
          memory events u more.0 (omega arith) is
          (word_is (layout.place_of (first + 1)) place last.0 (omega arith)) end.run);
      few = let count = end.few in omega arith;
      sp = end.sp;
      bytes = record {
        a = end.a;
        b = small_by end.after.b r.h end.b are.h;
        c = small_by end.after.c r.l end.c are.l;
        d = end.d;
        e = small_by end.after.e r.e end.e are.e;
        h = end.h;
        l = end.l;
      };
      computes = ap Some (sym (end.hl ∙ product y r.d r.e 0 (product_of_zero y r.d (none_of_or r.d is))));
      leaves = tt;
    }
multiply_body script layout first from to r memory events stands limit are false is =
    let size = stands_size layout memory (multiply first) from to stands in
    let r1 = effect head r in
    let r2 = effect (Mvi (Of D) 8 ∷ []) r1 in
    let more : Stands layout memory (after_head first) (past from head) to = stands.1.1.1.1.1 in
    let bits_at = past from head + 3 + 2 in
    let place = bits_at + 1 + 1 + 3 + 1 + 1 + 3 in
    let last : Stands layout memory (Mark (first + 1) ∷ low first) place to = more.1.1.1.1.1.1.1.1.1.1 in
    let taken =
    takes_bits script layout first (first + 2) bits_at to (Mark (first + 1) ∷ low first) memory events
    more.1.1.1 limit (omega arith) more.1.1.0 7 r2 refl (omega arith) (or_small r.d are.d) in
    let r3 = taken.after in
    let end =
    ends script layout first place to r3 memory events last.1 limit
    (small_by r3.e r.e taken.bits.e are.e) in
    let u = returned end.after memory events in
    let y = word r.h r.l in
    record {
      count = steps_of head (suc (suc (end.steps + taken.steps)));
      after = end.after;
      run =
          straight script layout head (after_head first) from to r memory events
          (suc (suc (end.steps + taken.steps))) u refl stands (omega arith)
          (goes_past script (suc (end.steps + taken.steps)) Zero (wrap (layout.place_of (first + 1)))
          (past from head) r1 memory events u more.0 (omega arith) is
          (straight script layout (Mvi (Of D) 8 ∷ []) (high first) (past from head + 3) to r1 memory events
          (end.steps + taken.steps) u refl more.1 (omega arith)
          (comes_on script taken.steps end.steps (at bits_at r2 memory events) (at place r3 memory events) u
          taken.run end.run)));
      few = let count = end.few in let before = taken.few in omega arith;
      sp = end.sp ∙ taken.bits.sp;
      bytes = record {
        a = end.a;
        b = small_by end.after.b r.h (end.b ∙ taken.bits.b) are.h;
        c = small_by end.after.c r.l (end.c ∙ taken.bits.c) are.l;
        d = end.d;
        e = small_by end.after.e r.e (end.e ∙ taken.bits.e) are.e;
        h = end.h;
        l = end.l;
      };
      computes =
          ap Some
          (sym (end.hl
          ∙ (ap (λ b. (word r3.h r3.l * 256 + word b r3.c * r3.e) % MEMORY_SIZE) taken.bits.b
          ∙ (ap (λ c. (word r3.h r3.l * 256 + word r.h c * r3.e) % MEMORY_SIZE) taken.bits.c
          ∙ (ap (λ e. (word r3.h r3.l * 256 + y * e) % MEMORY_SIZE) taken.bits.e
          ∙ product y r.d r.e (word r3.h r3.l)
          (taken.bits.hl
          ∙ (ap (λ n. (0 * 256 + y * n) % MEMORY_SIZE)
          (all_bits (bit_or r.d r.d) (or_small r.d are.d) ∙ or_self r.d)
          ∙ nothing_before y r.d)))))));
      leaves = tt;
    }

pub multiplies : (first : ℕ) → IsRoutine routines.Multiply (multiply first)
multiplies first layout from to script level s limit stands may =
    returns_quietly script routines.Multiply from to level s may refl
    (λ memory alike.
    multiply_body script layout first from to (record s.registers { sp = level - 2 }) memory s.events
    (stands_still layout s.memory memory (multiply first) from to limit alike stands) limit
    (bytes_with_sp s.registers (level - 2) may.registers) (bit_or s.registers.d s.registers.d == 0) refl)
