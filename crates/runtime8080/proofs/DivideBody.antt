-- Divide: by a byte where D is 0, else by a word.
use Rattle.runtime8080.proofs.Prelude.{◌≡◌, ◌≢◌, ℕ, zero, suc, ◌+◌, ◌-◌, ◌*◌, ◌/◌, ◌%◌, ◌<◌, ◌≤◌, ◌==◌, Bool, true, false, not, if◌then◌else◌, None, Some, List, [], ◌∷◌, refl, sym, ap, subst, ◌∙◌, arith, bit_or, eqb-true, eq-eqb, MEMORY_SIZE, Event, A, B, C, D, E, H, L, Of, NotZero, Or, Instr, Accumulate, Mov, Mvi, Ret, Xchg, HoldBytes, Registers, word, wrap, JumpWhere, AtLabel, Item, Plain, WithWord, Mark, Layout, Stands, comes_on, at, goes_past, jumps_where, returned, returns, effect, plain, steps_of, straight, word_is, stands_size, stands_still, Computes, IsRoutine, divide}
use Rattle.runtime8080.specs.declared.routine.Routine.TheVariants as routines
use Rattle.runtime8080.proofs.Bodies.{Body, bytes_with_sp, returns_quietly}
use Rattle.runtime8080.proofs.Quotients.{Quotient, eight_bits, sixteen_bits}
use Rattle.runtime8080.proofs.Narrow
use Rattle.runtime8080.proofs.Narrow.{narrow}
use Rattle.runtime8080.proofs.Wide
use Rattle.runtime8080.proofs.Wide.{wide}
use Rattle.runtime8080.proofs.Numbers.{none_of_or, or_small, small_by}
use Rattle.runtime8080.proofs.AddressBits.{word_small}

abbrev head : List Instr
head = Mov A (Of D) ∷ Accumulate Or (Of A) ∷ []

abbrev counting : List Instr
counting = Mvi (Of D) 16 ∷ []

abbrev setting : List Instr
setting = Mov B (Of L) ∷ Mov L (Of H) ∷ Mvi (Of H) 0 ∷ Mvi (Of C) 8 ∷ []

abbrev settled : List Instr
settled = Xchg ∷ Mov L (Of B) ∷ Mvi (Of H) 0 ∷ []

abbrev wide_items : (first : ℕ) → List Item
wide_items first =
    plain setting
    (Mark (first + 4) ∷ wide (first + 4) (first + 5) (first + 6) (plain settled (Plain Ret ∷ [])))

abbrev after_narrow : (first : ℕ) → List Item
after_narrow first = Plain (Mov E (Of A)) ∷ Plain Ret ∷ Mark (first + 3) ∷ wide_items first

abbrev after_head : (first : ℕ) → List Item
after_head first =
    WithWord (JumpWhere NotZero) (AtLabel (first + 3)) ∷ Plain (Mvi (Of D) 16) ∷ Mark first
    ∷ narrow first (first + 1) (first + 2) (after_narrow first)

not_both : (right : ℕ) → (right == 0) ≡ false → right ≡ 0 → ⊥
not_both right e z = let bad : true ≡ false = sym (eq-eqb right 0 z) ∙ e in cc

-- a quotient is given where the divisor is not 0
given : (left right result : ℕ) → (if right == 0 then None else Some result) ≡ Some left
    → (right ≢ 0) × (result ≡ left)
given left right result h = go (right == 0) refl h
  where
    go : (test : Bool) → (right == 0) ≡ test → (if test then None else Some result) ≡ Some left
        → (right ≢ 0) × (result ≡ left)
    go true e h = let bad : None ≡ Some left = h in cc
    go false e h = ((λ z. not_both right e z), cc)

-- what is computed, from the two laws of division
computed :
    (before after : Registers)
    → (word before.d before.e ≢ 0
    → (word before.h before.l / word before.d before.e ≡ word after.h after.l)
    × (word before.h before.l % word before.d before.e ≡ word after.d after.e))
    → Computes routines.Divide before after
computed before after is = (
  (λ quotient h.
      let g = given quotient (word before.d before.e) (word before.h before.l / word before.d before.e) h in
      sym ((is g.0).0) ∙ g.1),
  (λ remainder h.
      let g = given remainder (word before.d before.e) (word before.h before.l % word before.d before.e) h in
      sym ((is g.0).1) ∙ g.1),
)

not_zero : (d : ℕ) → (bit_or d d == 0) ≡ false → 1 ≤ d
not_zero zero h = let bad : true ≡ false = h in cc
not_zero (suc d) h = omega arith

word_of_low : (e : ℕ) → word 0 e ≡ e
word_of_low e = omega arith

some_of : (e : ℕ) → (word 0 e ≢ 0) → 0 < e
some_of zero h = absurd (h refl)
some_of (suc e) h = omega arith

-- by a byte
narrow_body :
    (script : List (List ℕ)) (layout : Layout) (first from to : ℕ) (r : Registers) (memory : List ℕ)
    (events : List Event)
    → Stands layout memory (divide first) from to
    → to ≤ MEMORY_SIZE
    → HoldBytes r
    → (bit_or r.d r.d == 0) ≡ true
    → Body script routines.Divide from r memory events
narrow_body script layout first from to r memory events stands limit are none =
    let size = stands_size layout memory (divide first) from to stands in
    let r1 = effect head r in
    let r2 = effect counting r1 in
    let more : Stands layout memory (after_head first) (from + 1 + 1) to = stands.1.1 in
    let top = from + 1 + 1 + 3 + 2 in
    let exit = top + 1 + 1 + 3 + 1 + 3 + 1 + 1 + 1 + 3 in
    let taken =
    Narrow.takes_bits script layout first (first + 1) (first + 2) top to (after_narrow first) memory events
    more.1.1.1 limit (omega arith) more.1.1.0 15 r2 refl (omega arith)
    (or_small r.d are.d) are.e are.h are.l in
    let r3 = taken.after in
    let bits = taken.bits in
    let after = effect (Mov E (Of A) ∷ []) r3 in
    let v = word r.h r.l in
    let u = returned after memory events in
    let d = none_of_or r.d none in
    let a = eqb-true (bit_or r.d r.d) 0 none in
    let last : Stands layout memory (after_narrow first) exit to = more.1.1.1.1.1.1.1.1.1.1.1.1.1.1 in
    record {
      count = steps_of head (suc (suc (2 + taken.steps)));
      after = after;
      run =
          straight script layout head (after_head first) from to r memory events (suc (suc (2 + taken.steps)))
          u refl stands (omega arith)
          (goes_past script (suc (2 + taken.steps)) NotZero (wrap (layout.place_of (first + 3)))
          (from + 1 + 1) r1 memory events u more.0 (omega arith) (ap not none)
          (straight script layout counting (Mark first
          ∷ narrow first (first + 1) (first + 2) (after_narrow first)) (from + 1 + 1 + 3) to r1 memory
          events (2 + taken.steps) u refl more.1 (omega arith)
          (comes_on script taken.steps 2 (at top r2 memory events) (at exit r3 memory events) u taken.run
          (straight script layout (Mov E (Of A) ∷ []) (Plain Ret ∷ Mark (first + 3) ∷ wide_items first) exit
          to r3 memory events 1 u refl last (omega arith)
          (returns script (exit + 1) after memory events last.1.0 (omega arith))))));
      few = let count = taken.few in omega arith;
      sp = bits.sp;
      bytes = record {
        a = bits.a;
        b = small_by after.b r.b bits.b are.b;
        c = small_by after.c r.c bits.c are.c;
        d = small_by after.d 0 bits.d (omega arith);
        e = bits.a;
        h = bits.h;
        l = bits.l;
      };
      computes =
          computed r after
          (λ other.
          let some = some_of r.e (subst (λ n. word n r.e ≢ 0) d other) in
          let less = subst (λ n. n < r.e) (sym a) some in
          let divided =
          sixteen_bits r.e r3.a (word r3.h r3.l) v (word_small r3.h r3.l bits.h bits.l)
          (bits.less less)
          (subst (λ n. Quotient (r.e * 65536) 16 (65536 * n + v) (65536 * r3.a + word r3.h r3.l)) a
          (bits.divides less)) in
          let divisor : word r.d r.e ≡ r.e = ap (λ n. word n r.e) d ∙ word_of_low r.e in
          let rest : word after.d after.e ≡ r3.a = ap (λ n. word n r3.a) bits.d ∙ word_of_low r3.a in
          (ap (λ n. v / n) divisor ∙ divided.0, ap (λ n. v % n) divisor ∙ (divided.1 ∙ sym rest)));
      leaves = tt;
    }

high_less : (h d e : ℕ) → h < 256 → 1 ≤ d → word 0 h < word d e
high_less h d e small some = omega arith

high_room : (h : ℕ) → h < 256 → (word 0 h + 1) * 256 ≤ 65536
high_room h small = omega arith

byte_alone : (b : ℕ) → b ≡ word 0 b
byte_alone b = omega arith

both_bytes : (h l : ℕ) → 256 * word 0 h + l ≡ word h l
both_bytes h l = omega arith

-- by a word
wide_body :
    (script : List (List ℕ)) (layout : Layout) (first from to : ℕ) (r : Registers) (memory : List ℕ)
    (events : List Event)
    → Stands layout memory (divide first) from to
    → to ≤ MEMORY_SIZE
    → HoldBytes r
    → (bit_or r.d r.d == 0) ≡ false
    → Body script routines.Divide from r memory events
wide_body script layout first from to r memory events stands limit are some =
    let size = stands_size layout memory (divide first) from to stands in
    let r1 = effect head r in
    let r2 = effect setting r1 in
    let more : Stands layout memory (after_head first) (from + 1 + 1) to = stands.1.1 in
    let exit = from + 1 + 1 + 3 + 2 + 1 + 1 + 3 + 1 + 3 + 1 + 1 + 1 + 3 in
    let place = exit + 1 + 1 in
    let last : Stands layout memory (after_narrow first) exit to = more.1.1.1.1.1.1.1.1.1.1.1.1.1.1 in
    let top = place + 1 + 1 + 2 + 2 in
    let end = top + 1 + 1 + 1 + 1 + 3 + 1 + 1 + 1 + 1 + 1 + 3 + 1 + 1 + 1 + 1 + 1 + 1 + 3 in
    let items : Stands layout memory (wide_items first) place to = last.1.1.1 in
    let taken =
    Wide.takes_bits script layout (first + 4) (first + 5) (first + 6) top to (plain settled (Plain Ret ∷ []))
    memory events items.1.1.1.1.1 limit (omega arith) items.1.1.1.1.0 7 r2 refl (omega arith)
    (record {
      b = are.l;
      d = are.d;
      e = are.e;
      h = omega arith;
      l = are.h;
      less = high_less r.h r.d r.e are.h (not_zero r.d some);
      low = high_room r.h are.h;
    }) in
    let r3 = taken.after in
    let bits = taken.bits in
    let after = effect settled r3 in
    let v = word r.h r.l in
    let u = returned after memory events in
    let ending : Stands layout memory (plain settled (Plain Ret ∷ [])) end to =
    items.1.1.1.1.1.1.1.1.1.1.1.1.1.1.1.1.1.1.1.1.1.1.1.1.1 in
    record {
      count = steps_of head (suc (steps_of setting (4 + taken.steps)));
      after = after;
      run =
          straight script layout head (after_head first) from to r memory events
          (suc (steps_of setting (4 + taken.steps))) u refl stands (omega arith)
          (jumps_where script (steps_of setting (4 + taken.steps)) NotZero
          (wrap (layout.place_of (first + 3))) (from + 1 + 1) place r1 memory events u more.0
          (omega arith) (ap not some)
          (word_is (layout.place_of (first + 3)) place last.1.1.0 (omega arith))
          (straight script layout setting (Mark (first + 4)
          ∷ wide (first + 4) (first + 5) (first + 6) (plain settled (Plain Ret ∷ []))) place to r1 memory
          events (4 + taken.steps) u refl items (omega arith)
          (comes_on script taken.steps 4 (at top r2 memory events) (at end r3 memory events) u taken.run
          (straight script layout settled (Plain Ret ∷ []) end to r3 memory events 1 u refl
          ending (omega arith)
          (returns script (end + 1 + 1 + 2) after memory events ending.1.1.1.0 (omega arith))))));
      few = let count = taken.few in omega arith;
      sp = bits.sp;
      bytes = record {
        a = bits.a;
        b = bits.b;
        c = bits.c;
        d = bits.h;
        e = bits.l;
        h = omega arith;
        l = bits.b;
      };
      computes =
          computed r after
          (λ other.
          let divided =
          eight_bits (word r.d r.e) (word r3.h r3.l) r3.b v bits.b bits.less
          (subst (λ n. Quotient (word r.d r.e * 256) 8 n (256 * word r3.h r3.l + r3.b))
          (both_bytes r.h r.l) bits.divides) in
          (divided.0 ∙ byte_alone r3.b, divided.1));
      leaves = tt;
    }

divide_body :
    (script : List (List ℕ)) (layout : Layout) (first from to : ℕ) (r : Registers) (memory : List ℕ)
    (events : List Event)
    → Stands layout memory (divide first) from to
    → to ≤ MEMORY_SIZE
    → HoldBytes r
    → (test : Bool)
    → (bit_or r.d r.d == 0) ≡ test
    → Body script routines.Divide from r memory events
divide_body script layout first from to r memory events stands limit are true is =
    narrow_body script layout first from to r memory events stands limit are is
divide_body script layout first from to r memory events stands limit are false is =
    wide_body script layout first from to r memory events stands limit are is

pub divides : (first : ℕ) → IsRoutine routines.Divide (divide first)
divides first layout from to script level s limit stands may =
    returns_quietly script routines.Divide from to level s may refl
    (λ memory alike.
    divide_body script layout first from to (record s.registers { sp = level - 2 }) memory s.events
    (stands_still layout s.memory memory (divide first) from to limit alike stands) limit
    (bytes_with_sp s.registers (level - 2) may.registers) (bit_or s.registers.d s.registers.d == 0) refl)
