-- Loops of straight code that changes A alone.
use Rattle.runtime8080.proofs.Prelude.{◌≡◌, ℕ, zero, suc, ◌<◌, List, refl, ap, ◌∙◌, Instr, HoldBytes, Registers, effect, counted, once_counted, turns_below, turns_counted}
use Rattle.runtime8080.proofs.Bits.{times}
use Rattle.runtime8080.proofs.Numbers.{one_less_small, small_by}

-- straight code changes A by a function, of the other registers none, and flags
pub record ChangesA (body : List Instr) (f : ℕ → ℕ) : Type 0 where
  pub a : (r : Registers) → r.a < 256 → (effect body r).a ≡ f r.a
  pub small : (byte : ℕ) → byte < 256 → f byte < 256
  pub b : (r : Registers) → (effect body r).b ≡ r.b
  pub c : (r : Registers) → (effect body r).c ≡ r.c
  pub d : (r : Registers) → (effect body r).d ≡ r.d
  pub e : (r : Registers) → (effect body r).e ≡ r.e
  pub h : (r : Registers) → (effect body r).h ≡ r.h
  pub l : (r : Registers) → (effect body r).l ≡ r.l
  pub sp : (r : Registers) → (effect body r).sp ≡ r.sp

-- registers of which A has a value, and E some byte
pub record ChangedA (r after : Registers) (value : ℕ) : Type 0 where
  pub a : after.a ≡ value
  pub small : after.a < 256
  pub b : after.b ≡ r.b
  pub c : after.c ≡ r.c
  pub d : after.d ≡ r.d
  pub e : after.e < 256
  pub h : after.h ≡ r.h
  pub l : after.l ≡ r.l
  pub sp : after.sp ≡ r.sp

pub after_turns :
    (body : List Instr) (f : ℕ → ℕ)
    → ChangesA body f
    → (n : ℕ) (r : Registers)
    → r.a < 256
    → ChangedA r (turns_counted body n r) (times f (suc n) r.a)
after_turns body f is zero r small = record {
  a = is.a r small;
  small = small_by (effect body r).a (f r.a) (is.a r small) (is.small r.a small);
  b = is.b r;
  c = is.c r;
  d = is.d r;
  e = one_less_small (effect body r).e;
  h = is.h r;
  l = is.l r;
  sp = is.sp r;
}
after_turns body f is (suc n) r small =
    let less = small_by (effect body r).a (f r.a) (is.a r small) (is.small r.a small) in
    let more = after_turns body f is n (once_counted body r) less in
    record {
      a = more.a ∙ ap (times f (suc n)) (is.a r small);
      small = more.small;
      b = more.b ∙ is.b r;
      c = more.c ∙ is.c r;
      d = more.d ∙ is.d r;
      e = more.e;
      h = more.h ∙ is.h r;
      l = more.l ∙ is.l r;
      sp = more.sp ∙ is.sp r;
    }

pub before_turns :
    (body : List Instr) (f : ℕ → ℕ)
    → ChangesA body f
    → (n : ℕ) (r : Registers)
    → r.a < 256
    → ChangedA r (turns_below body n r) (times f n r.a)
before_turns body f is zero r small = record {
  a = refl;
  small = small;
  b = refl;
  c = refl;
  d = refl;
  e = one_less_small r.e;
  h = refl;
  l = refl;
  sp = refl;
}
before_turns body f is (suc n) r small =
    let r1 = counted r in
    let less = small_by (effect body r1).a (f r1.a) (is.a r1 small) (is.small r1.a small) in
    let more = before_turns body f is n (effect body r1) less in
    record {
      a = more.a ∙ ap (times f n) (is.a r1 small);
      small = more.small;
      b = more.b ∙ is.b r1;
      c = more.c ∙ is.c r1;
      d = more.d ∙ is.d r1;
      e = more.e;
      h = more.h ∙ is.h r1;
      l = more.l ∙ is.l r1;
      sp = more.sp ∙ is.sp r1;
    }

-- what is left of registers that held bytes, where D was put first
pub changed_bytes :
    (r r1 after : Registers) (value : ℕ)
    → HoldBytes r
    → ChangedA r1 after value
    → r1.b ≡ r.b
    → r1.c ≡ r.c
    → r1.d ≡ r.a
    → r1.h ≡ r.h
    → r1.l ≡ r.l
    → HoldBytes after
changed_bytes r r1 after value are is b c d h l = record {
  a = is.small;
  b = small_by after.b r.b (is.b ∙ b) are.b;
  c = small_by after.c r.c (is.c ∙ c) are.c;
  d = small_by after.d r.a (is.d ∙ d) are.a;
  e = is.e;
  h = small_by after.h r.h (is.h ∙ h) are.h;
  l = small_by after.l r.l (is.l ∙ l) are.l;
}
