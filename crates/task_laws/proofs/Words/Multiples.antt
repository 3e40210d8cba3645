-- HL times a number, by sums.
use Rattle.task_laws.proofs.Prelude.{◌≡◌, ℕ, zero, suc, ◌+◌, ◌*◌, ◌/◌, ◌%◌, ◌^◌, ◌<◌, ◌≤◌, ◌==◌, Bool, true, false, ◌||◌, if◌then◌else◌, List, [], ◌∷◌, ◌++◌, replicate, Option, Some, None, refl, sym, ap, ◌∙◌, subst, arith, eqb-true, eqb-false, eq-eqb, false≢true, true≢false, lt-ltb, div-div-eq-div-mul, pow-suc, Event, value, SourceState, Outcome, Gave, Stopped, then_do, Instr, Dad, Bc, Hl, B, C, H, L, Registers, State, high_byte, low_byte, word, wrap, LoadPair, ExpressionNumber, Number, Does, loaded_of, at_place, Arrives, does_without_step, Facts, Part, Step, Plain, Word, copy, set, part_of, plain, repeat_steps, power_from, power_of_two, bit_steps, chain_from, chain_steps, has_bit, multiple_steps, product_steps, small_multiple_steps, Context, IsSound, StepsStand, PartThere, WordThere, PartDoes, same_Some, suc_moved, word_from_halves}
use Rattle.steps8080.specs.declared.step.Task.TheVariants as tasks
use Rattle.task_laws.proofs.Machine.Addresses.{nothing_goes, registers_end}
use Rattle.task_laws.proofs.Machine.Rules.{GoesOn, ready_with_registers, word_goes}
use Rattle.task_laws.proofs.Places.Products.{ProductDoes, ProductIsGiven, ProductsDo}
use Rattle.task_laws.proofs.Words.WordArithmetic.{word_below}
use Rattle.task_laws.proofs.Machine.RegisterCode.{AreOnRegisters, IsOnRegisters, does_to, effect, registers_then}
use Rattle.task_laws.proofs.Machine.Values.{HasWord, effects_then, word_then}
use Rattle.task_laws.proofs.Numbers.{high_of_shifted, low_of_shifted, one_alone, twice_none}

-- HL is a word, and A and DE are kept
pub record WordBeside (n : ℕ) (r now : Registers) : Type 0 where
  pub h : now.h ≡ n / 256
  pub l : now.l ≡ n % 256
  pub a : now.a ≡ r.a
  pub d : now.d ≡ r.d
  pub e : now.e ≡ r.e

pub effect_on : (one other : List Instr) (r : Registers)
    → effect (one ++ other) r ≡ effect other (effect one r)
effect_on [] other r = refl
effect_on (i ∷ one) other r = effect_on one other (does_to i r)

pub plain_on : (one other : List Instr) → plain (one ++ other) ≡ plain one ++ plain other
plain_on [] other = refl
plain_on (i ∷ one) other = ap (λ (steps : List Step). Plain i ∷ steps) (plain_on one other)

pub both_on : (one other : List Instr) → AreOnRegisters one → AreOnRegisters other
    → AreOnRegisters (one ++ other)
both_on [] other first second = second
both_on (i ∷ one) other first second = (first.0, both_on one other first.1 second)

pub repeated : (i : Instr) (count : ℕ) → repeat_steps i count ≡ plain (replicate count i)
repeated i zero = refl
repeated i (suc count) = ap (λ (steps : List Step). Plain i ∷ steps) (repeated i count)

pub repeated_on : (i : Instr) (count : ℕ) → IsOnRegisters i → AreOnRegisters (replicate count i)
repeated_on i zero on = tt
repeated_on i (suc count) on = (on, repeated_on i count on)

-- something that each turn carries on
pub repeats :
    (P : ℕ → Registers → Type 0) (i : Instr) (count before : ℕ) (r : Registers)
    → ((turns : ℕ) (now : Registers) → P turns now → P (suc turns) (does_to i now))
    → P before r
    → P (before + count) (effect (replicate count i) r)
repeats P i zero before r turn holds = subst (λ (n : ℕ). P n r) (no_more before) holds
  where
    no_more : (n : ℕ) → n ≡ n + 0
    no_more n = omega arith
repeats P i (suc count) before r turn holds =
    subst (λ (n : ℕ). P n (effect (replicate count i) (does_to i r))) (suc_moved before count)
    (repeats P i count (suc before) (does_to i r) turn (turn before r holds))

doubled_high : (h l x p : ℕ) → h ≡ ((x * p) % 65536) / 256 → l ≡ ((x * p) % 65536) % 256
    → high_byte (wrap (word h l + word h l)) ≡ ((x * (p * 2)) % 65536) / 256
doubled_high h l x p one two = omega (arith, one, two)

doubled_low : (h l x p : ℕ) → h ≡ ((x * p) % 65536) / 256 → l ≡ ((x * p) % 65536) % 256
    → low_byte (wrap (word h l + word h l)) ≡ ((x * (p * 2)) % 65536) % 256
doubled_low h l x p one two = omega (arith, one, two)

once_high : (h x : ℕ) → h ≡ x / 256 → x < 65536 → h ≡ ((x * 1) % 65536) / 256
once_high h x one small = omega (arith, one, small)

once_low : (l x : ℕ) → l ≡ x % 256 → x < 65536 → l ≡ ((x * 1) % 65536) % 256
once_low l x one small = omega (arith, one, small)

-- HL doubled `count` times
pub doubled_is : (count x : ℕ) (r : Registers) → x < 65536 → HasWord x r
    → WordBeside ((x * 2 ^ count) % 65536) r (effect (replicate count (Dad Hl)) r)
doubled_is count x r small has =
    subst (λ (n : ℕ). WordBeside ((x * 2 ^ n) % 65536) r (effect (replicate count (Dad Hl)) r))
    (none_before count)
    (repeats (λ turns now. WordBeside ((x * 2 ^ turns) % 65536) r now) (Dad Hl) count 0 r
    (λ turns now holds. record {
      h = doubled_high now.h now.l x (2 ^ turns) holds.h holds.l
          ∙ ap (λ p. ((x * p) % 65536) / 256) (sym (pow-suc 2 turns));
      l = doubled_low now.h now.l x (2 ^ turns) holds.h holds.l
          ∙ ap (λ p. ((x * p) % 65536) % 256) (sym (pow-suc 2 turns));
      a = holds.a;
      d = holds.d;
      e = holds.e;
    })
    (record { h = once_high r.h x has.h small; l = once_low r.l x has.l small; a = refl; d = refl; e = refl }))
  where
    none_before : (n : ℕ) → 0 + n ≡ n
    none_before n = omega arith

-- a number that is found to be a power of 2
pub power_is : (count power number found : ℕ) → power_from count power number ≡ Some found
    → number ≡ 2 ^ found
power_is zero power number found same = let bad : None ≡ Some found = same in cc
power_is (suc others) power number found same =
    by (number == 2 ^ power) refl same (λ rest. power_is others (power + 1) number found rest)
  where
    by : (test : Bool) → (number == 2 ^ power) ≡ test
        → (if test then Some power else power_from others (power + 1) number) ≡ Some found
        → (power_from others (power + 1) number ≡ Some found → number ≡ 2 ^ found)
        → number ≡ 2 ^ found
    by true is same rest = eqb-true number (2 ^ power) is ∙ ap (λ (n : ℕ). 2 ^ n) (same_Some power found same)
    by false is same rest = rest same

-- instructions of a bit, and of a chain of bits
abbrev pub bit_instructions : (twice once_more : Instr) → (below set : Bool) → List Instr
bit_instructions twice once_more false set = []
bit_instructions twice once_more true false = twice ∷ []
bit_instructions twice once_more true true = twice ∷ once_more ∷ []

abbrev pub chain_instructions : (bits number : ℕ) → (twice once_more : Instr) → (below : Bool) → List Instr
chain_instructions zero number twice once_more below = []
chain_instructions (suc bit) number twice once_more below =
    bit_instructions twice once_more below (has_bit number bit)
    ++ chain_instructions bit number twice once_more (below || has_bit number bit)

bit_same : (twice once_more : Instr) (below set : Bool)
    → bit_steps twice once_more below set ≡ plain (bit_instructions twice once_more below set)
bit_same twice once_more false set = refl
bit_same twice once_more true false = refl
bit_same twice once_more true true = refl

pub chain_same : (bits number : ℕ) (twice once_more : Instr) (below : Bool)
    → chain_from bits number twice once_more below
    ≡ plain (chain_instructions bits number twice once_more below)
unfolding chain_from
chain_same zero number twice once_more below = refl
chain_same (suc bit) number twice once_more below =
    ap (λ (steps : List Step). steps ++ chain_from bit number twice once_more (below || has_bit number bit))
    (bit_same twice once_more below (has_bit number bit))
    ∙ ap (λ (steps : List Step). plain (bit_instructions twice once_more below (has_bit number bit)) ++ steps)
    (chain_same bit number twice once_more (below || has_bit number bit))
    ∙ sym (plain_on (bit_instructions twice once_more below (has_bit number bit))
    (chain_instructions bit number twice once_more (below || has_bit number bit)))

bit_on : (twice once_more : Instr) (below set : Bool) → IsOnRegisters twice → IsOnRegisters once_more
    → AreOnRegisters (bit_instructions twice once_more below set)
bit_on twice once_more false set one other = tt
bit_on twice once_more true false one other = (one, tt)
bit_on twice once_more true true one other = (one, (other, tt))

pub chain_on : (bits number : ℕ) (twice once_more : Instr) (below : Bool) → IsOnRegisters twice
    → IsOnRegisters once_more
    → AreOnRegisters (chain_instructions bits number twice once_more below)
chain_on zero number twice once_more below one other = tt
chain_on (suc bit) number twice once_more below one other =
    both_on (bit_instructions twice once_more below (has_bit number bit))
    (chain_instructions bit number twice once_more (below || has_bit number bit))
    (bit_on twice once_more below (has_bit number bit) one other)
    (chain_on bit number twice once_more (below || has_bit number bit) one other)

-- after the bits from one on: HL is the multiple by them, or unchanged if all are 0
abbrev pub factor : (below : Bool) → (bits_gone : ℕ) → ℕ
factor true gone = gone
factor false gone = 1

record Gone (below : Bool) (x gone : ℕ) (r now : Registers) : Type 0 where
  nothing : below ≡ false → gone ≡ 0
  beside : WordBeside ((x * factor below gone) % 65536) r now
  b : now.b ≡ x / 256
  c : now.c ≡ x % 256

pub next_quotient : (number bit : ℕ) → number / 2 ^ bit / 2 ≡ number / 2 ^ suc bit
next_quotient number bit =
    div-div-eq-div-mul number (2 ^ bit) 2 ∙ ap (λ (p : ℕ). number / p) (sym (pow-suc 2 bit))

pub bit_is : (number bit : ℕ) → bit < 16 → has_bit number bit ≡ (number / 2 ^ bit % 2 == 1)
unfolding has_bit
bit_is number bit small =
    ap (λ (test : Bool). if test then number / 2 ^ bit % 2 == 1 else false) (lt-ltb bit 16 small)

pub bit_set : (q half : ℕ) → q / 2 ≡ half → (q % 2 == 1) ≡ true → q ≡ 2 * half + 1
bit_set q half same is = let one = eqb-true (q % 2) 1 is in omega (arith, same, one)

pub bit_clear : (q half : ℕ) → q / 2 ≡ half → (q % 2 == 1) ≡ false → q ≡ 2 * half
bit_clear q half same is = let one = eqb-false (q % 2) 1 is in omega (arith, same, one)

twice_high : (h l x q : ℕ) → h ≡ ((x * q) % 65536) / 256 → l ≡ ((x * q) % 65536) % 256
    → high_byte (wrap (word h l + word h l)) ≡ ((x * (2 * q)) % 65536) / 256
twice_high h l x q one two = omega (arith, one, two)

twice_low : (h l x q : ℕ) → h ≡ ((x * q) % 65536) / 256 → l ≡ ((x * q) % 65536) % 256
    → low_byte (wrap (word h l + word h l)) ≡ ((x * (2 * q)) % 65536) % 256
twice_low h l x q one two = omega (arith, one, two)

more_high : (h l b c x q : ℕ) → h ≡ ((x * q) % 65536) / 256 → l ≡ ((x * q) % 65536) % 256
    → b ≡ x / 256 → c ≡ x % 256
    → high_byte (wrap (word h l + word b c)) ≡ ((x * (q + 1)) % 65536) / 256
more_high h l b c x q one two three four = omega (arith, one, two, three, four)

more_low : (h l b c x q : ℕ) → h ≡ ((x * q) % 65536) / 256 → l ≡ ((x * q) % 65536) % 256
    → b ≡ x / 256 → c ≡ x % 256
    → low_byte (wrap (word h l + word b c)) ≡ ((x * (q + 1)) % 65536) % 256
more_low h l b c x q one two three four = omega (arith, one, two, three, four)

-- one bit more
gone_on :
    (below set : Bool) (x half q : ℕ) (r now : Registers)
    → q / 2 ≡ half → (q % 2 == 1) ≡ set
    → Gone below x half r now
    → Gone (below || set) x q r (effect (bit_instructions (Dad Hl) (Dad Bc) below set) now)
gone_on false false x half q r now same is gone = record {
  nothing = λ _. let none = gone.nothing refl in bit_clear q half same is ∙ twice_none half none;
  beside = gone.beside;
  b = gone.b;
  c = gone.c;
}
gone_on false true x half q r now same is gone = record {
  nothing = λ bad. absurd (false≢true (sym bad));
  beside = subst (λ (n : ℕ). WordBeside ((x * n) % 65536) r now)
      (sym (bit_set q half same is ∙ one_alone half (gone.nothing refl))) gone.beside;
  b = gone.b;
  c = gone.c;
}
gone_on true false x half q r now same is gone =
    let has = gone.beside in
    record {
      nothing = λ bad. absurd (false≢true (sym bad));
      beside =
          subst (λ (n : ℕ). WordBeside ((x * n) % 65536) r (effect (Dad Hl ∷ []) now))
          (sym (bit_clear q half same is))
          (record {
            h = twice_high now.h now.l x half has.h has.l;
            l = twice_low now.h now.l x half has.h has.l;
            a = has.a;
            d = has.d;
            e = has.e;
          });
      b = gone.b;
      c = gone.c;
    }
gone_on true true x half q r now same is gone =
    let has = gone.beside in
    let twice : Registers = effect (Dad Hl ∷ []) now in
    let twice_is : WordBeside ((x * (2 * half)) % 65536) r twice = record {
      h = twice_high now.h now.l x half has.h has.l;
      l = twice_low now.h now.l x half has.h has.l;
      a = has.a;
      d = has.d;
      e = has.e;
    } in
    record {
      nothing = λ bad. absurd (false≢true (sym bad));
      beside =
          subst (λ (n : ℕ). WordBeside ((x * n) % 65536) r (effect (Dad Bc ∷ []) twice))
          (sym (bit_set q half same is))
          (record {
            h = more_high twice.h twice.l now.b now.c x (2 * half) twice_is.h twice_is.l gone.b gone.c;
            l = more_low twice.h twice.l now.b now.c x (2 * half) twice_is.h twice_is.l gone.b gone.c;
            a = has.a;
            d = has.d;
            e = has.e;
          });
      b = gone.b;
      c = gone.c;
    }

turned_or : (below : Bool) → Bool
turned_or below = below

pub less_bits : (bit : ℕ) → suc bit ≤ 16 → bit < 16
less_bits bit h = omega (arith, h)

pub fewer_bits : (bit : ℕ) → suc bit ≤ 16 → bit ≤ 16
fewer_bits bit h = omega (arith, h)

-- all bits that are left
chain_is :
    (bits number x : ℕ) (below : Bool) (r now : Registers)
    → bits ≤ 16
    → Gone below x (number / 2 ^ bits) r now
    → (last : Bool) × Gone last x (number / 2 ^ 0) r
    (effect (chain_instructions bits number (Dad Hl) (Dad Bc) below) now)
chain_is zero number x below r now few gone = (below, gone)
chain_is (suc bit) number x below r now few gone =
    let set : Bool = has_bit number bit in
    let first : List Instr = bit_instructions (Dad Hl) (Dad Bc) below set in
    let rest : List Instr = chain_instructions bit number (Dad Hl) (Dad Bc) (below || set) in
    let next = gone_on below set x (number / 2 ^ suc bit) (number / 2 ^ bit) r now (next_quotient number bit)
    (sym (bit_is number bit (less_bits bit few))) gone in
    let last = chain_is bit number x (below || set) r (effect first now) (fewer_bits bit few) next in
    (last.0, subst (λ (after : Registers). Gone last.0 x (number / 2 ^ 0) r after) (sym (effect_on first rest now)) last.1)

-- the result of straight-line code that keeps A and DE
abbrev Reaches : {A : Type 0} → (Outcome A) → (A → SourceState → State → Type 0) → Context → (budget more : ℕ)
    → (top : ℕ) → (base source : List ℕ) → (frame : List (List ℕ)) → (memory : List ℕ) → (events : List Event)
    → (last : Facts) → (to n : ℕ) → Registers → Type 0
Reaches outcome Good context budget more top base source frame memory events last to n r =
    (now : Registers) → WordBeside n r now
    → GoesOn context last top base source frame now memory
    → Does (loaded_of context.activation) budget more (at_place to now memory events) outcome Good

pub first_quotient : (number : ℕ) → number < 65536 → number / 2 ^ 16 ≡ 0
first_quotient number small = omega (arith, small)

pub last_quotient : (number : ℕ) → number / 2 ^ 0 ≡ number
last_quotient number = omega arith

last_factor : (below : Bool) (x number : ℕ) (r now : Registers) → (number ≡ 0 → ⊥)
    → Gone below x number r now
    → WordBeside ((x * number) % 65536) r now
last_factor true x number r now some gone = gone.beside
last_factor false x number r now some gone = absurd (some (gone.nothing refl))

copied : (x : ℕ) (r : Registers) → x < 65536 → HasWord x r
    → Gone false x 0 r (effect (copy B H ∷ copy C L ∷ []) r)
copied x r small has = record {
  nothing = λ _. refl;
  beside =
      record { h = once_high r.h x has.h small; l = once_low r.l x has.l small; a = refl; d = refl; e = refl };
  b = has.h;
  c = has.l;
}

small_goes :
    {A : Type 0} {budget more : ℕ} {outcome : Outcome A} {Good : A → SourceState → State → Type 0}
    {context : Context} {PartIs : (before : Facts) → Part → (from : ℕ) → (after : Facts) → (to : ℕ) → Type 0}
    {last : Facts} {to top : ℕ} {base source memory : List ℕ} {frame : List (List ℕ)}
    {events : List Event} {facts : Facts} {from : ℕ} (number x : ℕ) (r : Registers)
    → IsSound context
    → (number ≡ 0 → ⊥)
    → number < 65536
    → x < 65536
    → HasWord x r
    → StepsStand context PartIs facts from (small_multiple_steps number) last to
    → GoesOn context facts top base source frame r memory
    → Reaches outcome Good context budget more top base source frame memory events last to
    ((x * number) % 65536) r
    → Does (loaded_of context.activation) budget more (at_place from r memory events) outcome Good
unfolding power_of_two
small_goes {budget = budget} {more = more} {outcome = outcome} {Good = Good} {context = context}
    {PartIs = PartIs} {last = last} {to = to} {top = top} {base = base} {source = source} {memory = memory}
    {frame = frame} {events = events} {facts = facts} {from = from} number x r sound some fits small
    has stand going rest =
    by_power (power_of_two number) refl stand
  where
    by_power : (found : Option ℕ) → power_of_two number ≡ found
        → StepsStand context PartIs facts from (elim found [
          | Some power ↦ repeat_steps (Dad Hl) power
          | None ↦ plain (copy B H ∷ copy C L ∷ []) ++ chain_steps number (Dad Hl) (Dad Bc)
        ]) last to
        → Does (loaded_of context.activation) budget more
        (at_place from r memory events) outcome Good
    by_power (Some power) is stand =
        registers_end (replicate power (Dad Hl)) r sound (repeated_on (Dad Hl) power tt)
        (subst (λ (steps : List Step). StepsStand context PartIs facts from steps last to)
        (repeated (Dad Hl) power) stand)
        going
        (λ going_last.
        rest (effect (replicate power (Dad Hl)) r)
        (subst (λ (n : ℕ). WordBeside ((x * n) % 65536) r (effect (replicate power (Dad Hl)) r))
        (sym (power_is 16 0 number power is)) (doubled_is power x r small has)) going_last)
    by_power None is stand =
        let chain : List Instr = chain_instructions 16 number (Dad Hl) (Dad Bc) false in
        let instructions : List Instr = copy B H ∷ copy C L ∷ chain in
        let begun : Registers = effect (copy B H ∷ copy C L ∷ []) r in
        let ends = chain_is 16 number x false r begun (omega arith)
        (subst (λ (n : ℕ). Gone false x n r begun) (sym (first_quotient number fits))
        (copied x r small has)) in
        registers_end instructions r sound (tt, (tt, chain_on 16 number (Dad Hl) (Dad Bc) false tt tt))
        (subst (λ (steps : List Step). StepsStand context PartIs facts from
        (Plain (copy B H) ∷ Plain (copy C L) ∷ steps) last to)
        (chain_same 16 number (Dad Hl) (Dad Bc) false) stand)
        going
        (λ going_last.
        rest (effect instructions r)
        (last_factor ends.0 x number r (effect chain begun) some
        (subst (λ (n : ℕ). Gone ends.0 x n r (effect chain begun)) (last_quotient number) ends.1)) going_last)

shifted_word : (x : ℕ) (r : Registers) → HasWord x r
    → HasWord (256 * (x % 256)) (effect (copy H L ∷ set L 0 ∷ []) r)
shifted_word x r has = record { h = high_of_shifted r.l x has.l; l = low_of_shifted x }

by_two : (h l k : ℕ) → (256 * l * k) % 65536 ≡ ((256 * h + l) * (256 * k)) % 65536
by_two h l k = omega arith

by_parts : (x h l k : ℕ) → x ≡ 256 * h + l → (256 * l * k) % 65536 ≡ (x * (256 * k)) % 65536
by_parts x h l k same = rw same (by_two h l k)

pub by_high_byte : (x k : ℕ) → (256 * (x % 256) * k) % 65536 ≡ (x * (256 * k)) % 65536
by_high_byte x k = by_parts x (x / 256) (x % 256) k (omega arith)

whole_number : (number : ℕ) → number % 256 ≡ 0 → 256 * (number / 256) ≡ number
whole_number number none = omega (arith, none)

quotient_some : (number : ℕ) → number % 256 ≡ 0 → (number ≡ 0 → ⊥) → number / 256 ≡ 0 → ⊥
quotient_some number none some zero_now = some (omega (arith, none, zero_now))

pub low_word_small : (x : ℕ) → 256 * (x % 256) < 65536
low_word_small x = omega arith

beside_same : (n m : ℕ) (r other now : Registers) → n ≡ m → other.a ≡ r.a → other.d ≡ r.d → other.e ≡ r.e
    → WordBeside n other now → WordBeside m r now
beside_same n m r other now same a d e has = record {
  h = has.h ∙ ap (λ k. k / 256) same;
  l = has.l ∙ ap (λ k. k % 256) same;
  a = has.a ∙ a;
  d = has.d ∙ d;
  e = has.e ∙ e;
}

-- HL times a number that is not 0
pub multiple_goes :
    {A : Type 0} {budget more : ℕ} {outcome : Outcome A} {Good : A → SourceState → State → Type 0}
    {context : Context} {PartIs : (before : Facts) → Part → (from : ℕ) → (after : Facts) → (to : ℕ) → Type 0}
    {last : Facts} {to top : ℕ} {base source memory : List ℕ} {frame : List (List ℕ)}
    {events : List Event} {facts : Facts} {from : ℕ} (number x : ℕ) (r : Registers)
    → IsSound context
    → (number ≡ 0 → ⊥)
    → number < 65536
    → x < 65536
    → HasWord x r
    → StepsStand context PartIs facts from (multiple_steps number) last to
    → GoesOn context facts top base source frame r memory
    → Reaches outcome Good context budget more top base source frame memory events last to
    ((x * number) % 65536) r
    → Does (loaded_of context.activation) budget more (at_place from r memory events) outcome Good
multiple_goes {budget = budget} {more = more} {outcome = outcome} {Good = Good} {context = context}
    {PartIs = PartIs} {last = last} {to = to} {top = top} {base = base} {source = source} {memory = memory}
    {frame = frame} {events = events} {facts = facts} {from = from} number x r sound some fits small
    has stand going rest =
    by_low (number % 256 == 0) refl stand
  where
    by_low : (test : Bool) → (number % 256 == 0) ≡ test
        → StepsStand context PartIs facts from
        (if test then plain (copy H L ∷ set L 0 ∷ []) ++ small_multiple_steps (number / 256)
        else small_multiple_steps number) last to
        → Does (loaded_of context.activation) budget more
        (at_place from r memory events) outcome Good
    by_low false is stand = small_goes number x r sound some fits small has stand going rest
    by_low true is stand =
        let none : number % 256 ≡ 0 = eqb-true (number % 256) 0 is in
        let begun : Registers = effect (copy H L ∷ set L 0 ∷ []) r in
        registers_then (copy H L ∷ set L 0 ∷ []) (small_multiple_steps (number / 256)) r sound
        (tt, (tt, tt)) stand going
        (λ middle found stand_on going_on.
        small_goes (number / 256) (256 * (x % 256)) begun sound (quotient_some number none some)
        (omega (arith, fits))
        (low_word_small x) (shifted_word x r has) stand_on going_on
        (λ now beside going_last.
        rest now
        (beside_same ((256 * (x % 256) * (number / 256)) % 65536) ((x * number) % 65536) r begun now
        (by_high_byte x (number / 256) ∙ ap (λ n. (x * n) % 65536) (whole_number number none))
        refl refl refl beside)
        going_last))

nothing_left : (x : ℕ) → 0 ≡ (x * 0) % 65536
nothing_left x = omega arith

-- the code of a product with a number
pub products_do :
    (context : Context) (sound : IsSound context) (facts last : Facts) (index : ExpressionNumber)
    (stride pushed from to : ℕ)
    → stride < 65536
    → StepsStand context (PartDoes context) facts from (product_steps index stride pushed) last to
    → ProductDoes context facts index stride pushed from last to
products_do context sound facts last index stride pushed from to fits stand bound tree is types address top
    base s r memory less room ready known nothing =
    without_rest (value context.later context.activation.around tree s) (by_zero (stride == 0) refl stand)
  where
    without_rest : (outcome : Outcome ℕ)
        → Does (loaded_of context.activation) s.budget 0 (at_place from r memory s.events)
        (then_do outcome (λ n t. Gave n t))
        (Arrives context.activation top base to (ProductIsGiven context last index stride r memory))
        → Does (loaded_of context.activation) s.budget 0 (at_place from r memory s.events)
        outcome (Arrives context.activation top base to (ProductIsGiven context last index stride r memory))
    without_rest (Gave n t) does = does
    without_rest (Stopped why t) does = does

    by_zero : (test : Bool) → (stride == 0) ≡ test
        → StepsStand context (PartDoes context) facts from
        (if test then part_of (tasks.Effects index) pushed ∷ Word (LoadPair Hl) (Number 0) ∷ []
        else part_of (tasks.Word index) pushed ∷ multiple_steps stride) last to
        → Does (loaded_of context.activation) s.budget 0 (at_place from r memory s.events)
        (then_do (value context.later context.activation.around tree s) (λ n t. Gave n t))
        (Arrives context.activation top base to (ProductIsGiven context last index stride r memory))
    by_zero false test (PartThere part rest) =
        word_then from s r memory part is types less room (omega arith)
        (record { ready = ready; known = known })
        (λ x t now ended same fewer going_on given.
        multiple_goes stride x now sound
        (λ zero_now. absurd (true≢false (sym (eq-eqb stride 0 zero_now) ∙ test))) fits
        (word_below x now.h now.l given.h going_on.ready.registers.h)
        (record { h = given.h; l = given.l }) rest going_on
        (λ after beside going_last.
        does_without_step (record {
          r = after;
          memory = ended;
          is_at = refl;
          ready = going_last.ready;
          holds = record {
            hl = word_from_halves ((x * stride) % 65536) after.h after.l beside.h beside.l;
            known = going_last.known;
            a = λ kept. beside.a ∙ given.a kept;
            d = λ kept. beside.d ∙ given.d kept;
            e = λ kept. beside.e ∙ given.e kept;
          };
        })))
    by_zero true test (PartThere {middle = middle} part (WordThere there rest)) =
        effects_then from s r memory part is types less room (omega arith)
        (record { ready = ready; known = known })
        (λ x t now ended same fewer going_on given.
        let cleared : Registers = record now { h = 0; l = 0 } in
        let bytes = going_on.ready.registers in
        word_goes (LoadPair Hl) (Number 0) now cleared ended sound there going_on tt refl
        (λ known_now.
        nothing_goes cleared rest
        (record {
          ready = ready_with_registers refl
              (record { a = bytes.a; b = bytes.b; c = bytes.c; d = bytes.d; e = bytes.e; h = omega arith; l = omega arith })
              going_on.ready;
          known = known_now;
        })
        (λ going_last.
        does_without_step (record {
          r = cleared;
          memory = ended;
          is_at = refl;
          ready = going_last.ready;
          holds = record {
            hl = nothing_left x ∙ ap (λ n. (x * n) % 65536) (sym (eqb-true stride 0 test));
            known = going_last.known;
            a = λ kept. given.a kept;
            d = λ kept. given.d kept;
            e = λ kept. given.e kept;
          };
        }))))

pub products_always_do : (context : Context) → IsSound context → ProductsDo context
products_always_do context sound facts last index stride pushed from to small stand =
    products_do context sound facts last index stride pushed from to small stand
