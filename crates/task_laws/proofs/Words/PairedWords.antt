-- Operators with two operands that are put into HL and DE, and then straight-line code.
use Rattle.task_laws.proofs.Prelude.{◌≡◌, ℕ, ◌+◌, ◌-◌, ◌*◌, ◌/◌, ◌%◌, ◌<◌, ◌≤◌, not, nat_lt, bit_and, bit_or, bit_xor, List, [], ◌∷◌, ◌++◌, append-nil, Option, sym, ap, ◌∙◌, subst, false≢true, Address, height_of, TypedExpression, SourceState, Gave, then_do, Instr, Dad, Operation, And, ExclusiveOr, Or, Subtract, SubtractWithBorrow, De, A, D, E, H, L, bit, HoldBytes, Registers, ExpressionNumber, keeps_none, Does, loaded_of, at_place, Arrives, HasRoom, Facts, Step, copy, with_register, plain, keeps, PairOrder, LeftInHl, RightInHl, pair_in_order_steps, pair_order_by, knowing, Context, IsSound, StepsStand, PartDoes, WordIsGiven, sum_turned}
use Rattle.task_laws.proofs.Machine.Rules.{GoesOn}
use Rattle.task_laws.proofs.Machine.RegisterCode.{AreOnRegisters, effect, registers_then}
use Rattle.task_laws.proofs.Machine.Values.{HasWord, KeepsThem, word_ends}
use Rattle.task_laws.proofs.Words.Pairs.{HasPair, IsOperand, pair_then}
use Rattle.task_laws.proofs.Words.WordArithmetic.{and_high as and_high_of, and_low as and_low_of, high_difference, low_difference, or_high as or_high_of, or_low as or_low_of, sum_high, sum_low, word_below, xor_high as xor_high_of, xor_low as xor_low_of}

-- nothing is kept
pub kept_none :
    (context : Context) (number : ExpressionNumber) (r now : Registers)
    → keeps context.site number ≡ keeps_none
    → KeepsThem context number r now
kept_none context number r now none = record {
  a = λ is. absurd (false≢true (sym (ap (λ kept. kept.a) none) ∙ is));
  d = λ is. absurd (false≢true (sym (ap (λ kept. kept.de) none) ∙ is));
  e = λ is. absurd (false≢true (sym (ap (λ kept. kept.de) none) ∙ is));
}

-- the result of straight-line code for a pair
abbrev pub Makes : (instructions : PairOrder → List Instr) → (f : ℕ → ℕ → ℕ) → Type 0
Makes instructions f =
    (order : PairOrder) (x y : ℕ) (r : Registers)
    → x < 65536 → y < 65536
    → HasPair order x y r
    → HasWord (f x y) (effect (instructions order) r)

pub pair_below : (order : PairOrder) (x y : ℕ) (r : Registers) → HoldBytes r → HasPair order x y r
    → (x < 65536) × (y < 65536)
pair_below LeftInHl x y r bytes has = (word_below x r.h r.l has.h bytes.h, word_below y r.d r.e has.d bytes.d)
pair_below RightInHl x y r bytes has =
    (word_below x r.d r.e has.d bytes.d, word_below y r.h r.l has.h bytes.h)

pub paired_does :
    {context : Context} {pushed top need to : ℕ} {base : List ℕ} {facts last : Facts}
    {left right : ExpressionNumber} {first second : TypedExpression} (instructions : PairOrder → List Instr)
    (f : ℕ → ℕ → ℕ) (number : ExpressionNumber) (wish : Option PairOrder) (from : ℕ)
    (s : SourceState) (r : Registers)
    (memory : List ℕ) (sound : IsSound context)
    → ((order : PairOrder) → AreOnRegisters (instructions order))
    → Makes instructions f
    → ((x y : ℕ) → x < 65536 → y < 65536 → f x y < 65536)
    → IsOperand context left first
    → IsOperand context right second
    → keeps context.site number ≡ keeps_none
    → s.budget < context.number
    → HasRoom context.activation top pushed need
    → 2 * height_of first ≤ need
    → 2 + 2 * height_of second ≤ need
    → StepsStand context (PartDoes context) facts from
    (pair_in_order_steps (knowing context.site facts) left right wish pushed
    ++ plain (instructions (pair_order_by (knowing context.site facts) left right wish))) last to
    → GoesOn context facts top base s.memory s.frame r memory
    → Does (loaded_of context.activation) s.budget 0 (at_place from r memory s.events)
    (then_do (Rattle.meaning.specs.Meaning.value context.later context.activation.around first s)
    (λ x t. then_do (Rattle.meaning.specs.Meaning.value context.later context.activation.around second t)
    (λ y u. Gave (f x y) u)))
    (Arrives context.activation top base to (WordIsGiven context last number Address r memory))
paired_does {context = context} {to = to} {facts = facts} {last = last} {left = left} {right = right}
    instructions f number wish from s r memory sound on makes small one two none less room high
    higher stand going =
    let order : PairOrder = pair_order_by (knowing context.site facts) left right wish in
    pair_then context sound wish (plain (instructions order)) from s r memory one two less room
    high higher stand going
    (λ x y t now ended middle found fewer rest going_on has.
    let below = pair_below order x y now going_on.ready.registers has in
    registers_then (instructions order) [] now sound (on order)
    (subst (λ (steps : List Step). StepsStand context (PartDoes context) found middle steps last to)
    (sym (append-nil (plain (instructions order)))) rest)
    going_on
    (λ after after_found ends going_last.
    word_ends t ends (small x y below.0 below.1) (makes order x y now below.0 below.1 has)
    (kept_none context number r (effect (instructions order) now) none) going_last))

-- sums
abbrev pub sum_instructions : PairOrder → List Instr
sum_instructions order = Dad De ∷ []

pub sum_makes : Makes sum_instructions (λ x y. (x + y) % 65536)
sum_makes LeftInHl x y r one two has = record {
  h = sum_high r.h r.l r.d r.e x y has.h has.l has.d has.e;
  l = sum_low r.h r.l r.d r.e x y has.h has.l has.d has.e;
}
sum_makes RightInHl x y r one two has = record {
  h = sum_high r.h r.l r.d r.e y x has.h has.l has.d has.e ∙ ap (λ n. n / 256) (sum_turned x y);
  l = sum_low r.h r.l r.d r.e y x has.h has.l has.d has.e ∙ ap (λ n. n % 256) (sum_turned x y);
}

-- operations byte by byte
abbrev pub byte_instructions : (on_low on_high : Operation) → PairOrder → List Instr
byte_instructions on_low on_high LeftInHl =
    copy A L ∷ with_register on_low E ∷ copy L A ∷ copy A H ∷ with_register on_high D ∷ copy H A ∷ []
byte_instructions on_low on_high RightInHl =
    copy A E ∷ with_register on_low L ∷ copy L A ∷ copy A D ∷ with_register on_high H ∷ copy H A ∷ []

difference_high : (h l d e x y : ℕ) → h ≡ x / 256 → l ≡ x % 256 → d ≡ y / 256 → e ≡ y % 256
    → x < 65536 → y < 65536
    → (h + (255 - d) + bit (not (nat_lt (l + (255 - e) + 1) 256))) % 256 ≡ ((x + (65536 - y)) % 65536) / 256
difference_high h l d e x y one two three four small_x small_y =
    rw one (rw two (rw three (rw four (high_difference x y small_x small_y))))

difference_low : (l e x y : ℕ) → l ≡ x % 256 → e ≡ y % 256 → y < 65536
    → (l + (255 - e) + 1) % 256 ≡ ((x + (65536 - y)) % 65536) % 256
difference_low l e x y two four small_y = rw two (rw four (low_difference x y small_y))

pub difference_makes : Makes (byte_instructions Subtract SubtractWithBorrow)
    (λ x y. (x + (65536 - y)) % 65536)
difference_makes LeftInHl x y r one two has = record {
  h = difference_high r.h r.l r.d r.e x y has.h has.l has.d has.e one two;
  l = difference_low r.l r.e x y has.l has.e two;
}
difference_makes RightInHl x y r one two has = record {
  h = difference_high r.d r.e r.h r.l x y has.d has.e has.h has.l one two;
  l = difference_low r.e r.l x y has.e has.l two;
}

and_high_is : (x y : ℕ) → x < 65536 → y < 65536 → bit_and (x / 256) (y / 256) ≡ bit_and x y / 256
and_high_is x y one two = and_high_of x y

and_low_is : (x y : ℕ) → y < 65536 → bit_and (x % 256) (y % 256) ≡ bit_and x y % 256
and_low_is x y two = and_low_of x y

and_high : (h l d e x y : ℕ) → h ≡ x / 256 → l ≡ x % 256 → d ≡ y / 256 → e ≡ y % 256 → x < 65536 → y < 65536
    → bit_and h d ≡ (bit_and x y) / 256
and_high h l d e x y one two three four small_x small_y =
    rw one (rw three (and_high_is x y small_x small_y))

and_low : (l e x y : ℕ) → l ≡ x % 256 → e ≡ y % 256 → y < 65536
    → bit_and l e ≡ (bit_and x y) % 256
and_low l e x y two four small_y = rw two (rw four (and_low_is x y small_y))

pub and_makes : Makes (byte_instructions And And) (λ x y. bit_and x y)
and_makes LeftInHl x y r one two has = record {
  h = and_high r.h r.l r.d r.e x y has.h has.l has.d has.e one two;
  l = and_low r.l r.e x y has.l has.e two;
}
and_makes RightInHl x y r one two has = record {
  h = and_high r.d r.e r.h r.l x y has.d has.e has.h has.l one two;
  l = and_low r.e r.l x y has.e has.l two;
}

or_high_is : (x y : ℕ) → x < 65536 → y < 65536 → bit_or (x / 256) (y / 256) ≡ bit_or x y / 256
or_high_is x y one two = or_high_of x y

or_low_is : (x y : ℕ) → y < 65536 → bit_or (x % 256) (y % 256) ≡ bit_or x y % 256
or_low_is x y two = or_low_of x y

or_high : (h l d e x y : ℕ) → h ≡ x / 256 → l ≡ x % 256 → d ≡ y / 256 → e ≡ y % 256 → x < 65536 → y < 65536
    → bit_or h d ≡ (bit_or x y) / 256
or_high h l d e x y one two three four small_x small_y =
    rw one (rw three (or_high_is x y small_x small_y))

or_low : (l e x y : ℕ) → l ≡ x % 256 → e ≡ y % 256 → y < 65536
    → bit_or l e ≡ (bit_or x y) % 256
or_low l e x y two four small_y = rw two (rw four (or_low_is x y small_y))

pub or_makes : Makes (byte_instructions Or Or) (λ x y. bit_or x y)
or_makes LeftInHl x y r one two has = record {
  h = or_high r.h r.l r.d r.e x y has.h has.l has.d has.e one two;
  l = or_low r.l r.e x y has.l has.e two;
}
or_makes RightInHl x y r one two has = record {
  h = or_high r.d r.e r.h r.l x y has.d has.e has.h has.l one two;
  l = or_low r.e r.l x y has.e has.l two;
}

xor_high_is : (x y : ℕ) → x < 65536 → y < 65536 → bit_xor (x / 256) (y / 256) ≡ bit_xor x y / 256
xor_high_is x y one two = xor_high_of x y

xor_low_is : (x y : ℕ) → y < 65536 → bit_xor (x % 256) (y % 256) ≡ bit_xor x y % 256
xor_low_is x y two = xor_low_of x y

xor_high : (h l d e x y : ℕ) → h ≡ x / 256 → l ≡ x % 256 → d ≡ y / 256 → e ≡ y % 256 → x < 65536 → y < 65536
    → bit_xor h d ≡ (bit_xor x y) / 256
xor_high h l d e x y one two three four small_x small_y =
    rw one (rw three (xor_high_is x y small_x small_y))

xor_low : (l e x y : ℕ) → l ≡ x % 256 → e ≡ y % 256 → y < 65536
    → bit_xor l e ≡ (bit_xor x y) % 256
xor_low l e x y two four small_y = rw two (rw four (xor_low_is x y small_y))

pub xor_makes : Makes (byte_instructions ExclusiveOr ExclusiveOr) (λ x y. bit_xor x y)
xor_makes LeftInHl x y r one two has = record {
  h = xor_high r.h r.l r.d r.e x y has.h has.l has.d has.e one two;
  l = xor_low r.l r.e x y has.l has.e two;
}
xor_makes RightInHl x y r one two has = record {
  h = xor_high r.d r.e r.h r.l x y has.d has.e has.h has.l one two;
  l = xor_low r.e r.l x y has.e has.l two;
}
