-- AND, OR and XOR of an ADDRESS and a number, byte by byte.
use Rattle.task_laws.proofs.Prelude.{◌≡◌, ℕ, ◌-◌, ◌*◌, ◌/◌, ◌%◌, ◌<◌, ◌≤◌, ◌==◌, Bool, true, false, if◌then◌else◌, List, [], ◌∷◌, ◌++◌, bit_and, bit_or, bit_xor, refl, sym, ap, ◌∙◌, subst, arith, eqb-true, and_le_l, or_of_16, xor_of_16, Address, height_of, TypedExpression, value, SourceState, Gave, then_do, Instr, AccumulateImmediate, Cma, Operation, And, ExclusiveOr, Or, A, H, L, Registers, ExpressionNumber, keeps_none, Does, loaded_of, at_place, Arrives, HasRoom, Facts, Step, Plain, copy, set, part_of, plain, keeps, both_halves_steps, half_steps, half_through_a_steps, equal_below, Context, IsSound, StepsStand, PartDoes, WordIsGiven, low_is_byte}
use Rattle.steps8080.specs.declared.step.Task.TheVariants as tasks
use Rattle.task_laws.proofs.Machine.Rules.{GoesOn}
use Rattle.task_laws.proofs.Machine.RegisterCode.{AreOnRegisters, effect}
use Rattle.task_laws.proofs.Machine.Values.{HasWord}
use Rattle.task_laws.proofs.Words.Pairs.{IsOperand}
use Rattle.task_laws.proofs.Words.WordForms.{straight_does}
use Rattle.task_laws.proofs.Words.WordArithmetic.{and_high, and_low, or_high, or_low, xor_high, xor_low}
use Rattle.task_laws.proofs.Words.Multiples.{both_on, effect_on, plain_on}
use Rattle.task_laws.proofs.Numbers.{half_is_byte}

-- the operations on bits
abbrev pub IsLogic : Operation → Type 0
IsLogic And = Unit {0}
IsLogic Or = Unit {0}
IsLogic ExclusiveOr = Unit {0}
IsLogic operation = ⊥

abbrev pub bits : Operation → (one other : ℕ) → ℕ
bits And one other = bit_and one other
bits Or one other = bit_or one other
bits ExclusiveOr one other = bit_xor one other
bits operation one other = 0

pub and_full : (x : ℕ) → x < 256 → bit_and x 255 ≡ x
and_full x small = equal_below (λ k. bit_and k 255) (λ k. k) 256 x refl small

pub and_none : (x : ℕ) → x < 256 → bit_and x 0 ≡ 0
and_none x small = equal_below (λ k. bit_and k 0) (λ k. 0) 256 x refl small

pub or_none : (x : ℕ) → x < 256 → bit_or x 0 ≡ x
or_none x small = equal_below (λ k. bit_or k 0) (λ k. k) 256 x refl small

pub or_full : (x : ℕ) → x < 256 → bit_or x 255 ≡ 255
or_full x small = equal_below (λ k. bit_or k 255) (λ k. 255) 256 x refl small

pub xor_none : (x : ℕ) → x < 256 → bit_xor x 0 ≡ x
xor_none x small = equal_below (λ k. bit_xor k 0) (λ k. k) 256 x refl small

pub xor_full : (x : ℕ) → x < 256 → bit_xor x 255 ≡ 255 - x
xor_full x small = equal_below (λ k. bit_xor k 255) (λ k. 255 - k) 256 x refl small

-- the code of an operation of L and a number
pub record CodeL (operation : Operation) (k : ℕ) : Type 0 where
  pub instructions : List Instr
  pub same : half_steps operation L k ≡ plain instructions
  pub on : AreOnRegisters instructions
  pub makes : (r : Registers) → r.l < 256
      → ((effect instructions r).l ≡ bits operation r.l k) × ((effect instructions r).h ≡ r.h)

through_l : Operation → (k : ℕ) → List Instr
through_l operation k = copy A L ∷ AccumulateImmediate operation k ∷ copy L A ∷ []

pub code_l : (operation : Operation) (k : ℕ) → IsLogic operation → CodeL operation k
unfolding half_steps half_through_a_steps through_l
code_l And k is = by (k == 255) (k == 0) refl refl
  where
    by : (full none : Bool) → (k == 255) ≡ full → (k == 0) ≡ none → CodeL And k
    by true none here there = record {
      instructions = [];
      same = ap
          (λ (test : Bool). if test then [] else if k
          == 0 then Plain (set L 0) ∷ [] else half_through_a_steps And L k) here;
      on = tt;
      makes = λ r small. (sym (ap (bit_and r.l) (eqb-true k 255 here) ∙ and_full r.l small), refl);
    }
    by false true here there = record {
      instructions = set L 0 ∷ [];
      same = ap
          (λ (test : Bool). if test then [] else if k
          == 0 then Plain (set L 0) ∷ [] else half_through_a_steps And L k) here
          ∙ ap (λ (test : Bool). if test then Plain (set L 0) ∷ [] else half_through_a_steps And L k) there;
      on = (tt, tt);
      makes = λ r small. (sym (ap (bit_and r.l) (eqb-true k 0 there) ∙ and_none r.l small), refl);
    }
    by false false here there = record {
      instructions = through_l And k;
      same = ap
          (λ (test : Bool). if test then [] else if k
          == 0 then Plain (set L 0) ∷ [] else half_through_a_steps And L k) here
          ∙ ap (λ (test : Bool). if test then Plain (set L 0) ∷ [] else half_through_a_steps And L k) there;
      on = (tt, (tt, (tt, tt)));
      makes = λ r small. (refl, refl);
    }
code_l Or k is = by (k == 0) (k == 255) refl refl
  where
    by : (none full : Bool) → (k == 0) ≡ none → (k == 255) ≡ full → CodeL Or k
    by true full here there = record {
      instructions = [];
      same = ap
          (λ (test : Bool). if test then [] else if k
          == 255 then Plain (set L 255) ∷ [] else half_through_a_steps Or L k) here;
      on = tt;
      makes = λ r small. (sym (ap (bit_or r.l) (eqb-true k 0 here) ∙ or_none r.l small), refl);
    }
    by false true here there = record {
      instructions = set L 255 ∷ [];
      same = ap
          (λ (test : Bool). if test then [] else if k
          == 255 then Plain (set L 255) ∷ [] else half_through_a_steps Or L k) here
          ∙ ap (λ (test : Bool). if test then Plain (set L 255) ∷ [] else half_through_a_steps Or L k) there;
      on = (tt, tt);
      makes = λ r small. (sym (ap (bit_or r.l) (eqb-true k 255 there) ∙ or_full r.l small), refl);
    }
    by false false here there = record {
      instructions = through_l Or k;
      same = ap
          (λ (test : Bool). if test then [] else if k
          == 255 then Plain (set L 255) ∷ [] else half_through_a_steps Or L k) here
          ∙ ap (λ (test : Bool). if test then Plain (set L 255) ∷ [] else half_through_a_steps Or L k) there;
      on = (tt, (tt, (tt, tt)));
      makes = λ r small. (refl, refl);
    }
code_l ExclusiveOr k is = by (k == 0) (k == 255) refl refl
  where
    by : (none full : Bool) → (k == 0) ≡ none → (k == 255) ≡ full → CodeL ExclusiveOr k
    by true full here there = record {
      instructions = [];
      same = ap
          (λ (test : Bool). if test then [] else if k
          == 255 then plain (copy A L ∷ Cma ∷ copy L A ∷ []) else half_through_a_steps ExclusiveOr L k) here;
      on = tt;
      makes = λ r small. (sym (ap (bit_xor r.l) (eqb-true k 0 here) ∙ xor_none r.l small), refl);
    }
    by false true here there = record {
      instructions = copy A L ∷ Cma ∷ copy L A ∷ [];
      same = ap
          (λ (test : Bool). if test then [] else if k
          == 255 then plain (copy A L ∷ Cma ∷ copy L A ∷ []) else half_through_a_steps ExclusiveOr L k) here
          ∙ ap (λ (test : Bool). if test then plain (copy A L ∷ Cma ∷ copy L A ∷ []) else half_through_a_steps
          ExclusiveOr L k) there;
      on = (tt, (tt, (tt, tt)));
      makes = λ r small. (sym (ap (bit_xor r.l) (eqb-true k 255 there) ∙ xor_full r.l small), refl);
    }
    by false false here there = record {
      instructions = through_l ExclusiveOr k;
      same = ap
          (λ (test : Bool). if test then [] else if k
          == 255 then plain (copy A L ∷ Cma ∷ copy L A ∷ []) else half_through_a_steps ExclusiveOr L k) here
          ∙ ap (λ (test : Bool). if test then plain (copy A L ∷ Cma ∷ copy L A ∷ []) else half_through_a_steps
          ExclusiveOr L k) there;
      on = (tt, (tt, (tt, tt)));
      makes = λ r small. (refl, refl);
    }
code_l operation k is = absurd is

-- the code of an operation of H and a number
pub record CodeH (operation : Operation) (k : ℕ) : Type 0 where
  pub instructions : List Instr
  pub same : half_steps operation H k ≡ plain instructions
  pub on : AreOnRegisters instructions
  pub makes : (r : Registers) → r.h < 256
      → ((effect instructions r).h ≡ bits operation r.h k) × ((effect instructions r).l ≡ r.l)

through_h : Operation → (k : ℕ) → List Instr
through_h operation k = copy A H ∷ AccumulateImmediate operation k ∷ copy H A ∷ []

pub code_h : (operation : Operation) (k : ℕ) → IsLogic operation → CodeH operation k
unfolding half_steps half_through_a_steps through_h
code_h And k is = by (k == 255) (k == 0) refl refl
  where
    by : (full none : Bool) → (k == 255) ≡ full → (k == 0) ≡ none → CodeH And k
    by true none here there = record {
      instructions = [];
      same = ap
          (λ (test : Bool). if test then [] else if k
          == 0 then Plain (set H 0) ∷ [] else half_through_a_steps And H k) here;
      on = tt;
      makes = λ r small. (sym (ap (bit_and r.h) (eqb-true k 255 here) ∙ and_full r.h small), refl);
    }
    by false true here there = record {
      instructions = set H 0 ∷ [];
      same = ap
          (λ (test : Bool). if test then [] else if k
          == 0 then Plain (set H 0) ∷ [] else half_through_a_steps And H k) here
          ∙ ap (λ (test : Bool). if test then Plain (set H 0) ∷ [] else half_through_a_steps And H k) there;
      on = (tt, tt);
      makes = λ r small. (sym (ap (bit_and r.h) (eqb-true k 0 there) ∙ and_none r.h small), refl);
    }
    by false false here there = record {
      instructions = through_h And k;
      same = ap
          (λ (test : Bool). if test then [] else if k
          == 0 then Plain (set H 0) ∷ [] else half_through_a_steps And H k) here
          ∙ ap (λ (test : Bool). if test then Plain (set H 0) ∷ [] else half_through_a_steps And H k) there;
      on = (tt, (tt, (tt, tt)));
      makes = λ r small. (refl, refl);
    }
code_h Or k is = by (k == 0) (k == 255) refl refl
  where
    by : (none full : Bool) → (k == 0) ≡ none → (k == 255) ≡ full → CodeH Or k
    by true full here there = record {
      instructions = [];
      same = ap
          (λ (test : Bool). if test then [] else if k
          == 255 then Plain (set H 255) ∷ [] else half_through_a_steps Or H k) here;
      on = tt;
      makes = λ r small. (sym (ap (bit_or r.h) (eqb-true k 0 here) ∙ or_none r.h small), refl);
    }
    by false true here there = record {
      instructions = set H 255 ∷ [];
      same = ap
          (λ (test : Bool). if test then [] else if k
          == 255 then Plain (set H 255) ∷ [] else half_through_a_steps Or H k) here
          ∙ ap (λ (test : Bool). if test then Plain (set H 255) ∷ [] else half_through_a_steps Or H k) there;
      on = (tt, tt);
      makes = λ r small. (sym (ap (bit_or r.h) (eqb-true k 255 there) ∙ or_full r.h small), refl);
    }
    by false false here there = record {
      instructions = through_h Or k;
      same = ap
          (λ (test : Bool). if test then [] else if k
          == 255 then Plain (set H 255) ∷ [] else half_through_a_steps Or H k) here
          ∙ ap (λ (test : Bool). if test then Plain (set H 255) ∷ [] else half_through_a_steps Or H k) there;
      on = (tt, (tt, (tt, tt)));
      makes = λ r small. (refl, refl);
    }
code_h ExclusiveOr k is = by (k == 0) (k == 255) refl refl
  where
    by : (none full : Bool) → (k == 0) ≡ none → (k == 255) ≡ full → CodeH ExclusiveOr k
    by true full here there = record {
      instructions = [];
      same = ap
          (λ (test : Bool). if test then [] else if k
          == 255 then plain (copy A H ∷ Cma ∷ copy H A ∷ []) else half_through_a_steps ExclusiveOr H k) here;
      on = tt;
      makes = λ r small. (sym (ap (bit_xor r.h) (eqb-true k 0 here) ∙ xor_none r.h small), refl);
    }
    by false true here there = record {
      instructions = copy A H ∷ Cma ∷ copy H A ∷ [];
      same = ap
          (λ (test : Bool). if test then [] else if k
          == 255 then plain (copy A H ∷ Cma ∷ copy H A ∷ []) else half_through_a_steps ExclusiveOr H k) here
          ∙ ap (λ (test : Bool). if test then plain (copy A H ∷ Cma ∷ copy H A ∷ []) else half_through_a_steps
          ExclusiveOr H k) there;
      on = (tt, (tt, (tt, tt)));
      makes = λ r small. (sym (ap (bit_xor r.h) (eqb-true k 255 there) ∙ xor_full r.h small), refl);
    }
    by false false here there = record {
      instructions = through_h ExclusiveOr k;
      same = ap
          (λ (test : Bool). if test then [] else if k
          == 255 then plain (copy A H ∷ Cma ∷ copy H A ∷ []) else half_through_a_steps ExclusiveOr H k) here
          ∙ ap (λ (test : Bool). if test then plain (copy A H ∷ Cma ∷ copy H A ∷ []) else half_through_a_steps
          ExclusiveOr H k) there;
      on = (tt, (tt, (tt, tt)));
      makes = λ r small. (refl, refl);
    }
code_h operation k is = absurd is

pub bits_low : (operation : Operation) (x n : ℕ) → IsLogic operation
    → bits operation (x % 256) (n % 256) ≡ bits operation x n % 256
bits_low And x n is = and_low x n
bits_low Or x n is = or_low x n
bits_low ExclusiveOr x n is = xor_low x n
bits_low operation x n is = absurd is

pub bits_high : (operation : Operation) (x n : ℕ) → IsLogic operation
    → bits operation (x / 256) (n / 256) ≡ bits operation x n / 256
bits_high And x n is = and_high x n
bits_high Or x n is = or_high x n
bits_high ExclusiveOr x n is = xor_high x n
bits_high operation x n is = absurd is

pub bits_small : (operation : Operation) (x n : ℕ) → IsLogic operation → x < 65536 → n < 65536
    → bits operation x n < 65536
bits_small And x n is one two = let less : bit_and x n ≤ x = and_le_l x n in omega (arith, less, one)
bits_small Or x n is one two = or_of_16 x n one two
bits_small ExclusiveOr x n is one two = xor_of_16 x n one two
bits_small operation x n is one two = absurd is

-- AND, OR or XOR of a value and a number, byte by byte
pub halves_do :
    {context : Context} {pushed top need to : ℕ} {base : List ℕ} {facts last : Facts}
    {other : ExpressionNumber} {tree : TypedExpression} (operation : Operation) (n : ℕ)
    (number : ExpressionNumber)
    (from : ℕ) (s : SourceState) (r : Registers) (memory : List ℕ) (sound : IsSound context)
    → IsLogic operation
    → n < 65536
    → IsOperand context other tree
    → keeps context.site number ≡ keeps_none
    → s.budget < context.number
    → HasRoom context.activation top pushed need
    → 2 * height_of tree ≤ need
    → StepsStand context (PartDoes context) facts from (both_halves_steps operation other n pushed) last to
    → GoesOn context facts top base s.memory s.frame r memory
    → Does (loaded_of context.activation) s.budget 0 (at_place from r memory s.events)
    (then_do (value context.later context.activation.around tree s) (λ x t. Gave (bits operation x n) t))
    (Arrives context.activation top base to (WordIsGiven context last number Address r memory))
unfolding both_halves_steps
halves_do {context = context} {pushed = pushed} {to = to} {facts = facts} {last = last} {other = other}
    operation n number from s r memory sound is fits operand none less room height stand going =
    let one : CodeL operation (n % 256) = code_l operation (n % 256) is in
    let two : CodeH operation (n / 256) = code_h operation (n / 256) is in
    straight_does (one.instructions ++ two.instructions) (λ x. bits operation x n) number
    from s r memory sound
    (both_on one.instructions two.instructions one.on two.on)
    (λ x now small has.
    let middle : Registers = effect one.instructions now in
    let low_made = one.makes now (low_is_byte now.l x has.l) in
    let h_same : middle.h ≡ x / 256 = low_made.1 ∙ has.h in
    let high_made = two.makes middle (half_is_byte middle.h x h_same small) in
    subst (λ (after : Registers). HasWord (bits operation x n) after)
    (sym (effect_on one.instructions two.instructions now))
    (record {
      h = high_made.0 ∙ ap (λ h. bits operation h (n / 256)) h_same ∙ bits_high operation x n is;
      l = high_made.1 ∙ low_made.0 ∙ ap (λ l. bits operation l (n % 256)) has.l ∙ bits_low operation x n is;
    }))
    (λ x small. bits_small operation x n is small fits)
    operand none less room height
    (subst (λ (steps : List Step). StepsStand context (PartDoes context) facts from
    (part_of (tasks.Word other) pushed ∷ steps) last to)
    (ap (λ (steps : List Step). steps ++ half_steps operation H (n / 256)) one.same
    ∙ ap (λ (steps : List Step). plain one.instructions ++ steps) two.same
    ∙ sym (plain_on one.instructions two.instructions)) stand)
    going
