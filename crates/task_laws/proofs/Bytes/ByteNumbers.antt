-- The low byte of an operator with a number.
use Rattle.task_laws.proofs.Prelude.{◌≡◌, ℕ, ◌+◌, ◌-◌, ◌%◌, ◌<◌, ◌==◌, Bool, true, false, List, [], ◌∷◌, bit_and, bit_or, bit_xor, refl, sym, ap, ◌∙◌, arith, if◌then◌else◌, eqb-true, and_zero_r, xor_self, and_comm, and_mod, or_comm, or_mod, xor_comm, xor_mod, ScalarType, TypedExpression, values_of, AccumulateImmediate, Cma, Dcr, Inr, Of, Operation, Add, AddWithCarry, Subtract, SubtractWithBorrow, And, ExclusiveOr, Or, Compare, A, Registers, ExpressionNumber, Facts, Step, Plain, clear_a, set, part, added_steps, commutes, from_number_steps, immediate_steps, with_number_steps, byte_number_steps, Context, IsSound, StepsStand, PartDoes}
use Rattle.trees.specs.declared.declaration.ScalarType.TheVariants as scalars
use Rattle.steps8080.specs.declared.step.Task.TheVariants as tasks
use Rattle.task_laws.proofs.Bytes.ByteCode.{ByteCarried, CodeOfA, OfOne, beside_a, beside_itself, beside_on, byte_alone, byte_by_code}
use Rattle.task_laws.proofs.Words.LogicNumbers.{and_full, or_full, or_none, xor_full, xor_none}
use Rattle.task_laws.proofs.Bytes.TwoBytes.{IsSimple, result_by}

-- the code of a sum with a number in A
pub added_code : (n : ℕ) → n < 256 → CodeOfA (added_steps n) (λ x. (x + n) % 256)
unfolding added_steps
added_code n small = by (n == 0) (n == 1) (n == 255) refl refl refl
  where
    by : (none one full : Bool) → (n == 0) ≡ none → (n == 1) ≡ one → (n == 255) ≡ full
        → CodeOfA
        (if none then []
        else if one then Plain (Inr (Of A)) ∷ []
        else if full then Plain (Dcr (Of A)) ∷ []
        else Plain (AccumulateImmediate Add n) ∷ []) (λ x. (x + n) % 256)
    by true one full here there else_is = record {
      instructions = [];
      same = refl;
      on = tt;
      makes = λ r a_small. let zero_is = eqb-true n 0 here in omega (arith, zero_is, a_small);
      beside = beside_itself;
    }
    by false true full here there else_is = record {
      instructions = Inr (Of A) ∷ [];
      same = refl;
      on = (tt, tt);
      makes = λ r a_small. let one_is = eqb-true n 1 there in ap (λ k. (r.a + k) % 256) (sym one_is);
      beside = λ r. beside_a _ _ r;
    }
    by false false true here there else_is = record {
      instructions = Dcr (Of A) ∷ [];
      same = refl;
      on = (tt, tt);
      makes = λ r a_small. let full_is = eqb-true n 255 else_is in omega (arith, full_is);
      beside = λ r. beside_a _ _ r;
    }
    by false false false here there else_is = record {
      instructions = AccumulateImmediate Add n ∷ [];
      same = refl;
      on = (tt, tt);
      makes = λ r a_small. omega arith;
      beside = λ r. beside_a _ _ r;
    }

-- the code of an operation with A and a number
pub immediate_code :
    (operation : Operation) (n : ℕ) → IsSimple operation → n < 256
    → CodeOfA (immediate_steps operation n) (λ x. result_by operation scalars.Byte x n)
unfolding immediate_steps
immediate_code Add n is small = added_code n small
immediate_code Subtract n is small =
    let code = added_code ((256 - n) % 256) (omega arith) in
    record {
      instructions = code.instructions;
      same = code.same;
      on = code.on;
      makes = λ r a_small. code.makes r a_small ∙ turned r.a;
      beside = code.beside;
    }
  where
    turned : (x : ℕ) → (x + (256 - n) % 256) % 256 ≡ (x + (256 - n)) % 256
    turned x = omega arith
immediate_code Or n is small = by (n == 0) refl
  where
    by : (none : Bool) → (n == 0) ≡ none
        → CodeOfA (if none then [] else Plain (AccumulateImmediate Or n) ∷ []) (λ x. bit_or x n)
    by true here = record {
      instructions = [];
      same = refl;
      on = tt;
      makes = λ r a_small. sym (ap (bit_or r.a) (eqb-true n 0 here) ∙ or_none r.a a_small);
      beside = beside_itself;
    }
    by false here = record {
      instructions = AccumulateImmediate Or n ∷ [];
      same = refl;
      on = (tt, tt);
      makes = λ r a_small. refl;
      beside = λ r. beside_a _ _ r;
    }
immediate_code ExclusiveOr n is small = by (n == 0) (n == 255) refl refl
  where
    by : (none full : Bool) → (n == 0) ≡ none → (n == 255) ≡ full
        → CodeOfA
        (if none then []
        else if full then Plain Cma ∷ []
        else Plain (AccumulateImmediate ExclusiveOr n) ∷ []) (λ x. bit_xor x n)
    by true full here there = record {
      instructions = [];
      same = refl;
      on = tt;
      makes = λ r a_small. sym (ap (bit_xor r.a) (eqb-true n 0 here) ∙ xor_none r.a a_small);
      beside = beside_itself;
    }
    by false true here there = record {
      instructions = Cma ∷ [];
      same = refl;
      on = (tt, tt);
      makes = λ r a_small. sym (ap (bit_xor r.a) (eqb-true n 255 there) ∙ xor_full r.a a_small);
      beside = λ r. beside_a _ _ r;
    }
    by false false here there = record {
      instructions = AccumulateImmediate ExclusiveOr n ∷ [];
      same = refl;
      on = (tt, tt);
      makes = λ r a_small. refl;
      beside = λ r. beside_a _ _ r;
    }
immediate_code And n is small = by (n == 255) refl
  where
    by : (full : Bool) → (n == 255) ≡ full
        → CodeOfA (if full then [] else Plain (AccumulateImmediate And n) ∷ []) (λ x. bit_and x n)
    by true here = record {
      instructions = [];
      same = refl;
      on = tt;
      makes = λ r a_small. sym (ap (bit_and r.a) (eqb-true n 255 here) ∙ and_full r.a a_small);
      beside = beside_itself;
    }
    by false here = record {
      instructions = AccumulateImmediate And n ∷ [];
      same = refl;
      on = (tt, tt);
      makes = λ r a_small. refl;
      beside = λ r. beside_a _ _ r;
    }
immediate_code AddWithCarry n is small = absurd is
immediate_code SubtractWithBorrow n is small = absurd is
immediate_code Compare n is small = absurd is

-- the low bytes of the operands of an operation give the low byte of its value
pub low_of_result :
    (operation : Operation) (operands : ScalarType) (v w : ℕ)
    → IsSimple operation
    → w < values_of operands
    → result_by operation scalars.Byte (v % 256) (w % 256) ≡ result_by operation operands v w % 256
low_of_result Add scalars.Byte v w is small = omega arith
low_of_result Add scalars.Address v w is small = omega arith
low_of_result Subtract scalars.Byte v w is small = omega (arith, small)
low_of_result Subtract scalars.Address v w is small = omega (arith, small)
low_of_result And operands v w is small = sym (and_mod v w 8)
low_of_result Or operands v w is small = sym (or_mod v w 8)
low_of_result ExclusiveOr operands v w is small = sym (xor_mod v w 8)
low_of_result AddWithCarry operands v w is small = absurd is
low_of_result SubtractWithBorrow operands v w is small = absurd is
low_of_result Compare operands v w is small = absurd is

-- 0 in A
pub cleared : (r : Registers) → bit_xor r.a r.a ≡ 0
cleared r = xor_self r.a

taken_from : (x n : ℕ) → x < 256 → n < 256 → ((255 - x) + (n + 1) % 256) % 256 ≡ (n + (256 - x)) % 256
taken_from x n one_small small = omega (arith, one_small, small)

low_byte_small : (v : ℕ) → v % 256 < 256
low_byte_small v = omega arith

module _
    (context : Context) {facts last : Facts} {from to pushed : ℕ} {number inner : ExpressionNumber}
    {tree inside : TypedExpression} {g : ℕ → ℕ} {limit : ℕ} (sound : IsSound context)
    (one : OfOne context number inner tree inside g limit) where
  -- 0, after the effects of an expression
  pub zero_after :
      ((v : ℕ) → v < limit → 0 ≡ g v % 256)
      → StepsStand context (PartDoes context) facts from
      (part (tasks.Effects inner) pushed ∷ Plain clear_a ∷ []) last to
      → ByteCarried context facts number tree pushed from last to
  zero_after bytes stand =
      byte_alone context sound one (clear_a ∷ []) 0 (tt, tt) cleared (λ free r. beside_a _ _ r)
      bytes stand

  -- an operation with a byte on the left and a number on the right
  pub with_number :
      (operation : Operation) (n : ℕ)
      → IsSimple operation
      → n < 256
      → ((v : ℕ) → v < limit → result_by operation scalars.Byte (v % 256) n ≡ g v % 256)
      → StepsStand context (PartDoes context) facts from (with_number_steps operation inner n pushed) last to
      → ByteCarried context facts number tree pushed from last to
  unfolding with_number_steps byte_number_steps
  with_number And n is small bytes stand = by (n == 0) refl stand
    where
      by : (none : Bool) → (n == 0) ≡ none
          → StepsStand context (PartDoes context) facts from
          (if none then part (tasks.Effects inner) pushed ∷ Plain clear_a ∷ []
          else part (tasks.Byte inner) pushed ∷ immediate_steps And n) last to
          → ByteCarried context facts number tree pushed from last to
      by true here given =
          zero_after
          (λ v fits. sym (ap (bit_and (v % 256)) (eqb-true n 0 here) ∙ and_zero_r (v % 256)) ∙ bytes v fits)
          given
      by false here given = byte_by_code context sound one (immediate_code And n is small) bytes given
  with_number Or n is small bytes stand = by (n == 255) refl stand
    where
      by : (full : Bool) → (n == 255) ≡ full
          → StepsStand context (PartDoes context) facts from
          (if full then part (tasks.Effects inner) pushed ∷ Plain (set A 255) ∷ []
          else part (tasks.Byte inner) pushed ∷ immediate_steps Or n) last to
          → ByteCarried context facts number tree pushed from last to
      by true here given =
          byte_alone context sound one (set A 255 ∷ []) 255 (tt, tt) (λ r. refl) (λ free r. beside_a _ _ r)
          (λ v fits.
          sym (ap (bit_or (v % 256)) (eqb-true n 255 here) ∙ or_full (v % 256) (low_byte_small v))
          ∙ bytes v fits) given
      by false here given = byte_by_code context sound one (immediate_code Or n is small) bytes given
  with_number Add n is small bytes stand =
      byte_by_code context sound one (immediate_code Add n is small) bytes stand
  with_number Subtract n is small bytes stand =
      byte_by_code context sound one (immediate_code Subtract n is small) bytes stand
  with_number ExclusiveOr n is small bytes stand =
      byte_by_code context sound one (immediate_code ExclusiveOr n is small) bytes stand
  with_number AddWithCarry n is small bytes stand = absurd is
  with_number SubtractWithBorrow n is small bytes stand = absurd is
  with_number Compare n is small bytes stand = absurd is

  -- an operation with a number on the left and a byte on the right
  pub from_number :
      (operation : Operation) (n : ℕ)
      → IsSimple operation
      → n < 256
      → ((v : ℕ) → v < limit → result_by operation scalars.Byte n (v % 256) ≡ g v % 256)
      → StepsStand context (PartDoes context) facts from (from_number_steps operation n inner pushed) last to
      → ByteCarried context facts number tree pushed from last to
  unfolding from_number_steps commutes
  from_number And n is small bytes stand =
      with_number And n is small (λ v fits. and_comm (v % 256) n ∙ bytes v fits) stand
  from_number Or n is small bytes stand =
      with_number Or n is small (λ v fits. or_comm (v % 256) n ∙ bytes v fits) stand
  from_number ExclusiveOr n is small bytes stand =
      with_number ExclusiveOr n is small (λ v fits. xor_comm (v % 256) n ∙ bytes v fits) stand
  from_number Add n is small bytes stand =
      with_number Add n is small (λ v fits. turned (v % 256) ∙ bytes v fits) stand
    where
      turned : (x : ℕ) → (x + n) % 256 ≡ (n + x) % 256
      turned x = omega arith
  from_number Subtract n is small bytes stand =
      let code = added_code ((n + 1) % 256) (omega arith) in
      byte_by_code context sound one
      (record {
        instructions = Cma ∷ code.instructions;
        same = ap (λ (steps : List Step). Plain Cma ∷ steps) code.same;
        on = (tt, code.on);
        makes = λ r a_small. code.makes (record r { a = 255 - r.a }) (omega arith);
        beside = λ r. beside_on (beside_a (255 - r.a) r.flags r) (code.beside (record r { a = 255 - r.a }));
      })
      (λ v fits. taken_from (v % 256) n (low_byte_small v) small ∙ bytes v fits) stand
  from_number AddWithCarry n is small bytes stand = absurd is
  from_number SubtractWithBorrow n is small bytes stand = absurd is
  from_number Compare n is small bytes stand = absurd is
