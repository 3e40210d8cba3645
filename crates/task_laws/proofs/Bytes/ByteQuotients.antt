-- The low byte of operators with one operand that is a number, by their meaning; quotients and remainders.
use Rattle.task_laws.proofs.Prelude.{◌≡◌, ℕ, ◌+◌, ◌-◌, ◌/◌, ◌%◌, ◌^◌, ◌<◌, ◌≤◌, ◌==◌, true, false, [], ◌∷◌, ◌++◌, Option, Some, None, is_some, option_and_then, bit_and, refl, sym, ap, ◌∙◌, subst, arith, if◌then◌else◌, ne_eqb, and_mask, pow_pos, mod-le, none-some, same_Some, and_mod, ScalarType, BinaryOperator, height_of, type_of, type_of_result, BinaryNode, TypedExpression, TypesHold, computed, Gave, result_of, values_of, And, A, E, word, ExpressionNumber, Number, IsExpression, does_without_step, Facts, CallRoutine, Plain, copy, low, is_free, number_of, power, power_of_two, LeftInHl, pair_steps, number_of_two, quotient_byte_steps, remainder_byte_steps, with_number_steps, low_byte_shifted_right_steps, knowing, Context, IsSound, nodes_in, StepsStand, PartDoes, value_is_word, word_from_halves, L, append_assoc, division_steps}
use Rattle.trees.specs.declared.declaration.ScalarType.TheVariants as scalars
use Rattle.trees.specs.declared.expression.BinaryOperator.TheVariants as operators
use Rattle.runtime8080.specs.declared.routine.Routine.TheVariants as routines
use Rattle.task_laws.proofs.Bytes.ByteCode.{ByteCarried, OfOne}
use Rattle.task_laws.proofs.Bytes.ByteNumbers.{with_number}
use Rattle.task_laws.proofs.Bytes.ByteShiftsRight.{right_shifted}
use Rattle.task_laws.proofs.Machine.KnownOperands.{number_known, number_small, quotient_less}
use Rattle.task_laws.proofs.Bytes.LowBytes.{low_given, low_of_hl, low_of_pair, nothing_more}
use Rattle.task_laws.proofs.Words.Multiples.{power_is}
use Rattle.task_laws.proofs.Words.Pairs.{IsOperand, pair_then, same_rest}
use Rattle.task_laws.proofs.Ranges.Ranges.{value_fits}
use Rattle.task_laws.proofs.Machine.RegisterCode.{registers_then}
use Rattle.task_laws.proofs.Machine.RoutineCalls.{routine_then}
use Rattle.task_laws.proofs.Machine.SiteNodes.{value_in}
use Rattle.task_laws.proofs.Words.WordRoutines.{divided_does, some_of}
use Rattle.task_laws.proofs.Words.WordSums.{first_known, one_high, second_known, two_high}

-- an operator with a number on the right
pub of_left :
    {context : Context} {left right : ExpressionNumber} {first second : TypedExpression} (facts : Facts)
    (number : ExpressionNumber) (operator : BinaryOperator) (operands : ScalarType) (k : ℕ) (g : ℕ → ℕ)
    → IsSound context
    → IsOperand context left first
    → IsOperand context right second
    → number_of (knowing context.site facts) right ≡ Some k
    → ((v : ℕ) → result_of operands operator v k ≡ Some (g v))
    → ((v : ℕ) → v < values_of (type_of first) → g v < values_of (type_of_result operator operands))
    → (is_free context.site number ≡ true → is_free context.site left ≡ true)
    → OfOne context number left (BinaryNode operands operator first second) first g
    (values_of (type_of first))
of_left {context = context} {first = first} {second = second} facts number operator operands k g sound one two
    is result small free = record {
      bound = one.bound;
      node = one.is;
      types = one.types;
      fewer = omega arith;
      means = λ t.
          second_known first facts (Number k) (λ x y u. computed (result_of operands operator x y) u) t sound two
          (number_known context facts _ k is)
          ∙ same_rest (value_in context first t) (λ x u. computed (result_of operands operator x k) u)
          (λ x u. Gave (g x) u)
          (λ x u. ap (λ (found : Option ℕ). computed found u) (result x));
      fits = λ s u v source same. value_fits s sound one.is one.types source same;
      small = small;
      free = free;
    }

-- an operator with a number on the left
pub of_right :
    {context : Context} {left right : ExpressionNumber} {first second : TypedExpression} (facts : Facts)
    (number : ExpressionNumber) (operator : BinaryOperator) (operands : ScalarType) (k : ℕ) (g : ℕ → ℕ)
    → IsSound context
    → IsOperand context left first
    → IsOperand context right second
    → number_of (knowing context.site facts) left ≡ Some k
    → ((v : ℕ) → result_of operands operator k v ≡ Some (g v))
    → ((v : ℕ) → v < values_of (type_of second) → g v < values_of (type_of_result operator operands))
    → (is_free context.site number ≡ true → is_free context.site right ≡ true)
    → OfOne context number right (BinaryNode operands operator first second) second g
    (values_of (type_of second))
of_right {context = context} {first = first} {second = second} facts number operator operands k g sound one
    two is result small free = record {
      bound = two.bound;
      node = two.is;
      types = two.types;
      fewer = omega arith;
      means = λ t.
          first_known second facts (Number k) (λ x y u. computed (result_of operands operator x y) u) t sound one
          (number_known context facts _ k is)
          ∙ same_rest (value_in context second t) (λ y u. computed (result_of operands operator k y) u)
          (λ y u. Gave (g y) u)
          (λ y u. ap (λ (found : Option ℕ). computed found u) (result y));
      fits = λ s u v source same. value_fits s sound two.is two.types source same;
      small = small;
      free = free;
    }

-- a power of two
power_there :
    (context : Context) (facts : Facts) (right : ExpressionNumber) (count : ℕ)
    → power (knowing context.site facts) right ≡ Some count
    → number_of (knowing context.site facts) right ≡ Some (2 ^ count)
unfolding power power_of_two
power_there context facts right count same = by (number_of (knowing context.site facts) right) refl same
  where
    by : (found : Option ℕ) → number_of (knowing context.site facts) right ≡ found
        → option_and_then power_of_two found ≡ Some count
        → number_of (knowing context.site facts) right ≡ Some (2 ^ count)
    by (Some n) here is = here ∙ ap Some (power_is 16 0 n count is)
    by None here is = absurd (none-some count is)

not_none : (count : ℕ) → (2 ^ count == 0) ≡ false
not_none count = let some = pow_pos count in ne_eqb (2 ^ count) 0 (λ same. omega (arith, some, same))

result_at_most : (operands : ScalarType) (v x : ℕ) → x ≤ v → v < values_of operands → x < values_of operands
result_at_most operands v x less small = omega (arith, less, small)

remainder_less : (v p : ℕ) → v % p ≤ v
remainder_less v p = mod-le v p

-- a number that is a power of two
record IsPower (context : Context) (facts : Facts) (right : ExpressionNumber) (n : ℕ) : Type 0 where
  count : ℕ
  is : n ≡ 2 ^ count
  there : number_of (knowing context.site facts) right ≡ Some (2 ^ count)

two_there :
    (context : Context) (facts : Facts) (right : ExpressionNumber) (n : ℕ)
    → number_of_two (knowing context.site facts) right ≡ Some n
    → IsPower context facts right n
unfolding number_of_two
two_there context facts right n same = by (number_of (knowing context.site facts) right) refl same
  where
    by_power : (number : ℕ) → number_of (knowing context.site facts) right ≡ Some number
        → (found : Option ℕ) → power (knowing context.site facts) right ≡ found
        → (if is_some found then Some number else None) ≡ Some n
        → IsPower context facts right n
    by_power number here (Some count) is same =
        let there = power_there context facts right count is in
        record {
          count = count;
          is = sym (same_Some number n same) ∙ same_Some number (2 ^ count) (sym here ∙ there);
          there = there;
        }
    by_power number here None is same = absurd (none-some n same)

    by : (found : Option ℕ) → number_of (knowing context.site facts) right ≡ found
        → (elim found [
          | Some number ↦ if is_some (power (knowing context.site facts) right) then Some number else None
          | None ↦ None
        ]) ≡ Some n
        → IsPower context facts right n
    by (Some number) here is = by_power number here (power (knowing context.site facts) right) refl is
    by None here is = absurd (none-some n is)

one_below : (n p : ℕ) → n ≡ p → 0 < p → p < 65536 → low ((n + 65535) % 65536) ≡ (p - 1) % 256
one_below n p same some small = omega (arith, same, some, small)

remainder_byte : (v count n : ℕ) → n ≡ 2 ^ count → 2 ^ count < 65536
    → bit_and (v % 256) (low ((n + 65535) % 65536)) ≡ v % 2 ^ count % 256
remainder_byte v count n same small =
    ap (λ mask. bit_and (v % 256) mask) (one_below n (2 ^ count) same (pow_pos count) small)
    ∙ sym (and_mod v (2 ^ count - 1) 8) ∙ ap (λ m. m % 256) (and_mask v count)

module _
    (context : Context) {facts last : Facts} {from to pushed bound : ℕ} {left right : ExpressionNumber}
    {first second : TypedExpression} (number : ExpressionNumber) (operands : ScalarType)
    (sound : IsSound context)
    (one : IsOperand context left first) (is_type : type_of first ≡ operands)
    (two : IsOperand context right second)
    (not_free : is_free context.site number ≡ true → ⊥) where
  -- a quotient
  pub quotient_law :
      IsExpression (nodes_in context) context.storage bound number.index
      (BinaryNode operands operators.Divide first second)
      → TypesHold context.typed context.within (BinaryNode operands operators.Divide first second)
      → StepsStand context (PartDoes context) facts from
      (quotient_byte_steps (knowing context.site facts) (record { left = left; right = right }) pushed) last
      to
      → ByteCarried context facts number
      (BinaryNode operands operators.Divide first second) pushed from last to
  unfolding quotient_byte_steps division_steps
  quotient_law is types stand = by (power (knowing context.site facts) right) refl stand
    where
      by : (found : Option ℕ) → power (knowing context.site facts) right ≡ found
          → StepsStand context (PartDoes context) facts from
          (elim found [
            | Some count ↦ low_byte_shifted_right_steps (knowing context.site facts) left count pushed
            | None ↦
                (pair_steps (knowing context.site facts) left right true pushed
                ++ (CallRoutine routines.Divide ∷ []))
                ++ (Plain (copy A L) ∷ [])
          ]) last to
          → ByteCarried context facts number
          (BinaryNode operands operators.Divide first second) pushed from last to
      by (Some count) here given =
          right_shifted context sound count
          (of_left facts number operators.Divide operands (2 ^ count) (λ v. v / 2 ^ count) sound one two
          (power_there context facts right count here)
          (λ v. some_of (2 ^ count) (v / 2 ^ count) (not_none count))
          (λ v fits. subst (λ scalar. v / 2 ^ count < values_of scalar) is_type
          (result_at_most (type_of first) v (v / 2 ^ count) (quotient_less v (2 ^ count)) fits))
          (λ free. absurd (not_free free)))
          (λ wide free. not_free free) given
      by None here given = λ top base s r memory below room ready known nothing.
          low_given number from s r memory sound is types not_free ready
          (pair_then context sound (Some LeftInHl)
          (CallRoutine routines.Divide ∷ Plain (copy A L) ∷ []) from s r memory one two below room
          (one_high (height_of first) (height_of second) _ (omega arith))
          (two_high (height_of first) (height_of second) _ (omega arith))
          (subst (λ steps. StepsStand context (PartDoes context) facts from steps last to)
          (append_assoc (pair_steps (knowing context.site facts) left right true pushed)
          (CallRoutine routines.Divide ∷ [])
          (Plain (copy A L) ∷ [])) given)
          (record { ready = ready; known = known })
          (λ x y t now ended middle found fewer rest going_on has.
          divided_does y (x / y)
          (λ some.
          routine_then routines.Divide (Plain (copy A L) ∷ []) now sound tt room (omega arith) rest going_on
          (λ after last_memory stand_on going_last computes leaves.
          let quotient : word after.h after.l ≡ x / y = computes.0 (x / y)
          (ap (λ n. result_of scalars.Address operators.Divide n (word now.d now.e))
          (word_from_halves x now.h now.l has.h has.l)
          ∙ ap (λ n. result_of scalars.Address operators.Divide x n)
          (word_from_halves y now.d now.e has.d has.e)
          ∙ some_of y (x / y) some) in
          low_of_hl (x / y) after sound stand_on going_last quotient))))

  -- a remainder
  pub remainder_law :
      IsExpression (nodes_in context) context.storage bound number.index
      (BinaryNode operands operators.Modulo first second)
      → TypesHold context.typed context.within (BinaryNode operands operators.Modulo first second)
      → StepsStand context (PartDoes context) facts from
      (remainder_byte_steps (knowing context.site facts)
      (record { left = left; right = right }) pushed) last to
      → ByteCarried context facts number
      (BinaryNode operands operators.Modulo first second) pushed from last to
  unfolding remainder_byte_steps
  remainder_law is types stand = by (number_of_two (knowing context.site facts) right) refl stand
    where
      by : (found : Option ℕ) → number_of_two (knowing context.site facts) right ≡ found
          → StepsStand context (PartDoes context) facts from
          (elim found [
            | Some n ↦ with_number_steps And left (low ((n + 65535) % 65536)) pushed
            | None ↦
                pair_steps (knowing context.site facts) left right true pushed
                ++ (CallRoutine routines.Divide ∷ Plain (copy A E) ∷ [])
          ]) last to
          → ByteCarried context facts number
          (BinaryNode operands operators.Modulo first second) pushed from last to
      by (Some n) here given =
          let power_is_there : IsPower context facts right n = two_there context facts right n here in
          let count : ℕ = power_is_there.count in
          let small : 2 ^ count < 65536 =
          value_is_word (type_of second) (2 ^ count)
          (number_small facts (2 ^ count) sound two.is two.types power_is_there.there) in
          with_number context sound
          (of_left facts number operators.Modulo operands (2 ^ count) (λ v. v % 2 ^ count) sound one two
          power_is_there.there
          (λ v. some_of (2 ^ count) (v % 2 ^ count) (not_none count))
          (λ v fits. subst (λ scalar. v % 2 ^ count < values_of scalar) is_type
          (result_at_most (type_of first) v (v % 2 ^ count) (remainder_less v (2 ^ count)) fits))
          (λ free. absurd (not_free free)))
          And (low ((n + 65535) % 65536)) tt (omega arith)
          (λ v fits. remainder_byte v count n power_is_there.is small) given
      by None here given = λ top base s r memory below room ready known nothing.
          low_given number from s r memory sound is types not_free ready
          (pair_then context sound (Some LeftInHl)
          (CallRoutine routines.Divide ∷ Plain (copy A E) ∷ []) from s r memory one two below room
          (one_high (height_of first) (height_of second) _ (omega arith))
          (two_high (height_of first) (height_of second) _ (omega arith)) given
          (record { ready = ready; known = known })
          (λ x y t now ended middle found fewer rest going_on has.
          divided_does y (x % y)
          (λ some.
          routine_then routines.Divide (Plain (copy A E) ∷ []) now sound tt room (omega arith) rest going_on
          (λ after last_memory stand_on going_last computes leaves.
          let bytes = going_last.ready.registers in
          let remainder : word after.d after.e ≡ x % y = computes.1 (x % y)
          (ap (λ n. result_of scalars.Address operators.Modulo n (word now.d now.e))
          (word_from_halves x now.h now.l has.h has.l)
          ∙ ap (λ n. result_of scalars.Address operators.Modulo x n)
          (word_from_halves y now.d now.e has.d has.e)
          ∙ some_of y (x % y) some) in
          registers_then (copy A E ∷ []) [] after sound (tt, tt) stand_on going_last
          (λ at_end at_end_found ends going_end.
          nothing_more ends going_end
          (λ going. does_without_step (record {
            r = record after { a = after.e };
            memory = last_memory;
            is_at = refl;
            ready = going.ready;
            holds = record { a = low_of_pair after.d after.e (x % y) bytes.e remainder; known = going.known };
          })))))))
