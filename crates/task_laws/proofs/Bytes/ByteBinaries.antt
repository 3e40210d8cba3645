-- The low byte of operators with two operands.
use Rattle.task_laws.proofs.Prelude.{◌≡◌, ℕ, ◌-◌, ◌*◌, ◌%◌, ◌<◌, ◌&&◌, Bool, true, false, [], ◌∷◌, ◌++◌, Option, Some, None, is_some, option_map, refl, sym, ap, ◌∙◌, subst, arith, and_parts, false≢true, none-some, ScalarType, BinaryOperator, ShiftFunction, RotateLeft, RotateRight, ShiftLeft, ShiftRight, type_of, type_of_result, BinaryNode, ShiftNode, TypedExpression, ShiftsIn, TypesHold, computed, Gave, then_do, result_of, shifted, turned, values_of, Operation, Add, Subtract, And, ExclusiveOr, Or, Expression, ExpressionForm, ExpressionNumber, Number, IsExpression, free_at, has_immediate, is_free_form, is_free_with, is_of_low_byte, known_of, memory_of_form, number_at, Facts, CallRoutine, low, Relation, is_free, number_of, relation_of, relation_of_form, scalar_of, fits_byte, fits_byte_by, low_number, byte_product_steps, outcome_value_steps, relation_outcome, relation_steps, relation_value_steps, value_setting, byte_binary_steps, byte_operation_steps, form_of, from_number_steps, in_form_steps, product_byte_steps, with_number_steps, by_number_steps, byte_routine, byte_shift_steps, operands_steps, knowing, low_of_word_steps, Context, IsSound, nodes_in, StepsStand, PartDoes, false_from_ne_true, mul_comm, A, L, List, PairOrder, Plain, Step, append_assoc, computed_product_steps, copy, height_of, pair_order_by, word, product_order, pair_in_order_steps}
use Rattle.trees.specs.declared.declaration.ScalarType.TheVariants as scalars
use Rattle.trees.specs.declared.expression.BinaryOperator.TheVariants as operators
use Rattle.runtime8080.specs.declared.routine.Routine.TheVariants as routines
use Rattle.treecode.specs.declared.expression.ExpressionForm.TheVariants as forms
use Rattle.task_laws.proofs.Bytes.ByteCode.{ByteCarried, OfOne}
use Rattle.task_laws.proofs.Bytes.ByteNumbers.{from_number, low_of_result, with_number}
use Rattle.task_laws.proofs.Bytes.ByteProducts.{product_by_number}
use Rattle.task_laws.proofs.Bytes.ByteQuotients.{of_left, of_right, quotient_law, remainder_law}
use Rattle.task_laws.proofs.Bytes.ByteShiftCounts.{shift_by_count}
use Rattle.task_laws.proofs.Bytes.ByteShiftNumbers.{left_by_number, turned_by_number}
use Rattle.task_laws.proofs.Bytes.ByteShiftsRight.{right_shifted}
use Rattle.task_laws.proofs.Bytes.BytesAsked.{BytesAsked}
use Rattle.task_laws.proofs.Machine.KnownOperands.{number_known, number_small, shift_fits}
use Rattle.task_laws.proofs.Bytes.LowBytes.{low_given, low_of_hl, low_word_law}
use Rattle.task_laws.proofs.Machine.Nodes.{NodeOf, node_of}
use Rattle.task_laws.proofs.Words.Pairs.{IsOperand, pair_then, same_rest}
use Rattle.task_laws.proofs.Ranges.Ranges.{value_fits}
use Rattle.task_laws.proofs.Relations.RelationValues.{relation_value}
use Rattle.task_laws.proofs.Machine.RoutineCalls.{routine_then}
use Rattle.steps8080.proofs.SiteTraits.{number_is}
use Rattle.task_laws.proofs.Machine.SiteNodes.{free_is, value_in}
use Rattle.task_laws.proofs.Machine.Stages.{does_same}
use Rattle.task_laws.proofs.Bytes.TwoBytes.{IsSimple, result_by, result_small, two_bytes}
use Rattle.task_laws.proofs.Words.WordRoutines.{multiplied}
use Rattle.task_laws.proofs.Words.WordSums.{one_high, second_known, two_high}

-- the node of an expression that is neither known nor in memory
pub record IsElsewhere
    (context : Context) (facts : Facts) (number : ExpressionNumber) (form : ExpressionForm)
    (tree : TypedExpression) : Type 0 where
  pub bound : ℕ
  pub is : IsExpression (nodes_in context) context.storage bound number.index tree
  pub types : TypesHold context.typed context.within tree
  pub unknown : known_of (nodes_in context) (type_of tree) form ≡ None
  pub elsewhere : memory_of_form (nodes_in context) form ≡ None
  pub free : is_free context.site number ≡ is_free_form (nodes_in context) (type_of tree) form
  pub scalar : scalar_of (knowing context.site facts) number ≡ type_of tree
  pub relation : relation_of (knowing context.site facts) number
      ≡ relation_of_form (knowing context.site facts) form

-- an expression is not free where its form is not
pub never_free :
    {context : Context} {facts : Facts} {number : ExpressionNumber} {form : ExpressionForm}
    {tree : TypedExpression}
    → IsElsewhere context facts number form tree
    → is_free_form (nodes_in context) (type_of tree) form ≡ false
    → is_free context.site number ≡ true → ⊥
never_free node none free = false≢true (sym none ∙ sym node.free ∙ free)

-- of a free operator with a number the left operand is free, and the right one is the number
free_parts :
    (context : Context) (left right : ExpressionNumber) (immediate : Bool)
    → (immediate && is_free_with (nodes_in context) left right) ≡ true
    → (is_free context.site left ≡ true) × (is_some (number_at (nodes_in context) right) ≡ true)
free_parts context left right immediate free =
    let parts = and_parts (free_at (nodes_in context) left) (is_some (number_at (nodes_in context) right))
    (and_parts immediate (is_free_with (nodes_in context) left right) free).1 in
    (free_is context.site left ∙ parts.0, parts.1)

no_number :
    (context : Context) (facts : Facts) (right : ExpressionNumber)
    → number_of (knowing context.site facts) right ≡ None
    → is_some (number_at (nodes_in context) right) ≡ false
no_number context facts right none =
    ap (λ (found : Option ℕ). is_some found) (sym (number_is (knowing context.site facts) right) ∙ none)

-- a BYTE fits in a byte
byte_fits :
    {context : Context} {bound : ℕ} {number : ExpressionNumber} {tree : TypedExpression} (facts : Facts)
    → IsSound context
    → IsExpression (nodes_in context) context.storage bound number.index tree
    → type_of tree ≡ scalars.Byte
    → fits_byte (knowing context.site facts) number ≡ true
unfolding fits_byte
byte_fits {context = context} {number = number} {tree = tree} facts sound is byte =
    let node : NodeOf context number tree = node_of sound is in
    ap (λ (found : Option Expression). elim found [
      | Some one ↦ fits_byte_by (knowing context.site facts) number one.traits.scalar one.form
      | None ↦ false
    ]) (node.at_site facts)
    ∙ ap (λ (scalar : ScalarType). fits_byte_by (knowing context.site facts) number scalar node.found.form)
    (node.scalar ∙ byte)

module _
    (context : Context) {facts last : Facts} {from to pushed : ℕ} {left right : ExpressionNumber}
    {first second : TypedExpression} (number : ExpressionNumber) (operands : ScalarType)
    (sound : IsSound context)
    (asked : BytesAsked context)
    (one : IsOperand context left first) (is_type : type_of first ≡ operands)
    (two : IsOperand context right second) (other_is_type : type_of second ≡ operands)
    (same_bound : two.bound ≡ one.bound) where
  -- an operation with the low bytes of two operands
  operation_law :
      (operator : BinaryOperator) (operation : Operation)
      → IsSimple operation
      → ((v w : ℕ) → result_of operands operator v w ≡ Some (result_by operation operands v w))
      → type_of_result operator operands ≡ operands
      → IsElsewhere context facts number (forms.Binary operands operator left right)
      (BinaryNode operands operator first second)
      → StepsStand context (PartDoes context) facts from
      (byte_operation_steps (knowing context.site facts) operation
      (record { left = left; right = right }) pushed) last to
      → ByteCarried context facts number (BinaryNode operands operator first second) pushed from last to
  unfolding byte_operation_steps low_number
  operation_law operator operation simple gives same node stand =
      by_right (number_of (knowing context.site facts) right) refl stand
    where
      free_is_left : is_free context.site number ≡ true → is_free context.site left ≡ true
      free_is_left free = (free_parts context left right (has_immediate operator) (sym node.free ∙ free)).0

      as_operands : (v w : ℕ) → v < values_of operands → w < values_of operands
          → result_by operation operands v w < values_of (type_of_result operator operands)
      as_operands v w one_fits other_fits =
          subst (λ (scalar : ScalarType). result_by operation operands v w < values_of scalar) (sym same)
          (result_small operation operands v w one_fits other_fits)

      by_left : number_of (knowing context.site facts) right ≡ None
          → (found : Option ℕ) → number_of (knowing context.site facts) left ≡ found
          → StepsStand context (PartDoes context) facts from
          (elim (option_map low found) [
            | Some n ↦ from_number_steps operation n right pushed
            | None ↦
                in_form_steps
                (form_of (knowing context.site facts) operation (record { left = left; right = right }))
                operation
                (record { left = left; right = right }) pushed
          ]) last to
          → ByteCarried context facts number (BinaryNode operands operator first second) pushed from last to
      by_left none (Some k) here given =
          let small : k < values_of operands =
          subst (λ (scalar : ScalarType). k < values_of scalar) is_type
          (number_small facts k sound one.is one.types here) in
          from_number context sound
          (of_right facts number operator operands k
          (λ w. result_by operation operands k w) sound one two here
          (λ w. gives k w)
          (λ w fits. as_operands k w small (subst (λ (scalar : ScalarType). w < values_of scalar)
          other_is_type fits))
          (λ free. absurd (false≢true (sym (no_number context facts right none)
          ∙ (free_parts context left right (has_immediate operator) (sym node.free ∙ free)).1))))
          operation (k % 256) simple (omega arith)
          (λ w fits.
          low_of_result operation operands k w simple
          (subst (λ (scalar : ScalarType). w < values_of scalar) other_is_type fits))
          given
      by_left none None here given =
          two_bytes context facts last from to pushed _ number left right operands first second operation
          (BinaryNode operands operator first second) asked sound one.is one.types is_type
          (subst (λ (bound : ℕ). IsExpression (nodes_in context) context.storage bound right.index second)
          same_bound two.is)
          two.types other_is_type simple
          refl same
          (λ t.
          same_rest (value_in context first t)
          (λ v u. then_do (value_in context second u) (λ w x. computed (result_of operands operator v w) x))
          (λ v u. then_do (value_in context second u) (λ w x. Gave (result_by operation operands v w) x))
          (λ v u.
          same_rest (value_in context second u)
          (λ w x. computed (result_of operands operator v w) x)
          (λ w x. Gave (result_by operation operands v w) x)
          (λ w x. ap (λ (found : Option ℕ). computed found x) (gives v w))))
          (false_from_ne_true (is_free context.site number)
          (λ free. false≢true (sym (no_number context facts right none)
          ∙ (free_parts context left right (has_immediate operator) (sym node.free ∙ free)).1)))
          given

      by_right : (found : Option ℕ) → number_of (knowing context.site facts) right ≡ found
          → StepsStand context (PartDoes context) facts from
          (elim (option_map low found) [
            | Some n ↦ with_number_steps operation left n pushed
            | None ↦ elim (option_map low (number_of (knowing context.site facts) left)) [
              | Some n ↦ from_number_steps operation n right pushed
              | None ↦
                  in_form_steps
                  (form_of (knowing context.site facts) operation (record { left = left; right = right }))
                  operation
                  (record { left = left; right = right }) pushed
            ]
          ]) last to
          → ByteCarried context facts number (BinaryNode operands operator first second) pushed from last to
      by_right (Some k) here given =
          let small : k < values_of operands =
          subst (λ (scalar : ScalarType). k < values_of scalar) other_is_type
          (number_small facts k sound two.is two.types here) in
          with_number context sound
          (of_left facts number operator operands k (λ v. result_by operation operands v k) sound one two here
          (λ v. gives v k)
          (λ v fits. as_operands v k (subst (λ (scalar : ScalarType). v < values_of scalar) is_type fits)
          small)
          free_is_left)
          operation (k % 256) simple (omega arith)
          (λ v fits. low_of_result operation operands v k simple small)
          given
      by_right None here given = by_left here (number_of (knowing context.site facts) left) refl given

  -- a product
  product_law :
      IsElsewhere context facts number (forms.Binary operands operators.Multiply left right)
      (BinaryNode operands operators.Multiply first second)
      → StepsStand context (PartDoes context) facts from
      (product_byte_steps (knowing context.site facts) (record { left = left; right = right }) pushed) last to
      → ByteCarried context facts number
      (BinaryNode operands operators.Multiply first second) pushed from last to
  unfolding product_byte_steps computed_product_steps low_number
  product_law node stand = by_right (number_of (knowing context.site facts) right) refl stand
    where
      wish : Option PairOrder
      wish =
          product_order (fits_byte (knowing context.site facts) left)
          (fits_byte (knowing context.site facts) right)

      by_routine : List Step
      by_routine =
          pair_in_order_steps (knowing context.site facts) left right wish pushed
          ++ (CallRoutine routines.Multiply ∷ [])

      product_small : (scalar : ScalarType) (n : ℕ) → n % values_of scalar < values_of scalar
      product_small scalars.Byte n = omega arith
      product_small scalars.Address n = omega arith

      as_words : (scalar : ScalarType) (n : ℕ) → scalar ≡ scalars.Address → n % values_of scalar ≡ n % 65536
      as_words scalar n same = ap (λ (of : ScalarType). n % values_of of) same

      by_left : (found : Option ℕ) → number_of (knowing context.site facts) left ≡ found
          → StepsStand context (PartDoes context) facts from
          (elim (option_map low found) [
            | Some n ↦ byte_product_steps right n pushed
            | None ↦ by_routine ++ (Plain (copy A L) ∷ [])
          ]) last to
          → ByteCarried context facts number
          (BinaryNode operands operators.Multiply first second) pushed from last to
      by_left (Some k) here given =
          product_by_number context sound operands k (k % 256) refl
          (of_right facts number operators.Multiply operands k
          (λ w. (w * k) % values_of operands) sound one two here
          (λ w. ap (λ (n : ℕ). Some (n % values_of operands)) (mul_comm k w))
          (λ w fits. product_small operands (w * k)) (λ free. absurd (never_free node refl free)))
          (never_free node refl) given
      by_left None here given = λ top base s r memory below room ready known nothing.
          low_given number from s r memory sound node.is node.types (never_free node refl) ready
          (pair_then context sound wish
          (CallRoutine routines.Multiply ∷ Plain (copy A L) ∷ []) from s r memory one two below room
          (one_high (height_of first) (height_of second) _ (omega arith))
          (two_high (height_of first) (height_of second) _ (omega arith))
          (subst (λ steps. StepsStand context (PartDoes context) facts from steps last to)
          (append_assoc (pair_in_order_steps (knowing context.site facts) left right wish pushed)
          (CallRoutine routines.Multiply ∷ []) (Plain (copy A L) ∷ [])) given)
          (record { ready = ready; known = known })
          (λ x y t now ended middle found fewer rest going_on has.
          routine_then routines.Multiply (Plain (copy A L) ∷ []) now sound tt room (omega arith) rest going_on
          (λ after last_memory stand_on going_last computes leaves.
          let product : word after.h after.l ≡ (x * y) % 65536 =
          multiplied (pair_order_by (knowing context.site facts) left right wish) x y now
          after has computes in
          does_same (Gave ((x * y) % 65536) t)
          (ap (λ (n : ℕ). Gave n t) (as_words operands (x * y) node.types.0))
          (low_of_hl ((x * y) % 65536) after sound stand_on going_last product))))

      by_right : (found : Option ℕ) → number_of (knowing context.site facts) right ≡ found
          → StepsStand context (PartDoes context) facts from
          (elim (option_map low found) [
            | Some n ↦ byte_product_steps left n pushed
            | None ↦ elim (option_map low (number_of (knowing context.site facts) left)) [
              | Some n ↦ byte_product_steps right n pushed
              | None ↦ by_routine ++ (Plain (copy A L) ∷ [])
            ]
          ]) last to
          → ByteCarried context facts number
          (BinaryNode operands operators.Multiply first second) pushed from last to
      by_right (Some k) here given =
          product_by_number context sound operands k (k % 256) refl
          (of_left facts number operators.Multiply operands k
          (λ v. (v * k) % values_of operands) sound one two here
          (λ v. refl) (λ v fits. product_small operands (v * k)) (λ free. absurd (never_free node refl free)))
          (never_free node refl) given
      by_right None here given = by_left (number_of (knowing context.site facts) left) refl given

  -- a relation
  relation_law :
      (operator : BinaryOperator) (relation : Relation)
      → relation_of_form (knowing context.site facts) (forms.Binary operands operator left right)
      ≡ Some relation
      → is_free_form (nodes_in context) (type_of_result operator operands)
      (forms.Binary operands operator left right) ≡ false
      → IsElsewhere context facts number (forms.Binary operands operator left right)
      (BinaryNode operands operator first second)
      → StepsStand context (PartDoes context) facts from
      (relation_value_steps (knowing context.site facts) number pushed) last to
      → ByteCarried context facts number (BinaryNode operands operator first second) pushed from last to
  relation_law operator relation some none node stand =
      by (relation_of (knowing context.site facts) number) refl stand
    where
      by : (found : Option Relation) → relation_of (knowing context.site facts) number ≡ found
          → StepsStand context (PartDoes context) facts from
          (elim found [
            | Some asked_for ↦
                relation_steps (knowing context.site facts) asked_for (value_setting pushed)
                ++ outcome_value_steps (relation_outcome (knowing context.site facts) asked_for)
            | None ↦ []
          ]) last to
          → ByteCarried context facts number (BinaryNode operands operator first second) pushed from last to
      by (Some asked_for) here given =
          relation_value number asked_for asked sound node.is node.types here (node.free ∙ none) given
      by None here given = absurd (none-some relation (sym here ∙ node.relation ∙ some))

  -- any operator
  pub binary_law :
      (operator : BinaryOperator)
      → IsElsewhere context facts number (forms.Binary operands operator left right)
      (BinaryNode operands operator first second)
      → StepsStand context (PartDoes context) facts from
      (byte_binary_steps (knowing context.site facts) number operator
      (record { left = left; right = right }) pushed) last to
      → ByteCarried context facts number (BinaryNode operands operator first second) pushed from last to
  unfolding byte_binary_steps
  binary_law operators.Add node stand = operation_law operators.Add Add tt (λ v w. refl) refl node stand
  binary_law operators.Subtract node stand =
      operation_law operators.Subtract Subtract tt (λ v w. refl) refl node stand
  binary_law operators.And node stand = operation_law operators.And And tt (λ v w. refl) refl node stand
  binary_law operators.Or node stand = operation_law operators.Or Or tt (λ v w. refl) refl node stand
  binary_law operators.Xor node stand =
      operation_law operators.Xor ExclusiveOr tt (λ v w. refl) refl node stand
  binary_law operators.Multiply node stand = product_law node stand
  binary_law operators.Divide node stand =
      quotient_law context number operands sound one is_type two (never_free node refl)
      node.is node.types stand
  binary_law operators.Modulo node stand =
      remainder_law context number operands sound one is_type two (never_free node refl)
      node.is node.types stand
  binary_law operators.Equal node stand = relation_law operators.Equal _ refl refl node stand
  binary_law operators.Unequal node stand = relation_law operators.Unequal _ refl refl node stand
  binary_law operators.Less node stand = relation_law operators.Less _ refl refl node stand
  binary_law operators.Greater node stand = relation_law operators.Greater _ refl refl node stand
  binary_law operators.LessOrEqual node stand = relation_law operators.LessOrEqual _ refl refl node stand
  binary_law operators.GreaterOrEqual node stand =
      relation_law operators.GreaterOrEqual _ refl refl node stand

-- a shift or a rotation by a number
of_shift :
    {context : Context} {facts : Facts} {moved count : ExpressionNumber} {first second : TypedExpression}
    (number : ExpressionNumber) (sound : IsSound context) (scalar : ScalarType)
    (function : ShiftFunction) (n : ℕ)
    → IsOperand context moved first
    → type_of first ≡ scalar
    → IsOperand context count second
    → ShiftsIn function scalar
    → number_of (knowing context.site facts) count ≡ Some n
    → IsElsewhere context facts number (forms.Shift function moved count)
    (ShiftNode scalar function first second)
    → OfOne context number moved (ShiftNode scalar function first second) first
    (λ v. shifted scalar function v n)
    (values_of (type_of first))
of_shift {context = context} {facts = facts} {moved = moved} {count = count} {first = first} number sound
    scalar function n one is_type two in_type is node = record {
      bound = one.bound;
      node = one.is;
      types = one.types;
      fewer = omega arith;
      means = λ t.
          second_known first facts (Number n) (λ x y u. Gave (shifted scalar function x y) u) t sound two
          (number_known context facts count n is);
      fits = λ s u v source same. value_fits s sound one.is one.types source same;
      small = λ v fits.
          shift_fits scalar function v n in_type (subst (λ (of : ScalarType). v < values_of of) is_type fits);
      free = λ free. (free_parts context moved count (is_of_low_byte scalar function) (sym node.free ∙ free)).0;
    }

rotation_few : (n : ℕ) → n % 8 < 8
rotation_few n = omega arith

module _
    (context : Context) {facts last : Facts} {from to pushed : ℕ} {moved count : ExpressionNumber}
    {first second : TypedExpression} (number : ExpressionNumber) (sound : IsSound context)
    (asked : BytesAsked context) where
  by_number_law :
      (scalar : ScalarType) (function : ShiftFunction) (n : ℕ)
      → IsOperand context moved first
      → type_of first ≡ scalar
      → IsOperand context count second
      → ShiftsIn function scalar
      → number_of (knowing context.site facts) count ≡ Some n
      → IsElsewhere context facts number (forms.Shift function moved count)
      (ShiftNode scalar function first second)
      → StepsStand context (PartDoes context) facts from
      (by_number_steps (knowing context.site facts) function moved n pushed) last to
      → ByteCarried context facts number (ShiftNode scalar function first second) pushed from last to
  unfolding by_number_steps
  by_number_law scalar ShiftLeft n one is_type two in_type is node stand =
      left_by_number context sound scalar n
      (of_shift number sound scalar ShiftLeft n one is_type two in_type is node) stand
  by_number_law scalars.Address ShiftRight n one is_type two in_type is node stand =
      right_shifted context sound n
      (of_shift number sound scalars.Address ShiftRight n one is_type two in_type is node)
      (λ wide free. never_free node refl free) stand
  by_number_law scalars.Byte ShiftRight n one is_type two in_type is node stand =
      right_shifted context sound n
      (of_shift number sound scalars.Byte ShiftRight n one is_type two in_type is node)
      (λ wide free. false≢true (sym wide ∙ byte_fits facts sound one.is is_type)) stand
  by_number_law scalar RotateLeft n one is_type two in_type is node stand =
      turned_by_number context sound (n % 8) (rotation_few n)
      (subst (λ (limit : ℕ). OfOne context number moved (ShiftNode scalar RotateLeft first second) first
      (λ v. turned (v % 256) (n % 8)) limit)
      (ap values_of (is_type ∙ in_type))
      (of_shift number sound scalar RotateLeft n one is_type two in_type is node)) stand
  by_number_law scalar RotateRight n one is_type two in_type is node stand =
      turned_by_number context sound ((8 - n % 8) % 8) (rotation_few (8 - n % 8))
      (subst (λ (limit : ℕ). OfOne context number moved (ShiftNode scalar RotateRight first second) first
      (λ v. turned (v % 256) ((8 - n % 8) % 8)) limit)
      (ap values_of (is_type ∙ in_type))
      (of_shift number sound scalar RotateRight n one is_type two in_type is node)) stand

  by_count_law :
      (scalar : ScalarType) (function : ShiftFunction)
      → IsOperand context moved first
      → type_of first ≡ scalar
      → IsOperand context count second
      → type_of second ≡ scalars.Byte
      → ShiftsIn function scalar
      → number_of (knowing context.site facts) count ≡ None
      → IsElsewhere context facts number (forms.Shift function moved count)
      (ShiftNode scalar function first second)
      → StepsStand context (PartDoes context) facts from
      (elim scalar [
        | scalars.Byte ↦
            operands_steps (knowing context.site facts) moved count pushed
            ++ (CallRoutine (byte_routine function) ∷ [])
        | scalars.Address ↦ low_of_word_steps number pushed
      ]) last to
      → ByteCarried context facts number (ShiftNode scalar function first second) pushed from last to
  by_count_law scalars.Byte function one is_type two count_type in_type none node stand =
      shift_by_count function number asked sound one is_type two count_type in_type
      (false_from_ne_true (is_free context.site number)
      (λ free. false≢true (sym (no_number context facts count none)
      ∙ (free_parts context moved count (is_of_low_byte scalars.Byte function) (sym node.free ∙ free)).1)))
      stand
  by_count_law scalars.Address function one is_type two count_type in_type none node stand =
      low_word_law number pushed sound node.is node.types
      (λ free. false≢true (sym (no_number context facts count none)
      ∙ (free_parts context moved count (is_of_low_byte scalars.Address function) (sym node.free ∙ free)).1))
      stand

  -- a shift or a rotation
  pub shift_law :
      (scalar : ScalarType) (function : ShiftFunction)
      → IsOperand context moved first
      → type_of first ≡ scalar
      → IsOperand context count second
      → type_of second ≡ scalars.Byte
      → ShiftsIn function scalar
      → IsElsewhere context facts number (forms.Shift function moved count)
      (ShiftNode scalar function first second)
      → StepsStand context (PartDoes context) facts from
      (byte_shift_steps (knowing context.site facts) number
      (record { function = function; value = moved; count = count }) pushed) last to
      → ByteCarried context facts number (ShiftNode scalar function first second) pushed from last to
  unfolding byte_shift_steps
  shift_law scalar function one is_type two count_type in_type node stand =
      by (number_of (knowing context.site facts) count) refl stand
    where
      by : (found : Option ℕ) → number_of (knowing context.site facts) count ≡ found
          → StepsStand context (PartDoes context) facts from
          (elim found [
            | Some n ↦ by_number_steps (knowing context.site facts) function moved n pushed
            | None ↦ elim (scalar_of (knowing context.site facts) number) [
              | scalars.Byte ↦
                  operands_steps (knowing context.site facts) moved count pushed
                  ++ (CallRoutine (byte_routine function) ∷ [])
              | scalars.Address ↦ low_of_word_steps number pushed
            ]
          ]) last to
          → ByteCarried context facts number (ShiftNode scalar function first second) pushed from last to
      by (Some n) here given = by_number_law scalar function n one is_type two in_type here node given
      by None here given =
          by_count_law scalar function one is_type two count_type in_type here node
          (subst (λ (of : ScalarType). StepsStand context (PartDoes context) facts from
          (elim of [
            | scalars.Byte ↦
                operands_steps (knowing context.site facts) moved count pushed
                ++ (CallRoutine (byte_routine function) ∷ [])
            | scalars.Address ↦ low_of_word_steps number pushed
          ]) last to) node.scalar given)
