-- The code of values in HL does what the expressions mean.
use Rattle.task_laws.proofs.Prelude.{◌≡◌, ℕ, ◌+◌, ◌-◌, ◌*◌, ◌/◌, ◌%◌, ◌^◌, ◌<◌, ◌≤◌, ◌==◌, max, Bool, true, false, if◌then◌else◌, bit_and, is_some, [], ◌∷◌, ◌++◌, Option, Some, None, refl, sym, ap, ◌∙◌, subst, arith, append_assoc, ScalarType, Address, Byte, BinaryOperator, ShiftFunction, RotateLeft, RotateRight, ShiftLeft, ShiftRight, height_of, type_of, type_of_result, BinaryNode, ConversionNode, FunctionNode, ShiftNode, TypedExpression, TypesHold, value, SourceState, Outcome, Gave, Stopped, then_do, as_type, shifted, Xchg, State, Expression, ExpressionForm, ExpressionNumber, Static, Place, Number, Reference, IsExpression, IsForm, IsNumber, IsValue, IsLocation, IsConstantList, IsConversion, IsEmbedded, IsUnary, IsBinary, IsCallOf, IsFunction, IsShift, IsInput, keeps_none, keeps_of_form, keeps_of, keeps_of_extended, memory_of_form, keeps_of_shift, same_low_byte, traits_at, known_of, no_traits, number_at, traits_of, Traits, option_map_or, expression, Does, loaded_of, at_place, Arrives, place_at, Facts, CallRoutine, Plain, extension_steps, part_of, Site, keeps, known, memory_of, number_of, power, location_address_steps, extended_byte_in_memory_steps, pair_steps, knowing, number_of_two, division_steps, logic_with_number_steps, quotient_steps, remainder_steps, word_binary_steps, computed_count_steps, word_by_number_steps, word_shift_steps, word_shifted_right_steps, computed_word_steps, extended_byte_steps, word_form_steps, word_of_two_steps, word_steps, Context, IsSound, nodes_in, StepsStand, PartThere, PartDoes, WordDoes, WordIsGiven, Keeps, Nodes, pow-le-pow_right, eqb-false, ne_eqb, and_mask, option_and_then, computed, result_of, power_of_two, same_Some, UnaryFunction, LowByte, byte_taken, type_of_function, function_of}
use Rattle.trees.proofs.TakenBytes.{address_takes_low}
use Rattle.meaning.proofs.FunctionResults.{operand_given}
use Rattle.treecode.proofs.TakenBytes.{low_byte_of_operand}
use Rattle.trees.specs.declared.expression.BinaryOperator.TheVariants as operators
use Rattle.runtime8080.specs.declared.routine.Routine.TheVariants as routines
use Rattle.treecode.specs.declared.expression.ExpressionForm.TheVariants as forms
use Rattle.treecode.specs.internal.Traits.{keeps_of_address}
use Rattle.steps8080.specs.declared.step.Task.TheVariants as tasks
use Rattle.task_laws.proofs.Machine.Addresses.{location_address_goes}
use Rattle.task_laws.proofs.Loads.BytesInMemory.{memory_same}
use Rattle.task_laws.proofs.Machine.Nodes.{NodeOf, node_of}
use Rattle.task_laws.proofs.Machine.KnownOperands.{bytes_differ, known_small, number_known, word_fits}
use Rattle.task_laws.proofs.Ranges.Ranges.{operands_are_addresses}
use Rattle.task_laws.proofs.Machine.Values.{word_ends, word_given, word_then}
use Rattle.task_laws.proofs.Words.Pairs.{IsOperand}
use Rattle.task_laws.proofs.Words.WordArithmetic.{has_word}
use Rattle.task_laws.proofs.Words.KeptInside.{IsKeptBy, byte_inside_kept, kept_same}
use Rattle.task_laws.proofs.Words.WordSums.{TwoWords, keeps_at_site, one_high, second_known, sum_does, two_high}
use Rattle.task_laws.proofs.Words.LeftShifts.{left_does}
use Rattle.task_laws.proofs.Words.LogicPairs.{either_does}
use Rattle.isa8080.specs.declared.instr.Operation.TheVariants as operations
use Rattle.task_laws.proofs.Words.WordForms.{extended_does, unary_does}
use Rattle.task_laws.proofs.Words.WordRoutines.{absurd_type, computed_shift_does, quotient_does, remainder_does}
use Rattle.task_laws.proofs.Words.WordBinaries.{difference_does, is_number_at, product_does}
use Rattle.task_laws.proofs.Words.AndNumbers.{HighHalvesGiven, and_number_does}
use Rattle.task_laws.proofs.Bytes.BytesAsked.{BytesAsked}
use Rattle.task_laws.proofs.Words.CarriedWords.{IsCarriedOut}
use Rattle.task_laws.proofs.Loads.DirectWords.{left_words_do}
use Rattle.task_laws.proofs.Loads.ExtendedBytes.{extended_carried}
use Rattle.task_laws.proofs.Machine.KnownOperands.{number_small}
use Rattle.task_laws.proofs.Words.LogicAnd.{and_does}
use Rattle.task_laws.proofs.Words.Multiples.{power_is}
use Rattle.task_laws.proofs.Words.Pairs.{same_rest}
use Rattle.task_laws.proofs.Words.RightShifts.{right_does}
use Rattle.task_laws.proofs.Words.SimpleLogic.{with_simple_does}
use Rattle.task_laws.proofs.Words.WordValues.{call_carried, embedded_carried, location_carried, value_carried}
use Rattle.task_laws.proofs.Machine.SiteNodes.{known_means}
use Rattle.task_laws.proofs.Numbers.{address_is_word}

without_rest :
    (context : Context) {from : State} {budget : ℕ} {Good : ℕ → SourceState → State → Type 0}
    (outcome : Outcome ℕ)
    → Does (loaded_of context.activation) budget 0 from (then_do outcome (λ n t. Gave n t)) Good
    → Does (loaded_of context.activation) budget 0 from outcome Good
without_rest context (Gave n t) does = does
without_rest context (Stopped why t) does = does

higher_one : (h need : ℕ) → 2 * (1 + h) ≤ need → 2 * h ≤ need
higher_one h need high = omega (arith, high)

higher_two : (h need : ℕ) → 2 * (2 + h) ≤ need → 2 * h ≤ need
higher_two h need high = omega (arith, high)

as_small : (n : ℕ) → as_type Address n < 65536
as_small n = omega arith

same_word : (n : ℕ) → n < 65536 → n ≡ as_type Address n
same_word n small = omega (arith, small)

-- the registers that the code of an inner expression keeps
extended_kept :
    (nodes : Nodes) (outer form : ExpressionForm) (scalar : ScalarType) (traits : Traits)
    → traits ≡ traits_of nodes scalar form
    → same_low_byte nodes outer ≡ form
    → IsKeptBy (keeps_of_extended nodes outer traits) traits.keeps
unfolding traits_of
extended_kept nodes outer form scalar traits are same =
    subst (λ (one : Traits). IsKeptBy (keeps_of_extended nodes outer one) one.keeps) (sym are) (by scalar)
  where
    by : (of : ScalarType) → IsKeptBy (keeps_of_extended nodes outer (traits_of nodes of form))
        (traits_of nodes of form).keeps
    by Byte = byte_inside_kept nodes outer form (known_of nodes Byte form) same
    by Address = kept_same _

higher_shift : (a b need : ℕ) → 2 * (3 + max a b) ≤ need → 2 * (1 + max a b) ≤ need
higher_shift a b need high = omega (arith, high)

operand_of : {context : Context} {bound : ℕ} {of : ExpressionNumber} {tree : TypedExpression}
    → IsExpression (nodes_in context) context.storage bound of.index tree
    → TypesHold context.typed context.within tree
    → IsOperand context of tree
operand_of {bound = bound} is types = record { bound = bound; is = is; types = types }

-- a number that is a power of 2
record IsPower (site : Site) (of : ExpressionNumber) (count : ℕ) : Type 0 where
  n : ℕ
  is : number_of site of ≡ Some n
  same : n ≡ 2 ^ count

power_means : (site : Site) (of : ExpressionNumber) (count : ℕ) → power site of ≡ Some count
    → IsPower site of count
unfolding power power_of_two
power_means site of count is = by (number_of site of) refl is
  where
    by : (found : Option ℕ) → number_of site of ≡ found → option_and_then power_of_two found ≡ Some count
        → IsPower site of count
    by (Some n) here same = record { n = n; is = here; same = power_is 16 0 n count same }
    by None here same = absurd cc

two_means :
    (site : Site) (of : ExpressionNumber) (n : ℕ) → number_of_two site of ≡ Some n
    → (count : ℕ) × (number_of site of ≡ Some n) × (n ≡ 2 ^ count)
unfolding number_of_two
two_means site of n is = by (number_of site of) (power site of) refl refl is
  where
    by : (found power_found : Option ℕ) → number_of site of ≡ found → power site of ≡ power_found
        → elim found [
          | Some number ↦ if is_some power_found then Some number else None
          | None ↦ None
        ] ≡ Some n
        → (count : ℕ) × (number_of site of ≡ Some n) × (n ≡ 2 ^ count)
    by (Some m) (Some count) here there same =
        let found = power_means site of count there in
        let one : m ≡ n = same_Some _ _ same in
        (count, here ∙ same, sym one ∙ same_Some _ _ (sym here ∙ found.is) ∙ found.same)
    by (Some m) None here there same = absurd cc
    by None power_found here there same = absurd cc

power_some : (n count : ℕ) → n ≡ 2 ^ count → (n == 0) ≡ false
power_some n count same = ne_eqb n 0 (λ none. not_none (sym same ∙ none))
  where
    some_bit : 1 ≤ 2
    some_bit = omega arith

    from_none : 0 ≤ count
    from_none = omega arith

    not_none : 2 ^ count ≡ 0 → ⊥
    not_none none =
        let positive : 2 ^ 0 ≤ 2 ^ count = pow-le-pow_right some_bit from_none in
        omega (arith, none, positive)

-- the result of a division by a power of 2
quotient_is : (x n count : ℕ) (u : SourceState) → n ≡ 2 ^ count
    → computed (result_of Address operators.Divide x n) u ≡ Gave (x / 2 ^ count) u
quotient_is x n count u same =
    ap (λ (test : Bool). computed (if test then None else Some (x / n)) u) (power_some n count same)
    ∙ ap (λ m. Gave (x / m) u) same

rest_mask : (n count : ℕ) → n ≡ 2 ^ count → n < 65536 → (n == 0) ≡ false → (n + 65535) % 65536 ≡ 2 ^ count - 1
rest_mask n count same small some =
    let not_none = eqb-false n 0 some in less n small not_none ∙ ap (λ m. m - 1) same
  where
    less : (n : ℕ) → n < 65536 → (n ≡ 0 → ⊥) → (n + 65535) % 65536 ≡ n - 1
    less n small some = omega (arith, small, some)

remainder_is : (x n count : ℕ) (u : SourceState) → n ≡ 2 ^ count → n < 65536
    → computed (result_of Address operators.Modulo x n) u ≡ Gave (bit_and x ((n + 65535) % 65536)) u
remainder_is x n count u same small =
    ap (λ (test : Bool). computed (if test then None else Some (x % n)) u) (power_some n count same)
    ∙ ap (λ m. Gave (x % m) u) same
    ∙ ap (λ m. Gave m u) (sym (and_mask x count))
    ∙ ap (λ m. Gave (bit_and x m) u) (sym (rest_mask n count same small (power_some n count same)))

module _ (context : Context) (sound : IsSound context) (asked : BytesAsked context)
    (highs : HighHalvesGiven context) where
  -- an ADDRESS operator
  binary_carried :
      {facts last : Facts} {number left right : ExpressionNumber} {first second : TypedExpression}
      {bound pushed from to : ℕ}
      (operator : BinaryOperator)
      → TwoWords context (record { left = left; right = right }) first second
      → IsForm (nodes_in context) context.storage bound (forms.Binary Address operator left right)
      (BinaryNode Address operator first second)
      → TypesHold context.typed context.within (BinaryNode Address operator first second)
      → type_of_result operator Address ≡ Address
      → keeps context.site number ≡ keeps_of_form (nodes_in context) Address
      (forms.Binary Address operator left right)
      → StepsStand context (PartDoes context) facts from
      (word_form_steps (knowing context.site facts) (forms.Binary Address operator left right) pushed) last to
      → IsCarriedOut context facts number (BinaryNode Address operator first second)
      Address pushed from last to
  unfolding word_form_steps word_of_two_steps word_binary_steps quotient_steps remainder_steps division_steps
  binary_carried {number = number} {left = left} {right = right} {from = from} operators.Add words form types
      same kept stand = λ top need base s r memory less room height going.
      sum_does (record { left = left; right = right }) number from s r memory sound words kept less
      room height stand going
  binary_carried {number = number} {left = left} {right = right} {from = from} operators.Subtract words form
      types same kept stand = λ top need base s r memory less room height going.
      difference_does (record { left = left; right = right }) number from s r memory sound
      (left_words_do context sound asked.places) words kept less room height stand going
  binary_carried {number = number} {left = left} {right = right} {from = from} operators.Multiply words form
      types same kept stand = λ top need base s r memory less room height going.
      product_does (record { left = left; right = right }) number from s r memory sound words kept less
      room height stand going
  binary_carried {number = number} {left = left} {right = right} {from = from} operators.And words form types
      same kept stand = λ top need base s r memory less room height going.
      and_does (record { left = left; right = right }) number from s r memory sound asked highs words kept
      less room height stand going
  binary_carried {number = number} {left = left} {right = right} {from = from} operators.Or words form types
      same kept stand = λ top need base s r memory less room height going.
      either_does operations.Or (record { left = left; right = right }) number from s r memory sound tt words
      kept less room height stand going
      (λ chosen here given.
      with_simple_does operations.Or (record { left = left; right = right }) chosen number from s r memory
      sound asked.places tt
      (λ fits. tt) (λ fits. tt) words here kept less room height given going)
  binary_carried {number = number} {left = left} {right = right} {from = from} operators.Xor words form types
      same kept stand = λ top need base s r memory less room height going.
      either_does operations.ExclusiveOr (record { left = left; right = right }) number from s r memory sound
      tt words kept less room height stand going
      (λ chosen here given.
      with_simple_does operations.ExclusiveOr (record { left = left; right = right }) chosen number from s r
      memory sound asked.places tt
      (λ fits. tt) (λ fits. tt) words here kept less room height given going)
  binary_carried {facts = facts} {last = last} {number = number} {left = left} {right = right} {first = first}
      {second = second} {bound = bound} {pushed = pushed} {from = from} {to = to} operators.Divide words form
      types same kept stand =
      by (power (knowing context.site facts) right) refl (quotient_stands stand)
    where
      quotient_stands :
          StepsStand context (PartDoes context) facts from
          (quotient_steps (knowing context.site facts) (record { left = left; right = right }) pushed)
          last to
          → StepsStand context (PartDoes context) facts from
          (elim (power (knowing context.site facts) right) [
            | Some count ↦ word_shifted_right_steps (knowing context.site facts) left count pushed
            | None ↦ division_steps (knowing context.site facts)
                (record { left = left; right = right }) pushed
          ]) last to
      quotient_stands stand = stand

      divided : StepsStand context (PartDoes context) facts from
          (division_steps (knowing context.site facts) (record { left = left; right = right }) pushed) last to
          → StepsStand context (PartDoes context) facts from
          (pair_steps (knowing context.site facts) left right true pushed
          ++ (CallRoutine routines.Divide ∷ [])) last to
      divided stand = stand

      by : (found : Option ℕ) → power (knowing context.site facts) right ≡ found
          → StepsStand context (PartDoes context) facts from (elim found [
            | Some count ↦ word_shifted_right_steps (knowing context.site facts) left count pushed
            | None ↦ division_steps (knowing context.site facts)
                (record { left = left; right = right }) pushed
          ]) last to
          → IsCarriedOut context facts number (BinaryNode Address operators.Divide first second)
          Address pushed from last to
      by (Some count) is given = λ top need base s r memory less room height going.
          let found = power_means (knowing context.site facts) right count is in
          subst (λ outcome. Does (loaded_of context.activation) s.budget 0
          (at_place from r memory s.events) outcome
          (Arrives context.activation top base to (WordIsGiven context last number Address r memory)))
          (sym (second_known first facts (Number found.n)
          (λ x y u. computed (result_of Address operators.Divide x y) u) s sound words.two
          (number_known context facts right found.n found.is)
          ∙ same_rest (value context.later context.activation.around first s)
          (λ x t. computed (result_of Address operators.Divide x found.n) t) (λ x t. Gave (x / 2 ^ count) t)
          (λ x t. quotient_is x found.n count t found.same)))
          (right_does count number from s r memory sound words.one words.one_is kept less room
          (one_high (height_of first) (height_of second) need height) going highs given)
      by None is given = λ top need base s r memory less room height going.
          quotient_does number from s r memory sound words.one words.two kept less room
          (one_high (height_of first) (height_of second) need height)
          (two_high (height_of first) (height_of second) need height)
          (divided given) going
  binary_carried {facts = facts} {last = last} {number = number} {left = left} {right = right} {first = first}
      {second = second} {bound = bound} {pushed = pushed} {from = from} {to = to} operators.Modulo words form
      types same kept stand =
      by (number_of_two (knowing context.site facts) right) refl (remainder_stands stand)
    where
      remainder_stands :
          StepsStand context (PartDoes context) facts from
          (remainder_steps (knowing context.site facts) (record { left = left; right = right }) pushed)
          last to
          → StepsStand context (PartDoes context) facts from
          (elim (number_of_two (knowing context.site facts) right) [
            | Some n ↦ logic_with_number_steps (knowing context.site facts) operations.And left
                ((n + 65535) % 65536) pushed
            | None ↦ division_steps (knowing context.site facts) (record { left = left; right = right })
                pushed ++ (Plain Xchg ∷ [])
          ]) last to
      remainder_stands stand = stand

      divided : StepsStand context (PartDoes context) facts from
          (division_steps (knowing context.site facts) (record { left = left; right = right }) pushed
          ++ (Plain Xchg ∷ [])) last to
          → StepsStand context (PartDoes context) facts from
          (pair_steps (knowing context.site facts) left right true pushed
          ++ (CallRoutine routines.Divide ∷ Plain Xchg ∷ [])) last to
      divided stand =
          subst (λ steps. StepsStand context (PartDoes context) facts from steps last to)
          (append_assoc (pair_steps (knowing context.site facts) left right true pushed)
          (CallRoutine routines.Divide ∷ [])
          (Plain Xchg ∷ [])) stand

      by : (found : Option ℕ) → number_of_two (knowing context.site facts) right ≡ found
          → StepsStand context (PartDoes context) facts from (elim found [
            | Some n ↦ logic_with_number_steps (knowing context.site facts) operations.And left
                ((n + 65535) % 65536) pushed
            | None ↦ division_steps (knowing context.site facts) (record { left = left; right = right })
                pushed ++ (Plain Xchg ∷ [])
          ]) last to
          → IsCarriedOut context facts number (BinaryNode Address operators.Modulo first second)
          Address pushed from last to
      by (Some n) is given = λ top need base s r memory less room height going.
          let found = two_means (knowing context.site facts) right n is in
          let small =
          address_is_word n (type_of second) words.two_is
          (number_small facts n sound words.two.is words.two.types found.1) in
          subst (λ outcome. Does (loaded_of context.activation) s.budget 0
          (at_place from r memory s.events) outcome
          (Arrives context.activation top base to (WordIsGiven context last number Address r memory)))
          (sym (second_known first facts (Number n)
          (λ x y u. computed (result_of Address operators.Modulo x y) u) s sound words.two
          (number_known context facts right n found.1)
          ∙ same_rest (value context.later context.activation.around first s)
          (λ x t. computed (result_of Address operators.Modulo x n) t)
          (λ x t. Gave (bit_and x ((n + 65535) % 65536)) t)
          (λ x t. remainder_is x n found.0 t found.2 small)))
          (and_number_does number sound kept words.one ((n + 65535) % 65536) from s r memory highs
          words.one_is (omega arith)
          less room (one_high (height_of first) (height_of second) need height) given going)
      by None is given = λ top need base s r memory less room height going.
          remainder_does number from s r memory sound words.one words.two kept less room
          (one_high (height_of first) (height_of second) need height)
          (two_high (height_of first) (height_of second) need height)
          (divided given) going
  binary_carried operators.Equal words form types same kept stand = bytes_differ same
  binary_carried operators.Less words form types same kept stand = bytes_differ same
  binary_carried operators.Greater words form types same kept stand = bytes_differ same
  binary_carried operators.LessOrEqual words form types same kept stand = bytes_differ same
  binary_carried operators.GreaterOrEqual words form types same kept stand = bytes_differ same
  binary_carried operators.Unequal words form types same kept stand = bytes_differ same

  -- a shift of an ADDRESS
  shift_carried :
      {facts last : Facts} {number of count : ExpressionNumber} {first second : TypedExpression}
      {bound pushed from to : ℕ}
      (function : ShiftFunction)
      → IsOperand context of first
      → IsOperand context count second
      → IsForm (nodes_in context) context.storage bound (forms.Shift function of count)
      (ShiftNode Address function first second)
      → TypesHold context.typed context.within (ShiftNode Address function first second)
      → keeps context.site number ≡ keeps_of_form (nodes_in context) Address (forms.Shift function of count)
      → StepsStand context (PartDoes context) facts from
      (word_form_steps (knowing context.site facts) (forms.Shift function of count) pushed) last to
      → IsCarriedOut context facts number (ShiftNode Address function first second)
      Address pushed from last to
  unfolding word_form_steps word_of_two_steps word_shift_steps word_by_number_steps
  shift_carried {facts = facts} {last = last} {number = number} {of = of} {count = count} {first = first}
      {second = second} {bound = bound} {pushed = pushed} {from = from} {to = to} function one two
      form types kept stand =
      by (number_of (knowing context.site facts) count) refl stand
    where
      shift_keeps : (function : ShiftFunction) → number_at (nodes_in context) count ≡ None
          → keeps_of_shift (nodes_in context) function of (number_at (nodes_in context) count) ≡ keeps_none
      shift_keeps ShiftLeft none = ap (λ found. keeps_of_shift (nodes_in context) ShiftLeft of found) none
      shift_keeps ShiftRight none = refl
      shift_keeps RotateLeft none = refl
      shift_keeps RotateRight none = refl

      by_number : (of_function : ShiftFunction) (n : ℕ)
          → number_of (knowing context.site facts) count ≡ Some n
          → StepsStand context (PartDoes context) facts from
          (word_by_number_steps (knowing context.site facts) of_function of n pushed) last to
          → IsForm (nodes_in context) context.storage bound (forms.Shift of_function of count)
          (ShiftNode Address of_function first second)
          → TypesHold context.typed context.within (ShiftNode Address of_function first second)
          → keeps context.site number ≡ keeps_of_form (nodes_in context) Address
          (forms.Shift of_function of count)
          → StepsStand context (PartDoes context) facts from
          (word_form_steps (knowing context.site facts) (forms.Shift of_function of count) pushed) last to
          → IsCarriedOut context facts number (ShiftNode Address of_function first second)
          Address pushed from last to
      by_number ShiftRight n is given form types kept stand =
          λ top need base s r memory less room height going.
          subst (λ outcome. Does (loaded_of context.activation) s.budget 0
          (at_place from r memory s.events) outcome
          (Arrives context.activation top base to (WordIsGiven context last number Address r memory)))
          (sym (second_known first facts (Number n)
          (λ x y u. Gave (shifted Address ShiftRight x y) u) s sound two
          (number_known context facts count n is)))
          (right_does n number from s r memory sound one (types.1).1 kept
          less room
          (one_high (height_of first) (height_of second) need
          (higher_shift (height_of first) (height_of second) need height))
          going highs given)
      by_number ShiftLeft n is given form types kept stand =
          λ top need base s r memory less room height going.
          subst (λ outcome. Does (loaded_of context.activation) s.budget 0
          (at_place from r memory s.events) outcome
          (Arrives context.activation top base to (WordIsGiven context last number Address r memory)))
          (sym (second_known first facts (Number n)
          (λ x y u. Gave (shifted Address ShiftLeft x y) u) s sound two
          (number_known context facts count n is)))
          (left_does n number from s r memory sound one
          (kept ∙ ap (λ found. keeps_of_shift (nodes_in context) ShiftLeft of found)
          (is_number_at context facts count (Some n) is))
          less room
          (one_high (height_of first) (height_of second) need
          (higher_shift (height_of first) (height_of second) need height))
          given going)
      by_number RotateLeft n is given form types kept stand = absurd_type types.0
      by_number RotateRight n is given form types kept stand = absurd_type types.0

      by : (found : Option ℕ) → number_of (knowing context.site facts) count ≡ found
          → StepsStand context (PartDoes context) facts from (elim found [
            | Some n ↦ word_by_number_steps (knowing context.site facts) function of n pushed
            | None ↦ computed_count_steps (knowing context.site facts)
                (record { function = function; value = of; count = count }) pushed
          ]) last to
          → IsCarriedOut context facts number (ShiftNode Address function first second)
          Address pushed from last to
      by (Some n) is given = by_number function n is given form types kept stand
      by None is given = λ top need base s r memory less room height going.
          computed_shift_does (record { function = function; value = of; count = count }) number from s r
          memory sound types.0 one two
          (types.2).1
          (kept ∙ shift_keeps function (is_number_at context facts count None is))
          less room
          (one_high (height_of first) (height_of second) need
          (higher_shift (height_of first) (height_of second) need height))
          (two_high (height_of first) (height_of second) need
          (higher_shift (height_of first) (height_of second) need height))
          given going

  -- a node inside of a conversion, or of a function that takes the low byte
  conversion_form :
      {bound : ℕ} (inner : ExpressionNumber) (tree : TypedExpression)
      (is : IsExpression (nodes_in context) context.storage bound inner.index tree)
      → same_low_byte (nodes_in context) (forms.Conversion inner)
      ≡ (node_of {context = context} {number = inner} sound is).found.form
  conversion_form inner tree is =
      ap (λ (found : Option Expression). option_map_or (λ (expression : Expression). expression.form) found
      (forms.Conversion inner))
      (node_of {context = context} {number = inner} sound is).is_there

  function_form :
      {bound : ℕ} (function : UnaryFunction) (inner : ExpressionNumber) (tree : TypedExpression)
      → byte_taken function ≡ LowByte
      → (is : IsExpression (nodes_in context) context.storage bound inner.index tree)
      → same_low_byte (nodes_in context) (forms.Function function inner)
      ≡ (node_of {context = context} {number = inner} sound is).found.form
  function_form function inner tree low is =
      low_byte_of_operand (nodes_in context) function inner low
      ∙ ap (λ (found : Option Expression). option_map_or (λ (expression : Expression). expression.form) found
      (forms.Function function inner))
      (node_of {context = context} {number = inner} sound is).is_there

  -- the registers that its operand keeps
  inside_keeps :
      {bound : ℕ} {tree : TypedExpression} (number inner : ExpressionNumber) (outer : ExpressionForm)
      (is : IsExpression (nodes_in context) context.storage bound inner.index tree)
      → keeps context.site number ≡ keeps_of_extended (nodes_in context) outer
      (traits_at (nodes_in context) inner)
      → same_low_byte (nodes_in context) outer
      ≡ (node_of {context = context} {number = inner} sound is).found.form
      → IsKeptBy (keeps context.site number) (keeps context.site inner)
  inside_keeps {tree = tree} number inner outer is kept same =
      let node : NodeOf context inner tree = node_of sound is in
      let traits_are : traits_at (nodes_in context) inner
      ≡ traits_of (nodes_in context) (type_of tree) node.found.form
      = ap (λ (found : Option Expression). option_map_or (λ (expression : Expression). expression.traits)
      found no_traits) node.is_there
      ∙ node.traits in
      subst (λ (less : Keeps). IsKeptBy less (keeps context.site inner)) (sym kept)
      (subst (λ (more : Keeps). IsKeptBy
      (keeps_of_extended (nodes_in context) outer (traits_at (nodes_in context) inner)) more)
      (sym (keeps_at_site context inner))
      (extended_kept (nodes_in context) outer node.found.form (type_of tree)
      (traits_at (nodes_in context) inner) traits_are same))

  -- a conversion to ADDRESS, and a function that gives one
  conversion_carried :
      {facts last : Facts} {inner : ExpressionNumber} {tree : TypedExpression} {bound pushed from to : ℕ}
      (number : ExpressionNumber)
      → IsExpression (nodes_in context) context.storage bound inner.index tree
      → TypesHold context.typed context.within tree
      → IsKeptBy (keeps context.site number) (keeps context.site inner)
      → StepsStand context (PartDoes context) facts from (part_of (tasks.Word inner) pushed ∷ []) last to
      → IsCarriedOut context facts number (ConversionNode Address tree) Address pushed from last to
  conversion_carried {tree = tree} {from = from} number is types kept (PartThere part rest) =
      λ top need base s r memory less room height going.
      word_then from s r memory part is types less room height going
      (λ n t now ended same fewer going_on given.
      let small : n < 65536 = word_fits n (type_of tree) given.small in
      word_ends t rest (as_small n)
      (record { h = given.h ∙ ap (λ m. m / 256) (same_word n small); l = given.l ∙ ap (λ m. m % 256) (same_word n small) })
      (record { a = λ asked_for. given.a (kept.a asked_for); d = λ asked_for. given.d (kept.de asked_for); e = λ asked_for. given.e (kept.de asked_for) })
      going_on)

  function_carried :
      {facts last : Facts} {inner : ExpressionNumber} {tree : TypedExpression} {bound pushed from to : ℕ}
      (function : UnaryFunction) (number : ExpressionNumber)
      → type_of_function function ≡ Address
      → IsExpression (nodes_in context) context.storage bound inner.index tree
      → TypesHold context.typed context.within tree
      → IsKeptBy (keeps context.site number) (keeps context.site inner)
      → StepsStand context (PartDoes context) facts from (part_of (tasks.Word inner) pushed ∷ []) last to
      → IsCarriedOut context facts number (FunctionNode function tree) Address pushed from last to
  function_carried {tree = tree} {from = from} function number address is types kept (PartThere part rest) =
      λ top need base s r memory less room height going.
      word_then from s r memory part is types less room (higher_two (height_of tree) need height) going
      (λ n t now ended same fewer going_on given.
      let operand : n ≡ function_of function n = sym (operand_given function address n) in
      word_ends t rest (subst (λ m. m < 65536) operand (word_fits n (type_of tree) given.small))
      (record { h = given.h ∙ ap (λ m. m / 256) operand; l = given.l ∙ ap (λ m. m % 256) operand })
      (record { a = λ asked_for. given.a (kept.a asked_for); d = λ asked_for. given.d (kept.de asked_for); e = λ asked_for. given.e (kept.de asked_for) })
      going_on)

  never_there : {A : Type 0} {reference : Reference} → Some reference ≡ None → A
  never_there e = cc

  never_known : {A : Type 0} {place : Place} → Some place ≡ None → A
  never_known e = cc

  -- an ADDRESS of each form
  form_carried :
      {facts last : Facts} {number : ExpressionNumber} {form : ExpressionForm} {tree : TypedExpression}
      {bound pushed from to : ℕ}
      → IsForm (nodes_in context) context.storage bound form tree
      → TypesHold context.typed context.within tree
      → type_of tree ≡ Address
      → known_of (nodes_in context) (type_of tree) form ≡ None
      → keeps context.site number ≡ keeps_of_form (nodes_in context) Address form
      → StepsStand context (PartDoes context) facts from
      (word_form_steps (knowing context.site facts) form pushed) last to
      → IsCarriedOut context facts number tree Address pushed from last to
  unfolding word_form_steps
  form_carried IsNumber types address unknown kept stand = never_known unknown
  form_carried IsConstantList types address unknown kept stand = never_known unknown
  form_carried (IsValue {scalar = Address} reference) types address unknown kept stand =
      value_carried sound reference types kept stand
  form_carried (IsValue {scalar = Byte} reference) types address unknown kept stand = bytes_differ address
  form_carried (IsLocation reference) types address unknown kept stand =
      location_carried sound reference types kept stand
  form_carried {number = number} (IsConversion {inner = inner} {scalar = Address} {tree = tree} is) types
      address unknown kept stand =
      λ top need base s r memory less room height going.
      conversion_carried number is types
      (inside_keeps number inner (forms.Conversion inner) is kept (conversion_form inner tree is)) stand
      top need base s r memory less room height going
  form_carried (IsConversion {scalar = Byte} is) types address unknown kept stand = bytes_differ address
  form_carried (IsEmbedded target inner) types address unknown kept stand =
      embedded_carried sound target inner types address kept stand
  form_carried (IsCallOf {procedure = procedure} {scalar = Address} {range = range} given) types address
      unknown kept stand =
      call_carried procedure range sound given types kept stand
  form_carried (IsCallOf {scalar = Byte} given) types address unknown kept stand = bytes_differ address
  form_carried {number = number} {from = from}
      (IsUnary {scalar = Address} {operator = operator} {tree = operand} is) types address unknown kept
      stand = λ top need base s r memory less room height going.
      unary_does operator number from s r memory sound (operand_of is types.0) kept less room
      (higher_one (height_of operand) need height) stand going
  form_carried (IsUnary {scalar = Byte} is) types address unknown kept stand = bytes_differ address
  form_carried (IsBinary {operands = Address} {operator = operator} one two) types address
      unknown kept stand =
      binary_carried operator
      (record {
        one = operand_of one (types.1).0;
        two = operand_of two (types.2).0;
        one_is = (types.1).1;
        two_is = (types.2).1;
      })
      (IsBinary one two) types address kept stand
  form_carried (IsBinary {operands = Byte} {operator = operator} one two) types address unknown kept stand =
      bytes_differ (operands_are_addresses operator Byte address)
  form_carried {number = number} (IsFunction {function = function} {operand = inner} {tree = tree} is) types
      address unknown kept stand =
      λ top need base s r memory less room height going.
      function_carried function number address is types
      (inside_keeps number inner (forms.Function function inner) is kept
      (function_form function inner tree (address_takes_low function address) is)) stand
      top need base s r memory less room height going
  form_carried (IsShift {scalar = Address} {function = function} moved by) types address unknown kept stand =
      shift_carried function (operand_of moved (types.1).0) (operand_of by (types.2).0)
      (IsShift moved by) types kept stand
  form_carried (IsShift {scalar = Byte} moved by) types address unknown kept stand = bytes_differ address
  form_carried IsInput types address unknown kept stand = bytes_differ address

  -- the traits of the node of an expression that is not known
  node_unknown :
      {number : ExpressionNumber} {tree : TypedExpression} (facts : Facts) (node : NodeOf context number tree)
      → known (knowing context.site facts) number ≡ None
      → known_of (nodes_in context) (type_of tree) node.found.form ≡ None
  unfolding known traits_of
  node_unknown {number = number} {tree = tree} facts node none =
      sym (ap (λ (traits : Traits). traits.known) node.traits)
      ∙ sym (ap (λ (found : Option Expression). elim found [
        | Some expression ↦ expression.traits.known
        | None ↦ None
      ]) (node.at_site facts)) ∙ none

  node_keeps :
      {number : ExpressionNumber} {tree : TypedExpression} (scalar : ScalarType)
      (node : NodeOf context number tree)
      → type_of tree ≡ scalar
      → known_of (nodes_in context) (type_of tree) node.found.form ≡ None
      → keeps context.site number ≡ keeps_of_form (nodes_in context) scalar node.found.form
  unfolding traits_of
  node_keeps {number = number} {tree = tree} scalar node same none =
      keeps_at_site context number
      ∙ ap (λ (found : Option Expression). (option_map_or (λ (expression : Expression). expression.traits)
      found no_traits).keeps) node.is_there
      ∙ ap (λ (traits : Traits). traits.keeps) node.traits
      ∙ ap (λ (found : Option Place). keeps_of (nodes_in context) (type_of tree) found node.found.form) none
      ∙ ap (λ (of : ScalarType). keeps_of_form (nodes_in context) of node.found.form) same

  -- the code of a BYTE that is not in memory keeps nothing
  byte_keeps :
      {bound : ℕ} {form : ExpressionForm} {tree : TypedExpression}
      → IsForm (nodes_in context) context.storage bound form tree
      → type_of tree ≡ Byte
      → memory_of_form (nodes_in context) form ≡ None
      → keeps_of_form (nodes_in context) Byte form ≡ keeps_none
  byte_keeps (IsValue reference) byte none = never_there none
  byte_keeps (IsLocation reference) byte none = absurd_type byte
  byte_keeps (IsConversion inner) byte none =
      ap (λ (found : Option Reference). option_map_or (keeps_of_address (nodes_in context)) found keeps_none)
      none
  byte_keeps (IsFunction operand) byte none =
      ap (λ (found : Option Reference). option_map_or (keeps_of_address (nodes_in context)) found keeps_none)
      none
  byte_keeps IsNumber byte none = refl
  byte_keeps IsConstantList byte none = refl
  byte_keeps (IsEmbedded target inner) byte none = refl
  byte_keeps (IsUnary operand) byte none = refl
  byte_keeps (IsBinary one two) byte none = refl
  byte_keeps (IsCallOf given) byte none = refl
  byte_keeps (IsShift one two) byte none = refl
  byte_keeps IsInput byte none = refl

  nothing_kept :
      {bound : ℕ} {number : ExpressionNumber} {tree : TypedExpression} (facts : Facts)
      → IsExpression (nodes_in context) context.storage bound number.index tree
      → type_of tree ≡ Byte
      → known (knowing context.site facts) number ≡ None
      → memory_of (knowing context.site facts) number ≡ None
      → keeps context.site number ≡ keeps_none
  nothing_kept {number = number} {tree = tree} facts is byte unknown none =
      let node : NodeOf context number tree = node_of sound is in
      node_keeps Byte node byte (node_unknown facts node unknown)
      ∙ byte_keeps node.form byte (sym (memory_same context sound facts node) ∙ none)

  -- the code of an expression into HL
  pub word_does :
      (facts last : Facts) (number : ExpressionNumber) (pushed from to : ℕ)
      → StepsStand context (PartDoes context) facts from
      (word_steps (knowing context.site facts) number pushed) last to
      → WordDoes context facts number pushed from last to
  unfolding word_steps computed_word_steps extended_byte_steps
  word_does facts last number pushed from to stand bound tree is types top base s r memory less room ready
      known_before nothing =
      by_known (known (knowing context.site facts) number) refl stand
    where
      by_memory : (found : Option Reference) → memory_of (knowing context.site facts) number ≡ found
          → known (knowing context.site facts) number ≡ None
          → type_of tree ≡ Byte
          → StepsStand context (PartDoes context) facts from (elim found [
            | Some reference ↦ extended_byte_in_memory_steps (knowing context.site facts) reference pushed
            | None ↦ part_of (tasks.Byte number) pushed ∷ extension_steps
          ]) last to
          → Does (loaded_of context.activation) s.budget 0 (at_place from r memory s.events)
          (value context.later context.activation.around tree s)
          (Arrives context.activation top base to (WordIsGiven context last number Byte r memory))
      by_memory (Some reference) here none byte given =
          let node : NodeOf context number tree = node_of sound is in
          extended_carried node.found.form sound is node.form types byte here
          (sym (memory_same context sound facts node) ∙ here)
          (node_keeps Byte node byte (node_unknown facts node none)) given
          top (2 * height_of tree) base s r memory less room (omega arith)
          (record { ready = ready; known = known_before })
      by_memory None here none byte given =
          without_rest context (value context.later context.activation.around tree s)
          (extended_does number from s r memory sound (operand_of is types) byte
          (nothing_kept facts is byte none here)
          less room (omega arith) given (record { ready = ready; known = known_before }))

      by_type : (node : NodeOf context number tree) (scalar : ScalarType) → type_of tree ≡ scalar
          → known (knowing context.site facts) number ≡ None
          → StepsStand context (PartDoes context) facts from (elim scalar [
            | Byte ↦ extended_byte_steps (knowing context.site facts) number pushed
            | Address ↦ word_form_steps (knowing context.site facts) node.found.form pushed
          ]) last to
          → Does (loaded_of context.activation) s.budget 0 (at_place from r memory s.events)
          (value context.later context.activation.around tree s)
          (Arrives context.activation top base to (WordIsGiven context last number scalar r memory))
      by_type node Byte byte none given =
          by_memory (memory_of (knowing context.site facts) number) refl none byte given
      by_type node Address address none given =
          let unknown = node_unknown facts node none in
          form_carried node.form types address unknown (node_keeps Address node address unknown) given top
          (2 * height_of tree) base s r memory
          less room (omega arith) (record { ready = ready; known = known_before })

      by_known : (found : Option Place) → known (knowing context.site facts) number ≡ found
          → StepsStand context (PartDoes context) facts from (elim found [
            | Some place ↦ location_address_steps (knowing context.site facts) (Static place) pushed
            | None ↦ elim (expression (knowing context.site facts) number) [
              | Some node ↦ computed_word_steps (knowing context.site facts) number node pushed
              | None ↦ []
            ]
          ]) last to
          → Does (loaded_of context.activation) s.budget 0 (at_place from r memory s.events)
          (value context.later context.activation.around tree s)
          (Arrives context.activation top base to (WordIsGiven context last number (type_of tree) r memory))
      by_known (Some place) here given =
          let small = known_small facts place sound is types here in
          let word_value : ℕ = place_at context.activation.layout place in
          subst (λ outcome. Does (loaded_of context.activation) s.budget 0
          (at_place from r memory s.events) outcome
          (Arrives context.activation top base to (WordIsGiven context last number (type_of tree) r memory)))
          (sym (known_means facts place sound is types here s))
          (location_address_goes facts (Static place) r sound room
          (word_fits word_value (type_of tree) small) known_before given
          (record { ready = ready; known = known_before })
          (λ now beside going_on.
          let bytes = going_on.ready.registers in
          let has = has_word word_value now.h now.l bytes.h bytes.l beside.hl in
          word_given s small (record { h = has.0; l = has.1 })
          (record { a = λ _. beside.a; d = λ _. beside.d; e = λ _. beside.e }) going_on))
      by_known None here given =
          let node : NodeOf context number tree = node_of sound is in
          by_type node (type_of tree) refl here
          (subst (λ (scalar : ScalarType). StepsStand context (PartDoes context) facts from (elim scalar [
            | Byte ↦ extended_byte_steps (knowing context.site facts) number pushed
            | Address ↦ word_form_steps (knowing context.site facts) node.found.form pushed
          ]) last to) node.scalar
          (subst (λ (found : Option Expression). StepsStand context (PartDoes context)
          facts from (elim found [
            | Some expression ↦ computed_word_steps (knowing context.site facts) number expression pushed
            | None ↦ []
          ]) last to) (node.at_site facts) given))
