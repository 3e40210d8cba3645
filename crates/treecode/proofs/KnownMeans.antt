-- The meaning of an expression with a known value: that value, without a change of the state.
use Rattle.treecode.proofs.Prelude.{◌≡◌, ℕ, ◌+◌, ◌-◌, ◌%◌, ◌<◌, ◌&&◌, List, Option, Some, None, option_map, refl, sym, ap, ◌∙◌, arith, length, option_and_then, mul-mod_second, ScalarType, Byte, Address, BinaryOperator, UnaryOperator, ShiftFunction, UnaryFunction, type_of, type_of_function, type_of_result, TypedExpression, NumberNode, ValueNode, LocationNode, ListNode, ConversionNode, AssignmentNode, UnaryNode, BinaryNode, CallNode, FunctionNode, ShiftNode, InputNode, TypedReference, PartOf, Subscript, NoSubscript, At, Storage, Surroundings, home_of, Displacement, Later, address_in_memory, based_place, computed, displaced, displacement, located, no_displacement, value, State, Outcome, Gave, then_do, as_type, function_of, result_of, result_of_one, shifted, Home, Place, Number, Code, Data, External, place_after, converted_address, converted_place, function_of_place, known_distance, known_number, known_place, known_subscript, known_value, place_of_part, result_of_known, shift_of_known, home_at, mul_comm, sum_turned}
use Rattle.trees.specs.declared.expression.BinaryOperator.TheVariants as operators
use Rattle.treecode.specs.declared.place.Home.TheVariants as homes
use Rattle.meaning.proofs.FunctionResults.{operand_given}
use Rattle.treecode.specs.internal.Resolved.{Resolves, HaveOperands, SubscriptHasOperands, PartHasOperands}

-- a relocatable address is an ADDRESS
abbrev IsAddress : Place → ScalarType → Type 0
IsAddress (Number number) scalar = Unit {0}
IsAddress place scalar = scalar ≡ Address

module _ (around : Surroundings) (starts : List Home) (storage : Storage) (address : Place → ℕ)
    (resolves : Resolves around starts storage address) where
  -- if a value is known, the evaluation gives that value and keeps the state
  abbrev Tells : Option Place → ScalarType → (State → Outcome ℕ) → Type 0
  Tells None scalar outcome = Unit {0}
  Tells (Some place) scalar outcome =
      ((s : State) → outcome s ≡ Gave (address place) s) × IsAddress place scalar

  abbrev TellsBytes : Option ℕ → (State → Outcome Displacement) → Type 0
  TellsBytes None outcome = Unit {0}
  TellsBytes (Some bytes) outcome =
      (found : Displacement) × (found.bytes % 65536 ≡ bytes) × ((s : State) → outcome s ≡ Gave found s)

  gives : {one : Outcome ℕ} {found : ℕ} (go : ℕ → State → Outcome ℕ) (s : State)
      → one ≡ Gave found s → then_do one go ≡ go found s
  gives go s e = ap (λ (given : Outcome ℕ). then_do given go) e

  give : {one other : ℕ} (s : State) → one ≡ other → Gave one s ≡ Gave other s
  give s e = ap (λ (number : ℕ). Gave number s) e

  stays : (place : Place) (outcome : State → Outcome ℕ) → address place < 65536
      → ((s : State) → outcome s ≡ Gave (address place) s)
      → (s : State) → then_do (outcome s) (λ number t. Gave (as_type Address number) t)
      ≡ Gave (address place) s
  stays place outcome below told s = gives _ s (told s) ∙ give s (omega arith)

  tells_conversion : (scalar of : ScalarType) (known : Option Place) (outcome : State → Outcome ℕ)
      → Tells known of outcome
      → Tells (option_and_then (converted_place scalar) known) scalar
      (λ s. then_do (outcome s) (λ number t. Gave (as_type scalar number) t))
  tells_conversion scalar of None outcome told = tt
  tells_conversion scalar of (Some (Number n)) outcome told = (
    (λ (s : State). gives _ s (told.0 s)
        ∙ give s (ap (λ m. as_type scalar m) (resolves.number n)
        ∙ sym (resolves.number (as_type scalar n)))),
    tt,
  )
  tells_conversion Byte of (Some (Code o)) outcome told = tt
  tells_conversion Byte of (Some (Data o)) outcome told = tt
  tells_conversion Byte of (Some (External o n)) outcome told = tt
  tells_conversion Address of (Some (Code o)) outcome told =
      (stays (Code o) outcome (resolves.below (Code o) refl) told.0, refl)
  tells_conversion Address of (Some (Data o)) outcome told =
      (stays (Data o) outcome (resolves.below (Data o) refl) told.0, refl)
  tells_conversion Address of (Some (External o n)) outcome told =
      (stays (External o n) outcome (resolves.below (External o n) refl) told.0, refl)

  tells_address : (function : UnaryFunction) (scalar : ScalarType) → type_of_function function ≡ scalar
      → (place : Place) (outcome : State → Outcome ℕ) → IsAddress place Address
      → ((s : State) → outcome s ≡ Gave (address place) s)
      → Tells (converted_address scalar place) scalar
      (λ s. then_do (outcome s) (λ number t. Gave (function_of function number) t))
  tells_address function Byte is place outcome kind told = tt
  tells_address function Address is place outcome kind told =
      ((λ (s : State). gives _ s (told s) ∙ give s (operand_given function is (address place))), kind)

  tells_function : (function : UnaryFunction) (of : ScalarType) (known : Option Place) (outcome : State
      → Outcome ℕ)
      → Tells known of outcome
      → Tells (option_and_then (function_of_place function) known) (type_of_function function)
      (λ s. then_do (outcome s) (λ number t. Gave (function_of function number) t))
  tells_function function of None outcome told = tt
  tells_function function of (Some (Number n)) outcome told = (
    (λ (s : State). gives _ s (told.0 s)
        ∙ give s (ap (λ m. function_of function m) (resolves.number n)
        ∙ sym (resolves.number (function_of function n)))),
    tt,
  )
  tells_function function of (Some (Code o)) outcome told =
      tells_address function (type_of_function function) refl (Code o) outcome refl told.0
  tells_function function of (Some (Data o)) outcome told =
      tells_address function (type_of_function function) refl (Data o) outcome refl told.0
  tells_function function of (Some (External o n)) outcome told =
      tells_address function (type_of_function function) refl (External o n) outcome refl told.0

  tells_unary : (scalar of : ScalarType) (operator : UnaryOperator) (known : Option Place) (outcome : State
      → Outcome ℕ)
      → Tells known of outcome
      → Tells (option_map (λ number. Number (result_of_one scalar operator number))
      (known_number known)) scalar
      (λ s. then_do (outcome s) (λ number t. Gave (result_of_one scalar operator number) t))
  tells_unary scalar of operator None outcome told = tt
  tells_unary scalar of operator (Some (Number n)) outcome told = (
    (λ (s : State). gives _ s (told.0 s)
        ∙ give s
        (ap (λ m. result_of_one scalar operator m) (resolves.number n)
        ∙ sym (resolves.number (result_of_one scalar operator n)))),
    tt,
  )
  tells_unary scalar of operator (Some (Code o)) outcome told = tt
  tells_unary scalar of operator (Some (Data o)) outcome told = tt
  tells_unary scalar of operator (Some (External o n)) outcome told = tt

  -- one after another
  twice : (place other : Place) (first second : State → Outcome ℕ) (go : ℕ → ℕ → State → Outcome ℕ)
      → ((s : State) → first s ≡ Gave (address place) s) → ((s : State) → second s ≡ Gave (address other) s)
      → (s : State)
      → then_do (first s) (λ one t. then_do (second t) (λ two u. go one two u))
      ≡ go (address place) (address other) s
  twice place other first second go one two s =
      gives (λ found t. then_do (second t) (λ by u. go found by u)) s (one s)
      ∙ gives (λ by u. go (address place) by u) s (two s)

  tells_shift : (scalar of by : ScalarType) (function : ShiftFunction) (known count : Option Place)
      (first second : State → Outcome ℕ)
      → Tells known of first → Tells count by second
      → Tells (shift_of_known (shifted scalar function) (known_number known) (known_number count)) scalar
      (λ s. then_do (first s) (λ one t. then_do (second t) (λ two u. Gave
      (shifted scalar function one two) u)))
  tells_shift scalar of by function None count first second told counted = tt
  tells_shift scalar of by function (Some (Code o)) count first second told counted = tt
  tells_shift scalar of by function (Some (Data o)) count first second told counted = tt
  tells_shift scalar of by function (Some (External o n)) count first second told counted = tt
  tells_shift scalar of by function (Some (Number n)) None first second told counted = tt
  tells_shift scalar of by function (Some (Number n)) (Some (Code o)) first second told counted = tt
  tells_shift scalar of by function (Some (Number n)) (Some (Data o)) first second told counted = tt
  tells_shift scalar of by function (Some (Number n)) (Some (External o m)) first second told counted = tt
  tells_shift scalar of by function (Some (Number n)) (Some (Number m)) first second told counted = (
    (λ (s : State).
        twice (Number n) (Number m) first second (λ one two u. Gave
        (shifted scalar function one two) u) told.0 counted.0 s
        ∙ give s
        (ap (λ k. shifted scalar function k (address (Number m))) (resolves.number n)
        ∙ ap (λ k. shifted scalar function n k) (resolves.number m)
        ∙ sym (resolves.number (shifted scalar function n m)))),
    tt,
  )

  -- the result of an operator on two values
  result : (operands : ScalarType) (operator : BinaryOperator) (place other : Place) (first second : State
      → Outcome ℕ)
      (found : ℕ)
      → ((s : State) → first s ≡ Gave (address place) s) → ((s : State) → second s ≡ Gave (address other) s)
      → result_of operands operator (address place) (address other) ≡ Some found
      → (s : State)
      → then_do (first s)
      (λ one t. then_do (second t) (λ two u. computed (result_of operands operator one two) u))
      ≡ Gave found s
  result operands operator place other first second found one two is_found s =
      twice place other first second (λ left right u. computed
      (result_of operands operator left right) u) one two s
      ∙ ap (λ (given : Option ℕ). computed given s) is_found

  tells_numbers : (operands : ScalarType) (operator : BinaryOperator) (n m : ℕ) (first second : State
      → Outcome ℕ)
      (given : Option ℕ)
      → ((s : State) → first s ≡ Gave (address (Number n)) s) → ((s : State) → second s
      ≡ Gave (address (Number m)) s)
      → result_of operands operator n m ≡ given
      → Tells (option_map Number given) (type_of_result operator operands)
      (λ s. then_do (first s)
      (λ one t. then_do (second t) (λ two u. computed (result_of operands operator one two) u)))
  tells_numbers operands operator n m first second None one two is_given = tt
  tells_numbers operands operator n m first second (Some found) one two is_given = (
    (λ (s : State).
        result operands operator (Number n) (Number m) first second found one two
        (ap (λ k. result_of operands operator k (address (Number m))) (resolves.number n)
        ∙ ap (λ k. result_of operands operator n k) (resolves.number m) ∙ is_given) s
        ∙ give s (sym (resolves.number found))),
    tt,
  )

  sum_after : (operands : ScalarType) (place : Place) (d : ℕ) → operands ≡ Address
      → result_of operands operators.Add (address place) (address (Number d))
      ≡ Some (address (place_after place d))
  sum_after operands place d is_address =
      ap (λ of. result_of of operators.Add (address place) (address (Number d))) is_address
      ∙ ap (λ k. Some ((address place + k) % 65536)) (resolves.number d)
      ∙ ap Some (sym (resolves.after place d))

  sum_before : (operands : ScalarType) (place : Place) (d : ℕ) → operands ≡ Address
      → result_of operands operators.Add (address (Number d)) (address place)
      ≡ Some (address (place_after place d))
  sum_before operands place d is_address =
      ap (λ of. result_of of operators.Add (address (Number d)) (address place)) is_address
      ∙ ap (λ k. Some ((k + address place) % 65536)) (resolves.number d)
      ∙ ap Some (sum_turned (address place) d ∙ sym (resolves.after place d))

  difference_after : (operands : ScalarType) (place : Place) (d : ℕ) → operands ≡ Address
      → result_of operands operators.Subtract (address place) (address (Number d))
      ≡ Some (address (place_after place ((65536 - d) % 65536)))
  difference_after operands place d is_address =
      ap (λ of. result_of of operators.Subtract (address place) (address (Number d))) is_address
      ∙ ap (λ k. Some ((address place + (65536 - k)) % 65536)) (resolves.number d)
      ∙ ap Some (reduced (address place) (65536 - d) ∙ sym (resolves.after place ((65536 - d) % 65536)))
    where
      reduced : (a b : ℕ) → (a + b) % 65536 ≡ (a + b % 65536) % 65536
      reduced a b = omega arith

  tells_known : (operands of by : ScalarType) (operator : BinaryOperator) (left right : Option Place)
      (first second : State → Outcome ℕ)
      → of ≡ operands → by ≡ operands
      → Tells left of first → Tells right by second
      → Tells (result_of_known operands operator left right) (type_of_result operator operands)
      (λ s. then_do (first s)
      (λ one t. then_do (second t) (λ two u. computed (result_of operands operator one two) u)))
  tells_known operands of by operator None right first second e f one two = tt
  tells_known operands of by operator (Some (Number n)) None first second e f one two = tt
  tells_known operands of by operator (Some (Code n)) None first second e f one two = tt
  tells_known operands of by operator (Some (Data n)) None first second e f one two = tt
  tells_known operands of by operator (Some (External n x)) None first second e f one two = tt
  tells_known operands of by operator (Some (Number n)) (Some (Number m)) first second e f one two =
      tells_numbers operands operator n m first second (result_of operands operator n m) one.0 two.0 refl
  tells_known operands of by operators.Add (Some (Code n)) (Some (Number m)) first second e f one two = (
    (λ (s : State). result operands operators.Add (Code n) (Number m) first second _ one.0 two.0
        (sum_after operands (Code n) m (sym e ∙ one.1)) s),
    sym e ∙ one.1,
  )
  tells_known operands of by operators.Add (Some (Data n)) (Some (Number m)) first second e f one two = (
    (λ (s : State). result operands operators.Add (Data n) (Number m) first second _ one.0 two.0
        (sum_after operands (Data n) m (sym e ∙ one.1)) s),
    sym e ∙ one.1,
  )
  tells_known operands of by operators.Add (Some (External n x)) (Some (Number m)) first second e f one two = (
    (λ (s : State). result operands operators.Add (External n x) (Number m) first second _ one.0 two.0
        (sum_after operands (External n x) m (sym e ∙ one.1)) s),
    sym e ∙ one.1,
  )
  tells_known operands of by operators.Add (Some (Number m)) (Some (Code n)) first second e f one two = (
    (λ (s : State). result operands operators.Add (Number m) (Code n) first second _ one.0 two.0
        (sum_before operands (Code n) m (sym f ∙ two.1)) s),
    sym f ∙ two.1,
  )
  tells_known operands of by operators.Add (Some (Number m)) (Some (Data n)) first second e f one two = (
    (λ (s : State). result operands operators.Add (Number m) (Data n) first second _ one.0 two.0
        (sum_before operands (Data n) m (sym f ∙ two.1)) s),
    sym f ∙ two.1,
  )
  tells_known operands of by operators.Add (Some (Number m)) (Some (External n x)) first second e f one two = (
    (λ (s : State). result operands operators.Add (Number m) (External n x) first second _ one.0 two.0
        (sum_before operands (External n x) m (sym f ∙ two.1)) s),
    sym f ∙ two.1,
  )
  tells_known operands of by operators.Subtract (Some (Code n)) (Some (Number m)) first second e f one two = (
    (λ (s : State). result operands operators.Subtract (Code n) (Number m) first second _ one.0 two.0
        (difference_after operands (Code n) m (sym e ∙ one.1)) s),
    sym e ∙ one.1,
  )
  tells_known operands of by operators.Subtract (Some (Data n)) (Some (Number m)) first second e f one two = (
    (λ (s : State). result operands operators.Subtract (Data n) (Number m) first second _ one.0 two.0
        (difference_after operands (Data n) m (sym e ∙ one.1)) s),
    sym e ∙ one.1,
  )
  tells_known operands of by operators.Subtract (Some (External n x)) (Some
      (Number m)) first second e f one two = (
        (λ (s : State). result operands operators.Subtract (External n x)
            (Number m) first second _ one.0 two.0 (difference_after operands (External n x) m (sym e
            ∙ one.1)) s),
        sym e ∙ one.1,
      )
  tells_known operands of by operator (Some left) (Some right) first second e f one two = tt

  tells_index : (stride : ℕ) (of : ScalarType) (known : Option Place) (outcome : State
      → Outcome ℕ) (count : ℕ)
      → Tells known of outcome
      → TellsBytes (known_distance (stride % 65536) (known_number known))
      (λ s. then_do (outcome s) (λ number t. Gave (displaced stride count number) t))
  tells_index stride of None outcome count told = tt
  tells_index stride of (Some (Code o)) outcome count told = tt
  tells_index stride of (Some (Data o)) outcome count told = tt
  tells_index stride of (Some (External o n)) outcome count told = tt
  tells_index stride of (Some (Number n)) outcome count told = (
    displaced stride count n,
    ap (λ k. k % 65536) (mul_comm stride n)
        ∙ sym (mul-mod_second n stride 65536),
    (λ (s : State). ap (λ (given : Outcome ℕ). then_do given (λ number t. Gave
        (displaced stride count number) t)) (told.0 s)
        ∙ ap (λ (number : ℕ). Gave (displaced stride count number) s) (resolves.number n)),
  )

  tells_location : (later : Later) (object offset : ℕ) (home : Home) (subscript member_subscript : Subscript)
      (first second : Option ℕ) → home_at starts object ≡ home
      → TellsBytes first (λ s. displacement later around subscript s)
      → TellsBytes second (λ s. displacement later around member_subscript s)
      → (member : Option ℕ)
      → Tells (place_of_part home (offset % 65536) first second) Address
      (λ s. then_do (located later around (PartOf object subscript member offset member_subscript) s)
      (λ place t. Gave (address_in_memory place) t))
  tells_location later object offset (homes.Based base) index other_index first second e one two member = tt
  tells_location later object offset (homes.Frame variable) index other_index first second e one two member =
      tt
  tells_location later object offset (homes.Static place) index other_index None second e one two member = tt
  tells_location later object offset (homes.Static place) index other_index (Some n) None e one two member =
      tt
  tells_location later object offset (homes.Static place) index other_index (Some n)
      (Some m) e one two member = (
        (λ (s : State).
            ap
            (λ (given : Outcome Displacement).
            then_do
            (then_do given
            (λ found t.
            then_do (displacement later around other_index t)
            (λ other u.
            based_place (home_of around object) around object (found.bytes + offset + other.bytes)
            (found.is_inside && other.is_inside) u)))
            (λ place t. Gave (address_in_memory place) t)) (one.2 s)
            ∙ ap
            (λ (given : Outcome Displacement).
            then_do
            (then_do given
            (λ other u.
            based_place (home_of around object) around object ((one.0).bytes + offset + other.bytes)
            ((one.0).is_inside && other.is_inside) u))
            (λ place t. Gave (address_in_memory place) t)) (two.2 s)
            ∙ ap (λ given. then_do given (λ place t. Gave (address_in_memory place) t))
            (resolves.object object place ((one.0).bytes + offset + (two.0).bytes)
            ((one.0).is_inside && (two.0).is_inside) s e)
            ∙ give s
            (summed (address place) offset (one.0).bytes (two.0).bytes n m one.1 two.1
            ∙ sym
            (resolves.after (place_after (place_after place (offset % 65536)) n) m
            ∙ ap (λ k. (k + m) % 65536)
            (resolves.after (place_after place (offset % 65536)) n
            ∙ ap (λ k. (k + n) % 65536) (resolves.after place (offset % 65536)))))),
        is_address place,
      )
    where
      summed : (a offset one two n m : ℕ) → one % 65536 ≡ n → two % 65536 ≡ m
          → (a + (one + offset + two)) % 65536 ≡ (((a + offset % 65536) % 65536 + n) % 65536 + m) % 65536
      summed a offset one two n m e f = omega arith

      is_address : (of : Place) → IsAddress (place_after (place_after (place_after of
          (offset % 65536)) n) m) Address
      is_address (Number x) = tt
      is_address (Code x) = refl
      is_address (Data x) = refl
      is_address (External x y) = refl

  module _ (later : Later) where
    mutual
      -- an expression with a known value gives it, and keeps the state
      pub known_value_tells : (tree : TypedExpression) → HaveOperands (length storage.lists) tree
          → Tells (known_value starts storage tree) (type_of tree) (λ s. value later around tree s)
      known_value_tells (NumberNode scalar number origin) fit =
          ((λ (s : State). give s (sym (resolves.number number))), tt)
      known_value_tells (ValueNode scalar reference) fit = tt
      known_value_tells (LocationNode reference) fit = tells_part reference fit
      known_value_tells (ListNode list) fit = ((λ (s : State). give s (resolves.list list fit)), refl)
      known_value_tells (ConversionNode scalar inner) fit =
          tells_conversion scalar _ (known_value starts storage inner) (λ s. value later around inner s)
          (known_value_tells inner fit)
      known_value_tells (AssignmentNode target inner) fit = tt
      known_value_tells (UnaryNode scalar operator operand) fit =
          tells_unary scalar _ operator (known_value starts storage operand)
          (λ s. value later around operand s)
          (known_value_tells operand fit)
      known_value_tells (BinaryNode operands operator left right) fit =
          tells_known operands _ _ operator (known_value starts storage left)
          (known_value starts storage right)
          (λ s. value later around left s) (λ s. value later around right s) fit.0 fit.1
          (known_value_tells left fit.2)
          (known_value_tells right fit.3)
      known_value_tells (CallNode procedure scalar given) fit = tt
      known_value_tells (FunctionNode function operand) fit =
          tells_function function _ (known_value starts storage operand) (λ s. value later around operand s)
          (known_value_tells operand fit)
      known_value_tells (ShiftNode scalar function moved count) fit =
          tells_shift scalar _ _ function (known_value starts storage moved)
          (known_value starts storage count)
          (λ s. value later around moved s) (λ s. value later around count s) (known_value_tells moved fit.0)
          (known_value_tells count fit.1)
      known_value_tells (InputNode port) fit = tt

      tells_part : (reference : TypedReference) → PartHasOperands (length storage.lists) reference
          → Tells (known_place starts storage reference) Address
          (λ s. then_do (located later around reference s) (λ place t. Gave (address_in_memory place) t))
      tells_part (PartOf object subscript member offset member_subscript) fit =
          tells_location later object offset (home_at starts object) subscript member_subscript
          (known_subscript starts storage subscript) (known_subscript starts storage member_subscript) refl
          (tells_subscript subscript fit.0) (tells_subscript member_subscript fit.1) member

      tells_subscript : (subscript : Subscript) → SubscriptHasOperands (length storage.lists) subscript
          → TellsBytes (known_subscript starts storage subscript) (λ s. displacement later around subscript s)
      tells_subscript NoSubscript fit = (no_displacement, refl, (λ (s : State). refl))
      tells_subscript (At stride count index) fit =
          tells_index stride _ (known_value starts storage index) (λ s. value later around index s) count
          (known_value_tells index fit)
