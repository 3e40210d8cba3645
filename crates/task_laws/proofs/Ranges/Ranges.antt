-- Values of expressions are of their types, provided that calls give such values.
use Rattle.task_laws.proofs.Prelude.{◌≡◌, ℕ, ◌+◌, ◌-◌, ◌/◌, ◌%◌, ◌^◌, ◌<◌, ◌≤◌, ◌==◌, nat_lt, Bool, true, false, ◌||◌, bit_and, List, [], All, Option, Some, None, if◌then◌else◌, refl, sym, ap, ◌∙◌, subst, arith, All-from_get_or, and_le_l, and_le_r, false≢true, ltb-true, leb-true, eqb-false, byte_at, byte_small, ScalarType, Byte, Address, BinaryOperator, Greater, GreaterOrEqual, Less, LessOrEqual, Modulo, Unequal, ShiftFunction, ShiftRight, type_of, type_of_result, TypedExpression, BinaryNode, ShiftNode, TypesHold, frame_bytes, called_for, callee_in, computed, value, Outcome, Gave, then_do, as_type, result_of, shifted, values_of, Expression, ExpressionForm, IsBinary, IsCallOf, IsConstantList, IsConversion, IsEmbedded, IsExpression, IsForm, IsFunction, IsInput, IsLocation, IsNumber, IsShift, IsUnary, IsValue, IsReady, Registers, by_eight, ExpressionNumber, Facts, number_of, expression, scalar_at, fits_byte, fits_byte_by, shift_by_fits_byte, form_fits_byte, is_byte, is_number_below, result_fits_byte, shift_fits_byte, knowing, Context, IsSound, SourceFits, nodes_in, function_of}
use Rattle.meaning.proofs.FunctionResults.{operand_given}
use Rattle.trees.specs.declared.expression.BinaryOperator.TheVariants.{And, Equal}
use Rattle.meaning.specs.Outcomes.{State}
use Rattle.task_laws.proofs.Machine.Nodes.{NodeOf, node_of}
use Rattle.task_laws.proofs.Machine.KnownOperands.{quotient_less}
use Rattle.task_laws.proofs.Ranges.NumbersOfTrees.{in_node}
use Rattle.task_laws.proofs.Ranges.RangesOfBytes.{Gives, IsGiven, IsStopped, given_by, gives_from, gives_then, of_type}
use Rattle.task_laws.proofs.Ranges.RangesOfTrees.{CallsGive, tree_fits}
use Rattle.task_laws.proofs.Machine.SiteNodes.{number_means}

module _ (context : Context) (sound : IsSound context) where
  abbrev Fits : State → Type 0
  Fits s = SourceFits context.activation.around s

  calls_give : CallsGive context.later context.typed context.activation.around
  calls_give procedure heading arguments s there types source =
      gives_from
      (called_for context.later (callee_in context.activation.around procedure) arguments
      context.activation.around s)
      (λ found t same. sound.calls_fit procedure found heading arguments s t there types source same)

  fits_node : {bound index : ℕ} {tree : TypedExpression} (s : State)
      → IsExpression (nodes_in context) context.storage bound index tree
      → TypesHold context.typed context.within tree
      → Fits s
      → Gives (λ n t. (n < values_of (type_of tree)) × Fits t)
      (value context.later context.activation.around tree s)
  fits_node {tree = tree} s is types source =
      tree_fits context.later context.typed context.within context.activation.around sound.script
      calls_give tree s types
      (in_node (nodes_in context) context.storage sound.numbers is) source

-- where code may go on, the source's bytes are bytes
pub ready_fits :
    (context : Context) {top : ℕ} {base memory : List ℕ} {r : Registers} (s : State)
    → IsReady context.activation top base s.memory s.frame r memory
    → SourceFits context.activation.around s
ready_fits context {memory = memory} s ready = record {
  memory = λ address declared.
      let same = ready.shares.declared address declared in
      let small : byte_at memory address < 256 = byte_small memory address ready.shares.is_memory in
      omega (arith, same, small);
  frame =
      All-from_get_or (λ (bytes : List ℕ). All (λ byte. byte < 256) bytes) s.frame []
      (λ object inside.
      All-from_get_or (λ (byte : ℕ). byte < 256) (frame_bytes s.frame object) 0
      (λ offset within.
      let less : offset < context.activation.size object
      = subst (λ (size : ℕ). offset < size) (ready.frame_lies.sizes object) within in
      let same = ready.frame_lies.bytes object offset less in
      let place : ℕ = context.activation.level + context.activation.distance object + offset in
      let small : byte_at memory place < 256 = byte_small memory place ready.shares.is_memory in
      omega (arith, same, small)));
}

-- the value of an expression is one of its type
pub value_fits :
    {context : Context} {bound index n : ℕ} {tree : TypedExpression} {t : State} (s : State)
    → IsSound context
    → IsExpression (nodes_in context) context.storage bound index tree
    → TypesHold context.typed context.within tree
    → SourceFits context.activation.around s
    → value context.later context.activation.around tree s ≡ Gave n t
    → n < values_of (type_of tree)
value_fits {context = context} {n = n} {tree = tree} {t = t} s sound is types source same =
    (given_by (value context.later context.activation.around tree s) n t same
    (fits_node context sound s is types source)).0

-- and bytes stay bytes
pub bytes_fit_after :
    {context : Context} {bound index n : ℕ} {tree : TypedExpression} {t : State} (s : State)
    → IsSound context
    → IsExpression (nodes_in context) context.storage bound index tree
    → TypesHold context.typed context.within tree
    → SourceFits context.activation.around s
    → value context.later context.activation.around tree s ≡ Gave n t
    → SourceFits context.activation.around t
bytes_fit_after {context = context} {n = n} {tree = tree} {t = t} s sound is types source same =
    (given_by (value context.later context.activation.around tree s) n t same
    (fits_node context sound s is types source)).1

below_number : (found : Option ℕ) (bound : ℕ)
    → elim found [
      | Some number ↦ nat_lt number bound
      | None ↦ false
    ] ≡ true
    → (number : ℕ) × (found ≡ Some number) × (number < bound)
below_number (Some number) bound is = (number, refl, ltb-true number bound is)
below_number None bound is = absurd (false≢true is)

right_by_eight : (x count : ℕ) → x < 65536 → 8 ≤ count → x / 2 ^ count < 256
right_by_eight x count small most =
    let eight : count ≡ 8 + (count - 8) = omega (arith, most) in
    let same : x / 256 / 2 ^ (count - 8) ≡ x / 2 ^ count = by_eight x count (count - 8) eight in
    let less : x / 256 / 2 ^ (count - 8) ≤ x / 256 = quotient_less (x / 256) (2 ^ (count - 8)) in
    omega (arith, same, less, small)

pub operands_are_addresses : (operator : BinaryOperator) (operands : ScalarType)
    → type_of_result operator operands ≡ Address
    → operands ≡ Address
operands_are_addresses Equal operands same = let bad : Byte ≡ Address = same in cc
operands_are_addresses Less operands same = let bad : Byte ≡ Address = same in cc
operands_are_addresses Greater operands same = let bad : Byte ≡ Address = same in cc
operands_are_addresses LessOrEqual operands same = let bad : Byte ≡ Address = same in cc
operands_are_addresses GreaterOrEqual operands same = let bad : Byte ≡ Address = same in cc
operands_are_addresses Unequal operands same = let bad : Byte ≡ Address = same in cc
operands_are_addresses operator operands same = same

module _ (context : Context) (sound : IsSound context) (facts : Facts) where
  abbrev meant : TypedExpression → State → Outcome ℕ
  meant tree s = value context.later context.activation.around tree s

  -- a known number
  is_number : {bound : ℕ} {of : ExpressionNumber} {tree : TypedExpression} (number : ℕ) (s : State)
      → IsExpression (nodes_in context) context.storage bound of.index tree
      → TypesHold context.typed context.within tree
      → number_of (knowing context.site facts) of ≡ Some number
      → Gives (λ n t. n ≡ number) (meant tree s)
  is_number number s is types here =
      subst (λ (outcome : Outcome ℕ). Gives (λ n t. n ≡ number) outcome)
      (sym (number_means facts number sound is types here s))
      (IsGiven refl)

  any_value : {bound : ℕ} {of : ExpressionNumber} {tree : TypedExpression} (s : State)
      → IsExpression (nodes_in context) context.storage bound of.index tree
      → Gives (λ n t. Unit {0}) (meant tree s)
  any_value {tree = tree} s is = gives_from (meant tree s) (λ n t same. tt)

  scalar_is : {bound : ℕ} {of : ExpressionNumber} {tree : TypedExpression}
      → IsExpression (nodes_in context) context.storage bound of.index tree
      → is_byte (scalar_at (knowing context.site facts) of) ≡ true
      → type_of tree ≡ Byte
  unfolding scalar_at
  scalar_is {of = of} {tree = tree} is byte =
      let node : NodeOf context of tree = node_of sound is in
      by (type_of tree)
      (sym (ap (λ (found : Option Expression). is_byte (elim found [
        | Some expression ↦ expression.traits.scalar
        | None ↦ Byte
      ])) (node.at_site facts) ∙ ap is_byte node.scalar) ∙ byte)
    where
      by : (scalar : ScalarType) → is_byte scalar ≡ true → scalar ≡ Byte
      by Byte is = refl
      by Address is = absurd (false≢true is)

  lesser : (scalar : ScalarType) (n : ℕ) → n < 256 → as_type scalar n < 256
  lesser Byte n small = omega (arith, small)
  lesser Address n small = omega (arith, small)

  rest_below : (x y : ℕ) (s : State) → y < 257
      → Gives (λ n t. n < 256) (computed (if y == 0 then None else Some (x % y)) s)
  rest_below x y s small = by (y == 0) refl
    where
      by : (none : Bool) → (y == 0) ≡ none
          → Gives (λ n t. n < 256) (computed (if none then None else Some (x % y)) s)
      by true is = IsStopped
      by false is = IsGiven (let some = eqb-false y 0 is in omega (arith, small, some))

  -- AND with a number below 256, and a remainder by one below 257
  two_below :
      {bound : ℕ} {left right : ExpressionNumber} {first second : TypedExpression}
      (operator : BinaryOperator) (s : State)
      → IsExpression (nodes_in context) context.storage bound left.index first
      → IsExpression (nodes_in context) context.storage bound right.index second
      → TypesHold context.typed context.within first
      → TypesHold context.typed context.within second
      → result_fits_byte (knowing context.site facts) operator left right ≡ true
      → Gives (λ n t. n < 256) (meant (BinaryNode Address operator first second) s)
  unfolding result_fits_byte is_number_below
  two_below {left = left} {right = right} {first = first} {second = second} And s one two
      types_one types_two fits =
      by (is_number_below (knowing context.site facts) left 256) refl
    where
      by : (test : Bool) → is_number_below (knowing context.site facts) left 256 ≡ test
          → Gives (λ n t. n < 256) (meant (BinaryNode Address And first second) s)
      by true here =
          let known = below_number (number_of (knowing context.site facts) left) 256 here in
          gives_then (meant first s)
          (λ x t. then_do (meant second t) (λ y u. computed (result_of Address And x y) u))
          (is_number known.0 s one types_one known.1)
          (λ x t is.
          gives_then (meant second t) (λ y u. computed (result_of Address And x y) u) (any_value t two)
          (λ y u any. IsGiven (
          let less : bit_and x y ≤ x = and_le_l x y in
          let small = known.2 in omega (arith, less, small, is))))
      by false here =
          let known = below_number (number_of (knowing context.site facts) right) 256
          (sym (ap (λ (test : Bool). test || is_number_below (knowing context.site facts) right 256) here)
          ∙ fits) in
          gives_then (meant first s)
          (λ x t. then_do (meant second t) (λ y u. computed (result_of Address And x y) u))
          (any_value s one)
          (λ x t any.
          gives_then (meant second t) (λ y u. computed (result_of Address And x y) u)
          (is_number known.0 t two types_two known.1)
          (λ y u is. IsGiven (
          let less : bit_and x y ≤ y = and_le_r x y in
          let small = known.2 in omega (arith, less, small, is))))
  two_below {left = left} {right = right} {first = first} {second = second} Modulo s one two
      types_one types_two fits =
      let known = below_number (number_of (knowing context.site facts) right) 257 fits in
      gives_then (meant first s)
      (λ x t. then_do (meant second t) (λ y u. computed (result_of Address Modulo x y) u))
      (any_value s one)
      (λ x t any.
      gives_then (meant second t) (λ y u. computed (result_of Address Modulo x y) u)
      (is_number known.0 t two types_two known.1)
      (λ y u is. rest_below x y u (let small = known.2 in omega (arith, small, is))))
  two_below operator s one two types_one types_two fits = absurd (false≢true fits)

  number_eight : (function : ShiftFunction) (found : Option ℕ) → shift_by_fits_byte function found ≡ true
      → (count : ℕ) × (found ≡ Some count) × (8 ≤ count) × (function ≡ ShiftRight)
  number_eight ShiftRight (Some count) is = (count, refl, leb-true 8 count is, refl)
  number_eight function found is = absurd (false≢true is)

  shift_below :
      {bound : ℕ} {of count : ExpressionNumber} {moved by : TypedExpression}
      (function : ShiftFunction) (s : State)
      → IsExpression (nodes_in context) context.storage bound of.index moved
      → IsExpression (nodes_in context) context.storage bound count.index by
      → TypesHold context.typed context.within moved
      → type_of moved ≡ Address
      → TypesHold context.typed context.within by
      → shift_fits_byte (knowing context.site facts) function count ≡ true
      → Fits context sound s
      → Gives (λ n t. n < 256) (meant (ShiftNode Address function moved by) s)
  unfolding shift_fits_byte
  shift_below {of = of} {count = count} {moved = moved} {by = by} function s one two types_one is_address
      types_two fits source =
      let known = number_eight function (number_of (knowing context.site facts) count) fits in
      gives_then (meant moved s) (λ n t. then_do (meant by t) (λ k u. Gave (shifted Address function n k) u))
      (fits_node context sound s one types_one source)
      (λ n t first.
      gives_then (meant by t) (λ k u. Gave (shifted Address function n k) u)
      (is_number known.0 t two types_two known.1)
      (λ k u is. IsGiven (
      let most = known.2 in
      let small =
      right_by_eight n k (of_type (type_of moved) Address n is_address first.0)
      (omega (arith, most, is)) in
      subst (λ (f : ShiftFunction). shifted Address f n k < 256) (sym known.3) small)))

  form_below :
      {bound : ℕ} {form : ExpressionForm} {tree : TypedExpression} (s : State)
      → IsForm (nodes_in context) context.storage bound form tree
      → type_of tree ≡ Address
      → TypesHold context.typed context.within tree
      → form_fits_byte (knowing context.site facts) form ≡ true
      → Fits context sound s
      → Gives (λ n t. n < 256) (meant tree s)
  unfolding form_fits_byte
  form_below s (IsConversion {inner = of} {scalar = scalar} {tree = inner} is) address types fits source =
      gives_then (meant inner s) (λ n t. Gave (as_type scalar n) t)
      (fits_node context sound s is types source)
      (λ n t one. IsGiven (lesser scalar n (of_type (type_of inner) Byte n (scalar_is is fits) one.0)))
  form_below s (IsFunction {function = function} {tree = inner} is) address types fits source =
      gives_then (meant inner s) (λ n t. Gave (function_of function n) t)
      (fits_node context sound s is types source)
      (λ n t one. IsGiven (subst (λ m. m < 256) (sym (operand_given function address n))
      (of_type (type_of inner) Byte n (scalar_is is fits) one.0)))
  form_below s
      (IsBinary {operands = operands} {operator = operator} {left = left} {right = right} {first = first}
      {second = second} one two) address types fits source =
      subst (λ (scalar : ScalarType). Gives (λ n t. n < 256)
      (meant (BinaryNode scalar operator first second) s))
      (sym (operands_are_addresses operator operands address))
      (two_below operator s one two (types.1).0 (types.2).0 fits)
  form_below s
      (IsShift {scalar = scalar} {function = function} {value = of} {count = count} {shifted = moved}
      {by = by} one two) address types fits source =
      subst (λ (of_scalar : ScalarType). Gives (λ n t. n < 256)
      (meant (ShiftNode of_scalar function moved by) s)) (sym address)
      (shift_below function s one two (types.1).0 ((types.1).1 ∙ address) (types.2).0 fits source)
  form_below s IsNumber address types fits source = absurd (false≢true fits)
  form_below s (IsValue reference) address types fits source = absurd (false≢true fits)
  form_below s (IsLocation reference) address types fits source = absurd (false≢true fits)
  form_below s IsConstantList address types fits source = absurd (false≢true fits)
  form_below s (IsEmbedded target is) address types fits source = absurd (false≢true fits)
  form_below s (IsUnary is) address types fits source = absurd (false≢true fits)
  form_below s (IsCallOf given) address types fits source = absurd (false≢true fits)
  form_below s IsInput address types fits source = absurd (false≢true fits)

  -- where the form of an expression shows that its value is below 256, it is
  gives_below :
      {bound : ℕ} {of : ExpressionNumber} {tree : TypedExpression} (s : State)
      → IsExpression (nodes_in context) context.storage bound of.index tree
      → TypesHold context.typed context.within tree
      → fits_byte (knowing context.site facts) of ≡ true
      → Fits context sound s
      → Gives (λ n t. n < 256) (meant tree s)
  unfolding fits_byte is_number_below
  gives_below {of = of} {tree = tree} s is types fits source =
      let node : NodeOf context of tree = node_of sound is in
      by_type node (type_of tree) refl
      (sym (ap (λ (scalar : ScalarType). fits_byte_by (knowing context.site facts) of scalar node.found.form)
      node.scalar)
      ∙ sym (ap (λ (found : Option Expression). elim found [
        | Some expression ↦
            fits_byte_by (knowing context.site facts) of expression.traits.scalar expression.form
        | None ↦ false
      ]) (node.at_site facts)) ∙ fits)
    where
      by_number : (node : NodeOf context of tree) (below : Bool)
          → is_number_below (knowing context.site facts) of 256 ≡ below
          → type_of tree ≡ Address
          → (below || form_fits_byte (knowing context.site facts) node.found.form) ≡ true
          → Gives (λ n t. n < 256) (meant tree s)
      by_number node true here address fits =
          let known = below_number (number_of (knowing context.site facts) of) 256 here in
          subst (λ (outcome : Outcome ℕ). Gives (λ n t. n < 256) outcome)
          (sym (number_means facts known.0 sound is types known.1 s)) (IsGiven known.2)
      by_number node false here address fits = form_below s node.form address types fits source

      by_type : (node : NodeOf context of tree) (scalar : ScalarType) → type_of tree ≡ scalar
          → fits_byte_by (knowing context.site facts) of scalar node.found.form ≡ true
          → Gives (λ n t. n < 256) (meant tree s)
      by_type node Byte byte fits =
          gives_from (meant tree s)
          (λ n t same. of_type (type_of tree) Byte n byte (value_fits s sound is types source same))
      by_type node Address address fits =
          by_number node (is_number_below (knowing context.site facts) of 256) refl address fits

  pub fits_means :
      {bound n : ℕ} {of : ExpressionNumber} {tree : TypedExpression} {t : State} (s : State)
      → IsExpression (nodes_in context) context.storage bound of.index tree
      → TypesHold context.typed context.within tree
      → fits_byte (knowing context.site facts) of ≡ true
      → SourceFits context.activation.around s
      → value context.later context.activation.around tree s ≡ Gave n t
      → n < 256
  fits_means {n = n} {tree = tree} {t = t} s is types fits source same =
      given_by (meant tree s) n t same (gives_below s is types fits source)
