-- The code of the low byte of an expression does what the expression means.
use Rattle.task_laws.proofs.Prelude.{◌≡◌, ℕ, ◌+◌, ◌-◌, ◌*◌, ◌/◌, ◌%◌, ◌<◌, ◌≤◌, true, false, [], ◌∷◌, ◌++◌, Option, Some, None, option_and_then, refl, sym, ap, ◌∙◌, subst, arith, false≢true, none-some, option_map_or, ScalarType, UnaryOperator, Not, Negate, height_of, type_of, type_of_target, AssignmentNode, ConversionNode, FunctionNode, TypedExpression, TypedTarget, UnaryNode, TypesHold, TypesHoldInTarget, SourceState, Gave, then_do, as_type, result_of_one, values_of, Cma, Inr, Of, A, Expression, ExpressionForm, ExpressionNumber, Place, Reference, Target, IsExpression, IsTarget, IsStored, IsSent, IsForm, IsNumber, IsValue, IsLocation, IsConstantList, IsConversion, IsEmbedded, IsUnary, IsBinary, IsCallOf, IsFunction, IsShift, IsInput, source, known_of, place_of_reference, Facts, part, is_free, known, memory_of, relation_of, relation_of_form, expression, scalar_of, byte_in_memory_steps, byte_form_steps, byte_function_steps, byte_of_two_steps, byte_steps, byte_unary_steps, called_byte_steps, embedded_steps, known_byte_steps, low_of_value_steps, call_steps, value_task, knowing, Context, IsSound, nodes_in, StepsStand, ByteDoes, PartDoes, as_type_fits, UnaryFunction, LowByte, HighByte, byte_taken, type_of_function, function_of, List, Step, high_byte_steps}
use Rattle.trees.proofs.TakenBytes.{by_byte}
use Rattle.meaning.proofs.FunctionResults.{high_byte_given, low_byte_kept, function_fits}
use Rattle.treecode.proofs.TakenBytes.{free_if_direct, free_of_operand}
use Rattle.trees.specs.declared.declaration.ScalarType.TheVariants as scalars
use Rattle.treecode.specs.declared.expression.ExpressionForm.TheVariants as forms
use Rattle.steps8080.specs.declared.step.Task.TheVariants as tasks
use Rattle.task_laws.proofs.Bytes.ByteBinaries.{IsElsewhere, binary_law, never_free, shift_law}
use Rattle.task_laws.proofs.Bytes.ByteCode.{ByteCarried, OfOne, beside_a, beside_itself, byte_makes}
use Rattle.task_laws.proofs.Bytes.ByteForms.{byte_given, complement_byte, complement_small, free_by_form, negative_byte, negative_small, type_byte}
use Rattle.task_laws.proofs.Bytes.ByteKnown.{known_by_form, known_law}
use Rattle.task_laws.proofs.Bytes.BytesAsked.{BytesAsked, HighIsGiven}
use Rattle.task_laws.proofs.Loads.BytesInMemory.{memory_same}
use Rattle.task_laws.proofs.Bytes.BytesThere.{there_law}
use Rattle.task_laws.proofs.Stores.EmbeddedBytes.{embedded_byte, embedded_low_byte}
use Rattle.task_laws.proofs.Bytes.HighHalves.{high_byte_law}
use Rattle.task_laws.proofs.Machine.KnownOperands.{high_fits}
use Rattle.task_laws.proofs.Bytes.LowBytes.{called_law, input_law, location_law}
use Rattle.task_laws.proofs.Machine.Nodes.{NodeOf, node_of}
use Rattle.task_laws.proofs.Ranges.Ranges.{value_fits}
use Rattle.task_laws.proofs.Machine.SiteNodes.{free_is, value_in}
use Rattle.task_laws.proofs.Machine.Stages.{at_carried}

high_itself : (n : ℕ) → n / 256 < 256 → n / 256 ≡ n / 256 % 256
high_itself n small = omega (arith, small)

-- the source type of a target is that of the value that is stored in it
source_is :
    (context : Context) {bound : ℕ} {target : Target} {to : TypedTarget} {scalar : ScalarType}
    → IsTarget (nodes_in context) context.storage bound target to
    → TypesHoldInTarget context.typed context.within scalar to
    → source target ≡ scalar
source_is context (IsStored reference) types = types.0
source_is context IsSent types = types.0

target_is :
    (context : Context) {bound : ℕ} {target : Target} {to : TypedTarget} {scalar : ScalarType}
    → IsTarget (nodes_in context) context.storage bound target to
    → TypesHoldInTarget context.typed context.within scalar to
    → type_of_target to ≡ scalar
target_is context (IsStored reference) types = types.0
target_is context IsSent types = types.0

module _ (context : Context) (sound : IsSound context) (asked : BytesAsked context) where
  -- a tree around one part
  of_part :
      {number inner : ExpressionNumber} {tree inside : TypedExpression} {bound : ℕ}
      (g : ℕ → ℕ)
      → IsExpression (nodes_in context) context.storage bound inner.index inside
      → TypesHold context.typed context.within inside
      → height_of inside ≤ height_of tree
      → ((t : SourceState) → value_in context tree t ≡ then_do (value_in context inside t)
      (λ v u. Gave (g v) u))
      → ((v : ℕ) → v < values_of (type_of inside) → g v < values_of (type_of tree))
      → (is_free context.site number ≡ true → is_free context.site inner ≡ true)
      → OfOne context number inner tree inside g (values_of (type_of inside))
  of_part {bound = bound} g is types fewer means small free = record {
    bound = bound;
    node = is;
    types = types;
    fewer = omega (arith, fewer);
    means = means;
    fits = λ s u v source same. value_fits s sound is types source same;
    small = small;
    free = free;
  }

  -- NOT and `-`
  unary_law :
      {facts last : Facts} {number operand : ExpressionNumber} {inside : TypedExpression}
      {bound pushed from to : ℕ}
      {scalar : ScalarType} (operator : UnaryOperator)
      → IsExpression (nodes_in context) context.storage bound operand.index inside
      → TypesHold context.typed context.within inside
      → type_of inside ≡ scalar
      → (is_free context.site number ≡ true → is_free context.site operand ≡ true)
      → StepsStand context (PartDoes context) facts from (byte_unary_steps operator operand pushed) last to
      → ByteCarried context facts number (UnaryNode scalar operator inside) pushed from last to
  unfolding byte_unary_steps
  unary_law {number = number} {inside = inside} {scalar = scalar} Not is types same free stand =
      byte_makes context sound
      (of_part {number = number} {tree = UnaryNode scalar Not inside} (λ v. result_of_one scalar Not v) is
      types (omega arith) (λ t. refl)
      (λ v fits. complement_small scalar v) free)
      (Cma ∷ []) (λ x. 255 - x) (tt, tt) (λ r small. refl) (λ is_free_now r. beside_a _ _ r)
      (λ v fits. complement_byte scalar v (subst (λ (of : ScalarType). v < values_of of) same fits)) stand
  unary_law {number = number} {inside = inside} {scalar = scalar} Negate is types same free stand =
      byte_makes context sound
      (of_part {number = number} {tree = UnaryNode scalar Negate inside} (λ v. result_of_one scalar Negate v)
      is types (omega arith) (λ t. refl)
      (λ v fits. negative_small scalar v) free)
      (Cma ∷ Inr (Of A) ∷ []) (λ x. (255 - x + 1) % 256) (tt, (tt, tt)) (λ r small. refl)
      (λ is_free_now r. beside_a _ _ r)
      (λ v fits. negative_byte scalar v (subst (λ (of : ScalarType). v < values_of of) same fits)) stand

  -- a function that takes the low byte
  low_function_law :
      {facts last : Facts} {number inner : ExpressionNumber} {inside : TypedExpression}
      {bound pushed from to : ℕ}
      (function : UnaryFunction) → byte_taken function ≡ LowByte
      → IsExpression (nodes_in context) context.storage bound inner.index inside
      → IsElsewhere context facts number (forms.Function function inner) (FunctionNode function inside)
      → StepsStand context (PartDoes context) facts from (part (tasks.Byte inner) pushed ∷ []) last to
      → ByteCarried context facts number (FunctionNode function inside) pushed from last to
  low_function_law {number = number} {inner = inner} {inside = inside} function low is node stand =
      byte_makes context sound
      (of_part {number = number} {tree = FunctionNode function inside} (λ v. function_of function v) is
      node.types (omega arith) (λ t. refl)
      (λ v fits. function_fits function (type_of inside) v fits)
      (λ free. free_is context.site inner
      ∙ sym (free_of_operand (nodes_in context) (type_of_function function) function inner low)
      ∙ sym node.free ∙ free))
      [] (λ x. x) tt (λ r small. refl) (λ free r. beside_itself r)
      (λ v fits. sym (low_byte_kept function low v)) stand

  -- a function that takes the high byte
  high_function_law :
      {facts last : Facts} {number inner : ExpressionNumber} {inside : TypedExpression}
      {bound pushed from to : ℕ}
      (function : UnaryFunction) → byte_taken function ≡ HighByte
      → IsExpression (nodes_in context) context.storage bound inner.index inside
      → IsElsewhere context facts number (forms.Function function inner) (FunctionNode function inside)
      → StepsStand context (PartDoes context) facts from
      (high_byte_steps (knowing context.site facts) inner pushed) last to
      → ByteCarried context facts number (FunctionNode function inside) pushed from last to
  high_function_law {facts = facts} {last = last} {number = number} {inner = inner} {inside = inside}
      {to = to} function high is node stand =
      λ top base s r memory below room ready known_before nothing.
      at_carried {top = top} {need = 2 * height_of (FunctionNode function inside)} {base = base} _ _ _
      (high_byte_law sound is node.types stand) (omega arith) tt
      (λ v now memory_now (made : HighIsGiven context last r memory v now memory_now). made.known)
      (record { below = below; room = room; ready = ready; known = known_before })
      (λ v u now memory_now same made final.
      let fits =
      value_fits s sound is node.types (Rattle.task_laws.proofs.Ranges.Ranges.ready_fits context s ready)
      same in
      let result : v / 256 ≡ function_of function v = sym (high_byte_given function high v) in
      byte_given to number (function_of function v)
      (made.a ∙ high_itself v (high_fits v (type_of inside) fits) ∙ ap (λ m. m % 256) result)
      (function_fits function (type_of inside) v fits)
      (λ free.
      absurd (false≢true
      (sym (ap (λ (found : Option Reference). option_map_or
      (λ (one : Reference). Rattle.std.specs.Prelude.is_some (place_of_reference (nodes_in context) one))
      found false) node.elsewhere)
      ∙ sym (free_if_direct (nodes_in context) (type_of_function function) function inner high)
      ∙ sym node.free ∙ free)))
      final)

  -- an expression that is neither known nor in memory
  form_law :
      {facts last : Facts} {number : ExpressionNumber} {form : ExpressionForm} {tree : TypedExpression}
      {bound pushed from to : ℕ}
      → IsForm (nodes_in context) context.storage bound form tree
      → IsElsewhere context facts number form tree
      → StepsStand context (PartDoes context) facts from
      (byte_form_steps (knowing context.site facts) number form pushed) last to
      → ByteCarried context facts number tree pushed from last to
  unfolding byte_form_steps byte_function_steps byte_of_two_steps called_byte_steps embedded_steps value_task low_of_value_steps
  form_law IsNumber node stand = absurd (none-some _ (sym node.unknown))
  form_law IsConstantList node stand = absurd (none-some _ (sym node.unknown))
  form_law (IsValue reference) node stand = absurd (none-some _ (sym node.elsewhere))
  form_law {number = number} (IsLocation reference) node stand =
      location_law number sound reference node.is node.types (never_free node refl) stand
  form_law {number = number} (IsConversion {inner = inner} {scalar = scalar} {tree = inside} is) node stand =
      byte_makes context sound
      (of_part {number = number} {tree = ConversionNode scalar inside} (as_type scalar) is node.types
      (omega arith) (λ t. refl)
      (λ v fits. as_type_fits scalar v) (λ free. free_is context.site inner ∙ sym node.free ∙ free))
      [] (λ x. x) tt (λ r small. refl) (λ free r. beside_itself r) (λ v fits. type_byte scalar v) stand
  form_law {facts = facts} {last = last} {number = number} {pushed = pushed} {from = from} {to = to}
      (IsFunction {function = function} {operand = inner} {tree = inside} is) node stand =
      by_byte
      (λ (steps : List Step). StepsStand context (PartDoes context) facts from steps last to
      → ByteCarried context facts number (FunctionNode function inside) pushed from last to)
      (byte_taken function) _ _
      (λ low stands. low_function_law function low is node stands)
      (λ high stands. high_function_law function high is node stands)
      stand
  form_law {number = number} (IsUnary {scalar = scalar} {operator = operator} {operand = inner} is) node
      stand =
      unary_law operator is (node.types).0 (node.types).1
      (λ free. free_is context.site inner ∙ sym node.free ∙ free) stand
  form_law {number = number} {bound = bound}
      (IsBinary {operands = operands} {operator = operator} one two) node stand =
      binary_law context number operands sound asked
      (record { bound = bound; is = one; types = ((node.types).1).0 }) ((node.types).1).1
      (record { bound = bound; is = two; types = ((node.types).2).0 }) ((node.types).2).1
      refl operator node stand
  form_law {number = number} {bound = bound}
      (IsShift {scalar = scalar} {function = function} one two) node stand =
      shift_law context number sound asked scalar function
      (record { bound = bound; is = one; types = ((node.types).1).0 }) ((node.types).1).1
      (record { bound = bound; is = two; types = ((node.types).2).0 }) ((node.types).2).1
      (node.types).0 node stand
  form_law {facts = facts} {last = last} {number = number} {pushed = pushed} {from = from} {to = to}
      (IsCallOf {procedure = procedure} {scalar = scalar} {range = range} are) node stand =
      called_law number procedure range pushed sound are (node.types).0 (node.types).1 node.is
      (never_free node refl)
      (subst (λ (of : ScalarType). StepsStand context (PartDoes context) facts from
      (call_steps (knowing context.site facts) procedure range pushed ++ low_of_value_steps of) last
      to) node.scalar stand)
  form_law {number = number} {pushed = pushed} (IsInput {port = port}) node stand =
      input_law number port pushed sound stand
  form_law {facts = facts} {last = last} {number = number} {bound = bound} {pushed = pushed} {from = from}
      {to = to} (IsEmbedded {target = target} {value = inner} {to = place} {tree = inside} is_target is) node
      stand =
      by (type_of inside) refl
      (subst (λ (of : ScalarType). StepsStand context (PartDoes context) facts from
      ((part (value_task of inner) pushed ∷ part (tasks.Store target true) pushed ∷ [])
      ++ low_of_value_steps of) last to)
      (source_is context is_target (node.types).1) stand)
    where
      by : (of : ScalarType) → type_of inside ≡ of
          → StepsStand context (PartDoes context) facts from
          ((part (value_task of inner) pushed ∷ part (tasks.Store target true) pushed
          ∷ []) ++ low_of_value_steps of) last to
          → ByteCarried context facts number (AssignmentNode place inside) pushed from last to
      by scalars.Byte same given =
          embedded_byte context facts last from to pushed bound number inner target inside place sound is
          (node.types).0 is_target
          (node.types).1 (target_is context is_target (node.types).1) node.free same given
      by scalars.Address same given =
          embedded_low_byte context facts last from to pushed bound number inner target inside place sound is
          (node.types).0 is_target
          (node.types).1 (target_is context is_target (node.types).1) node.free same given

  -- the code of the low byte of an expression
  pub byte_does :
      (facts last : Facts) (number : ExpressionNumber) (pushed from to : ℕ)
      → StepsStand context (PartDoes context) facts from
      (byte_steps (knowing context.site facts) number pushed) last to
      → ByteDoes context facts number pushed from last to
  unfolding byte_steps scalar_of relation_of
  byte_does facts last number pushed from to stand bound tree is types =
      by_known (known (knowing context.site facts) number) refl stand
    where
      node : NodeOf context number tree
      node = node_of sound is

      by_memory : (found : Option Reference) → memory_of (knowing context.site facts) number ≡ found
          → known (knowing context.site facts) number ≡ None
          → StepsStand context (PartDoes context) facts from
          (elim found [
            | Some reference ↦ byte_in_memory_steps (knowing context.site facts) reference pushed
            | None ↦ elim (expression (knowing context.site facts) number) [
              | Some one ↦ byte_form_steps (knowing context.site facts) number one.form pushed
              | None ↦ []
            ]
          ]) last to
          → ByteCarried context facts number tree pushed from last to
      by_memory (Some reference) here none given = there_law number pushed sound is types here given
      by_memory None here none given =
          let unknown : known_of (nodes_in context) (type_of tree) node.found.form ≡ None =
          sym (known_by_form facts node) ∙ none in
          form_law node.form
          (record {
            bound = bound;
            is = is;
            types = types;
            unknown = unknown;
            elsewhere = sym (memory_same context sound facts node) ∙ here;
            free = free_by_form node unknown;
            scalar = ap (λ (found : Option Expression). elim found [
              | Some one ↦ one.traits.scalar
              | None ↦ scalars.Byte
            ]) (node.at_site facts) ∙ node.scalar;
            relation = ap (λ (found : Option Expression).
                option_and_then (λ (one : Expression). relation_of_form (knowing context.site facts) one.form)
                found) (node.at_site facts);
          })
          (subst (λ (found : Option Expression). StepsStand context (PartDoes context) facts from
          (elim found [
            | Some one ↦ byte_form_steps (knowing context.site facts) number one.form pushed
            | None ↦ []
          ]) last to) (node.at_site facts) given)

      by_known : (found : Option Place) → known (knowing context.site facts) number ≡ found
          → StepsStand context (PartDoes context) facts from
          (elim found [
            | Some place ↦ known_byte_steps place
            | None ↦ elim (memory_of (knowing context.site facts) number) [
              | Some reference ↦ byte_in_memory_steps (knowing context.site facts) reference pushed
              | None ↦ elim (expression (knowing context.site facts) number) [
                | Some one ↦ byte_form_steps (knowing context.site facts) number one.form pushed
                | None ↦ []
              ]
            ]
          ]) last to
          → ByteCarried context facts number tree pushed from last to
      by_known (Some place) here given = known_law number place pushed sound is types here given
      by_known None here given = by_memory (memory_of (knowing context.site facts) number) refl here given
