-- The byte in memory of an expression, at a site and according to its node.
use Rattle.task_laws.proofs.Prelude.{◌≡◌, ℕ, Option, Some, None, slice_get, refl, sym, ap, ◌∙◌, option_map_or, option_and_then, ScalarType, Address, Byte, TypedExpression, Expression, ExpressionForm, ExpressionNumber, IsExpression, IsForm, IsNumber, IsValue, IsLocation, IsConstantList, IsConversion, IsEmbedded, IsUnary, IsBinary, IsCallOf, IsFunction, IsShift, IsInput, inside, Facts, form_in_memory, high_in_memory, high_of, memory, plain_in_memory, expression, knowing, Context, IsSound, nodes_in, inl, inr, ByteOfValue, byte_taken, for_byte, Reference}
use Rattle.trees.proofs.TakenBytes.{taken}
use Rattle.treecode.proofs.TakenBytes.{low_byte_of_itself, low_byte_of_operand}
use Rattle.treecode.specs.declared.expression.ExpressionForm.TheVariants as forms
use Rattle.treecode.specs.internal.Traits as traits
use Rattle.steps8080.specs.internal.Queries.{same_low_byte}
use Rattle.task_laws.proofs.Machine.Nodes.{NodeOf, node_of}

same_high : (form : ExpressionForm) (scalar : ScalarType)
    → high_of form scalar ≡ traits.byte_after scalar form
same_high (forms.Value reference) Address = refl
same_high (forms.Value reference) Byte = refl
same_high (forms.Number n) Address = refl
same_high (forms.Number n) Byte = refl
same_high (forms.Location reference) Address = refl
same_high (forms.Location reference) Byte = refl
same_high (forms.List offset) Address = refl
same_high (forms.List offset) Byte = refl
same_high (forms.Conversion inner) Address = refl
same_high (forms.Conversion inner) Byte = refl
same_high (forms.Assignment target value) Address = refl
same_high (forms.Assignment target value) Byte = refl
same_high (forms.Unary operator operand) Address = refl
same_high (forms.Unary operator operand) Byte = refl
same_high (forms.Binary operands operator left right) Address = refl
same_high (forms.Binary operands operator left right) Byte = refl
same_high (forms.Call procedure given) Address = refl
same_high (forms.Call procedure given) Byte = refl
same_high (forms.Function function operand) Address = refl
same_high (forms.Function function operand) Byte = refl
same_high (forms.Shift function value count) Address = refl
same_high (forms.Shift function value count) Byte = refl
same_high (forms.Input port) Address = refl
same_high (forms.Input port) Byte = refl

module _ (context : Context) (sound : IsSound context) (facts : Facts) where
  high_same : (operand : ExpressionNumber)
      → high_in_memory (knowing context.site facts) operand ≡ traits.high_in_memory (nodes_in context) operand
  unfolding high_in_memory expression
  high_same operand = by (slice_get (nodes_in context).expressions operand.index)
    where
      by : (found : Option Expression)
          → option_and_then (λ (node : Expression). high_of node.form node.traits.scalar) found
          ≡ option_and_then (λ (node : Expression). traits.byte_after node.traits.scalar node.form) found
      by (Some node) = same_high node.form node.traits.scalar
      by None = refl

  form_same : (form : ExpressionForm) → form_in_memory (knowing context.site facts) form
      ≡ traits.memory_of_inner (nodes_in context) form
  form_same (forms.Value reference) = refl
  form_same (forms.Function function operand) =
      ap (λ (found : Option Reference). for_byte (byte_taken function) None found) (high_same operand)
  form_same (forms.Number n) = refl
  form_same (forms.Location reference) = refl
  form_same (forms.List offset) = refl
  form_same (forms.Conversion inner) = refl
  form_same (forms.Assignment target value) = refl
  form_same (forms.Unary operator operand) = refl
  form_same (forms.Binary operands operator left right) = refl
  form_same (forms.Call procedure given) = refl
  form_same (forms.Shift function value count) = refl
  form_same (forms.Input port) = refl

  plain_same : {number : ExpressionNumber} {tree : TypedExpression} (node : NodeOf context number tree)
      → plain_in_memory (knowing context.site facts) number
      ≡ traits.memory_of_inner (nodes_in context) node.found.form
  unfolding plain_in_memory
  plain_same node =
      ap (λ (found : Option Expression). option_and_then
      (λ (one : Expression). form_in_memory (knowing context.site facts) one.form) found)
      (node.at_site facts)
      ∙ form_same node.found.form

  -- the expression inside, which has the same low byte
  record Inside (number : ExpressionNumber) (form : ExpressionForm) : Type 0 where
    next : ExpressionNumber
    tree : TypedExpression
    node : NodeOf context next tree
    at_site : inside number form ≡ next
    in_nodes : traits.same_low_byte (nodes_in context) form ≡ node.found.form

  through :
      {bound : ℕ} {inner : ExpressionNumber} {tree : TypedExpression} (outer : ExpressionForm)
      (is : IsExpression (nodes_in context) context.storage bound inner.index tree)
      → traits.form_at (nodes_in context) inner outer
      ≡ (node_of {context = context} {number = inner} sound is).found.form
  through {inner = inner} outer is =
      ap (λ (found : Option Expression). option_map_or (λ (one : Expression). one.form) found outer)
      (node_of {context = context} {number = inner} sound is).is_there

  looked_into :
      {bound : ℕ} {form : ExpressionForm} {number : ExpressionNumber} {tree : TypedExpression}
      (node : NodeOf context number tree)
      → form ≡ node.found.form
      → IsForm (nodes_in context) context.storage bound form tree
      → Inside number form
  looked_into {number = number} node same (IsConversion {inner = inner} {tree = tree} is) =
      record { next = inner; tree = tree; node = node_of sound is; at_site = refl; in_nodes = through (forms.Conversion inner) is }
  looked_into {number = number} {tree = tree} node same
      (IsFunction {function = function} {operand = operand} {tree = inner} is) =
      elim (taken function) [
        | inl low ↦
            record {
              next = operand;
              tree = inner;
              node = node_of sound is;
              at_site = ap (λ (byte : ByteOfValue). for_byte byte operand number) low;
              in_nodes = low_byte_of_operand (nodes_in context) function operand low
                  ∙ through (forms.Function function operand) is;
            }
        | inr high ↦
            record {
              next = number;
              tree = tree;
              node = node;
              at_site = ap (λ (byte : ByteOfValue). for_byte byte operand number) high;
              in_nodes = low_byte_of_itself (nodes_in context) function operand high ∙ same;
            }
      ]
  looked_into {number = number} {tree = tree} node same IsNumber =
      record { next = number; tree = tree; node = node; at_site = refl; in_nodes = same }
  looked_into {number = number} {tree = tree} node same (IsValue is) =
      record { next = number; tree = tree; node = node; at_site = refl; in_nodes = same }
  looked_into {number = number} {tree = tree} node same (IsLocation is) =
      record { next = number; tree = tree; node = node; at_site = refl; in_nodes = same }
  looked_into {number = number} {tree = tree} node same IsConstantList =
      record { next = number; tree = tree; node = node; at_site = refl; in_nodes = same }
  looked_into {number = number} {tree = tree} node same (IsEmbedded target is) =
      record { next = number; tree = tree; node = node; at_site = refl; in_nodes = same }
  looked_into {number = number} {tree = tree} node same (IsUnary is) =
      record { next = number; tree = tree; node = node; at_site = refl; in_nodes = same }
  looked_into {number = number} {tree = tree} node same (IsBinary one two) =
      record { next = number; tree = tree; node = node; at_site = refl; in_nodes = same }
  looked_into {number = number} {tree = tree} node same (IsCallOf given) =
      record { next = number; tree = tree; node = node; at_site = refl; in_nodes = same }
  looked_into {number = number} {tree = tree} node same (IsShift one two) =
      record { next = number; tree = tree; node = node; at_site = refl; in_nodes = same }
  looked_into {number = number} {tree = tree} node same IsInput =
      record { next = number; tree = tree; node = node; at_site = refl; in_nodes = same }

  low_same : {number : ExpressionNumber} {tree : TypedExpression} (node : NodeOf context number tree)
      → same_low_byte (knowing context.site facts) number ≡ inside number node.found.form
  unfolding same_low_byte
  low_same {number = number} node =
      ap (λ (found : Option Expression). elim found [
        | Some one ↦ inside number one.form
        | None ↦ number
      ]) (node.at_site facts)

  -- the part of memory at a site is that of the node
  pub memory_same : {number : ExpressionNumber} {tree : TypedExpression} (node : NodeOf context number tree)
      → memory (knowing context.site facts) number ≡ traits.memory_of_form (nodes_in context) node.found.form
  unfolding memory
  memory_same {number = number} node =
      let one : Inside number node.found.form = looked_into node refl node.form in
      let two : Inside one.next one.node.found.form = looked_into one.node refl one.node.form in
      ap (λ (k : ExpressionNumber). plain_in_memory (knowing context.site facts)
      (same_low_byte (knowing context.site facts) k))
      (low_same node ∙ one.at_site)
      ∙ ap (λ (k : ExpressionNumber). plain_in_memory (knowing context.site facts) k)
      (low_same one.node ∙ two.at_site)
      ∙ plain_same two.node
      ∙ ap (λ (form : ExpressionForm). traits.memory_of_inner (nodes_in context) form)
      (sym two.in_nodes ∙ ap (λ (form : ExpressionForm). traits.same_low_byte (nodes_in context) form)
      (sym one.in_nodes))
