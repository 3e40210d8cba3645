-- The weights of the nodes of tree code, beside the 1 for each expression.
use Rattle.std.specs.Prelude.{ℕ, zero, suc, ◌+◌, List, Option, Some, None, slice_get}
use Rattle.std.specs.Option.{option_map_or}
use Rattle.trees.specs.declared.declaration.ScalarType.TheVariants as scalars
use Rattle.typed_trees.specs.Weight.{weight_of_storing}
use Rattle.treecode.specs.declared.expression.Expression.{Expression}
use Rattle.treecode.specs.declared.expression.ExpressionForm.{ExpressionForm}
use Rattle.treecode.specs.declared.expression.ExpressionForm.TheVariants as forms
use Rattle.treecode.specs.declared.expression.ExpressionNumber.{ExpressionNumber}
use Rattle.treecode.specs.declared.reference.Reference.{Reference}
use Rattle.treecode.specs.declared.reference.Subscript.{Subscript}
use Rattle.treecode.specs.declared.reference.Target.{Target}
use Rattle.treecode.specs.declared.reference.Target.TheVariants as targets
use Rattle.treecode.specs.internal.Nodes.{Nodes}

-- the weight of the subscripts of a reference, from the weights of expressions beside 1
abbrev pub weight_of_index : (beside : ℕ → ℕ) → Option Subscript → ℕ
weight_of_index beside None = 0
weight_of_index beside (Some subscript) = 1 + beside subscript.index.index

abbrev pub weight_of_indices : (beside : ℕ → ℕ) → Reference → ℕ
weight_of_indices beside reference =
    weight_of_index beside reference.subscript + weight_of_index beside reference.member_subscript

-- the weight of a target beside 1
abbrev pub weight_in_target : (beside : ℕ → ℕ) → Target → ℕ
weight_in_target beside (targets.Stored from to reference) =
    weight_of_storing from to + weight_of_indices beside reference
weight_in_target beside (targets.Sent from port) = weight_of_storing from scalars.Byte

-- the weight of `count` arguments, from a first one on
abbrev pub weight_of_given : (beside : ℕ → ℕ) → List ExpressionNumber → (first count : ℕ) → ℕ
weight_of_given beside table first zero = 0
weight_of_given beside table first (suc count) =
    option_map_or (λ (number : ExpressionNumber). 1 + beside number.index) (slice_get table first) 0
    + weight_of_given beside table (suc first) count

-- the weight of a form beside 1
abbrev pub weight_in_form : (beside : ℕ → ℕ) → List ExpressionNumber → ExpressionForm → ℕ
weight_in_form beside table (forms.Number number) = 0
weight_in_form beside table (forms.Value reference) = weight_of_indices beside reference
weight_in_form beside table (forms.Location reference) = weight_of_indices beside reference
weight_in_form beside table (forms.List offset) = 0
weight_in_form beside table (forms.Conversion inner) = 1 + beside inner.index
weight_in_form beside table (forms.Assignment target value) =
    2 + weight_in_target beside target + beside value.index
weight_in_form beside table (forms.Unary operator operand) = 1 + beside operand.index
weight_in_form beside table (forms.Binary operands operator left right) =
    2 + beside left.index + beside right.index
weight_in_form beside table (forms.Call procedure arguments) =
    weight_of_given beside table arguments.first arguments.count
weight_in_form beside table (forms.Function function operand) = 1 + beside operand.index
weight_in_form beside table (forms.Shift function value count) = 2 + beside value.index + beside count.index
weight_in_form beside table (forms.Input port) = 1

-- the weight beside 1 of the expression with this number, with each part at a lower number and at most
-- `levels` levels
abbrev pub beside_within : Nodes → (levels number : ℕ) → ℕ
beside_within nodes zero number = 0
beside_within nodes (suc levels) number =
    option_map_or
    (λ (found : Expression). weight_in_form (beside_within nodes levels) nodes.arguments found.form)
    (slice_get nodes.expressions number)
    0

unfoldable pub beside_at : Nodes → (number : ℕ) → ℕ
beside_at nodes number = beside_within nodes (suc number) number
