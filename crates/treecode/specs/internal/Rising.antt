-- Numbers rise along the tree: each part of an expression has a lower number than the whole.
use Rattle.std.specs.Prelude.{◌≡◌, ℕ, ◌+◌, ◌<◌, Option, Some, None, slice_get}
use Rattle.treecode.specs.declared.expression.Expression.{Expression}
use Rattle.treecode.specs.declared.expression.ExpressionForm.{ExpressionForm}
use Rattle.treecode.specs.declared.expression.ExpressionForm.TheVariants as forms
use Rattle.treecode.specs.declared.expression.ExpressionNumber.{ExpressionNumber}
use Rattle.treecode.specs.declared.lists.Range.{Range}
use Rattle.treecode.specs.declared.reference.Reference.{Reference}
use Rattle.treecode.specs.declared.reference.Subscript.{Subscript}
use Rattle.treecode.specs.declared.reference.Target.{Target}
use Rattle.treecode.specs.declared.reference.Target.TheVariants as targets
use Rattle.treecode.specs.internal.Nodes.{Nodes}

-- the number of a subscript, if there is one, is below a bound
abbrev pub SubscriptIsBelow : (bound : ℕ) → Option Subscript → Type 0
SubscriptIsBelow bound None = Unit {0}
SubscriptIsBelow bound (Some subscript) = subscript.index.index < bound

abbrev pub ReferenceIsBelow : (bound : ℕ) → Reference → Type 0
ReferenceIsBelow bound reference =
    SubscriptIsBelow bound reference.subscript × SubscriptIsBelow bound reference.member_subscript

abbrev pub TargetIsBelow : (bound : ℕ) → Target → Type 0
TargetIsBelow bound (targets.Stored from to reference) = ReferenceIsBelow bound reference
TargetIsBelow bound (targets.Sent from port) = Unit {0}

-- each argument of a range is in the table, and has a number below a bound
abbrev pub ArgumentsAreBelow : Nodes → (bound : ℕ) → Range → Type 0
ArgumentsAreBelow nodes bound range =
    (index : ℕ) → index < range.count
    → (number : ExpressionNumber) × (slice_get nodes.arguments (range.first + index) ≡ Some number)
    × (number.index < bound)

-- the parts of a form have numbers below a bound
abbrev pub PartsAreBelow : Nodes → (bound : ℕ) → ExpressionForm → Type 0
PartsAreBelow nodes bound (forms.Number number) = Unit {0}
PartsAreBelow nodes bound (forms.Value reference) = ReferenceIsBelow bound reference
PartsAreBelow nodes bound (forms.Location reference) = ReferenceIsBelow bound reference
PartsAreBelow nodes bound (forms.List offset) = Unit {0}
PartsAreBelow nodes bound (forms.Conversion inner) = inner.index < bound
PartsAreBelow nodes bound (forms.Assignment target value) = TargetIsBelow bound target × (value.index < bound)
PartsAreBelow nodes bound (forms.Unary operator operand) = operand.index < bound
PartsAreBelow nodes bound (forms.Binary operands operator left right) =
    (left.index < bound) × (right.index < bound)
PartsAreBelow nodes bound (forms.Call procedure arguments) = ArgumentsAreBelow nodes bound arguments
PartsAreBelow nodes bound (forms.Function function operand) = operand.index < bound
PartsAreBelow nodes bound (forms.Shift function value count) = (value.index < bound) × (count.index < bound)
PartsAreBelow nodes bound (forms.Input port) = Unit {0}

abbrev pub NumbersRise : Nodes → Type 0
NumbersRise nodes =
    (number : ℕ) (expression : Expression) → slice_get nodes.expressions number ≡ Some expression
    → PartsAreBelow nodes number expression.form
