-- The numbers that are expressions of tree code have 16 bits.
use Rattle.std.specs.Prelude.{◌≡◌, ℕ, ◌<◌, List, Some, slice_get}
use Rattle.treecode.specs.declared.expression.Expression.{Expression}
use Rattle.treecode.specs.declared.expression.ExpressionForm.{ExpressionForm}
use Rattle.treecode.specs.declared.expression.ExpressionForm.TheVariants as forms

-- the number of a form, if it is one, has 16 bits
abbrev pub FormIsWord : ExpressionForm → Type 0
FormIsWord (forms.Number number) = number < 65536
FormIsWord form = Unit {0}

-- and so has that of each expression of a table
abbrev pub ExpressionsAreWords : List Expression → Type 0
ExpressionsAreWords expressions =
    (index number : ℕ) (found : Expression)
    → slice_get expressions index ≡ Some found
    → found.form ≡ forms.Number number
    → number < 65536
