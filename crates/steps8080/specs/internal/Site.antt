-- Sites of code.
use Rattle.std.specs.Prelude.{ℕ, ◌+◌, ◌%◌, Option, Some, None}
use Rattle.trees.specs.declared.declaration.ScalarType.{ScalarType}
use Rattle.trees.specs.declared.declaration.ScalarType.TheVariants as scalars
use Rattle.treecode.specs.declared.expression.Expression.{Expression}
use Rattle.treecode.specs.declared.expression.ExpressionNumber.{ExpressionNumber}
use Rattle.treecode.specs.internal.Queries.{tree_expression}
use Rattle.frames.specs.internal.Frames.{distance_of}
use Rattle.steps8080.specs.declared.sites.site.Site.{Site}

-- the expression with this number, if any
unfoldable pub expression : Site → ExpressionNumber → Option Expression
expression site number = tree_expression site.tree.now number

-- the type of an expression
unfoldable pub scalar : Site → ExpressionNumber → ScalarType
scalar site number = elim (expression site number) [
  | Some found ↦ found.traits.scalar
  | None ↦ scalars.Byte
]

-- the distance from the stack pointer up to a byte of a variable or parameter in the frame, when `pushed`
-- bytes are pushed
unfoldable pub distance : Site → (variable offset pushed : ℕ) → ℕ
distance site variable offset pushed =
    ((distance_of site.frame.now variable + offset) % 65536 + pushed) % 65536
