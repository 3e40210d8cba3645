-- The items that are added are the code of the part, and do what it says.
use Rattle.generation.proofs.Doing.{code_does}
use Rattle.generation.proofs.expressions.emit_expression.Goals as goal

pub returns : goal.returns
returns c = code_does _ _ _ _ c.in_ok-emit.ensures
