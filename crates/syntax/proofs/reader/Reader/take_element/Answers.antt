use Rattle.syntax.proofs.Prelude.{arith}
use Rattle.syntax.proofs.DeclarationLoops.{element-goes_on, element-grouped}
use Rattle.syntax.proofs.reader.Reader.take_element.Goals as goal

pub returns-in-Some : goal.returns-in-Some
returns-in-Some c =
    rw (element-goes_on _ _ _ c.in-Some.ensures c.skip.ensures) c.take_element_after.ensures

pub returns : goal.returns
returns c = grind (arith, element-grouped)
