use Rattle.syntax.proofs.Prelude.{arith}
use Rattle.syntax.proofs.DeclarationLoops.{offsets_go_on, offsets-fail, offsets-end}
use Rattle.syntax.proofs.reader.Reader.take_offsets.Goals as goal

pub more-preserved : goal.more-preserved
more-preserved c =
    offsets_go_on _ _ _ _ _ _ _ c.more.invariant c.in-Some.ensures c.skip.ensures c.in_ok-constant.ensures
    c.in_ok-push.ensures.items

pub returns-in_err-constant : goal.returns-in_err-constant
returns-in_err-constant c = grind (arith, offsets-fail)

pub returns : goal.returns
returns c = grind (arith, offsets-end)
