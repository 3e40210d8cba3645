use Rattle.codegen8080.proofs.Marked.{all_contents}
use Rattle.codegen8080.proofs.marking.size_of_constants.Goals as goal

pub returns : goal.returns
returns c =
    all_contents c.loop-left.size _ c.loop-left.left.now c.in_default.len_below c.loop-left.invariant.fits
    c.loop-left.invariant.sum
