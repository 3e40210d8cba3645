use Rattle.link_modules.proofs.Prelude.{drop, SoFar}
use Rattle.link_modules.proofs.pieces.pieces_of.Given as goal

abbrev pub invariant-loop-input : goal.invariant-loop-input
invariant-loop-input g l =
    SoFar l.code l.data_end l.stack l.placed.items (drop l.input-index l.inputs) l.inputs
