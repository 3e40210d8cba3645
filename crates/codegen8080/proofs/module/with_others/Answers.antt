use Rattle.codegen8080.proofs.Prelude.{RotateLeft, RotateRight, Move}
use Rattle.codegen8080.proofs.ModuleParts.{no_routines, routine_then}
use Rattle.codegen8080.proofs.module.with_others.Goals as goal

pub returns : goal.returns
returns c =
    routine_then c.args.tree.now c.args.is_called.now RotateLeft _ _ _ _ c.in_ok-writer.ensures
    (routine_then c.args.tree.now c.args.is_called.now RotateRight _ _ _ _ c.in_ok-writer-2.ensures
    (routine_then c.args.tree.now c.args.is_called.now Move _ _ _ _ c.in_ok-writer-3.ensures
    (no_routines c.args.tree.now c.args.is_called.now _)))
