use Rattle.codegen8080.proofs.Prelude.{ShiftRightByte, ShiftLeftAddress, ShiftRightAddress}
use Rattle.codegen8080.proofs.ModuleParts.{no_routines, routine_then}
use Rattle.codegen8080.proofs.module.with_shifts.Goals as goal

pub returns : goal.returns
returns c =
    routine_then c.args.tree.now c.args.is_called.now ShiftRightByte _ _ _ _ c.in_ok-writer.ensures
    (routine_then c.args.tree.now c.args.is_called.now ShiftLeftAddress _ _ _ _ c.in_ok-writer-2.ensures
    (routine_then c.args.tree.now c.args.is_called.now ShiftRightAddress _ _ _ _ c.in_ok-writer-3.ensures
    (no_routines c.args.tree.now c.args.is_called.now _)))
