use Rattle.stack_compiler.proofs.Prelude.{arith, map, row_view}
use Rattle.stack_compiler.proofs.RowLoops.{code_noted}
use Rattle.stack_compiler.proofs.tables.note_all.Goals as goal

pub returns : goal.returns
returns c =
    code_noted (map row_view c.loop-at.tables.items) _ c.args.code.now c.loop-at.at
    c.loop-at.invariant (omega arith)
