use Rattle.codegen8080.proofs.Prelude.{first_routines, last_routines, next_routines, ◌++◌}
use Rattle.codegen8080.proofs.ModuleParts.{routines_then}
use Rattle.codegen8080.proofs.module.with_routines.Goals as goal

pub returns : goal.returns
returns c =
    routines_then c.args.tree.now c.args.is_called.now first_routines (next_routines ++ last_routines) _ _ _
    c.in_ok-writer.ensures
    (routines_then c.args.tree.now c.args.is_called.now next_routines last_routines _ _ _
    c.in_ok-writer-2.ensures c.in_ok-writer-3.ensures)
