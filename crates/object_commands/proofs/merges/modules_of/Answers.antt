use Rattle.object_commands.proofs.Prelude.{AllZip, ◌+◌, take, sym, subst, arith, Spells}
use Rattle.link.proofs.Reading.{bytes_of, one_more}
use Rattle.object_commands.proofs.merges.modules_of.Goals as goal

pub loop-file-preserved : goal.loop-file-preserved
loop-file-preserved c =
    subst (AllZip Spells (bytes_of (take (c.loop-file.file-index + 1) c.args.files.now)))
    (sym c.in_ok-push.ensures.items)
    (one_more c.args.files.now c.loop-file.modules.items c.loop-file.file-index _
    c.in_ok-module.module (omega arith)
    c.loop-file.invariant c.in_ok-module.ensures.spelled)
