use Rattle.link.proofs.Prelude.{◌+◌, take, sym, subst, arith, AllZip, Spells}
use Rattle.link.proofs.Reading.{bytes_of, one_more}
use Rattle.link.proofs.judge_files.Goals as goal

pub loop-file-preserved : goal.loop-file-preserved
loop-file-preserved c =
    subst (AllZip Spells (bytes_of (take (c.loop-file.file-index + 1) c.args.files.now)))
    (sym c.in_ok-push.ensures.items)
    (one_more c.args.files.now c.loop-file.objects.items c.loop-file.file-index _
    c.in_ok-object.object (omega arith)
    c.loop-file.invariant c.in_ok-object.ensures.spelled)
