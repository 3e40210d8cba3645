use Rattle.object_writing.proofs.Prelude.{on_err, on_err_then, on_ok_then}
use Rattle.object_writing.proofs.Sequences.{first_begun, second_begun, last_of_three_begun, three_written}
use Rattle.object_writing.proofs.records.content.write_fixes_to.Goals as goal

pub returns-in_err-write_kind-clause-err : goal.returns-in_err-write_kind-clause-err
returns-in_err-write_kind-clause-err g c =
    on_err c.from_residual.result _ (first_begun _ _ _ _ c.in_err-write_kind.ensures.err)

pub returns-in_err-write_kind-2-clause-err : goal.returns-in_err-write_kind-2-clause-err
returns-in_err-write_kind-2-clause-err g c =
    on_err c.from_residual-in_err-write_kind-2.result _
    (second_begun _ _ _ _ _ _ c.in_ok-write_kind.ensures.ok c.in_err-write_kind-2.ensures.err)

pub returns-clause-ok : goal.returns-clause-ok
returns-clause-ok g c =
    on_ok_then c.write_kind-3.result _ _ c.write_kind-3.ensures.ok
    (three_written (g.W.Write.contents c.args.out.now) (g.W.Write.contents c.write_kind.new.out)
    (g.W.Write.contents c.write_kind-2.new.out) (g.W.Write.contents c.write_kind-3.new.out)
    _ _ _ c.in_ok-write_kind.ensures.ok c.in_ok-write_kind-2.ensures.ok)

pub returns-clause-err : goal.returns-clause-err
returns-clause-err g c =
    on_err_then c.write_kind-3.result _ _ c.write_kind-3.ensures.err
    (last_of_three_begun (g.W.Write.contents c.args.out.now) (g.W.Write.contents c.write_kind.new.out)
    (g.W.Write.contents c.write_kind-2.new.out) (g.W.Write.contents c.write_kind-3.new.out)
    _ _ _ c.in_ok-write_kind.ensures.ok c.in_ok-write_kind-2.ensures.ok)
