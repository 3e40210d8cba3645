use Rattle.object_writing.proofs.Prelude.{ap, subst, Appends, AppendsBeginning, end_text, on_err, on_err_then, on_ok_then}
use Rattle.object_writing.proofs.Sequences.{first_begun, second_begun, last_of_three_begun, three_written}
use Rattle.object_writing.proofs.text.write_rest.Goals as goal

pub returns-in_err-write_segment-clause-err : goal.returns-in_err-write_segment-clause-err
returns-in_err-write_segment-clause-err g c =
    on_err c.from_residual.result _ (first_begun _ _ _ _ c.in_err-write_segment.ensures.err)

pub returns-in_err-write_segment-2-clause-err : goal.returns-in_err-write_segment-2-clause-err
returns-in_err-write_segment-2-clause-err g c =
    on_err c.from_residual-in_err-write_segment-2.result _
    (second_begun _ _ _ _ _ _ c.in_ok-write_segment.ensures.ok c.in_err-write_segment-2.ensures.err)

pub returns-clause-ok : goal.returns-clause-ok
returns-clause-ok g c =
    on_ok_then c.write_end.result _ _ c.write_end.ensures.ok
    (λ done. three_written (g.W.Write.contents c.args.out.now) (g.W.Write.contents c.write_segment.new.out)
    (g.W.Write.contents c.write_segment-2.new.out) (g.W.Write.contents c.write_end.new.out) _ _ _
    c.in_ok-write_segment.ensures.ok c.in_ok-write_segment-2.ensures.ok
    (subst (Appends _ _) (ap end_text c.start.ensures.start) done))

pub returns-clause-err : goal.returns-clause-err
returns-clause-err g c =
    on_err_then c.write_end.result _ _ c.write_end.ensures.err
    (λ done. last_of_three_begun (g.W.Write.contents c.args.out.now)
    (g.W.Write.contents c.write_segment.new.out)
    (g.W.Write.contents c.write_segment-2.new.out) (g.W.Write.contents c.write_end.new.out) _ _ _
    c.in_ok-write_segment.ensures.ok c.in_ok-write_segment-2.ensures.ok
    (subst (AppendsBeginning _ _) (ap end_text c.start.ensures.start) done))
