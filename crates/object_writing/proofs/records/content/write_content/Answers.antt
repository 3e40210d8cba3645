use Rattle.object_writing.proofs.Prelude.{sym, subst, Appends, Appends-trans, AppendsBeginning, on_err, on_err_then, on_ok_then}
use Rattle.object_writing.proofs.FixTexts.{content_is}
use Rattle.object_writing.proofs.Sequences.{first_begun, last_of_two_begun}
use Rattle.object_writing.proofs.records.content.write_content.Goals as goal

pub returns-in_err-write_bytes_at-clause-err : goal.returns-in_err-write_bytes_at-clause-err
returns-in_err-write_bytes_at-clause-err g c =
    on_err c.from_residual.result _
    (subst (AppendsBeginning _ _) (sym (content_is c.args.segment c.args.offset
    c.args.bytes.now c.args.fixes.now))
    (first_begun _ _ _ _ c.in_err-write_bytes_at.ensures.err))

pub returns-clause-ok : goal.returns-clause-ok
returns-clause-ok g c =
    on_ok_then c.write_fixes.result _ _ c.write_fixes.ensures.ok
    (λ done. subst (Appends _ _) (sym (content_is c.args.segment c.args.offset
    c.args.bytes.now c.args.fixes.now))
    (Appends-trans _ _ _ _ _ c.in_ok-write_bytes_at.ensures.ok done))

pub returns-clause-err : goal.returns-clause-err
returns-clause-err g c =
    on_err_then c.write_fixes.result _ _ c.write_fixes.ensures.err
    (λ done. subst (AppendsBeginning _ _)
    (sym (content_is c.args.segment c.args.offset c.args.bytes.now c.args.fixes.now))
    (last_of_two_begun _ _ _ _ _ c.in_ok-write_bytes_at.ensures.ok done))
