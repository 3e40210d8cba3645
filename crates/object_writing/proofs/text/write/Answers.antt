use Rattle.object_writing.proofs.Prelude.{sym, subst, Appends, AppendsBeginning, on_err, on_err_then, on_ok_then}
use Rattle.object_writing.proofs.Sequences.{first_begun, second_begun, last_of_three_begun, three_written}
use Rattle.object_writing.proofs.Texts.{text_is}
use Rattle.object_writing.proofs.text.write.Goals as goal

pub returns-in_err-write_front-clause-err : goal.returns-in_err-write_front-clause-err
returns-in_err-write_front-clause-err g c =
    on_err c.from_residual.result _
    (subst (AppendsBeginning _ _) (sym (text_is c.args.object.now))
    (first_begun _ _ _ _ c.in_err-write_front.ensures.err))

pub returns-in_err-write_names-clause-err : goal.returns-in_err-write_names-clause-err
returns-in_err-write_names-clause-err g c =
    on_err c.from_residual-in_err-write_names.result _
    (subst (AppendsBeginning _ _) (sym (text_is c.args.object.now))
    (second_begun _ _ _ _ _ _ c.in_ok-write_front.ensures.ok c.in_err-write_names.ensures.err))

pub returns-clause-ok : goal.returns-clause-ok
returns-clause-ok g c =
    on_ok_then c.write_rest.result _ _ c.write_rest.ensures.ok
    (λ done. subst (Appends _ _) (sym (text_is c.args.object.now))
    (three_written _ _ _ _ _ _ _ c.in_ok-write_front.ensures.ok c.in_ok-write_names.ensures.ok done))

pub returns-clause-err : goal.returns-clause-err
returns-clause-err g c =
    on_err_then c.write_rest.result _ _ c.write_rest.ensures.err
    (λ done. subst (AppendsBeginning _ _) (sym (text_is c.args.object.now))
    (last_of_three_begun _ _ _ _ _ _ _ c.in_ok-write_front.ensures.ok c.in_ok-write_names.ensures.ok done))
