use Rattle.object_writing.proofs.Prelude.{on_err, on_err_then}
use Rattle.object_writing.proofs.Sequences.{first_begun, second_begun}
use Rattle.object_writing.proofs.records.header.write_end.Goals as goal

pub returns-in_err-write_module_end-clause-err : goal.returns-in_err-write_module_end-clause-err
returns-in_err-write_module_end-clause-err g c =
    on_err c.from_residual.result _ (first_begun _ _ _ _ c.in_err-write_module_end.ensures.err)

pub returns-clause-err : goal.returns-clause-err
returns-clause-err g c =
    on_err_then c.write_body.result _ _ c.write_body.ensures.err
    (second_begun _ _ _ _ _ _ c.in_ok-write_module_end.ensures.ok)
