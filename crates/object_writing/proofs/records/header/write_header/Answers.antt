use Rattle.object_writing.proofs.Prelude.{ap, subst, ◌∙◌, bytes_of, AppendsBeginning, on_err_then}
use Rattle.omf80.specs.declared.kind.RecordKind.TheVariants as kinds
use Rattle.object_writing.proofs.records.header.write_header.Goals as goal

pub returns-clause-err : goal.returns-clause-err
returns-clause-err g c =
    on_err_then c.write_body.result _ _ c.write_body.ensures.err
    (subst (AppendsBeginning _ _)
    (ap (λ body. bytes_of (record { kind = kinds.Header; body = body })) c.as_slice.ensures.bytes
    ∙ c.header_body-body.ensures))
