use Rattle.object_writing.proofs.Prelude.{ap, subst, flat_map, Appends, Appends-trans, AppendsBeginning, on_err, part_bytes, external_parts, publics_text, on_err_then, on_ok_then}
use Rattle.object_writing.proofs.Sequences.{first_begun, last_of_two_begun}
use Rattle.object_writing.proofs.text.write_names.Goals as goal

pub returns-in_err-write_external_names-clause-err : goal.returns-in_err-write_external_names-clause-err
returns-in_err-write_external_names-clause-err g c =
    on_err c.from_residual.result _
    (first_begun _ _ _ _
    (subst (AppendsBeginning _ _) (ap (λ names. flat_map part_bytes (external_parts names))
    c.externals.ensures)
    c.in_err-write_external_names.ensures.err))

pub returns-clause-ok : goal.returns-clause-ok
returns-clause-ok g c =
    on_ok_then c.write_all_publics.result _ _ c.write_all_publics.ensures.ok
    (λ done. Appends-trans _ _ _ _ _
    (subst (Appends _ _) (ap (λ names. flat_map part_bytes (external_parts names)) c.externals.ensures)
    c.in_ok-write_external_names.ensures.ok)
    (subst (Appends _ _) (ap publics_text c.publics.ensures) done))

pub returns-clause-err : goal.returns-clause-err
returns-clause-err g c =
    on_err_then c.write_all_publics.result _ _ c.write_all_publics.ensures.err
    (λ done. last_of_two_begun _ _ _ _ _
    (subst (Appends _ _) (ap (λ names. flat_map part_bytes (external_parts names)) c.externals.ensures)
    c.in_ok-write_external_names.ensures.ok)
    (subst (AppendsBeginning _ _) (ap publics_text c.publics.ensures) done))
