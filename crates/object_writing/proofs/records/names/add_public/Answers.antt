use Rattle.object_writing.proofs.Prelude.{length, Some, None, ap, sym, subst, ◌∙◌, cond-true, AppendsBeginning, same_segment, definition_bytes, definition_of, owned_public_view, flushed, flushed_by, on_err_then}
use Rattle.object_writing.proofs.records.names.add_public.Goals as goal

pub returns-then-is_in-clause-err : goal.returns-then-is_in-clause-err
returns-then-is_in-clause-err g c =
    let public = c.args.public.now in
    on_err_then c.add_definition.result _ _ c.add_definition.ensures.err
    (subst (AppendsBeginning _ _)
    (ap (λ name. flushed c.args.group.now
    (length (definition_bytes (record { offset = public.offset; name = name }))))
    c.as_slice.ensures.same
    ∙ ap (flushed_by c.args.group.now)
    (sym
    (cond-true (same_segment public.segment c.args.segment)
    (Some (definition_bytes (definition_of (owned_public_view public)))) None
    (sym c.is_in.ensures ∙ c.if-is_in.true)))))
