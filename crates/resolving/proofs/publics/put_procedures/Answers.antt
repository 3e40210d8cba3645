use Rattle.resolving.proofs.Prelude.{ap, ◌∙◌, arith, found_at, with_public}
use Rattle.resolving.proofs.PublicNames.{procedure_put, procedures_put}
use Rattle.resolving.proofs.publics.put_procedures.Goals as goal

pub loop-number-preserved : goal.loop-number-preserved
loop-number-preserved c =
    procedure_put c.loop-number.table.entries _ c.args.number_of_module c.args.procedures.now
    c.loop-number.number c.loop-number.invariant
    c.index-procedures-number.result c.put_public.new.table.entries (omega arith) c.index-procedures-number.is
    (c.in_ok-put_public.ensures
    ∙ ap
    (λ public. with_public c.loop-number.table.entries public c.index-procedures-number.result.name
    (found_at c.args.number_of_module c.loop-number.number))
    c.is_public_procedure-is_public.ensures)

pub returns : goal.returns
returns c =
    procedures_put c.loop-number.table.entries _ c.args.number_of_module c.args.procedures.now
    c.loop-number.number c.loop-number.invariant (omega arith)
