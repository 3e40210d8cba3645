use Rattle.resolving.proofs.Prelude.{map, ap, ◌∙◌, arith, procedure_view, with_procedures}
use Rattle.resolving.proofs.PublicNames.{procedures_of_module_put, all_procedures_put}
use Rattle.resolving.proofs.publics.public_procedures.Goals as goal

pub loop-number_of_module-preserved : goal.loop-number_of_module-preserved
loop-number_of_module-preserved c =
    procedures_of_module_put c.loop-number_of_module.table.entries _ c.args.modules.now
    c.loop-number_of_module.number_of_module c.loop-number_of_module.invariant
    c.index-modules-number_of_module.result c.put_procedures.new.table.entries (omega arith)
    c.index-modules-number_of_module.is
    (c.in_ok-put_procedures.ensures
    ∙ ap (λ items. with_procedures c.loop-number_of_module.table.entries
    c.loop-number_of_module.number_of_module 0 (map procedure_view items)) c.as_slice.ensures.value)

pub returns : goal.returns
returns c =
    all_procedures_put c.loop-number_of_module.table.entries _ c.args.modules.now
    c.loop-number_of_module.number_of_module c.loop-number_of_module.invariant (omega arith)
