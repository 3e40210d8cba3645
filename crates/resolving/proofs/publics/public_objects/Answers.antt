use Rattle.resolving.proofs.Prelude.{map, ap, ◌∙◌, arith, object_view, with_objects}
use Rattle.resolving.proofs.PublicNames.{objects_of_module_put, all_objects_put}
use Rattle.resolving.proofs.publics.public_objects.Goals as goal

pub loop-number_of_module-preserved : goal.loop-number_of_module-preserved
loop-number_of_module-preserved c =
    objects_of_module_put c.loop-number_of_module.table.entries _ c.args.modules.now
    c.loop-number_of_module.number_of_module c.loop-number_of_module.invariant
    c.index-modules-number_of_module.result c.put_objects.new.table.entries (omega arith)
    c.index-modules-number_of_module.is
    (c.in_ok-put_objects.ensures
    ∙ ap (λ items. with_objects c.loop-number_of_module.table.entries c.loop-number_of_module.number_of_module
    0 (map object_view items)) c.as_slice.ensures.value)

pub returns : goal.returns
returns c =
    all_objects_put c.loop-number_of_module.table.entries _ c.args.modules.now
    c.loop-number_of_module.number_of_module c.loop-number_of_module.invariant (omega arith)
