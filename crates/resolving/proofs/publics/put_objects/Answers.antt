use Rattle.resolving.proofs.Prelude.{arith}
use Rattle.resolving.proofs.PublicNames.{object_put, objects_put}
use Rattle.resolving.proofs.publics.put_objects.Goals as goal

pub loop-number-preserved : goal.loop-number-preserved
loop-number-preserved c =
    object_put c.loop-number.table.entries _ c.args.number_of_module c.args.objects.now c.loop-number.number
    c.loop-number.invariant
    c.index-objects-number.result c.put_public.new.table.entries (omega arith) c.index-objects-number.is
    c.in_ok-put_public.ensures

pub returns : goal.returns
returns c =
    objects_put c.loop-number.table.entries _ c.args.number_of_module c.args.objects.now c.loop-number.number
    c.loop-number.invariant (omega arith)
