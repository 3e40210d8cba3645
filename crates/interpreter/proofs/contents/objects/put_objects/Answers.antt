use Rattle.interpreter.proofs.Prelude.{length, zip_end, address_of, site_view}
use Rattle.interpreter.proofs.Pairs.{objects_ended}
use Rattle.interpreter.proofs.contents.objects.put_objects.Goals as goal

pub returns : goal.returns
returns c =
    objects_ended (address_of (site_view c.args.site.now)) c.args.objects.now c.args.addresses.now
    (length c.loop-object.yielded)
    c.loop-object.memory _ c.loop-object.invariant
    (zip_end c.args.objects.now c.args.addresses.now c.loop-object.yielded c.into_iter-object-iterator.result
    c.loop-object.object-iterator c.next.new.self c.next.result (cc) (cc) c.loop-object.yielded_by
    c.in-None.is c.next.ensures.steps)
