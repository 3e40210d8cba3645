use Rattle.interpreter.proofs.Prelude.{length, zip_end}
use Rattle.interpreter.proofs.Pairs.{lists_ended}
use Rattle.interpreter.proofs.contents.objects.put_lists.Goals as goal

pub returns : goal.returns
returns c =
    lists_ended c.args.lists.now c.args.addresses.now (length c.loop-bytes.yielded) c.loop-bytes.memory _
    c.loop-bytes.invariant
    (zip_end c.args.lists.now c.args.addresses.now c.loop-bytes.yielded c.into_iter-bytes-iterator.result
    c.loop-bytes.bytes-iterator c.next.new.self c.next.result (cc) (cc) c.loop-bytes.yielded_by
    c.in-None.is c.next.ensures.steps)
