use Rattle.interpreter.proofs.Prelude.{ByteValue, address_of, site_view}
use Rattle.interpreter.proofs.Loops.{value_put_last}
use Rattle.interpreter.proofs.contents.values.put_values.Goals as goal

pub returns-in-None : goal.returns-in-None
returns-in-None c =
    value_put_last c.loop-value.memory _ c.loop-value.address (address_of (site_view c.args.site.now))
    c.args.values.now c.loop-value.value-index
    c.loop-value.invariant (ByteValue 0) c.put_value.new.memory c.loop-value-test.true c.in-None.ensures.value
    c.put_value.ensures.memory c.in-None.ensures.next
