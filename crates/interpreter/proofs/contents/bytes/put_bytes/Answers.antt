use Rattle.interpreter.proofs.Loops.{byte_put_last}
use Rattle.interpreter.proofs.contents.bytes.put_bytes.Goals as goal

pub returns-in-None : goal.returns-in-None
returns-in-None c =
    byte_put_last c.loop-byte.memory _ c.loop-byte.address c.args.bytes.now c.loop-byte.byte-index
    c.loop-byte.invariant
    c.put_byte.new.memory c.loop-byte-test.true c.in-None.ensures.byte c.put_byte.ensures.memory
    c.in-None.ensures.next
