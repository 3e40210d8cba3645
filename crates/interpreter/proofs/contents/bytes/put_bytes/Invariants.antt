use Rattle.interpreter.proofs.Prelude.{◌≡◌, drop, written}
use Rattle.interpreter.proofs.contents.bytes.put_bytes.Given as goal

abbrev pub invariant-loop-byte : goal.invariant-loop-byte
invariant-loop-byte l =
    written l.memory l.address (drop l.byte-index l.bytes) ≡ written l.fn.memory l.start l.bytes
