use Rattle.hex80.proofs.Prelude.{◌≡◌, ◌%◌, take, sum}
use Rattle.hex80.proofs.sum.byte_sum.Given as goal

abbrev pub invariant-loop-byte : goal.invariant-loop-byte
invariant-loop-byte l = l.total ≡ sum (take l.byte-index l.bytes) % 256
