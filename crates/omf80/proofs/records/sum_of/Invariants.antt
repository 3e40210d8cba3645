use Rattle.omf80.proofs.Prelude.{◌≡◌, ◌%◌, take, sum}
use Rattle.omf80.proofs.records.sum_of.Given as goal

abbrev pub invariant-loop-byte : goal.invariant-loop-byte
invariant-loop-byte l = l.total ≡ sum (take l.byte-index l.bytes) % 256
