use Rattle.hex80.proofs.Prelude.{◌≡◌, ◌*◌, take, drop, bytes_in}
use Rattle.hex80.proofs.ReadLemmas.{in_front}
use Rattle.hex80.proofs.read.put_bytes.Given as goal

abbrev pub invariant-loop-i : goal.invariant-loop-i
invariant-loop-i l = bytes_in l.digits ≡ in_front (take l.i l.buffer) (bytes_in (drop (2 * l.i) l.digits))
