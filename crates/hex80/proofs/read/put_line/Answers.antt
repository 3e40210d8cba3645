use Rattle.hex80.proofs.Prelude.{arith}
use Rattle.hex80.proofs.ReadLemmas.{long_line}
use Rattle.hex80.proofs.read.put_line.Goals as goal

pub returns-then-line-clause-bytes : goal.returns-then-line-clause-bytes
returns-then-line-clause-bytes c = long_line c.args.line.now (omega arith)
