use Rattle.hex80.proofs.Prelude.{arith}
use Rattle.hex80.proofs.ReadLemmas.{line_in_front}
use Rattle.hex80.proofs.read.first_line.Goals as goal

pub returns-then-end-text-clause-lines : goal.returns-then-end-text-clause-lines
returns-then-end-text-clause-lines c =
    line_in_front c.args.text.now c.without_return.result.now c.line_end-end.result (omega arith)
    c.line_end-end.ensures.before (c.line_end-end.ensures.found (omega arith)) c.without_return.ensures
