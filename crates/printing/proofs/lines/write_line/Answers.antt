use Rattle.printing.proofs.Prelude.{on_err}
use Rattle.printing.proofs.ReportLemmas.{first_begun, then_begun_result}
use Rattle.printing.proofs.lines.write_line.Goals as goal

pub returns-in_err-write_bytes-clause-err : goal.returns-in_err-write_bytes-clause-err
returns-in_err-write_bytes-clause-err g c =
    on_err c.from_residual.result _
    (first_begun _ _ (g.W.Write.contents c.write_bytes.new.out) c.args.last.now _
    (rw c.as_bytes.ensures.value at c.in_err-write_bytes.ensures.err))

pub returns-clause-err : goal.returns-clause-err
returns-clause-err g c =
    then_begun_result _ _ _ c.args.last.now _ (rw c.as_bytes.ensures.value at c.in_ok-write_bytes.ensures.ok)
    c.write_bytes-2.result c.write_bytes-2.ensures.err
