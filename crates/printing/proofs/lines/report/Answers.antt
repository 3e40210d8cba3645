use Rattle.printing.proofs.Prelude.{on_err}
use Rattle.printing.proofs.ReportLemmas.{begun_report, ended_report}
use Rattle.printing.proofs.lines.report.Goals as goal

pub returns-in_err-write_events-clause-err : goal.returns-in_err-write_events-clause-err
returns-in_err-write_events-clause-err g c =
    on_err c.from_residual.result _
    (begun_report c.args.quiet.now _ _ c.args.events.now c.args.last.now
    c.in_err-write_events.ensures.err)

pub returns-clause-err : goal.returns-clause-err
returns-clause-err g c =
    ended_report c.args.quiet.now _ _ _ c.args.events.now c.args.last.now c.in_ok-write_events.ensures.ok
    c.write_line.result c.write_line.ensures.err
