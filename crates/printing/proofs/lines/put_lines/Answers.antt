use Rattle.printing.proofs.Prelude.{arith, common_steps}
use Rattle.printing.proofs.ReportLemmas.{text_with_line}
use Rattle.printing.proofs.lines.put_lines.Goals as goal

pub loop-event-preserved : goal.loop-event-preserved
loop-event-preserved c = record {
  fits = omega arith;
  lines = text_with_line c.args.quiet.now c.args.events.now _ c.loop-event.text c.put_line-end.new.text _
      c.loop-event.event-index c.loop-event.end c.put_line-end.result (omega arith)
      (grind (arith, common_steps)) (grind (arith, common_steps)) c.loop-event.invariant.lines
      c.put_line-end.ensures.line;
}
