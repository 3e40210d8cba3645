use Rattle.printing.proofs.Prelude.{subst, arith, flat_map, Appends, Appends-trans, take, common_steps, shown_line, beginning_after, on_err}
use Rattle.printing.proofs.ReportLemmas.{all_written, lines_more, lines_parts}
use Rattle.printing.proofs.lines.write_events.Goals as goal

pub returns-in_err-write_group-clause-err : goal.returns-in_err-write_group-clause-err
returns-in_err-write_group-clause-err g c =
    let events = c.args.events.now in
    on_err c.from_residual.result _
    (beginning_after _ _ _ (flat_map (shown_line c.args.quiet.now) (take c.loop-at.at events)) _ _ _
    (lines_parts c.args.quiet.now events _ c.loop-at.at c.min-count.result (grind (arith, common_steps)))
    c.loop-at.invariant.written c.in_err-write_group.ensures.err)

pub loop-at-preserved : goal.loop-at-preserved
loop-at-preserved g c =
    let events = c.args.events.now in
    record {
      fits = omega arith;
      written =
          subst (Appends _ _)
          (lines_more c.args.quiet.now events _ c.loop-at.at c.min-count.result (grind (arith, common_steps)))
          (Appends-trans _ _ _ _ _ c.loop-at.invariant.written c.in_ok-write_group.ensures.ok);
    }

pub returns-clause-ok : goal.returns-clause-ok
returns-clause-ok g c =
    all_written c.args.quiet.now _ _ c.args.events.now c.loop-at.at (omega arith) c.loop-at.invariant.written
