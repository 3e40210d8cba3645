use Rattle.object_writing.proofs.Prelude.{arith, length-drop, on_err}
use Rattle.object_writing.proofs.RunsLeft.{segment_start, next_fixes, next_within, next_more, next_begun, all_runs}
use Rattle.object_writing.proofs.Texts.{places_few}
use Rattle.object_writing.proofs.text.write_segment.Goals as goal

pub loop-run-init : goal.loop-run-init
loop-run-init g c = record {
  segment =
      segment_start c.args.object.now c.args.segment c.runs-runs.result.now c.fixes-fixes.result.now _
      c.runs-runs.ensures.fixed c.fixes-fixes.ensures.fixes;
  fixes = omega arith;
}

pub loop-run-preserved : goal.loop-run-preserved
loop-run-preserved g c = record {
  segment =
      next_more c.args.object.now c.args.segment c.runs-runs.result.now c.loop-run.run-index
      c.offset-offset.result
      c.loop-run.first c.fixes_before-count.result c.run-item.result c.run-item.result
      c.bytes-bytes.result.now
      c.fixes-fixes.result.now (omega arith) c.run-item.is c.offset-offset.ensures c.bytes-bytes.ensures
      c.fixes_before-count.ensures.count _ _ c.loop-run.invariant.segment _ c.in_ok-write_run.ensures.ok;
  fixes = omega (arith, length-drop c.loop-run.first c.fixes-fixes.result.now);
}

pub returns-in_err-write_run-clause-err : goal.returns-in_err-write_run-clause-err
returns-in_err-write_run-clause-err g c =
    on_err c.from_residual.result _
    (next_begun c.args.object.now c.args.segment c.runs-runs.result.now c.loop-run.run-index
    c.offset-offset.result
    c.loop-run.first c.fixes_before-count.result c.run-item.result c.run-item.result c.bytes-bytes.result.now
    c.fixes-fixes.result.now (omega arith) c.run-item.is c.offset-offset.ensures c.bytes-bytes.ensures
    c.fixes_before-count.ensures.count _ _ c.loop-run.invariant.segment _ c.in_err-write_run.ensures.err)

pub write_run-requires-clause-within : goal.write_run-requires-clause-within
write_run-requires-clause-within g c =
    next_within c.args.object.now c.args.segment c.runs-runs.result.now c.loop-run.run-index
    c.offset-offset.result
    c.loop-run.first c.fixes_before-count.result c.run-item.result c.run-item.result c.bytes-bytes.result.now
    c.fixes-fixes.result.now (omega arith) c.run-item.is c.offset-offset.ensures c.bytes-bytes.ensures
    c.fixes_before-count.ensures.count _ _ c.loop-run.invariant.segment
    (places_few c.args.object.now c.args.segment c.requires)

pub write_run-requires-clause-fixes : goal.write_run-requires-clause-fixes
write_run-requires-clause-fixes g c =
    next_fixes c.args.object.now c.args.segment c.runs-runs.result.now c.loop-run.run-index
    c.offset-offset.result
    c.loop-run.first c.fixes_before-count.result c.run-item.result c.run-item.result c.bytes-bytes.result.now
    c.fixes-fixes.result.now (omega arith) c.run-item.is c.offset-offset.ensures c.bytes-bytes.ensures
    c.fixes_before-count.ensures.count _ _ c.loop-run.invariant.segment

pub returns-clause-ok : goal.returns-clause-ok
returns-clause-ok g c =
    all_runs c.args.object.now c.args.segment c.runs-runs.result.now c.loop-run.run-index _ _ _ (omega arith)
    c.loop-run.invariant.segment
