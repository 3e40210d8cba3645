use Rattle.object_writing.proofs.Prelude.{◌+◌, refl, arith, subst, length-drop, on_err, run_text}
use Rattle.object_writing.proofs.RunsLeft.{RunLeft, run_start, next_cut, next_cut_begun, all_cuts}
use Rattle.object_writing.proofs.run.write_run.Goals as goal

pub loop-at-init : goal.loop-at-init
loop-at-init g c = record {
  run =
      subst
      (λ place. RunLeft c.args.segment place c.args.bytes.now c.args.fixes.now
      (g.W.Write.contents c.args.out.now)
      (g.W.Write.contents c.args.out.now)
      (run_text c.args.segment c.args.offset c.args.bytes.now c.args.fixes.now))
      (omega arith)
      (run_start c.args.segment c.args.offset c.args.bytes.now c.args.fixes.now _ c.requires.fixes);
  bytes = omega arith;
  fixes = omega arith;
}

pub loop-at-preserved : goal.loop-at-preserved
loop-at-preserved g c = record {
  run =
      next_cut c.args.segment c.args.offset c.loop-at.at c.loop-at.first c.size_of_cut-size.result
      c.fixes_before-count.result (c.args.offset + c.loop-at.at) c.args.bytes.now
      c.args.fixes.now (omega arith) refl
      c.size_of_cut-size.ensures.size c.fixes_before-count.ensures.count _ _ _ c.loop-at.invariant.run _
      c.in_ok-write_content.ensures.ok;
  bytes = omega arith;
  fixes = omega (arith, length-drop c.loop-at.first c.args.fixes.now);
}

pub returns-in_err-write_content-clause-err : goal.returns-in_err-write_content-clause-err
returns-in_err-write_content-clause-err g c =
    on_err c.from_residual.result _
    (next_cut_begun c.args.segment c.args.offset c.loop-at.at c.loop-at.first c.size_of_cut-size.result
    c.fixes_before-count.result (c.args.offset + c.loop-at.at) c.args.bytes.now
    c.args.fixes.now (omega arith) refl
    c.size_of_cut-size.ensures.size c.fixes_before-count.ensures.count _ _ _ c.loop-at.invariant.run _
    c.in_err-write_content.ensures.err)

pub returns-clause-ok : goal.returns-clause-ok
returns-clause-ok g c =
    all_cuts c.args.segment (c.args.offset + c.loop-at.at) c.loop-at.at c.args.bytes.now _ _ _ _ (omega arith)
    c.loop-at.invariant.run
