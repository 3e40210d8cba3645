use Rattle.std.proofs.Common.{take, drop, arith, sym, take-append-drop}
use Rattle.std.proofs.lemmas.Grind.{common_steps}
use Rattle.failure.proofs.WritingLemmas.{beginning_kept, on_err, sent_more}
use Rattle.failure.proofs.writing.write_bytes.Goals as goal

pub returns-in_err-sent-clause-err : goal.returns-in_err-sent-clause-err
returns-in_err-sent-clause-err g c =
    let bytes = c.args.bytes.now in
    let sent = c.loop-sent.sent in
    on_err c.from_residual.result _
    (beginning_kept _ _ _ (take sent bytes) (drop sent bytes) bytes (sym (take-append-drop sent bytes))
    c.loop-sent.invariant.appended c.in_err-sent.ensures.bytes)

pub loop-sent-preserved : goal.loop-sent-preserved
loop-sent-preserved g c =
    let bytes = c.args.bytes.now in
    let n = c.in_ok-sent.field-0 in
    let bound = c.in_ok-sent.ensures.bound in
    record {
      fits = grind (arith, common_steps);
      appended =
          sent_more _ _ _ bytes _ c.loop-sent.sent n (grind (arith, common_steps))
          c.loop-sent.invariant.appended c.in_ok-sent.ensures.bytes;
    }
