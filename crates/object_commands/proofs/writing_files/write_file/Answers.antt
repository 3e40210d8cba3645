use Rattle.object_commands.proofs.{Prelude.{◌∙◌, arith, rules, common_steps, on_err}, FilesWritten.{file_begun, file_grown, not_begun, stopped_midway, written_whole}}
use Rattle.object_commands.proofs.writing_files.write_file.Goals as goal

pub loop-sent-preserved : goal.loop-sent-preserved
loop-sent-preserved g c =
    let bytes = c.args.bytes.now in
    let n = c.in_ok-sent.field-0 in
    let bound = c.in_ok-sent.ensures.bound in
    record {
      fits = grind (arith, common_steps);
      count = c.in_ok-sent.ensures.count ∙ c.loop-sent.invariant.count;
      written =
          file_grown _ _ _ c.args.name.now bytes _ c.loop-sent.sent n (grind (arith, common_steps))
          c.loop-sent.invariant.written c.in_ok-sent.ensures.ok;
    }

pub loop-sent-init : goal.loop-sent-init
loop-sent-init g c = record {
  fits = omega arith;
  count = c.in_ok-begin.ensures.count;
  written = file_begun _ _ _ c.args.bytes.now c.in_ok-begin.ensures.ok;
}

pub returns-in_err-begin-clause-err : goal.returns-in_err-begin-clause-err
returns-in_err-begin-clause-err g c =
    on_err c.from_residual.result _ (not_begun _ _ _ _ c.in_err-begin.ensures.err)

pub returns-in_err-sent-clause-err : goal.returns-in_err-sent-clause-err
returns-in_err-sent-clause-err g c =
    on_err c.from_residual-in_err-sent.result _
    (stopped_midway _ _ _ _ _ c.loop-sent.sent c.loop-sent.invariant.written c.in_err-sent.ensures.err)

pub returns-clause-ok : goal.returns-clause-ok
returns-clause-ok g c =
    written_whole _ _ _ _ c.loop-sent.sent c.loop-sent.invariant.fits (search rules)
    c.loop-sent.invariant.written
