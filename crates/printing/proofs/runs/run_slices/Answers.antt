use Rattle.printing.proofs.Prelude.{arith, ◌-◌, on_err}
use Rattle.printing.proofs.RunLemmas.{begins_at, last_slice, lines_written, none_made, none_made_at, run_grows, slice_begun, slice_ends, slice_made}
use Rattle.printing.proofs.runs.run_slices.Goals as goal

pub returns-in_err-write_from-clause-err : goal.returns-in_err-write_from-clause-err
returns-in_err-write_from-clause-err g c =
    on_err c.from_residual.result _
    (begins_at c.args.quiet.now c.args.limit c.args.machine.now _ _ 0 c.args.machine.now (omega arith)
    (none_made c.args.machine.now).state c.in_err-write_from.ensures.err)

pub loop-left-init : goal.loop-left-init
loop-left-init g c = record {
  within = omega arith;
  made = none_made_at c.args.machine.now (c.args.limit - c.args.limit) (omega arith);
  written = c.in_ok-write_from.ensures.ok;
}

pub returns-in_err-end-clause-err : goal.returns-in_err-end-clause-err
returns-in_err-end-clause-err g c =
    let i = c.loop-left.invariant in
    on_err c.from_residual-in_err-end.result _
    (slice_begun c.args.quiet.now c.args.limit c.args.machine.now _ _ _ c.loop-left.machine
    (c.args.limit - c.loop-left.left) i.made i.written 1000000 c.run_slice.new.machine (omega arith)
    c.in_err-end.ensures.err)

pub loop-left-preserved : goal.loop-left-preserved
loop-left-preserved g c =
    let i = c.loop-left.invariant in
    record {
      within = omega arith;
      made = slice_made c.args.machine.now c.loop-left.machine c.run_slice.new.machine
          (c.args.limit - c.loop-left.left) 1000000 c.in_ok-end.end i.made c.in_ok-end.ensures.run
          _ (omega arith) c.in-Limit.is c.run_slice.ensures.script;
      written =
          lines_written c.args.quiet.now _ _ _ _ _
          (run_grows 1000000 c.loop-left.machine c.run_slice.new.machine c.in_ok-end.end
          c.in_ok-end.ensures.run) i.written c.in_ok-end.ensures.lines;
    }

pub returns-in_default : goal.returns-in_default
returns-in_default g c =
    let i = c.loop-left.invariant in
    record {
      run = slice_ends c.args.machine.now c.loop-left.machine c.run_slice.new.machine
          (c.args.limit - c.loop-left.left) 1000000 c.in_ok-end.end i.made c.in_ok-end.ensures.run
          c.args.limit (omega arith) c.in_default.not-Limit;
      lines = lines_written c.args.quiet.now _ _ _ _ _
          (run_grows 1000000 c.loop-left.machine c.run_slice.new.machine c.in_ok-end.end
          c.in_ok-end.ensures.run) i.written c.in_ok-end.ensures.lines;
      err = tt;
    }

pub returns-in_err-end-2-clause-err : goal.returns-in_err-end-2-clause-err
returns-in_err-end-2-clause-err g c =
    let i = c.loop-left.invariant in
    on_err c.from_residual-in_err-end-2.result _
    (slice_begun c.args.quiet.now c.args.limit c.args.machine.now _ _ _ c.loop-left.machine
    (c.args.limit - c.loop-left.left) i.made i.written c.loop-left.left c.run_slice-2.new.machine
    (omega arith) c.in_err-end-2.ensures.err)

pub returns-clause-run : goal.returns-clause-run
returns-clause-run g c =
    let i = c.loop-left.invariant in
    last_slice c.args.machine.now c.loop-left.machine c.run_slice-2.new.machine
    (c.args.limit - c.loop-left.left) c.loop-left.left c.in_ok-end-2.end i.made c.in_ok-end-2.ensures.run
    c.args.limit (omega arith)

pub returns-clause-lines : goal.returns-clause-lines
returns-clause-lines g c =
    let i = c.loop-left.invariant in
    lines_written c.args.quiet.now _ _ _ _ _
    (run_grows c.loop-left.left c.loop-left.machine c.run_slice-2.new.machine c.in_ok-end-2.end
    c.in_ok-end-2.ensures.run) i.written c.in_ok-end-2.ensures.lines
