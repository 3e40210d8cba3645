use Rattle.printing.proofs.Prelude.{on_err}
use Rattle.printing.proofs.RunLemmas.{last_begun}
use Rattle.printing.proofs.runs.print_machine.Goals as goal

pub returns-in_err-write_line-clause-err : goal.returns-in_err-write_line-clause-err
returns-in_err-write_line-clause-err g c =
    on_err c.from_residual-in_err-write_line.result _
    (last_begun c.args.quiet.now c.args.limit c.args.machine.now c.run_slices.new.machine
    c.in_ok-end.end _ _ _ c.word_of.result.now c.in_ok-end.ensures.run c.in_ok-end.ensures.lines
    c.word_of.ensures c.in_err-write_line.ensures.err)
