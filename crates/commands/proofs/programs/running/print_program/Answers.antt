use Rattle.commands.proofs.programs.running.print_program.Goals as goal

pub returns-in-Run-clause-ok : goal.returns-in-Run-clause-ok
returns-in-Run-clause-ok g c = rw c.in-Run.is c.print_run.ensures.ok

pub returns-in-Run-clause-err : goal.returns-in-Run-clause-err
returns-in-Run-clause-err g c = rw c.in-Run.is c.print_run.ensures.err

pub returns-in-Interpret-clause-ok : goal.returns-in-Interpret-clause-ok
returns-in-Interpret-clause-ok g c = rw c.in-Interpret.is c.print_meaning.ensures.ok

pub returns-in-Interpret-clause-err : goal.returns-in-Interpret-clause-err
returns-in-Interpret-clause-err g c = rw c.in-Interpret.is c.print_meaning.ensures.err
