use Rattle.tool.proofs.Prelude.{started}
use Rattle.tool.proofs.ExecutionLemmas.{has_memory_of, prints_ended}
use Rattle.printing.specs.Printing.{PrintsRun}
use Rattle.tool.proofs.execution.print_run.Goals as goal

pub returns-clause-faithful : goal.returns-clause-faithful
returns-clause-faithful g c =
    λ never. λ halted. prints_ended c.args.quiet.now c.args.built.now.image c.args.memory c.args.script.script
    c.args.script.events c.args.script.failures _
    (c.machine_of-machine.ensures.agrees never) c.args.limit c.in_ok-end.end
    c.print_machine.new.machine _ _ halted
    (rw c.machine_of-machine.ensures.started at c.in_ok-end.ensures.ok)
    (rw c.machine_of-machine.ensures.started at c.in_ok-end.ensures.halt)

pub returns-clause-memory : goal.returns-clause-memory
returns-clause-memory g c =
    let script = c.args.script.script in
    let events = c.args.script.events in
    let failures = c.args.script.failures in
    let prints : PrintsRun c.args.quiet.now c.args.limit
    (started c.args.built.now.image c.args.memory script events failures) c.in_ok-end.end
    c.print_machine.new.machine _ _ = rw c.machine_of-machine.ensures.started at c.in_ok-end.ensures.ok in
    λ never. λ halted. has_memory_of c.args.built.now c.args.memory script events failures _
    (c.machine_of-machine.ensures.alike never) c.args.limit c.in_ok-end.end c.print_machine.new.machine halted
    prints.run
