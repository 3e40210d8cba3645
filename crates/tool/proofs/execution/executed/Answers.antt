use Rattle.tool.proofs.Prelude.{◌≡◌, rules, IsOnlyHalt, IsRun, Halted, started}
use Rattle.tool.proofs.ExecutionLemmas.{has_memory_of, is_faithful}
use Rattle.tool.proofs.execution.executed.Goals as goal

pub returns-clause-faithful : goal.returns-clause-faithful
returns-clause-faithful g c =
    let script = g.P.Ports.script c.args.ports in
    let events = g.P.Ports.events c.args.ports in
    let failures = g.P.Ports.failures c.args.ports in
    let run : IsRun c.args.limit (started c.args.built.now.image c.args.memory script events failures)
    c.run-end.result c.run-end.new.self = search rules in
    let halt : c.run-end.result ≡ Halted
    → IsOnlyHalt (started c.args.built.now.image c.args.memory script events failures)
    c.run-end.new.self = search rules in
    λ never. is_faithful c.args.built.now.image c.args.memory script events failures _
    (c.machine_of-machine.ensures.agrees never) c.args.limit c.run-end.result c.run-end.new.self run halt

pub returns-clause-memory : goal.returns-clause-memory
returns-clause-memory g c =
    let script = g.P.Ports.script c.args.ports in
    let events = g.P.Ports.events c.args.ports in
    let failures = g.P.Ports.failures c.args.ports in
    let run : IsRun c.args.limit (started c.args.built.now.image c.args.memory script events failures)
    c.run-end.result c.run-end.new.self = search rules in
    λ never. λ halted. has_memory_of c.args.built.now c.args.memory script events failures _
    (c.machine_of-machine.ensures.alike never) c.args.limit c.run-end.result c.run-end.new.self halted run
