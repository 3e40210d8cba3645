use Rattle.tool.proofs.Prelude.{rules, IsMemory}
use Rattle.tool.proofs.execution.machine_of.Goals as goal

pub returns-clause-agrees : goal.returns-clause-agrees
returns-clause-agrees g c =
    let script = g.P.Ports.script c.args.ports in
    let events = g.P.Ports.events c.args.ports in
    let size : IsMemory c.args.memory = search rules in
    let bytes = g.met.P.Ports.holds_bytes c.args.ports in
    λ never. c.image-image.ensures.construction.headline c.args.memory script events size bytes never

pub returns-clause-alike : goal.returns-clause-alike
returns-clause-alike g c =
    let script = g.P.Ports.script c.args.ports in
    let events = g.P.Ports.events c.args.ports in
    let size : IsMemory c.args.memory = search rules in
    let bytes = g.met.P.Ports.holds_bytes c.args.ports in
    λ never. c.image-image.ensures.construction.memory c.args.memory script events size bytes never
