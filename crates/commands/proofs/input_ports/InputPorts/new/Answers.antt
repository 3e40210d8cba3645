use Rattle.commands.proofs.PortReads.{all_left}
use Rattle.commands.proofs.input_ports.InputPorts.new.Goals as goal

pub invariant_of-result : goal.invariant_of-result
invariant_of-result c = all_left c.args.input.now c.args.script.script c.args.script.events c.bytes_left.result c.requires.gives c.requires.none c.bytes_left.ensures
