-- Some steps led here; the script of the ports and their failures are as before.
use Rattle.stack_machine.proofs.Prelude.{◌≡◌, length, weight_of}
use Rattle.stack_machine.proofs.Leading.{LeadsTo}
use Rattle.stack_machine.proofs.machine.StackMachine.go_on.Given as goal

abbrev pub invariant-loop-self : goal.invariant-loop-self
invariant-loop-self g l =
    record {
      leads : LeadsTo l.loaded (g.P.Ports.script l.fn.ports) l.fn.self (g.P.Ports.events l.fn.ports) l.self
          (g.P.Ports.events l.ports);
      script : g.P.Ports.script l.ports ≡ g.P.Ports.script l.fn.ports;
      failures : g.P.Ports.failures l.ports ≡ g.P.Ports.failures l.fn.ports;
    }

abbrev pub decreases-loop-self : goal.decreases-loop-self
decreases-loop-self g l = weight_of (length l.loaded.code.now) l.self
