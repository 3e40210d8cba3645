use Rattle.commands.proofs.{Prelude.{◌∙◌, refl}, Steps.{begins, ends_so, fault_counted, goes_further, halt_counted, illegal_counted, limit_counted, limit_run}}
use Rattle.commands.proofs.image_runs.run_counted.Goals as goal

pub loop-done-init : goal.loop-done-init
loop-done-init g c = (begins c.args.limit c.args.machine.now c.requires.run, tt)

pub loop-done-preserved : goal.loop-done-preserved
loop-done-preserved g c = (
  goes_further c.args.limit c.args.machine.now c.loop-done.done c.loop-done.machine c.loop-done.invariant.0 c.run.new.self c.run.result c.run.ensures.run c.run.ensures.script c.loop-done-test.true _ c.in-Limit.is refl,
  c.line_after-line.ensures,
)

pub returns-in-Halted-clause-run : goal.returns-in-Halted-clause-run
returns-in-Halted-clause-run g c = ends_so c.args.limit c.args.machine.now c.loop-done.done c.loop-done.machine c.loop-done.invariant.0 c.run.new.self c.run.result c.run.ensures.run c.run.ensures.script c.loop-done-test.true _ c.in-Halted.is (λ h. cc)

pub returns-in-Halted-clause-counted : goal.returns-in-Halted-clause-counted
returns-in-Halted-clause-counted g c = halt_counted c.args.limit c.args.machine.now c.loop-done.done c.loop-done.machine c.loop-done.invariant.0 c.run.new.self c.run.result c.run.ensures.run c.run.ensures.script c.loop-done-test.true c.run.new.self.state.events _ c.in-Halted.is refl

pub returns-in-Halted-clause-script : goal.returns-in-Halted-clause-script
returns-in-Halted-clause-script g c = c.run.ensures.script ∙ c.loop-done.invariant.0.made.script

pub returns-in-Illegal-clause-run : goal.returns-in-Illegal-clause-run
returns-in-Illegal-clause-run g c = ends_so c.args.limit c.args.machine.now c.loop-done.done c.loop-done.machine c.loop-done.invariant.0 c.run.new.self c.run.result c.run.ensures.run c.run.ensures.script c.loop-done-test.true _ c.in-Illegal.is (λ h. cc)

pub returns-in-Illegal-clause-counted : goal.returns-in-Illegal-clause-counted
returns-in-Illegal-clause-counted g c = illegal_counted c.args.limit c.args.machine.now c.loop-done.done c.loop-done.machine c.loop-done.invariant.0 c.run.new.self c.run.result c.run.ensures.run c.run.ensures.script c.loop-done-test.true c.run.new.self.state.events _ c.in-Illegal.is refl

pub returns-in-Illegal-clause-script : goal.returns-in-Illegal-clause-script
returns-in-Illegal-clause-script g c = c.run.ensures.script ∙ c.loop-done.invariant.0.made.script

pub returns-in-PortFault-clause-run : goal.returns-in-PortFault-clause-run
returns-in-PortFault-clause-run g c = ends_so c.args.limit c.args.machine.now c.loop-done.done c.loop-done.machine c.loop-done.invariant.0 c.run.new.self c.run.result c.run.ensures.run c.run.ensures.script c.loop-done-test.true _ c.in-PortFault.is (λ h. cc)

pub returns-in-PortFault-clause-counted : goal.returns-in-PortFault-clause-counted
returns-in-PortFault-clause-counted g c = fault_counted c.args.limit c.args.machine.now c.loop-done.done c.loop-done.machine c.loop-done.invariant.0 c.run.new.self c.run.result c.run.ensures.run c.run.ensures.script c.loop-done-test.true _ c.in-PortFault.is refl

pub returns-in-PortFault-clause-script : goal.returns-in-PortFault-clause-script
returns-in-PortFault-clause-script g c = c.run.ensures.script ∙ c.loop-done.invariant.0.made.script

pub returns-clause-run : goal.returns-clause-run
returns-clause-run g c = limit_run c.args.limit c.args.machine.now c.loop-done.done c.loop-done.machine c.loop-done.invariant.0 c.loop-done-test.false

pub returns-clause-counted : goal.returns-clause-counted
returns-clause-counted g c = limit_counted c.args.limit c.args.machine.now c.loop-done.done c.loop-done.machine c.loop-done.invariant.0 c.loop-done.machine.state.events c.loop-done-test.false

pub returns-clause-script : goal.returns-clause-script
returns-clause-script g c = c.loop-done.invariant.0.made.script
