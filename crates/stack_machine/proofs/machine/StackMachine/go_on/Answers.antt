-- Each turn carries out one instruction.
use Rattle.stack_machine.proofs.Prelude.{◌∙◌}
use Rattle.stack_machine.proofs.Leading.{code_ends, handed_on, input_fails, output_fails, performed, performed_input, performed_output, performed_stop}
use Rattle.stack_machine.proofs.machine.StackMachine.go_on.Goals as goal

pub loop-self-preserved-in-Ok-Nothing : goal.loop-self-preserved-in-Ok-Nothing
loop-self-preserved-in-Ok-Nothing g c =
    let i = c.loop-self.invariant in
    record {
      leads =
          performed c.args.loaded (g.P.Ports.script c.args.ports.now) c.args.self.now
          (g.P.Ports.events c.args.ports.now)
          c.loop-self.self (g.P.Ports.events c.loop-self.ports) i.leads c.loop-self-test.true
          c.carry_out.new.self c.in-Ok-Nothing.field-0 c.in-Ok-Nothing.field-0-is
          c.in-Ok-Nothing.ensures.performs;
      script = i.script;
      failures = i.failures;
    }

pub returns-in-Ok-Stop-clause-ended : goal.returns-in-Ok-Stop-clause-ended
returns-in-Ok-Stop-clause-ended g c =
    performed_stop c.args.loaded (g.P.Ports.script c.args.ports.now) c.args.self.now
    (g.P.Ports.events c.args.ports.now)
    c.loop-self.self (g.P.Ports.events c.loop-self.ports) c.loop-self.invariant.leads c.loop-self-test.true
    c.carry_out.new.self c.in-Ok-Stop.field-0 c.in-Ok-Stop.end c.in-Ok-Stop.field-0-is
    c.in-Ok-Stop.ensures.performs

pub loop-self-preserved-in-Continue-1 : goal.loop-self-preserved-in-Continue-1
loop-self-preserved-in-Continue-1 g c =
    let i = c.loop-self.invariant in
    let h = c.in_ok-input-in-Ok-Input.ensures in
    record {
      leads =
          performed_input c.args.loaded (g.P.Ports.script c.args.ports.now) c.args.self.now
          (g.P.Ports.events c.args.ports.now) c.loop-self.self (g.P.Ports.events c.loop-self.ports) i.leads
          c.loop-self-test.true c.carry_out.new.self c.input.new.self c.in-Ok-Input.field-0 c.in-Ok-Input.port
          (g.P.Ports.script c.loop-self.ports) (g.P.Ports.events c.input.new.ports) c.in-Ok-Input.field-0-is
          c.in-Ok-Input.ensures.performs i.script h.after h.event;
      script = h.script ∙ i.script;
      failures = h.count ∙ i.failures;
    }

pub loop-self-preserved : goal.loop-self-preserved
loop-self-preserved g c =
    let i = c.loop-self.invariant in
    let h = c.in_ok-output-in-Ok-Output.ensures in
    record {
      leads =
          performed_output c.args.loaded (g.P.Ports.script c.args.ports.now) c.args.self.now
          (g.P.Ports.events c.args.ports.now) c.loop-self.self (g.P.Ports.events c.loop-self.ports) i.leads
          c.loop-self-test.true c.carry_out.new.self c.output.new.self
          c.in-Ok-Output.field-0 c.in-Ok-Output.port
          (g.P.Ports.events c.output.new.ports) c.in-Ok-Output.field-0-is c.in-Ok-Output.ensures.performs
          h.after h.event;
      script = h.script ∙ i.script;
      failures = h.count ∙ i.failures;
    }

pub returns-clause-ended : goal.returns-clause-ended
returns-clause-ended g c =
    code_ends c.args.loaded (g.P.Ports.script c.args.ports.now) c.args.self.now
    (g.P.Ports.events c.args.ports.now)
    c.loop-self.self (g.P.Ports.events c.loop-self.ports) c.loop-self.invariant.leads c.loop-self-test.false

pub returns-in_err-input-in-Ok-Input-clause-called : goal.returns-in_err-input-in-Ok-Input-clause-called
returns-in_err-input-in-Ok-Input-clause-called g c =
    let h = c.in_err-input-in-Ok-Input.ensures in
    handed_on c.from_residual.result c.in_err-input-in-Ok-Input.field-0.0 _ c.from_residual.ensures.1
    (input_fails c.args.loaded (g.P.Ports.script c.args.ports.now) c.args.self.now
    (g.P.Ports.events c.args.ports.now)
    c.loop-self.self (g.P.Ports.events c.loop-self.ports) c.loop-self.invariant.leads c.loop-self-test.true
    c.carry_out.new.self c.in-Ok-Input.field-0 c.in-Ok-Input.port _ (g.P.Ports.events c.input.new.ports) _
    c.in-Ok-Input.field-0-is c.in-Ok-Input.ensures.performs h.none c.input.ensures.left h.called)

pub returns-in_err-output-in-Ok-Output-clause-called : goal.returns-in_err-output-in-Ok-Output-clause-called
returns-in_err-output-in-Ok-Output-clause-called g c =
    let h = c.in_err-output-in-Ok-Output.ensures in
    handed_on c.from_residual-in_err-output-in-Ok-Output.result c.in_err-output-in-Ok-Output.field-0.0 _
    c.from_residual-in_err-output-in-Ok-Output.ensures.1
    (output_fails c.args.loaded (g.P.Ports.script c.args.ports.now) c.args.self.now
    (g.P.Ports.events c.args.ports.now)
    c.loop-self.self (g.P.Ports.events c.loop-self.ports) c.loop-self.invariant.leads c.loop-self-test.true
    c.carry_out.new.self c.in-Ok-Output.field-0 c.in-Ok-Output.port _ (g.P.Ports.events c.output.new.ports) _
    c.in-Ok-Output.field-0-is c.in-Ok-Output.ensures.performs h.none c.output.ensures.left h.called)
