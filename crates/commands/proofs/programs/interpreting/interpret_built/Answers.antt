use Rattle.commands.proofs.{Printed.{same_source}, SourceRuns.{reads_so, stops_so, writes_so}}
use Rattle.commands.proofs.programs.interpreting.interpret_built.Goals as goal

pub returns-in-Ok-clause-does : goal.returns-in-Ok-clause-does
returns-in-Ok-clause-does g c =
    rw c.saturating_sub.ensures (stops_so _ _
    (same_source c.args.built.now c.program.result.now c.placement.result.now c.plan.result.now c.args.memory (g.P.Ports.script c.args.ports.now) (g.P.Ports.events c.args.ports.now)
    c.program.ensures.shown c.placement.ensures.shown c.plan.ensures.shown)
    c.args.budget _ _ _ c.in-Ok.ensures.meaning c.in-Ok.ensures.used)

pub returns-in-Err-Input-clause-does : goal.returns-in-Err-Input-clause-does
returns-in-Err-Input-clause-does g c =
    rw c.saturating_sub-in-Err-Input.ensures (reads_so _ _
    (same_source c.args.built.now c.program.result.now c.placement.result.now c.plan.result.now c.args.memory (g.P.Ports.script c.args.ports.now) (g.P.Ports.events c.args.ports.now)
    c.program.ensures.shown c.placement.ensures.shown c.plan.ensures.shown)
    c.args.budget _ _ _ (rw c.in-Err-Input.field-0-is at c.in-Err-Input.ensures.called))

pub returns-in-Err-Output-clause-does : goal.returns-in-Err-Output-clause-does
returns-in-Err-Output-clause-does g c =
    rw c.saturating_sub-in-Err-Output.ensures (writes_so _ _
    (same_source c.args.built.now c.program.result.now c.placement.result.now c.plan.result.now c.args.memory (g.P.Ports.script c.args.ports.now) (g.P.Ports.events c.args.ports.now)
    c.program.ensures.shown c.placement.ensures.shown c.plan.ensures.shown)
    c.args.budget _ _ _ (rw c.in-Err-Output.field-0-is at c.in-Err-Output.ensures.called))
