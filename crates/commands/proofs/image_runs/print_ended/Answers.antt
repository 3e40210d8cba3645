use Rattle.commands.proofs.{Prelude.{◌∙◌, values_in, names_in}, ImageRuns.{image_begun, image_printed}, PrintedReports.{ended_so}}
use Rattle.commands.proofs.image_runs.print_ended.Goals as goal

pub returns-clause-ok : goal.returns-clause-ok
returns-clause-ok g c =
    image_printed (values_in c.args.values.now) c.args.image.now c.args.memory (g.P.Ports.script c.args.ports) _ _
    c.machine_of-machine.result _ _ c.requires.start c.requires.gives c.requires.none c.requires.unfailed
    c.machine_of-machine.ensures (names_in c.args.places.now) _ _ _ (c.log-events.ensures ∙ c.ports.ensures.events)
    c.in-Ok.ensures _ _ c.print_report.ensures.ending c.print_report.ensures.gathered c.print_report.ensures.ok

pub returns-clause-ended : goal.returns-clause-ended
returns-clause-ended g c = ended_so _ _ c.in-Ok.ensures.ended c.print_report.ensures.ending

pub returns-clause-err : goal.returns-clause-err
returns-clause-err g c =
    image_begun (values_in c.args.values.now) c.args.image.now c.args.memory (g.P.Ports.script c.args.ports) _ _
    c.machine_of-machine.result _ _ c.requires.start c.requires.gives c.requires.none c.requires.unfailed
    c.machine_of-machine.ensures (names_in c.args.places.now) _ _ _ (c.log-events.ensures ∙ c.ports.ensures.events)
    c.in-Ok.ensures _ c.print_report.ensures.err
