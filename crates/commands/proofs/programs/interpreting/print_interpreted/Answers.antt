use Rattle.commands.proofs.{Prelude.{values_in}, PrintedReports.{ended_so}, SourceRuns.{source_begun, source_printed}}
use Rattle.commands.proofs.programs.interpreting.print_interpreted.Goals as goal

pub returns-clause-ok : goal.returns-clause-ok
returns-clause-ok g c =
    source_printed (values_in c.args.settings.now) c.args.built.now c.args.memory (g.P.Ports.script c.args.ports) _ _ _
    c.requires.start c.requires.gives c.requires.none _ _ _ c.log-events.ensures c.in-Ok.ensures _ _
    c.print_report.ensures.ending c.print_report.ensures.gathered c.print_report.ensures.ok

pub returns-clause-ended : goal.returns-clause-ended
returns-clause-ended g c = ended_so _ _ c.in-Ok.ensures.ended c.print_report.ensures.ending

pub returns-clause-err : goal.returns-clause-err
returns-clause-err g c =
    source_begun (values_in c.args.settings.now) c.args.built.now c.args.memory (g.P.Ports.script c.args.ports) _ _ _
    c.requires.start c.requires.gives c.requires.none _ _ _ c.log-events.ensures c.in-Ok.ensures _
    c.print_report.ensures.err
