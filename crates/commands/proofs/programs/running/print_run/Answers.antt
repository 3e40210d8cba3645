use Rattle.commands.proofs.{Prelude.{status_of, values_in}, Printed.{image_stopped, lines_stopped, runs_image, runs_with_lines}, PrintedReports.{printed_as, stopped_as}}
use Rattle.commands.proofs.programs.running.print_run.Goals as goal

pub returns-then-not-settings-clause-ok : goal.returns-then-not-settings-clause-ok
returns-then-not-settings-clause-ok g c =
    printed_as _ _ _
    (λ ending. runs_image (values_in c.args.settings.now) c.args.built.now c.image-image.result.now _ _
    c.image-image.ensures.shown (status_of ending) _)
    c.print_image.ensures.ok

pub returns-then-not-settings-clause-err : goal.returns-then-not-settings-clause-err
returns-then-not-settings-clause-err g c =
    stopped_as _
    (image_stopped (values_in c.args.settings.now) c.args.built.now c.image-image.result.now _ _
    c.image-image.ensures.shown)
    c.print_image.ensures.err

pub returns-clause-ok : goal.returns-clause-ok
returns-clause-ok g c =
    printed_as _ _ _
    (λ ending. runs_with_lines (values_in c.args.settings.now) c.args.built.now c.image-image.result.now _ _
    c.image-image.ensures.shown c.program.result.now c.program.ensures.shown (status_of ending) _)
    c.print_image-2.ensures.ok

pub returns-clause-err : goal.returns-clause-err
returns-clause-err g c =
    stopped_as _
    (lines_stopped (values_in c.args.settings.now) c.args.built.now c.image-image.result.now _ _
    c.image-image.ensures.shown c.program.result.now c.program.ensures.shown)
    c.print_image-2.ensures.err
