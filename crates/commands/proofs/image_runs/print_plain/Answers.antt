use Rattle.commands.proofs.{Prelude.{◌∙◌, on_err, values_in}, ImageRuns.{plain_begun, plain_printed, plain_whole}}
use Rattle.commands.proofs.image_runs.print_plain.Goals as goal

pub returns-clause-ok : goal.returns-clause-ok
returns-clause-ok g c =
    plain_printed (values_in c.args.values.now) c.args.image.now c.args.memory c.args.script.script _ _ c.machine_of-machine.result _ _ c.requires.start c.requires.gives c.requires.none c.requires.unfailed c.machine_of-machine.ensures
    c.requires.plain c.requires.to_end c.requires.unplaced _ (c.as_slice.ensures.value ∙ c.in-Ok.ensures)
    _ _ _ _ _ (c.events.ensures.events ∙ c.ports.ensures.events) c.in-Ok-put_outputs.ensures c.word_of-ending.ensures.status
    c.in_ok-end.ensures.ok

pub returns-in_err-end-clause-err : goal.returns-in_err-end-clause-err
returns-in_err-end-clause-err g c =
    on_err c.from_residual.result _
    (plain_begun (values_in c.args.values.now) c.args.image.now c.args.memory c.args.script.script _ _ c.machine_of-machine.result _ _ c.requires.start c.requires.gives c.requires.none c.requires.unfailed c.machine_of-machine.ensures
    c.requires.plain c.requires.to_end c.requires.unplaced _ (c.as_slice.ensures.value ∙ c.in-Ok.ensures) c.in_err-end.ensures.err)

pub returns-in_default-put_outputs-clause-err : goal.returns-in_default-put_outputs-clause-err
returns-in_default-put_outputs-clause-err g c =
    plain_whole (values_in c.args.values.now) c.args.image.now c.args.memory c.args.script.script _ _ c.machine_of-machine.result _ _ c.requires.start c.requires.gives c.requires.none c.requires.unfailed c.machine_of-machine.ensures
    c.requires.plain c.requires.to_end c.requires.unplaced _ (c.as_slice.ensures.value ∙ c.in-Ok.ensures) _ _ c.in_ok-end.ensures.ok
