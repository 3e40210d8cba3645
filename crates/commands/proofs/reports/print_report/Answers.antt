use Rattle.commands.proofs.{Prelude.{◌∙◌, on_err, values_in}, PrintedReports.{report_begun, nothing}}
use Rattle.commands.proofs.reports.print_report.Goals as goal

pub returns-in_default-clause-err : goal.returns-in_default-clause-err
returns-in_default-clause-err g c = nothing (values_in c.args.values.now) c.args.events.now c.args.outcome.now.steps c.args.outcome.now.word.now c.args.outcome.now.text.bytes.items (g.O.Write.contents c.args.out.now)

pub returns-in_default-word_with_place-clause-err : goal.returns-in_default-word_with_place-clause-err
returns-in_default-word_with_place-clause-err g c = nothing (values_in c.args.values.now) c.args.events.now c.args.outcome.now.steps c.args.outcome.now.word.now c.args.outcome.now.text.bytes.items (g.O.Write.contents c.args.out.now)

pub returns-in_default-ending_words-clause-err : goal.returns-in_default-ending_words-clause-err
returns-in_default-ending_words-clause-err g c = nothing (values_in c.args.values.now) c.args.events.now c.args.outcome.now.steps c.args.outcome.now.word.now c.args.outcome.now.text.bytes.items (g.O.Write.contents c.args.out.now)

pub returns-in_default-put_outputs-clause-err : goal.returns-in_default-put_outputs-clause-err
returns-in_default-put_outputs-clause-err g c = nothing (values_in c.args.values.now) c.args.events.now c.args.outcome.now.steps c.args.outcome.now.word.now c.args.outcome.now.text.bytes.items (g.O.Write.contents c.args.out.now)

pub returns-in_err-report-clause-err : goal.returns-in_err-report-clause-err
returns-in_err-report-clause-err g c =
    on_err c.from_residual.result _
    (report_begun (values_in c.args.values.now) c.args.events.now c.args.outcome.now.steps c.args.outcome.now.word.now
    c.args.outcome.now.text.bytes.items _ _ _ _ _ _ (c.as_slice.ensures.value ∙ c.in-Ok.ensures) c.as_str.ensures.value
    (c.as_str-2.ensures.value ∙ c.in-Ok-word_with_place.ensures)
    (c.as_str-3.ensures.value ∙ c.in-Ok-ending_words.ensures)
    c.in_err-report.ensures.err)
