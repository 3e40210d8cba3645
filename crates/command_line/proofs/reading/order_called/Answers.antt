use Rattle.command_line.proofs.{Prelude.{◌≡◌, ◌∙◌, IfOk, Option, ap, found_of, option_map, subst, Wanted, wanted_in, wanted_of_command}, CommandLemmas.{wanted_is}}
use Rattle.clap.specs.Words.{rows_of}
use Rattle.command_line.proofs.reading.order_called.Goals as goal

pub returns-in-Some : goal.returns-in-Some
returns-in-Some c =
    let rows = rows_of (found_of c.args.matches.now) in
    subst (λ (wanted : Option Wanted). IfOk c.order_for.result (λ order. option_map wanted_in order ≡ wanted))
    (ap (option_map (λ command. wanted_of_command command rows)) c.in-Some.ensures
    ∙ wanted_is c.args.word.now rows) c.order_for.ensures

pub returns-in-None : goal.returns-in-None
returns-in-None c =
    let rows = rows_of (found_of c.args.matches.now) in
    ap (option_map (λ command. wanted_of_command command rows)) c.in-None.ensures
    ∙ wanted_is c.args.word.now rows
