use Rattle.command_line.proofs.{Prelude.{◌∙◌, sym, texts}, PortFiles.{files_end, names_read, none_left}}
use Rattle.command_line.proofs.port_files.port_files.Goals as goal

pub returns-in_err-push-in-Ok-clause-memory : goal.returns-in_err-push-in-Ok-clause-memory
returns-in_err-push-in-Ok-clause-memory c =
    λ none. absurd
    (none_left c.loop-rest.rest.now c.args.words.now c.in-len1-up.len_at_least
    c.loop-rest.invariant.fits none)

pub returns-clause-names : goal.returns-clause-names
returns-clause-names c =
    names_read c.args.input.now _ (texts c.args.words.now)
    (sym c.loop-rest.invariant.read ∙ files_end c.args.input.now _ c.loop-rest.rest.now
    c.in_default.len_below)
