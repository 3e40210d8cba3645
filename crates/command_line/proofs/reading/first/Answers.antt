use Rattle.command_line.proofs.Prelude.{◌∙◌, first_value-rows, found_of}
use Rattle.command_line.proofs.reading.first.Goals as goal

pub returns : goal.returns
returns c = c.get_str.ensures ∙ first_value-rows (found_of c.args.matches.now) c.args.name.now
