use Rattle.command_line.proofs.{Prelude.{◌∙◌, arith}, PortFiles.{colon_there, no_colon}}
use Rattle.command_line.proofs.port_files.port_and_name.Goals as goal

pub returns-in-Some : goal.returns-in-Some
returns-in-Some c =
    let parts = c.in-Some.ensures.byte (omega arith) (λ w o finds. finds) in
    c.port_of.ensures ∙ colon_there c.args.text.now c.in-Some.digits.now c.in-Some.name.now
    parts.0 parts.1 parts.2

pub returns-in-None : goal.returns-in-None
returns-in-None c = no_colon c.args.text.now (c.in-None.ensures.byte (omega arith) (λ w o finds. finds))
