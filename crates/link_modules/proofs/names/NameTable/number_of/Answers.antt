use Rattle.link_modules.proofs.Prelude.{ap, ◌∙◌, position, bytes_eq, position_borrowed}
use Rattle.link_modules.proofs.names.NameTable.number_of.Goals as goal

pub returns : goal.returns
returns c =
    c.get_index_of.ensures.index
    ∙ position_borrowed c.args.name.now c.self.inside.names.keys
    ∙ ap (position (bytes_eq c.args.name.now)) c.self.view_is
