use Rattle.link_modules.proofs.Prelude.{ap, ◌∙◌, is_among, among_borrowed}
use Rattle.link_modules.proofs.names.NameTable.contains.Goals as goal

pub returns : goal.returns
returns c =
    c.contains.ensures
    ∙ among_borrowed c.args.name.now c.self.inside.names.keys
    ∙ ap (is_among c.args.name.now) c.self.view_is
