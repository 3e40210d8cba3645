use Rattle.link_modules.proofs.Prelude.{not, ap, ◌∙◌, is_among, among_borrowed}
use Rattle.link_modules.proofs.names.NameTable.insert.Goals as goal

pub returns-clause-new : goal.returns-clause-new
returns-clause-new c =
    c.in_ok-is_new.ensures.added
    ∙ ap not
    (among_borrowed c.args.name.now c.self.inside.names.keys ∙ ap (is_among c.args.name.now) c.self.view_is)
