use Rattle.object_reading.proofs.Prelude.{not, ap, ◌∙◌, is_among, among_borrowed}
use Rattle.object_reading.proofs.rules.names.NameSet.insert.Goals as goal

pub returns-clause-new : goal.returns-clause-new
returns-clause-new c =
    c.in_ok-is_new.ensures.added
    ∙ ap not
    (among_borrowed c.args.name.now c.self.inside.keys.keys ∙ ap (is_among c.args.name.now) c.self.view_is)
