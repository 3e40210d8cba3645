use Rattle.std.proofs.Common.{refl}
use Rattle.convert.proofs.LabelsFound.{name_found}
use Rattle.convert.proofs.labels.is_label_of.Goals as goal

pub returns-in-Some : goal.returns-in-Some
returns-in-Some c =
    name_found c.in-Some.name c.args.text.now c.args.words.now c.has_label.result
    (c.in-Some.ensures.valid.0 refl) c.in-Some.ensures.same c.has_label.ensures
