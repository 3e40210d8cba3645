use Rattle.std.proofs.Common.{◌∙◌}
use Rattle.convert.proofs.LabelsFound.{none_in_few}
use Rattle.convert.proofs.labels.has_label.Goals as goal

pub returns : goal.returns
returns c =
    none_in_few c.args.name c.loop-rest.rest.now c.in_default.len_below ∙ c.loop-rest.invariant.found
