use Rattle.commands.proofs.Prelude.{codes, refl, same_line, tells_other}
use Rattle.commands.proofs.refusals.refuse_value.Goals as goal

pub returns-clause-line : goal.returns-clause-line
returns-clause-line g c = same_line _ _ _ _ _ _ _ c.number.ensures refl c.refuse-refused.ensures.told

pub returns-clause-told : goal.returns-clause-told
returns-clause-told g c = tells_other (codes "U4") _ 0 _ _ refl (same_line _ _ _ _ _ _ _ c.number.ensures refl c.refuse-refused.ensures.told)
