use Rattle.object_commands.proofs.{Prelude.{refl, same_line}, Refused.{object_told}}
use Rattle.object_commands.proofs.refusals.refuse_object.Goals as goal

pub returns-clause-line : goal.returns-clause-line
returns-clause-line g c = same_line _ _ _ _ _ _ _ c.number.ensures refl c.refuse.ensures.told

pub returns-clause-told : goal.returns-clause-told
returns-clause-told g c = object_told _ _ _ _ _ _ c.number.ensures c.refuse.ensures.told
