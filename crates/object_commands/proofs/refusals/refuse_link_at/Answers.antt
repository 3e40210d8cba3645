use Rattle.object_commands.proofs.{Prelude.{refl, same_line}, Refused.{link_told}}
use Rattle.object_commands.proofs.refusals.refuse_link_at.Goals as goal

pub returns-clause-line : goal.returns-clause-line
returns-clause-line g c = same_line _ _ _ _ _ _ _ c.number.ensures refl c.refuse_name.ensures.told

pub returns-clause-told : goal.returns-clause-told
returns-clause-told g c = link_told _ _ _ _ _ _ c.number.ensures c.refuse_name.ensures.told
