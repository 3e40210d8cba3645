use Rattle.commands.proofs.{Prelude.{codes, refl, tells_other}, NeedRefused.{source_told}}
use Rattle.commands.proofs.printed_needs.refusals.refuse_need.Goals as goal

pub returns-in-TooManySources-clause-told : goal.returns-in-TooManySources-clause-told
returns-in-TooManySources-clause-told g c = tells_other (codes "U1") (codes "-") 0 _ _ refl c.refuse.ensures.told

pub returns-in-Source-clause-told : goal.returns-in-Source-clause-told
returns-in-Source-clause-told g c = source_told _ _ _ _ _ _ c.number.ensures c.refuse-in-Source.ensures.told
