use Rattle.host.proofs.{Prelude.{codes, refl}, LinesPrinted.{tells_other}}
use Rattle.host.proofs.endings.refuse_memory.Goals as goal

pub returns-clause-told : goal.returns-clause-told
returns-clause-told g c = tells_other (codes "MEMORY") (codes "-") 0 _ _ refl c.refuse.ensures.told
