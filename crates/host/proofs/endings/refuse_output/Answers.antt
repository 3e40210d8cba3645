use Rattle.host.proofs.{Prelude.{refl}, LinesPrinted.{same_line, tells_output}}
use Rattle.host.proofs.endings.refuse_output.Goals as goal

pub returns-clause-line : goal.returns-clause-line
returns-clause-line g c = same_line _ _ _ _ _ _ _ c.number.ensures refl c.refuse.ensures.told

pub returns-clause-told : goal.returns-clause-told
returns-clause-told g c =
    tells_output _ _ (same_line _ _ _ _ _ _ _ c.number.ensures refl c.refuse.ensures.told)
