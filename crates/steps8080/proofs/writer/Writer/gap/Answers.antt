use Rattle.steps8080.proofs.Prelude.{refl, Gap}
use Rattle.steps8080.proofs.Numbered.{writes_known}
use Rattle.steps8080.proofs.writer.Writer.gap.Goals as goal

pub returns : goal.returns
returns c =
    writes_known _ _ _ (Gap c.args.count) (Gap c.args.count)
    c.self.view_is c.in_ok-leave.ensures.ok refl refl refl refl
