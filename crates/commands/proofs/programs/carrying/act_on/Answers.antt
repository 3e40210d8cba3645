use Rattle.commands.proofs.{Prelude.{ap, ◌∙◌, texts_of}, Printed.{prints_texts}, Untold.{refuses_texts}}
use Rattle.commands.proofs.programs.carrying.act_on.Goals as goal

pub returns-in-Ok-clause-ran : goal.returns-in-Ok-clause-ran
returns-in-Ok-clause-ran g c = λ other. prints_texts _ _ _ _ _ _ _ _ _ (ap texts_of c.as_slice-in-Ok.ensures.value ∙ c.in-Ok.ensures) (c.act.ensures.ran other)

pub returns-in-Ok-clause-refused : goal.returns-in-Ok-clause-refused
returns-in-Ok-clause-refused g c = λ refused. refuses_texts _ _ _ _ _ _ _ _ _ _ (ap texts_of c.as_slice-in-Ok.ensures.value ∙ c.in-Ok.ensures) (c.act.ensures.refused refused)
