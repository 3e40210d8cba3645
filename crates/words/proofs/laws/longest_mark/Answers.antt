use Rattle.words.proofs.LawsTables.{longest_mark}
use Rattle.words.proofs.laws.longest_mark.Goals as goal

pub returns : goal.returns
returns c = longest_mark
