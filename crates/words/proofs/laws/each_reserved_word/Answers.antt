use Rattle.words.proofs.LawsTables.{each_reserved_word}
use Rattle.words.proofs.laws.each_reserved_word.Goals as goal

pub returns : goal.returns
returns c = each_reserved_word
