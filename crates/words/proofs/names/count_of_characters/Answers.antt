use Rattle.words.proofs.NamesLemmas.{length-name_of}
use Rattle.words.proofs.Prelude.{rules}
use Rattle.words.proofs.names.count_of_characters.Goals as goal

pub returns : goal.returns
returns c = search (rules, length-name_of)
