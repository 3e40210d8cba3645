use Rattle.symbols.proofs.Keys.{same_keys}
use Rattle.symbols.proofs.name_set.NameSet.number_of.Goals as goal

pub returns : goal.returns
returns c = rw (← c.self.view_is, ← same_keys) c.get_index_of.ensures.index
