use Rattle.symbols.proofs.Keys.{same_keys}
use Rattle.symbols.proofs.name_set.NameSet.contains.Goals as goal

pub returns : goal.returns
returns c = rw (← c.self.view_is, ← same_keys) c.contains.ensures
