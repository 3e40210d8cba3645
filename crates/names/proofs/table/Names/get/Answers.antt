use Rattle.names.proofs.Prelude.{same_keys}
use Rattle.names.proofs.table.Names.get.Goals as goal

pub returns-in-Some : goal.returns-in-Some
returns-in-Some c = rw (← c.self.view_is, ← same_keys) c.in-Some.ensures.value

pub returns-in-None : goal.returns-in-None
returns-in-None c = rw (← c.self.view_is, ← same_keys) c.in-None.ensures.value
