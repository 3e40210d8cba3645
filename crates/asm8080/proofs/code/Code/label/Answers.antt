use Rattle.asm8080.proofs.ItemLemmas.{label_unbound}
use Rattle.asm8080.proofs.code.Code.label.Goals as goal

pub returns-clause-unbound : goal.returns-clause-unbound
returns-clause-unbound c = label_unbound c.args.self.now _ c.self.view_is c.self.invariant
