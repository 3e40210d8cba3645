use Rattle.steps8080.proofs.Prelude.{rules}
use Rattle.steps8080.proofs.Numbered.{no_numbering}
use Rattle.steps8080.proofs.externals.Externals.new.Goals as goal

pub invariant_of-result : goal.invariant_of-result
invariant_of-result c = λ few. no_numbering c.new.result.items (search rules)
