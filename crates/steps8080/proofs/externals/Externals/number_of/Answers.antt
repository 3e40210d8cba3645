use Rattle.steps8080.proofs.Prelude.{refl, rules}
use Rattle.steps8080.proofs.Numbered.{numbering_more}
use Rattle.steps8080.proofs.externals.Externals.number_of.Goals as goal

pub invariant_of-self : goal.invariant_of-self
invariant_of-self c =
    numbering_more c.self.inside.numbers.items _ c.self.inside.used
    c.saturating_add-self-inside.result c.args.name
    c.unwrap_or-number.result c.self.invariant (search rules) (search rules)
    (search rules) (search rules) refl
