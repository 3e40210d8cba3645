use Rattle.asm8080.proofs.Prelude.{sym, subst, refl, ◌<◌}
use Rattle.asm8080.proofs.ItemLemmas.{bound_kept, other_more, of_fields_back}
use Rattle.asm8080.proofs.code.Code.jump.Goals as goal

pub invariant_of-self-2 : goal.invariant_of-self-2
invariant_of-self-2 c =
    other_more _ _ _ _ c.self.invariant
    (subst (λ n. n < c.self.inside.labels) (sym c.label.view_is)
    (of_fields_back _ _ (λ a. c.args.label < a.labels) c.self.view_is c.requires.known))
    (λ label. refl)
    c.in_ok-store.ensures.items

pub returns-clause-bound : goal.returns-clause-bound
returns-clause-bound c =
    bound_kept c.args.self.now _ _ _ c.self.view_is (λ label. refl) c.in_ok-store.ensures.items
