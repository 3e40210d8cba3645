use Rattle.asm8080.proofs.Prelude.{sym, subst, ◌≡◌, ◌<◌, false, is_bound}
use Rattle.asm8080.proofs.ItemLemmas.{mark_more, of_fields_back, others_kept}
use Rattle.asm8080.proofs.code.Code.bind.Goals as goal

pub invariant_of-self-2 : goal.invariant_of-self-2
invariant_of-self-2 c =
    mark_more _ _ _ _ c.self.invariant
    (subst (λ n. n < c.self.inside.labels) (sym c.label.view_is)
    (of_fields_back _ _ (λ a. c.args.label < a.labels) c.self.view_is c.requires.known))
    (subst (λ n. is_bound n c.self.inside.items.items ≡ false) (sym c.label.view_is)
    (of_fields_back _ _ (λ a. is_bound c.args.label a.items ≡ false) c.self.view_is c.requires.once))
    c.in_ok-store.ensures.items

pub returns-clause-others : goal.returns-clause-others
returns-clause-others c =
    others_kept c.args.self.now _ _ _ _ c.self.view_is c.label.view_is c.in_ok-store.ensures.items
