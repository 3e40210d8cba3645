use Rattle.asm8080.proofs.Prelude.{refl}
use Rattle.asm8080.proofs.ItemLemmas.{bound_kept, other_more}
use Rattle.asm8080.proofs.code.Code.emit_address.Goals as goal

pub invariant_of-self-2 : goal.invariant_of-self-2
invariant_of-self-2 c =
    other_more _ _ _ _ c.self.invariant c.requires.target (λ label. refl) c.in_ok-store.ensures.items

pub returns-clause-bound : goal.returns-clause-bound
returns-clause-bound c =
    bound_kept c.args.self.now _ _ _ c.self.view_is (λ label. refl) c.in_ok-store.ensures.items
