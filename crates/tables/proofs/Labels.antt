-- A jump over HLT binds no label.
use Rattle.std.proofs.Common.{◌≡◌, ℕ, ◌+◌, false, [], ◌∷◌, ◌++◌, refl, sym, subst}
use Rattle.isa8080.specs.declared.instr.Instr.TheVariants.{Hlt}
use Rattle.asm8080.specs.declared.item.WordForm.TheVariants.{Jump}
use Rattle.asm8080.specs.declared.item.Reference.TheVariants.{AtLabel}
use Rattle.asm8080.specs.declared.item.Item.TheVariants.{Plain, WithWord}
use Rattle.asm8080.specs.Items.{Assembly, is_bound}
use Rattle.asm8080.proofs.ItemLemmas.{bound_more}

pub still_unbound :
    (before with_label with_jump with_halt : Assembly) (label : ℕ)
    → is_bound label before.items ≡ false
    → with_label ≡ record before { labels = before.labels + 1 }
    → with_jump ≡ record with_label { items = with_label.items ++ WithWord Jump (AtLabel label) ∷ [] }
    → with_halt ≡ record with_jump { items = with_jump.items ++ Plain Hlt ∷ [] }
    → is_bound label with_halt.items ≡ false
still_unbound before with_label with_jump with_halt label unbound is_label is_jump is_halt =
    let same : with_halt ≡ record {
      items = (before.items ++ WithWord Jump (AtLabel label) ∷ []) ++ Plain Hlt ∷ [];
      labels = before.labels + 1;
    } = cc in
    subst (λ code. is_bound label code.items ≡ false) (sym same)
    (bound_more label (before.items ++ WithWord Jump (AtLabel label) ∷ []) (Plain Hlt)
    (bound_more label before.items (WithWord Jump (AtLabel label)) unbound refl) refl)
