use Rattle.words.proofs.Prelude.{sym, subst, length, FitsIn}
use Rattle.words.proofs.ItemsLemmas.{item_fits}
use Rattle.words.proofs.items.next_item.Goals as goal

pub returns-clause-fits : goal.returns-clause-fits
returns-clause-fits c =
    subst (FitsIn (length c.args.text.now)) (sym c.item_at.ensures) (item_fits c.args.text.now)
