use Rattle.syntax.proofs.ListLoops.{whole_list, no_list, gives_exit}
use Rattle.syntax.proofs.reader.Reader.take_list.Goals as goal

pub returns-in_err-add_items : goal.returns-in_err-add_items
returns-in_err-add_items g c =
    gives_exit _ c.from_residual-in_err-add_items.result _ _ _ c.from_residual-in_err-add_items.ensures.1
    (no_list g.T.Listed.tree_of _ _ _ c.in_ok-found.ensures.items c.in_err-add_items.ensures)

pub returns : goal.returns
returns g c =
    whole_list g.T.Listed.tree_of _ _ _ _ _ c.in_ok-found.ensures.items c.in_ok-add_items.ensures
    c.shrink_to_fit.ensures.items
