use Rattle.syntax.proofs.Prelude.{map}
use Rattle.syntax.proofs.ListLoops.{list_goes_on, list_done, list_stops, fewer_after, gives_exit}
use Rattle.syntax.proofs.reader.Reader.add_items.Goals as goal

pub returns-in_err-next : goal.returns-in_err-next
returns-in_err-next g c =
    gives_exit _ c.from_residual.result _ _ _ c.from_residual.ensures.1
    (list_stops g.T.Listed.reading _ (map g.T.Listed.tree_of c.more.found.items) _ _ c.more.invariant
    c.in_err-next.ensures)

pub more-smaller : goal.more-smaller
more-smaller g c =
    fewer_after g.T.Listed.reading c.requires _ _ _ _ _ c.in_ok-next.ensures c.at_mark.ensures
    c.if-not-at_mark.false c.skip.ensures

pub more-preserved : goal.more-preserved
more-preserved g c =
    list_goes_on g.T.Listed.reading c.requires g.T.Listed.tree_of _ _ _ _ _ _ _ _ c.more.invariant
    c.in_ok-next.ensures c.in_ok-push.ensures.items c.at_mark.ensures c.if-not-at_mark.false c.skip.ensures

pub returns-then-not-at_mark : goal.returns-then-not-at_mark
returns-then-not-at_mark g c =
    list_done g.T.Listed.reading c.requires g.T.Listed.tree_of _ _ _ _ _ _ _ c.more.invariant
    c.in_ok-next.ensures c.in_ok-push.ensures.items c.at_mark.ensures c.if-not-at_mark.true
