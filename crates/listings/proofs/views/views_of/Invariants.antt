use Rattle.listings.proofs.Prelude.{texts_of, AreFirstViews}
use Rattle.listings.proofs.views.views_of.Given as goal

abbrev pub invariant-loop-number : goal.invariant-loop-number
invariant-loop-number l =
    AreFirstViews (texts_of l.sources) l.built l.number l.code_base l.data_base l.views.items
