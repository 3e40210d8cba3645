use Rattle.listings.proofs.{Prelude.{subst, IsBegun, HaveSymbolsOf}, SymbolTexts.{modules_ended}}
use Rattle.listings.proofs.symbol_lines.symbols_in.Goals as goal

pub returns : goal.returns
returns c =
    modules_ended c.args.views.now c.loop-rest.rest.now c.loop-rest.lines.items
    (subst (λ old. IsBegun HaveSymbolsOf c.args.views.now c.loop-rest.rest.now old c.loop-rest.lines.items)
    c.new-lines.ensures.items c.loop-rest.invariant)
    c.in_default.len_below
