use Rattle.locate.proofs.Prelude.{◌+◌, ◌%◌, ◌++◌, map, drop, ap, ◌∙◌, arith, symbol_at, owned_public_view, plan_view, symbol_view, view_added}
use Rattle.locate.proofs.placed.symbols_of.Goals as goal

pub loop-public-preserved : goal.loop-public-preserved
loop-public-preserved c =
    ap (λ items. map symbol_view items
    ++ map (symbol_at (plan_view c.args.plan.now))
    (map owned_public_view (drop (c.loop-public.public-index + 1) c.args.publics.now)))
    c.in_ok-push.ensures.items
    ∙ view_added symbol_view owned_public_view (symbol_at (plan_view c.args.plan.now))
    c.loop-public.symbols.items _
    c.args.publics.now c.loop-public.public-index c.public-item.result (omega arith) c.public-item.is
    (ap (λ b. record { name = c.public-item.result.name; address = (c.public-item.result.offset + b) % 65536 }) c.base.ensures)
    ∙ c.loop-public.invariant
