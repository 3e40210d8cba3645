use Rattle.locate.proofs.Prelude.{◌||◌, sym, ap, ◌∙◌, list_any, Data, gain_at, fixes_in, plan_view, breaks_high}
use Rattle.locate.proofs.Highs.{high_is}
use Rattle.locate.proofs.refusals.any_high_breaks.Goals as goal

pub returns-then-any_breaks : goal.returns-then-any_breaks
returns-then-any_breaks c =
    c.if-any_breaks.true
    ∙ sym (high_is (gain_at (plan_view c.args.plan.now)) c.args.object.now
    ∙ ap (λ b. b || list_any (breaks_high (gain_at (plan_view c.args.plan.now)))
    (fixes_in c.args.object.now Data))
    (sym (c.any_breaks.ensures ∙ ap (list_any (breaks_high (gain_at (plan_view c.args.plan.now))))
    c.fixes.ensures.fixes)
    ∙ c.if-any_breaks.true))

pub returns-else-any_breaks : goal.returns-else-any_breaks
returns-else-any_breaks c =
    (c.any_breaks-else-any_breaks.ensures
    ∙ ap (list_any (breaks_high (gain_at (plan_view c.args.plan.now)))) c.fixes-else-any_breaks.ensures.fixes)
    ∙ sym (high_is (gain_at (plan_view c.args.plan.now)) c.args.object.now
    ∙ ap (λ b. b || list_any (breaks_high (gain_at (plan_view c.args.plan.now)))
    (fixes_in c.args.object.now Data))
    (sym (c.any_breaks.ensures ∙ ap (list_any (breaks_high (gain_at (plan_view c.args.plan.now))))
    c.fixes.ensures.fixes)
    ∙ c.if-any_breaks.false))
