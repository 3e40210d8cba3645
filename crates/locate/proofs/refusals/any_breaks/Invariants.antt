use Rattle.locate.proofs.Prelude.{◌≡◌, drop, list_any, gain_at, plan_view, breaks_high}
use Rattle.locate.proofs.refusals.any_breaks.Given as goal

abbrev pub invariant-loop-fix : goal.invariant-loop-fix
invariant-loop-fix l =
    list_any (breaks_high (gain_at (plan_view l.plan))) (drop l.fix-index l.fixes)
    ≡ list_any (breaks_high (gain_at (plan_view l.plan))) l.fixes
