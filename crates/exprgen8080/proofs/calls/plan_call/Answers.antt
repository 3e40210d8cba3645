use Rattle.exprgen8080.proofs.Prelude.{◌∙◌, sym, arith}
use Rattle.exprgen8080.proofs.Arguments.{call_planned, last_planned, none_passed, none_planned, pushed_planned}
use Rattle.exprgen8080.proofs.calls.plan_call.Goals.{in-Some+then-index-last+in_ok-plan_pushed_argument, in-Some+else-index-last+in_ok-plan_last_argument, in_default}
use Rattle.exprgen8080.proofs.calls.plan_call.Goals as goal

pub loop-index-init : goal.loop-index-init
loop-index-init c = none_planned c.args.site.now c.args.arguments c.args.pushed c.args.steps.now

pub loop-index-preserved : goal.loop-index-preserved
loop-index-preserved c = elim c.match-argument.branch [
  | in-Some+then-index-last+in_ok-plan_pushed_argument w ↦
      rw (w.steps-is, w.depth-is)
      (pushed_planned c.args.site.now c.args.arguments c.args.pushed c.args.steps.now
      c.loop-index.steps c.loop-index.index c.loop-index.depth _ w.in-Some.argument
      (omega (arith, c.saturating_sub-last.ensures, w.if-index-last.true))
      (sym c.argument.ensures ∙ w.in-Some.is)
      w.in_ok-plan_pushed_argument.ensures c.loop-index.invariant)
  | in-Some+else-index-last+in_ok-plan_last_argument w ↦
      rw (w.steps-is, w.depth-is)
      (last_planned c.args.site.now c.args.arguments c.args.pushed c.args.steps.now
      c.loop-index.steps c.loop-index.index c.loop-index.depth _ w.in-Some.argument
      c.loop-index-test.true
      (omega (arith, c.saturating_sub-last.ensures, w.if-index-last.false))
      (sym c.argument.ensures ∙ w.in-Some.is)
      w.in_ok-plan_last_argument.ensures c.loop-index.invariant)
  | in_default w ↦
      rw (w.steps-is, w.depth-is)
      (none_passed c.args.site.now c.args.arguments c.args.pushed c.args.steps.now
      c.loop-index.steps c.loop-index.index c.loop-index.depth
      c.loop-index-test.true
      (sym c.argument.ensures ∙ w.in_default.is)
      c.loop-index.invariant)
]

pub returns : goal.returns
returns c = call_planned c.args.site.now c.args.arguments c.args.pushed c.args.steps.now
    c.loop-index.steps c.loop-index.index c.loop-index.depth c.push.new.self c.args.procedure c.push.result
    c.loop-index-test.false c.loop-index.invariant c.push.ensures
