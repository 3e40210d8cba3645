use Rattle.exprgen8080.proofs.Arguments.{IsBefore}
use Rattle.exprgen8080.proofs.calls.plan_call.Given as goal

abbrev pub invariant-loop-index : goal.invariant-loop-index
invariant-loop-index l = IsBefore l.site l.arguments l.pushed l.initial.steps l.steps l.index l.depth
