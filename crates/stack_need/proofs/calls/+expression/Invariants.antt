use Rattle.stack_need.proofs.Prelude.{◌≡◌, ◌++◌, drop, arguments_view, calls_in_arguments}
use Rattle.stack_need.proofs.calls.+expression.Given as goal

abbrev pub invariant-arguments_calls-loop-argument : goal.invariant-arguments_calls-loop-argument
invariant-arguments_calls-loop-argument l =
    l.calls.items ++ calls_in_arguments (arguments_view (drop l.argument-index l.arguments))
    ≡ l.fn.calls.items ++ calls_in_arguments (arguments_view l.arguments)
