use Rattle.stack_compiler.proofs.Prelude.{◌≡◌, ◌++◌, drop, arguments_view, arguments_code, site_view}
use Rattle.stack_compiler.proofs.expressions.+expression.Given as goal

abbrev pub invariant-emit_arguments-loop-argument : goal.invariant-emit_arguments-loop-argument
invariant-emit_arguments-loop-argument l =
    l.code.items ++ arguments_code (site_view l.site) (arguments_view (drop l.argument-index l.arguments))
    ≡ l.fn.code.items ++ arguments_code (site_view l.site) (arguments_view l.arguments)
