use Rattle.stack_compiler.proofs.Prelude.{◌≡◌, ◌++◌, drop, parameters_code, site_view}
use Rattle.stack_compiler.proofs.procedures.emit_parameters.Given as goal

abbrev pub invariant-loop-index : goal.invariant-loop-index
invariant-loop-index l =
    l.code.items ++ parameters_code (site_view l.site) l.index (drop l.index l.scalars) l.places
    ≡ l.fn.code.items ++ parameters_code (site_view l.site) 0 l.scalars l.objects
