use Rattle.stack_compiler.proofs.Prelude.{◌≡◌, ◌++◌, drop, map, target_view, targets_code, site_view}
use Rattle.stack_compiler.proofs.statements.emit_targets.Given as goal

abbrev pub invariant-loop-target : goal.invariant-loop-target
invariant-loop-target l =
    l.code.items ++ targets_code (site_view l.site) (map target_view (drop l.target-index l.targets))
    ≡ l.fn.code.items ++ targets_code (site_view l.site) (map target_view l.targets)
