use Rattle.link_modules.proofs.Prelude.{◌≡◌, drop, list_any, moves_by}
use Rattle.link_modules.proofs.resolved.Resolved.any_moves.Given as goal

abbrev pub invariant-loop-fix : goal.invariant-loop-fix
invariant-loop-fix l =
    list_any (moves_by l.self) (drop l.fix-index l.fixes) ≡ list_any (moves_by l.self) l.fixes
