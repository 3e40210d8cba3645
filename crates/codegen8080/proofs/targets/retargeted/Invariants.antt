use Rattle.codegen8080.proofs.Prelude.{◌≡◌, ◌++◌, drop, map, retargeted, retarget}
use Rattle.codegen8080.proofs.targets.retargeted.Given as goal

abbrev pub invariant-loop-fix : goal.invariant-loop-fix
invariant-loop-fix l =
    l.made.items ++ map (retargeted (retarget l.numbers l.fn.count)) (drop l.fix-index l.fixes)
    ≡ map (retargeted (retarget l.numbers l.fn.count)) l.fixes
