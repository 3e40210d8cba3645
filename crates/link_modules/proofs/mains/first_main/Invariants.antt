use Rattle.link_modules.proofs.Prelude.{◌≡◌, drop, slice_get, main_modules}
use Rattle.link_modules.proofs.mains.first_main.Given as goal

abbrev pub invariant-loop-one : goal.invariant-loop-one
invariant-loop-one g l =
    slice_get (main_modules (drop l.one-index l.placed)) 0 ≡ slice_get (main_modules l.placed) 0
