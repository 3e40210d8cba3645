use Rattle.link_modules.proofs.Prelude.{◌≡◌, ◌==◌, drop, length, linked_modules, main_modules, one_main}
use Rattle.link_modules.proofs.mains.has_one_main.Given as goal

abbrev pub invariant-loop-input : goal.invariant-loop-input
invariant-loop-input g l =
    one_main l.found (drop l.input-index l.inputs) ≡ (length (main_modules (linked_modules l.inputs)) == 1)
