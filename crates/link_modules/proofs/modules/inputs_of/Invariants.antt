use Rattle.link_modules.proofs.Prelude.{◌≡◌, ◌++◌, drop}
use Rattle.link_modules.proofs.modules.inputs_of.Given as goal

abbrev pub invariant-loop-module : goal.invariant-loop-module
invariant-loop-module l = l.inputs.items ++ drop l.module-index l.modules ≡ l.modules
