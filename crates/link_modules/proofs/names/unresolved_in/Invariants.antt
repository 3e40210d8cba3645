use Rattle.link_modules.proofs.Prelude.{◌≡◌, drop, externals_of, missing_in}
use Rattle.link_modules.proofs.names.unresolved_in.Given as goal

abbrev pub invariant-loop-input : goal.invariant-loop-input
invariant-loop-input g l =
    missing_in l.table (externals_of (drop l.input-index l.inputs))
    ≡ missing_in l.table (externals_of l.inputs)
