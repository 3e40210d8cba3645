use Rattle.link_modules.proofs.Prelude.{◌≡◌, [], drop, public_names, gathered}
use Rattle.link_modules.proofs.names.public_names_of.Given as goal

abbrev pub invariant-loop-input : goal.invariant-loop-input
invariant-loop-input g l =
    gathered l.table (public_names (drop l.input-index l.inputs)) ≡ gathered [] (public_names l.inputs)
