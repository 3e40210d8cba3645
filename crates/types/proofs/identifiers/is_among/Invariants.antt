use Rattle.types.proofs.Prelude.{◌≡◌, drop, names_among}
use Rattle.types.proofs.identifiers.is_among.Given as goal

abbrev pub invariant-loop-one : goal.invariant-loop-one
invariant-loop-one l = names_among (drop l.one-index l.declared) l.name ≡ names_among l.declared l.name
