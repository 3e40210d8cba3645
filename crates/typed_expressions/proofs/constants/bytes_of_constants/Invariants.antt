use Rattle.typed_expressions.proofs.Prelude.{◌≡◌, ◌++◌, map, drop, constant_tree, bytes_of_constants}
use Rattle.typed_expressions.proofs.constants.bytes_of_constants.Given as goal

abbrev pub invariant-loop-constant : goal.invariant-loop-constant
invariant-loop-constant l =
    l.bytes.items ++ bytes_of_constants (map constant_tree (drop l.constant-index l.list))
    ≡ bytes_of_constants (map constant_tree l.list)
