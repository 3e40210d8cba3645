use Rattle.typed_expressions.proofs.Prelude.{◌≡◌, drop, map, offset_tree, sum_with_offsets}
use Rattle.typed_expressions.proofs.constants.with_offsets.Given as goal

-- what is left decides
abbrev pub invariant-loop-offset : goal.invariant-loop-offset
invariant-loop-offset l =
    sum_with_offsets l.sum (map offset_tree (drop l.offset-index l.offsets))
    ≡ sum_with_offsets l.initial.sum (map offset_tree l.offsets)
