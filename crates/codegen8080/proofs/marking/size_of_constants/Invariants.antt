use Rattle.codegen8080.proofs.Prelude.{◌≡◌, ◌+◌, ◌≤◌, length, min, contents_items, size_of_items}
use Rattle.codegen8080.specs.internal.Modules.{constant_size}
use Rattle.codegen8080.proofs.marking.size_of_constants.Given as goal

-- the bytes so far, and those of the contents that are left, are all
abbrev pub invariant-loop-left : goal.invariant-loop-left
invariant-loop-left l = record {
  sum : min (l.size + size_of_items (contents_items l.left)) 65535 ≡ min (constant_size l.tree) 65535;
  fits : l.size ≤ 65535;
}

abbrev pub decreases-loop-left : goal.decreases-loop-left
decreases-loop-left l = length l.left
