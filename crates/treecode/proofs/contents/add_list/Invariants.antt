use Rattle.treecode.proofs.Prelude.{◌≡◌, ◌++◌, length, map}
use Rattle.treecode.specs.declared.module.Content.TheVariants.{Byte}
use Rattle.treecode.proofs.contents.add_list.Given as goal

abbrev pub invariant-loop-rest : goal.invariant-loop-rest
invariant-loop-rest l = l.contents.items ++ map Byte l.rest ≡ l.fn.contents.items ++ map Byte l.bytes

abbrev pub decreases-loop-rest : goal.decreases-loop-rest
decreases-loop-rest l = length l.rest
