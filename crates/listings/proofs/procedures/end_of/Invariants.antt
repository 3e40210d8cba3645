use Rattle.listings.proofs.Prelude.{length, code_size, constant_bytes, typed_of}
use Rattle.listings.specs.internal.Marks.{LieWithin}
use Rattle.listings.proofs.procedures.end_of.Given as goal

abbrev pub invariant-loop-rest : goal.invariant-loop-rest
invariant-loop-rest l = LieWithin (constant_bytes (typed_of l.view)) (code_size l.view) l.rest

abbrev pub decreases-loop-rest : goal.decreases-loop-rest
decreases-loop-rest l = length l.rest
