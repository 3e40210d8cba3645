use Rattle.statements8080.specs.internal.Finding.{IsFinding}
use Rattle.statements8080.proofs.assignment.types_of.Given as goal

abbrev pub invariant-loop-index : goal.invariant-loop-index
invariant-loop-index l = IsFinding l.body l.targets l.index l.takes_bytes l.takes_words
