use Rattle.codegen8080.proofs.Prelude.{◌+◌}
use Rattle.codegen8080.proofs.Driving.{IsCarryingBelow, IsListing}
use Rattle.codegen8080.proofs.generator.Generator.+statement.Given as goal

abbrev pub decreases-statement : goal.decreases-statement
decreases-statement l = l.number.index + l.number.index + l.number.index + l.number.index + 3

abbrev pub decreases-planned : goal.decreases-planned
decreases-planned l = l.bound + l.bound + l.bound + l.bound + 2

abbrev pub decreases-carry_out : goal.decreases-carry_out
decreases-carry_out l = l.bound + l.bound + l.bound + l.bound + 1

abbrev pub decreases-list : goal.decreases-list
decreases-list l = l.bound + l.bound + l.bound + l.bound

abbrev pub invariant-planned-loop-index : goal.invariant-planned-loop-index
invariant-planned-loop-index l = IsCarryingBelow l.bound l.body l.fn.self l.self l.waiting l.fn.start l.index

abbrev pub invariant-list-loop-index : goal.invariant-list-loop-index
invariant-list-loop-index l = IsListing l.body l.fn.list l.fn.self l.self l.index
