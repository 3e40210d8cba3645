-- Where a running machine goes on.
use Rattle.std.specs.Prelude.{◌≡◌, ℕ, ◌+◌, ◌-◌, ◌<◌, ◌≤◌, List, Result, Ok, Err}
use Rattle.meaning.specs.declared.reason.Reason.{Reason}
use Rattle.stack_machine.specs.declared.end.SourceEnd.TheVariants.{Ended, More, Outside}
use Rattle.stack_machine.specs.declared.machine.StackMachine.{StackMachine}
use Rattle.stack_machine.specs.declared.machine.Remaining.{Remaining}
use Rattle.stack_machine.specs.declared.machine.Remaining.TheVariants.{Nothing, Stop, Input, Output}

-- at the next instruction, with these values
abbrev pub IsNext : StackMachine → (values : List ℕ) → Remaining → StackMachine → Type 0
IsNext old values remaining new = (remaining ≡ Nothing) × (new ≡ record old { at = old.at + 1; values = values })

-- at the next instruction where something was done; where it was refused the program stops
abbrev pub IsNextOrStop : Result (Unit {0}) Reason → StackMachine → Remaining → StackMachine → Type 0
IsNextOrStop done old Nothing new = (done ≡ Ok tt) × (new ≡ record old { at = old.at + 1 })
IsNextOrStop done old (Stop (Outside reason)) new = (done ≡ Err reason) × (new ≡ old)
IsNextOrStop done old (Stop end) new = ⊥
IsNextOrStop done old (Input port) new = ⊥
IsNextOrStop done old (Output port) new = ⊥

-- `count` instructions after the next one, or past the end of the code
abbrev pub IsAhead : (length count : ℕ) → StackMachine → Remaining → StackMachine → Type 0
IsAhead length count old Nothing new = (old.at + 1 + count < length) × (new ≡ record old { at = old.at + 1 + count })
IsAhead length count old (Stop end) new = (length ≤ old.at + 1 + count) × (end ≡ Ended) × (new ≡ old)
IsAhead length count old (Input port) new = ⊥
IsAhead length count old (Output port) new = ⊥

-- at a place, for one of the budget
abbrev pub IsTurn : (to : ℕ) → StackMachine → Remaining → StackMachine → Type 0
IsTurn to old Nothing new = (0 < old.budget) × (new ≡ record old { at = to; budget = old.budget - 1 })
IsTurn to old (Stop end) new = (old.budget ≡ 0) × (end ≡ More) × (new ≡ old)
IsTurn to old (Input port) new = ⊥
IsTurn to old (Output port) new = ⊥
