-- Statements after some of a list.
use Rattle.meaning.proofs.Prelude.{ListsStandInStatements, MoreStatements, NoStatements, TypedStatements, suc, zero, ℕ}
use Rattle.meaning.specs.Meaning.{dropped}

pub dropped_lists : (count : ℕ) (statements : TypedStatements) → ListsStandInStatements statements
    → ListsStandInStatements (dropped count statements)
dropped_lists zero statements lists = lists
dropped_lists (suc count) NoStatements lists = tt
dropped_lists (suc count) (MoreStatements first others) lists = dropped_lists count others lists.1
