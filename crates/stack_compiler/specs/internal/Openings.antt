-- DO CASE as the code makes it: with jumps that are filled in later.
use Rattle.std.specs.Prelude.{ℕ, ◌+◌, ◌-◌, List, [], ◌∷◌, ◌++◌, length, replicate, slice_set}
use Rattle.typed_trees.specs.TypedTrees.{TypedStatement, TypedStatements, NoStatements, MoreStatements}
use Rattle.stack_code.specs.declared.instruction.Instruction.{Instruction}
use Rattle.stack_code.specs.declared.instruction.Instruction.TheVariants.{Jump}
use Rattle.stack_code.specs.internal.Code.{Site, statement_code}

-- `count` jumps that are filled in later
abbrev pub holes : (count : ℕ) → List Instruction
holes count = replicate count (Jump 0)

-- the code so far, and where its statements end
pub record Opening : Type 0 where
  pub code : List Instruction
  pub ends : List ℕ

-- code so far with these places
abbrev pub opening : List Instruction → List ℕ → Opening
opening code ends = record { code = code; ends = ends }

-- the instruction at a place becomes a jump past the end of the code so far
abbrev pub passing : List Instruction → (at : ℕ) → List Instruction
passing code at = slice_set code at (Jump (length code - (at + 1)))

-- one more statement, with a jump after it
abbrev pub with_case : Site → List Instruction → TypedStatement → List Instruction
with_case site code statement = (code ++ statement_code site statement) ++ (Jump 0 ∷ [])

-- the same, and its jump among the first ones filled in
abbrev pub opened_by : Site → (entry : ℕ) → Opening → TypedStatement → Opening
opened_by site entry before statement = record {
  code = with_case site (passing before.code entry) statement;
  ends = before.ends ++ length (with_case site (passing before.code entry) statement) ∷ [];
}

-- statements whose jumps stand from an entry on
abbrev pub opened : Site → (entry : ℕ) → Opening → TypedStatements → Opening
opened site entry before NoStatements = record { code = passing before.code entry; ends = before.ends }
opened site entry before (MoreStatements first others) =
    opened site (entry + 1) (opened_by site entry before first) others

-- the instructions before some places become jumps past the end of the code so far
abbrev pub closed : (ends : List ℕ) → List Instruction → List Instruction
closed [] code = code
closed (end ∷ ends) code = closed ends (slice_set code (end - 1) (Jump (length code - end)))
