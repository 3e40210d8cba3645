-- Ranks of tasks. The rank of a task is above that of each part of its code, so that the recursion over parts ends.
use Rattle.std.specs.Prelude.{ℕ, suc, ◌+◌, ◌*◌, ◌<◌, max, List, [], ◌∷◌, Option, Some, None}
use Rattle.trees.specs.declared.declaration.ScalarType.{ScalarType}
use Rattle.trees.specs.declared.declaration.ScalarType.TheVariants as scalars
use Rattle.treecode.specs.declared.expression.ExpressionNumber.{ExpressionNumber}
use Rattle.treecode.specs.declared.module.TreeModule.{TreeModule}
use Rattle.treecode.specs.declared.reference.Reference.{Reference}
use Rattle.treecode.specs.declared.reference.Subscript.{Subscript}
use Rattle.treecode.specs.declared.reference.Target.{Target}
use Rattle.treecode.specs.declared.reference.Target.TheVariants.{Stored, Sent}
use Rattle.treecode.specs.internal.Queries.{tree_expression}
use Rattle.steps8080.specs.declared.step.Part.{Part}
use Rattle.steps8080.specs.declared.step.Step.{Step}
use Rattle.steps8080.specs.declared.step.Step.TheVariants as steps
use Rattle.steps8080.specs.declared.step.Task.{Task}
use Rattle.steps8080.specs.declared.step.Task.TheVariants.{Byte, Word, Effects, Address, Branch, Store, Call}

-- a rank for a bound of numbers of expressions, above all ranks for lower bounds
abbrev pub rank_at : (bound level : ℕ) → ℕ
rank_at bound level = bound * 16 + level

-- the type of an expression
abbrev pub type_in : TreeModule → ExpressionNumber → ScalarType
type_in tree number = elim (tree_expression tree number) [
  | Some found ↦ found.traits.scalar
  | None ↦ scalars.Byte
]

-- the number of the index of a subscript plus 1; 0 if absent
abbrev pub index_bound : Option Subscript → ℕ
index_bound None = 0
index_bound (Some subscript) = suc subscript.index.index

-- the greatest number of an expression in a reference plus 1; 0 if it has no expression
abbrev pub reference_bound : Reference → ℕ
reference_bound reference = max (index_bound reference.subscript) (index_bound reference.member_subscript)

-- the greatest number of an expression in a target plus 1; 0 if it has no expression
abbrev pub target_bound : Target → ℕ
target_bound (Stored from to reference) = reference_bound reference
target_bound (Sent from port) = 0

-- the greatest number of an argument plus 1; 0 if there is none
abbrev pub arguments_bound : List ExpressionNumber → ℕ
arguments_bound [] = 0
arguments_bound (number ∷ others) = max (suc number.index) (arguments_bound others)

abbrev pub rank_of_byte : (bound : ℕ) → ScalarType → ℕ
rank_of_byte bound scalars.Byte = rank_at bound 1
rank_of_byte bound scalars.Address = rank_at bound 2

abbrev pub rank_of_word : (bound : ℕ) → ScalarType → ℕ
rank_of_word bound scalars.Byte = rank_at bound 2
rank_of_word bound scalars.Address = rank_at bound 1

-- the rank of a task
abbrev pub rank : TreeModule → Task → ℕ
rank tree (Byte number) = rank_of_byte (suc number.index) (type_in tree number)
rank tree (Word number) = rank_of_word (suc number.index) (type_in tree number)
rank tree (Effects number) = rank_at (suc number.index) 3
rank tree (Branch condition label sense) = rank_at (suc condition.index) 4
rank tree (Address reference) = rank_at (reference_bound reference) 5
rank tree (Store target is_wanted) = rank_at (target_bound target) 6
rank tree (Call procedure arguments) = rank_at (arguments_bound tree.arguments.items) 5

-- the parts of steps rank below a limit
abbrev pub AreBelow : TreeModule → (limit : ℕ) → List Step → Type 0
AreBelow tree limit [] = Unit {0}
AreBelow tree limit (steps.Part part ∷ others) = (rank tree part.task < limit) × AreBelow tree limit others
AreBelow tree limit (step ∷ others) = AreBelow tree limit others

-- the measure of the recursion over parts: of the code of a part, and of that of a step
abbrev pub part_measure : TreeModule → Part → ℕ
part_measure tree part = rank tree part.task + rank tree part.task

abbrev pub step_measure : TreeModule → Step → ℕ
step_measure tree (steps.Part part) = suc (part_measure tree part)
step_measure tree step = 0
