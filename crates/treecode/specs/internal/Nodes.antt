-- The tables of nodes of a module, and the objects and expressions by their numbers.
use Rattle.std.specs.Prelude.{◌+◌, nat_lt, Option, Some, None, slice_get, if◌then◌else◌, ℕ, List}
use Rattle.std.specs.Option.{option_and_then}
use Rattle.treecode.specs.declared.expression.Expression.{Expression}
use Rattle.treecode.specs.declared.expression.ExpressionNumber.{ExpressionNumber}
use Rattle.treecode.specs.declared.lists.Range.{Range}
use Rattle.treecode.specs.declared.module.TreeModule.{TreeModule}
use Rattle.treecode.specs.declared.place.Home.{Home}
use Rattle.treecode.specs.declared.reference.Target.{Target}
use Rattle.treecode.specs.declared.statement.Statement.{Statement}
use Rattle.treecode.specs.declared.statement.StatementNumber.{StatementNumber}
use Rattle.treecode.specs.internal.ExpressionWords.{ExpressionsAreWords}
pub use Rattle.treecode.specs.internal.HomeWords.{home_at}

-- the homes of the objects, and the tables of nodes
pub record Nodes : Type 0 where
  pub homes : List Home
  pub expressions : List Expression
  pub statements : List Statement
  pub arguments : List ExpressionNumber
  pub targets : List Target
  pub lists : List StatementNumber

abbrev pub nodes_of : TreeModule → Nodes
nodes_of tree = record {
  homes = tree.homes.items;
  expressions = tree.expressions.items;
  statements = tree.statements.items;
  arguments = tree.arguments.items;
  targets = tree.targets.items;
  lists = tree.lists.items;
}

-- the index in its table of an item of a range, counted from 0
abbrev pub entry_of : Range → (index : ℕ) → Option ℕ
entry_of range index = if nat_lt index range.count then Some (range.first + index) else None

-- an item of a range of a table
abbrev pub item_of : {A : Type 0} → List A → Range → (index : ℕ) → Option A
item_of table range index = option_and_then (slice_get table) (entry_of range index)

-- numbers in tree code have 16 bits
abbrev pub NumbersAreWords : Nodes → Type 0
NumbersAreWords nodes = ExpressionsAreWords nodes.expressions
