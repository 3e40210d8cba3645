-- Queries about places, and about the nodes of a module.
use Rattle.std.specs.Prelude.{ℕ, Option, slice_get}
use Rattle.std.specs.Option.{option_map_or}
use Rattle.trees.specs.declared.declaration.ScalarType.{ScalarType}
use Rattle.trees.specs.internal.Functions.{byte_taken, for_byte}
use Rattle.treecode.specs.declared.place.Place.{Place}
use Rattle.treecode.specs.declared.place.Home.{Home}
use Rattle.treecode.specs.declared.lists.Range.{Range}
use Rattle.treecode.specs.declared.expression.Expression.{Expression}
use Rattle.treecode.specs.declared.expression.ExpressionForm.{ExpressionForm}
use Rattle.treecode.specs.declared.expression.ExpressionForm.TheVariants.{Conversion, Function}
use Rattle.treecode.specs.declared.expression.ExpressionNumber.{ExpressionNumber}
use Rattle.treecode.specs.declared.reference.Reference.{Reference}
use Rattle.treecode.specs.declared.reference.Target.{Target}
use Rattle.treecode.specs.declared.reference.Target.TheVariants.{Stored, Sent}
use Rattle.treecode.specs.declared.statement.Statement.{Statement}
use Rattle.treecode.specs.declared.statement.StatementNumber.{StatementNumber}
use Rattle.treecode.specs.declared.traits.Keeps.{Keeps}
use Rattle.treecode.specs.declared.traits.Traits.{Traits}
use Rattle.treecode.specs.declared.module.TreeModule.{TreeModule}
use Rattle.treecode.specs.internal.Homes as places
use Rattle.treecode.specs.internal.Nodes.{home_at, item_of, nodes_of}
use Rattle.treecode.specs.internal.Traits as kept

-- the number, if the place is one
abbrev pub place_number : Place → Option ℕ
place_number place = places.number_of_place place

-- the home of an object; the address 0 if there is no object with this number
abbrev pub home : TreeModule → (object : ℕ) → Home
home tree object = home_at tree.homes.items object

-- the expression with this number
abbrev pub tree_expression : TreeModule → ExpressionNumber → Option Expression
tree_expression tree number = slice_get tree.expressions.items number.index

-- the operand of a conversion, or of a function that takes its low byte, which has the same low byte; else the
-- expression itself
abbrev pub inside : ExpressionNumber → ExpressionForm → ExpressionNumber
inside number (Conversion inner) = inner
inside number (Function function operand) = for_byte (byte_taken function) operand number
inside number form = number

abbrev pub low_byte_at : TreeModule → ExpressionNumber → ExpressionNumber
low_byte_at tree number =
    option_map_or (λ (found : Expression). inside number found.form) (tree_expression tree number) number

-- the statement with this number
abbrev pub statement : TreeModule → StatementNumber → Option Statement
statement tree number = slice_get tree.statements.items number.index

-- an argument of a call, counted from 0
abbrev pub argument : TreeModule → Range → (index : ℕ) → Option ExpressionNumber
argument tree arguments index = item_of tree.arguments.items arguments index

-- a target of an assignment
abbrev pub target : TreeModule → Range → (index : ℕ) → Option Target
target tree targets index = item_of tree.targets.items targets index

-- a statement of a list
abbrev pub item : TreeModule → Range → (index : ℕ) → Option StatementNumber
item tree list index = item_of tree.lists.items list index

-- no register is kept; both are
abbrev pub none_kept : Keeps
none_kept = kept.keeps_none

abbrev pub all_kept : Keeps
all_kept = kept.keeps_both

-- the traits of an unknown expression
abbrev pub no_traits : Traits
no_traits = kept.no_traits

-- the traits of an expression; those of an unknown one if there is none with this number
abbrev pub traits : TreeModule → ExpressionNumber → Traits
traits tree number = kept.traits_at (nodes_of tree) number

-- the value of an expression, if it is known as a number
abbrev pub tree_number : TreeModule → ExpressionNumber → Option ℕ
tree_number tree number = kept.number_at (nodes_of tree) number

-- the type of the value that is assigned to a target
abbrev pub source : Target → ScalarType
source (Stored from to reference) = from
source (Sent from port) = from

-- the registers that the code putting the address of an object or a part of it into HL keeps
abbrev pub keeps_of_reference : TreeModule → Reference → Keeps
keeps_of_reference tree reference = kept.keeps_of_address (nodes_of tree) reference
