-- The typing of expressions, by functions.
use Rattle.trees.specs.declared.expression.UnaryOperator.{UnaryOperator}
use Rattle.typed_trees.specs.TypedTrees.{TypedExpression, AssignmentNode, UnaryNode, BinaryNode, TypedArguments, MoreArguments, NumberNode, ListNode, NoArguments as NoTyped, MoreArguments as MoreTyped, Constants}
use Rattle.typed_trees.specs.ExpressionTypes.{type_of}
use Rattle.std.specs.Prelude.{length, Ok}
use Rattle.trees.specs.Trees.{ConstantTree, ExpressionTree, ConstantLeaf, ReferenceLeaf, LocationLeaf, ListLeaf, ParenthesizedNode, AssignmentNode, UnaryNode, BinaryNode, ReferenceTree, ReferenceTo, MemberTree, NoMember, MemberOf, ArgumentTrees, NoArguments, MoreArguments}
use Rattle.typing.specs.internal.Checks.{Checked, ◌>>=◌}
use Rattle.typing.specs.Constants.{type_of_number, origin_of, with_list}
use Rattle.typing.specs.internal.ConstantChecks.{number_of_constant}
use Rattle.typing.specs.Nodes.{binary_node, Destination, target_of}
use Rattle.typing.specs.References.{Known}
use Rattle.typing.specs.internal.ReferenceChecks.{GivenMember, WithoutMember, WithMember, GivenReference, location_of, destination_of}
use Rattle.typing.specs.internal.Functions.{value_of}

-- NOT and the minus sign preserve the type
abbrev pub unary_node : UnaryOperator → TypedExpression → TypedExpression
unary_node operator operand = UnaryNode (type_of operand) operator operand

abbrev pub assignment_node : Destination → TypedExpression → TypedExpression
assignment_node destination value = AssignmentNode (target_of destination (type_of value)) value

abbrev pub number_node : ConstantTree → Checked TypedExpression
number_node constant = do
  number ← number_of_constant constant
  Ok (NumberNode (type_of_number number) number (origin_of constant))

-- Operands and arguments are typed from left to right, and the target of an assignment before its value.
abbrev mutual
  pub expression : Known → ExpressionTree → Constants → Checked (TypedExpression × Constants)
  expression known (ConstantLeaf constant) constants = do
    node ← number_node constant
    Ok (node, constants)
  expression known (ReferenceLeaf reference) constants =
      value_of known (given_reference known reference) constants
  expression known (LocationLeaf reference) constants =
      location_of known (given_reference known reference) constants
  expression known (ListLeaf list) constants =
      Ok (ListNode (length constants.lists), with_list list constants)
  expression known (ParenthesizedNode inner) constants = expression known inner constants
  expression known (AssignmentNode target value) constants = do
    destination ← destination_of known (given_reference known target) constants
    typed ← expression known value destination.1
    Ok (assignment_node destination.0 typed.0, typed.1)
  expression known (UnaryNode operator operand) constants = do
    typed ← expression known operand constants
    Ok (unary_node operator typed.0, typed.1)
  expression known (BinaryNode operator left right) constants = do
    first ← expression known left constants
    second ← expression known right first.1
    Ok (binary_node operator first.0 second.0, second.1)

  pub given_reference : Known → ReferenceTree → GivenReference
  given_reference known (ReferenceTo name trees member) = record {
    name = name;
    arguments = record { trees = trees; typed = arguments known trees };
    member = given_member known member;
  }

  pub given_member : Known → MemberTree → GivenMember
  given_member known NoMember = WithoutMember
  given_member known (MemberOf name trees) =
      WithMember name (record { trees = trees; typed = arguments known trees })

  pub arguments : Known → ArgumentTrees → Constants → Checked (TypedArguments × Constants)
  arguments known NoArguments constants = Ok (NoTyped, constants)
  arguments known (MoreArguments first others) constants = do
    typed ← expression known first constants
    rest ← arguments known others typed.1
    Ok (MoreTyped typed.0 rest.0, rest.1)
