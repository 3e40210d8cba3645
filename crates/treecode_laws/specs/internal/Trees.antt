-- Expressions that change nothing, and expressions that store nothing, as functions of typed trees.
use Rattle.std.specs.Prelude.{Bool, true, false, ◌&&◌}
use Rattle.typed_trees.specs.TypedTrees.{TypedExpression, NumberNode, ValueNode, LocationNode, ListNode, ConversionNode, AssignmentNode, UnaryNode, BinaryNode, CallNode, FunctionNode, ShiftNode, InputNode, TypedReference, PartOf, Subscript, NoSubscript, At}

abbrev mutual
  -- whether evaluating an expression changes nothing: it calls nothing, stores nothing and reads no port
  pub is_quiet : TypedExpression → Bool
  is_quiet (NumberNode scalar number origin) = true
  is_quiet (ValueNode scalar reference) = part_is_quiet reference
  is_quiet (LocationNode reference) = part_is_quiet reference
  is_quiet (ListNode list) = true
  is_quiet (ConversionNode scalar inner) = is_quiet inner
  is_quiet (AssignmentNode target value) = false
  is_quiet (UnaryNode scalar operator operand) = is_quiet operand
  is_quiet (BinaryNode operands operator left right) = is_quiet left && is_quiet right
  is_quiet (CallNode procedure scalar given) = false
  is_quiet (FunctionNode function operand) = is_quiet operand
  is_quiet (ShiftNode scalar function value count) = is_quiet value && is_quiet count
  is_quiet (InputNode port) = false

  -- the same for the subscripts of a part of an object
  pub part_is_quiet : TypedReference → Bool
  part_is_quiet (PartOf object subscript member offset member_subscript) =
      index_is_quiet subscript && index_is_quiet member_subscript

  -- the same for a subscript, if there is one
  pub index_is_quiet : Subscript → Bool
  index_is_quiet NoSubscript = true
  index_is_quiet (At stride count index) = is_quiet index

abbrev mutual
  -- whether an expression calls nothing and stores nothing
  pub stores_nothing : TypedExpression → Bool
  stores_nothing (NumberNode scalar number origin) = true
  stores_nothing (ValueNode scalar reference) = part_stores_nothing reference
  stores_nothing (LocationNode reference) = part_stores_nothing reference
  stores_nothing (ListNode list) = true
  stores_nothing (ConversionNode scalar inner) = stores_nothing inner
  stores_nothing (AssignmentNode target value) = false
  stores_nothing (UnaryNode scalar operator operand) = stores_nothing operand
  stores_nothing (BinaryNode operands operator left right) = stores_nothing left && stores_nothing right
  stores_nothing (CallNode procedure scalar given) = false
  stores_nothing (FunctionNode function operand) = stores_nothing operand
  stores_nothing (ShiftNode scalar function value count) = stores_nothing value && stores_nothing count
  stores_nothing (InputNode port) = true

  -- the same for the subscripts of a part of an object
  pub part_stores_nothing : TypedReference → Bool
  part_stores_nothing (PartOf object subscript member offset member_subscript) =
      index_stores_nothing subscript && index_stores_nothing member_subscript

  -- the same for a subscript, if there is one
  pub index_stores_nothing : Subscript → Bool
  index_stores_nothing NoSubscript = true
  index_stores_nothing (At stride count index) = stores_nothing index
