-- The nodes that lowering adds for an expression, as functions of the tables and of the tree.
use Rattle.std.specs.Prelude.{ℕ, ◌%◌, List, [], ◌∷◌, ◌++◌, length, Option, Some, None}
use Rattle.trees.specs.declared.declaration.ScalarType.{ScalarType}
use Rattle.typed_trees.specs.ExpressionTypes.{type_of}
use Rattle.typed_trees.specs.TypedTrees.{TypedExpression, NumberNode, ValueNode, LocationNode, ListNode, ConversionNode, AssignmentNode, UnaryNode, BinaryNode, CallNode, FunctionNode, ShiftNode, InputNode, TypedReference, PartOf, Subscript, NoSubscript, At, TypedTarget, StoredIn, SentTo, TypedArguments, NoArguments, MoreArguments}
use Rattle.layout.specs.Storage.{Storage}
use Rattle.treecode.specs.declared.expression.ExpressionForm.{ExpressionForm}
use Rattle.treecode.specs.declared.expression.ExpressionForm.TheVariants as forms
use Rattle.treecode.specs.declared.expression.ExpressionNumber.{ExpressionNumber}
use Rattle.treecode.specs.declared.lists.Range.{Range}
use Rattle.treecode.specs.declared.reference.Reference.{Reference}
use Rattle.treecode.specs.declared.reference.Subscript.{Subscript as IndexNode}
use Rattle.treecode.specs.declared.reference.Target.{Target}
use Rattle.treecode.specs.declared.reference.Target.TheVariants as targets
use Rattle.treecode.specs.internal.Known.{offset_of_list}
use Rattle.treecode.specs.internal.Nodes.{Nodes}
use Rattle.treecode.specs.internal.Traits.{expression_of}

-- the tables with one more expression, and its number
abbrev pub put_expression : ScalarType → Nodes × ExpressionForm → Nodes × ExpressionNumber
put_expression scalar made = (
  record (made.0) { expressions = (made.0).expressions ++ expression_of (made.0) scalar made.1 ∷ [] },
  record { index = length (made.0).expressions },
)

-- the tables with more arguments, and their range
abbrev pub put_arguments : Nodes × List ExpressionNumber → Nodes × Range
put_arguments made = (
  record (made.0) { arguments = (made.0).arguments ++ made.1 },
  record { first = length (made.0).arguments; count = length made.1 },
)

-- the tables, and a function of the item that was added
abbrev pub with_item : {W A B : Type 0} → (A → B) → W × A → W × B
with_item of made = (made.0, of made.1)

-- the tables, and a function of two items that were added one after the other
abbrev pub with_both : {W A B C : Type 0} → (A → B → C) → W × A → (W → W × B) → W × C
with_both of first second = ((second first.0).0, of first.1 (second first.0).1)

-- a part of an object; its offsets are taken modulo the size of memory
abbrev pub part_of : (object offset : ℕ) → (first second : Option IndexNode) → Reference
part_of object offset first second = record {
  object = object;
  subscript = first;
  offset = offset % 65536;
  member_subscript = second;
}

abbrev pub element_of : (stride : ℕ) → ExpressionNumber → Option IndexNode
element_of stride number = Some (record { index = number; stride = stride % 65536 })

abbrev mutual
  -- adds the parts of an expression, and returns its form
  pub form_in : Storage → Nodes → TypedExpression → Nodes × ExpressionForm
  form_in storage nodes (NumberNode scalar number origin) = (nodes, forms.Number number)
  form_in storage nodes (ValueNode scalar reference) =
      with_item forms.Value (reference_in storage nodes reference)
  form_in storage nodes (LocationNode reference) =
      with_item forms.Location (reference_in storage nodes reference)
  form_in storage nodes (ListNode list) = (nodes, forms.List (offset_of_list storage list))
  form_in storage nodes (ConversionNode scalar inner) =
      with_item forms.Conversion (put_expression (type_of inner) (form_in storage nodes inner))
  form_in storage nodes (AssignmentNode target value) =
      with_both (λ number to. forms.Assignment to number)
      (put_expression (type_of value) (form_in storage nodes value))
      (λ given. target_in storage given target)
  form_in storage nodes (UnaryNode scalar operator operand) =
      with_item (forms.Unary operator) (put_expression (type_of operand) (form_in storage nodes operand))
  form_in storage nodes (BinaryNode operands operator left right) =
      with_both (forms.Binary operands operator)
      (put_expression (type_of left) (form_in storage nodes left))
      (λ given. put_expression (type_of right) (form_in storage given right))
  form_in storage nodes (CallNode procedure scalar values) =
      with_item (forms.Call procedure) (put_arguments (numbers_in storage nodes values))
  form_in storage nodes (FunctionNode function operand) =
      with_item (forms.Function function) (put_expression (type_of operand) (form_in storage nodes operand))
  form_in storage nodes (ShiftNode scalar function value count) =
      with_both (forms.Shift function)
      (put_expression (type_of value) (form_in storage nodes value))
      (λ given. put_expression (type_of count) (form_in storage given count))
  form_in storage nodes (InputNode port) = (nodes, forms.Input port)

  pub reference_in : Storage → Nodes → TypedReference → Nodes × Reference
  reference_in storage nodes (PartOf object subscript member offset member_subscript) =
      with_both (part_of object offset) (subscript_in storage nodes subscript)
      (λ given. subscript_in storage given member_subscript)

  pub subscript_in : Storage → Nodes → Subscript → Nodes × Option IndexNode
  subscript_in storage nodes NoSubscript = (nodes, None)
  subscript_in storage nodes (At stride count index) =
      with_item (element_of stride)
      (put_expression (type_of index) (form_in storage nodes index))

  pub target_in : Storage → Nodes → TypedTarget → Nodes × Target
  target_in storage nodes (StoredIn from to reference) =
      with_item (targets.Stored from to) (reference_in storage nodes reference)
  target_in storage nodes (SentTo from port) = (nodes, targets.Sent from port)

  -- adds the expressions of arguments from left to right, and returns their numbers
  pub numbers_in : Storage → Nodes → TypedArguments → Nodes × List ExpressionNumber
  numbers_in storage nodes NoArguments = (nodes, [])
  numbers_in storage nodes (MoreArguments first others) =
      with_both (λ number more. number ∷ more)
      (put_expression (type_of first) (form_in storage nodes first))
      (λ given. numbers_in storage given others)

-- adds an expression after its parts
abbrev pub expression_in : Storage → Nodes → TypedExpression → Nodes × ExpressionNumber
expression_in storage nodes tree = put_expression (type_of tree) (form_in storage nodes tree)

-- adds the arguments of a call after their expressions
abbrev pub arguments_in : Storage → Nodes → TypedArguments → Nodes × Range
arguments_in storage nodes trees = put_arguments (numbers_in storage nodes trees)
