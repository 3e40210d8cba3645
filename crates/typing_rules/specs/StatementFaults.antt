-- Which fault the parts of statements have that hold no statement: a rule for each cause, with its place.
use Rattle.std.specs.Prelude.{◌≡◌, ℕ, false, true, List, ◌∷◌, Option, Some}
use Rattle.trees.specs.declared.declaration.ScalarType.{ScalarType}
use Rattle.trees.specs.declared.identifier.Identifier.{Identifier}
use Rattle.trees.specs.Trees.{ExpressionTree, ReferenceTree, IterationTree, LoopHeadTree, WhileHead, CountHead}
use Rattle.names.specs.Environment.{Here, with_label, is_label_again}
use Rattle.typing.specs.declared.fault.Cause.TheVariants.{UnknownName, DeclaredTwice, NoVariable, NoCounter, ConstantWritten}
use Rattle.typing.specs.declared.fault.Fault.{Fault}
use Rattle.typed_trees.specs.declared.parts.TypedMember.{TypedMember}
use Rattle.typed_trees.specs.TypedTrees.{TypedExpression, StructureObject, TypedObject, Constants}
use Rattle.typing.specs.Items.{is_not_based}
use Rattle.typing.specs.Nodes.{Destination}
use Rattle.typing.specs.References.{Known, is_constant}
use Rattle.typing_rules.specs.Expressions.{ExpressionTyping, TargetTyping}
use Rattle.typing_rules.specs.ExpressionFaults.{ExpressionFault, TargetFault}
use Rattle.typing_rules.specs.Names.{IsUnknown, IsVariable, IsNoVariable, at_name}
use Rattle.typing_rules.specs.Statements.{IsCounter}

pub data TargetsFault (known : Known) : Constants → List ReferenceTree → Fault → Type 0 where
  in_first_target : {before : Constants} {first : ReferenceTree} {others : List ReferenceTree} {fault : Fault}
      → TargetFault known before first fault
      → TargetsFault known before (first ∷ others) fault
  in_other_targets : {before middle : Constants} {first : ReferenceTree} {others : List ReferenceTree}
      {destination : Destination} {fault : Fault}
      → TargetTyping known before first destination middle
      → TargetsFault known middle others fault
      → TargetsFault known before (first ∷ others) fault

-- the variable of an iterative DO
pub data CounterFault (known : Known) (name : Identifier) : Fault → Type 0 where
  -- C11
  unknown_counter : IsUnknown known name → CounterFault known name (at_name UnknownName name)
  -- C13
  counter_of_no_variable : IsNoVariable known name → CounterFault known name (at_name NoVariable name)
  -- C16
  counter_with_data : {number : ℕ} {object : TypedObject}
      → IsVariable known name number object
      → is_constant object.home ≡ true
      → CounterFault known name (at_name ConstantWritten name)
  -- C13
  counter_in_array : {number : ℕ} {object : TypedObject} {count : ℕ}
      → IsVariable known name number object
      → is_constant object.home ≡ false
      → object.dimension ≡ Some count
      → CounterFault known name (at_name NoCounter name)
  based_counter : {number : ℕ} {object : TypedObject}
      → IsVariable known name number object
      → is_constant object.home ≡ false
      → is_not_based object.home ≡ false
      → CounterFault known name (at_name NoCounter name)
  counter_with_members : {number : ℕ} {object : TypedObject} {members : List TypedMember}
      → IsVariable known name number object
      → is_constant object.home ≡ false
      → object.object_type ≡ StructureObject members
      → CounterFault known name (at_name NoCounter name)

pub data StepFault (known : Known) : Constants → Option ExpressionTree → Fault → Type 0 where
  in_step : {before : Constants} {tree : ExpressionTree} {fault : Fault}
      → ExpressionFault known before tree fault
      → StepFault known before (Some tree) fault

-- the head of an iterative DO: the variable, and then the values from left to right
pub data IterationFault (known : Known) : Constants → IterationTree → Fault → Type 0 where
  in_counter : {before : Constants} {head : IterationTree} {fault : Fault}
      → CounterFault known head.variable fault
      → IterationFault known before head fault
  in_first_value : {before : Constants} {head : IterationTree} {number : ℕ} {scalar : ScalarType}
      {fault : Fault}
      → IsCounter known head.variable number scalar
      → ExpressionFault known before head.first fault
      → IterationFault known before head fault
  in_last_value : {before one : Constants} {head : IterationTree} {number : ℕ} {scalar : ScalarType}
      {first : TypedExpression} {fault : Fault}
      → IsCounter known head.variable number scalar
      → ExpressionTyping known before head.first first one
      → ExpressionFault known one head.last fault
      → IterationFault known before head fault
  in_step_value : {before one two : Constants} {head : IterationTree} {number : ℕ} {scalar : ScalarType}
      {first last : TypedExpression} {fault : Fault}
      → IsCounter known head.variable number scalar
      → ExpressionTyping known before head.first first one
      → ExpressionTyping known one head.last last two
      → StepFault known two head.step fault
      → IterationFault known before head fault

-- the head of a loop
pub data HeadFault (known : Known) : Constants → LoopHeadTree → Fault → Type 0 where
  in_while_condition : {before : Constants} {condition : ExpressionTree} {fault : Fault}
      → ExpressionFault known before condition fault
      → HeadFault known before (WhileHead condition) fault
  in_iteration : {before : Constants} {head : IterationTree} {fault : Fault}
      → IterationFault known before head fault
      → HeadFault known before (CountHead head) fault

-- C12: a label whose name its body has already, as a label or as a declaration
pub data LabelsFault : Here → List Identifier → Fault → Type 0 where
  label_again : {here : Here} {label : Identifier} {others : List Identifier}
      → is_label_again here label.name ≡ true
      → LabelsFault here (label ∷ others) (at_name DeclaredTwice label)
  in_other_labels : {here : Here} {label : Identifier} {others : List Identifier} {fault : Fault}
      → is_label_again here label.name ≡ false
      → LabelsFault (with_label label.name here) others fault
      → LabelsFault here (label ∷ others) fault
