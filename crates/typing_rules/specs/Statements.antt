-- When the parts of statements are well typed that hold no statement (PL/M-80 Programming Manual, "Statements").
use Rattle.std.specs.Prelude.{◌≡◌, ℕ, false, true, List, [], ◌∷◌, Option, Some, None}
use Rattle.trees.specs.declared.declaration.ScalarType.{ScalarType}
use Rattle.trees.specs.declared.identifier.Identifier.{Identifier}
use Rattle.trees.specs.Trees.{ExpressionTree, ReferenceTree, IterationTree, LoopHeadTree, WhileHead, CountHead}
use Rattle.names.specs.Environment.{Here, with_label, is_label_again}
use Rattle.typed_trees.specs.TypedTrees.{TypedExpression, TypedIteration, TypedHead, WhileHead as TypedWhile, CountHead as TypedCount, ScalarObject, TypedObject, Constants}
use Rattle.typing.specs.Items.{is_not_based}
use Rattle.typing.specs.Nodes.{Destination}
use Rattle.typing.specs.References.{Known, is_constant}
use Rattle.typing_rules.specs.Expressions.{ExpressionTyping, TargetTyping}
use Rattle.typing_rules.specs.Names.{IsVariable}

-- the targets of an assignment, from left to right
pub data TargetsTyping (known : Known) : Constants → List ReferenceTree → List Destination → Constants → Type 0 where
  no_targets : {constants : Constants} → TargetsTyping known constants [] [] constants
  next_target : {before middle after : Constants} {first : ReferenceTree} {others : List ReferenceTree}
      {destination : Destination} {rest : List Destination}
      → TargetTyping known before first destination middle
      → TargetsTyping known middle others rest after
      → TargetsTyping known before (first ∷ others) (destination ∷ rest) after

-- the variable of an iterative DO: a scalar, not in an array, not BASED and none of DATA
pub record IsCounter (known : Known) (name : Identifier) (number : ℕ) (scalar : ScalarType) : Type 0 where
  pub object : TypedObject
  pub variable : IsVariable known name number object
  pub without_data : is_constant object.home ≡ false
  pub no_array : object.dimension ≡ None
  pub not_based : is_not_based object.home ≡ true
  pub is_scalar : object.object_type ≡ ScalarObject scalar

-- the value after BY, if there is one
pub data StepTyping (known : Known) : Constants → Option ExpressionTree → Option TypedExpression → Constants → Type 0 where
  no_step : {constants : Constants} → StepTyping known constants None None constants
  a_step : {before after : Constants} {tree : ExpressionTree} {typed : TypedExpression}
      → ExpressionTyping known before tree typed after
      → StepTyping known before (Some tree) (Some typed) after

-- the head of an iterative DO, whose values have the types that they have by themselves
pub data IterationTyping (known : Known) : Constants → IterationTree → TypedIteration → Constants → Type 0 where
  iterates : {before one two after : Constants} {head : IterationTree} {number : ℕ} {scalar : ScalarType}
      {first last : TypedExpression} {step : Option TypedExpression}
      → IsCounter known head.variable number scalar
      → ExpressionTyping known before head.first first one
      → ExpressionTyping known one head.last last two
      → StepTyping known two head.step step after
      → IterationTyping known before head
      (record { variable = number; scalar = scalar; first = first; last = last; step = step }) after

-- the head of a loop
pub data HeadTyping (known : Known) : Constants → LoopHeadTree → TypedHead → Constants → Type 0 where
  do_while : {before after : Constants} {condition : ExpressionTree} {tested : TypedExpression}
      → ExpressionTyping known before condition tested after
      → HeadTyping known before (WhileHead condition) (TypedWhile tested) after
  iterative_do : {before after : Constants} {head : IterationTree} {iteration : TypedIteration}
      → IterationTyping known before head iteration after
      → HeadTyping known before (CountHead head) (TypedCount iteration) after

-- the labels before a statement, which differ from each other, from all earlier labels of their body, and from what it
-- declares
pub data AreNewLabels : Here → List Identifier → Here → Type 0 where
  no_labels : {here : Here} → AreNewLabels here [] here
  next_label : {here after : Here} {label : Identifier} {others : List Identifier}
      → is_label_again here label.name ≡ false
      → AreNewLabels (with_label label.name here) others after
      → AreNewLabels here (label ∷ others) after
