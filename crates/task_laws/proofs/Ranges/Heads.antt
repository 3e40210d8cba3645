-- The head of a loop: its numbers have 16 bits, and what is done before the first turn and in each gives
-- values of their types.
use Rattle.task_laws.proofs.Prelude.{◌≡◌, ℕ, ◌+◌, ◌<◌, nat_lt, Option, Some, None, slice_get, if◌then◌else◌, IfSome, type_of, TypedExpression, TypedHead, TypedIteration, TypedList, TypedModule, TypesHold, TypesHoldInHead, Within, Surroundings, place_of, Later, LoopTurn, Turn, after_turn, begun_loop, iterated, next_turn, read_variable, step_value, stepped, turned_loop, value, write_variable, Flow, Gave, Jumped, Onward, Outcome, Returned, taking_one, then_do, as_type, is_true, values_of, SourceFits, NumbersFit, NumbersFitIfSome, NumbersFitInHead, HasTypes, as_type_fits, Storage, ExpressionNumber, IsExpression, IsOptional, Nodes}
use Rattle.typed_trees.specs.TypedTrees.{WhileHead, CountHead}
use Rattle.meaning.specs.Outcomes.{State}
use Rattle.task_laws.proofs.Ranges.RangesOfBytes.{Gives, IsGiven, IsStopped, gives_then, scalar_fits, write_fits, either, after_taking}
use Rattle.task_laws.proofs.Ranges.RangesOfTrees.{FlowFits, LaterFits, TurnFits}
use Rattle.treecode.specs.internal.Lowered.{IsCountHead, IsHead, IsWhileHead}
use Rattle.treecode.specs.declared.statement.LoopHead.{LoopHead}

-- its numbers, by those of expressions
pub in_head : (nodes : Nodes) (storage : Storage)
    → ((bound number : ℕ) (tree : TypedExpression)
    → IsExpression nodes storage bound number tree → NumbersFit tree)
    → ((number : Option ExpressionNumber) (tree : Option TypedExpression)
    → IsOptional nodes storage number tree → NumbersFitIfSome tree)
    → {head : LoopHead} {tree : TypedHead} → IsHead nodes storage head tree → NumbersFitInHead tree
in_head nodes storage in_node in_optional (IsWhileHead is) = in_node _ _ _ is
in_head nodes storage in_node in_optional (IsCountHead is) =
    (in_node _ _ _ is.first, in_node _ _ _ is.last, in_optional _ _ is.step)

-- a counter
variable_fits : (around : Surroundings) (head : TypedIteration) (s : State) → SourceFits around s
    → Gives (λ n t. SourceFits around t) (read_variable around head s)
variable_fits around head s source =
    gives_weaker (read_variable around head s)
    (scalar_fits around head.scalar (place_of around head.variable) s source)
  where
    gives_weaker : (outcome : Outcome ℕ)
        → Gives (λ n t. (n < values_of head.scalar) × SourceFits around t) outcome
        → Gives (λ n t. SourceFits around t) outcome
    gives_weaker outcome (IsGiven both) = IsGiven both.1
    gives_weaker outcome IsStopped = IsStopped

module _ (later : Later) (fits : LaterFits later) (typed : TypedModule) (within : Within)
    (around : Surroundings) (program : HasTypes around.program)
    (here : slice_get around.program.modules around.number_of_module ≡ Some typed)
    (value_is : (tree : TypedExpression) (s : State)
    → TypesHold typed within tree → NumbersFit tree → SourceFits around s
    → Gives (λ n t. (n < values_of (type_of tree)) × SourceFits around t) (value later around tree s)) where
  -- the result of a part of a body
  abbrev FlowIs : Outcome Flow → Type 0
  FlowIs outcome = Gives (λ flow t. FlowFits within flow × SourceFits around t) outcome

  -- the rest after a part of a body
  after_fits : (turn : Turn) (flow : Flow) (s : State)
      → TurnFits typed within turn
      → FlowFits within flow × SourceFits around s
      → FlowIs (after_turn later around turn flow s)
  after_fits turn Onward s types both = fits.again typed within turn around s program here types both.1
  after_fits turn (Returned found) s types both = IsGiven both
  after_fits turn (Jumped label) s types both = IsGiven both

  -- an iterative DO
  step_fits : (step : Option TypedExpression) (s : State)
      → IfSome step (TypesHold typed within) → NumbersFitIfSome step → SourceFits around s
      → Gives (λ n t. SourceFits around t) (step_value later around step s)
  step_fits None s types small source = IsGiven source
  step_fits (Some tree) s types small source =
      by (value later around tree s) (value_is tree s types small source)
    where
      by : (outcome : Outcome ℕ)
          → Gives (λ n t. (n < values_of (type_of tree)) × SourceFits around t) outcome
          → Gives (λ n t. SourceFits around t) outcome
      by outcome (IsGiven both) = IsGiven both.1
      by outcome IsStopped = IsStopped

  stepped_fits : (head : TypedIteration) (body : TypedList) (flow : Flow) (s : State)
      → TurnFits typed within (LoopTurn (CountHead head) body)
      → FlowFits within flow × SourceFits around s
      → FlowIs (stepped later around head body flow s)
  stepped_fits head body Onward s types both =
      gives_then (step_value later around head.step s)
      (λ step t.
      then_do (read_variable around head t)
      (λ number u.
      then_do (write_variable around head (as_type head.scalar (number + step)) u)
      (λ _ v. next_turn later around head body (number + step) v)))
      (step_fits head.step s ((types.0).0).3 ((types.0).1).2 both.1)
      (λ step t one.
      gives_then (read_variable around head t)
      (λ number u.
      then_do (write_variable around head (as_type head.scalar (number + step)) u)
      (λ _ v. next_turn later around head body (number + step) v))
      (variable_fits around head t one)
      (λ number u two.
      gives_then (write_variable around head (as_type head.scalar (number + step)) u)
      (λ _ v. next_turn later around head body (number + step) v)
      (write_fits around head.scalar (place_of around head.variable) (as_type head.scalar (number + step)) u
      (as_type_fits head.scalar (number + step)) two)
      (λ _ v three.
      either (nat_lt (number + step) (values_of head.scalar))
      (later.again (LoopTurn (CountHead head) body) around v) (Gave Onward v)
      (fits.again typed within (LoopTurn (CountHead head) body) around v program here types three)
      (IsGiven (tt, three)))))
  stepped_fits head body (Returned found) s types both = IsGiven both
  stepped_fits head body (Jumped label) s types both = IsGiven both

  iterated_fits : (head : TypedIteration) (body : TypedList) (body_done : State → Outcome Flow) (s : State)
      → TurnFits typed within (LoopTurn (CountHead head) body)
      → ((v : State) → SourceFits around v → FlowIs (body_done v))
      → SourceFits around s
      → FlowIs (iterated later around head body body_done s)
  iterated_fits head body body_done s types inside source =
      gives_then (value later around head.last s)
      (λ last t.
      then_do (read_variable around head t)
      (λ number u.
      if nat_lt last number then Gave Onward u
      else taking_one u (λ v. then_do (body_done v) (stepped later around head body))))
      (value_is head.last s ((types.0).0).2 ((types.0).1).1 source)
      (λ last t one.
      gives_then (read_variable around head t)
      (λ number u.
      if nat_lt last number then Gave Onward u
      else taking_one u (λ v. then_do (body_done v) (stepped later around head body)))
      (variable_fits around head t one.1)
      (λ number u two.
      either (nat_lt last number) (Gave Onward u)
      (taking_one u (λ v. then_do (body_done v) (stepped later around head body)))
      (IsGiven (tt, two))
      (after_taking around u (λ v. then_do (body_done v) (stepped later around head body)) two
      (λ v less.
      gives_then (body_done v) (stepped later around head body) (inside v less)
      (λ flow w three. stepped_fits head body flow w types three)))))

  -- any head
  pub turned_fits : (head : TypedHead) (body : TypedList) (body_done : State → Outcome Flow) (s : State)
      → TurnFits typed within (LoopTurn head body)
      → ((v : State) → SourceFits around v → FlowIs (body_done v))
      → SourceFits around s
      → FlowIs (turned_loop later around head body body_done s)
  turned_fits (WhileHead condition) body body_done s types inside source =
      gives_then (value later around condition s)
      (λ n t.
      if is_true n
      then taking_one t
      (λ u. then_do (body_done u) (after_turn later around (LoopTurn (WhileHead condition) body)))
      else Gave Onward t)
      (value_is condition s (types.0).0 (types.0).1 source)
      (λ n t one.
      either (is_true n)
      (taking_one t
      (λ u. then_do (body_done u) (after_turn later around (LoopTurn (WhileHead condition) body))))
      (Gave Onward t)
      (after_taking around t
      (λ u. then_do (body_done u) (after_turn later around (LoopTurn (WhileHead condition) body))) one.1
      (λ u less.
      gives_then (body_done u) (after_turn later around (LoopTurn (WhileHead condition) body)) (inside u less)
      (λ flow v two. after_fits (LoopTurn (WhileHead condition) body) flow v types two)))
      (IsGiven (tt, one.1)))
  turned_fits (CountHead head) body body_done s types inside source =
      iterated_fits head body body_done s types inside source

  pub begun_fits : (head : TypedHead) (turns : State → Outcome Flow) (s : State)
      → TypesHoldInHead typed within head → NumbersFitInHead head
      → ((t : State) → SourceFits around t → FlowIs (turns t))
      → SourceFits around s
      → FlowIs (begun_loop later around head turns s)
  begun_fits (WhileHead condition) turns s types small rest source = rest s source
  begun_fits (CountHead head) turns s types small rest source =
      gives_then (value later around head.first s)
      (λ first t. then_do (write_variable around head (as_type head.scalar first) t) (λ _ u. turns u))
      (value_is head.first s types.1 small.0 source)
      (λ first t one.
      gives_then (write_variable around head (as_type head.scalar first) t) (λ _ u. turns u)
      (write_fits around head.scalar (place_of around head.variable) (as_type head.scalar first) t
      (as_type_fits head.scalar first) one.1)
      (λ _ u two. rest u two))
