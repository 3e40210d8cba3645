-- The nodes that lowering adds for the statements of a body, as functions of the tables and of the tree.
use Rattle.std.specs.Prelude.{ℕ, zero, suc, ◌+◌, min, max, Bool, true, false, ◌||◌, List, [], ◌∷◌, ◌++◌, length, Option, Some, None, unwrap_or}
use Rattle.typed_trees.specs.TypedTrees.{TypedExpression, TypedTarget, TypedArguments, TypedIteration, TypedHead, WhileHead, CountHead, TypedStatement, LabelStatement, NullStatement, AssignmentStatement, CallStatement, MoveStatement, ReturnStatement, HaltStatement, GotoStatement, IfStatement, DoStatement, LoopStatement, CaseStatement, TypedElse, NoElse, ElseStatement, TypedStatements, NoStatements, MoreStatements, TypedList, ListOf}
use Rattle.layout.specs.Storage.{Storage}
use Rattle.treecode.specs.declared.expression.ExpressionNumber.{ExpressionNumber}
use Rattle.treecode.specs.declared.lists.Range.{Range}
use Rattle.treecode.specs.declared.reference.Target.{Target}
use Rattle.treecode.specs.declared.statement.Iteration.{Iteration}
use Rattle.treecode.specs.declared.statement.LoopHead.{LoopHead}
use Rattle.treecode.specs.declared.statement.LoopHead.TheVariants as heads
use Rattle.treecode.specs.declared.statement.Statement.{Statement}
use Rattle.treecode.specs.declared.statement.Statement.TheVariants as statements
use Rattle.treecode.specs.declared.statement.StatementNumber.{StatementNumber}
use Rattle.treecode.specs.declared.statements.AddedList.{AddedList}
use Rattle.treecode.specs.declared.statements.AddedStatement.{AddedStatement}
use Rattle.treecode.specs.internal.Lowered.{ends_by}
use Rattle.treecode.specs.internal.Nodes.{Nodes}
use Rattle.treecode.specs.internal.Traits.{height_at, height_of_call, height_of_target, number_at}
use Rattle.treecode.specs.internal.Adding.{arguments_in, expression_in, target_in, with_both, with_item}
use Rattle.treecode.specs.internal.Numbers.{number_in, with_number}

-- A body that is being lowered: the tables of nodes, the number in the body of each label (by its number in
-- the module), the number of labels so far, and the greatest height so far.
pub record Walk : Type 0 where
  pub nodes : Nodes
  pub labels : List (Option ℕ)
  pub label_count : ℕ
  pub height : ℕ

-- the number of a label in its body
abbrev pub label_in : Walk → (label : ℕ) → ℕ
label_in walk label = unwrap_or (number_in walk.labels label) 0

-- gives the next number to a label
abbrev pub with_label : Walk → (label : ℕ) → Walk
with_label walk label =
    record walk { labels = with_number walk.labels label walk.label_count; label_count = suc walk.label_count }

-- gives the next numbers to `count` labels, from a first one on
abbrev pub numbered : Walk → (first count : ℕ) → Walk
numbered walk first zero = walk
numbered walk first (suc count) = numbered (with_label walk first) (suc first) count

-- begins a body
abbrev pub begun : Walk → Walk
begun walk = record walk { label_count = 0; height = 0 }

-- notes the height of an expression, a target or a call in the body
abbrev pub noted : Walk → (height : ℕ) → Walk
noted walk height = record walk { height = max walk.height height }

-- adds an expression, and notes its height
abbrev pub value_with : Walk → Nodes × ExpressionNumber → Walk × ExpressionNumber
value_with walk made = (noted (record walk { nodes = made.0 }) (height_at made.0 made.1), made.1)

abbrev pub value_in : Storage → Walk → TypedExpression → Walk × ExpressionNumber
value_in storage walk tree = value_with walk (expression_in storage walk.nodes tree)

abbrev pub optional_in : Storage → Walk → Option TypedExpression → Walk × Option ExpressionNumber
optional_in storage walk None = (walk, None)
optional_in storage walk (Some tree) = with_item Some (value_in storage walk tree)

-- adds a statement, after its parts
abbrev pub put_statement : Walk → Statement → (ends : Bool) → Walk × AddedStatement
put_statement walk statement ends = (
  record walk { nodes = record (walk.nodes) { statements = (walk.nodes).statements ++ statement ∷ [] } },
  record { number = record { index = length (walk.nodes).statements }; reaches_its_end = ends },
)

-- adds the parts of targets from left to right, and notes the height of each
abbrev pub goal_with : Walk → Nodes × Target → Walk × Target
goal_with walk made = (noted (record walk { nodes = made.0 }) (height_of_target made.0 made.1), made.1)

abbrev pub goals_in : Storage → Walk → List TypedTarget → Walk × List Target
goals_in storage walk [] = (walk, [])
goals_in storage walk (first ∷ others) =
    with_both (λ target more. target ∷ more) (goal_with walk (target_in storage walk.nodes first))
    (λ given. goals_in storage given others)

abbrev pub put_targets : Walk × List Target → Walk × Range
put_targets made = (
  record (made.0) { nodes = record ((made.0).nodes) { targets = ((made.0).nodes).targets ++ made.1 } },
  record { first = length ((made.0).nodes).targets; count = length made.1 },
)

abbrev pub targets_in : Storage → Walk → List TypedTarget → Walk × Range
targets_in storage walk trees = put_targets (goals_in storage walk trees)

abbrev pub assigned_in : Storage → Walk → List TypedTarget → TypedExpression → Walk × AddedStatement
assigned_in storage walk trees tree =
    let value = value_in storage walk tree in
    let range = targets_in storage value.0 trees in
    put_statement range.0 (statements.Assignment range.1 value.1) true

-- adds the arguments of a call, and notes its height
abbrev pub call_with : Walk → (procedure : ℕ) → Nodes × Range → Walk × AddedStatement
call_with walk procedure made =
    put_statement (noted (record walk { nodes = made.0 }) (height_of_call made.0 made.1))
    (statements.Call procedure made.1) true

abbrev pub call_in : Storage → Walk → (procedure : ℕ) → TypedArguments → Walk × AddedStatement
call_in storage walk procedure trees = call_with walk procedure (arguments_in storage walk.nodes trees)

-- the height of CALL MOVE
abbrev pub height_of_move : Nodes → (count source destination : ExpressionNumber) → ℕ
height_of_move nodes count source destination =
    min (4 + max (max (height_at nodes count) (height_at nodes source)) (height_at nodes destination)) 65535

abbrev pub moved_in : Storage → Walk → (count source destination : TypedExpression) → Walk × AddedStatement
moved_in storage walk bytes from to =
    let count = value_in storage walk bytes in
    let source = value_in storage count.0 from in
    let destination = value_in storage source.0 to in
    put_statement
    (noted destination.0 (height_of_move (destination.0).nodes count.1 source.1 destination.1))
    (statements.Move count.1 source.1 destination.1) true

abbrev pub returned_in : Storage → Walk → Option TypedExpression → Walk × AddedStatement
returned_in storage walk tree =
    let value = optional_in storage walk tree in
    put_statement value.0 (statements.Return value.1) false

-- adds the expressions of the head of an iterative DO
abbrev pub iteration_in : Storage → Walk → TypedIteration → Walk × Iteration
iteration_in storage walk head =
    let first = value_in storage (noted walk 1) head.first in
    let last = value_in storage first.0 head.last in
    let step = optional_in storage last.0 head.step in (
      step.0,
      record {
        variable = head.variable;
        scalar = head.scalar;
        first = first.1;
        last = last.1;
        step = step.1;
      },
    )

-- adds the expressions of the head of a loop
abbrev pub head_in : Storage → Walk → TypedHead → Walk × LoopHead
head_in storage walk (WhileHead test) = with_item heads.While (value_in storage walk test)
head_in storage walk (CountHead head) = with_item heads.Count (iteration_in storage walk head)

-- whether a loop with this head can end
abbrev pub loop_ends : Nodes → LoopHead → Bool
loop_ends nodes (heads.While condition) = ends_by (number_at nodes condition)
loop_ends nodes (heads.Count head) = true

-- the numbers of statements that were added, and whether the end of the last one can be reached
pub record Items : Type 0 where
  pub numbers : List StatementNumber
  pub reaches_its_end : Bool

abbrev pub items_after : List StatementNumber → Items → Items
items_after before items = record items { numbers = before ++ items.numbers }

-- adds a list of statements
abbrev pub put_list : Walk × Items → Walk × AddedList
put_list made = (
  record (made.0) { nodes = record ((made.0).nodes) { lists = ((made.0).nodes).lists ++ (made.1).numbers } },
  record {
    range = record { first = length ((made.0).nodes).lists; count = length (made.1).numbers };
    reaches_its_end = (made.1).reaches_its_end;
  },
)

abbrev pub number_of_added : Option AddedStatement → Option StatementNumber
number_of_added None = None
number_of_added (Some added) = Some added.number

-- the end of IF can be reached if that of one of its two statements can
abbrev pub either_ends : Bool → Option AddedStatement → Bool
either_ends ends None = true
either_ends ends (Some added) = ends || added.reaches_its_end

abbrev pub put_if : ExpressionNumber → AddedStatement → Walk × Option AddedStatement → Walk × AddedStatement
put_if condition body made =
    put_statement made.0 (statements.If condition body.number (number_of_added made.1))
    (either_ends body.reaches_its_end made.1)

abbrev pub put_do : Walk × AddedList → Walk × AddedStatement
put_do made = put_statement made.0 (statements.Do (made.1).range) (made.1).reaches_its_end

abbrev pub put_loop : LoopHead → Walk × AddedList → Walk × AddedStatement
put_loop head made =
    put_statement made.0 (statements.Loop head (made.1).range) (loop_ends (made.0).nodes head)

abbrev pub put_case : ExpressionNumber → Walk × AddedList → Walk × AddedStatement
put_case choice made = put_statement made.0 (statements.Case choice (made.1).range) true

abbrev mutual
  pub statement_in : Storage → Walk → TypedStatement → Walk × AddedStatement
  statement_in storage walk (LabelStatement label) =
      put_statement walk (statements.Label (label_in walk label)) true
  statement_in storage walk NullStatement = put_statement walk statements.Null true
  statement_in storage walk (AssignmentStatement trees tree) = assigned_in storage walk trees tree
  statement_in storage walk (CallStatement procedure trees) = call_in storage walk procedure trees
  statement_in storage walk (MoveStatement bytes from to) = moved_in storage walk bytes from to
  statement_in storage walk (ReturnStatement tree) = returned_in storage walk tree
  statement_in storage walk HaltStatement = put_statement walk statements.Halt false
  statement_in storage walk (GotoStatement label) =
      put_statement walk (statements.Goto (label_in walk label)) false
  statement_in storage walk (IfStatement test then_tree else_tree) =
      put_if (value_in storage walk test).1
      (statement_in storage (value_in storage walk test).0 then_tree).1
      (else_in storage (statement_in storage (value_in storage walk test).0 then_tree).0 else_tree)
  statement_in storage walk (DoStatement list) = put_do (list_in storage walk list)
  statement_in storage walk (LoopStatement head list) =
      put_loop (head_in storage walk head).1 (list_in storage (head_in storage walk head).0 list)
  statement_in storage walk (CaseStatement tree trees) =
      put_case (value_in storage walk tree).1
      (put_list (items_in storage (value_in storage walk tree).0 true trees))

  pub else_in : Storage → Walk → TypedElse → Walk × Option AddedStatement
  else_in storage walk NoElse = (walk, None)
  else_in storage walk (ElseStatement tree) = with_item Some (statement_in storage walk tree)

  -- adds statements one after another; without statements, `ends` is whether their end can be reached
  pub items_in : Storage → Walk → (ends : Bool) → TypedStatements → Walk × Items
  items_in storage walk ends NoStatements = (walk, record { numbers = []; reaches_its_end = ends })
  items_in storage walk ends (MoreStatements first others) =
      with_item (items_after ((statement_in storage walk first).1.number ∷ []))
      (items_in storage (statement_in storage walk first).0 (statement_in storage walk first).1.reaches_its_end
      others)

  -- numbers the labels of a list, and then adds its statements
  pub list_in : Storage → Walk → TypedList → Walk × AddedList
  list_in storage walk (ListOf first places trees) =
      put_list (items_in storage (numbered walk first (length places)) true trees)

-- adds statements in a row
abbrev pub statements_in : Storage → Walk → TypedStatements → Walk × AddedList
statements_in storage walk trees = put_list (items_in storage walk true trees)
