-- The relation between tree code and a typed module: which numbered nodes represent which typed tree, and
-- where its objects, constants and names are placed.
use Rattle.std.specs.Prelude.{◌≡◌, ℕ, suc, ◌%◌, ◌<◌, min, Bool, true, false, not, ◌||◌, List, [], ◌∷◌, ◌++◌, length, Option, Some, None, slice_get}
use Rattle.trees.specs.declared.declaration.ScalarType.{ScalarType}
use Rattle.trees.specs.declared.expression.BinaryOperator.{BinaryOperator}
use Rattle.trees.specs.declared.expression.UnaryOperator.{UnaryOperator}
use Rattle.typed_trees.specs.declared.parts.NumberOrigin.{NumberOrigin}
use Rattle.typed_trees.specs.declared.parts.ShiftFunction.{ShiftFunction}
use Rattle.trees.specs.declared.functions.UnaryFunction.{UnaryFunction}
use Rattle.typed_trees.specs.Charge.{height_of_list}
use Rattle.typed_trees.specs.ExpressionTypes.{type_of}
use Rattle.typed_trees.specs.TypedTrees.{TypedExpression, NumberNode, ValueNode, LocationNode, ListNode, ConversionNode, AssignmentNode, UnaryNode, BinaryNode, CallNode, FunctionNode, ShiftNode, InputNode, TypedReference, PartOf, Subscript, NoSubscript, At, TypedTarget, StoredIn, SentTo, TypedArguments, NoArguments, MoreArguments, TypedIteration, TypedHead, WhileHead, CountHead, TypedStatement, LabelStatement, NullStatement, AssignmentStatement, CallStatement, MoveStatement, ReturnStatement, HaltStatement, GotoStatement, IfStatement, DoStatement, LoopStatement, CaseStatement, TypedElse, NoElse, ElseStatement, TypedStatements, NoStatements, MoreStatements, TypedList, ListOf, TypedProcedure, TypedModule}
use Rattle.layout.specs.Storage.{Storage}
use Rattle.meaning.specs.Values.{is_true}
use Rattle.treecode.specs.declared.expression.Expression.{Expression}
use Rattle.treecode.specs.declared.expression.ExpressionForm.{ExpressionForm}
use Rattle.treecode.specs.declared.expression.ExpressionForm.TheVariants as forms
use Rattle.treecode.specs.declared.expression.ExpressionNumber.{ExpressionNumber}
use Rattle.treecode.specs.declared.lists.Range.{Range}
use Rattle.treecode.specs.declared.module.TreeModule.{TreeModule}
use Rattle.treecode.specs.declared.place.Home.{Home}
use Rattle.treecode.specs.declared.procedure.ProcedureKind.TheVariants as kinds
use Rattle.treecode.specs.declared.procedure.TreeProcedure.{TreeProcedure}
use Rattle.treecode.specs.declared.reference.Reference.{Reference}
use Rattle.treecode.specs.declared.reference.Subscript.{Subscript as IndexNode}
use Rattle.treecode.specs.declared.reference.Target.{Target}
use Rattle.treecode.specs.declared.reference.Target.TheVariants as targets
use Rattle.treecode.specs.declared.statement.Iteration.{Iteration}
use Rattle.treecode.specs.declared.statement.LoopHead.{LoopHead}
use Rattle.treecode.specs.declared.statement.LoopHead.TheVariants as heads
use Rattle.treecode.specs.declared.statement.Statement.{Statement}
use Rattle.treecode.specs.declared.statement.Statement.TheVariants as statements
use Rattle.treecode.specs.declared.statement.StatementNumber.{StatementNumber}
use Rattle.treecode.specs.internal.Contents.{constants_of, publics_of, variables_of}
use Rattle.treecode.specs.internal.Homes.{externals_of, frame_variables, homes_of, kind_of, parameters_of}
use Rattle.treecode.specs.internal.Known.{known_number, known_value, offset_of_list}
use Rattle.treecode.specs.internal.Nodes.{Nodes, nodes_of}
use Rattle.treecode.specs.internal.Rising.{NumbersRise}
use Rattle.treecode.specs.internal.Traits.{KeepTraits}

mutual
  -- the expression with this number, which is below a bound, represents a tree
  pub data IsExpression (nodes : Nodes) (storage : Storage) :
      (bound number : ℕ) → TypedExpression → Type 0 where
    IsNode : {bound number : ℕ} {tree : TypedExpression} {expression : Expression}
        → number < bound
        → slice_get nodes.expressions number ≡ Some expression
        → expression.traits.scalar ≡ type_of tree
        → IsForm nodes storage number expression.form tree
        → IsExpression nodes storage bound number tree

  -- a form represents a tree; its parts have numbers below a bound
  pub data IsForm (nodes : Nodes) (storage : Storage) :
      (bound : ℕ) → ExpressionForm → TypedExpression → Type 0 where
    IsNumber : {bound number : ℕ} {scalar : ScalarType} {origin : NumberOrigin}
        → IsForm nodes storage bound (forms.Number number) (NumberNode scalar number origin)
    IsValue : {bound : ℕ} {scalar : ScalarType} {reference : Reference} {part : TypedReference}
        → IsReference nodes storage bound reference part
        → IsForm nodes storage bound (forms.Value reference) (ValueNode scalar part)
    IsLocation : {bound : ℕ} {reference : Reference} {part : TypedReference}
        → IsReference nodes storage bound reference part
        → IsForm nodes storage bound (forms.Location reference) (LocationNode part)
    IsConstantList : {bound list : ℕ}
        → IsForm nodes storage bound (forms.List (offset_of_list storage list)) (ListNode list)
    IsConversion : {bound : ℕ} {inner : ExpressionNumber} {scalar : ScalarType} {tree : TypedExpression}
        → IsExpression nodes storage bound inner.index tree
        → IsForm nodes storage bound (forms.Conversion inner) (ConversionNode scalar tree)
    IsEmbedded : {bound : ℕ} {target : Target} {value : ExpressionNumber} {to : TypedTarget}
        {tree : TypedExpression}
        → IsTarget nodes storage bound target to
        → IsExpression nodes storage bound value.index tree
        → IsForm nodes storage bound (forms.Assignment target value) (AssignmentNode to tree)
    IsUnary : {bound : ℕ} {scalar : ScalarType} {operator : UnaryOperator} {operand : ExpressionNumber}
        {tree : TypedExpression}
        → IsExpression nodes storage bound operand.index tree
        → IsForm nodes storage bound (forms.Unary operator operand) (UnaryNode scalar operator tree)
    IsBinary : {bound : ℕ} {operands : ScalarType} {operator : BinaryOperator} {left right : ExpressionNumber}
        {first second : TypedExpression}
        → IsExpression nodes storage bound left.index first
        → IsExpression nodes storage bound right.index second
        → IsForm nodes storage bound (forms.Binary operands operator left right)
        (BinaryNode operands operator first second)
    IsCallOf : {bound procedure : ℕ} {scalar : ScalarType} {range : Range} {trees : TypedArguments}
        → AreArguments nodes storage bound range.first range.count trees
        → IsForm nodes storage bound (forms.Call procedure range) (CallNode procedure scalar trees)
    IsFunction : {bound : ℕ} {function : UnaryFunction} {operand : ExpressionNumber} {tree : TypedExpression}
        → IsExpression nodes storage bound operand.index tree
        → IsForm nodes storage bound (forms.Function function operand) (FunctionNode function tree)
    IsShift : {bound : ℕ} {scalar : ScalarType} {function : ShiftFunction} {value count : ExpressionNumber}
        {shifted by : TypedExpression}
        → IsExpression nodes storage bound value.index shifted
        → IsExpression nodes storage bound count.index by
        → IsForm nodes storage bound (forms.Shift function value count) (ShiftNode scalar function shifted by)
    IsInput : {bound port : ℕ} → IsForm nodes storage bound (forms.Input port) (InputNode port)

  -- a part of an object; its offsets are taken modulo the size of memory
  pub data IsReference (nodes : Nodes) (storage : Storage) :
      (bound : ℕ) → Reference → TypedReference → Type 0 where
    IsPart : {bound object offset : ℕ} {member : Option ℕ} {first second : Option IndexNode}
        {subscript member_subscript : Subscript}
        → IsSubscript nodes storage bound first subscript
        → IsSubscript nodes storage bound second member_subscript
        → IsReference nodes storage bound (record {
          object = object;
          subscript = first;
          offset = offset % 65536;
          member_subscript = second;
        })
        (PartOf object subscript member offset member_subscript)

  pub data IsSubscript (nodes : Nodes) (storage : Storage) :
      (bound : ℕ) → Option IndexNode → Subscript → Type 0 where
    IsAbsent : {bound : ℕ} → IsSubscript nodes storage bound None NoSubscript
    IsIndex : {bound stride count : ℕ} {number : ExpressionNumber} {index : TypedExpression}
        → IsExpression nodes storage bound number.index index
        → IsSubscript nodes storage bound (Some (record { index = number; stride = stride % 65536 }))
        (At stride count index)

  pub data IsTarget (nodes : Nodes) (storage : Storage) : (bound : ℕ) → Target → TypedTarget → Type 0 where
    IsStored : {bound : ℕ} {from to : ScalarType} {reference : Reference} {part : TypedReference}
        → IsReference nodes storage bound reference part
        → IsTarget nodes storage bound (targets.Stored from to reference) (StoredIn from to part)
    IsSent : {bound port : ℕ} {from : ScalarType}
        → IsTarget nodes storage bound (targets.Sent from port) (SentTo from port)

  -- `count` arguments in a row, from an index in the table of arguments on
  pub data AreArguments (nodes : Nodes) (storage : Storage) :
      (bound first count : ℕ) → TypedArguments → Type 0 where
    AreNone : {bound first : ℕ} → AreArguments nodes storage bound first 0 NoArguments
    AreMore : {bound first count : ℕ} {number : ExpressionNumber} {tree : TypedExpression}
        {others : TypedArguments}
        → slice_get nodes.arguments first ≡ Some number
        → IsExpression nodes storage bound number.index tree
        → AreArguments nodes storage bound (suc first) count others
        → AreArguments nodes storage bound first (suc count) (MoreArguments tree others)

-- the expression with this number, anywhere in the table, represents a tree
abbrev pub IsExpressionIn : Nodes → Storage → ExpressionNumber → TypedExpression → Type 0
IsExpressionIn nodes storage number tree =
    IsExpression nodes storage (length nodes.expressions) number.index tree

-- an expression that may be absent
pub data IsOptional (nodes : Nodes) (storage : Storage) :
    Option ExpressionNumber → Option TypedExpression → Type 0 where
  IsNoValue : IsOptional nodes storage None None
  IsSomeValue : {number : ExpressionNumber} {tree : TypedExpression}
      → IsExpressionIn nodes storage number tree
      → IsOptional nodes storage (Some number) (Some tree)

-- `count` targets in a row, from an index in the table of targets on
pub data AreTargets (nodes : Nodes) (storage : Storage) : (first count : ℕ) → List TypedTarget → Type 0 where
  NoTargets : {first : ℕ} → AreTargets nodes storage first 0 []
  MoreTargets : {first count : ℕ} {target : Target} {tree : TypedTarget} {others : List TypedTarget}
      → slice_get nodes.targets first ≡ Some target
      → IsTarget nodes storage (length nodes.expressions) target tree
      → AreTargets nodes storage (suc first) count others
      → AreTargets nodes storage first (suc count) (tree ∷ others)

-- the head of an iterative DO
pub record IsIteration
    (nodes : Nodes) (storage : Storage) (head : Iteration) (tree : TypedIteration) : Type 0 where
  pub variable : head.variable ≡ tree.variable
  pub scalar : head.scalar ≡ tree.scalar
  pub first : IsExpressionIn nodes storage head.first tree.first
  pub last : IsExpressionIn nodes storage head.last tree.last
  pub step : IsOptional nodes storage head.step tree.step

-- the head of a loop
pub data IsHead (nodes : Nodes) (storage : Storage) : LoopHead → TypedHead → Type 0 where
  IsWhileHead : {condition : ExpressionNumber} {test : TypedExpression}
      → IsExpressionIn nodes storage condition test
      → IsHead nodes storage (heads.While condition) (WhileHead test)
  IsCountHead : {head : Iteration} {tree : TypedIteration}
      → IsIteration nodes storage head tree
      → IsHead nodes storage (heads.Count head) (CountHead tree)

-- what is given for the condition of a DO WHILE, or for the head of an iterative DO
abbrev pub for_head : {A : Type 0} → (ExpressionNumber → A) → (Iteration → A) → LoopHead → A
for_head of_condition of_iteration (heads.While condition) = of_condition condition
for_head of_condition of_iteration (heads.Count iteration) = of_iteration iteration

mutual
  -- The statement with this number, which is below a bound, represents a tree in a body with these labels.
  -- The number of a label in its body is its position among them.
  pub data IsStatement (nodes : Nodes) (storage : Storage) (labels : List ℕ) :
      (bound number : ℕ) → TypedStatement → Type 0 where
    IsStatementNode : {bound number : ℕ} {tree : TypedStatement} {statement : Statement}
        → number < bound
        → slice_get nodes.statements number ≡ Some statement
        → IsStatementForm nodes storage labels number statement tree
        → IsStatement nodes storage labels bound number tree

  pub data IsStatementForm (nodes : Nodes) (storage : Storage) (labels : List ℕ) :
      (bound : ℕ) → Statement → TypedStatement → Type 0 where
    IsLabel : {bound number label : ℕ}
        → slice_get labels number ≡ Some label
        → IsStatementForm nodes storage labels bound (statements.Label number) (LabelStatement label)
    IsNull : {bound : ℕ} → IsStatementForm nodes storage labels bound statements.Null NullStatement
    IsAssignment : {bound : ℕ} {range : Range} {value : ExpressionNumber} {trees : List TypedTarget}
        {tree : TypedExpression}
        → AreTargets nodes storage range.first range.count trees
        → IsExpressionIn nodes storage value tree
        → IsStatementForm nodes storage labels bound (statements.Assignment range value)
        (AssignmentStatement trees tree)
    IsCall : {bound procedure : ℕ} {range : Range} {trees : TypedArguments}
        → AreArguments nodes storage (length nodes.expressions) range.first range.count trees
        → IsStatementForm nodes storage labels bound (statements.Call procedure range)
        (CallStatement procedure trees)
    IsMove : {bound : ℕ} {count source destination : ExpressionNumber} {bytes from to : TypedExpression}
        → IsExpressionIn nodes storage count bytes
        → IsExpressionIn nodes storage source from
        → IsExpressionIn nodes storage destination to
        → IsStatementForm nodes storage labels bound (statements.Move count source destination)
        (MoveStatement bytes from to)
    IsReturn : {bound : ℕ} {value : Option ExpressionNumber} {tree : Option TypedExpression}
        → IsOptional nodes storage value tree
        → IsStatementForm nodes storage labels bound (statements.Return value) (ReturnStatement tree)
    IsHalt : {bound : ℕ} → IsStatementForm nodes storage labels bound statements.Halt HaltStatement
    IsGoto : {bound number label : ℕ}
        → slice_get labels number ≡ Some label
        → IsStatementForm nodes storage labels bound (statements.Goto number) (GotoStatement label)
    IsIf : {bound : ℕ} {condition : ExpressionNumber} {body : StatementNumber}
        {otherwise : Option StatementNumber} {test : TypedExpression}
        {then_tree : TypedStatement} {else_tree : TypedElse}
        → IsExpressionIn nodes storage condition test
        → IsStatement nodes storage labels bound body.index then_tree
        → IsElse nodes storage labels bound otherwise else_tree
        → IsStatementForm nodes storage labels bound (statements.If condition body otherwise)
        (IfStatement test then_tree else_tree)
    IsDo : {bound : ℕ} {range : Range} {list : TypedList}
        → IsList nodes storage labels bound range list
        → IsStatementForm nodes storage labels bound (statements.Do range) (DoStatement list)
    IsLoop : {bound : ℕ} {head : LoopHead} {range : Range} {tree : TypedHead} {list : TypedList}
        → IsHead nodes storage head tree
        → IsList nodes storage labels bound range list
        → IsStatementForm nodes storage labels bound (statements.Loop head range) (LoopStatement tree list)
    IsCase : {bound : ℕ} {choice : ExpressionNumber} {range : Range} {tree : TypedExpression}
        {trees : TypedStatements}
        → IsExpressionIn nodes storage choice tree
        → AreStatements nodes storage labels bound range.first range.count trees
        → IsStatementForm nodes storage labels bound (statements.Case choice range)
        (CaseStatement tree trees)

  pub data IsElse (nodes : Nodes) (storage : Storage) (labels : List ℕ) :
      (bound : ℕ) → Option StatementNumber → TypedElse → Type 0 where
    IsNoElse : {bound : ℕ} → IsElse nodes storage labels bound None NoElse
    IsSomeElse : {bound : ℕ} {number : StatementNumber} {tree : TypedStatement}
        → IsStatement nodes storage labels bound number.index tree
        → IsElse nodes storage labels bound (Some number) (ElseStatement tree)

  -- `count` statements in a row, from an index in the table of lists on
  pub data AreStatements (nodes : Nodes) (storage : Storage) (labels : List ℕ) :
      (bound first count : ℕ) → TypedStatements → Type 0 where
    AreNoStatements : {bound first : ℕ} → AreStatements nodes storage labels bound first 0 NoStatements
    AreMoreStatements : {bound first count : ℕ} {number : StatementNumber} {tree : TypedStatement}
        {others : TypedStatements}
        → slice_get nodes.lists first ≡ Some number
        → IsStatement nodes storage labels bound number.index tree
        → AreStatements nodes storage labels bound (suc first) count others
        → AreStatements nodes storage labels bound first (suc count) (MoreStatements tree others)

  -- a list of statements; its labels have numbers in the body
  pub data IsList (nodes : Nodes) (storage : Storage) (labels : List ℕ) :
      (bound : ℕ) → Range → TypedList → Type 0 where
    IsListOf : {bound first_label : ℕ} {places : List ℕ} {range : Range} {trees : TypedStatements}
        → AreStatements nodes storage labels bound range.first range.count trees
        → IsList nodes storage labels bound range (ListOf first_label places trees)

-- as many consecutive numbers as there are places, from a first one on
abbrev pub numbers_from : (first : ℕ) → (places : List ℕ) → List ℕ
numbers_from first [] = []
numbers_from first (place ∷ places) = first ∷ numbers_from (suc first) places

abbrev mutual
  -- the labels of the lists in a statement, in the order in which the lists begin
  pub labels_numbered : TypedStatement → List ℕ
  labels_numbered (IfStatement condition body otherwise) =
      labels_numbered body ++ labels_numbered_in_else otherwise
  labels_numbered (DoStatement body) = labels_numbered_in_list body
  labels_numbered (LoopStatement head body) = labels_numbered_in_list body
  labels_numbered (CaseStatement choice body) = labels_numbered_in_statements body
  labels_numbered statement = []

  pub labels_numbered_in_else : TypedElse → List ℕ
  labels_numbered_in_else NoElse = []
  labels_numbered_in_else (ElseStatement statement) = labels_numbered statement

  pub labels_numbered_in_statements : TypedStatements → List ℕ
  labels_numbered_in_statements NoStatements = []
  labels_numbered_in_statements (MoreStatements first others) =
      labels_numbered first ++ labels_numbered_in_statements others

  pub labels_numbered_in_list : TypedList → List ℕ
  labels_numbered_in_list (ListOf first_label places statements) =
      numbers_from first_label places ++ labels_numbered_in_statements statements

-- whether a loop with this condition can end: it cannot if the condition is known to be true
abbrev pub ends_by : Option ℕ → Bool
ends_by None = true
ends_by (Some number) = not (is_true number)

-- whether a loop with this head can end, as each iterative DO can
abbrev pub head_ends : List Home → Storage → TypedHead → Bool
head_ends starts storage (WhileHead condition) = ends_by (known_number (known_value starts storage condition))
head_ends starts storage (CountHead head) = true

abbrev mutual
  -- Whether the end of a statement can be reached, judged by its form and by known conditions.
  pub reaches_end : List Home → Storage → TypedStatement → Bool
  reaches_end starts storage (ReturnStatement value) = false
  reaches_end starts storage HaltStatement = false
  reaches_end starts storage (GotoStatement label) = false
  reaches_end starts storage (IfStatement condition body otherwise) =
      reaches_end starts storage body || reaches_end_of_else starts storage otherwise
  reaches_end starts storage (DoStatement body) = reaches_end_of_list starts storage true body
  reaches_end starts storage (LoopStatement head body) = head_ends starts storage head
  reaches_end starts storage statement = true

  pub reaches_end_of_else : List Home → Storage → TypedElse → Bool
  reaches_end_of_else starts storage NoElse = true
  reaches_end_of_else starts storage (ElseStatement statement) = reaches_end starts storage statement

  -- that of the last statement; without statements, the given answer
  pub reaches_end_of_statements : List Home → Storage → Bool → TypedStatements → Bool
  reaches_end_of_statements starts storage before NoStatements = before
  reaches_end_of_statements starts storage before (MoreStatements first others) =
      reaches_end_of_statements starts storage (reaches_end starts storage first) others

  pub reaches_end_of_list : List Home → Storage → Bool → TypedList → Bool
  reaches_end_of_list starts storage before (ListOf first_label places statements) =
      reaches_end_of_statements starts storage before statements

-- a procedure of a module, or its main program, without its heading
pub record HasBody (nodes : Nodes) (storage : Storage) (procedure : TreeProcedure) (tree : TypedProcedure) :
    Type 0 where
  pub parameters : procedure.parameters.items ≡ parameters_of nodes.homes tree
  pub body :
      IsList nodes storage (labels_numbered_in_list tree.body) (length nodes.statements) procedure.body
      tree.body
  pub label_count : procedure.label_count ≡ length (labels_numbered_in_list tree.body)
  pub reaches_its_end : procedure.reaches_its_end ≡ reaches_end_of_list nodes.homes storage true tree.body
  pub height : procedure.height ≡ min (height_of_list tree.body) 65535

-- the procedure with this number
pub record IsProcedure
    (typed : TypedModule) (nodes : Nodes) (storage : Storage) (number : ℕ)
    (procedure : TreeProcedure) (tree : TypedProcedure) : Type 0 where
  pub kind : procedure.kind ≡ kind_of typed number tree
  pub result : procedure.result ≡ tree.result
  pub frame : procedure.frame.items ≡ frame_variables typed number
  pub frame_bytes : procedure.frame_bytes ≡ tree.frame_bytes
  pub has_body : HasBody nodes storage procedure tree

-- Tree code represents a typed module with its storage.
pub record IsLowered (typed : TypedModule) (storage : Storage) (tree : TreeModule) : Type 0 where
  pub name : tree.name ≡ typed.name
  pub homes : tree.homes.items ≡ homes_of typed storage
  pub externals : tree.externals.items ≡ externals_of typed
  pub publics : tree.publics.items ≡ publics_of typed tree.homes.items
  pub constants : tree.constants.items ≡ constants_of typed tree.homes.items
  pub variables : tree.variables.items ≡ variables_of typed tree.homes.items
  pub procedure_count : length tree.procedures.items ≡ length typed.procedures
  pub procedures :
      (number : ℕ) (procedure : TreeProcedure) (heading : TypedProcedure)
      → slice_get tree.procedures.items number ≡ Some procedure
      → slice_get typed.procedures number ≡ Some heading
      → IsProcedure typed (nodes_of tree) storage number procedure heading
  pub main : HasBody (nodes_of tree) storage tree.main typed.main
  pub main_kind : tree.main.kind ≡ kinds.Static
  pub main_frame : tree.main.frame.items ≡ []
  pub main_frame_bytes : tree.main.frame_bytes ≡ 0
  pub main_result : tree.main.result ≡ None
  pub traits : KeepTraits (nodes_of tree)
  pub order : NumbersRise (nodes_of tree)
