-- When statements, declarations and modules are well typed, and what they are as typed ones: a rule for each construct of
-- the language (PL/M-80 Programming Manual, "Statements", "Declarations", "Procedures"). A rule tells how far the typing of
-- the text has come before its construct and after it: what names stand for, the objects, the procedures, the constants and
-- the globals so far.
use Rattle.std.specs.Prelude.{◌≡◌, ℕ, ◌+◌, List, [], length, Option, Some, None}
use Rattle.trees.specs.declared.declaration.ScalarType.{ScalarType}
use Rattle.trees.specs.declared.declaration.ScalarType.TheVariants.{Address}
use Rattle.trees.specs.declared.identifier.Identifier.{Identifier}
use Rattle.trees.specs.declared.identifier.Place.{Place}
use Rattle.trees.specs.Trees.{ExpressionTree, ReferenceTree, ArgumentTrees, ElementTree, HeadingTree, LoopHeadTree, StatementTree, LabelledStatement, StatementKindTree, NullStatement, AssignmentStatement, CallStatement, ReturnStatement, HaltStatement, GotoStatement, IfStatement, DoStatement, LoopStatement, CaseStatement, ElseTree, NoElse, ElseStatement, StatementTrees, NoStatements, MoreStatements, DeclarationTree, DeclareTree, ProcedureTree, DeclarationTrees, NoDeclarations, MoreDeclarations, ModuleTree}
use Rattle.names.specs.declared.entity.BuiltIn.TheVariants.{Move}
use Rattle.names.specs.declared.entity.Binding.TheVariants.{Declared}
use Rattle.names.specs.declared.entity.Entity.TheVariants.{Label}
use Rattle.names.specs.BuiltIns.{jump_of}
use Rattle.names.specs.Environment.{Here, into_list, out_of_list}
use Rattle.names.specs.DeclaredNames.{labels_of}
use Rattle.typed_trees.specs.TypedTrees.{TypedExpression, TypedArguments, NoArguments as NoTypedArguments, MoreArguments, TypedHead, TypedStatement, NullStatement as TypedNull, CallStatement as TypedCall, MoveStatement, ReturnStatement as TypedReturn, HaltStatement as TypedHalt, GotoStatement as TypedGoto, IfStatement as TypedIf, DoStatement as TypedDo, LoopStatement as TypedLoop, CaseStatement as TypedCase, TypedElse, NoElse as NoTypedElse, ElseStatement as TypedElseStatement, TypedStatements, NoStatements as NoTyped, MoreStatements as MoreTyped, TypedList, ListOf, TypedProcedure, TypedModule, Constants}
use Rattle.typing.specs.Nodes.{as_type, arguments_as, Destination}
use Rattle.typing.specs.References.{number_of_arguments}
use Rattle.typing.specs.Blocks.{OfProcedure, Block, Progress}
use Rattle.typing.specs.Statements.{with_here, with_constants, assigned, after_labels, places_from}
use Rattle.typing.specs.Procedures.{own_block, close_procedure}
use Rattle.typing.specs.Modules.{inner_block, entered, left, module_block, at_the_beginning, module_with}
use Rattle.typing_rules.specs.Expressions.{ExpressionTyping, ValuesTyping}
use Rattle.typing_rules.specs.Items.{ElementsTyping}
use Rattle.typing_rules.specs.Names.{IsProcedure, IsBuiltIn}
use Rattle.typing_rules.specs.Procedures.{HeadingTyping, AreParameters, BodyStands}
use Rattle.typing_rules.specs.Statements.{TargetsTyping, HeadTyping, AreNewLabels}

mutual
  -- a statement, its labels aside
  pub data StatementTyping : Block → Progress → StatementKindTree → TypedStatement → Progress → Type 0 where
    null : {block : Block} {progress : Progress} {place : Place}
        → StatementTyping block progress (NullStatement place) TypedNull progress
    -- each target converts the value itself
    assignment : {block : Block} {progress : Progress} {targets : List ReferenceTree} {source : ExpressionTree}
        {destinations : List Destination} {typed : TypedExpression} {middle after : Constants}
        → TargetsTyping progress.known progress.constants targets destinations middle
        → ExpressionTyping progress.known middle source typed after
        → StatementTyping block progress (AssignmentStatement targets source) (assigned destinations typed)
        (with_constants after progress)
    -- CALL of a procedure without a type, with as many arguments as parameters, each converted to the type of its own
    call : {block : Block} {progress : Progress} {place : Place} {name : Identifier} {trees : ArgumentTrees}
        {number : ℕ} {procedure : TypedProcedure} {values : TypedArguments} {after : Constants}
        → IsProcedure progress.known name number procedure
        → procedure.result ≡ None
        → number_of_arguments trees ≡ length procedure.parameter_types
        → ValuesTyping progress.known progress.constants trees values after
        → StatementTyping block progress (CallStatement place name trees)
        (TypedCall number (arguments_as procedure.parameter_types values)) (with_constants after progress)
    -- CALL MOVE, whose three arguments are converted to ADDRESSes
    move : {block : Block} {progress : Progress} {place : Place} {name : Identifier} {trees : ArgumentTrees}
        {count source destination : TypedExpression} {after : Constants}
        → IsBuiltIn progress.known name Move
        → ValuesTyping progress.known progress.constants trees
        (MoreArguments count (MoreArguments source (MoreArguments destination NoTypedArguments))) after
        → StatementTyping block progress (CallStatement place name trees)
        (MoveStatement (as_type Address count) (as_type Address source) (as_type Address destination))
        (with_constants after progress)
    -- RETURN in a procedure without a type
    return : {block : Block} {progress : Progress} {place : Place} {number : ℕ} {heading : HeadingTree}
        → block.owner ≡ OfProcedure number heading
        → heading.result ≡ None
        → StatementTyping block progress (ReturnStatement place None) (TypedReturn None) progress
    -- RETURN in a procedure with a type, to which the value is converted
    return_value : {block : Block} {progress : Progress} {place : Place} {number : ℕ} {heading : HeadingTree}
        {scalar : ScalarType} {value : ExpressionTree} {typed : TypedExpression} {after : Constants}
        → block.owner ≡ OfProcedure number heading
        → heading.result ≡ Some scalar
        → ExpressionTyping progress.known progress.constants value typed after
        → StatementTyping block progress (ReturnStatement place (Some value)) (TypedReturn (Some (as_type scalar typed)))
        (with_constants after progress)
    halt : {block : Block} {progress : Progress} {place : Place}
        → StatementTyping block progress (HaltStatement place) TypedHalt progress
    -- GOTO to a label that is known there
    goto : {block : Block} {progress : Progress} {place : Place} {label : Identifier} {number : ℕ}
        → jump_of progress.known.here label.name ≡ Declared (Label number)
        → StatementTyping block progress (GotoStatement place label) (TypedGoto number) progress
    if_then : {block : Block} {progress middle after : Progress} {place : Place} {condition : ExpressionTree}
        {body : StatementTree} {otherwise : ElseTree} {tested : TypedExpression} {constants : Constants}
        {chosen : TypedStatement} {other : TypedElse}
        → ExpressionTyping progress.known progress.constants condition tested constants
        → AloneTyping block (with_constants constants progress) body chosen middle
        → ElseTyping block middle otherwise other after
        → StatementTyping block progress (IfStatement place condition body otherwise) (TypedIf tested chosen other) after
    -- a simple DO is a block of its own
    simple_do : {block : Block} {progress opened after : Progress} {place : Place} {declared : DeclarationTrees}
        {body : StatementTrees} {typed : TypedList}
        → DeclarationsTyping (inner_block block) (entered progress) declared opened
        → ListTyping (inner_block block) opened body typed after
        → StatementTyping block progress (DoStatement place declared body) (TypedDo typed) (left after)
    -- DO WHILE or an iterative DO: its head, and then its statements
    loop : {block : Block} {progress after : Progress} {place : Place} {head : LoopHeadTree}
        {body : StatementTrees} {headed : TypedHead} {constants : Constants} {typed : TypedList}
        → HeadTyping progress.known progress.constants head headed constants
        → ListTyping block (with_constants constants progress) body typed after
        → StatementTyping block progress (LoopStatement place head body) (TypedLoop headed typed) after
    do_case : {block : Block} {progress after : Progress} {place : Place} {choice : ExpressionTree}
        {body : StatementTrees} {chosen : TypedExpression} {constants : Constants} {typed : TypedStatements}
        → ExpressionTyping progress.known progress.constants choice chosen constants
        → CasesTyping block (with_constants constants progress) body typed after
        → StatementTyping block progress (CaseStatement place choice body) (TypedCase chosen typed) after

  -- a statement after THEN or ELSE or of a DO CASE, which has no label
  pub data AloneTyping : Block → Progress → StatementTree → TypedStatement → Progress → Type 0 where
    unlabelled : {block : Block} {progress after : Progress} {kind : StatementKindTree} {typed : TypedStatement}
        → StatementTyping block progress kind typed after
        → AloneTyping block progress (LabelledStatement [] kind) typed after

  pub data ElseTyping : Block → Progress → ElseTree → TypedElse → Progress → Type 0 where
    no_else : {block : Block} {progress : Progress} → ElseTyping block progress NoElse NoTypedElse progress
    with_else : {block : Block} {progress after : Progress} {body : StatementTree} {typed : TypedStatement}
        → AloneTyping block progress body typed after
        → ElseTyping block progress (ElseStatement body) (TypedElseStatement typed) after

  -- the statements of a DO CASE
  pub data CasesTyping : Block → Progress → StatementTrees → TypedStatements → Progress → Type 0 where
    no_case : {block : Block} {progress : Progress} → CasesTyping block progress NoStatements NoTyped progress
    next_case : {block : Block} {progress middle after : Progress} {first : StatementTree}
        {others : StatementTrees} {typed : TypedStatement} {rest : TypedStatements}
        → AloneTyping block progress first typed middle
        → CasesTyping block middle others rest after
        → CasesTyping block progress (MoreStatements first others) (MoreTyped typed rest) after

  -- the statements of a list, whose next label has this number
  pub data StatementsTyping : Block → (label : ℕ) → Progress → StatementTrees → TypedStatements → Progress → Type 0 where
    no_statement : {block : Block} {label : ℕ} {progress : Progress}
        → StatementsTyping block label progress NoStatements NoTyped progress
    next_statement : {block : Block} {label : ℕ} {progress middle after : Progress} {here : Here}
        {labels : List Identifier} {kind : StatementKindTree} {others : StatementTrees} {typed : TypedStatement}
        {rest : TypedStatements}
        → AreNewLabels progress.known.here labels here
        → StatementTyping block (with_here here progress) kind typed middle
        → StatementsTyping block (label + length labels) middle others rest after
        → StatementsTyping block label progress (MoreStatements (LabelledStatement labels kind) others)
        (after_labels label labels (MoreTyped typed rest)) after

  -- a list of statements, whose labels are known in the whole of it, and numbered when the list begins
  pub data ListTyping : Block → Progress → StatementTrees → TypedList → Progress → Type 0 where
    list : {block : Block} {progress after : Progress} {trees : StatementTrees} {typed : TypedStatements}
        → StatementsTyping block progress.known.here.labels
        (with_here (into_list (labels_of trees) progress.known.here) progress) trees typed after
        → ListTyping block progress trees (ListOf progress.known.here.labels (places_from 0 trees) typed)
        (with_here (out_of_list after.known.here) after)

  pub data DeclarationTyping : Block → Progress → DeclarationTree → Progress → Type 0 where
    declare : {block : Block} {progress after : Progress} {elements : List ElementTree}
        → ElementsTyping block progress elements after
        → DeclarationTyping block progress (DeclareTree elements) after
    -- A procedure: its heading, then its declarations, each of its parameters among them, and its statements.
    procedure : {block : Block} {progress opened within after : Progress} {heading : HeadingTree}
        {declared : DeclarationTrees} {body : StatementTrees} {end_name : Option Identifier}
        {parameters : List ℕ} {typed : TypedList}
        → HeadingTyping block heading declared progress opened
        → DeclarationsTyping (own_block heading progress) opened declared within
        → AreParameters within.known.here heading.parameters parameters
        → BodyStands heading body
        → ListTyping (own_block heading progress) within body typed after
        → DeclarationTyping block progress (ProcedureTree heading declared body end_name)
        (close_procedure heading declared (length progress.known.procedures) parameters typed after)

  pub data DeclarationsTyping : Block → Progress → DeclarationTrees → Progress → Type 0 where
    no_declaration : {block : Block} {progress : Progress}
        → DeclarationsTyping block progress NoDeclarations progress
    next_declaration : {block : Block} {progress middle after : Progress} {first : DeclarationTree}
        {others : DeclarationTrees}
        → DeclarationTyping block progress first middle
        → DeclarationsTyping block middle others after
        → DeclarationsTyping block progress (MoreDeclarations first others) after

-- a module: its declarations, and then its statements
pub data ModuleTyping : ModuleTree → TypedModule → Type 0 where
  whole : {tree : ModuleTree} {declared after : Progress} {typed : TypedList}
      → DeclarationsTyping module_block at_the_beginning tree.declarations declared
      → ListTyping module_block declared tree.statements typed after
      → ModuleTyping tree (module_with tree.name.name typed after)
