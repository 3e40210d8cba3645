-- The typing of a module, by functions. If it has none, the answer is the first fault in its text; `ModuleTyping` and
-- `ModuleFault` of `typing_rules` say the same by rules.
use Rattle.std.specs.Prelude.{ℕ, ◌+◌, length, Ok}
use Rattle.trees.specs.Trees.{StatementTree, LabelledStatement, StatementKindTree, NullStatement, AssignmentStatement, CallStatement, ReturnStatement, HaltStatement, GotoStatement, IfStatement, DoStatement, LoopStatement, CaseStatement, ElseTree, NoElse, ElseStatement, StatementTrees, NoStatements, MoreStatements, DeclarationTree, DeclareTree, ProcedureTree, DeclarationTrees, NoDeclarations, MoreDeclarations, ModuleTree}
use Rattle.typed_trees.specs.TypedTrees.{TypedStatement, NullStatement as TypedNull, HaltStatement as TypedHalt, IfStatement as TypedIf, DoStatement as TypedDo, LoopStatement as TypedLoop, CaseStatement as TypedCase, TypedElse, NoElse as NoTypedElse, ElseStatement as TypedElseStatement, TypedStatements, NoStatements as NoTyped, MoreStatements as MoreTyped, TypedModule}
use Rattle.typing.specs.internal.Checks.{Checked, ◌>>=◌}
use Rattle.typing.specs.internal.Expressions.{arguments}
use Rattle.typing.specs.Blocks.{Block, Progress}
use Rattle.typing.specs.internal.ItemChecks.{declare_elements}
use Rattle.typing.specs.Statements.{with_here, labels_before, after_labels}
use Rattle.typing.specs.internal.StatementChecks.{value, assignment, call, return_from, goto, loop_head, declare_labels, without_label, list_of}
use Rattle.typing.specs.internal.ProcedureChecks.{open_procedure, parameter_objects, check_body}
use Rattle.typing.specs.Procedures.{own_block, close_procedure}
use Rattle.typing.specs.Modules.{inner_block, entered, left, module_block, at_the_beginning, module_with}

abbrev mutual
  -- the typing of a statement, its labels aside
  pub kind : Block → StatementKindTree → Progress → Checked (TypedStatement × Progress)
  kind block (NullStatement place) progress = Ok (TypedNull, progress)
  kind block (AssignmentStatement targets source) progress = assignment targets source progress
  kind block (CallStatement place name trees) progress =
      call name (record { trees = trees; typed = arguments progress.known trees }) progress
  kind block (ReturnStatement place result) progress = return_from place block.owner result progress
  kind block (HaltStatement place) progress = Ok (TypedHalt, progress)
  kind block (GotoStatement place label) progress = goto label progress
  kind block (IfStatement place condition body otherwise) progress = do
    tested ← value condition progress
    chosen ← alone block body tested.1
    other ← else_part block otherwise chosen.1
    Ok (TypedIf tested.0 chosen.0 other.0, other.1)
  kind block (DoStatement place declared body) progress = do
    opened ← declarations (inner_block block) declared (entered progress)
    typed ← list_of body (λ label. statements (inner_block block) body label) opened
    Ok (TypedDo typed.0, left typed.1)
  kind block (LoopStatement place head body) progress = do
    headed ← loop_head head progress
    typed ← list_of body (λ label. statements block body label) headed.1
    Ok (TypedLoop headed.0 typed.0, typed.1)
  kind block (CaseStatement place choice body) progress = do
    chosen ← value choice progress
    typed ← cases block body chosen.1
    Ok (TypedCase chosen.0 typed.0, typed.1)

  -- a statement after its labels
  pub labelled : Block → StatementTree → Progress → Checked (TypedStatement × Progress)
  labelled block (LabelledStatement labels done) progress = kind block done progress

  -- a statement after THEN or ELSE or of a DO CASE
  pub alone : Block → StatementTree → Progress → Checked (TypedStatement × Progress)
  alone block (LabelledStatement labels done) progress = do
    _ ← without_label labels
    kind block done progress

  pub else_part : Block → ElseTree → Progress → Checked (TypedElse × Progress)
  else_part block NoElse progress = Ok (NoTypedElse, progress)
  else_part block (ElseStatement body) progress = do
    typed ← alone block body progress
    Ok (TypedElseStatement typed.0, typed.1)

  -- the statements of a DO CASE
  pub cases : Block → StatementTrees → Progress → Checked (TypedStatements × Progress)
  cases block NoStatements progress = Ok (NoTyped, progress)
  cases block (MoreStatements first others) progress = do
    typed ← alone block first progress
    rest ← cases block others typed.1
    Ok (MoreTyped typed.0 rest.0, rest.1)

  -- the statements of a list, whose next label has this number
  pub statements : Block → StatementTrees → (label : ℕ) → Progress → Checked (TypedStatements × Progress)
  statements block NoStatements label progress = Ok (NoTyped, progress)
  statements block (MoreStatements first others) label progress = do
    here ← declare_labels (labels_before first) progress.known.here
    typed ← labelled block first (with_here here progress)
    rest ← statements block others (label + length (labels_before first)) typed.1
    Ok (after_labels label (labels_before first) (MoreTyped typed.0 rest.0), rest.1)

  pub declaration : Block → DeclarationTree → Progress → Checked Progress
  declaration block (DeclareTree elements) progress = declare_elements block elements progress
  declaration block (ProcedureTree heading declared body end_name) progress = do
    opened ← open_procedure block heading declared progress
    within ← declarations (own_block heading progress) declared opened
    parameters ← parameter_objects within.known.here heading.parameters
    _ ← check_body heading body
    typed ← list_of body (λ label. statements (own_block heading progress) body label) within
    Ok (close_procedure heading declared (length progress.known.procedures) parameters typed.0 typed.1)

  pub declarations : Block → DeclarationTrees → Progress → Checked Progress
  declarations block NoDeclarations progress = Ok progress
  declarations block (MoreDeclarations first others) progress = do
    after ← declaration block first progress
    declarations block others after

-- a module as it is typed, or its first fault
unfoldable pub typing_of : ModuleTree → Checked TypedModule
typing_of tree = do
  declared ← declarations module_block tree.declarations at_the_beginning
  typed ← list_of tree.statements (λ label. statements module_block tree.statements label) declared
  Ok (module_with tree.name.name typed.0 typed.1)
