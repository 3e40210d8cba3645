-- Statements, declarations and modules: what the typing gives of one has a typing by the rules, and the fault
-- that it gives is one of the rules.
use Rattle.typing_rules.proofs.Prelude.{ℕ, ◌+◌, [], ◌∷◌, length, refl, binding_of, UnknownName}
use Rattle.trees.specs.Trees.{StatementTree, LabelledStatement, StatementKindTree, NullStatement, AssignmentStatement, CallStatement, ReturnStatement, HaltStatement, GotoStatement, IfStatement, DoStatement, LoopStatement, CaseStatement, ElseTree, NoElse, ElseStatement, StatementTrees, NoStatements, MoreStatements, DeclarationTree, DeclareTree, ProcedureTree, DeclarationTrees, NoDeclarations, MoreDeclarations, ModuleTree}
use Rattle.names.specs.BuiltIns.{jump_of}
use Rattle.names.specs.Environment.{into_list}
use Rattle.names.specs.DeclaredNames.{labels_of}
use Rattle.typing.specs.Blocks.{Block, Progress}
use Rattle.typing.specs.Procedures.{own_block}
use Rattle.typing.specs.Statements.{with_here, with_constants}
use Rattle.typing.specs.internal.StatementChecks.{list_of}
use Rattle.typing.specs.Modules.{inner_block, entered, module_block, at_the_beginning}
use Rattle.typing.specs.internal.Typing.{kind, alone, else_part, cases, statements, declaration, declarations, typing_of}
use Rattle.typing_rules.specs.Modules.{StatementTyping, null, assignment, halt, if_then, simple_do, loop, do_case, AloneTyping, unlabelled, ElseTyping, no_else, with_else, CasesTyping, no_case, next_case, StatementsTyping, no_statement, next_statement, ListTyping, list, DeclarationTyping, declare, procedure, DeclarationsTyping, no_declaration, next_declaration, ModuleTyping, whole}
use Rattle.typing_rules.specs.ModuleFaults.{StatementFault, in_targets, in_source, call_of_unknown, in_condition, in_then, in_else, in_declarations_of_do, in_do, in_head, in_loop, in_choice, in_cases, AloneFault, misplaced_label, in_alone, ElseFault, after_else, CasesFault, in_first_case, in_other_cases, StatementsFault, in_labels, in_first_statement, in_other_statements, ListFault, in_list, DeclarationFault, in_declare, in_heading, in_own_declarations, in_parameters, with_body, in_body, DeclarationsFault, in_first_declaration, in_other_declarations, ModuleFault, in_declarations, in_statements}
use Rattle.typing_rules.proofs.Judged.{Judged, judged_ok, judged_fault, then_judged, judged_more, then_found}
use Rattle.typing_rules.proofs.ItemsTyped.{elements_judged}
use Rattle.typing_rules.proofs.ProceduresTyped.{heading_judged, objects_judged, body_judged}
use Rattle.typing_rules.proofs.StatementsJudged.{then_reached, value_judged, targets_judged, labels_judged, call_judged, return_judged, goto_judged}
use Rattle.typing_rules.proofs.Heads.{head_judged}

list_judged : (block : Block) (trees : StatementTrees) (progress : Progress)
    → Judged (λ found. StatementsTyping block progress.known.here.labels
    (with_here (into_list (labels_of trees) progress.known.here) progress) trees found.0 found.1)
    (StatementsFault block (with_here (into_list (labels_of trees) progress.known.here) progress) trees)
    (statements block trees progress.known.here.labels
    (with_here (into_list (labels_of trees) progress.known.here) progress))
    → Judged (λ found. ListTyping block progress trees found.0 found.1) (ListFault block progress trees)
    (list_of trees (λ label. statements block trees label) progress)
list_judged block trees progress is =
    then_judged is (λ fault its. in_list its) (λ found its. judged_ok (list its))

mutual
  pub statement_judged : (block : Block) (tree : StatementKindTree) (progress : Progress)
      → Judged (λ found. StatementTyping block progress tree found.0 found.1)
      (StatementFault block progress tree)
      (kind block tree progress)
  statement_judged block (NullStatement place) progress = judged_ok null
  statement_judged block (AssignmentStatement targets source) progress =
      then_judged (targets_judged progress.known targets progress.constants)
      (λ fault is. in_targets is) (λ places is.
      then_reached _ (value_judged source (with_constants places.1 progress))
      (λ fault its. in_source is its) (λ typed after its.
      judged_ok (assignment is its)))
  statement_judged block (CallStatement place name trees) progress =
      then_found (binding_of progress.known.here name.name) UnknownName name.place
      call_of_unknown (λ binding named.
      then_judged (call_judged block progress place name trees binding named) (λ fault is. is) (λ found is.
      judged_ok is))
  statement_judged block (ReturnStatement place result) progress =
      return_judged block progress place block.owner result refl
  statement_judged block (HaltStatement place) progress = judged_ok halt
  statement_judged block (GotoStatement place label) progress =
      then_judged (goto_judged block progress place label (jump_of progress.known.here label.name) refl)
      (λ fault is. is) (λ found is.
      judged_ok is)
  statement_judged block (IfStatement place condition body otherwise) progress =
      then_reached _ (value_judged condition progress) (λ fault is. in_condition is) (λ tested constants is.
      then_judged (alone_judged block body (with_constants constants progress))
      (λ fault its. in_then is its) (λ chosen its.
      then_judged (else_judged block otherwise chosen.1) (λ fault more. in_else is its more) (λ other more.
      judged_ok (if_then is its more))))
  statement_judged block (DoStatement place declared body) progress =
      then_judged (declarations_judged (inner_block block) declared (entered progress))
      (λ fault is. in_declarations_of_do is) (λ opened is.
      then_judged
      (list_judged (inner_block block) body opened
      (statements_judged (inner_block block) body opened.known.here.labels
      (with_here (into_list (labels_of body) opened.known.here) opened)))
      (λ fault its. in_do is its) (λ typed its.
      judged_ok (simple_do is its)))
  statement_judged block (LoopStatement place head body) progress =
      then_reached _ (head_judged head progress) (λ fault is. in_head is) (λ headed constants is.
      then_judged
      (list_judged block body (with_constants constants progress)
      (statements_judged block body progress.known.here.labels
      (with_here (into_list (labels_of body) progress.known.here) (with_constants constants progress))))
      (λ fault its. in_loop is its)
      (λ typed its.
      judged_ok (loop is its)))
  statement_judged block (CaseStatement place choice body) progress =
      then_reached _ (value_judged choice progress) (λ fault is. in_choice is) (λ chosen constants is.
      then_judged (cases_judged block body (with_constants constants progress))
      (λ fault its. in_cases is its) (λ typed its.
      judged_ok (do_case is its)))

  pub alone_judged : (block : Block) (tree : StatementTree) (progress : Progress)
      → Judged (λ found. AloneTyping block progress tree found.0 found.1) (AloneFault block progress tree)
      (alone block tree progress)
  alone_judged block (LabelledStatement [] done) progress =
      judged_more (statement_judged block done progress) (λ fault is. in_alone is) (λ found is. unlabelled is)
  alone_judged block (LabelledStatement (label ∷ others) done) progress = judged_fault misplaced_label

  pub else_judged : (block : Block) (tree : ElseTree) (progress : Progress)
      → Judged (λ found. ElseTyping block progress tree found.0 found.1) (ElseFault block progress tree)
      (else_part block tree progress)
  else_judged block NoElse progress = judged_ok no_else
  else_judged block (ElseStatement body) progress =
      then_judged (alone_judged block body progress) (λ fault is. after_else is)
      (λ typed is. judged_ok (with_else is))

  pub cases_judged : (block : Block) (trees : StatementTrees) (progress : Progress)
      → Judged (λ found. CasesTyping block progress trees found.0 found.1) (CasesFault block progress trees)
      (cases block trees progress)
  cases_judged block NoStatements progress = judged_ok no_case
  cases_judged block (MoreStatements first others) progress =
      then_judged (alone_judged block first progress) (λ fault is. in_first_case is) (λ typed is.
      then_judged (cases_judged block others typed.1) (λ fault its. in_other_cases is its) (λ rest its.
      judged_ok (next_case is its)))

  pub statements_judged : (block : Block) (trees : StatementTrees) (label : ℕ) (progress : Progress)
      → Judged (λ found. StatementsTyping block label progress trees found.0 found.1)
      (StatementsFault block progress trees)
      (statements block trees label progress)
  statements_judged block NoStatements label progress = judged_ok no_statement
  statements_judged block (MoreStatements (LabelledStatement labels done) others) label progress =
      then_judged (labels_judged labels progress.known.here) (λ fault are. in_labels are) (λ here are.
      then_judged (statement_judged block done (with_here here progress))
      (λ fault is. in_first_statement are is) (λ typed is.
      then_judged (statements_judged block others (label + length labels) typed.1)
      (λ fault its. in_other_statements are is its) (λ rest its.
      judged_ok (next_statement are is its))))

  pub declaration_judged : (block : Block) (tree : DeclarationTree) (progress : Progress)
      → Judged (DeclarationTyping block progress tree) (DeclarationFault block progress tree)
      (declaration block tree progress)
  declaration_judged block (DeclareTree elements) progress =
      judged_more (elements_judged block elements progress) (λ fault is. in_declare is)
      (λ after is. declare is)
  declaration_judged block (ProcedureTree heading declared body end_name) progress =
      then_judged (heading_judged block heading declared progress) (λ fault is. in_heading is) (λ opened is.
      then_judged (declarations_judged (own_block heading progress) declared opened)
      (λ fault its. in_own_declarations is its) (λ within its.
      then_judged (objects_judged within.known.here heading.parameters)
      (λ fault are. in_parameters is its are)
      (λ parameters are.
      then_judged (body_judged heading body) (λ fault there. with_body is its are there) (λ _ passes.
      then_judged
      (list_judged (own_block heading progress) body within
      (statements_judged (own_block heading progress) body
      within.known.here.labels (with_here (into_list (labels_of body) within.known.here) within)))
      (λ fault more. in_body is its are passes more) (λ typed more.
      judged_ok (procedure is its are passes more))))))

  pub declarations_judged : (block : Block) (trees : DeclarationTrees) (progress : Progress)
      → Judged (DeclarationsTyping block progress trees) (DeclarationsFault block progress trees)
      (declarations block trees progress)
  declarations_judged block NoDeclarations progress = judged_ok no_declaration
  declarations_judged block (MoreDeclarations first others) progress =
      then_judged (declaration_judged block first progress)
      (λ fault is. in_first_declaration is) (λ middle is.
      judged_more (declarations_judged block others middle) (λ fault its. in_other_declarations is its)
      (λ after its. next_declaration is its))

pub module_judged : (tree : ModuleTree) → Judged (ModuleTyping tree) (ModuleFault tree) (typing_of tree)
unfolding typing_of
module_judged tree =
    then_judged (declarations_judged module_block tree.declarations at_the_beginning)
    (λ fault is. in_declarations is) (λ declared is.
    then_judged
    (list_judged module_block tree.statements declared (statements_judged module_block tree.statements
    declared.known.here.labels
    (with_here (into_list (labels_of tree.statements) declared.known.here) declared)))
    (λ fault its. in_statements is its) (λ typed its.
    judged_ok (whole is its)))
