-- Trees whose declarations have the form of the grammar: above all, each structure has a member.
use Rattle.std.specs.List.{AllByRecursion}
use Rattle.trees.specs.Trees.{StatementTree, LabelledStatement, StatementKindTree, NullStatement, AssignmentStatement, CallStatement, ReturnStatement, HaltStatement, GotoStatement, IfStatement, ElseTree, NoElse, ElseStatement, DoStatement, LoopStatement, CaseStatement, StatementTrees, NoStatements, MoreStatements, DeclarationTree, DeclareTree, ProcedureTree, DeclarationTrees, NoDeclarations, MoreDeclarations, ModuleTree}
use Rattle.grammar.specs.Forms.{IsElement}

abbrev mutual
  pub StatementIsFormed : StatementTree → Type 0
  StatementIsFormed (LabelledStatement labels kind) = KindIsFormed kind

  pub KindIsFormed : StatementKindTree → Type 0
  KindIsFormed (NullStatement place) = Unit {0}
  KindIsFormed (AssignmentStatement targets value) = Unit {0}
  KindIsFormed (CallStatement place name values) = Unit {0}
  KindIsFormed (ReturnStatement place value) = Unit {0}
  KindIsFormed (HaltStatement place) = Unit {0}
  KindIsFormed (GotoStatement place label) = Unit {0}
  KindIsFormed (IfStatement place condition body otherwise) = StatementIsFormed body × ElseIsFormed otherwise
  KindIsFormed (DoStatement place declared body) = AreFormed declared × StatementsAreFormed body
  KindIsFormed (LoopStatement place head body) = StatementsAreFormed body
  KindIsFormed (CaseStatement place choice body) = StatementsAreFormed body

  pub ElseIsFormed : ElseTree → Type 0
  ElseIsFormed NoElse = Unit {0}
  ElseIsFormed (ElseStatement statement) = StatementIsFormed statement

  pub StatementsAreFormed : StatementTrees → Type 0
  StatementsAreFormed NoStatements = Unit {0}
  StatementsAreFormed (MoreStatements first others) = StatementIsFormed first × StatementsAreFormed others

  pub IsFormed : DeclarationTree → Type 0
  IsFormed (DeclareTree elements) = AllByRecursion IsElement elements
  IsFormed (ProcedureTree heading declared body end_name) = AreFormed declared × StatementsAreFormed body

  pub AreFormed : DeclarationTrees → Type 0
  AreFormed NoDeclarations = Unit {0}
  AreFormed (MoreDeclarations first others) = IsFormed first × AreFormed others

abbrev pub ModuleIsFormed : ModuleTree → Type 0
ModuleIsFormed tree = AreFormed tree.declarations × StatementsAreFormed tree.statements
