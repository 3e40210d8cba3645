-- How deep a tree nests, and whether the names after END match.
use Rattle.std.specs.Prelude.{◌≡◌, ℕ, suc, ◌≤◌, max, List, [], ◌∷◌, Option, IfSome}
use Rattle.std.specs.Option.{option_map_or}
use Rattle.trees.specs.declared.identifier.Identifier.{Identifier}
use Rattle.grammar.specs.declared.TheConstants.{NESTING_LIMIT}
use Rattle.trees.specs.Trees.{ExpressionTree, ConstantLeaf, ReferenceLeaf, LocationLeaf, ListLeaf, ParenthesizedNode, AssignmentNode, UnaryNode, BinaryNode, ReferenceTree, ReferenceTo, MemberTree, NoMember, MemberOf, ArgumentTrees, NoArguments, MoreArguments, IterationTree, LoopHeadTree, of_loop_head, StatementTree, LabelledStatement, StatementKindTree, NullStatement, AssignmentStatement, CallStatement, ReturnStatement, HaltStatement, GotoStatement, IfStatement, DoStatement, LoopStatement, CaseStatement, ElseTree, NoElse, ElseStatement, StatementTrees, NoStatements, MoreStatements, DeclarationTree, DeclareTree, ProcedureTree, DeclarationTrees, NoDeclarations, MoreDeclarations, ModuleTree}

-- How many levels an expression takes. A leaf and an operator are one level, and so are parentheses; `(A := e)` is
-- two.
-- The arguments of a name are one level deeper than the leaf or the assignment that it stands in.
abbrev mutual
  pub expression_height : ExpressionTree → ℕ
  expression_height (ConstantLeaf constant) = 1
  expression_height (ReferenceLeaf reference) = suc (reference_height reference)
  expression_height (LocationLeaf reference) = suc (reference_height reference)
  expression_height (ListLeaf constants) = 1
  expression_height (ParenthesizedNode inner) = suc (expression_height inner)
  expression_height (AssignmentNode target value) =
      suc (suc (max (reference_height target) (expression_height value)))
  expression_height (UnaryNode operator operand) = suc (expression_height operand)
  expression_height (BinaryNode operator left right) =
      suc (max (expression_height left) (expression_height right))

  -- the levels of a reference's arguments; the reference itself adds no level
  pub reference_height : ReferenceTree → ℕ
  reference_height (ReferenceTo name arguments member) =
      max (arguments_height arguments) (member_height member)

  pub member_height : MemberTree → ℕ
  member_height NoMember = 0
  member_height (MemberOf name arguments) = arguments_height arguments

  pub arguments_height : ArgumentTrees → ℕ
  arguments_height NoArguments = 0
  arguments_height (MoreArguments first others) = max (expression_height first) (arguments_height others)

-- the levels of targets
abbrev pub targets_height : List ReferenceTree → ℕ
targets_height [] = 0
targets_height (first ∷ others) = max (reference_height first) (targets_height others)

-- the levels of an expression that may be left out
abbrev pub optional_height : Option ExpressionTree → ℕ
optional_height value = option_map_or expression_height value 0

-- the levels of the head of an iterative DO
abbrev pub iteration_height : IterationTree → ℕ
iteration_height iteration =
    max (expression_height iteration.first)
    (max (expression_height iteration.last) (optional_height iteration.step))

-- the levels of the head of a loop
abbrev pub head_height : LoopHeadTree → ℕ
head_height = of_loop_head expression_height iteration_height

-- How many levels a statement or a declaration takes. A statement and a procedure are one level, and the parts inside
-- are deeper. Labels and DECLARE take none.
abbrev mutual
  pub statement_height : StatementTree → ℕ
  statement_height (LabelledStatement labels kind) = kind_height kind

  pub kind_height : StatementKindTree → ℕ
  kind_height (NullStatement place) = 1
  kind_height (AssignmentStatement targets value) =
      suc (max (targets_height targets) (expression_height value))
  kind_height (CallStatement place name arguments) = suc (arguments_height arguments)
  kind_height (ReturnStatement place value) = suc (optional_height value)
  kind_height (HaltStatement place) = 1
  kind_height (GotoStatement place label) = 1
  kind_height (IfStatement place condition body otherwise) =
      suc (max (expression_height condition) (max (statement_height body) (else_height otherwise)))
  kind_height (DoStatement place declared body) =
      suc (max (declarations_height declared) (statements_height body))
  kind_height (LoopStatement place head body) = suc (max (head_height head) (statements_height body))
  kind_height (CaseStatement place choice body) =
      suc (max (expression_height choice) (statements_height body))

  pub else_height : ElseTree → ℕ
  else_height NoElse = 0
  else_height (ElseStatement otherwise) = statement_height otherwise

  pub statements_height : StatementTrees → ℕ
  statements_height NoStatements = 0
  statements_height (MoreStatements first others) = max (statement_height first) (statements_height others)

  pub declaration_height : DeclarationTree → ℕ
  declaration_height (DeclareTree elements) = 0
  declaration_height (ProcedureTree heading declared body end_name) =
      suc (max (declarations_height declared) (statements_height body))

  pub declarations_height : DeclarationTrees → ℕ
  declarations_height NoDeclarations = 0
  declarations_height (MoreDeclarations first others) =
      max (declaration_height first) (declarations_height others)

-- the levels within a module
abbrev pub module_height : ModuleTree → ℕ
module_height tree = max (declarations_height tree.declarations) (statements_height tree.statements)

-- a module nests no deeper than the limit
abbrev pub IsNestedWithin : ModuleTree → Type 0
IsNestedWithin tree = module_height tree ≤ NESTING_LIMIT

-- a name after END is that of what it ends
abbrev pub IsEndName : Identifier → Option Identifier → Type 0
IsEndName name end_name = IfSome end_name (λ other. other.name ≡ name.name)

-- the names after END in statements and declarations match
abbrev mutual
  pub StatementEndsMatch : StatementTree → Type 0
  StatementEndsMatch (LabelledStatement labels kind) = KindEndsMatch kind

  pub KindEndsMatch : StatementKindTree → Type 0
  KindEndsMatch (NullStatement place) = Unit {0}
  KindEndsMatch (AssignmentStatement targets value) = Unit {0}
  KindEndsMatch (CallStatement place name _) = Unit {0}
  KindEndsMatch (ReturnStatement place value) = Unit {0}
  KindEndsMatch (HaltStatement place) = Unit {0}
  KindEndsMatch (GotoStatement place label) = Unit {0}
  KindEndsMatch (IfStatement place condition body otherwise) =
      StatementEndsMatch body × ElseEndsMatch otherwise
  KindEndsMatch (DoStatement place declared body) = DeclarationsEndsMatch declared × StatementsEndsMatch body
  KindEndsMatch (LoopStatement place head body) = StatementsEndsMatch body
  KindEndsMatch (CaseStatement place choice body) = StatementsEndsMatch body

  pub ElseEndsMatch : ElseTree → Type 0
  ElseEndsMatch NoElse = Unit {0}
  ElseEndsMatch (ElseStatement otherwise) = StatementEndsMatch otherwise

  pub StatementsEndsMatch : StatementTrees → Type 0
  StatementsEndsMatch NoStatements = Unit {0}
  StatementsEndsMatch (MoreStatements first others) = StatementEndsMatch first × StatementsEndsMatch others

  pub DeclarationEndsMatch : DeclarationTree → Type 0
  DeclarationEndsMatch (DeclareTree elements) = Unit {0}
  DeclarationEndsMatch (ProcedureTree heading declared body end_name) =
      IsEndName heading.name end_name × DeclarationsEndsMatch declared × StatementsEndsMatch body

  pub DeclarationsEndsMatch : DeclarationTrees → Type 0
  DeclarationsEndsMatch NoDeclarations = Unit {0}
  DeclarationsEndsMatch (MoreDeclarations first others) =
      DeclarationEndsMatch first × DeclarationsEndsMatch others

-- the names after END in a module match
abbrev pub ModuleEndsMatch : ModuleTree → Type 0
ModuleEndsMatch tree =
    IsEndName tree.name tree.end_name
    × DeclarationsEndsMatch tree.declarations
    × StatementsEndsMatch tree.statements
