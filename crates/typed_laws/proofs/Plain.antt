-- The bodies of a text, without what typed trees do not keep, nest no deeper than the text.
use Rattle.typed_laws.proofs.Prelude.{ℕ, ◌≤◌, List, [], ◌∷◌, ◌++◌, map, Option, None, Some, arith, option_map, AllByRecursion, ExpressionTree, ConstantLeaf, ReferenceLeaf, LocationLeaf, ListLeaf, ParenthesizedNode, AssignmentNode, UnaryNode, BinaryNode, ReferenceTree, ReferenceTo, MemberTree, NoMember, MemberOf, ArgumentTrees, NoArguments, MoreArguments, IterationTree, StatementTree, LabelledStatement, StatementKindTree, NullStatement, AssignmentStatement, CallStatement, ReturnStatement, HaltStatement, GotoStatement, IfStatement, DoStatement, LoopStatement, CaseStatement, ElseTree, NoElse, ElseStatement, StatementTrees, NoStatements, MoreStatements, DeclarationTree, DeclareTree, ProcedureTree, DeclarationTrees, NoDeclarations, MoreDeclarations, ModuleTree, arguments_height, declaration_height, declarations_height, else_height, expression_height, iteration_height, kind_height, member_height, module_height, optional_height, reference_height, statement_height, statements_height, targets_height, bodies_in, bodies_in_declaration, bodies_in_else, bodies_in_kind, bodies_in_statement, bodies_in_statements, plain_arguments, plain_bodies, plain_else, plain_expression, plain_iteration, plain_kind, plain_member, plain_reference, plain_statement, plain_statements}
use Rattle.typed_laws.proofs.Heads.{head_lower}

mutual
  expression_lower : (tree : ExpressionTree)
      → expression_height (plain_expression tree) ≤ expression_height tree
  expression_lower (ConstantLeaf constant) = omega arith
  expression_lower (ReferenceLeaf reference) = let part = reference_lower reference in omega (arith, part)
  expression_lower (LocationLeaf reference) = let part = reference_lower reference in omega (arith, part)
  expression_lower (ListLeaf constants) = omega arith
  expression_lower (ParenthesizedNode inner) = let part = expression_lower inner in omega (arith, part)
  expression_lower (AssignmentNode target value) =
      let one = reference_lower target in
      let other = expression_lower value in
      omega (arith, one, other)
  expression_lower (UnaryNode operator operand) = let part = expression_lower operand in omega (arith, part)
  expression_lower (BinaryNode operator left right) =
      let one = expression_lower left in
      let other = expression_lower right in
      omega (arith, one, other)

  reference_lower : (tree : ReferenceTree) → reference_height (plain_reference tree) ≤ reference_height tree
  reference_lower (ReferenceTo name values part) =
      let one = arguments_lower values in
      let other = member_lower part in
      omega (arith, one, other)

  member_lower : (tree : MemberTree) → member_height (plain_member tree) ≤ member_height tree
  member_lower NoMember = omega arith
  member_lower (MemberOf name values) = arguments_lower values

  arguments_lower : (tree : ArgumentTrees) → arguments_height (plain_arguments tree) ≤ arguments_height tree
  arguments_lower NoArguments = omega arith
  arguments_lower (MoreArguments first others) =
      let one = expression_lower first in
      let other = arguments_lower others in
      omega (arith, one, other)

targets_lower : (trees : List ReferenceTree)
    → targets_height (map plain_reference trees) ≤ targets_height trees
targets_lower [] = omega arith
targets_lower (first ∷ others) =
    let one = reference_lower first in
    let other = targets_lower others in
    omega (arith, one, other)

optional_lower :
    (tree : Option ExpressionTree) → optional_height (option_map plain_expression tree) ≤ optional_height tree
optional_lower None = omega arith
optional_lower (Some tree) = expression_lower tree

iteration_lower : (tree : IterationTree) → iteration_height (plain_iteration tree) ≤ iteration_height tree
iteration_lower tree =
    let first = expression_lower tree.first in
    let last = expression_lower tree.last in
    let step = optional_lower tree.step in
    omega (arith, first, last, step)

mutual
  statement_lower : (tree : StatementTree) → statement_height (plain_statement tree) ≤ statement_height tree
  statement_lower (LabelledStatement labels kind) = kind_lower kind

  kind_lower : (tree : StatementKindTree) → kind_height (plain_kind tree) ≤ kind_height tree
  kind_lower (NullStatement place) = omega arith
  kind_lower (AssignmentStatement targets value) =
      let one = targets_lower targets in
      let other = expression_lower value in
      omega (arith, one, other)
  kind_lower (CallStatement place name values) = let part = arguments_lower values in omega (arith, part)
  kind_lower (ReturnStatement place value) = let part = optional_lower value in omega (arith, part)
  kind_lower (HaltStatement place) = omega arith
  kind_lower (GotoStatement place label) = omega arith
  kind_lower (IfStatement place condition body otherwise) =
      let one = expression_lower condition in
      let two = statement_lower body in
      let three = else_lower otherwise in
      omega (arith, one, two, three)
  kind_lower (DoStatement place declared body) = let part = statements_lower body in omega (arith, part)
  kind_lower (LoopStatement place head body) =
      let one = head_lower expression_lower iteration_lower head in
      let other = statements_lower body in
      omega (arith, one, other)
  kind_lower (CaseStatement place choice body) =
      let one = expression_lower choice in
      let other = statements_lower body in
      omega (arith, one, other)

  else_lower : (tree : ElseTree) → else_height (plain_else tree) ≤ else_height tree
  else_lower NoElse = omega arith
  else_lower (ElseStatement statement) = statement_lower statement

  statements_lower : (trees : StatementTrees)
      → statements_height (plain_statements trees) ≤ statements_height trees
  statements_lower NoStatements = omega arith
  statements_lower (MoreStatements first others) =
      let one = statement_lower first in
      let other = statements_lower others in
      omega (arith, one, other)

-- bodies that nest no deeper than a number
abbrev pub AreWithin : (levels : ℕ) → List StatementTrees → Type 0
AreWithin levels bodies = AllByRecursion (λ (body : StatementTrees). statements_height body ≤ levels) bodies

both_within : (levels : ℕ) (one other : List StatementTrees) → AreWithin levels one → AreWithin levels other
    → AreWithin levels (one ++ other)
both_within levels [] other first second = second
both_within levels (body ∷ one) other first second = (first.0, both_within levels one other first.1 second)

mutual
  within_statement : (levels : ℕ) (tree : StatementTree) → statement_height tree ≤ levels
      → AreWithin levels (bodies_in_statement tree)
  within_statement levels (LabelledStatement labels kind) below = within_kind levels kind below

  within_kind : (levels : ℕ) (tree : StatementKindTree) → kind_height tree ≤ levels
      → AreWithin levels (bodies_in_kind tree)
  within_kind levels (NullStatement place) below = tt
  within_kind levels (AssignmentStatement targets value) below = tt
  within_kind levels (CallStatement place name values) below = tt
  within_kind levels (ReturnStatement place value) below = tt
  within_kind levels (HaltStatement place) below = tt
  within_kind levels (GotoStatement place label) below = tt
  within_kind levels (IfStatement place condition body otherwise) below =
      both_within levels (bodies_in_statement body) (bodies_in_else otherwise)
      (within_statement levels body (omega (arith, below)))
      (within_else levels otherwise (omega (arith, below)))
  within_kind levels (DoStatement place declared body) below =
      both_within levels (bodies_in declared) (bodies_in_statements body)
      (within_declarations levels declared (omega (arith, below)))
      (within_statements levels body (omega (arith, below)))
  within_kind levels (LoopStatement place head body) below =
      within_statements levels body (omega (arith, below))
  within_kind levels (CaseStatement place choice body) below =
      within_statements levels body (omega (arith, below))

  within_else : (levels : ℕ) (tree : ElseTree) → else_height tree ≤ levels
      → AreWithin levels (bodies_in_else tree)
  within_else levels NoElse below = tt
  within_else levels (ElseStatement statement) below = within_statement levels statement below

  within_statements : (levels : ℕ) (trees : StatementTrees) → statements_height trees ≤ levels
      → AreWithin levels (bodies_in_statements trees)
  within_statements levels NoStatements below = tt
  within_statements levels (MoreStatements first others) below =
      both_within levels (bodies_in_statement first) (bodies_in_statements others)
      (within_statement levels first (omega (arith, below)))
      (within_statements levels others (omega (arith, below)))

  within_declaration : (levels : ℕ) (tree : DeclarationTree) → declaration_height tree ≤ levels
      → AreWithin levels (bodies_in_declaration tree)
  within_declaration levels (DeclareTree elements) below = tt
  within_declaration levels (ProcedureTree heading declared body end_name) below = (
    omega (arith, below),
    both_within levels (bodies_in declared) (bodies_in_statements body)
        (within_declarations levels declared (omega (arith, below)))
        (within_statements levels body (omega (arith, below))),
  )

  within_declarations : (levels : ℕ) (trees : DeclarationTrees) → declarations_height trees ≤ levels
      → AreWithin levels (bodies_in trees)
  within_declarations levels NoDeclarations below = tt
  within_declarations levels (MoreDeclarations first others) below =
      both_within levels (bodies_in_declaration first) (bodies_in others)
      (within_declaration levels first (omega (arith, below)))
      (within_declarations levels others (omega (arith, below)))

plain_within : (levels : ℕ) (bodies : List StatementTrees) → AreWithin levels bodies
    → AreWithin levels (map plain_statements bodies)
plain_within levels [] are = tt
plain_within levels (body ∷ others) are =
    let lower = statements_lower body in
    let first = are.0 in
    (omega (arith, lower, first), plain_within levels others are.1)

-- the bodies of a module nest no deeper than it does
pub bodies_within : (levels : ℕ) (tree : ModuleTree) → module_height tree ≤ levels
    → AreWithin levels (plain_bodies tree)
bodies_within levels tree below =
    plain_within levels
    (tree.statements ∷ bodies_in tree.declarations ++ bodies_in_statements tree.statements) (
      (omega (arith, below)),
      both_within levels (bodies_in tree.declarations) (bodies_in_statements tree.statements)
          (within_declarations levels tree.declarations (omega (arith, below)))
          (within_statements levels tree.statements (omega (arith, below))),
    )
