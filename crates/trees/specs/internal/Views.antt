-- The trees of the code as trees without where their parts lie in memory.
use Rattle.std.specs.Prelude.{◌≡◌, Bool, true, false, List, [], ◌∷◌, map, Option, Some, None, Result, IfOk}
use Rattle.std.specs.Option.{option_map}
use Rattle.trees.specs.declared.declaration.At.{At}
use Rattle.trees.specs.declared.declaration.Element.{Element}
use Rattle.trees.specs.declared.declaration.Element.TheVariants.{Literally, Item as ItemVariant}
use Rattle.trees.specs.declared.declaration.Item.{Item}
use Rattle.trees.specs.declared.declaration.ItemType.{ItemType}
use Rattle.trees.specs.declared.declaration.ItemType.TheVariants.{Scalar, Structure}
use Rattle.trees.specs.declared.declaration.Offset.{Offset}
use Rattle.trees.specs.declared.declaration.Origin.{Origin}
use Rattle.trees.specs.declared.declaration.Origin.TheVariants as origins
use Rattle.trees.specs.declared.declaration.Restricted.{Restricted}
use Rattle.trees.specs.declared.declaration.Subject.{Subject}
use Rattle.trees.specs.declared.declaration.Subject.TheVariants.{Single, Group}
use Rattle.trees.specs.declared.declaration.ValueList.{ValueList}
use Rattle.trees.specs.declared.expression.Expression.{Expression}
use Rattle.trees.specs.declared.expression.Expression.TheVariants as expressions
use Rattle.trees.specs.declared.expression.Reference.{Reference, Reference', Row_of-Expression, end_of-Expression, more_of-Expression, Held-Reference-member, None', Some'}
use Rattle.trees.specs.declared.expression.Selector.{Selector}
use Rattle.trees.specs.declared.identifier.Constant.{Constant}
use Rattle.trees.specs.declared.identifier.Constant.TheVariants as constants
use Rattle.trees.specs.declared.identifier.Identifier.{Identifier}
use Rattle.trees.specs.declared.identifier.Place.{Place}
use Rattle.trees.specs.declared.identifier.StringLiteral.{StringLiteral}
use Rattle.trees.specs.declared.module.Module.{Module}
use Rattle.trees.specs.declared.statement.Block.{Block, Block', out-Block, Row_of-Declaration, end_of-Declaration, more_of-Declaration, Row_of-Statement, end_of-Statement, more_of-Statement}
use Rattle.trees.specs.declared.statement.Declaration.{Declaration}
use Rattle.trees.specs.declared.statement.Declaration.TheVariants as declarations
use Rattle.trees.specs.declared.statement.DoCase.{DoCase'}
use Rattle.trees.specs.declared.statement.Heading.{Heading}
use Rattle.trees.specs.declared.statement.Iteration.{Iteration}
use Rattle.trees.specs.declared.statement.IfThen.{IfThen', Held-IfThen-otherwise, None' as NoElse', Some' as SomeElse'}
use Rattle.trees.specs.declared.statement.Loop.{Loop'}
use Rattle.trees.specs.declared.statement.LoopHead.{LoopHead}
use Rattle.trees.specs.declared.statement.LoopHead.TheVariants as heads
use Rattle.trees.specs.declared.statement.Procedure.{Procedure'}
use Rattle.trees.specs.declared.statement.Statement.{Statement}
use Rattle.trees.specs.declared.statement.StatementKind.{StatementKind}
use Rattle.trees.specs.declared.statement.StatementKind.TheVariants as kinds
use Rattle.trees.specs.Trees.{StringTree, ConstantTree, NumberConstant, StringConstant, ExpressionTree, ConstantLeaf, ReferenceLeaf, LocationLeaf, ListLeaf, ParenthesizedNode, AssignmentNode, UnaryNode, BinaryNode, ReferenceTree, ReferenceTo, MemberTree, NoMember, MemberOf, ArgumentTrees, NoArguments, MoreArguments, OriginTree, ConstantOrigin, LocationOrigin, OffsetTree, RestrictedTree, ItemTypeTree, ScalarItem, StructureItem, AtTree, ValueListTree, SubjectTree, SingleSubject, GroupSubject, ItemTree, ElementTree, LiterallyElement, ItemElement, HeadingTree, IterationTree, LoopHeadTree, WhileHead, CountHead, StatementTree, LabelledStatement, StatementKindTree, NullStatement, AssignmentStatement, CallStatement, ReturnStatement, HaltStatement, GotoStatement, IfStatement, DoStatement, LoopStatement, CaseStatement, ElseTree, NoElse, ElseStatement, StatementTrees, NoStatements, MoreStatements, DeclarationTree, DeclareTree, ProcedureTree, DeclarationTrees, NoDeclarations, MoreDeclarations, ModuleTree}

abbrev pub string_tree : StringLiteral → StringTree
string_tree literal = record { characters = literal.characters.items; place = literal.place }

abbrev pub constant_tree : Constant → ConstantTree
constant_tree (constants.Number number) = NumberConstant number
constant_tree (constants.String literal) = StringConstant (string_tree literal.value)

abbrev mutual
  pub expression_tree : Expression → ExpressionTree
  expression_tree (expressions.Constant constant) = ConstantLeaf (constant_tree constant)
  expression_tree (expressions.Reference' p reference) = ReferenceLeaf (reference_tree reference)
  expression_tree (expressions.Location' p reference) = LocationLeaf (reference_tree reference)
  expression_tree (expressions.List constants) = ListLeaf (map constant_tree constants.items)
  expression_tree (expressions.Parenthesized' p inner) = ParenthesizedNode (expression_tree inner)
  expression_tree (expressions.Assignment' p target q value) =
      AssignmentNode (reference_tree target) (expression_tree value)
  expression_tree (expressions.Unary' operator p operand) = UnaryNode operator (expression_tree operand)
  expression_tree (expressions.Binary' operator p left q right) =
      BinaryNode operator (expression_tree left) (expression_tree right)

  pub reference_tree : Reference → ReferenceTree
  reference_tree (Reference' name shape arguments member) =
      ReferenceTo name (row_trees arguments) (held_member_tree member)

  pub held_member_tree : Held-Reference-member → MemberTree
  held_member_tree None' = NoMember
  held_member_tree (Some' p name shape arguments) = MemberOf name (row_trees arguments)

  pub row_trees : {count : _} → Row_of-Expression count → ArgumentTrees
  row_trees end_of-Expression = NoArguments
  row_trees (more_of-Expression first rest) = MoreArguments (expression_tree first) (row_trees rest)

-- if memory did not run out, an expression with this tree was made
abbrev pub MakesExpression : {E : Type 0} → Result Expression E → ExpressionTree → Type 0
MakesExpression result tree = IfOk result (λ made. expression_tree made ≡ tree)

-- the arguments in a list
abbrev pub argument_trees : List Expression → ArgumentTrees
argument_trees [] = NoArguments
argument_trees (first ∷ rest) = MoreArguments (expression_tree first) (argument_trees rest)

-- the member that a reference names, if it names one
abbrev pub member_tree : Option Selector → MemberTree
member_tree None = NoMember
member_tree (Some member) = MemberOf member.name (argument_trees member.arguments.items)

-- the reference to the object of a name with its arguments, or to a member of it
abbrev pub reference_of : Selector → MemberTree → ReferenceTree
reference_of base member = ReferenceTo base.name (argument_trees base.arguments.items) member

-- whether an expression is a reference alone
abbrev pub is_reference_leaf : ExpressionTree → Bool
is_reference_leaf (ReferenceLeaf reference) = true
is_reference_leaf _ = false

abbrev pub origin_tree : Origin → OriginTree
origin_tree (origins.Constant constant) = ConstantOrigin (constant_tree constant)
origin_tree (origins.Location name) = LocationOrigin name

abbrev pub offset_tree : Offset → OffsetTree
offset_tree offset = record { sign = offset.sign; constant = constant_tree offset.constant }

abbrev pub restricted_tree : Restricted → RestrictedTree
restricted_tree restricted = record {
  origin = origin_tree restricted.origin;
  offsets = map offset_tree restricted.offsets.items;
}

abbrev pub item_type_tree : ItemType → ItemTypeTree
item_type_tree (Scalar scalar) = ScalarItem scalar
item_type_tree (Structure members) = StructureItem members.items

abbrev pub at_tree : At → AtTree
at_tree at = record { place = at.place; address = restricted_tree at.address }

abbrev pub value_list_tree : ValueList → ValueListTree
value_list_tree list = record {
  storage = list.storage;
  values = map restricted_tree list.values.items;
}

abbrev pub subject_tree : Subject → SubjectTree
subject_tree (Single name base) = SingleSubject name base
subject_tree (Group names) = GroupSubject names.items

abbrev pub item_tree : Item → ItemTree
item_tree item = record {
  subject = subject_tree item.subject;
  dimension = item.dimension;
  item_type = item_type_tree item.item_type;
  linkage = item.linkage;
  at = option_map at_tree item.at;
  value_list = option_map value_list_tree item.value_list;
}

abbrev pub element_tree : Element → ElementTree
element_tree (Literally definition) =
    LiterallyElement definition.value.name (string_tree definition.value.text)
element_tree (ItemVariant item) = ItemElement (item_tree item.value)

abbrev pub heading_tree : Heading → HeadingTree
heading_tree heading = record {
  name = heading.name;
  parameters = heading.parameters.items;
  result = heading.result;
  linkage = heading.linkage;
  reentrant = heading.reentrant;
}

abbrev pub iteration_tree : Iteration → IterationTree
iteration_tree iteration = record {
  variable = iteration.variable;
  first = expression_tree iteration.first;
  last = expression_tree iteration.last;
  step = option_map expression_tree iteration.step;
}

abbrev pub head_tree : LoopHead → LoopHeadTree
head_tree (heads.While condition) = WhileHead (expression_tree condition)
head_tree (heads.Count iteration) = CountHead (iteration_tree iteration)

-- the trees of the targets of an assignment
abbrev pub target_trees : Reference → List Reference → List ReferenceTree
target_trees first others = reference_tree first ∷ map reference_tree others

abbrev mutual
  pub kind_tree : StatementKind → StatementKindTree
  kind_tree (kinds.Null place) = NullStatement place
  kind_tree (kinds.Assignment assignment) =
      AssignmentStatement (target_trees assignment.value.target assignment.value.others.items)
      (expression_tree assignment.value.value)
  kind_tree (kinds.Call place procedure) =
      CallStatement place procedure.value.name (argument_trees procedure.value.arguments.items)
  kind_tree (kinds.Return place value) =
      ReturnStatement place (option_map (λ held. expression_tree held.value) value)
  kind_tree (kinds.Halt place) = HaltStatement place
  kind_tree (kinds.Goto place label) = GotoStatement place label.value
  kind_tree (kinds.If' p (IfThen' place condition labels kind otherwise)) =
      IfStatement place (expression_tree condition) (LabelledStatement labels.items (kind_tree kind))
      (held_else_tree otherwise)
  kind_tree (kinds.Do' place p (Block' n declared m body)) =
      DoStatement place (declaration_rows declared) (statement_rows body)
  kind_tree (kinds.Loop' p (Loop' place head n body)) =
      LoopStatement place (head_tree head) (statement_rows body)
  kind_tree (kinds.Case' p (DoCase' place choice n body)) =
      CaseStatement place (expression_tree choice) (statement_rows body)

  pub held_else_tree : Held-IfThen-otherwise → ElseTree
  held_else_tree NoElse' = NoElse
  held_else_tree (SomeElse' labels kind) = ElseStatement (LabelledStatement labels.items (kind_tree kind))

  pub statement_rows : {count : _} → Row_of-Statement count → StatementTrees
  statement_rows end_of-Statement = NoStatements
  statement_rows (more_of-Statement labels kind rest) =
      MoreStatements (LabelledStatement labels.items (kind_tree kind)) (statement_rows rest)

  pub declaration_tree : Declaration → DeclarationTree
  declaration_tree (declarations.Declare elements) = DeclareTree (map element_tree elements.items)
  declaration_tree (declarations.Procedure' p (Procedure' heading (Block' n declared m body) end_name)) =
      ProcedureTree (heading_tree heading) (declaration_rows declared) (statement_rows body) end_name

  pub declaration_rows : {count : _} → Row_of-Declaration count → DeclarationTrees
  declaration_rows end_of-Declaration = NoDeclarations
  declaration_rows (more_of-Declaration first rest) =
      MoreDeclarations (declaration_tree first) (declaration_rows rest)

abbrev pub statement_tree : Statement → StatementTree
statement_tree statement = LabelledStatement statement.labels.items (kind_tree statement.kind)

-- if memory did not run out, such a statement was made
abbrev pub MakesKind : {E : Type 0} → Result StatementKind E → StatementKindTree → Type 0
MakesKind result tree = IfOk result (λ made. kind_tree made ≡ tree)

-- the statement after ELSE, if there is one
abbrev pub else_tree : Option Statement → ElseTree
else_tree None = NoElse
else_tree (Some otherwise) = ElseStatement (statement_tree otherwise)

-- the statements in a list
abbrev pub statement_trees : List Statement → StatementTrees
statement_trees [] = NoStatements
statement_trees (first ∷ rest) = MoreStatements (statement_tree first) (statement_trees rest)

-- the declarations in a list
abbrev pub declaration_trees : List Declaration → DeclarationTrees
declaration_trees [] = NoDeclarations
declaration_trees (first ∷ rest) = MoreDeclarations (declaration_tree first) (declaration_trees rest)

-- the declarations and the statements of a block
abbrev pub block_declarations : Block → DeclarationTrees
block_declarations block = declaration_trees (out-Block block).declarations.items

abbrev pub block_statements : Block → StatementTrees
block_statements block = statement_trees (out-Block block).statements.items

-- a procedure with its name after END, if there is one
abbrev pub procedure_tree : Heading → Block → Option Identifier → DeclarationTree
procedure_tree heading body end_name =
    ProcedureTree (heading_tree heading) (block_declarations body) (block_statements body) end_name

abbrev pub module_tree : Module → ModuleTree
module_tree parsed = record {
  name = parsed.name;
  place = parsed.place;
  declarations = block_declarations parsed.body;
  statements = block_statements parsed.body;
  end_name = parsed.end_name;
}
