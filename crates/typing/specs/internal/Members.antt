-- The faults that the names of members in a module may have, where it uses and declares them. These are not names of
-- its scopes: their meaning is known once their object is typed.
use Rattle.std.specs.Prelude.{List, [], ◌∷◌, ◌++◌, map}
use Rattle.std.specs.List.{flat_map}
use Rattle.std.specs.Option.{option_map_or}
use Rattle.trees.specs.declared.declaration.Member.{Member}
use Rattle.trees.specs.declared.identifier.Identifier.{Identifier}
use Rattle.trees.specs.Trees.{ExpressionTree, ConstantLeaf, ReferenceLeaf, LocationLeaf, ListLeaf, ParenthesizedNode, AssignmentNode, UnaryNode, BinaryNode, ReferenceTree, ReferenceTo, MemberTree, NoMember, MemberOf, ArgumentTrees, NoArguments, MoreArguments, ItemTypeTree, ScalarItem, StructureItem, ElementTree, LiterallyElement, ItemElement, IterationTree, LoopHeadTree, of_loop_head, StatementTree, LabelledStatement, StatementKindTree, NullStatement, AssignmentStatement, CallStatement, ReturnStatement, HaltStatement, GotoStatement, IfStatement, DoStatement, LoopStatement, CaseStatement, ElseTree, NoElse, ElseStatement, StatementTrees, NoStatements, MoreStatements, DeclarationTree, DeclareTree, ProcedureTree, DeclarationTrees, NoDeclarations, MoreDeclarations, ModuleTree}
use Rattle.typing.specs.declared.fault.Cause.TheVariants.{UnknownName, DeclaredTwice}
use Rattle.typing.specs.declared.fault.Fault.{Fault}

-- a name that no member of its object has, and one that another member of the structure has
abbrev pub unknown_member : Identifier → Fault
unknown_member name = record { cause = UnknownName; place = name.place }

abbrev pub twice_declared : Member → Fault
twice_declared member = record { cause = DeclaredTwice; place = member.name.place }

abbrev mutual
  pub members_in_expression : ExpressionTree → List Fault
  members_in_expression (ConstantLeaf constant) = []
  members_in_expression (ReferenceLeaf reference) = members_in_reference reference
  members_in_expression (LocationLeaf reference) = members_in_reference reference
  members_in_expression (ListLeaf constants) = []
  members_in_expression (ParenthesizedNode inner) = members_in_expression inner
  members_in_expression (AssignmentNode target value) =
      members_in_reference target ++ members_in_expression value
  members_in_expression (UnaryNode operator operand) = members_in_expression operand
  members_in_expression (BinaryNode operator left right) =
      members_in_expression left ++ members_in_expression right

  pub members_in_reference : ReferenceTree → List Fault
  members_in_reference (ReferenceTo name arguments member) =
      members_in_arguments arguments ++ members_in_member member

  pub members_in_member : MemberTree → List Fault
  members_in_member NoMember = []
  members_in_member (MemberOf name arguments) = unknown_member name ∷ members_in_arguments arguments

  pub members_in_arguments : ArgumentTrees → List Fault
  members_in_arguments NoArguments = []
  members_in_arguments (MoreArguments first others) =
      members_in_expression first ++ members_in_arguments others

-- the head of an iterative DO
abbrev pub members_in_iteration : IterationTree → List Fault
members_in_iteration iteration =
    members_in_expression iteration.first ++ members_in_expression iteration.last
    ++ option_map_or members_in_expression iteration.step []

abbrev pub members_in_head : LoopHeadTree → List Fault
members_in_head = of_loop_head members_in_expression members_in_iteration

-- a structure declares its members
abbrev pub members_in_type : ItemTypeTree → List Fault
members_in_type (ScalarItem scalar) = []
members_in_type (StructureItem members) = map twice_declared members

abbrev pub members_in_element : ElementTree → List Fault
members_in_element (LiterallyElement name text) = []
members_in_element (ItemElement item) = members_in_type item.item_type

abbrev mutual
  pub members_in_kind : StatementKindTree → List Fault
  members_in_kind (NullStatement place) = []
  members_in_kind (AssignmentStatement targets value) =
      flat_map members_in_reference targets ++ members_in_expression value
  members_in_kind (CallStatement place name arguments) = members_in_arguments arguments
  members_in_kind (ReturnStatement place value) = option_map_or members_in_expression value []
  members_in_kind (HaltStatement place) = []
  members_in_kind (GotoStatement place label) = []
  members_in_kind (IfStatement place condition body otherwise) =
      members_in_expression condition ++ (members_in_statement body ++ members_in_else otherwise)
  members_in_kind (DoStatement place declared body) =
      members_in_declarations declared ++ members_in_statements body
  members_in_kind (LoopStatement place head body) = members_in_head head ++ members_in_statements body
  members_in_kind (CaseStatement place choice body) =
      members_in_expression choice ++ members_in_statements body

  pub members_in_statement : StatementTree → List Fault
  members_in_statement (LabelledStatement labels kind) = members_in_kind kind

  pub members_in_else : ElseTree → List Fault
  members_in_else NoElse = []
  members_in_else (ElseStatement statement) = members_in_statement statement

  pub members_in_statements : StatementTrees → List Fault
  members_in_statements NoStatements = []
  members_in_statements (MoreStatements first others) =
      members_in_statement first ++ members_in_statements others

  pub members_in_declaration : DeclarationTree → List Fault
  members_in_declaration (DeclareTree elements) = flat_map members_in_element elements
  members_in_declaration (ProcedureTree heading declared body end_name) =
      members_in_declarations declared ++ members_in_statements body

  pub members_in_declarations : DeclarationTrees → List Fault
  members_in_declarations NoDeclarations = []
  members_in_declarations (MoreDeclarations first others) =
      members_in_declaration first ++ members_in_declarations others

-- all of a module
abbrev pub members_in_module : ModuleTree → List Fault
members_in_module tree = members_in_declarations tree.declarations ++ members_in_statements tree.statements
