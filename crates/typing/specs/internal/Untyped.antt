-- Typed trees with their conversions taken away, and trees without the parts that typed trees do not keep, so that they
-- can be compared. Both are trees without places, parentheses and declarations, in which labels have no
-- names, strings that stand for numbers are these numbers, and constant lists are their bytes.
use Rattle.std.specs.Prelude.{◌≡◌, ℕ, List, [], ◌∷◌, ◌++◌, map, Option, None, Some, option_map, unwrap_or, codes, slice_get}
use Rattle.std.specs.Option.{option_map_or}
use Rattle.trees.specs.declared.identifier.Identifier.{Identifier}
use Rattle.trees.specs.declared.identifier.Place.{Place}
use Rattle.trees.specs.Trees as trees
use Rattle.trees.specs.Trees.{ConstantTree, NumberConstant, StringConstant, ExpressionTree, ReferenceTree, ReferenceTo, MemberTree, NoMember, MemberOf, ArgumentTrees, NoArguments, MoreArguments, IterationTree, LoopHeadTree, WhileHead, CountHead, StatementTree, LabelledStatement, StatementKindTree, ElseTree, StatementTrees, DeclarationTree, DeclareTree, ProcedureTree, DeclarationTrees, NoDeclarations, MoreDeclarations, ModuleTree}
use Rattle.typed_trees.specs.declared.parts.Measure.{Measure}
use Rattle.typed_trees.specs.declared.parts.Measure.TheVariants.{Length, Last, Size}
use Rattle.typed_trees.specs.declared.parts.ShiftFunction.{ShiftFunction}
use Rattle.typed_trees.specs.declared.parts.ShiftFunction.TheVariants.{ShiftLeft, ShiftRight, RotateLeft, RotateRight}
use Rattle.trees.specs.declared.functions.UnaryFunction.{UnaryFunction}
use Rattle.trees.specs.declared.functions.UnaryFunction.TheVariants.{Low, High, Double}
use Rattle.typed_trees.specs.TypedTrees as typed
use Rattle.typed_trees.specs.declared.parts.NumberOrigin.TheVariants.{FromDigits, FromString, FromMeasure}
use Rattle.typed_trees.specs.declared.parts.NumberOrigin.{NumberOrigin}
use Rattle.typed_trees.specs.declared.parts.TypedMember.{TypedMember}
use Rattle.typed_trees.specs.TypedTrees.{TypedExpression, TypedReference, PartOf, Subscript, NoSubscript, At, TypedTarget, StoredIn, SentTo, TypedArguments, TypedIteration, TypedHead, WhileHead as TypedWhile, CountHead as TypedCount, TypedStatement, LabelStatement, MoveStatement, TypedElse, TypedStatements, TypedList, ListOf, TypedObject, TypedProcedure, TypedModule}
use Rattle.typing.specs.Constants.{number_of_characters, bytes_of_constants}
use Rattle.typing.specs.References.{members_of}

abbrev pub nowhere : Place
nowhere = record { start = 0; line = 0 }

abbrev pub named : List ℕ → Identifier
named name = record { name = name; place = nowhere }

abbrev pub nameless : Identifier
nameless = named []

abbrev pub number_leaf : ℕ → ExpressionTree
number_leaf value = trees.ConstantLeaf (NumberConstant (record { value = value; place = nowhere }))

abbrev pub byte_list : List ℕ → ExpressionTree
byte_list bytes =
    trees.ListLeaf (map (λ byte. NumberConstant (record { value = byte; place = nowhere })) bytes)

-- Trees without places, parentheses and declarations.
abbrev pub number_in : ConstantTree → ℕ
number_in (NumberConstant number) = number.value
number_in (StringConstant string) = unwrap_or (number_of_characters string.characters) 0

abbrev mutual
  pub plain_expression : ExpressionTree → ExpressionTree
  plain_expression (trees.ConstantLeaf constant) = number_leaf (number_in constant)
  plain_expression (trees.ReferenceLeaf reference) = trees.ReferenceLeaf (plain_reference reference)
  plain_expression (trees.LocationLeaf reference) = trees.LocationLeaf (plain_reference reference)
  plain_expression (trees.ListLeaf constants) = byte_list (bytes_of_constants constants)
  plain_expression (trees.ParenthesizedNode inner) = plain_expression inner
  plain_expression (trees.AssignmentNode target value) =
      trees.AssignmentNode (plain_reference target) (plain_expression value)
  plain_expression (trees.UnaryNode operator operand) = trees.UnaryNode operator (plain_expression operand)
  plain_expression (trees.BinaryNode operator left right) =
      trees.BinaryNode operator (plain_expression left) (plain_expression right)

  pub plain_reference : ReferenceTree → ReferenceTree
  plain_reference (ReferenceTo name values part) =
      ReferenceTo (named name.name) (plain_arguments values) (plain_member part)

  pub plain_member : MemberTree → MemberTree
  plain_member NoMember = NoMember
  plain_member (MemberOf name values) = MemberOf (named name.name) (plain_arguments values)

  pub plain_arguments : ArgumentTrees → ArgumentTrees
  plain_arguments NoArguments = NoArguments
  plain_arguments (MoreArguments first others) =
      MoreArguments (plain_expression first) (plain_arguments others)

abbrev pub plain_iteration : IterationTree → IterationTree
plain_iteration head = record {
  variable = named head.variable.name;
  first = plain_expression head.first;
  last = plain_expression head.last;
  step = option_map plain_expression head.step;
}

abbrev pub plain_head : LoopHeadTree → LoopHeadTree
plain_head (WhileHead condition) = WhileHead (plain_expression condition)
plain_head (CountHead iteration) = CountHead (plain_iteration iteration)

abbrev pub without_names : List Identifier → List Identifier
without_names labels = map (λ (label : Identifier). nameless) labels

abbrev mutual
  pub plain_statement : StatementTree → StatementTree
  plain_statement (LabelledStatement labels kind) = LabelledStatement (without_names labels) (plain_kind kind)

  pub plain_kind : StatementKindTree → StatementKindTree
  plain_kind (trees.NullStatement place) = trees.NullStatement nowhere
  plain_kind (trees.AssignmentStatement targets value) =
      trees.AssignmentStatement (map plain_reference targets) (plain_expression value)
  plain_kind (trees.CallStatement place name values) =
      trees.CallStatement nowhere (named name.name) (plain_arguments values)
  plain_kind (trees.ReturnStatement place value) =
      trees.ReturnStatement nowhere (option_map plain_expression value)
  plain_kind (trees.HaltStatement place) = trees.HaltStatement nowhere
  plain_kind (trees.GotoStatement place label) = trees.GotoStatement nowhere nameless
  plain_kind (trees.IfStatement place condition body otherwise) =
      trees.IfStatement nowhere (plain_expression condition) (plain_statement body) (plain_else otherwise)
  plain_kind (trees.DoStatement place declared body) =
      trees.DoStatement nowhere NoDeclarations (plain_statements body)
  plain_kind (trees.LoopStatement place head body) =
      trees.LoopStatement nowhere (plain_head head) (plain_statements body)
  plain_kind (trees.CaseStatement place choice body) =
      trees.CaseStatement nowhere (plain_expression choice) (plain_statements body)

  pub plain_else : ElseTree → ElseTree
  plain_else trees.NoElse = trees.NoElse
  plain_else (trees.ElseStatement statement) = trees.ElseStatement (plain_statement statement)

  pub plain_statements : StatementTrees → StatementTrees
  plain_statements trees.NoStatements = trees.NoStatements
  plain_statements (trees.MoreStatements first others) =
      trees.MoreStatements (plain_statement first) (plain_statements others)

-- the bodies of the procedures in a text, in the order of their headings
abbrev mutual
  pub bodies_in_statement : StatementTree → List StatementTrees
  bodies_in_statement (LabelledStatement labels kind) = bodies_in_kind kind

  pub bodies_in_kind : StatementKindTree → List StatementTrees
  bodies_in_kind (trees.NullStatement place) = []
  bodies_in_kind (trees.AssignmentStatement targets value) = []
  bodies_in_kind (trees.CallStatement place name values) = []
  bodies_in_kind (trees.ReturnStatement place value) = []
  bodies_in_kind (trees.HaltStatement place) = []
  bodies_in_kind (trees.GotoStatement place label) = []
  bodies_in_kind (trees.IfStatement place condition body otherwise) =
      bodies_in_statement body ++ bodies_in_else otherwise
  bodies_in_kind (trees.DoStatement place declared body) = bodies_in declared ++ bodies_in_statements body
  bodies_in_kind (trees.LoopStatement place head body) = bodies_in_statements body
  bodies_in_kind (trees.CaseStatement place choice body) = bodies_in_statements body

  pub bodies_in_else : ElseTree → List StatementTrees
  bodies_in_else trees.NoElse = []
  bodies_in_else (trees.ElseStatement statement) = bodies_in_statement statement

  pub bodies_in_statements : StatementTrees → List StatementTrees
  bodies_in_statements trees.NoStatements = []
  bodies_in_statements (trees.MoreStatements first others) =
      bodies_in_statement first ++ bodies_in_statements others

  pub bodies_in_declaration : DeclarationTree → List StatementTrees
  bodies_in_declaration (DeclareTree elements) = []
  bodies_in_declaration (ProcedureTree heading declared body end_name) =
      body ∷ bodies_in declared ++ bodies_in_statements body

  pub bodies_in : DeclarationTrees → List StatementTrees
  bodies_in NoDeclarations = []
  bodies_in (MoreDeclarations first others) = bodies_in_declaration first ++ bodies_in others

-- the statements of the main program and of the procedures, without the parts that typed trees do not keep
abbrev pub plain_bodies : ModuleTree → List StatementTrees
plain_bodies tree =
    map plain_statements (tree.statements ∷ bodies_in tree.declarations ++ bodies_in_statements
    tree.statements)

-- Typed trees without their conversions. Names are those of the tables.
abbrev pub object_name : TypedModule → ℕ → List ℕ
object_name tables object =
    option_map_or (λ (found : TypedObject). found.name) (slice_get tables.objects object) []

abbrev pub procedure_name : TypedModule → ℕ → List ℕ
procedure_name tables procedure =
    option_map_or (λ (found : TypedProcedure). found.name) (slice_get tables.procedures procedure) []

abbrev pub members_of_object : TypedModule → ℕ → List TypedMember
members_of_object tables object =
    option_map_or (λ (found : TypedObject). unwrap_or (members_of found.object_type) [])
    (slice_get tables.objects object) []

abbrev pub member_name : TypedModule → (object position : ℕ) → List ℕ
member_name tables object position =
    option_map_or (λ (found : TypedMember). found.name)
    (slice_get (members_of_object tables object) position) []

abbrev pub list_bytes : TypedModule → ℕ → List ℕ
list_bytes tables list = unwrap_or (slice_get tables.constants.lists list) []

-- built-in procedures by their names
abbrev pub measure_name : Measure → List ℕ
measure_name Length = codes "LENGTH"
measure_name Last = codes "LAST"
measure_name Size = codes "SIZE"

abbrev pub function_name : UnaryFunction → List ℕ
function_name Low = codes "LOW"
function_name High = codes "HIGH"
function_name Double = codes "DOUBLE"

abbrev pub shift_name : ShiftFunction → List ℕ
shift_name ShiftLeft = codes "SHL"
shift_name ShiftRight = codes "SHR"
shift_name RotateLeft = codes "ROL"
shift_name RotateRight = codes "ROR"

abbrev pub call_tree : List ℕ → ArgumentTrees → ReferenceTree
call_tree name values = ReferenceTo (named name) values NoMember

abbrev pub one_argument : ExpressionTree → ArgumentTrees
one_argument value = MoreArguments value NoArguments

-- a member as it stands in a reference
abbrev pub member_tree : TypedModule → (object : ℕ) → Option ℕ → ArgumentTrees → MemberTree
member_tree tables object None values = NoMember
member_tree tables object (Some position) values =
    MemberOf (named (member_name tables object position)) values

abbrev pub number_tree : TypedModule → ℕ → NumberOrigin → ExpressionTree
number_tree tables value FromDigits = number_leaf value
number_tree tables value FromString = number_leaf value
number_tree tables value (FromMeasure measure object member) =
    trees.ReferenceLeaf (call_tree (measure_name measure) (one_argument (trees.ReferenceLeaf
    (ReferenceTo (named (object_name tables object)) NoArguments
    (member_tree tables object member NoArguments)))))

abbrev mutual
  pub untyped_expression : TypedModule → TypedExpression → ExpressionTree
  untyped_expression tables (typed.NumberNode scalar value origin) = number_tree tables value origin
  untyped_expression tables (typed.ValueNode scalar reference) =
      trees.ReferenceLeaf (untyped_reference tables reference)
  untyped_expression tables (typed.LocationNode reference) =
      trees.LocationLeaf (untyped_reference tables reference)
  untyped_expression tables (typed.ListNode list) = byte_list (list_bytes tables list)
  untyped_expression tables (typed.ConversionNode scalar inner) = untyped_expression tables inner
  untyped_expression tables (typed.AssignmentNode target value) =
      trees.AssignmentNode (untyped_target tables target) (untyped_expression tables value)
  untyped_expression tables (typed.UnaryNode scalar operator operand) =
      trees.UnaryNode operator (untyped_expression tables operand)
  untyped_expression tables (typed.BinaryNode operands operator left right) =
      trees.BinaryNode operator (untyped_expression tables left) (untyped_expression tables right)
  untyped_expression tables (typed.CallNode procedure scalar values) =
      trees.ReferenceLeaf (call_tree (procedure_name tables procedure) (untyped_arguments tables values))
  untyped_expression tables (typed.FunctionNode function operand) =
      trees.ReferenceLeaf (call_tree (function_name function)
      (one_argument (untyped_expression tables operand)))
  untyped_expression tables (typed.ShiftNode scalar function value count) =
      trees.ReferenceLeaf (call_tree (shift_name function)
      (MoreArguments (untyped_expression tables value) (one_argument (untyped_expression tables count))))
  untyped_expression tables (typed.InputNode port) =
      trees.ReferenceLeaf (call_tree (codes "INPUT") (one_argument (number_leaf port)))

  pub untyped_reference : TypedModule → TypedReference → ReferenceTree
  untyped_reference tables (PartOf object subscript member offset member_subscript) =
      ReferenceTo (named (object_name tables object)) (untyped_subscript tables subscript)
      (member_tree tables object member (untyped_subscript tables member_subscript))

  pub untyped_subscript : TypedModule → Subscript → ArgumentTrees
  untyped_subscript tables NoSubscript = NoArguments
  untyped_subscript tables (At stride count index) = one_argument (untyped_expression tables index)

  pub untyped_target : TypedModule → TypedTarget → ReferenceTree
  untyped_target tables (StoredIn from to reference) = untyped_reference tables reference
  untyped_target tables (SentTo from port) = call_tree (codes "OUTPUT") (one_argument (number_leaf port))

  pub untyped_arguments : TypedModule → TypedArguments → ArgumentTrees
  untyped_arguments tables typed.NoArguments = NoArguments
  untyped_arguments tables (typed.MoreArguments first others) =
      MoreArguments (untyped_expression tables first) (untyped_arguments tables others)

abbrev pub untyped_iteration : TypedModule → TypedIteration → IterationTree
untyped_iteration tables head = record {
  variable = named (object_name tables head.variable);
  first = untyped_expression tables head.first;
  last = untyped_expression tables head.last;
  step = option_map (untyped_expression tables) head.step;
}

abbrev pub untyped_head : TypedModule → TypedHead → LoopHeadTree
untyped_head tables (TypedWhile condition) = WhileHead (untyped_expression tables condition)
untyped_head tables (TypedCount iteration) = CountHead (untyped_iteration tables iteration)

abbrev mutual
  pub untyped_kind : TypedModule → TypedStatement → StatementKindTree
  untyped_kind tables (LabelStatement label) = trees.NullStatement nowhere
  untyped_kind tables typed.NullStatement = trees.NullStatement nowhere
  untyped_kind tables (typed.AssignmentStatement targets value) =
      trees.AssignmentStatement (map (untyped_target tables) targets) (untyped_expression tables value)
  untyped_kind tables (typed.CallStatement procedure values) =
      trees.CallStatement nowhere (named (procedure_name tables procedure)) (untyped_arguments tables values)
  untyped_kind tables (MoveStatement count source destination) =
      trees.CallStatement nowhere (named (codes "MOVE"))
      (MoreArguments (untyped_expression tables count)
      (MoreArguments (untyped_expression tables source)
      (one_argument (untyped_expression tables destination))))
  untyped_kind tables (typed.ReturnStatement value) =
      trees.ReturnStatement nowhere (option_map (untyped_expression tables) value)
  untyped_kind tables typed.HaltStatement = trees.HaltStatement nowhere
  untyped_kind tables (typed.GotoStatement label) = trees.GotoStatement nowhere nameless
  untyped_kind tables (typed.IfStatement condition body otherwise) =
      trees.IfStatement nowhere (untyped_expression tables condition)
      (LabelledStatement [] (untyped_kind tables body)) (untyped_else tables otherwise)
  untyped_kind tables (typed.DoStatement body) =
      trees.DoStatement nowhere NoDeclarations (untyped_list tables body)
  untyped_kind tables (typed.LoopStatement head body) =
      trees.LoopStatement nowhere (untyped_head tables head) (untyped_list tables body)
  untyped_kind tables (typed.CaseStatement choice body) =
      trees.CaseStatement nowhere (untyped_expression tables choice) (untyped_statements tables body [])

  pub untyped_else : TypedModule → TypedElse → ElseTree
  untyped_else tables typed.NoElse = trees.NoElse
  untyped_else tables (typed.ElseStatement statement) =
      trees.ElseStatement (LabelledStatement [] (untyped_kind tables statement))

  -- statements, the first after these labels
  pub untyped_statements : TypedModule → TypedStatements → (labels : List Identifier) → StatementTrees
  untyped_statements tables typed.NoStatements labels = trees.NoStatements
  untyped_statements tables (typed.MoreStatements (LabelStatement label) others) labels =
      untyped_statements tables others (nameless ∷ labels)
  untyped_statements tables (typed.MoreStatements first others) labels =
      trees.MoreStatements (LabelledStatement labels (untyped_kind tables first))
      (untyped_statements tables others [])

  pub untyped_list : TypedModule → TypedList → StatementTrees
  untyped_list tables (ListOf first places statements) = untyped_statements tables statements []

-- the statements of the main program and of the procedures, in the order of their headings
abbrev pub untyped_bodies : TypedModule → List StatementTrees
untyped_bodies tables =
    untyped_list tables tables.main.body
    ∷ map (λ (procedure : TypedProcedure). untyped_list tables procedure.body) tables.procedures

-- taking its conversions away from a typing gives back the tree
abbrev pub GivesBack : ModuleTree → TypedModule → Type 0
GivesBack tree found = untyped_bodies found ≡ plain_bodies tree
