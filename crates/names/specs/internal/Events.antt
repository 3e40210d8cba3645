-- The events of names in a module, in the order of the text: uses, with their bindings, and declarations.
use Rattle.std.specs.Prelude.{ℕ, Bool, Option, Some, List, [], ◌∷◌, ◌++◌, map}
use Rattle.std.specs.List.{flat_map}
use Rattle.trees.specs.declared.identifier.Identifier.{Identifier}
use Rattle.trees.specs.Trees.{ElementTree, LiterallyElement, ItemElement, StatementTree, LabelledStatement, StatementKindTree, NullStatement, AssignmentStatement, CallStatement, ReturnStatement, HaltStatement, GotoStatement, IfStatement, DoStatement, LoopStatement, CaseStatement, ElseTree, NoElse, ElseStatement, StatementTrees, NoStatements, MoreStatements, DeclarationTree, DeclareTree, ProcedureTree, DeclarationTrees, NoDeclarations, MoreDeclarations, ModuleTree}
use Rattle.names.specs.declared.entity.Binding.{Binding}
use Rattle.names.specs.Environment.{Here, at_the_start, into_block, out_of_block, into_body, out_of_body, into_list, out_of_list, with_object, with_procedure, with_definition, with_parameter, with_label, is_declared_again, is_parameter_again, is_label_again}
use Rattle.names.specs.BuiltIns.{binding_of, jump_of}
use Rattle.names.specs.internal.Uses.{names_in_expression, names_in_reference, names_in_arguments, names_in_optional, names_in_head, names_in_item}
use Rattle.names.specs.DeclaredNames.{declared_by, labels_of}

-- one thing that a text does with a name
pub data Event : Type 0 where
  -- a use of a name, and its binding, if the name is known there
  Use : Identifier → Option Binding → Event
  -- a declaration of a name, and whether the name may not be declared there again
  Declaration : Identifier → Bool → Event

-- a part of a text: what it does with names, and how far the text is after it
pub record Seen : Type 0 where
  pub events : List Event
  pub here : Here

-- a part that does nothing with names
unfoldable pub nothing : Here → Seen
nothing here = record { events = []; here = here }

-- one part, and then another
unfoldable pub in_turn : (Here → Seen) → (Here → Seen) → Here → Seen
in_turn first second here = record {
  events = (first here).events ++ (second (first here).here).events;
  here = (second (first here).here).here;
}

-- the parts of a list, in its order
abbrev pub see_all : {T : Type 0} → (T → Here → Seen) → List T → Here → Seen
see_all see [] = nothing
see_all see (first ∷ others) = in_turn (see first) (see_all see others)

-- into a block or a list of statements, or out of it
unfoldable pub moves : (Here → Here) → Here → Seen
moves move here = record { events = []; here = move here }

-- uses of names at a place
abbrev pub uses_at : Here → List Identifier → List Event
uses_at here names = map (λ (name : Identifier). Use name (binding_of here name.name)) names

unfoldable pub uses_of : List Identifier → Here → Seen
uses_of names here = record { events = uses_at here names; here = here }

-- a GOTO
unfoldable pub jumps_to : Identifier → Here → Seen
jumps_to label here = record { events = Use label (Some (jump_of here label.name)) ∷ []; here = here }

-- a declaration of a name: whether it may not be declared there again, and how far the text is after it
unfoldable pub declares : (Here → List ℕ → Bool) → (List ℕ → Here → Here) → Identifier → Here → Seen
declares is_again after name here =
    record { events = Declaration name (is_again here name.name) ∷ []; here = after name.name here }

-- a variable or a parameter, a LITERALLY definition
abbrev pub declares_object : Identifier → Here → Seen
declares_object name = declares is_declared_again with_object name

abbrev pub declares_definition : Identifier → Here → Seen
declares_definition name = declares is_declared_again with_definition name

-- the name of a procedure, which is known in it too
abbrev pub declares_procedure : Identifier → Here → Seen
declares_procedure name = declares is_declared_again with_procedure name

-- a parameter in the heading of a procedure, which is known from its DECLARE on
abbrev pub declares_parameter : Identifier → Here → Seen
declares_parameter name = declares is_parameter_again with_parameter name

-- a label before a statement
abbrev pub declares_label : Identifier → Here → Seen
declares_label label = declares is_label_again with_label label

-- The names that an item declares and those that it uses. Its own names are known from its end on. That one of them may
-- not be declared comes before what its uses are bound to.
unfoldable pub see_item : List Identifier → List Identifier → Here → Seen
see_item declared used here = record {
  events = (see_all declares_object declared here).events ++ uses_at here used;
  here = (see_all declares_object declared here).here;
}

-- an element of a DECLARE
abbrev pub see_element : ElementTree → Here → Seen
see_element (LiterallyElement name text) = declares_definition name
see_element (ItemElement item) = see_item (declared_by item.subject) (names_in_item item)

-- the inside of a simple DO, of the body of a procedure, of a list of statements
abbrev pub in_block : (Here → Seen) → Here → Seen
in_block inside = in_turn (moves into_block) (in_turn inside (moves out_of_block))

abbrev pub in_body : (Here → Seen) → Here → Seen
in_body inside = in_turn (moves into_body) (in_turn inside (moves out_of_body))

abbrev pub in_list : StatementTrees → (Here → Seen) → Here → Seen
in_list statements inside =
    in_turn (moves (into_list (labels_of statements))) (in_turn inside (moves out_of_list))

abbrev mutual
  pub see_statement : StatementTree → Here → Seen
  see_statement (LabelledStatement labels kind) = in_turn (see_all declares_label labels) (see_kind kind)

  -- a statement after THEN or ELSE or of a DO CASE, where no label may stand
  pub see_alone : StatementTree → Here → Seen
  see_alone (LabelledStatement labels kind) = see_kind kind

  pub see_kind : StatementKindTree → Here → Seen
  see_kind (NullStatement place) = nothing
  see_kind (AssignmentStatement targets value) =
      uses_of (flat_map names_in_reference targets ++ names_in_expression value)
  see_kind (CallStatement place name arguments) = uses_of (name ∷ names_in_arguments arguments)
  see_kind (ReturnStatement place value) = uses_of (names_in_optional names_in_expression value)
  see_kind (HaltStatement place) = nothing
  see_kind (GotoStatement place label) = jumps_to label
  see_kind (IfStatement place condition body otherwise) =
      in_turn (uses_of (names_in_expression condition)) (in_turn (see_alone body) (see_else otherwise))
  see_kind (DoStatement place declared body) =
      in_block (in_turn (see_declarations declared) (in_list body (see_statements body)))
  see_kind (LoopStatement place head body) =
      in_turn (uses_of (names_in_head head)) (in_list body (see_statements body))
  see_kind (CaseStatement place choice body) = in_turn (uses_of (names_in_expression choice)) (see_cases body)

  pub see_else : ElseTree → Here → Seen
  see_else NoElse = nothing
  see_else (ElseStatement statement) = see_alone statement

  -- the statements of a DO CASE
  pub see_cases : StatementTrees → Here → Seen
  see_cases NoStatements = nothing
  see_cases (MoreStatements first others) = in_turn (see_alone first) (see_cases others)

  -- the statements of a list
  pub see_statements : StatementTrees → Here → Seen
  see_statements NoStatements = nothing
  see_statements (MoreStatements first others) = in_turn (see_statement first) (see_statements others)

  pub see_declaration : DeclarationTree → Here → Seen
  see_declaration (DeclareTree elements) = see_all see_element elements
  see_declaration (ProcedureTree heading declared body end_name) =
      in_turn (declares_procedure heading.name)
      (in_body (in_turn (see_all declares_parameter heading.parameters)
      (in_turn (see_declarations declared) (in_list body (see_statements body)))))

  pub see_declarations : DeclarationTrees → Here → Seen
  see_declarations NoDeclarations = nothing
  see_declarations (MoreDeclarations first others) = in_turn (see_declaration first) (see_declarations others)

-- the declarations and the statements of a block
abbrev pub see_block : DeclarationTrees → StatementTrees → Here → Seen
see_block declared body = in_turn (see_declarations declared) (in_list body (see_statements body))

-- all that a module does with names
abbrev pub events_of : ModuleTree → List Event
events_of tree = (see_block tree.declarations tree.statements at_the_start).events
