-- Parts of the definitions of statements and procedures, by the functions that go through them.
use Rattle.std.specs.Prelude.{ℕ, Bool, true, ◌||◌, take, drop, not, ◌&&◌, List, map, is_none, Ok}
use Rattle.trees.specs.declared.declaration.ScalarType.{ScalarType}
use Rattle.trees.specs.declared.identifier.Identifier.{Identifier}
use Rattle.trees.specs.declared.statement.Procedure.{Procedure, out-Procedure}
use Rattle.trees.specs.Trees.{ArgumentTrees, HeadingTree, StatementTree, StatementTrees, DeclarationTrees}
use Rattle.trees.specs.internal.Views.{heading_tree, block_declarations, block_statements}
use Rattle.names.specs.Environment.{Here, is_among, into_body, with_procedure, is_declared_again, into_list, out_of_list, with_label, with_parameter, is_label_again, is_parameter_again}
use Rattle.names.specs.DeclaredNames.{labels_of}
use Rattle.typed_trees.specs.declared.limits.TheConstants.{PARAMETER_LIMIT}
use Rattle.typed_trees.specs.TypedTrees.{TypedTarget, TypedStatement, TypedList, TypedObject}
use Rattle.typed_trees.specs.Views.{list_view}
use Rattle.typing.specs.declared.fault.Cause.TheVariants.{DeclaredTwice, NoCounter, NestedProcedure}
use Rattle.types.specs.declared.statements.Counter.{Counter as CodeCounter}
use Rattle.types.specs.declared.procedures.Inside.{Inside}
use Rattle.typing.specs.internal.Checks.{Checked, ◌>>=◌, require, found}
use Rattle.typing.specs.Nodes.{Destination, target_of}
use Rattle.typing.specs.References.{Known, place_of, scalar_of}
use Rattle.typing.specs.internal.ReferenceChecks.{Given, is_writable}
use Rattle.typing.specs.internal.Expressions.{arguments}
use Rattle.typing.specs.Items.{is_not_based}
use Rattle.typing.specs.Blocks.{OfProcedure, Block, Progress, is_reentrant, is_external}
use Rattle.typing.specs.Statements.{with_here, labels_before}
use Rattle.typing.specs.internal.StatementChecks.{call, Counter, declare_labels, list_of}
use Rattle.typing.specs.internal.ProcedureChecks.{declare_parameters, no_more_parameters, check_visibility, check_reentrant, parameter_objects, check_body}
use Rattle.typing.specs.Procedures.{close_procedure}
use Rattle.typing.specs.internal.Typing.{labelled, statements, declarations}
use Rattle.typing.specs.Modules.{module_block}

-- arguments as they stand in the text, where that is known
abbrev pub given_in : Known → ArgumentTrees → Given
given_in known trees = record { trees = trees; typed = arguments known trees }

abbrev pub given : Progress → ArgumentTrees → Given
given progress trees = record { trees = trees; typed = arguments progress.known trees }

abbrev pub call_statement : Identifier → ArgumentTrees → Progress → Checked (TypedStatement × Progress)
call_statement name trees progress = call name (given progress trees) progress

-- the targets of an assignment of a value of a type
abbrev pub targets_for : List Destination → ScalarType → List TypedTarget
targets_for places from = map (λ (place : Destination). target_of place from) places

-- the type of the variable of an iterative DO
abbrev pub counter_type : TypedObject → Identifier → Checked ScalarType
counter_type object name = do
  _ ← is_writable object name
  _ ← require (is_none object.dimension && is_not_based object.home) NoCounter (place_of name)
  found (scalar_of object.object_type) NoCounter (place_of name)

abbrev pub counter_view : CodeCounter → Counter
counter_view counter = record { object = counter.object; scalar = counter.scalar }

-- one label of a body, one parameter of a heading
abbrev pub label_declared : Identifier → Here → Checked Here
label_declared label here = do
  _ ← require (not (is_label_again here label.name)) DeclaredTwice (place_of label)
  Ok (with_label label.name here)

abbrev pub parameter_declared : Identifier → Here → Checked Here
parameter_declared parameter here = do
  _ ← require (not (is_parameter_again here parameter.name)) DeclaredTwice (place_of parameter)
  Ok (with_parameter parameter.name here)

-- into a list of statements, and out of it
abbrev pub listing : StatementTrees → Progress → Progress
listing trees progress = with_here (into_list (labels_of trees) progress.known.here) progress

abbrev pub list_left : Progress → Progress
list_left progress = with_here (out_of_list progress.known.here) progress

-- a statement of a list, its labels among the names of its body
abbrev pub statement_with_labels : Block → StatementTree → Progress → Checked (TypedStatement × Progress)
statement_with_labels block tree progress = do
  here ← declare_labels (labels_before tree) progress.known.here
  labelled block tree (with_here here progress)

-- the end of a procedure: always given
abbrev pub procedure_closed :
    HeadingTree → DeclarationTrees → (number : ℕ) → (parameters : List ℕ) → TypedList → Progress
    → Checked Progress
procedure_closed heading declared number parameters body progress =
    Ok (close_procedure heading declared number parameters body progress)

-- the inside of a procedure, by its number: the objects of its parameters, and its statements
abbrev pub inside_of :
    Block → HeadingTree → DeclarationTrees → StatementTrees → Progress
    → Checked ((List ℕ × TypedList) × Progress)
inside_of block heading declared body progress = do
  within ← declarations block declared progress
  parameters ← parameter_objects within.known.here heading.parameters
  _ ← check_body heading body
  typed ← list_of body (λ label. statements block body label) within
  Ok ((parameters, typed.0), typed.1)

abbrev pub procedure_inside : ℕ → Procedure → Progress → Checked ((List ℕ × TypedList) × Progress)
procedure_inside number procedure =
    inside_of
    (record { owner = OfProcedure number (heading_tree (out-Procedure procedure).heading); is_own = true })
    (heading_tree (out-Procedure procedure).heading)
    (block_declarations (out-Procedure procedure).body)
    (block_statements (out-Procedure procedure).body)

abbrev pub inside_view : Inside → List ℕ × TypedList
inside_view inside = (inside.parameters.items, list_view inside.body)

-- the declarations and the statements of a module
abbrev pub module_body : DeclarationTrees → StatementTrees → Progress → Checked (TypedList × Progress)
module_body declared body progress = do
  within ← declarations module_block declared progress
  list_of body (λ label. statements module_block body label) within

-- whether a name is one of some
abbrev pub names_among : List Identifier → List ℕ → Bool
names_among declared name = is_among (map (λ (one : Identifier). one.name) declared) name

-- the name of a procedure
abbrev pub procedure_declared : Identifier → Here → Checked Here
procedure_declared name here = do
  _ ← require (not (is_declared_again here name.name)) DeclaredTwice (place_of name)
  Ok (with_procedure name.name here)

-- a heading, up to what names stand for where the body of its procedure begins
abbrev pub heading_opened : Block → HeadingTree → Here → Checked Here
heading_opened block heading before = do
  _ ← require (not (is_declared_again before heading.name.name)) DeclaredTwice (place_of heading.name)
  _ ← require (not (is_reentrant block.owner || is_external block.owner)) NestedProcedure
      (place_of heading.name)
  here ← declare_parameters (take PARAMETER_LIMIT heading.parameters)
      (into_body (with_procedure heading.name.name before))
  _ ← no_more_parameters (drop PARAMETER_LIMIT heading.parameters)
  _ ← check_visibility block heading.linkage
  _ ← check_reentrant heading.linkage heading.reentrant
  Ok here

-- the parameters of a heading, at the start of the body, and the checks of its attributes
abbrev pub parameters_opened : Block → HeadingTree → Here → Checked Here
parameters_opened block heading before = do
  here ← declare_parameters (take PARAMETER_LIMIT heading.parameters) (into_body before)
  _ ← no_more_parameters (drop PARAMETER_LIMIT heading.parameters)
  _ ← check_visibility block heading.linkage
  _ ← check_reentrant heading.linkage heading.reentrant
  Ok here

-- The end of `Walking`.
