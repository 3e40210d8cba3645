-- The checks of headings of procedures and of their parameters.
use Rattle.std.specs.Prelude.{ℕ, not, ◌||◌, List, [], ◌∷◌, take, drop, Option, Some, None, Ok}
use Rattle.std.specs.Map.{lookup}
use Rattle.std.specs.Str.{bytes_eq}
use Rattle.trees.specs.declared.declaration.Linkage.{Linkage}
use Rattle.trees.specs.declared.identifier.Identifier.{Identifier}
use Rattle.trees.specs.declared.identifier.Place.{Place}
use Rattle.trees.specs.Trees.{HeadingTree, StatementTrees, NoStatements, MoreStatements, DeclarationTrees}
use Rattle.names.specs.declared.entity.Entity.{Entity}
use Rattle.names.specs.declared.entity.Entity.TheVariants.{Object}
use Rattle.names.specs.Environment.{Here, into_body, with_procedure, with_parameter, is_declared_again, is_parameter_again}
use Rattle.typing.specs.declared.fault.Cause.TheVariants.{DeclaredTwice, ParameterNotDeclared, MisplacedLinkage, NestedProcedure, ReentrantExternal, ExternalContents, TooManyParameters}
use Rattle.typed_trees.specs.declared.limits.TheConstants.{PARAMETER_LIMIT}
use Rattle.typing.specs.internal.Checks.{Checked, ◌>>=◌, refuse, require}
use Rattle.typing.specs.References.{place_of}
use Rattle.typing.specs.Blocks.{Block, Progress, is_external_linkage, place_of_linkage, is_reentrant, is_external, is_module_level}
use Rattle.typing.specs.Statements.{place_of_statement}
use Rattle.typing.specs.Procedures.{parameter_types, with_heading}

-- The parameters of a heading differ from each other, and there are not too many.
abbrev pub declare_parameters : List Identifier → Here → Checked Here
declare_parameters [] here = Ok here
declare_parameters (parameter ∷ others) here = do
  _ ← require (not (is_parameter_again here parameter.name)) DeclaredTwice (place_of parameter)
  declare_parameters others (with_parameter parameter.name here)

abbrev pub no_more_parameters : List Identifier → Checked (Unit {0})
no_more_parameters [] = Ok tt
no_more_parameters (parameter ∷ others) = refuse TooManyParameters (place_of parameter)

-- PUBLIC and EXTERNAL stand at the level of the module
abbrev pub check_visibility : Block → Option Linkage → Checked (Unit {0})
check_visibility block None = Ok tt
check_visibility block (Some linkage) =
    require (is_module_level block) MisplacedLinkage (place_of_linkage linkage)

-- REENTRANT does not go with EXTERNAL
abbrev pub check_reentrant : Option Linkage → Option Place → Checked (Unit {0})
check_reentrant linkage None = Ok tt
check_reentrant linkage (Some place) =
    require (not (is_external_linkage linkage)) ReentrantExternal place

abbrev pub open_procedure : Block → HeadingTree → DeclarationTrees → Progress → Checked Progress
open_procedure block heading declared progress = do
  _ ← require (not (is_declared_again progress.known.here heading.name.name)) DeclaredTwice
      (place_of heading.name)
  _ ← require (not (is_reentrant block.owner || is_external block.owner)) NestedProcedure
      (place_of heading.name)
  here ← declare_parameters (take PARAMETER_LIMIT heading.parameters)
      (into_body (with_procedure heading.name.name progress.known.here))
  _ ← no_more_parameters (drop PARAMETER_LIMIT heading.parameters)
  _ ← check_visibility block heading.linkage
  _ ← check_reentrant heading.linkage heading.reentrant
  Ok (with_heading heading (parameter_types declared heading.parameters) here progress)

-- the objects of the parameters, each declared by the procedure's own block
abbrev pub parameter_object : Identifier → Option Entity → Checked ℕ
parameter_object parameter (Some (Object number)) = Ok number
parameter_object parameter entity = refuse ParameterNotDeclared (place_of parameter)

abbrev pub parameter_objects : Here → List Identifier → Checked (List ℕ)
parameter_objects here [] = Ok []
parameter_objects here (parameter ∷ others) = do
  object ← parameter_object parameter (lookup (bytes_eq parameter.name) here.body.block)
  rest ← parameter_objects here others
  Ok (object ∷ rest)

-- an EXTERNAL procedure has no statements here
abbrev pub check_body : HeadingTree → StatementTrees → Checked (Unit {0})
check_body heading NoStatements = Ok tt
check_body heading (MoreStatements first others) =
    require (not (is_external_linkage heading.linkage)) ExternalContents (place_of_statement first)
