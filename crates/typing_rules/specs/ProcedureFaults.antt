-- Which faults the headings of procedures have, their parameters and their bodies: a rule for each cause.
use Rattle.std.specs.Prelude.{◌≡◌, ℕ, ◌||◌, false, true, List, [], ◌∷◌, take, drop, Some}
use Rattle.std.specs.Map.{lookup}
use Rattle.std.specs.Str.{bytes_eq}
use Rattle.trees.specs.declared.declaration.Linkage.{Linkage}
use Rattle.trees.specs.declared.identifier.Identifier.{Identifier}
use Rattle.trees.specs.declared.identifier.Place.{Place}
use Rattle.trees.specs.Trees.{HeadingTree, StatementTree, StatementTrees, MoreStatements}
use Rattle.names.specs.declared.entity.Entity.TheVariants.{Object}
use Rattle.names.specs.Environment.{Here, into_body, with_procedure, with_parameter, is_declared_again, is_parameter_again}
use Rattle.typed_trees.specs.declared.limits.TheConstants.{PARAMETER_LIMIT}
use Rattle.typing.specs.declared.fault.Cause.TheVariants.{DeclaredTwice, ParameterNotDeclared, MisplacedLinkage, NestedProcedure, ReentrantExternal, ExternalContents, TooManyParameters}
use Rattle.typing.specs.declared.fault.Fault.{Fault}
use Rattle.typing.specs.Blocks.{Block, Progress, is_external_linkage, place_of_linkage, is_reentrant, is_external, is_module_level}
use Rattle.typing.specs.Statements.{place_of_statement}
use Rattle.typing_rules.specs.Names.{at_name}
use Rattle.typing_rules.specs.Procedures.{AreNewParameters, LinkageStands}

-- C12: a parameter that stands twice in its heading
pub data ParametersFault : Here → List Identifier → Fault → Type 0 where
  parameter_again : {here : Here} {parameter : Identifier} {others : List Identifier}
      → is_parameter_again here parameter.name ≡ true
      → ParametersFault here (parameter ∷ others) (at_name DeclaredTwice parameter)
  in_other_parameters : {here : Here} {parameter : Identifier} {others : List Identifier} {fault : Fault}
      → is_parameter_again here parameter.name ≡ false
      → ParametersFault (with_parameter parameter.name here) others fault
      → ParametersFault here (parameter ∷ others) fault

pub data HeadingFault : Block → HeadingTree → Progress → Fault → Type 0 where
  -- C12
  procedure_again : {block : Block} {heading : HeadingTree} {progress : Progress}
      → is_declared_again progress.known.here heading.name.name ≡ true
      → HeadingFault block heading progress (at_name DeclaredTwice heading.name)
  -- C14: a procedure in a REENTRANT or an EXTERNAL one
  nested : {block : Block} {heading : HeadingTree} {progress : Progress}
      → is_declared_again progress.known.here heading.name.name ≡ false
      → (is_reentrant block.owner || is_external block.owner) ≡ true
      → HeadingFault block heading progress (at_name NestedProcedure heading.name)
  in_heading_parameters : {block : Block} {heading : HeadingTree} {progress : Progress} {fault : Fault}
      → is_declared_again progress.known.here heading.name.name ≡ false
      → (is_reentrant block.owner || is_external block.owner) ≡ false
      → ParametersFault (into_body (with_procedure heading.name.name progress.known.here))
      (take PARAMETER_LIMIT heading.parameters) fault
      → HeadingFault block heading progress fault
  -- C15: the 17th parameter
  too_many_parameters : {block : Block} {heading : HeadingTree} {progress : Progress} {here : Here}
      {parameter : Identifier} {others : List Identifier}
      → is_declared_again progress.known.here heading.name.name ≡ false
      → (is_reentrant block.owner || is_external block.owner) ≡ false
      → AreNewParameters (into_body (with_procedure heading.name.name progress.known.here))
      (take PARAMETER_LIMIT heading.parameters) here
      → drop PARAMETER_LIMIT heading.parameters ≡ parameter ∷ others
      → HeadingFault block heading progress (at_name TooManyParameters parameter)
  -- C14: PUBLIC or EXTERNAL below the level of the module
  misplaced_linkage : {block : Block} {heading : HeadingTree} {progress : Progress} {here : Here}
      {linkage : Linkage}
      → is_declared_again progress.known.here heading.name.name ≡ false
      → (is_reentrant block.owner || is_external block.owner) ≡ false
      → AreNewParameters (into_body (with_procedure heading.name.name progress.known.here))
      (take PARAMETER_LIMIT heading.parameters) here
      → drop PARAMETER_LIMIT heading.parameters ≡ []
      → heading.linkage ≡ Some linkage
      → is_module_level block ≡ false
      → HeadingFault block heading progress (record { cause = MisplacedLinkage; place = place_of_linkage linkage })
  -- C14: REENTRANT with EXTERNAL
  reentrant_external : {block : Block} {heading : HeadingTree} {progress : Progress} {here : Here}
      {place : Place}
      → is_declared_again progress.known.here heading.name.name ≡ false
      → (is_reentrant block.owner || is_external block.owner) ≡ false
      → AreNewParameters (into_body (with_procedure heading.name.name progress.known.here))
      (take PARAMETER_LIMIT heading.parameters) here
      → drop PARAMETER_LIMIT heading.parameters ≡ []
      → LinkageStands block heading.linkage
      → heading.reentrant ≡ Some place
      → is_external_linkage heading.linkage ≡ true
      → HeadingFault block heading progress (record { cause = ReentrantExternal; place = place })

-- C13: a parameter that its procedure does not declare as an object
pub data ParameterFault (here : Here) : List Identifier → Fault → Type 0 where
  not_declared : {parameter : Identifier} {others : List Identifier}
      → ((number : ℕ) → ¬ (lookup (bytes_eq parameter.name) here.body.block ≡ Some (Object number)))
      → ParameterFault here (parameter ∷ others) (at_name ParameterNotDeclared parameter)
  later_parameter : {parameter : Identifier} {others : List Identifier} {number : ℕ} {fault : Fault}
      → lookup (bytes_eq parameter.name) here.body.block ≡ Some (Object number)
      → ParameterFault here others fault
      → ParameterFault here (parameter ∷ others) fault

-- C14: a statement in an EXTERNAL procedure
pub data BodyFault (heading : HeadingTree) : StatementTrees → Fault → Type 0 where
  external_body : {first : StatementTree} {others : StatementTrees}
      → is_external_linkage heading.linkage ≡ true
      → BodyFault heading (MoreStatements first others)
      (record { cause = ExternalContents; place = place_of_statement first })
