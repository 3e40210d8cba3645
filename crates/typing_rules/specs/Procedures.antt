-- When the headings of procedures are well typed, and their parameters (PL/M-80 Programming Manual, "Procedures").
use Rattle.std.specs.Prelude.{◌≡◌, ℕ, ◌||◌, false, true, List, [], ◌∷◌, take, drop, Option, Some, None}
use Rattle.std.specs.Map.{lookup}
use Rattle.std.specs.Str.{bytes_eq}
use Rattle.trees.specs.declared.declaration.Linkage.{Linkage}
use Rattle.trees.specs.declared.identifier.Identifier.{Identifier}
use Rattle.trees.specs.declared.identifier.Place.{Place}
use Rattle.trees.specs.Trees.{HeadingTree, StatementTree, StatementTrees, NoStatements, MoreStatements, DeclarationTrees}
use Rattle.names.specs.declared.entity.Entity.TheVariants.{Object}
use Rattle.names.specs.Environment.{Here, into_body, with_procedure, with_parameter, is_declared_again, is_parameter_again}
use Rattle.typed_trees.specs.declared.limits.TheConstants.{PARAMETER_LIMIT}
use Rattle.typing.specs.Blocks.{Block, Progress, is_external_linkage, is_reentrant, is_external, is_module_level}
use Rattle.typing.specs.Procedures.{parameter_types, with_heading}

-- the parameters of a heading, which differ from each other
pub data AreNewParameters : Here → List Identifier → Here → Type 0 where
  no_parameters : {here : Here} → AreNewParameters here [] here
  next_parameter : {here after : Here} {parameter : Identifier} {others : List Identifier}
      → is_parameter_again here parameter.name ≡ false
      → AreNewParameters (with_parameter parameter.name here) others after
      → AreNewParameters here (parameter ∷ others) after

-- PUBLIC and EXTERNAL stand at the level of the module
pub data LinkageStands (block : Block) : Option Linkage → Type 0 where
  no_linkage : LinkageStands block None
  at_module_level : {linkage : Linkage} → is_module_level block ≡ true → LinkageStands block (Some linkage)

-- REENTRANT does not go with EXTERNAL
pub data ReentrantStands (linkage : Option Linkage) : Option Place → Type 0 where
  not_reentrant : ReentrantStands linkage None
  not_external : {place : Place} → is_external_linkage linkage ≡ false → ReentrantStands linkage (Some place)

-- A heading, up to where its body begins. The name is new in its block, and no label of its body so far; no procedure stands
-- in a REENTRANT or an EXTERNAL one; and there are at most 16 parameters.
pub data HeadingTyping : Block → HeadingTree → DeclarationTrees → Progress → Progress → Type 0 where
  heading_stands : {block : Block} {heading : HeadingTree} {declared : DeclarationTrees} {progress : Progress}
      {here : Here}
      → is_declared_again progress.known.here heading.name.name ≡ false
      → (is_reentrant block.owner || is_external block.owner) ≡ false
      → AreNewParameters (into_body (with_procedure heading.name.name progress.known.here))
      (take PARAMETER_LIMIT heading.parameters) here
      → drop PARAMETER_LIMIT heading.parameters ≡ []
      → LinkageStands block heading.linkage
      → ReentrantStands heading.linkage heading.reentrant
      → HeadingTyping block heading declared progress
      (with_heading heading (parameter_types declared heading.parameters) here progress)

-- the objects of the parameters, each declared by the procedure's own block
pub data AreParameters (here : Here) : List Identifier → List ℕ → Type 0 where
  none_declared : AreParameters here [] []
  next_declared : {parameter : Identifier} {others : List Identifier} {number : ℕ} {numbers : List ℕ}
      → lookup (bytes_eq parameter.name) here.body.block ≡ Some (Object number)
      → AreParameters here others numbers
      → AreParameters here (parameter ∷ others) (number ∷ numbers)

-- an EXTERNAL procedure has no statement here
pub data BodyStands (heading : HeadingTree) : StatementTrees → Type 0 where
  no_body : BodyStands heading NoStatements
  own_body : {first : StatementTree} {others : StatementTrees}
      → is_external_linkage heading.linkage ≡ false
      → BodyStands heading (MoreStatements first others)
