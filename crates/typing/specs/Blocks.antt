-- Where declarations and statements stand, and how far the typing of a text has come (PL/M-80 Programming
-- Manual, "Block structure and scope").
use Rattle.std.specs.Prelude.{ℕ, Bool, true, false, ◌&&◌, List, [], ◌∷◌, ◌++◌, map, Option, Some, None, is_some}
use Rattle.trees.specs.declared.declaration.Linkage.{Linkage}
use Rattle.trees.specs.declared.declaration.Linkage.TheVariants.{Public, External}
use Rattle.trees.specs.declared.identifier.Identifier.{Identifier}
use Rattle.trees.specs.declared.identifier.Place.{Place}
use Rattle.trees.specs.Trees.{HeadingTree}
use Rattle.names.specs.Environment.{is_among}
use Rattle.typed_trees.specs.declared.parts.GlobalItem.{GlobalItem}
use Rattle.typed_trees.specs.TypedTrees.{Constants}
use Rattle.typing.specs.References.{Known}

-- the owner of a block: the module, or a procedure, by its number and its heading
pub data Owner : Type 0 where
  TheModule : Owner
  OfProcedure : (number : ℕ) → HeadingTree → Owner

-- a block: the one of its owner itself, or a simple DO in that
pub record Block : Type 0 where
  pub owner : Owner
  pub is_own : Bool

-- How far a text is typed: what is known, the constants and the globals so far, and the bytes so far of the
-- variables of the REENTRANT procedure that the place is in.
pub record Progress : Type 0 where
  pub known : Known
  pub constants : Constants
  pub globals : List GlobalItem
  pub frame : ℕ

abbrev pub is_public_linkage : Option Linkage → Bool
is_public_linkage (Some (Public place)) = true
is_public_linkage linkage = false

abbrev pub is_external_linkage : Option Linkage → Bool
is_external_linkage (Some (External place)) = true
is_external_linkage linkage = false

-- one more global, if there is a linkage
abbrev pub with_global : Option Linkage → GlobalItem → List GlobalItem → List GlobalItem
with_global None item globals = globals
with_global (Some linkage) item globals = globals ++ item ∷ []

abbrev pub place_of_linkage : Linkage → Place
place_of_linkage (Public place) = place
place_of_linkage (External place) = place

-- whether the owner of a declaration is a REENTRANT procedure, or an EXTERNAL one
abbrev pub is_reentrant : Owner → Bool
is_reentrant TheModule = false
is_reentrant (OfProcedure number heading) = is_some heading.reentrant

abbrev pub is_external : Owner → Bool
is_external TheModule = false
is_external (OfProcedure number heading) = is_external_linkage heading.linkage

-- whether declarations stand at the level of the module
abbrev pub is_module : Owner → Bool
is_module TheModule = true
is_module (OfProcedure number heading) = false

abbrev pub is_module_level : Block → Bool
is_module_level block = is_module block.owner && block.is_own

-- the names of the parameters of a procedure; a module has none
abbrev pub parameters_of : Owner → List Identifier
parameters_of TheModule = []
parameters_of (OfProcedure number heading) = heading.parameters

-- whether a name that a block declares is one of the parameters of its procedure
abbrev pub declares_parameter : Block → List ℕ → Bool
declares_parameter block name =
    block.is_own
    && is_among (map (λ (parameter : Identifier). parameter.name) (parameters_of block.owner)) name
