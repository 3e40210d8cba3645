-- The module that tree code is lowered from.
use Rattle.layout.specs.Storage.{Storage}
use Rattle.typed_trees.specs.Globals.{ListsGlobals}
use Rattle.typed_trees.specs.Jumps.{JumpsAreSound}
use Rattle.typed_trees.specs.TypedTrees.{TypedModule}
use Rattle.treecode.specs.declared.module.TreeModule.{TreeModule}
use Rattle.treecode.specs.internal.Lowered.{IsLowered}
use Rattle.codegen8080.specs.internal.ItemLabels.{PlacesLabels}

-- Tree code of a module with sound jumps, so that each label of the source stands once, and with all its globals
-- listed, so that each EXTERNAL procedure has a name. Each label that code goes to has its place.
pub record IsOfModule (tree : TreeModule) : Type 0 where
  pub typed : TypedModule
  pub storage : Storage
  pub jumps : JumpsAreSound typed
  pub globals : ListsGlobals typed
  pub lowered : IsLowered typed storage tree
  pub placed : PlacesLabels tree
