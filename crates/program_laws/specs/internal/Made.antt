-- Object modules that are made of modules: each of tree code that is its module.
use Rattle.std.specs.Prelude.{List, [], ◌∷◌}
use Rattle.object_modules.specs.Module.{IsObjectModule, ObjectModule}
use Rattle.typed_trees.specs.TypedTrees.{TypedModule}
use Rattle.layout.specs.Storage.{Storage}
use Rattle.treecode.specs.declared.module.TreeModule.{TreeModule}
use Rattle.treecode.specs.internal.Lowered.{IsLowered}
use Rattle.procedure_laws.specs.internal.GeneratedModules.{IsGenerated}
use Rattle.treecode_laws.specs.internal.Laid.{IsLaidOut}

-- An object module is made of a module, with its storage, by tree code that is this module. It is valid.
pub record IsMadeOf (typed : TypedModule) (object : ObjectModule) : Type 0 where
  pub storage : Storage
  pub tree : TreeModule
  pub laid : IsLaidOut typed storage
  pub lowered : IsLowered typed storage tree
  pub generated : IsGenerated tree object
  pub valid : IsObjectModule object

-- one for each module, in their order
abbrev pub AreMadeOf : List TypedModule → List ObjectModule → Type 0
AreMadeOf [] [] = Unit {0}
AreMadeOf (typed ∷ others) (object ∷ objects) = IsMadeOf typed object × AreMadeOf others objects
AreMadeOf modules objects = ⊥
