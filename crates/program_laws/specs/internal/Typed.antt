-- What is true of each module of a program as it was typed and lowered.
use Rattle.std.specs.Prelude.{List, [], ◌∷◌}
use Rattle.object_modules.specs.Module.{ObjectModule}
use Rattle.typed_trees.specs.TypedTrees.{TypedModule}
use Rattle.layout.specs.Sound.{IsSoundlyTyped}
use Rattle.treecode.specs.declared.module.TreeModule.{TreeModule}
use Rattle.treecode.specs.internal.Nodes.{NumbersAreWords, nodes_of}
use Rattle.treecode.specs.internal.HomeWords.{HomesAreWords}
use Rattle.program_laws.specs.internal.Made.{IsMadeOf}

-- tree code whose numbers are those of an 8080: words
pub record HasWords (tree : TreeModule) : Type 0 where
  pub numbers : NumbersAreWords (nodes_of tree)
  pub homes : HomesAreWords tree.homes.items

-- an object module is made of a module that is soundly typed, by tree code whose numbers are words
pub record IsSoundlyMade (typed : TypedModule) (object : ObjectModule) : Type 0 where
  pub made : IsMadeOf typed object
  pub facts : IsSoundlyTyped typed
  pub words : HasWords made.tree

-- one for each module, in their order
abbrev pub AreSoundlyMade : List TypedModule → List ObjectModule → Type 0
AreSoundlyMade [] [] = Unit {0}
AreSoundlyMade (typed ∷ others) (object ∷ objects) = IsSoundlyMade typed object × AreSoundlyMade others objects
AreSoundlyMade modules objects = ⊥
