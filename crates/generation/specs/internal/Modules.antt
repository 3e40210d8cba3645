-- The modules that tree code is, of which code generation keeps what it promises.
use Rattle.std.specs.Prelude.{◌≡◌, ◌≤◌, Ok}
use Rattle.object_modules.specs.declared.segment.Segment.TheVariants.{Code}
use Rattle.object_modules.specs.Module.{ObjectModule, length_of}
use Rattle.typed_trees.specs.TypedTrees.{TypedModule}
use Rattle.typed_trees.specs.Weight.{code_bound}
use Rattle.layout.specs.Storage.{Storage, storage_of}
use Rattle.layout.specs.Sound.{IsSoundlyTyped}
use Rattle.treecode.specs.declared.module.TreeModule.{TreeModule}
use Rattle.treecode.specs.internal.Lowered.{IsLowered}
use Rattle.codegen8080.specs.declared.fault.Fault.{Fault}
use Rattle.measure_laws.specs.internal.Bounds.{bound_of_tree}
use Rattle.generation.specs.internal.CodeItems.{BodiesPushWithinCharges, HasItems}
use Rattle.generation.specs.internal.Measured.{IsNotMade}

-- tree code of a module that is soundly typed, with the storage that `layout` gives it
pub record IsSoundTreeCode (typed : TypedModule) (tree : TreeModule) : Type 0 where
  pub sound : IsSoundlyTyped typed
  pub storage : Storage
  pub laid_out : storage_of typed ≡ Ok storage
  pub lowered : IsLowered typed storage tree

-- this holds of an object module, and of each module that the tree code is
unfoldable pub OfItsModule : TreeModule → (TypedModule → ObjectModule → Type 0) → ObjectModule → Type 0
OfItsModule tree Holds object = (typed : TypedModule) → IsSoundTreeCode typed tree → Holds typed object

-- no object module is made of any module that the tree code is, for this fault
abbrev pub MakesNone : TreeModule → Fault → Type 0
MakesNone tree fault = (typed : TypedModule) → IsSoundTreeCode typed tree → IsNotMade fault typed

-- What is counted of an object module: its code segment takes no more bytes than the code bound that is counted on the nodes
-- of the tree code, which is that of the module; it has items that were written for the tree code, and by any such items its
-- bodies push no more than the charges of the module leave.
pub record IsCounted (tree : TreeModule) (typed : TypedModule) (object : ObjectModule) : Type 0 where
  pub size : length_of object Code ≤ bound_of_tree tree
  pub bound : bound_of_tree tree ≡ code_bound typed
  pub items : HasItems tree object
  pub pushes : (written : HasItems tree object) → BodiesPushWithinCharges tree typed object written
