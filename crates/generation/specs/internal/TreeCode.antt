-- What tree code of a module keeps of the module: its charges, its code bound, and what its code does.
use Rattle.std.specs.Prelude.{◌≡◌, ℕ, [], ◌∷◌, None, Ok, Some, slice_get}
use Rattle.object_modules.specs.Module.{IsObjectModule, ObjectModule}
use Rattle.typed_trees.specs.Storable.{IsStorable}
use Rattle.typed_trees.specs.TypedTrees.{TypedModule, TypedProcedure}
use Rattle.typed_trees.specs.Weight.{code_bound}
use Rattle.layout.specs.Joined.{first_repeated, globals_of}
use Rattle.layout.specs.Sound.{IsSoundlyTyped}
use Rattle.layout.specs.Storage.{Storage, storage_of}
use Rattle.treecode.specs.declared.module.TreeModule.{TreeModule}
use Rattle.treecode.specs.declared.procedure.TreeProcedure.{TreeProcedure}
use Rattle.frames.specs.internal.Charges.{IsChargedAs}
use Rattle.codegen8080.specs.internal.Modules.{IsGenerated}
use Rattle.codegen8080.specs.internal.Names.{IsLinkable}
use Rattle.program_laws.specs.OneModule.{DoesWhereItLies}
use Rattle.measure_laws.specs.internal.Bounds.{bound_of_tree}

-- Tree code of a module is charged as the module, procedure by procedure. Its code bound, which is counted on its nodes,
-- is that of the module. And its outcomes and events are those of the module, as code shows them: each object module that
-- is generated of it does on the machine what the module says, wherever it lies.
pub record KeepsItsModule (typed : TypedModule) (tree : TreeModule) : Type 0 where
  pub procedures :
      (number : ℕ) (procedure : TreeProcedure) (heading : TypedProcedure)
      → slice_get tree.procedures.items number ≡ Some procedure
      → slice_get typed.procedures number ≡ Some heading
      → IsChargedAs procedure heading
  pub main : IsChargedAs tree.main typed.main
  pub bound : bound_of_tree tree ≡ code_bound typed
  pub does :
      (object : ObjectModule)
      → IsGenerated tree object
      → IsObjectModule object
      → DoesWhereItLies typed object

-- so it is of a module that is soundly typed, with the storage that `layout` gives it
unfoldable pub KeepsModule : TypedModule → Storage → TreeModule → Type 0
KeepsModule typed storage tree =
    IsSoundlyTyped typed → storage_of typed ≡ Ok storage → KeepsItsModule typed tree

-- The names of tree code of a module can be listed in an object module, if no two of the PUBLIC and EXTERNAL names of the
-- module are the same and its objects have places.
unfoldable pub KeepsNames : TypedModule → TreeModule → Type 0
KeepsNames typed tree =
    first_repeated [] (globals_of (typed ∷ [])) ≡ None → IsStorable typed → IsLinkable tree
