-- How long the code of tree code is, and when it is refused for a length.
use Rattle.std.specs.Prelude.{ℕ, ◌≤◌}
use Rattle.object_modules.specs.declared.segment.Segment.TheVariants.{Code}
use Rattle.object_modules.specs.declared.segment.TheConstants.{SEGMENT_LIMIT}
use Rattle.object_modules.specs.Module.{ObjectModule, length_of}
use Rattle.typed_trees.specs.TypedTrees.{TypedModule}
use Rattle.typed_trees.specs.Weight.{code_bound}
use Rattle.layout.specs.Storage.{Storage, data_bytes, storage_with}
use Rattle.asm8080.specs.Items.{size_of_items}
use Rattle.treecode.specs.declared.module.TreeModule.{TreeModule}
use Rattle.treecode.specs.internal.Lowered.{IsLowered}
use Rattle.steps8080.specs.internal.Writer.{Written}
use Rattle.codegen8080.specs.declared.fault.Fault.{Fault}
use Rattle.codegen8080.specs.internal.Modules.{IsCodeWritten}
use Rattle.codegen8080.specs.internal.Refusals.{MayRefuse}
use Rattle.measure_laws.specs.internal.Sound.{IsSound}
use Rattle.generation.specs.Bounded.{PassesBound}

-- Tree code that was lowered from a module which is typed as `check` promises, and whose data segment has no
-- more bytes than a segment may have.
pub record IsTreeCodeOf (typed : TypedModule) (tree : TreeModule) : Type 0 where
  pub storage : Storage
  pub lowered : IsLowered typed storage tree
  pub sound : IsSound typed
  pub few : data_bytes typed.objects ≤ SEGMENT_LIMIT

-- the code segment of an object module takes no more bytes than the code bound of the module that the tree code is
abbrev pub IsWithinBound : TreeModule → ObjectModule → Type 0
IsWithinBound tree object =
    (typed : TypedModule) → IsTreeCodeOf typed tree → length_of object Code ≤ code_bound typed

-- a refusal for a length comes only where that bound passes what a segment may have
abbrev pub IsPastBound : TreeModule → Fault → Type 0
IsPastBound tree fault = (typed : TypedModule) → IsTreeCodeOf typed tree → PassesBound fault typed

-- No object module is made of a module: its code or its data are no segment, for this fault; its code is within
-- its bound, which passes what a segment may have.
pub record IsNotMade (fault : Fault) (typed : TypedModule) : Type 0 where
  pub tree : TreeModule
  pub lowered : IsLowered typed (storage_with typed) tree
  pub refused : MayRefuse tree fault
  pub bound :
      (start : ℕ) (code : Written)
      → IsCodeWritten tree start code
      → size_of_items code.code.items ≤ code_bound typed
  pub passes : PassesBound fault typed
