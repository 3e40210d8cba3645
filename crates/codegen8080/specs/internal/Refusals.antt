-- The reasons for which a module has no object module.
use Rattle.std.specs.Prelude.{◌≡◌, ◌≤◌, ◌+◌, ℕ, Some}
use Rattle.object_modules.specs.declared.segment.TheConstants.{SEGMENT_LIMIT}
use Rattle.asm8080.specs.Items.{size_of_items}
use Rattle.treecode.specs.declared.module.TreeModule.{TreeModule}
use Rattle.steps8080.specs.internal.Externals.{Extends}
use Rattle.steps8080.specs.internal.Writer.{Written, numbered}
use Rattle.codegen8080.specs.declared.fault.Fault.{Fault}
use Rattle.codegen8080.specs.declared.fault.Fault.TheVariants.{TooLong}
use Rattle.codegen8080.specs.internal.Modules.{IsCodeWritten, contents_items}

-- items are not a segment, because they take more bytes than a segment may have
abbrev pub IsNoSegment : Fault → Written → Type 0
IsNoSegment TooLong written = SEGMENT_LIMIT + 1 ≤ size_of_items written.code.items

-- A module is refused only if its code, or its data after it, are not a segment.
pub data MayRefuse (tree : TreeModule) (fault : Fault) : Type 0 where
  CodeIsNone : (start : ℕ) (code : Written)
      → IsCodeWritten tree start code
      → IsNoSegment fault code
      → MayRefuse tree fault
  DataAreNone : (start : ℕ) (code variables : Written)
      → IsCodeWritten tree start code
      → numbered variables (contents_items tree.variables.items) ≡ Some variables.code.items
      → Extends code.externals variables.externals
      → IsNoSegment fault variables
      → MayRefuse tree fault
