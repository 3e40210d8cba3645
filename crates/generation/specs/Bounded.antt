-- How long the code segment of an object module is, and when a module is refused for a length.
use Rattle.std.specs.Prelude.{◌+◌, ◌≤◌}
use Rattle.object_modules.specs.declared.segment.Segment.TheVariants.{Code}
use Rattle.object_modules.specs.declared.segment.TheConstants.{SEGMENT_LIMIT}
use Rattle.object_modules.specs.Module.{ObjectModule, length_of}
use Rattle.typed_trees.specs.TypedTrees.{TypedModule}
use Rattle.typed_trees.specs.Weight.{code_bound, constant_bytes}
use Rattle.codegen8080.specs.declared.fault.Fault.{Fault}
use Rattle.codegen8080.specs.declared.fault.Fault.TheVariants.{TooLong}

-- the code segment of an object module has at least the constants of its module, and is within its code bound
abbrev pub KeepsBound : TypedModule → ObjectModule → Type 0
KeepsBound typed object =
    (constant_bytes typed ≤ length_of object Code) × (length_of object Code ≤ code_bound typed)

-- a refusal for a length comes only where that bound passes what a segment may have
abbrev pub PassesBound : Fault → TypedModule → Type 0
PassesBound TooLong typed = SEGMENT_LIMIT + 1 ≤ code_bound typed
