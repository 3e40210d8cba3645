-- The code of a module takes at most its code bound, and its data take as many bytes as its storage has. So a
-- module is refused for its size only if that bound exceeds the limit of a segment.
use Rattle.measure_laws.proofs.Prelude.{◌≡◌, ℕ, ◌+◌, ◌≤◌, Some, ap, arith, Code, SEGMENT_LIMIT, ObjectModule, length_of, TypedModule, code_bound, Storage, data_bytes, size_of_items, TreeModule, IsLowered, Written, numbered, TooLong, IsCodeWritten, IsGenerated, contents_items, CodeIsNone, DataAreNone, MayRefuse, IsSound}
use Rattle.measure_laws.proofs.{Bounds.Constants.{variables_fit}, Bounds.Modules.{code_segment_fits, module_fits}, Bounds.Numbering.{numbered_size}}

-- the code as it was written
pub code_is_within_its_bound :
    (typed : TypedModule) (storage : Storage) (tree : TreeModule) (start : ℕ) (written : Written)
    → IsSound typed
    → IsLowered typed storage tree
    → IsCodeWritten tree start written
    → size_of_items written.code.items ≤ code_bound typed
code_is_within_its_bound typed storage tree start written sound lowered is =
    module_fits typed storage tree start written sound lowered is

-- the code segment of an object module
pub segment_is_within_its_bound :
    (typed : TypedModule) (storage : Storage) (tree : TreeModule) (object : ObjectModule)
    → IsSound typed
    → IsLowered typed storage tree
    → IsGenerated tree object
    → length_of object Code ≤ code_bound typed
segment_is_within_its_bound typed storage tree object sound lowered is =
    code_segment_fits typed storage tree object sound lowered is

-- the data as they were written
pub data_are_within_their_bytes :
    (typed : TypedModule) (storage : Storage) (tree : TreeModule) (variables : Written)
    → IsSound typed
    → IsLowered typed storage tree
    → numbered variables (contents_items tree.variables.items) ≡ Some variables.code.items
    → size_of_items variables.code.items ≤ data_bytes typed.objects
data_are_within_their_bytes typed storage tree variables sound lowered is =
    let same = ap (λ given. size_of_items (contents_items given)) lowered.variables in
    omega (
      arith,
      numbered_size variables (contents_items tree.variables.items) variables.code.items is,
      same,
      variables_fit typed tree.homes.items sound.storable,
    )

-- a module is refused for its size only if its code bound exceeds the limit of a segment
pub too_long_is_past_its_bound :
    (typed : TypedModule) (storage : Storage) (tree : TreeModule)
    → IsSound typed
    → data_bytes typed.objects ≤ SEGMENT_LIMIT
    → IsLowered typed storage tree
    → MayRefuse tree TooLong
    → SEGMENT_LIMIT + 1 ≤ code_bound typed
too_long_is_past_its_bound typed storage tree sound few lowered (CodeIsNone start code written none) =
    omega (arith, none, code_is_within_its_bound typed storage tree start code sound lowered written)
too_long_is_past_its_bound typed storage tree sound few lowered
    (DataAreNone start code variables written is grown none) =
    absurd (omega
    (arith, none, few, data_are_within_their_bytes typed storage tree variables sound lowered is))
