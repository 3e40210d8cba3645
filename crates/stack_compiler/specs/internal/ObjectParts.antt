-- The code of parts of objects, one way of finding them at a time.
use Rattle.std.specs.Prelude.{ℕ, ◌+◌, ◌%◌, Bool, true, false, List, [], ◌∷◌, ◌++◌}
use Rattle.mem80.specs.declared.memory.TheConstants.{MEMORY_SIZE}
use Rattle.trees.specs.declared.declaration.ScalarType.TheVariants.{Address}
use Rattle.typed_trees.specs.TypedTrees.{TypedReference, PartOf, Subscript, NoSubscript}
use Rattle.meaning.specs.Access.{address_of}
use Rattle.stack_code.specs.declared.instruction.Instruction.{Instruction}
use Rattle.stack_code.specs.internal.Code.{Site, Purpose, ToRead, surroundings_at, instruction_after, instruction_of_frame, part_of, part_at, variable_code, summed, added_to_bytes, index_code, scaled_code}

-- the bytes that subscripts stand for
abbrev pub bytes_code : Site → (first second : Subscript) → List Instruction
bytes_code site first second = scaled_code site first ++ (scaled_code site second ++ summed first second)

-- a part of an object in the frame
abbrev pub framed_code : Site → Purpose → TypedReference → List Instruction
framed_code site purpose (PartOf object first member offset second) =
    (index_code site first ++ index_code site second)
    ++ (instruction_of_frame purpose (part_of object offset first second) ∷ [])

-- a part of an object with a base
abbrev pub based_code : Site → Purpose → (base : ℕ) → TypedReference → List Instruction
based_code site purpose base (PartOf object first member offset second) =
    bytes_code site first second
    ++ (variable_code site (ToRead Address) base
    ∷ (added_to_bytes first second ++ (instruction_after purpose (offset % MEMORY_SIZE) ∷ [])))

-- a part of an object at an address
abbrev pub placed_code : Site → Purpose → TypedReference → List Instruction
placed_code site purpose (PartOf object first member offset second) =
    part_at purpose ((address_of (surroundings_at site) object + offset) % MEMORY_SIZE) first second
    (bytes_code site first second)

abbrev pub lacks_subscripts : (first second : Subscript) → Bool
lacks_subscripts NoSubscript NoSubscript = true
lacks_subscripts first second = false
