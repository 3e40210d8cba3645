-- Where a part of the frame lies, by the subscripts on the stack.
use Rattle.std.specs.Prelude.{◌≡◌, ℕ, ◌+◌, ◌^◌, ◌<◌, Bool, true, false, ◌&&◌, List, Option, Some, None}
use Rattle.stack_code.specs.declared.instruction.FramePart.{FramePart}
use Rattle.stack_code.specs.declared.instruction.FrameSubscript.{FrameSubscript}
use Rattle.stack_code.specs.internal.Machine.{bytes_by, is_inside, top, without_index}

-- the displacement by a subscript, if it is below its dimension
abbrev pub IsDisplacement : FrameSubscript → (index : ℕ) → Option ℕ → Type 0
IsDisplacement subscript index None = is_inside subscript index ≡ false
IsDisplacement subscript index (Some bytes) =
    (is_inside subscript index ≡ true) × (bytes ≡ bytes_by subscript index) × (bytes < 2 ^ 48)

abbrev pub part_is_inside : FramePart → List ℕ → Bool
part_is_inside part values =
    is_inside part.first (top (without_index part.second values)) && is_inside part.second (top values)

abbrev pub part_bytes : FramePart → List ℕ → ℕ
part_bytes part values =
    bytes_by part.first (top (without_index part.second values))
    + part.offset
    + bytes_by part.second (top values)

-- where a part begins in its object, if each of its subscripts is below its dimension
abbrev pub IsPart : FramePart → List ℕ → Option ℕ → Type 0
IsPart part values None = part_is_inside part values ≡ false
IsPart part values (Some bytes) = (part_is_inside part values ≡ true) × (bytes ≡ part_bytes part values)
