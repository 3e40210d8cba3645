-- Refusals by the answers of tests, in their order.
use Rattle.std.specs.Prelude.{Bool, if◌then◌else◌, Option, Some, None}
use Rattle.object_modules.specs.Image.{PlacementRefusal, ExternalLeft, NoStart, PassesMemory, SegmentsMeet, PageBroken, HighByteBroken}

abbrev pub refusal_by : (external no_start passes meets page high : Bool) → Option PlacementRefusal
refusal_by external no_start passes meets page high =
    if external then Some ExternalLeft
    else if no_start then Some NoStart
    else if passes then Some PassesMemory
    else if meets then Some SegmentsMeet
    else if page then Some PageBroken
    else if high then Some HighByteBroken
    else None
