-- The entries of a header, read one after another into what they say of the segments.
use Rattle.std.specs.Prelude.{ℕ, ◌+◌, ◌*◌, Bool, ◌&&◌, nat_lt, if◌then◌else◌, List, [], ◌∷◌, Result, Ok, Err}
use Rattle.std.specs.Option.{option_map_or}
use Rattle.object_modules.specs.declared.fault.Fault.{Fault}
use Rattle.object_modules.specs.declared.fault.Fault.TheVariants.{WrongBody, WrongAlignment}
use Rattle.object_modules.specs.declared.segment.Alignment.TheVariants.{Byte}
use Rattle.object_modules.specs.declared.segment.Segment.{Segment}
use Rattle.object_modules.specs.declared.segment.Segment.TheVariants.{Absolute, Code, Data, Stack}
use Rattle.object_modules.specs.Parts.{SegmentEntry, segment_number}
use Rattle.object_modules.specs.Reading.{segment_of}
use Rattle.object_modules.specs.Rules.{is_served}
use Rattle.object_modules.specs.Spelling.{alignment_with}
use Rattle.object_reading.specs.declared.rules.extents.Extents.{Extents}

abbrev pub entry_at : Segment → (length alignment : ℕ) → SegmentEntry
entry_at segment length alignment = record { segment = segment; length = length; alignment = alignment }

-- without an entry
abbrev pub nothing_said : Extents
nothing_said = record {
  code_length = 0;
  code_alignment = Byte;
  data_length = 0;
  data_alignment = Byte;
  stack_length = 0;
}

-- the extents with those of a segment replaced
abbrev pub extents_with : Segment → SegmentEntry → Extents → Extents
extents_with Absolute entry extents = extents
extents_with Code entry extents =
    record extents { code_length = entry.length; code_alignment = alignment_with entry }
extents_with Data entry extents =
    record extents { data_length = entry.length; data_alignment = alignment_with entry }
extents_with Stack entry extents = record extents { stack_length = entry.length }

-- what entries say; in bytes, the first has a greater number than `number`
abbrev pub extents_after : List SegmentEntry → Extents → Extents
extents_after [] extents = extents
extents_after (entry ∷ others) extents = extents_after others (extents_with entry.segment entry extents)

abbrev pub extents_in : (number : ℕ) → Extents → (served : Bool) → (bytes : List ℕ) → Result Extents Fault
extents_in number extents served [] = if served then Ok extents else Err WrongAlignment
extents_in number extents served (first ∷ low ∷ high ∷ alignment ∷ rest) =
    option_map_or
    (λ (segment : Segment).
    if nat_lt number (segment_number segment)
    then extents_in (segment_number segment)
    (extents_with segment (entry_at segment (low + 256 * high) alignment) extents)
    (served && is_served (entry_at segment (low + 256 * high) alignment)) rest
    else Err WrongBody)
    (segment_of first) (Err WrongBody)
extents_in number extents served bytes = Err WrongBody
