-- Code as a segment of an object module.
use Rattle.std.specs.Prelude.{ℕ, ◌&&◌, if◌then◌else◌, IsTrue, nat_lt, List, slice_get, Option, Some, None}
use Rattle.std.specs.List.{list_all}
use Rattle.object_modules.specs.declared.segment.Segment.TheVariants.{Absolute, Code, Data}
use Rattle.object_modules.specs.declared.segment.Target.{Target}
use Rattle.object_modules.specs.declared.segment.Target.TheVariants.{InSegment, External}
use Rattle.object_modules.specs.Module.{is_valid_segment, words_are_whole}
use Rattle.object_modules.specs.Stored.{IsStored, StoredSegment, is_in_a_run, places_stored}
use Rattle.asm8080.specs.Assembled.{Assembled, places_of, segment_of}

-- each fix of code is at bytes that are set, and none begins at the second byte of a word
pub record KeepsFixes (code : Assembled) : Type 0 where
  pub filled : IsTrue (list_all (is_in_a_run Code (segment_of code).runs) code.fixes)
  pub whole : IsTrue (words_are_whole (places_of code))

-- the target of a name by its number, if it is below `count`; else the start of the code
abbrev pub listed_target : (count : ℕ) → Option ℕ → Target
listed_target count None = InSegment Code
listed_target count (Some number) =
    if nat_lt number count && nat_lt number 65536 then External number else InSegment Code

-- a target, with new numbers, below `count`, for EXTERNAL names
abbrev pub retarget : (numbers : List ℕ) → (count : ℕ) → Target → Target
retarget numbers count (External number) = listed_target count (slice_get numbers number)
retarget numbers count (InSegment Absolute) = InSegment Code
retarget numbers count (InSegment segment) = InSegment segment

-- a segment that a module with `count` external names may have, as its code and as its data
pub record IsKept (count : ℕ) (segment : StoredSegment) : Type 0 where
  pub as_code : IsStored Code segment
  pub as_data : IsStored Data segment
  pub valid_code : IsTrue (is_valid_segment count (places_stored Code segment))
  pub valid_data : IsTrue (is_valid_segment count (places_stored Data segment))
