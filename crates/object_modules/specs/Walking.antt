-- What remains of a file whose parts are handed out one after another.
use Rattle.std.specs.Prelude.{ℕ, List, map, Option}
use Rattle.std.specs.List.{range_with_len}
use Rattle.object_modules.specs.declared.segment.Alignment.{Alignment}
use Rattle.object_modules.specs.declared.segment.Fix.{Fix}
use Rattle.object_modules.specs.declared.segment.Segment.{Segment}
use Rattle.object_modules.specs.Module.{Places, Public}
use Rattle.object_modules.specs.Spelling.{FixedContent, set_in}

-- What a walk says at any time, and what it has not handed out yet, in the order of the file: external
-- names, publics, contents, and the fixes of the content that it handed out last.
pub record Walking : Type 0 where
  pub name : List ℕ
  pub code_length : ℕ
  pub code_alignment : Alignment
  pub data_length : ℕ
  pub data_alignment : Alignment
  pub stack_length : ℕ
  pub start : Option ℕ
  pub externals : List (List ℕ)
  pub publics : List Public
  pub contents : List FixedContent
  pub fixes : List Fix

-- the places of a segment of a length, as contents set them
abbrev pub places_by : List FixedContent → Segment → Alignment → (size : ℕ) → Places
places_by contents segment alignment size =
    record { alignment = alignment; places = map (set_in contents segment) (range_with_len 0 size) }
