-- Frames whose bytes lie one after another.
use Rattle.std.specs.Prelude.{◌≡◌, ℕ, ◌+◌, ◌<◌, List, [], ◌∷◌, ◌++◌, length, reverse, take, drop, Option, None}
use Rattle.std.specs.Option.{option_to_list}
use Rattle.declared.specs.declared.frames.OpenFrame.{OpenFrame}
use Rattle.declared.specs.internal.Frames.{sizes_in}
use Rattle.declared.specs.internal.Cuts.{cut, total}

-- how many bytes each object has in a frame
abbrev pub sizes_of : OpenFrame → List ℕ
sizes_of frame = sizes_in frame.procedure (frame.slots.now).objects

-- the frames, the last one first
abbrev pub open_frames : (current : Option OpenFrame) → (callers : List OpenFrame) → List OpenFrame
open_frames current callers = option_to_list current ++ reverse callers

abbrev pub frames_in : List OpenFrame → (bytes : List ℕ) → List (List (List ℕ))
frames_in [] bytes = []
frames_in (frame ∷ callers) bytes =
    cut (sizes_of frame) (drop frame.base bytes) ∷ frames_in callers (take frame.base bytes)

-- each frame is one of a procedure, and ends where the next one begins
abbrev pub AreNested : List OpenFrame → (end : ℕ) → Type 0
AreNested [] end = Unit {0}
AreNested (frame ∷ callers) end =
    (frame.procedure < (frame.slots.now).procedures)
    × (frame.base + total (sizes_of frame) ≡ end)
    × AreNested callers frame.base

pub record AreFrames (current : Option OpenFrame) (callers : List OpenFrame) (bytes : List ℕ) : Type 0 where
  pub nested : AreNested (open_frames current callers) (length bytes)
  pub first : current ≡ None → callers ≡ []
