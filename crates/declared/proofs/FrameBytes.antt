-- The bytes of the last frame, among those of all frames.
use Rattle.declared.proofs.Prelude.{◌≡◌, ℕ, zero, suc, ◌+◌, ◌-◌, ◌<◌, ◌≤◌, min, Bool, if◌then◌else◌, nat_lt, lt-ltb, le-ltb, List, [], ◌∷◌, ◌++◌, length, reverse, take, drop, get_or, set, slice_range, replicate, Option, Some, None, refl, ap, sym, subst, ◌∙◌, arith, drop-drop, get_or_past, take-set-le, drop-set-add, take_at, drop_at, reverse-append, dec_le, frame_bytes, OpenFrame, current_frame, frame_with_byte, with_current, zeroed, cut, total, sizes_of, open_frames, frames_in, AreNested, AreFrames}
use Rattle.declared.proofs.Cuts.{piece_is, write_inside, write_outside, cut_zeros}

-- what is known of the last frame
pub last_nested :
    (current : Option OpenFrame) (callers : List OpenFrame) (bytes : List ℕ) (frame : OpenFrame)
    → AreFrames current callers bytes
    → current ≡ Some frame
    → (frame.procedure < (frame.slots.now).procedures) × (frame.base + total (sizes_of frame) ≡ length bytes)
last_nested current callers bytes frame are is =
    let nested : AreNested (open_frames (Some frame) callers) (length bytes) =
    subst (λ now. AreNested (open_frames now callers) (length bytes)) is are.nested in
    (nested.0, nested.1)

-- the bytes of an object in the last frame
pub part_is :
    (current : Option OpenFrame) (callers : List OpenFrame) (bytes found : List ℕ)
    (frames : List (List (List ℕ)))
    (frame : OpenFrame) (object start size : ℕ)
    → frames_in (open_frames current callers) bytes ≡ frames
    → current ≡ Some frame
    → size ≡ get_or (sizes_of frame) object 0
    → (0 < size → start ≡ frame.base + total (take object (sizes_of frame)))
    → found ≡ slice_range bytes start (start + size)
    → found ≡ frame_bytes (current_frame frames) object
part_is current callers bytes found frames frame object start size is_view is is_size begins is_found =
    let length_is : start + size - start ≡ size = omega arith in
    is_found
    ∙ ap (λ count. take count (drop start bytes)) length_is
    ∙ by_size size is_size begins
    ∙ sym (piece_is (sizes_of frame) (drop frame.base bytes) object)
    ∙ ap (λ now. frame_bytes (current_frame (frames_in (open_frames now callers) bytes)) object) (sym is)
    ∙ ap (λ now. frame_bytes (current_frame now) object) is_view
  where
    by_size :
        (size : ℕ)
        → size ≡ get_or (sizes_of frame) object 0
        → (0 < size → start ≡ frame.base + total (take object (sizes_of frame)))
        → take size (drop start bytes)
        ≡ take (get_or (sizes_of frame) object 0)
        (drop (total (take object (sizes_of frame))) (drop frame.base bytes))
    by_size zero is_size begins =
        ap (λ count. take count (drop (total (take object (sizes_of frame))) (drop frame.base bytes))) is_size
    by_size (suc less) is_size begins =
        ap (λ place. take (suc less) (drop place bytes)) (begins (omega arith))
        ∙ ap (take (suc less)) (sym (drop-drop (total (take object (sizes_of frame))) frame.base bytes))
        ∙ ap (λ count. take count (drop (total (take object (sizes_of frame))) (drop frame.base bytes)))
        is_size

-- a byte of it that is written
piece_written :
    (frame : OpenFrame) (callers : List OpenFrame) (bytes : List ℕ) (object offset place byte : ℕ)
    → offset < get_or (sizes_of frame) object 0
    → place ≡ total (take object (sizes_of frame)) + offset
    → frames_in (frame ∷ callers) (set bytes (frame.base + place) byte)
    ≡ with_current (frame_with_byte object offset byte) (frames_in (frame ∷ callers) bytes)
piece_written frame callers bytes object offset place byte inside is_place =
    let sizes : List ℕ = sizes_of frame in
    let after : List ℕ = set bytes (frame.base + place) byte in
    ap (λ rest. cut sizes rest ∷ frames_in callers (take frame.base after))
    (drop-set-add frame.base bytes place byte)
    ∙ ap (λ pieces. pieces ∷ frames_in callers (take frame.base after))
    (write_inside sizes (drop frame.base bytes) object offset place byte inside is_place)
    ∙ ap (λ below.
    frame_with_byte object offset byte (cut sizes (drop frame.base bytes)) ∷ frames_in callers below)
    (take-set-le frame.base bytes (frame.base + place) byte (omega arith))

bytes_by :
    (offset size : ℕ) (changed before : List ℕ) (P : List ℕ → Type 0)
    → (offset < size → P changed)
    → (size ≤ offset → P before)
    → P (if nat_lt offset size then changed else before)
bytes_by offset size changed before P within past =
    elim (dec_le (suc offset) size) [
      | yes below ↦
          subst (λ (is : Bool). P (if is then changed else before))
          (sym (lt-ltb offset size below)) (within below)
      | no not_below ↦
          let above : size ≤ offset = omega (arith, not_below) in
          subst (λ (is : Bool). P (if is then changed else before))
          (sym (le-ltb offset size above)) (past above)
    ]

pub part_written :
    (current : Option OpenFrame) (callers : List OpenFrame) (bytes after : List ℕ)
    (frames : List (List (List ℕ))) (frame : OpenFrame) (object offset start size byte : ℕ)
    → frames_in (open_frames current callers) bytes ≡ frames
    → current ≡ Some frame
    → size ≡ get_or (sizes_of frame) object 0
    → (0 < size → start ≡ frame.base + total (take object (sizes_of frame)))
    → after ≡ (if nat_lt offset size then set bytes (start + offset) byte else bytes)
    → frames_in (open_frames current callers) after ≡ with_current (frame_with_byte object offset byte) frames
part_written current callers bytes after frames frame object offset start size byte is_view is
    is_size begins is_after =
    let place : ℕ = total (take object (sizes_of frame)) + offset in
    ap (λ now. frames_in (open_frames now callers) after) is
    ∙ ap (λ now. frames_in (frame ∷ reverse callers) now) is_after
    ∙ bytes_by offset size (set bytes (start + offset) byte) bytes
    (λ now. frames_in (frame ∷ reverse callers) now
    ≡ with_current (frame_with_byte object offset byte) (frames_in (frame ∷ reverse callers) bytes))
    (λ below.
    let is_start : start ≡ frame.base + total (take object (sizes_of frame)) = begins (omega arith) in
    let same : start + offset ≡ frame.base + place = omega arith in
    ap (λ k. frames_in (frame ∷ reverse callers) (set bytes k byte)) same
    ∙ piece_written frame (reverse callers) bytes object offset place byte (omega arith) refl)
    (λ above.
    ap (λ pieces. pieces ∷ frames_in (reverse callers) (take frame.base bytes))
    (write_outside (sizes_of frame) (drop frame.base bytes) object offset byte (omega arith)))
    ∙ ap (λ now. with_current (frame_with_byte object offset byte)
    (frames_in (open_frames now callers) bytes))
    (sym is)
    ∙ ap (with_current (frame_with_byte object offset byte)) is_view

-- the place after the greatest number is past the end, as that number is
pub next_written :
    (bytes after : List ℕ) (offset next start size byte : ℕ)
    → next ≡ min (offset + 1) 18446744073709551615
    → size ≤ 18446744073709551615
    → after ≡ (if nat_lt next size then set bytes (start + next) byte else bytes)
    → after ≡ (if nat_lt (offset + 1) size then set bytes (start + (offset + 1)) byte else bytes)
next_written bytes after offset next start size byte is_next fits is_after =
    is_after
    ∙ elim (dec_le (offset + 1) 18446744073709551615) [
      | yes within ↦
          let same : next ≡ offset + 1 = omega (arith, within, is_next) in
          ap (λ k. if nat_lt k size then set bytes (start + k) byte else bytes) same
      | no past ↦
          let next_past : size ≤ next = omega (arith, past, is_next, fits) in
          let offset_past : size ≤ offset + 1 = omega (arith, past, fits) in
          ap (λ (is : Bool). if is then set bytes (start + next) byte else bytes) (le-ltb next size next_past)
          ∙ sym
          (ap (λ (is : Bool). if is then set bytes (start + (offset + 1)) byte else bytes)
          (le-ltb (offset + 1) size offset_past))
    ]

pub next_read :
    (bytes : List ℕ) (offset next byte : ℕ)
    → next ≡ min (offset + 1) 18446744073709551615
    → length bytes ≤ 18446744073709551615
    → byte ≡ get_or bytes next 0
    → byte ≡ get_or bytes (offset + 1) 0
next_read bytes offset next byte is_next fits is_byte =
    is_byte
    ∙ elim (dec_le (offset + 1) 18446744073709551615) [
      | yes within ↦
          let same : next ≡ offset + 1 = omega (arith, within, is_next) in ap (λ k. get_or bytes k 0) same
      | no past ↦
          get_or_past bytes next 0 (omega (arith, past, is_next, fits))
          ∙ sym (get_or_past bytes (offset + 1) 0 (omega (arith, past, fits)))
    ]

-- one change of the last frame after another
pub changed_twice :
    (first second : List (List ℕ) → List (List ℕ)) (frames : List (List (List ℕ)))
    → with_current second (with_current first frames) ≡ with_current (λ frame. second (first frame)) frames
changed_twice first second [] = refl
changed_twice first second (frame ∷ callers) = refl

-- one more frame of zeros
pub opened :
    (frame : OpenFrame) (below : List OpenFrame) (before bytes : List ℕ) (size : ℕ)
    → length before ≡ frame.base
    → size ≡ total (sizes_of frame)
    → bytes ≡ before ++ replicate size 0
    → frames_in (frame ∷ below) bytes ≡ zeroed (sizes_of frame) ∷ frames_in below before
opened frame below before bytes size is_base is_size is =
    let zeros : List ℕ = replicate size 0 in
    ap (λ now. cut (sizes_of frame) (drop frame.base now) ∷ frames_in below (take frame.base now)) is
    ∙ ap (λ rest. cut (sizes_of frame) rest ∷ frames_in below (take frame.base (before ++ zeros)))
    (drop_at before zeros frame.base is_base)
    ∙ ap (λ under. cut (sizes_of frame) zeros ∷ frames_in below under)
    (take_at before zeros frame.base is_base)
    ∙ ap (λ count. cut (sizes_of frame) (replicate count 0) ∷ frames_in below before) is_size
    ∙ ap (λ pieces. pieces ∷ frames_in below before) (cut_zeros (sizes_of frame))

-- and among the frames of the callers
pub opened_last :
    (frame caller : OpenFrame) (current : Option OpenFrame) (callers more : List OpenFrame)
    (frames : List (List (List ℕ))) (before bytes : List ℕ) (size : ℕ)
    → frames_in (open_frames current callers) before ≡ frames
    → current ≡ Some caller
    → more ≡ callers ++ caller ∷ []
    → length before ≡ frame.base
    → size ≡ total (sizes_of frame)
    → bytes ≡ before ++ replicate size 0
    → frames_in (open_frames (Some frame) more) bytes ≡ zeroed (sizes_of frame) ∷ frames
opened_last frame caller current callers more frames before bytes size is_view is is_more
    is_base is_size is_bytes =
    ap (λ now. frames_in (frame ∷ reverse now) bytes) is_more
    ∙ ap (λ below. frames_in (frame ∷ below) bytes) (reverse-append callers (caller ∷ []))
    ∙ opened frame (caller ∷ reverse callers) before bytes size is_base is_size is_bytes
    ∙ ap (λ now. zeroed (sizes_of frame) ∷ frames_in (open_frames now callers) before) (sym is)
    ∙ ap (λ now. zeroed (sizes_of frame) ∷ now) is_view

pub opened_first :
    (frame : OpenFrame) (current : Option OpenFrame) (callers : List OpenFrame)
    (frames : List (List (List ℕ))) (before bytes : List ℕ) (size : ℕ)
    → frames_in (open_frames current callers) before ≡ frames
    → current ≡ None
    → length before ≡ frame.base
    → size ≡ total (sizes_of frame)
    → bytes ≡ before ++ replicate size 0
    → frames_in (open_frames (Some frame) callers) bytes ≡ zeroed (sizes_of frame) ∷ frames
opened_first frame current callers frames before bytes size is_view is is_base is_size is_bytes =
    opened frame (reverse callers) before bytes size is_base is_size is_bytes
    ∙ ap (λ now. zeroed (sizes_of frame) ∷ frames_in (open_frames now callers) before) (sym is)
    ∙ ap (λ now. zeroed (sizes_of frame) ∷ now) is_view

-- The end of `FrameBytes`.
