-- Code whose fixes have other targets: what it becomes where those have addresses.
use Rattle.image_laws.proofs.Prelude.{◌≡◌, ℕ, ◌+◌, Bool, true, false, cond, ◌==◌, List, [], ◌∷◌, find, map, Option, Some, None, option_map, refl, ap, ◌∙◌, Fix, FixKind, Low, High, Both, Target, Fixup, SetByte, after_fixup, bytes_resolved, moved_after, value_after, value_moved, fixup_at, Assembled, fixed_bytes, resolved, set_bytes, retargeted, with_targets}
use Rattle.asm8080.specs.Assembled.{places_of}
use Rattle.image_laws.proofs.Images.TwoSteps.{nothing_kept, value_of}

module _ (to : Target → Target) where
  -- a place whose fix has another target
  abbrev fixup_to : Fixup → Fixup
  fixup_to fixup = record { kind = fixup.kind; target = to fixup.target }

  abbrev byte_to : SetByte → SetByte
  byte_to here = record { value = here.value; fixup = option_map fixup_to here.fixup }

  abbrev place_to : Option SetByte → Option SetByte
  place_to place = option_map byte_to place

  fixup_retargeted :
      (fixes : List Fix) (offset : ℕ)
      → fixup_at (map (retargeted to) fixes) offset ≡ option_map fixup_to (fixup_at fixes offset)
  fixup_retargeted [] offset = refl
  fixup_retargeted (fix ∷ others) offset = go (fix.offset == offset) (fixup_retargeted others offset)
    where
      go : (here : Bool)
          → fixup_at (map (retargeted to) others) offset ≡ option_map fixup_to (fixup_at others offset)
          → option_map (λ (one : Fix). record { kind = one.kind; target = one.target })
          (cond here (Some (retargeted to fix))
          (find (λ (one : Fix). one.offset == offset) (map (retargeted to) others)))
          ≡ option_map fixup_to
          (option_map (λ (one : Fix). record { kind = one.kind; target = one.target })
          (cond here (Some fix) (find (λ (one : Fix). one.offset == offset) others)))
      go true later = refl
      go false later = later

  bytes_retargeted :
      (fixes : List Fix) (offset : ℕ) (bytes : List (Option ℕ))
      → fixed_bytes (map (retargeted to) fixes) offset bytes ≡ map place_to (fixed_bytes fixes offset bytes)
  bytes_retargeted fixes offset [] = refl
  bytes_retargeted fixes offset (None ∷ others) =
      ap (λ places. None ∷ places) (bytes_retargeted fixes (offset + 1) others)
  bytes_retargeted fixes offset (Some value ∷ others) =
      ap (λ (fixup : Option Fixup).
      Some (record { value = value; fixup = fixup })
      ∷ fixed_bytes (map (retargeted to) fixes) (offset + 1) others)
      (fixup_retargeted fixes offset)
      ∙ ap (λ places.
      Some (record { value = value; fixup = option_map fixup_to (fixup_at fixes offset) }) ∷ places)
      (bytes_retargeted fixes (offset + 1) others)

  module _ (address_of : Target → ℕ) where
    abbrev address_to : Target → ℕ
    address_to target = address_of (to target)

    after_fix_to :
        (first value : ℕ) (kind : FixKind) (target : Target)
        → after_fixup address_of first value (Some (record { kind = kind; target = to target }))
        ≡ after_fixup address_to first value (Some (record { kind = kind; target = target }))
    after_fix_to first value Low target = refl
    after_fix_to first value High target = refl
    after_fix_to first value Both target = refl

    after_fixup_to :
        (first value : ℕ) (fixup : Option Fixup)
        → after_fixup address_of first value (option_map fixup_to fixup)
        ≡ after_fixup address_to first value fixup
    after_fixup_to first value None = refl
    after_fixup_to first value (Some fixup) = after_fix_to first value fixup.kind fixup.target

    after_to :
        (before : Option SetByte) (value : ℕ)
        → value_after address_of (place_to before) value ≡ value_after address_to before value
    after_to None value = refl
    after_to (Some before) value = after_fixup_to before.value value before.fixup

    value_to :
        (before : Option SetByte) (value : ℕ) (fixup : Option Fixup)
        → value_moved address_of (place_to before) (byte_to (record { value = value; fixup = fixup }))
        ≡ value_moved address_to before (record { value = value; fixup = fixup })
    value_to before value None = after_to before value
    value_to before value (Some fixup) = refl

    places_to :
        (before : Option SetByte) (places : List (Option SetByte))
        → map (option_map value_of)
        (moved_after address_of nothing_kept (place_to before) (map place_to places))
        ≡ map (option_map value_of) (moved_after address_to nothing_kept before places)
    places_to before [] = refl
    places_to before (None ∷ others) = ap (λ bytes. None ∷ bytes) (places_to None others)
    places_to before (Some here ∷ others) =
        ap (λ value.
        Some value
        ∷ map (option_map value_of)
        (moved_after address_of nothing_kept (place_to (Some here)) (map place_to others)))
        (value_to before here.value here.fixup)
        ∙ ap (λ bytes. Some (value_moved address_to before here) ∷ bytes) (places_to (Some here) others)

    pub resolved_retargeted :
        (code : Assembled)
        → bytes_resolved address_of (places_of (with_targets to code)) ≡ resolved address_to code
    resolved_retargeted code =
        ap (bytes_resolved address_of) (bytes_retargeted code.fixes 0 (set_bytes code.bytes code.is_set))
        ∙ places_to None (places_of code)
