-- Bytes that are fixed in two steps, when modules are merged and when the merge is placed, are those that are
-- fixed in one.
use Rattle.image_laws.proofs.Prelude.{◌≡◌, ℕ, ◌+◌, ◌/◌, ◌%◌, ◌==◌, Bool, true, false, not, ◌||◌, List, [], ◌∷◌, filter_map, map, Option, Some, None, option_map, option_and_then, refl, ap, sym, ◌∙◌, arith, list_any, cons_option, option_map_or, and_parts, or_parts, eqb-true, FixKind, Low, High, Both, Target, Fixup, SetByte, begins_word, is_plain, words_are_whole, first_byte_moved, second_byte_moved, after_fixup, value_after, value_moved, fixup_moved, byte_moved, moved_after, moved, bytes_resolved, high_at, word_before, value_stays, not-false}

-- what targets gain in one step is what they gain in two, modulo 65536
abbrev pub GainInTwo : (first second whole : Target → ℕ) → (kept : Target → Option Target) → Type 0
GainInTwo first second whole kept =
    (target : Target) → whole target % 65536 ≡ (first target + option_map_or second (kept target) 0) % 65536

-- a target gains no whole pages
abbrev pub gains_part : (gain_of : Target → ℕ) → Target → Bool
gains_part gain_of target = not (gain_of target % 256 == 0)

-- each high byte is fixed to what gains whole pages
abbrev pub HighsGainPages : (gain_of : Target → ℕ) → List (Option SetByte) → Type 0
HighsGainPages gain_of places = list_any (gains_part gain_of) (filter_map high_at places) ≡ false

abbrev pub nothing_kept : Target → Option Target
nothing_kept target = None

abbrev pub value_of : SetByte → ℕ
value_of here = here.value

-- Numbers.
low_twice :
    (value f s w : ℕ) → w % 65536 ≡ (f + s) % 65536
    → ((value + f) % 256 + s) % 256 ≡ (value + w) % 256
low_twice value f s w h = omega (arith, h)

low_once : (value f w : ℕ) → w % 65536 ≡ (f + 0) % 65536 → (value + f) % 256 ≡ (value + w) % 256
low_once value f w h = omega (arith, h)

high_twice :
    (value f s w : ℕ) → w % 65536 ≡ (f + s) % 65536 → f % 256 ≡ 0
    → ((value + f / 256) % 256 + s / 256) % 256 ≡ (value + w / 256) % 256
high_twice value f s w h k = omega (arith, h, k)

high_once : (value f w : ℕ) → w % 65536 ≡ (f + 0) % 65536 → (value + f / 256) % 256 ≡ (value + w / 256) % 256
high_once value f w h = omega (arith, h)

second_twice :
    (value next f s w : ℕ) → w % 65536 ≡ (f + s) % 65536
    → second_byte_moved ((value + f) % 256) (second_byte_moved value next f) s
    ≡ second_byte_moved value next w
second_twice value next f s w h = omega (arith, h)

second_once :
    (value next f w : ℕ) → w % 65536 ≡ (f + 0) % 65536
    → second_byte_moved value next f ≡ second_byte_moved value next w
second_once value next f w h = omega (arith, h)

not_word : (b c : Bool) → (b ≡ true → c ≡ true) → c ≡ false → b ≡ false
not_word false c f h = refl
not_word true c f h = absurd (let bad : true ≡ false = sym (f refl) ∙ h in cc)

no_word : (b : Bool) → (not b || false) ≡ true → b ≡ false
no_word false h = refl
no_word true h = absurd (let bad : false ≡ true = h in cc)

-- Each byte.
module _
    (first second whole : Target → ℕ) (kept : Target → Option Target)
    (gains : GainInTwo first second whole kept) where
  -- a byte at which a fix begins
  fixed_twice :
      (before : Option SetByte) (value : ℕ) (kind : FixKind) (target : Target) → begins_word before ≡ false
      → HighsGainPages first
      (Some (record { value = value; fixup = Some (record { kind = kind; target = target }) }) ∷ [])
      → value_moved second before
      (record {
        value = first_byte_moved kind value (first target);
        fixup = fixup_moved kept (record { kind = kind; target = target });
      })
      ≡ first_byte_moved kind value (whole target)
  fixed_twice before value Low target h high = go (kept target) (gains target)
    where
      go : (other : Option Target)
          → whole target % 65536 ≡ (first target + option_map_or second other 0) % 65536
          → value_moved second before
          (record {
            value = (value + first target) % 256;
            fixup = option_map (λ (t : Target). record { kind = Low; target = t }) other;
          })
          ≡ (value + whole target) % 256
      go None k =
          value_stays second before ((value + first target) % 256) h
          ∙ low_once value (first target) (whole target) k
      go (Some t) k = low_twice value (first target) (second t) (whole target) k
  fixed_twice before value High target h high = go (kept target) (gains target)
    where
      pages : first target % 256 ≡ 0
      pages =
          let is = or_parts (gains_part first target) false high in
          eqb-true (first target % 256) 0 (not-false (first target % 256 == 0) is.0)

      go : (other : Option Target)
          → whole target % 65536 ≡ (first target + option_map_or second other 0) % 65536
          → value_moved second before
          (record {
            value = (value + first target / 256) % 256;
            fixup = option_map (λ (t : Target). record { kind = High; target = t }) other;
          })
          ≡ (value + whole target / 256) % 256
      go None k =
          value_stays second before ((value + first target / 256) % 256) h
          ∙ high_once value (first target) (whole target) k
      go (Some t) k = high_twice value (first target) (second t) (whole target) k pages
  fixed_twice before value Both target h high = go (kept target) (gains target)
    where
      go : (other : Option Target)
          → whole target % 65536 ≡ (first target + option_map_or second other 0) % 65536
          → value_moved second before
          (record {
            value = (value + first target) % 256;
            fixup = option_map (λ (t : Target). record { kind = Both; target = t }) other;
          })
          ≡ (value + whole target) % 256
      go None k =
          value_stays second before ((value + first target) % 256) h
          ∙ low_once value (first target) (whole target) k
      go (Some t) k = low_twice value (first target) (second t) (whole target) k

  -- a byte after one at which a fix begins
  after_fix_twice :
      (value next : ℕ) (kind : FixKind) (target : Target)
      → after_fixup second (first_byte_moved kind value (first target))
      (after_fixup first value next (Some (record { kind = kind; target = target })))
      (fixup_moved kept (record { kind = kind; target = target }))
      ≡ after_fixup whole value next (Some (record { kind = kind; target = target }))
  after_fix_twice value next Low target = go (kept target)
    where
      go : (other : Option Target)
          → after_fixup second ((value + first target) % 256) next
          (option_map (λ (t : Target). record { kind = Low; target = t }) other) ≡ next
      go None = refl
      go (Some t) = refl
  after_fix_twice value next High target = go (kept target)
    where
      go : (other : Option Target)
          → after_fixup second ((value + first target / 256) % 256) next
          (option_map (λ (t : Target). record { kind = High; target = t }) other) ≡ next
      go None = refl
      go (Some t) = refl
  after_fix_twice value next Both target = go (kept target) (gains target)
    where
      go : (other : Option Target)
          → whole target % 65536 ≡ (first target + option_map_or second other 0) % 65536
          → after_fixup second ((value + first target) % 256) (second_byte_moved value next (first target))
          (option_map (λ (t : Target). record { kind = Both; target = t }) other)
          ≡ second_byte_moved value next (whole target)
      go None k = second_once value next (first target) (whole target) k
      go (Some t) k = second_twice value next (first target) (second t) (whole target) k

  after_fixup_twice :
      (one : Option SetByte) (value next : ℕ) (fixup : Option Fixup)
      → after_fixup second (value_moved first one (record { value = value; fixup = fixup }))
      (after_fixup first value next fixup) (option_and_then (fixup_moved kept) fixup)
      ≡ after_fixup whole value next fixup
  after_fixup_twice one value next None = refl
  after_fixup_twice one value next (Some fixup) = after_fix_twice value next fixup.kind fixup.target

  after_twice :
      (one before : Option SetByte) (next : ℕ)
      → value_after second (option_map (byte_moved first kept one) before) (value_after first before next)
      ≡ value_after whole before next
  after_twice one None next = refl
  after_twice one (Some before) next = after_fixup_twice one before.value next before.fixup

  -- where a fix begins, no word begins before it
  value_twice :
      (one before : Option SetByte) (value : ℕ) (fixup : Option Fixup)
      → (not (begins_word before) || is_plain (Some (record { value = value; fixup = fixup }))) ≡ true
      → HighsGainPages first (Some (record { value = value; fixup = fixup }) ∷ [])
      → value_moved second (option_map (byte_moved first kept one) before)
      (byte_moved first kept before (record { value = value; fixup = fixup }))
      ≡ value_moved whole before (record { value = value; fixup = fixup })
  value_twice one before value None word high = after_twice one before value
  value_twice one before value (Some fixup) word high =
      fixed_twice (option_map (byte_moved first kept one) before) value fixup.kind fixup.target
      (not_word (begins_word (option_map (byte_moved first kept one) before)) (begins_word before)
      (word_before first kept one before) (no_word (begins_word before) word))
      high

  high_cut :
      (here : SetByte) (others : List (Option SetByte)) → HighsGainPages first (Some here ∷ others)
      → HighsGainPages first (Some here ∷ []) × HighsGainPages first others
  high_cut here others h = go (high_at (Some here)) h
    where
      go : (found : Option Target)
          → list_any (gains_part first) (cons_option found (filter_map high_at others)) ≡ false
          → (list_any (gains_part first) (cons_option found []) ≡ false) × HighsGainPages first others
      go None k = (refl, k)
      go (Some target) k =
          let is =
          or_parts (gains_part first target) (list_any (gains_part first) (filter_map high_at others)) k in
          (ap (λ b. b || false) is.0, is.1)

  places_twice :
      (one before : Option SetByte) (places : List (Option SetByte))
      → words_are_whole (before ∷ places) ≡ true
      → HighsGainPages first places
      → map (option_map value_of)
      (moved_after second nothing_kept (option_map (byte_moved first kept one) before)
      (moved_after first kept before places))
      ≡ map (option_map value_of) (moved_after whole nothing_kept before places)
  places_twice one before [] word high = refl
  places_twice one before (None ∷ others) word high =
      let cut = and_parts (not (begins_word before) || false) (words_are_whole (None ∷ others)) word in
      ap (λ r. None ∷ r) (places_twice before None others cut.1 high)
  places_twice one before (Some here ∷ others) word high =
      let cut =
      and_parts (not (begins_word before) || is_plain (Some here))
      (words_are_whole (Some here ∷ others)) word in
      let highs = high_cut here others high in
      ap (λ v. Some v ∷ map (option_map value_of)
      (moved_after second nothing_kept (option_map (byte_moved first kept before) (Some here))
      (moved_after first kept (Some here) others)))
      (value_twice one before here.value here.fixup cut.0 highs.0)
      ∙ ap (λ r. Some (value_moved whole before here) ∷ r)
      (places_twice before (Some here) others cut.1 highs.1)

  -- where words are whole, and high bytes gain whole pages in the first step
  pub resolved_twice :
      (places : List (Option SetByte)) → words_are_whole places ≡ true → HighsGainPages first places
      → bytes_resolved second (moved first kept places) ≡ bytes_resolved whole places
  resolved_twice places word high = places_twice None None places word high
