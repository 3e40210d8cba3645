-- The module that a walk over a file tells: its lengths, and the runs and fixes of its segments, by the
-- contents.
use Rattle.link_laws.proofs.Prelude.{◌≡◌, ℕ, true, List, length, map, filter, flat_map, refl, ap, sym, ◌∙◌, range_with_len, length-map-range_with_len, Alignment, Segment, Absolute, Code, Data, Stack, same_segment, ObjectModule, Places, Public, alignment_of, length_of, bytes_of_run, fixes_in, fixes_of_run, runs_of, FixedContent, set_in, runs_from, Walking, alignment_by, length_by, module_by, places_by, ContentsFit, SegmentFits, fixes_by_place, is_in, runs_kept, kept_places, kept_stored}
use Rattle.object_modules.proofs.StoredRuns.{stored_bytes, stored_fixes}

sized :
    (contents : List FixedContent) (segment : Segment) (size : ℕ)
    → size ≡ length (map (set_in contents segment) (range_with_len 0 size))
sized contents segment size =
    sym (length-map-range_with_len (set_in contents segment) 0 size)

-- A segment that contents of a file set.
segment_runs :
    (size : ℕ) (alignment : Alignment) (segment : Segment) (contents : List FixedContent)
    → same_segment segment segment ≡ true → SegmentFits size segment contents
    → map bytes_of_run (runs_from 0 (places_by contents segment alignment size).places)
    ≡ runs_kept (filter (is_in segment) contents)
segment_runs size alignment segment contents same fits =
    ap (λ (p : Places). map bytes_of_run (runs_from 0 p.places))
    (kept_places size alignment segment contents fits.placed)
    ∙ stored_bytes segment _ same (kept_stored size alignment segment contents fits.placed fits.fit)

segment_fixes :
    (size : ℕ) (alignment : Alignment) (segment : Segment) (contents : List FixedContent)
    → same_segment segment segment ≡ true → SegmentFits size segment contents
    → flat_map fixes_of_run (runs_from 0 (places_by contents segment alignment size).places)
    ≡ flat_map fixes_by_place (filter (is_in segment) contents)
segment_fixes size alignment segment contents same fits =
    ap (λ (p : Places). flat_map fixes_of_run (runs_from 0 p.places))
    (kept_places size alignment segment contents fits.placed)
    ∙ stored_fixes segment _ same (kept_stored size alignment segment contents fits.placed fits.fit)

module _ (walking : Walking) (fits : ContentsFit walking) where
  pub code_runs : runs_of (module_by walking) Code ≡ runs_kept (filter (is_in Code) walking.contents)
  unfolding runs_of module_by
  code_runs = segment_runs walking.code_length walking.code_alignment Code walking.contents refl fits.code

  pub data_runs : runs_of (module_by walking) Data ≡ runs_kept (filter (is_in Data) walking.contents)
  unfolding runs_of module_by
  data_runs =
      segment_runs walking.data_length walking.data_alignment Data walking.contents refl fits.data_bytes

  pub code_fixes : fixes_in (module_by walking) Code
      ≡ flat_map fixes_by_place (filter (is_in Code) walking.contents)
  unfolding fixes_in module_by
  code_fixes = segment_fixes walking.code_length walking.code_alignment Code walking.contents refl fits.code

  pub data_fixes : fixes_in (module_by walking) Data
      ≡ flat_map fixes_by_place (filter (is_in Data) walking.contents)
  unfolding fixes_in module_by
  data_fixes =
      segment_fixes walking.data_length walking.data_alignment Data walking.contents refl fits.data_bytes

-- What a walk tells is what the module has.
pub name_told : (walking : Walking) → walking.name ≡ (module_by walking).name
unfolding module_by
name_told walking = refl

pub start_told : (walking : Walking) → walking.start ≡ (module_by walking).start
unfolding module_by
start_told walking = refl

pub externals_told : (walking : Walking) → walking.externals ≡ (module_by walking).externals
unfolding module_by
externals_told walking = refl

pub publics_told : (walking : Walking) → walking.publics ≡ (module_by walking).publics
unfolding module_by
publics_told walking = refl

pub length_told : (walking : Walking) (segment : Segment)
    → length_by walking segment ≡ length_of (module_by walking) segment
unfolding module_by
length_told walking Absolute = refl
length_told walking Code = sized walking.contents Code walking.code_length
length_told walking Data = sized walking.contents Data walking.data_length
length_told walking Stack = refl

pub alignment_told :
    (walking : Walking) (segment : Segment)
    → alignment_by walking segment ≡ alignment_of (module_by walking) segment
unfolding module_by
alignment_told walking Absolute = refl
alignment_told walking Code = refl
alignment_told walking Data = refl
alignment_told walking Stack = refl

-- A module with other names has the same segments.
module _ (object : ObjectModule) (publics : List Public) (externals : List (List ℕ)) where
  abbrev renamed : ObjectModule
  renamed = record object { publics = publics; externals = externals }

  pub length_kept : (segment : Segment) → length_of object segment ≡ length_of renamed segment
  length_kept Absolute = refl
  length_kept Code = refl
  length_kept Data = refl
  length_kept Stack = refl

  pub alignment_kept : (segment : Segment) → alignment_of object segment ≡ alignment_of renamed segment
  alignment_kept Absolute = refl
  alignment_kept Code = refl
  alignment_kept Data = refl
  alignment_kept Stack = refl

pub module_renamed :
    (object : ObjectModule) (publics : List Public) (externals : List (List ℕ))
    → publics ≡ object.publics → externals ≡ object.externals
    → ◌≡◌ {A = ObjectModule} (record object { publics = publics; externals = externals }) object
module_renamed object publics externals p e = λ i. record object { publics = p i; externals = e i }
