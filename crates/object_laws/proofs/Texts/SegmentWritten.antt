-- The records that are written for the contents of a segment: what they are, and what they leave as it was.
use Rattle.object_laws.proofs.Prelude.{◌≡◌, ℕ, ◌+◌, ◌≤◌, ◌==◌, Bool, true, false, cond, nat_lt, List, [], ◌∷◌, length, flat_map, slice_get, Option, Some, None, IfSome, refl, ap, sym, subst, ◌∙◌, arith, AllByRecursion, list_all, option_map_or, option_flatten, and_parts, Segment, Fixup, SetByte, is_target, is_valid_byte, words_are_whole, Content, Part, ContentPart, kind_of_part, same_segment, rank_of, entries_of, externals_of, content_of, length_in, content_end, end_by_content, filled_to, publics_of, name_of_header, start_of_end, Run, before_runs, runs_from, contents_of_run, fixes_from, fix_parts, content_parts, all_append, all_weaker}
use Rattle.object_laws.proofs.Texts.Groups.{all_in_groups}
use Rattle.object_laws.proofs.Texts.Runs.{InOrder, item_at, runs_in_order, runs_tell, runs_whole}
use Rattle.object_laws.proofs.Texts.Cuts.{IsCut, all_cut, placed_hold, run_groups, run_groups_joined, contents_in_order, contents_tell}
use Rattle.object_laws.proofs.Texts.Fixes.{HasTarget, fixes_have_targets}
use Rattle.object_laws.proofs.Texts.Accepting.{onto, up_to_onto, flat_map_onto, filled_onto, all_flat_map}
use Rattle.object_laws.proofs.Texts.ContentsAccepted.{IsFixPart, fix_parts_are, content_for, HasTargets, BeforeContents}

-- what holds of the bytes of places holds of those of their runs
before_hold :
    (P : SetByte → Type 0) (offset : ℕ) (item : SetByte) (runs : List (Run SetByte)) → P item
    → AllByRecursion (λ (run : Run SetByte). AllByRecursion P run.items) runs
    → AllByRecursion (λ (run : Run SetByte). AllByRecursion P run.items) (before_runs offset item runs)
before_hold P offset item [] h all = ((h, tt), tt)
before_hold P offset item (next ∷ others) h all = go (next.offset == offset + 1)
  where
    go : (b : Bool)
        → AllByRecursion (λ (run : Run SetByte). AllByRecursion P run.items)
        (cond b (record { offset = offset; items = item ∷ next.items } ∷ others)
        (record { offset = offset; items = item ∷ [] } ∷ next ∷ others))
    go true = ((h, all.0), all.1)
    go false = ((h, tt), all)

runs_hold :
    (P : SetByte → Type 0) (offset : ℕ) (places : List (Option SetByte))
    → AllByRecursion (λ (place : Option SetByte). IfSome place P) places
    → AllByRecursion (λ (run : Run SetByte). AllByRecursion P run.items) (runs_from offset places)
runs_hold P offset [] all = tt
runs_hold P offset (None ∷ others) all = runs_hold P (offset + 1) others all.1
runs_hold P offset (Some item ∷ others) all =
    before_hold P offset item (runs_from (offset + 1) others) all.0 (runs_hold P (offset + 1) others all.1)

-- and of those of their contents
cuts_hold :
    (P : SetByte → Type 0) (runs : List (Run SetByte))
    → AllByRecursion (λ (run : Run SetByte). AllByRecursion P run.items) runs
    → AllByRecursion (λ (run : Run SetByte). AllByRecursion P run.items) (flat_map contents_of_run runs)
cuts_hold P [] all = tt
cuts_hold P (run ∷ others) all =
    all_append (λ (cut : Run SetByte). AllByRecursion P cut.items) (contents_of_run run)
    (flat_map contents_of_run others)
    (placed_hold (AllByRecursion P) run.offset (run_groups run)
    (all_in_groups P (run_groups run) (subst (AllByRecursion P) (sym (run_groups_joined run)) all.0)))
    (cuts_hold P others all.1)

place_has_target :
    (external_count : ℕ) (place : Option SetByte)
    → option_map_or (is_valid_byte external_count) place true ≡ true
    → IfSome place (HasTarget external_count)
place_has_target external_count None h = tt
place_has_target external_count (Some here) h =
    (and_parts (nat_lt here.value 256)
    (option_map_or (λ (fixup : Fixup). is_target external_count fixup.target) here.fixup true) h).1

places_have_targets :
    (external_count : ℕ) (places : List (Option SetByte))
    → list_all (λ place. option_map_or (is_valid_byte external_count) place true) places ≡ true
    → AllByRecursion (λ (place : Option SetByte). IfSome place (HasTarget external_count)) places
places_have_targets external_count [] h = tt
places_have_targets external_count (place ∷ places) h =
    let t = and_parts (option_map_or (is_valid_byte external_count) place true)
    (list_all (λ p. option_map_or (is_valid_byte external_count) p true) places) h in
    (place_has_target external_count place t.0, places_have_targets external_count places t.1)

-- the contents of places
abbrev pub cuts_of : List (Option SetByte) → List (Run SetByte)
cuts_of places = flat_map contents_of_run (runs_from 0 places)

pub record AreCutsOf (external_count : ℕ) (places : List (Option SetByte)) : Type 0 where
  pub order : InOrder 0 (length places) (cuts_of places)
  pub cut : AllByRecursion IsCut (cuts_of places)
  pub targets : AllByRecursion (HasTargets external_count) (cuts_of places)
  pub tell : (number : ℕ) → item_at (0 + number) (cuts_of places) ≡ option_flatten (slice_get places number)

pub cuts_are :
    (external_count : ℕ) (places : List (Option SetByte))
    → list_all (λ place. option_map_or (is_valid_byte external_count) place true) places ≡ true
    → words_are_whole places ≡ true → AreCutsOf external_count places
cuts_are external_count places valid whole =
    let runs : List (Run SetByte) = runs_from 0 places in
    record {
      order = contents_in_order 0 (length places) runs
          (subst (λ to. InOrder 0 to runs) (let e : 0 + length places ≡ length places = omega arith in e)
          (runs_in_order 0 places));
      cut = all_cut runs (runs_whole 0 places whole);
      targets = cuts_hold (HasTarget external_count) runs
          (runs_hold (HasTarget external_count) 0 places (places_have_targets external_count places valid));
      tell = λ number. contents_tell (0 + number) runs ∙ runs_tell 0 places number;
    }

-- a record of the contents of a segment
pub record IsSegmentPart (own : Segment) (part : Part) : Type 0 where
  pub rank : rank_of (kind_of_part part) ≤ 3
  pub no_entries : entries_of part ≡ []
  pub no_externals : externals_of part ≡ []
  pub no_publics : publics_of part ≡ []
  pub no_name : name_of_header part ≡ None
  pub no_start : start_of_end part ≡ None
  pub elsewhere : (segment : Segment) → same_segment own segment ≡ false → (end : ℕ)
      → end_by_content segment (content_of part) end ≡ end

content_is : (own : Segment) (cut : Run SetByte) → IsSegmentPart own (ContentPart (content_for own cut))
content_is own cut = record {
  rank = (let u : 3 ≤ 3 = omega arith in u);
  no_entries = refl;
  no_externals = refl;
  no_publics = refl;
  no_name = refl;
  no_start = refl;
  elsewhere = λ segment h end. ap (λ b. cond b (content_end (content_for own cut)) end) h;
}

fix_part_is :
    (own : Segment) (content : Content) (external_count : ℕ) (part : Part)
    → IsFixPart content external_count part
    → IsSegmentPart own part
fix_part_is own content external_count part is =
    let rank : rank_of (kind_of_part part) ≡ 3 = is.rank in
    record {
      rank = omega (arith, rank);
      no_entries = is.no_entries;
      no_externals = is.no_externals;
      no_publics = is.no_publics;
      no_name = is.no_name;
      no_start = is.no_start;
      elsewhere = λ segment h end. ap (λ c. end_by_content segment c end) is.no_content;
    }

cut_parts_are :
    (own : Segment) (external_count : ℕ) (cut : Run SetByte) → HasTargets external_count cut
    → AllByRecursion (IsSegmentPart own) (content_parts own cut)
cut_parts_are own external_count cut targets =
    let content : Content = content_for own cut in (
      content_is own cut,
      all_weaker (IsFixPart content external_count) (IsSegmentPart own)
          (fix_part_is own content external_count)
          (fix_parts own (fixes_from cut.offset cut.items))
          (fix_parts_are content external_count (fixes_from cut.offset cut.items)
          (fixes_have_targets external_count cut.offset cut.items targets)),
    )

pub segment_parts_are :
    (own : Segment) (external_count : ℕ) (cuts : List (Run SetByte))
    → AllByRecursion (HasTargets external_count) cuts
    → AllByRecursion (IsSegmentPart own) (flat_map (content_parts own) cuts)
segment_parts_are own external_count cuts targets =
    all_flat_map (IsSegmentPart own) (content_parts own) cuts
    (all_weaker (HasTargets external_count)
    (λ cut. AllByRecursion (IsSegmentPart own) (content_parts own cut))
    (cut_parts_are own external_count) cuts targets)

-- what they leave as it was for another segment
pub past_segment :
    (own segment : Segment) → same_segment own segment ≡ false → (external_count size filled : ℕ)
    → (parts before : List Part) → AllByRecursion (IsSegmentPart own) parts
    → BeforeContents segment external_count size filled before
    → BeforeContents segment external_count size filled (onto parts before)
past_segment own segment other external_count size filled parts before all facts =
    let filled_is : filled_to segment (onto parts before) ≡ filled_to segment before =
    filled_onto segment parts before
    (all_weaker (IsSegmentPart own) (λ part. (end : ℕ) → end_by_content segment (content_of part) end ≡ end)
    (λ part is. is.elsewhere segment other) parts all) in
    let to_here : filled_to segment before ≤ filled = facts.to_here in
    record {
      up = up_to_onto 3 parts before facts.up
          (all_weaker (IsSegmentPart own) (λ part. rank_of (kind_of_part part) ≤ 3)
          (λ part is. is.rank) parts all);
      stated =
          ap (λ entries. length_in entries segment)
          (flat_map_onto entries_of parts before
          (all_weaker (IsSegmentPart own) (λ part. entries_of part ≡ [])
          (λ part is. is.no_entries) parts all))
          ∙ facts.stated;
      to_here = omega (arith, filled_is, to_here);
      count =
          ap length
          (flat_map_onto externals_of parts before
          (all_weaker (IsSegmentPart own) (λ part. externals_of part ≡ [])
          (λ part is. is.no_externals) parts all))
          ∙ facts.count;
    }
