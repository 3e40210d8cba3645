-- A file of bytes spells a valid module.
use Rattle.object_laws.proofs.Prelude.{◌≡◌, ℕ, ◌+◌, ◌<◌, ◌≤◌, ◌==◌, Bool, true, false, cond, not, ◌&&◌, ◌||◌, nat_lt, List, [], ◌∷◌, ◌++◌, length, map, flat_map, find, reverse, Option, Some, None, refl, ap, sym, subst, ◌∙◌, arith, list_all, range_with_len, AllByRecursion, option_map_or, and_parts, and_from, le-leb, append-nil, length-map-range_with_len, IsBytes, is_name, Byte, Page, Segment, Code, Data, Stack, SetByte, ObjectModule, are_new, is_valid_byte, is_page, is_valid_segment, IsObjectModule, SegmentEntry, Part, HeaderPart, ExternalNamesPart, PublicsPart, ContentPart, ExternalReferencesPart, RelocationPart, IntersegmentPart, ModuleEndPart, EndOfFilePart, same_segment, is_ended, entries_of, entry_in, externals_of, length_in, filled_to, ascend_from, are_accepted, fixed_contents, set_in, alignment_with, alignment_in, places_in, module_of, Spells}
use Rattle.object_laws.proofs.Files.Bytes.{InRange, parts_range}
use Rattle.object_laws.proofs.Files.Accepted.{both_fit, all_names, names_ordered, no_entries, publics_valid, start_valid}
use Rattle.object_laws.proofs.Files.Contents.{Follow, contents_ascend, place_valid, place_whole, all_places, places_whole}

-- lengths and alignments
found_short :
    (p : SegmentEntry → Bool) (entries : List SegmentEntry)
    → AllByRecursion (λ (entry : SegmentEntry). entry.length < 65536) entries
    → option_map_or (λ (entry : SegmentEntry). entry.length) (find p entries) 0 ≤ 65535
found_short p [] range = omega arith
found_short p (entry ∷ others) range = go (p entry) (found_short p others range.1)
  where
    go : (b : Bool) → option_map_or (λ (e : SegmentEntry). e.length) (find p others) 0 ≤ 65535
        → option_map_or (λ (e : SegmentEntry). e.length) (cond b (Some entry) (find p others)) 0 ≤ 65535
    go true later = let h : entry.length < 65536 = range.0 in omega (arith, h)
    go false later = later

page_by_entry : (entry : SegmentEntry)
    → (not (is_page (alignment_with entry)) || nat_lt 0 entry.length) ≡ true
page_by_entry entry = go (entry.alignment == 1) (nat_lt 0 entry.length)
  where
    go : (a b : Bool) → (not (is_page (cond (a && b) Page Byte)) || b) ≡ true
    go true true = refl
    go true false = refl
    go false true = refl
    go false false = refl

page_valid :
    (entries : List SegmentEntry) (segment : Segment)
    → (not (is_page (alignment_in entries segment)) || nat_lt 0 (length_in entries segment)) ≡ true
page_valid entries segment = go (entry_in entries segment)
  where
    go : (found : Option SegmentEntry)
        → (not (is_page (option_map_or alignment_with found Byte))
        || nat_lt 0 (option_map_or (λ (entry : SegmentEntry). entry.length) found 0)) ≡ true
    go None = refl
    go (Some entry) = page_by_entry entry

-- a segment of a file after its header
segment_valid :
    (entries : List SegmentEntry) (segment : Segment) (header : Part) (others : List Part)
    → flat_map entries_of (header ∷ others) ≡ entries
    → AllByRecursion (λ (entry : SegmentEntry). entry.length < 65536) entries
    → fixed_contents (header ∷ others) ≡ fixed_contents others
    → Follow (length (flat_map externals_of (header ∷ others))) entries (header ∷ []) others
    → is_valid_segment (length (flat_map externals_of (header ∷ others)))
    (places_in (header ∷ others) segment) ≡ true
segment_valid entries segment header others lengths range contents follow =
    let count : ℕ = length (flat_map externals_of (header ∷ others)) in
    let size : ℕ = length_in entries segment in
    let end : ℕ = filled_to segment (header ∷ []) in
    let ascend = contents_ascend count entries segment header [] others follow in
    let place : ℕ → Option SetByte = set_in (fixed_contents others) segment in
    let row : List (Option SetByte) = map place (range_with_len 0 size) in
    let long : length row ≡ size = length-map-range_with_len place 0 size in
    let short : size ≤ 65535 =
    found_short (λ (entry : SegmentEntry). same_segment entry.segment segment) entries range in
    let valid : is_valid_segment count (record { alignment = alignment_in entries segment; places = row })
    ≡ true =
    and_from _ _
    (and_from _ _
    (and_from _ _
    (le-leb (length row) 65535 (omega arith))
    (all_places (λ p. option_map_or (is_valid_byte count) p true) place (range_with_len 0 size)
    (λ offset. place_valid count size segment end offset (fixed_contents others) ascend)))
    (places_whole place 0 size
    (λ offset h. let w = place_whole count size segment end offset (fixed_contents others) ascend h in
    let within : offset + 1 < size = w.within in
    (omega (arith, within), w.plain))))
    (ap (λ n. not (is_page (alignment_in entries segment)) || nat_lt 0 n) long
    ∙ page_valid entries segment) in
    ap (λ e.
    is_valid_segment count (record {
      alignment = alignment_in e segment;
      places =
          map (set_in (fixed_contents (header ∷ others)) segment) (range_with_len 0 (length_in e segment));
    })) lengths
    ∙ ap (λ c.
    is_valid_segment count (record {
      alignment = alignment_in entries segment;
      places = map (set_in c segment) (range_with_len 0 size);
    })) contents
    ∙ valid

-- the module of parts that begin with a header
header_valid :
    (name : List ℕ) (translator version : ℕ) (entries : List SegmentEntry) (others : List Part)
    → are_accepted [] (HeaderPart name translator version entries ∷ others) ≡ true
    → AllByRecursion InRange (HeaderPart name translator version entries ∷ others)
    → IsObjectModule (module_of (HeaderPart name translator version entries ∷ others))
unfolding module_of
header_valid name translator version entries others accepted range =
    let header : Part = HeaderPart name translator version entries in
    let cut = both_fit [] header others accepted in
    let none = no_entries header [] others cut.1 in
    let lengths : flat_map entries_of (header ∷ others) ≡ entries =
    ap (λ e. entries ++ e) none ∙ append-nil entries in
    let follow : Follow (length (flat_map externals_of (header ∷ others))) entries (header ∷ []) others =
    record {
      header = append-nil entries;
      known = omega arith;
      range = range.1;
      accepted = cut.1;
    } in
    let names = all_names [] (header ∷ others) accepted in
    let order = names_ordered [] (header ∷ others) accepted in
    record {
      name = (and_parts (is_name name) (ascend_from 0 entries) cut.0.body).0;
      code = segment_valid entries Code header others lengths range.0 refl follow;
      data_places = segment_valid entries Data header others lengths range.0 refl follow;
      stack =
          subst (λ e. length_in e Stack ≤ 65535) (sym lengths)
          (found_short (λ (entry : SegmentEntry). same_segment entry.segment Stack) entries range.0);
      publics = publics_valid [] (header ∷ others) accepted range;
      names = ap (list_all is_name) (sym order) ∙ names.0;
      different = ap (λ n. are_new n []) (sym order) ∙ names.1;
      start = start_valid (header ∷ others) range;
    }

not_first : (part : Part) → false ≡ true → ⊥
not_first part h = cc

parts_valid :
    (parts : List Part) → are_accepted [] parts ≡ true → is_ended (reverse parts) ≡ true
    → AllByRecursion InRange parts → IsObjectModule (module_of parts)
parts_valid [] accepted ended range = absurd (let bad : false ≡ true = ended in cc)
parts_valid (HeaderPart name translator version entries ∷ others) accepted ended range =
    header_valid name translator version entries others accepted range
parts_valid (ExternalNamesPart names ∷ others) accepted ended range =
    absurd (not_first (ExternalNamesPart names)
    (both_fit [] (ExternalNamesPart names) others accepted).0.follows)
parts_valid (PublicsPart segment definitions ∷ others) accepted ended range =
    absurd (not_first (PublicsPart segment definitions)
    (both_fit [] (PublicsPart segment definitions) others accepted).0.follows)
parts_valid (ContentPart content ∷ others) accepted ended range =
    absurd (not_first (ContentPart content) (both_fit [] (ContentPart content) others accepted).0.follows)
parts_valid (ExternalReferencesPart kind references ∷ others) accepted ended range =
    absurd (not_first (ExternalReferencesPart kind references)
    (both_fit [] (ExternalReferencesPart kind references) others accepted).0.follows)
parts_valid (RelocationPart kind offsets ∷ others) accepted ended range =
    absurd (not_first (RelocationPart kind offsets)
    (both_fit [] (RelocationPart kind offsets) others accepted).0.follows)
parts_valid (IntersegmentPart target kind offsets ∷ others) accepted ended range =
    absurd (not_first (IntersegmentPart target kind offsets)
    (both_fit [] (IntersegmentPart target kind offsets) others accepted).0.follows)
parts_valid (ModuleEndPart start ∷ others) accepted ended range =
    absurd (not_first (ModuleEndPart start) (both_fit [] (ModuleEndPart start) others accepted).0.follows)
parts_valid (EndOfFilePart ∷ others) accepted ended range =
    absurd (not_first EndOfFilePart (both_fit [] EndOfFilePart others accepted).0.follows)

-- so what is read of a file is a valid module
pub spelled_is_object :
    (bytes : List ℕ) → IsBytes bytes → (object : ObjectModule) → Spells bytes object → IsObjectModule object
spelled_is_object bytes all object spells =
    let range : AllByRecursion InRange spells.parts =
    parts_range spells.parts (subst IsBytes (spells.file).spelled all) in
    subst IsObjectModule (sym spells.said)
    (parts_valid spells.parts (spells.file).accepted (spells.file).ended range)
