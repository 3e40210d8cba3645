-- The contents that a walk over a file hands out ascend within their segments, and their fixes are within
-- them and apart.
use Rattle.objmod.proofs.Prelude.{◌≡◌, ℕ, ◌+◌, Bool, true, false, cond, ◌&&◌, ◌||◌, ◌==◌, List, [], ◌∷◌, ◌++◌, length, filter, flat_map, reverse, Some, None, refl, ap, sym, subst, ◌∙◌, arith, list_any, AllByRecursion, append-nil, same_Some, IsBytes, Fix, Segment, Code, Data, is_both, SegmentEntry, Part, HeaderPart, ExternalNamesPart, PublicsPart, ContentPart, ExternalReferencesPart, RelocationPart, IntersegmentPart, ModuleEndPart, EndOfFilePart, content_end, end_by_content, entries_of, externals_of, is_ended, length_in, stated_length_of, are_accepted, FixedContent, fixed_contents, Walking, WalksOver, walk_over, both_fit, no_entries, InRange, parts_range, Ascend, Follow, contents_ascend, begins_at, word_at, clash, AllFit, Clear, ContentsFit, Placed, SegmentFits, fix_at, is_in, or_right}

-- where no word begins right before a fix, the second bytes of words are clear
no_second :
    (fixes : List Fix) (offset : ℕ) → list_any (begins_at offset) fixes ≡ false → fix_at fixes offset ≡ None
no_second [] offset h = refl
no_second (fix ∷ others) offset h = go (fix.offset == offset) h (no_second others offset)
  where
    go : (b : Bool) → (b || list_any (begins_at offset) others) ≡ false
        → (list_any (begins_at offset) others ≡ false → fix_at others offset ≡ None)
        → cond b (Some fix) (fix_at others offset) ≡ None
    go true k later = absurd (let bad : true ≡ false = k in cc)
    go false k later = later k

is_word :
    (fixes : List Fix) (offset : ℕ) (fix : Fix) → fix_at fixes offset ≡ Some fix → is_both fix.kind ≡ true
    → list_any (word_at offset) fixes ≡ true
is_word [] offset fix h wide = absurd (let bad : None ≡ Some fix = h in cc)
is_word (first ∷ others) offset fix h wide =
    go (first.offset == offset) refl h (λ later. is_word others offset fix later wide)
  where
    go : (b : Bool) → (first.offset == offset) ≡ b → cond b (Some first) (fix_at others offset) ≡ Some fix
        → (fix_at others offset ≡ Some fix → list_any (word_at offset) others ≡ true)
        → ((is_both first.kind && (first.offset == offset)) || list_any (word_at offset) others) ≡ true
    go true e k later =
        let same : first ≡ fix = same_Some first fix k in
        ap (λ b. (b && (first.offset == offset)) || list_any (word_at offset) others)
        (ap (λ (f : Fix). is_both f.kind) same ∙ wide)
        ∙ ap (λ b. b || list_any (word_at offset) others) e
    go false e k later =
        or_right (is_both first.kind && (first.offset == offset)) (list_any (word_at offset) others) (later k)

clear_of : (fixes : List Fix) → ((offset : ℕ) → clash offset fixes ≡ false) → Clear fixes
clear_of fixes none offset fix h wide =
    no_second fixes (offset + 1)
    (ap (λ b. b && list_any (begins_at (offset + 1)) fixes) (sym (is_word fixes offset fix h wide))
    ∙ none offset)

-- contents that ascend
abbrev Both_fit : (size end : ℕ) → List FixedContent → Type 0
Both_fit size end own = Placed size end own × AllFit own

fits_in :
    (count size : ℕ) (segment : Segment) (end : ℕ) (contents : List FixedContent)
    → Ascend count size segment end contents → Both_fit size end (filter (is_in segment) contents)
fits_in count size segment end [] ascend = (tt, tt)
fits_in count size segment end (fixed ∷ others) ascend =
    go (is_in segment fixed) refl
    (fits_in count size segment (end_by_content segment (Some fixed.content) end) others ascend.1)
  where
    go : (b : Bool) → is_in segment fixed ≡ b
        → Both_fit size (end_by_content segment (Some fixed.content) end) (filter (is_in segment) others)
        → Both_fit size end (cond b (fixed ∷ filter (is_in segment) others) (filter (is_in segment) others))
    go true e later =
        let own = ascend.0 e in
        let next =
        subst
        (λ after. Both_fit size after (filter (is_in segment) others))
        (ap (λ b. cond b (content_end fixed.content) end) e) later in (
          (own.begins, (own.sound).ends, next.0),
          ((own.sound).within, clear_of fixed.fixes (own.sound).clear, next.1),
        )
    go false e later =
        subst
        (λ after. Both_fit size after (filter (is_in segment) others))
        (ap (λ b. cond b (content_end fixed.content) end) e) later

-- the contents of a file that begins with a header
header_fits :
    (name : List ℕ) (translator version : ℕ) (entries : List SegmentEntry) (others : List Part)
    → are_accepted [] (HeaderPart name translator version entries ∷ others) ≡ true
    → AllByRecursion InRange (HeaderPart name translator version entries ∷ others) → (segment : Segment)
    → SegmentFits (stated_length_of segment (HeaderPart name translator version entries ∷ others)) segment
    (fixed_contents (HeaderPart name translator version entries ∷ others))
header_fits name translator version entries others accepted range segment =
    let header : Part = HeaderPart name translator version entries in
    let count : ℕ = length (flat_map externals_of (header ∷ others)) in
    let cut = both_fit [] header others accepted in
    let none = no_entries header [] others cut.1 in
    let lengths : flat_map entries_of (header ∷ others) ≡ entries =
    ap (λ e. entries ++ e) none ∙ append-nil entries in
    let follow : Follow (length (flat_map externals_of (header ∷ others))) entries (header ∷ []) others =
    record {
      header = append-nil entries;
      known = omega arith;
      range = range.1;
      accepted = cut.1;
    } in
    let fits : Both_fit (length_in entries segment) 0 (filter (is_in segment) (fixed_contents others)) =
    fits_in count (length_in entries segment) segment 0 (fixed_contents others)
    (contents_ascend count entries segment header [] others follow) in
    subst (λ e. SegmentFits (length_in e segment) segment (fixed_contents (header ∷ others))) (sym lengths)
    (record { placed = fits.0; fit = fits.1 })

-- and of each file, since it begins with one
parts_fit :
    (parts : List Part) → are_accepted [] parts ≡ true → is_ended (reverse parts) ≡ true
    → AllByRecursion InRange parts → (segment : Segment)
    → SegmentFits (stated_length_of segment parts) segment (fixed_contents parts)
parts_fit [] accepted ended range segment = absurd (let bad : false ≡ true = ended in cc)
parts_fit (HeaderPart name translator version entries ∷ others) accepted ended range segment =
    header_fits name translator version entries others accepted range segment
parts_fit (ExternalNamesPart names ∷ others) accepted ended range segment =
    absurd (let bad : false ≡ true = (both_fit [] (ExternalNamesPart names) others accepted).0.follows in cc)
parts_fit (PublicsPart place definitions ∷ others) accepted ended range segment =
    absurd (let bad : false ≡ true = (both_fit [] (PublicsPart place definitions) others
    accepted).0.follows in cc)
parts_fit (ContentPart content ∷ others) accepted ended range segment =
    absurd (let bad : false ≡ true = (both_fit [] (ContentPart content) others accepted).0.follows in cc)
parts_fit (ExternalReferencesPart kind references ∷ others) accepted ended range segment =
    absurd (let bad : false ≡ true = (both_fit [] (ExternalReferencesPart kind references) others
    accepted).0.follows in cc)
parts_fit (RelocationPart kind offsets ∷ others) accepted ended range segment =
    absurd (let bad : false ≡ true = (both_fit [] (RelocationPart kind offsets) others
    accepted).0.follows in cc)
parts_fit (IntersegmentPart target kind offsets ∷ others) accepted ended range segment =
    absurd (let bad : false ≡ true = (both_fit [] (IntersegmentPart target kind offsets) others
    accepted).0.follows in cc)
parts_fit (ModuleEndPart start ∷ others) accepted ended range segment =
    absurd (let bad : false ≡ true = (both_fit [] (ModuleEndPart start) others accepted).0.follows in cc)
parts_fit (EndOfFilePart ∷ others) accepted ended range segment =
    absurd (let bad : false ≡ true = (both_fit [] EndOfFilePart others accepted).0.follows in cc)

walk_fits :
    (parts : List Part) → are_accepted [] parts ≡ true → is_ended (reverse parts) ≡ true
    → AllByRecursion InRange parts → ContentsFit (walk_over parts)
unfolding walk_over
walk_fits parts accepted ended range = record {
  code = parts_fit parts accepted ended range Code;
  data_bytes = parts_fit parts accepted ended range Data;
}

-- the contents that a walk over a file hands out fit
pub contents_fit :
    (bytes : List ℕ) (walking : Walking) → IsBytes bytes → WalksOver bytes walking → ContentsFit walking
contents_fit bytes walking all over =
    let range : AllByRecursion InRange over.parts =
    parts_range over.parts (subst IsBytes (over.file).spelled all) in
    subst ContentsFit (sym over.from_the_front)
    (walk_fits over.parts (over.file).accepted (over.file).ended range)
