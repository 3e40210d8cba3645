-- The contents that are written may stand where they stand, and so may their fix records.
use Rattle.object_laws.proofs.Prelude.{◌≡◌, ℕ, suc, ◌+◌, ◌-◌, ◌<◌, ◌≤◌, ◌==◌, Bool, true, false, cond, not, ◌&&◌, nat_lt, nat_le, List, [], ◌∷◌, ◌++◌, length, map, flat_map, filter_map, Some, None, refl, ap, sym, subst, ◌∙◌, arith, AllByRecursion, cons_option, list_all, option_or, option_map_or, and_parts, and_from, le-leb, length-map, list_all-append, BODY_LIMIT, word_bytes, Fix, FixKind, Segment, Absolute, Code, Data, Stack, Target, InSegment, External, SetByte, holds_bytes, is_movable, is_target, Reference, Content, Part, ContentPart, ExternalReferencesPart, RelocationPart, IntersegmentPart, kind_of_part, body_of, fix_kind_number, reference_bytes, is_empty, same_segment, rank_of, is_fix_record, entries_of, externals_of, content_of, length_in, end_by_content, stated_length_of, latest_content, content_end, filled_to, fixes_of, leading_fixes, is_served, is_other_segment, is_body, fits_segment, fix_end, is_within, are_apart, fit_content, is_accepted, are_accepted, publics_of, name_of_header, start_of_end, Run, packed, fixes_from, fix_kinds, reference_for, offset_for, external_fix_parts, relocation_parts, intersegment_parts, other_segments, fix_parts, content_parts, all_append, all_both, all_mapped, all_weaker}
use Rattle.object_laws.proofs.Texts.Groups.{total, Fits, packed_fit, packed_joined, length_total, count_total, all_in_groups}
use Rattle.object_laws.proofs.Texts.Counted.{times, times_append, covers, once_apart}
use Rattle.object_laws.proofs.Texts.Runs.{InOrder, order_ends}
use Rattle.object_laws.proofs.Texts.Cuts.{IsCut}
use Rattle.object_laws.proofs.Texts.Fixes.{fixes_once, fixes_within, HasTarget, fixes_have_targets}
use Rattle.object_laws.proofs.Texts.Laid.{InOneClass, fix_parts_laid, all_classed, times_laid, all_laid}
use Rattle.object_laws.proofs.Texts.Accepting.{onto, accepted_append, accepted_by, fit_nothing, UpTo, up_to_onto, follows_content, AtContents, follows_fix, flat_map_onto, filled_onto, leading_more, leading_none, some_items, all_pass, all_flat_map}

-- a fix record of a content, in a file with so many external names
pub record IsFixPart (content : Content) (external_count : ℕ) (part : Part) : Type 0 where
  pub limit : length (body_of part) ≤ BODY_LIMIT
  pub fix_record : is_fix_record (kind_of_part part) ≡ true
  pub rank : rank_of (kind_of_part part) ≡ 3
  pub no_entries : entries_of part ≡ []
  pub no_externals : externals_of part ≡ []
  pub no_content : content_of part ≡ None
  pub no_publics : publics_of part ≡ []
  pub no_name : name_of_header part ≡ None
  pub no_start : start_of_end part ≡ None
  pub body : (before : List Part) → latest_content before ≡ Some content
      → length (flat_map externals_of before) ≡ external_count → is_body before part ≡ true

-- external references
abbrev pub IsReference : (external_count : ℕ) → Reference → Type 0
IsReference external_count reference = nat_lt reference.external external_count ≡ true

reference_parts :
    (content : Content) (external_count : ℕ) (kind : FixKind) (group : List Reference)
    → Fits (λ (reference : Reference). 4) 1026 group × AllByRecursion (IsReference external_count) group
    → IsFixPart content external_count (ExternalReferencesPart kind group)
reference_parts content external_count kind group h =
    let long : length (flat_map reference_bytes group) ≡ total (λ (reference : Reference). 4) group =
    length_total reference_bytes group in
    let limit : total (λ (reference : Reference). 4) group ≤ 1026 = h.0.1 in
    record {
      limit = (let l : suc (length (flat_map reference_bytes
          group)) ≤ BODY_LIMIT = omega (arith, long, limit) in l);
      fix_record = refl;
      rank = refl;
      no_entries = refl;
      no_externals = refl;
      no_content = refl;
      no_publics = refl;
      no_name = refl;
      no_start = refl;
      body = λ before latest count.
          and_from (not (is_empty group))
          (list_all
          (λ (reference : Reference). nat_lt reference.external (length (flat_map externals_of before)))
          group)
          (some_items group h.0.0)
          (ap (λ n. list_all (λ (reference : Reference). nat_lt reference.external n) group) count
          ∙ all_pass (λ (reference : Reference). nat_lt reference.external external_count) group h.1);
    }

small : {A : Type 0} (size limit : ℕ) → size ≤ limit → (items : List A)
    → AllByRecursion (λ (item : A). size ≤ limit) items
small size limit h [] = tt
small size limit h (item ∷ items) = (h, small size limit h items)

kept_reference :
    (external_count : ℕ) (kind own : FixKind) (target : Target) (offset : ℕ) (others : List Reference)
    → is_target external_count target ≡ true → AllByRecursion (IsReference external_count) others
    → AllByRecursion (IsReference external_count)
    (cons_option (reference_for kind (record { kind = own; target = target; offset = offset })) others)
kept_reference external_count kind own (InSegment segment) offset others h all =
    go (fix_kind_number own == fix_kind_number kind)
  where
    go : (b : Bool) → AllByRecursion (IsReference external_count) (cons_option (cond b None None) others)
    go true = all
    go false = all
kept_reference external_count kind own (External number) offset others h all =
    go (fix_kind_number own == fix_kind_number kind)
  where
    go : (b : Bool)
        → AllByRecursion (IsReference external_count)
        (cons_option (cond b (Some (record { external = number; offset = offset })) None) others)
    go true = ((and_parts (nat_lt number external_count) (nat_lt number 65536) h).0, all)
    go false = all

abbrev pub IsTarget : (external_count : ℕ) → Fix → Type 0
IsTarget external_count fix = is_target external_count fix.target ≡ true

all_references :
    (external_count : ℕ) (kind : FixKind) (fixes : List Fix) → AllByRecursion (IsTarget external_count) fixes
    → AllByRecursion (IsReference external_count) (filter_map (reference_for kind) fixes)
all_references external_count kind [] all = tt
all_references external_count kind (fix ∷ fixes) all =
    kept_reference external_count kind fix.kind fix.target fix.offset
    (filter_map (reference_for kind) fixes) all.0
    (all_references external_count kind fixes all.1)

each_of : {A : Type 0} (P : A → Type 0) → ((x : A) → P x) → (xs : List A) → AllByRecursion P xs
each_of P h [] = tt
each_of P h (x ∷ xs) = (h x, each_of P h xs)

externals_are :
    (content : Content) (external_count : ℕ) (fixes : List Fix)
    → AllByRecursion (IsTarget external_count) fixes
    → (kind : FixKind) → AllByRecursion (IsFixPart content external_count) (external_fix_parts fixes kind)
externals_are content external_count fixes all kind =
    let references : List Reference = filter_map (reference_for kind) fixes in
    let groups : List (List Reference) = packed (λ (reference : Reference). 4) (BODY_LIMIT - 1) references in
    all_mapped
    (λ group. Fits (λ (reference : Reference). 4) 1026 group
    × AllByRecursion (IsReference external_count) group)
    (IsFixPart content external_count) (ExternalReferencesPart kind)
    (λ group h. reference_parts content external_count kind group h) groups
    (all_both (Fits (λ (reference : Reference). 4) 1026) (AllByRecursion (IsReference external_count)) groups
    (packed_fit (λ (reference : Reference). 4) (BODY_LIMIT - 1) references
    (small 4 1026 (omega arith) references))
    (all_in_groups (IsReference external_count) groups
    (subst (AllByRecursion (IsReference external_count))
    (sym (packed_joined (λ (reference : Reference). 4) (BODY_LIMIT - 1) references))
    (all_references external_count kind fixes all))))

-- relocation
relocation_part :
    (content : Content) (external_count : ℕ) (kind : FixKind) (group : List ℕ)
    → Fits (λ (offset : ℕ). 2) 1026 group
    → IsFixPart content external_count (RelocationPart kind group)
relocation_part content external_count kind group h =
    let long : length (flat_map word_bytes group) ≡ total (λ (offset : ℕ). 2) group =
    length_total word_bytes group in
    let limit : total (λ (offset : ℕ). 2) group ≤ 1026 = h.1 in
    record {
      limit = (let l : suc (length (flat_map word_bytes
          group)) ≤ BODY_LIMIT = omega (arith, long, limit) in l);
      fix_record = refl;
      rank = refl;
      no_entries = refl;
      no_externals = refl;
      no_content = refl;
      no_publics = refl;
      no_name = refl;
      no_start = refl;
      body = λ before latest count. some_items group h.0;
    }

relocations_are :
    (content : Content) (external_count : ℕ) (own : Segment) (fixes : List Fix) (kind : FixKind)
    → AllByRecursion (IsFixPart content external_count) (relocation_parts own fixes kind)
relocations_are content external_count own fixes kind =
    let offsets : List ℕ = filter_map (offset_for own kind) fixes in
    all_mapped (Fits (λ (offset : ℕ). 2) 1026) (IsFixPart content external_count) (RelocationPart kind)
    (λ group h. relocation_part content external_count kind group h)
    (packed (λ (offset : ℕ). 2) (BODY_LIMIT - 1) offsets)
    (packed_fit (λ (offset : ℕ). 2) (BODY_LIMIT - 1) offsets (small 2 1026 (omega arith) offsets))

-- references to other segments
abbrev pub IsOther : (own : Segment) → Segment → Type 0
IsOther own target = (is_movable target && not (same_segment target own)) ≡ true

others_are : (own : Segment) → AllByRecursion (IsOther own) (other_segments own)
others_are Absolute = (refl, (refl, (refl, tt)))
others_are Code = (refl, (refl, tt))
others_are Data = (refl, (refl, tt))
others_are Stack = (refl, (refl, tt))

intersegment_part :
    (content : Content) (external_count : ℕ) (target : Segment) → IsOther content.segment target
    → (kind : FixKind) (group : List ℕ) → Fits (λ (offset : ℕ). 2) 1025 group
    → IsFixPart content external_count (IntersegmentPart target kind group)
intersegment_part content external_count target other kind group h =
    let long : length (flat_map word_bytes group) ≡ total (λ (offset : ℕ). 2) group =
    length_total word_bytes group in
    let limit : total (λ (offset : ℕ). 2) group ≤ 1025 = h.1 in
    record {
      limit = (let l : suc (suc (length (flat_map word_bytes
          group))) ≤ BODY_LIMIT = omega (arith, long, limit) in l);
      fix_record = refl;
      rank = refl;
      no_entries = refl;
      no_externals = refl;
      no_content = refl;
      no_publics = refl;
      no_name = refl;
      no_start = refl;
      body = λ before latest count.
          and_from (not (is_empty group)) (is_other_segment target (latest_content before))
          (some_items group h.0)
          (ap (is_other_segment target) latest ∙ other);
    }

intersegments_are :
    (content : Content) (external_count : ℕ) (fixes : List Fix) (target : Segment)
    → IsOther content.segment target
    → (kind : FixKind) → AllByRecursion (IsFixPart content external_count)
    (intersegment_parts fixes target kind)
intersegments_are content external_count fixes target other kind =
    let offsets : List ℕ = filter_map (offset_for target kind) fixes in
    all_mapped (Fits (λ (offset : ℕ). 2) 1025) (IsFixPart content external_count)
    (IntersegmentPart target kind)
    (λ group h. intersegment_part content external_count target other kind group h)
    (packed (λ (offset : ℕ). 2) (BODY_LIMIT - 2) offsets)
    (packed_fit (λ (offset : ℕ). 2) (BODY_LIMIT - 2) offsets (small 2 1025 (omega arith) offsets))

pub fix_parts_are :
    (content : Content) (external_count : ℕ) (fixes : List Fix)
    → AllByRecursion (IsTarget external_count) fixes
    → AllByRecursion (IsFixPart content external_count) (fix_parts content.segment fixes)
fix_parts_are content external_count fixes all =
    let externals : List Part = flat_map (external_fix_parts fixes) fix_kinds in
    let relocations : List Part = flat_map (relocation_parts content.segment fixes) fix_kinds in
    let others : List Part =
    flat_map (λ target. flat_map (intersegment_parts fixes target) fix_kinds)
    (other_segments content.segment) in
    all_append (IsFixPart content external_count) (externals ++ relocations) others
    (all_append (IsFixPart content external_count) externals relocations
    (all_flat_map (IsFixPart content external_count) (external_fix_parts fixes) fix_kinds
    (each_of (λ kind. AllByRecursion (IsFixPart content external_count) (external_fix_parts fixes kind))
    (externals_are content external_count fixes all) fix_kinds))
    (all_flat_map (IsFixPart content external_count) (relocation_parts content.segment fixes) fix_kinds
    (each_of (λ kind. AllByRecursion (IsFixPart content external_count)
    (relocation_parts content.segment fixes kind))
    (relocations_are content external_count content.segment fixes) fix_kinds)))
    (all_flat_map (IsFixPart content external_count)
    (λ target. flat_map (intersegment_parts fixes target) fix_kinds) (other_segments content.segment)
    (all_weaker (IsOther content.segment)
    (λ target. AllByRecursion (IsFixPart content external_count)
    (flat_map (intersegment_parts fixes target) fix_kinds))
    (λ target other.
    all_flat_map (IsFixPart content external_count) (intersegment_parts fixes target) fix_kinds
    (each_of (λ kind. AllByRecursion (IsFixPart content external_count)
    (intersegment_parts fixes target kind))
    (intersegments_are content external_count fixes target other) fix_kinds))
    (other_segments content.segment) (others_are content.segment)))

-- fix records after a content
pub fixes_accepted :
    (content : Content) (external_count : ℕ) (parts before : List Part) → AtContents before
    → latest_content before ≡ Some content → length (flat_map externals_of before) ≡ external_count
    → AllByRecursion (IsFixPart content external_count) parts
    → list_all (is_within content) (flat_map (fixes_of content.segment) parts) ≡ true
    → ((place : ℕ)
    → times (covers place) (flat_map (fixes_of content.segment) parts)
    + times (covers place) (leading_fixes content.segment before) ≤ 1)
    → are_accepted before parts ≡ true
fixes_accepted content external_count [] before at latest count all within once = refl
fixes_accepted content external_count (part ∷ parts) before at latest count all within once =
    let own : List Fix = fixes_of content.segment part in
    let later : List Fix = flat_map (fixes_of content.segment) parts in
    let there : List Fix = leading_fixes content.segment before in
    let t = and_parts (list_all (is_within content) own) (list_all (is_within content) later)
    (sym (list_all-append (is_within content) own later) ∙ within) in
    let split : (place : ℕ)
    → times (covers place) (own ++ later) ≡ times (covers place) own + times (covers place) later =
    λ place. times_append (covers place) own later in
    let is_part : IsFixPart content external_count part = all.0 in
    and_from (is_accepted before part) (are_accepted (part ∷ before) parts)
    (accepted_by before part (record {
      limit = is_part.limit;
      follows = follows_fix before (kind_of_part part) at is_part.fix_record;
      body = is_part.body before latest count;
      served = ap (list_all is_served) is_part.no_entries;
      content =
          ap (λ c. option_map_or (λ (c : Content). not (fits_segment before c)) c false) is_part.no_content;
      fixes =
          ap (fit_content before part) latest
          ∙ and_from (list_all (is_within content) own) (are_apart own there) t.0
          (once_apart own there
          (λ place.
          let s : times (covers place) (own ++ later)
          ≡ times (covers place) own + times (covers place) later =
          split place in
          let o : times (covers place) (own ++ later) + times (covers place) there ≤ 1 = once place in
          omega (arith, s, o)));
    }))
    (fixes_accepted content external_count parts (part ∷ before) is_part.rank
    (ap (λ c. option_or c (latest_content before)) is_part.no_content ∙ latest)
    (ap (λ names. length (names ++ flat_map externals_of before)) is_part.no_externals ∙ count) all.1 t.1
    (λ place.
    let s : times (covers place) (own ++ later) ≡ times (covers place) own + times (covers place) later =
    split place in
    let o : times (covers place) (own ++ later) + times (covers place) there ≤ 1 = once place in
    let m : times (covers place) (leading_fixes content.segment (part ∷ before))
    ≡ times (covers place) (own ++ there) =
    ap (times (covers place)) (leading_more content.segment part before is_part.fix_record) in
    let n : times (covers place) (own ++ there) ≡ times (covers place) own + times (covers place) there =
    times_append (covers place) own there in
    omega (arith, s, o, m, n)))

-- the content that bytes in a row are
abbrev pub content_for : Segment → Run SetByte → Content
content_for segment cut = record {
  segment = segment;
  offset = cut.offset;
  bytes = map (λ (here : SetByte). here.value) cut.items;
}

abbrev pub HasTargets : (external_count : ℕ) → Run SetByte → Type 0
HasTargets external_count cut = AllByRecursion (HasTarget external_count) cut.items

-- what the parts before the contents of a segment tell
pub record BeforeContents (segment : Segment) (external_count size filled : ℕ)
    (before : List Part) : Type 0 where
  pub up : UpTo 3 before
  pub stated : stated_length_of segment before ≡ size
  pub to_here : filled_to segment before ≤ filled
  pub count : length (flat_map externals_of before) ≡ external_count

pub content_end_is : (segment : Segment) (cut : Run SetByte)
    → content_end (content_for segment cut) ≡ cut.offset + length cut.items
content_end_is segment cut = ap (λ n. cut.offset + n) (length-map cut.items (λ (here : SetByte). here.value))

content_accepted :
    (segment : Segment) → holds_bytes segment ≡ true → (external_count size filled : ℕ) (cut : Run SetByte)
    → (before : List Part) → BeforeContents segment external_count size filled before → filled ≤ cut.offset
    → cut.offset + length cut.items ≤ size → IsCut cut
    → is_accepted before (ContentPart (content_for segment cut)) ≡ true
content_accepted segment holds external_count size filled cut before facts from to is_cut =
    let content : Content = content_for segment cut in
    let long : length content.bytes ≡ length cut.items =
    length-map cut.items (λ (here : SetByte). here.value) in
    let counted : total (λ (here : SetByte). 1) cut.items ≡ length cut.items = count_total cut.items in
    let limit : total (λ (here : SetByte). 1) cut.items ≤ 1024 = is_cut.fits.1 in
    let some : 0 < length cut.items = is_cut.fits.0 in
    let end : content_end content ≡ cut.offset + length cut.items = content_end_is segment cut in
    let stated : stated_length_of segment before ≡ size = facts.stated in
    let to_here : filled_to segment before ≤ filled = facts.to_here in
    accepted_by before (ContentPart content) (record {
      limit = (let l : suc (suc (suc (length
          content.bytes))) ≤ BODY_LIMIT = omega (arith, long, counted, limit) in l);
      follows = follows_content before facts.up;
      body = and_from (holds_bytes segment) (not (is_empty content.bytes)) holds
          (some_items content.bytes (omega (arith, long, some)));
      served = refl;
      content =
          ap not (and_from (nat_le (content_end content) (stated_length_of segment before))
          (nat_le (filled_to segment before) cut.offset)
          (le-leb (content_end content) (stated_length_of segment before) (omega (arith, end, stated, to)))
          (le-leb (filled_to segment before) cut.offset (omega (arith, to_here, from))));
      fixes = fit_nothing before (ContentPart content) (latest_content before) (λ own. refl);
    })

is_in_content :
    (segment : Segment) (cut : Run SetByte) (fix : Fix)
    → (cut.offset ≤ fix.offset) × (fix_end fix ≤ cut.offset + length cut.items)
    → is_within (content_for segment cut) fix ≡ true
is_in_content segment cut fix h =
    let end : content_end (content_for segment cut) ≡ cut.offset + length cut.items =
    content_end_is segment cut in
    let to : fix_end fix ≤ cut.offset + length cut.items = h.1 in
    and_from (nat_le cut.offset fix.offset) (nat_le (fix_end fix) (content_end (content_for segment cut)))
    (le-leb cut.offset fix.offset h.0)
    (le-leb (fix_end fix) (content_end (content_for segment cut)) (omega (arith, end, to)))

pub same_self : (segment : Segment) → same_segment segment segment ≡ true
same_self Absolute = refl
same_self Code = refl
same_self Data = refl
same_self Stack = refl

-- the records of one content
pub cut_accepted :
    (segment : Segment) → holds_bytes segment ≡ true → (external_count size filled : ℕ) (cut : Run SetByte)
    → (before : List Part) → BeforeContents segment external_count size filled before → filled ≤ cut.offset
    → cut.offset + length cut.items ≤ size → IsCut cut → HasTargets external_count cut
    → are_accepted before (content_parts segment cut) ≡ true
cut_accepted segment holds external_count size filled cut before facts from to is_cut targets =
    let content : Content = content_for segment cut in
    let fixes : List Fix = fixes_from cut.offset cut.items in
    let go_to : AllByRecursion (IsTarget external_count) fixes =
    fixes_have_targets external_count cut.offset cut.items targets in
    let classed : AllByRecursion (InOneClass segment) fixes =
    all_classed external_count segment holds fixes go_to in
    let first : Part = ContentPart content in
    and_from (is_accepted before first) (are_accepted (first ∷ before) (fix_parts segment fixes))
    (content_accepted segment holds external_count size filled cut before facts from to is_cut)
    (fixes_accepted content external_count (fix_parts segment fixes) (first ∷ before) refl refl facts.count
    (fix_parts_are content external_count fixes go_to)
    (ap (list_all (is_within content)) (fix_parts_laid segment fixes)
    ∙ all_laid (is_within content) segment fixes classed
    (all_weaker (λ (fix : Fix). (cut.offset ≤ fix.offset) × (fix_end fix ≤ cut.offset + length cut.items))
    (λ fix. is_within content fix ≡ true) (is_in_content segment cut) fixes
    (fixes_within cut.offset (cut.offset + length cut.items) cut.offset cut.items (omega arith)
    (omega arith) is_cut.whole)))
    (λ place.
    let a : times (covers place) (flat_map (fixes_of segment) (fix_parts segment fixes))
    ≡ times (covers place) fixes =
    ap (times (covers place)) (fix_parts_laid segment fixes)
    ∙ times_laid (covers place) segment fixes classed in
    let b : times (covers place) fixes ≤ 1 = fixes_once place cut.offset cut.items is_cut.whole in
    let c : times (covers place) (leading_fixes segment (first ∷ before)) ≡ 0 =
    ap (times (covers place)) (leading_none segment first before refl) in
    omega (arith, a, b, c)))

-- what the parts before tell after a content
pub after_cut :
    (segment : Segment) (external_count size filled : ℕ) (cut : Run SetByte) (before : List Part)
    → BeforeContents segment external_count size filled before → HasTargets external_count cut
    → BeforeContents segment external_count size (cut.offset + length cut.items)
    (onto (content_parts segment cut) before)
after_cut segment external_count size filled cut before facts targets =
    let content : Content = content_for segment cut in
    let fixes : List Fix = fixes_from cut.offset cut.items in
    let first : Part = ContentPart content in
    let parts : List Part = fix_parts segment fixes in
    let all : AllByRecursion (IsFixPart content external_count) parts =
    fix_parts_are content external_count fixes
    (fixes_have_targets external_count cut.offset cut.items targets) in
    let end : content_end content ≡ cut.offset + length cut.items = content_end_is segment cut in
    let filled_is : filled_to segment (onto parts (first ∷ before)) ≡ content_end content =
    filled_onto segment parts (first ∷ before)
    (all_weaker (IsFixPart content external_count)
    (λ part. (end : ℕ) → end_by_content segment (content_of part) end ≡ end)
    (λ part is before_end. ap (λ c. end_by_content segment c before_end) is.no_content) parts all)
    ∙ ap (λ b. cond b (content_end content) (filled_to segment before)) (same_self segment) in
    record {
      up = up_to_onto 3 parts (first ∷ before) (let u : 3 ≤ 3 = omega arith in u)
          (all_weaker (IsFixPart content external_count) (λ part. rank_of (kind_of_part part) ≤ 3)
          (λ part is. let r : rank_of (kind_of_part part) ≡ 3 = is.rank in omega (arith, r)) parts all);
      stated =
          ap (λ entries. length_in entries segment)
          (flat_map_onto entries_of parts (first ∷ before)
          (all_weaker (IsFixPart content external_count) (λ part. entries_of part ≡ [])
          (λ part is. is.no_entries) parts all))
          ∙ facts.stated;
      to_here = omega (arith, filled_is, end);
      count =
          ap length
          (flat_map_onto externals_of parts (first ∷ before)
          (all_weaker (IsFixPart content external_count) (λ part. externals_of part ≡ [])
          (λ part is. is.no_externals) parts all))
          ∙ facts.count;
    }

-- the records of all contents of a segment
pub contents_accepted :
    (segment : Segment) → holds_bytes segment ≡ true
    → (external_count size filled : ℕ) (cuts : List (Run SetByte))
    → (before : List Part) → BeforeContents segment external_count size filled before
    → InOrder filled size cuts
    → AllByRecursion IsCut cuts → AllByRecursion (HasTargets external_count) cuts
    → are_accepted before (flat_map (content_parts segment) cuts) ≡ true
contents_accepted segment holds external_count size filled [] before facts order all targets = refl
contents_accepted segment holds external_count size filled (cut ∷ cuts) before facts order all targets =
    accepted_append before (content_parts segment cut) (flat_map (content_parts segment) cuts)
    (cut_accepted segment holds external_count size filled cut before facts order.0
    (order_ends (cut.offset + length cut.items) size cuts order.2) all.0 targets.0)
    (contents_accepted segment holds external_count size (cut.offset + length cut.items) cuts
    (onto (content_parts segment cut) before)
    (after_cut segment external_count size filled cut before facts targets.0)
    order.2 all.1 targets.1)
