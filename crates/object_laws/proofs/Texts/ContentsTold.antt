-- What the contents that are written tell, place by place, is what the places of their segment are.
use Rattle.object_laws.proofs.Prelude.{◌≡◌, ℕ, zero, suc, ◌+◌, ◌-◌, ◌<◌, ◌≤◌, Bool, true, false, cond, ◌&&◌, nat_lt, nat_le, List, [], ◌∷◌, ◌++◌, length, map, flat_map, find, slice_get, slice_index, Option, Some, None, option_map, refl, ap, sym, ◌∙◌, arith, AllByRecursion, range_with_len, option_or, option_flatten, and_parts, leb-true, ltb-true, append_assoc, slice_get-map, get_or_from_slice_get, Fix, Segment, Fixup, SetByte, holds_bytes, Content, Part, HeaderPart, ExternalNamesPart, PublicsPart, ContentPart, ExternalReferencesPart, RelocationPart, IntersegmentPart, ModuleEndPart, EndOfFilePart, kind_of_part, same_segment, is_fix_record, content_of, content_end, fixes_of, leading_fixes, FixedContent, fixed_contents, holds_place, set_at, set_in, Run, fixes_from, fix_parts, content_parts, all_weaker}
use Rattle.object_laws.proofs.Texts.Runs.{item_at}
use Rattle.object_laws.proofs.Texts.Cuts.{IsCut}
use Rattle.object_laws.proofs.Texts.Fixes.{begins_at, begins_once, fixup_of, fix_found, fixes_have_targets}
use Rattle.object_laws.proofs.Texts.Laid.{classes, laid, fix_parts_laid, all_classed, find_laid}
use Rattle.object_laws.proofs.Texts.Accepting.{leading_more, leading_none}
use Rattle.object_laws.proofs.Texts.ContentsAccepted.{IsFixPart, fix_parts_are, content_for, HasTargets, content_end_is, same_self}

-- no fix record comes first
abbrev pub NoFixFirst : List Part → Type 0
NoFixFirst [] = Unit {0}
NoFixFirst (part ∷ others) = is_fix_record (kind_of_part part) ≡ false

-- fix records in front of others are those that lead
leading_all :
    (own : Segment) (parts others : List Part)
    → AllByRecursion (λ part. is_fix_record (kind_of_part part) ≡ true) parts → NoFixFirst others
    → leading_fixes own (parts ++ others) ≡ flat_map (fixes_of own) parts
leading_all own [] [] all h = refl
leading_all own [] (part ∷ others) all h = leading_none own part others h
leading_all own (part ∷ parts) others all h =
    leading_more own part (parts ++ others) all.0
    ∙ ap (λ r. fixes_of own part ++ r) (leading_all own parts others all.1 h)

-- contents among other parts
fixed_past : (part : Part) (others : List Part) → content_of part ≡ None
    → fixed_contents (part ∷ others) ≡ fixed_contents others
fixed_past (HeaderPart name translator version entries) others h = refl
fixed_past (ExternalNamesPart names) others h = refl
fixed_past (PublicsPart segment definitions) others h = refl
fixed_past (ContentPart content) others h = absurd (let bad : Some content ≡ None = h in cc)
fixed_past (ExternalReferencesPart kind references) others h = refl
fixed_past (RelocationPart kind offsets) others h = refl
fixed_past (IntersegmentPart target kind offsets) others h = refl
fixed_past (ModuleEndPart start) others h = refl
fixed_past EndOfFilePart others h = refl

pub fixed_skip :
    (parts others : List Part) → AllByRecursion (λ part. content_of part ≡ None) parts
    → fixed_contents (parts ++ others) ≡ fixed_contents others
fixed_skip [] others all = refl
fixed_skip (part ∷ parts) others all = fixed_past part (parts ++ others) all.0 ∙ fixed_skip parts others all.1

-- a content and its fixes, as they are read again
abbrev fixed_with : Content → List Fix → FixedContent
fixed_with content fixes = record { content = content; fixes = fixes }

abbrev pub fixed_for : Segment → Run SetByte → FixedContent
fixed_for segment cut =
    fixed_with (content_for segment cut) (laid (classes segment) (fixes_from cut.offset cut.items))

pub no_fix_first :
    (segment : Segment) (cuts : List (Run SetByte)) (others : List Part) → NoFixFirst others
    → NoFixFirst (flat_map (content_parts segment) cuts ++ others)
no_fix_first segment [] others h = h
no_fix_first segment (cut ∷ cuts) others h = refl

pub fixed_cuts :
    (segment : Segment) (external_count : ℕ) (cuts : List (Run SetByte)) (others : List Part)
    → NoFixFirst others
    → AllByRecursion (HasTargets external_count) cuts
    → fixed_contents (flat_map (content_parts segment) cuts ++ others)
    ≡ map (fixed_for segment) cuts ++ fixed_contents others
fixed_cuts segment external_count [] others h targets = refl
fixed_cuts segment external_count (cut ∷ cuts) others h targets =
    let content : Content = content_for segment cut in
    let fixes : List Fix = fixes_from cut.offset cut.items in
    let parts : List Part = fix_parts segment fixes in
    let later : List Part = flat_map (content_parts segment) cuts in
    let all : AllByRecursion (IsFixPart content external_count) parts =
    fix_parts_are content external_count fixes
    (fixes_have_targets external_count cut.offset cut.items targets.0) in
    let grouped : (parts ++ later) ++ others ≡ parts ++ (later ++ others) = append_assoc parts later others in
    ap (λ r. fixed_with content (leading_fixes segment r) ∷ fixed_contents r) grouped
    ∙ ap (λ f. fixed_with content f ∷ fixed_contents (parts ++ (later ++ others)))
    (leading_all segment parts (later ++ others)
    (all_weaker (IsFixPart content external_count) (λ part. is_fix_record (kind_of_part part) ≡ true)
    (λ part is. is.fix_record) parts all)
    (no_fix_first segment cuts others h)
    ∙ fix_parts_laid segment fixes)
    ∙ ap (λ r. fixed_for segment cut ∷ r)
    (fixed_skip parts (later ++ others)
    (all_weaker (IsFixPart content external_count) (λ part. content_of part ≡ None)
    (λ part is. is.no_content) parts all)
    ∙ fixed_cuts segment external_count cuts others h targets.1)

-- what a content sets at a place that it has
abbrev byte_with : ℕ → Option Fixup → SetByte
byte_with value fixup = record { value = value; fixup = fixup }

same_byte :
    (value : ℕ) (fixup : Option Fixup) (here : SetByte) → value ≡ here.value → fixup ≡ here.fixup
    → byte_with value fixup ≡ here
same_byte value fixup here v f = ap (λ n. byte_with n fixup) v ∙ ap (λ o. byte_with here.value o) f

set_here :
    (segment : Segment) → holds_bytes segment ≡ true → (external_count place number : ℕ) (cut : Run SetByte)
    → (here : SetByte) → IsCut cut → HasTargets external_count cut → cut.offset + number ≡ place
    → slice_get cut.items number ≡ Some here → set_at place (fixed_for segment cut) ≡ here
set_here segment holds external_count place number cut here is_cut targets at found =
    let fixes : List Fix = fixes_from cut.offset cut.items in
    let counted : place - cut.offset ≡ number = omega (arith, at) in
    let values : List ℕ = map (λ (b : SetByte). b.value) cut.items in
    same_byte (slice_index values (place - cut.offset))
    (fixup_of (find (begins_at place) (laid (classes segment) fixes))) here
    (ap (slice_index values) counted
    ∙ get_or_from_slice_get values number here.value 0
    (slice_get-map (λ (b : SetByte). b.value) cut.items number
    ∙ ap (option_map (λ (b : SetByte). b.value)) found))
    (ap fixup_of
    (find_laid (begins_at place) segment fixes
    (all_classed external_count segment holds fixes
    (fixes_have_targets external_count cut.offset cut.items targets))
    (begins_once place cut.offset cut.items is_cut.whole))
    ∙ ap (λ p. fixup_of (find (begins_at p) fixes)) (sym at)
    ∙ fix_found cut.offset number cut.items here found)

-- an item within a list
record Item {A : Type 0} (xs : List A) (number : ℕ) : Type 0 where
  item : A
  is : slice_get xs number ≡ Some item

item_there : {A : Type 0} (xs : List A) (number : ℕ) → number < length xs → Item xs number
item_there [] number h = absurd (omega (arith, h))
item_there (x ∷ xs) zero h = record { item = x; is = refl }
item_there (x ∷ xs) (suc number) h =
    let later = item_there xs number (omega (arith, h)) in record { item = later.item; is = later.is }

-- contents of a segment in front of others
set_first :
    (segment : Segment) → holds_bytes segment ≡ true → (external_count place : ℕ) (cut : Run SetByte)
    → IsCut cut → HasTargets external_count cut
    → (nat_le cut.offset place && nat_lt place (cut.offset + length cut.items)) ≡ true
    → Some (set_at place (fixed_for segment cut)) ≡ slice_get cut.items (place - cut.offset)
set_first segment holds external_count place cut is_cut targets h =
    let t = and_parts (nat_le cut.offset place) (nat_lt place (cut.offset + length cut.items)) h in
    let from : cut.offset ≤ place = leb-true cut.offset place t.0 in
    let to : place < cut.offset + length cut.items = ltb-true place (cut.offset + length cut.items) t.1 in
    let number : ℕ = place - cut.offset in
    let within : number < length cut.items = omega (arith, from, to) in
    let some = item_there cut.items number within in
    ap Some (set_here segment holds external_count place number cut some.item is_cut targets
    (omega (arith, from)) some.is)
    ∙ sym some.is

holds_is :
    (segment : Segment) (place : ℕ) (cut : Run SetByte)
    → holds_place segment place (fixed_for segment cut)
    ≡ (nat_le cut.offset place && nat_lt place (cut.offset + length cut.items))
holds_is segment place cut =
    ap (λ b. b && nat_le cut.offset place && nat_lt place (content_end (content_for segment cut)))
    (same_self segment)
    ∙ ap (λ end. nat_le cut.offset place && nat_lt place end) (content_end_is segment cut)

pub set_in_cuts :
    (segment : Segment) → holds_bytes segment ≡ true → (external_count place : ℕ) (cuts : List (Run SetByte))
    → (others : List FixedContent) → AllByRecursion IsCut cuts
    → AllByRecursion (HasTargets external_count) cuts
    → set_in (map (fixed_for segment) cuts ++ others) segment place
    ≡ option_or (item_at place cuts) (set_in others segment place)
set_in_cuts segment holds external_count place [] others all targets = refl
set_in_cuts segment holds external_count place (cut ∷ cuts) others all targets =
    ap (λ b.
    option_map (set_at place)
    (cond b (Some (fixed_for segment cut))
    (find (holds_place segment place) (map (fixed_for segment) cuts ++ others))))
    (holds_is segment place cut)
    ∙ go (nat_le cut.offset place && nat_lt place (cut.offset + length cut.items)) refl
    (set_in_cuts segment holds external_count place cuts others all.1 targets.1)
  where
    go : (b : Bool) → (nat_le cut.offset place && nat_lt place (cut.offset + length cut.items)) ≡ b
        → set_in (map (fixed_for segment) cuts ++ others) segment place
        ≡ option_or (item_at place cuts) (set_in others segment place)
        → option_map (set_at place)
        (cond b (Some (fixed_for segment cut))
        (find (holds_place segment place) (map (fixed_for segment) cuts ++ others)))
        ≡ option_or (cond b (slice_get cut.items (place - cut.offset)) (item_at place cuts))
        (set_in others segment place)
    go true e later =
        ap (λ o. option_or o (set_in others segment place))
        (set_first segment holds external_count place cut all.0 targets.0 e)
    go false e later = later

-- contents of another segment
pub set_past_cuts :
    (own segment : Segment) → same_segment own segment ≡ false → (place : ℕ) (cuts : List (Run SetByte))
    → (others : List FixedContent)
    → set_in (map (fixed_for own) cuts ++ others) segment place ≡ set_in others segment place
set_past_cuts own segment h place [] others = refl
set_past_cuts own segment h place (cut ∷ cuts) others =
    ap (λ b.
    option_map (set_at place)
    (cond (b && nat_le cut.offset place && nat_lt place (content_end (content_for own cut)))
    (Some (fixed_for own cut))
    (find (holds_place segment place) (map (fixed_for own) cuts ++ others)))) h
    ∙ set_past_cuts own segment h place cuts others

-- places that are told one by one
pub places_again :
    {A : Type 0} (from : ℕ) (told : ℕ → Option A) (places : List (Option A))
    → ((number : ℕ) → told (from + number) ≡ option_flatten (slice_get places number))
    → map told (range_with_len from (length places)) ≡ places
places_again from told [] h = refl
places_again from told (place ∷ places) h =
    ap (λ p. p ∷ map told (range_with_len (from + 1) (length places)))
    (ap told (let e : from ≡ from + 0 = omega arith in e) ∙ h 0)
    ∙ ap (λ r. place ∷ r)
    (places_again (from + 1) told places
    (λ number. ap told (let e : from + 1 + number ≡ from + suc number = omega arith in e) ∙ h (suc number)))
