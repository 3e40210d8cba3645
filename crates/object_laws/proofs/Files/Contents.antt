-- The contents of a file: those of a segment ascend, so each place is set by one of them alone, with a fix
-- that is within it.
use Rattle.object_laws.proofs.Prelude.{◌≡◌, ℕ, zero, suc, ◌+◌, ◌-◌, ◌<◌, ◌≤◌, Bool, true, false, cond, not, ◌&&◌, ◌||◌, nat_lt, nat_le, List, [], ◌∷◌, ◌++◌, length, map, flat_map, find, Option, Some, None, option_map, refl, ap, sym, subst, ◌∙◌, le_trans, arith, list_all, list_any, range_with_len, AllByRecursion, option_map_or, and_parts, and_from, or_left, or_right, or_parts, lt-ltb, ltb-true, le-leb, leb-true, eqb-true, none-some, same_Some, append-nil, length-append, IsBytes, find_passes, Fix, Segment, Fixup, SetByte, width_of, is_both, begins_word, is_plain, words_are_whole, holds_bytes, is_target, is_valid_byte, SegmentEntry, Content, Part, HeaderPart, ExternalNamesPart, PublicsPart, ContentPart, ExternalReferencesPart, RelocationPart, IntersegmentPart, ModuleEndPart, EndOfFilePart, segment_number, segment_of, same_segment, is_empty, entries_of, externals_of, length_in, stated_length_of, content_end, end_by_content, filled_to, leading_fixes, is_within, fix_end, are_accepted, FixedContent, fixed_contents, holds_place, set_at, set_in, not-false}
use Rattle.object_laws.proofs.Files.FrontsAgain.{segment_again}
use Rattle.object_laws.proofs.Files.Bytes.{InRange, byte_at}
use Rattle.object_laws.proofs.Files.Accepted.{both_fit, no_entries_in}
use Rattle.object_laws.proofs.Files.FixesOfContents.{begins_at, word_at, clash, word_is, has_target, fixes_sound}

-- what a content with its fixes keeps to, in a segment of a size, with so many external names
pub record Sound (count size : ℕ) (fixed : FixedContent) : Type 0 where
  pub ends : content_end fixed.content ≤ size
  pub bytes : IsBytes (fixed.content).bytes
  pub targets : list_all (has_target count) fixed.fixes ≡ true
  pub within : list_all (is_within fixed.content) fixed.fixes ≡ true
  pub clear : (offset : ℕ) → clash offset fixed.fixes ≡ false

-- and that it begins where those before it end, or after that
pub record Own (count size end : ℕ) (fixed : FixedContent) : Type 0 where
  pub begins : end ≤ (fixed.content).offset
  pub sound : Sound count size fixed

-- contents of which those of a segment ascend from a place on
abbrev pub Ascend : (count size : ℕ) → Segment → (end : ℕ) → List FixedContent → Type 0
Ascend count size segment end [] = Unit {0}
Ascend count size segment end (fixed ∷ others) =
    (same_segment (fixed.content).segment segment ≡ true → Own count size end fixed)
    × Ascend count size segment (end_by_content segment (Some fixed.content) end) others

pub same_is : (left right : Segment) → same_segment left right ≡ true → left ≡ right
same_is left right h =
    same_Some left right
    (sym (segment_again left)
    ∙ ap segment_of (eqb-true (segment_number left) (segment_number right) h)
    ∙ segment_again right)

-- What is read of a file gives such contents.
-- what is known of parts that stand after these
pub record Follow (count : ℕ) (entries : List SegmentEntry) (before parts : List Part) : Type 0 where
  pub header : flat_map entries_of before ≡ entries
  pub known : length (flat_map externals_of before) + length (flat_map externals_of parts) ≤ count
  pub range : AllByRecursion InRange parts
  pub accepted : are_accepted before parts ≡ true

next_follow :
    (count : ℕ) (entries : List SegmentEntry) (latest : Part) (earlier : List Part) (part : Part)
    (others : List Part)
    → Follow count entries (latest ∷ earlier) (part ∷ others)
    → Follow count entries (part ∷ latest ∷ earlier) others
next_follow count entries latest earlier part others f =
    let cut = both_fit (latest ∷ earlier) part others f.accepted in
    let before : ℕ = length (flat_map externals_of (latest ∷ earlier)) in
    let known : before + length (flat_map externals_of (part ∷ others)) ≤ count = f.known in
    let here = length-append (externals_of part) (flat_map externals_of others) in
    let there = length-append (externals_of part) (flat_map externals_of (latest ∷ earlier)) in
    record {
      header =
          ap (λ e. e ++ flat_map entries_of (latest ∷ earlier)) (no_entries_in latest part cut.0.follows)
          ∙ f.header;
      known = omega (arith, here, there, known);
      range = f.range.1;
      accepted = cut.1;
    }

own_content :
    (count : ℕ) (entries : List SegmentEntry) (segment : Segment) (latest : Part) (earlier : List Part)
    (content : Content) (others : List Part)
    → Follow count entries (latest ∷ earlier) (ContentPart content ∷ others)
    → same_segment content.segment segment ≡ true
    → Own count (length_in entries segment) (filled_to segment (latest ∷ earlier))
    (record { content = content; fixes = leading_fixes content.segment others })
own_content count entries segment latest earlier content others f same =
    let before : List Part = latest ∷ earlier in
    let cut = both_fit before (ContentPart content) others f.accepted in
    let next = next_follow count entries latest earlier (ContentPart content) others f in
    let body = and_parts (holds_bytes content.segment) (not (is_empty content.bytes)) cut.0.body in
    let placed = and_parts (nat_le (content_end content) (stated_length_of content.segment before))
    (nat_le (filled_to content.segment before) content.offset) (not-false _ cut.0.placed) in
    let is : content.segment ≡ segment = same_is content.segment segment same in
    let size : stated_length_of content.segment before ≡ length_in entries segment =
    ap (λ e. length_in e content.segment) f.header ∙ ap (length_in entries) is in
    let filled : filled_to content.segment before ≡ filled_to segment before =
    ap (λ s. filled_to s before) is in
    let ends : content_end content ≤ stated_length_of content.segment before = leb-true _ _ placed.0 in
    let begins : filled_to content.segment before ≤ content.offset = leb-true _ _ placed.1 in
    let known : length (flat_map externals_of (ContentPart content ∷ before))
    + length (flat_map externals_of others) ≤ count = next.known in
    let fixes =
    fixes_sound count content (ContentPart content ∷ before) others body.0 refl (omega arith) next.range
    next.accepted (λ offset. refl) in
    record {
      begins = subst (λ n. n ≤ content.offset) filled begins;
      sound = record {
        ends = subst (λ n. content_end content ≤ n) size ends;
        bytes = f.range.0;
        targets = fixes.targets;
        within = fixes.within;
        clear = λ offset.
            ap (clash offset) (sym (append-nil (leading_fixes content.segment others))) ∙ fixes.clear offset;
      };
    }

pub contents_ascend :
    (count : ℕ) (entries : List SegmentEntry) (segment : Segment) (latest : Part) (earlier parts : List Part)
    → Follow count entries (latest ∷ earlier) parts
    → Ascend count (length_in entries segment) segment (filled_to segment (latest ∷ earlier))
    (fixed_contents parts)
contents_ascend count entries segment latest earlier [] f = tt
contents_ascend count entries segment latest earlier (HeaderPart name translator version lengths ∷ others) f =
    contents_ascend count entries segment _ (latest ∷ earlier) others
    (next_follow count entries latest earlier _ others f)
contents_ascend count entries segment latest earlier (ExternalNamesPart names ∷ others) f =
    contents_ascend count entries segment _ (latest ∷ earlier) others
    (next_follow count entries latest earlier _ others f)
contents_ascend count entries segment latest earlier (PublicsPart place definitions ∷ others) f =
    contents_ascend count entries segment _ (latest ∷ earlier) others
    (next_follow count entries latest earlier _ others f)
contents_ascend count entries segment latest earlier (ContentPart content ∷ others) f = (
  own_content count entries segment latest earlier content others f,
  contents_ascend count entries segment (ContentPart content) (latest ∷ earlier) others
      (next_follow count entries latest earlier (ContentPart content) others f),
)
contents_ascend count entries segment latest earlier (ExternalReferencesPart kind references ∷ others) f =
    contents_ascend count entries segment _ (latest ∷ earlier) others
    (next_follow count entries latest earlier _ others f)
contents_ascend count entries segment latest earlier (RelocationPart kind offsets ∷ others) f =
    contents_ascend count entries segment _ (latest ∷ earlier) others
    (next_follow count entries latest earlier _ others f)
contents_ascend count entries segment latest earlier (IntersegmentPart target kind offsets ∷ others) f =
    contents_ascend count entries segment _ (latest ∷ earlier) others
    (next_follow count entries latest earlier _ others f)
contents_ascend count entries segment latest earlier (ModuleEndPart start ∷ others) f =
    contents_ascend count entries segment _ (latest ∷ earlier) others
    (next_follow count entries latest earlier _ others f)
contents_ascend count entries segment latest earlier (EndOfFilePart ∷ others) f =
    contents_ascend count entries segment _ (latest ∷ earlier) others
    (next_follow count entries latest earlier _ others f)

-- What such contents set.
-- a content has a place
pub record Holds (segment : Segment) (offset : ℕ) (fixed : FixedContent) : Type 0 where
  pub same : same_segment (fixed.content).segment segment ≡ true
  pub from : (fixed.content).offset ≤ offset
  pub to : offset < content_end fixed.content

pub holds_is :
    (segment : Segment) (offset : ℕ) (fixed : FixedContent) → holds_place segment offset fixed ≡ true
    → Holds segment offset fixed
holds_is segment offset fixed h =
    let cut = and_parts
    (same_segment (fixed.content).segment segment && nat_le (fixed.content).offset offset)
    (nat_lt offset (content_end fixed.content)) h in
    let first =
    and_parts (same_segment (fixed.content).segment segment)
    (nat_le (fixed.content).offset offset) cut.0 in
    record { same = first.0; from = leb-true _ _ first.1; to = ltb-true _ _ cut.1 }

holds_by :
    (segment : Segment) (offset : ℕ) (fixed : FixedContent)
    → same_segment (fixed.content).segment segment ≡ true
    → (fixed.content).offset ≤ offset → offset < content_end fixed.content
    → holds_place segment offset fixed ≡ true
holds_by segment offset fixed same from to =
    and_from _ _ (and_from _ _ same (le-leb _ _ from)) (lt-ltb _ _ to)

end_later :
    (count size : ℕ) (segment : Segment) (end : ℕ) (fixed : FixedContent)
    → (same_segment (fixed.content).segment segment ≡ true → Own count size end fixed)
    → end ≤ end_by_content segment (Some fixed.content) end
end_later count size segment end fixed own = go (same_segment (fixed.content).segment segment) refl
  where
    go : (b : Bool) → same_segment (fixed.content).segment segment ≡ b
        → end ≤ cond b (content_end fixed.content) end
    go true e = let begins : end ≤ (fixed.content).offset = (own e).begins in omega arith
    go false e = omega arith

-- what has a place begins after the end of those before it
from_end :
    (count size : ℕ) (segment : Segment) (end offset : ℕ) (contents : List FixedContent)
    (fixed : FixedContent)
    → Ascend count size segment end contents → find (holds_place segment offset) contents ≡ Some fixed
    → end ≤ offset
from_end count size segment end offset [] fixed a h = absurd (none-some fixed h)
from_end count size segment end offset (first ∷ others) fixed a h =
    go (holds_place segment offset first) refl
    (from_end count size segment (end_by_content segment (Some first.content) end) offset others fixed a.1) h
  where
    go : (b : Bool) → holds_place segment offset first ≡ b
        → (find (holds_place segment offset) others ≡ Some fixed
        → end_by_content segment (Some first.content) end ≤ offset)
        → cond b (Some first) (find (holds_place segment offset) others) ≡ Some fixed → end ≤ offset
    go true e later is =
        let holds = holds_is segment offset first e in
        let from : (first.content).offset ≤ offset = holds.from in
        let begins : end ≤ (first.content).offset = (a.0 holds.same).begins in
        omega arith
    go false e later is =
        let after : end_by_content segment (Some first.content) end ≤ offset = later is in
        let grows : end ≤ end_by_content segment (Some first.content) end =
        end_later count size segment end first a.0 in
        le_trans grows after

-- what has a place is sound
pub found_sound :
    (count size : ℕ) (segment : Segment) (end offset : ℕ) (contents : List FixedContent)
    (fixed : FixedContent)
    → Ascend count size segment end contents → find (holds_place segment offset) contents ≡ Some fixed
    → Sound count size fixed
found_sound count size segment end offset [] fixed a h = absurd (none-some fixed h)
found_sound count size segment end offset (first ∷ others) fixed a h =
    go (holds_place segment offset first) refl
    (found_sound count size segment (end_by_content segment (Some first.content) end) offset others fixed a.1)
    h
  where
    go : (b : Bool) → holds_place segment offset first ≡ b
        → (find (holds_place segment offset) others ≡ Some fixed → Sound count size fixed)
        → cond b (Some first) (find (holds_place segment offset) others) ≡ Some fixed → Sound count size fixed
    go true e later is =
        subst (Sound count size) (same_Some first fixed is) (a.0 (holds_is segment offset first e).same).sound
    go false e later is = later is

-- the next place is set by the same content, as far as that reaches
next_place :
    (count size : ℕ) (segment : Segment) (end offset : ℕ) (contents : List FixedContent)
    (fixed : FixedContent)
    → Ascend count size segment end contents → find (holds_place segment offset) contents ≡ Some fixed
    → offset + 1 < content_end fixed.content → find (holds_place segment (offset + 1)) contents ≡ Some fixed
next_place count size segment end offset [] fixed a h k = absurd (none-some fixed h)
next_place count size segment end offset (first ∷ others) fixed a h k =
    go (holds_place segment offset first) refl
    (λ is. next_place count size segment (end_by_content segment (Some first.content) end) offset
    others fixed a.1 is k)
    h
  where
    before :
        (find (holds_place segment offset) others ≡ Some fixed) → (c : Bool)
        → holds_place segment (offset + 1) first ≡ c → c ≡ false
    before is true f =
        let holds = holds_is segment (offset + 1) first f in
        let to : offset + 1 < content_end first.content = holds.to in
        let after : end_by_content segment (Some first.content) end ≤ offset =
        from_end count size segment (end_by_content segment (Some first.content) end) offset
        others fixed a.1 is in
        let ends : end_by_content segment (Some first.content) end ≡ content_end first.content =
        ap (λ b. cond b (content_end first.content) end) holds.same in
        let within : content_end first.content ≤ offset = subst (λ n. n ≤ offset) ends after in
        absurd (omega (arith, to, within))
    before is false f = refl

    go : (b : Bool) → holds_place segment offset first ≡ b
        → (find (holds_place segment offset) others ≡ Some fixed
        → find (holds_place segment (offset + 1)) others ≡ Some fixed)
        → cond b (Some first) (find (holds_place segment offset) others) ≡ Some fixed
        → find (holds_place segment (offset + 1)) (first ∷ others) ≡ Some fixed
    go true e later is =
        let holds = holds_is segment offset first e in
        let same : first ≡ fixed = same_Some first fixed is in
        let from : (first.content).offset ≤ offset = holds.from in
        let to : offset + 1 < content_end first.content =
        subst (λ f. offset + 1 < content_end f.content) (sym same) k in
        ap (λ b. cond b (Some first) (find (holds_place segment (offset + 1)) others))
        (holds_by segment (offset + 1) first holds.same (omega (arith, from)) to)
        ∙ is
    go false e later is =
        ap (λ b. cond b (Some first) (find (holds_place segment (offset + 1)) others))
        (before is (holds_place segment (offset + 1) first) refl)
        ∙ later is

-- a byte that is set
pub all_found :
    {A : Type 0} (q p : A → Bool) (xs : List A) (x : A) → list_all q xs ≡ true
    → find p xs ≡ Some x → q x ≡ true
all_found q p [] x all h = absurd (none-some x h)
all_found {A} q p (y ∷ ys) x all h = go (p y) (all_found q p ys x (and_parts (q y) (list_all q ys) all).1) h
  where
    go : (b : Bool) → (find p ys ≡ Some x → q x ≡ true) → cond b (Some y) (find p ys) ≡ Some x → q x ≡ true
    go true later is = subst (λ z. q z ≡ true) (same_Some y x is) (and_parts (q y) (list_all q ys) all).0
    go false later is = later is

pub found_any :
    {A : Type 0} (q p : A → Bool) (xs : List A) (x : A) → find p xs ≡ Some x → q x ≡ true
    → list_any q xs ≡ true
found_any q p [] x h k = absurd (none-some x h)
found_any {A} q p (y ∷ ys) x h k = go (p y) (λ is. found_any q p ys x is k) h
  where
    go : (b : Bool) → (find p ys ≡ Some x → list_any q ys ≡ true) → cond b (Some y) (find p ys) ≡ Some x
        → list_any q (y ∷ ys) ≡ true
    go true later is = or_left (q y) (list_any q ys) (subst (λ z. q z ≡ true) (sym (same_Some y x is)) k)
    go false later is = or_right (q y) (list_any q ys) (later is)

pub none_found : {A : Type 0} (p : A → Bool) (xs : List A) → list_any p xs ≡ false → find p xs ≡ None
none_found p [] h = refl
none_found p (x ∷ xs) h =
    let cut = or_parts (p x) (list_any p xs) h in
    ap (λ b. cond b (Some x) (find p xs)) cut.0 ∙ none_found p xs cut.1

-- the fix that begins at a place, as the module has it
abbrev pub fixup_of : Fix → Fixup
fixup_of fix = record { kind = fix.kind; target = fix.target }

set_valid :
    (count size offset : ℕ) (fixed : FixedContent) → Sound count size fixed
    → is_valid_byte count (set_at offset fixed) ≡ true
set_valid count size offset fixed s =
    and_from _ _ (lt-ltb _ 256 (byte_at (fixed.content).bytes (offset - (fixed.content).offset) s.bytes))
    (go (find (begins_at offset) fixed.fixes) refl)
  where
    go : (found : Option Fix) → find (begins_at offset) fixed.fixes ≡ found
        → option_map_or (λ (fixup : Fixup). is_target count fixup.target) (option_map fixup_of found) true
        ≡ true
    go None e = refl
    go (Some fix) e = all_found (has_target count) (begins_at offset) fixed.fixes fix s.targets e

pub place_valid :
    (count size : ℕ) (segment : Segment) (end offset : ℕ) (contents : List FixedContent)
    → Ascend count size segment end contents
    → option_map_or (is_valid_byte count) (set_in contents segment offset) true ≡ true
place_valid count size segment end offset contents a = go (find (holds_place segment offset) contents) refl
  where
    go : (found : Option FixedContent) → find (holds_place segment offset) contents ≡ found
        → option_map_or (is_valid_byte count) (option_map (set_at offset) found) true ≡ true
    go None e = refl
    go (Some fixed) e =
        set_valid count size offset fixed (found_sound count size segment end offset contents fixed a e)

-- what follows the first byte of a word
pub record IsWhole (size offset : ℕ) (contents : List FixedContent) (segment : Segment) : Type 0 where
  pub within : offset + 1 < size
  pub plain : is_plain (set_in contents segment (offset + 1)) ≡ true

whole_here :
    (count size : ℕ) (segment : Segment) (end offset : ℕ) (contents : List FixedContent)
    (fixed : FixedContent)
    → Ascend count size segment end contents → find (holds_place segment offset) contents ≡ Some fixed
    → (found : Option Fix) → find (begins_at offset) fixed.fixes ≡ found
    → option_map_or (λ (fixup : Fixup). is_both fixup.kind) (option_map fixup_of found) false ≡ true
    → IsWhole size offset contents segment
whole_here count size segment end offset contents fixed a e None f h =
    absurd (let bad : false ≡ true = h in cc)
whole_here count size segment end offset contents fixed a e (Some fix) f h =
    let s = found_sound count size segment end offset contents fixed a e in
    let at : begins_at offset fix ≡ true = find_passes (begins_at offset) fixed.fixes fix f in
    let word : word_at offset fix ≡ true = and_from _ _ h at in
    let w = word_is offset fix word in
    let begins : fix.offset ≡ offset = w.begins in
    let width : width_of fix.kind ≡ 2 = w.width in
    let ends : fix_end fix ≤ content_end fixed.content =
    leb-true _ _
    (and_parts (nat_le (fixed.content).offset fix.offset)
    (nat_le (fix_end fix) (content_end fixed.content))
    (all_found (is_within fixed.content) (begins_at offset) fixed.fixes fix s.within f)).1 in
    let to : offset + 1 < content_end fixed.content = omega arith in
    let size_is : content_end fixed.content ≤ size = s.ends in
    let none : list_any (begins_at (offset + 1)) fixed.fixes ≡ false =
    sym (ap (λ t. t && list_any (begins_at (offset + 1)) fixed.fixes)
    (found_any (word_at offset) (begins_at offset) fixed.fixes fix f word)) ∙ s.clear offset in
    record {
      within = omega (arith, to, size_is);
      plain =
          ap (λ found. is_plain (option_map (set_at (offset + 1)) found))
          (next_place count size segment end offset contents fixed a e to)
          ∙ ap (λ found. option_map_or (λ (fixup : Fixup). false) (option_map fixup_of found) true)
          (none_found (begins_at (offset + 1)) fixed.fixes none);
    }

pub place_whole :
    (count size : ℕ) (segment : Segment) (end offset : ℕ) (contents : List FixedContent)
    → Ascend count size segment end contents → begins_word (set_in contents segment offset) ≡ true
    → IsWhole size offset contents segment
place_whole count size segment end offset contents a h =
    go (find (holds_place segment offset) contents) refl h
  where
    go : (found : Option FixedContent) → find (holds_place segment offset) contents ≡ found
        → begins_word (option_map (set_at offset) found) ≡ true → IsWhole size offset contents segment
    go None e k = absurd (let bad : false ≡ true = k in cc)
    go (Some fixed) e k =
        whole_here count size segment end offset contents fixed a e
        (find (begins_at offset) fixed.fixes) refl k

-- Rows of places.
pub all_places :
    {A : Type 0} (q : A → Bool) (place : ℕ → A) (offsets : List ℕ) → ((offset : ℕ) → q (place offset) ≡ true)
    → list_all q (map place offsets) ≡ true
all_places q place [] h = refl
all_places q place (offset ∷ others) h = and_from _ _ (h offset) (all_places q place others h)

pub places_whole :
    (place : ℕ → Option SetByte) (from count : ℕ)
    → ((offset : ℕ) → begins_word (place offset) ≡ true
    → (offset + 1 < from + count) × (is_plain (place (offset + 1)) ≡ true))
    → words_are_whole (map place (range_with_len from count)) ≡ true
places_whole place from zero h = refl
places_whole place from (suc zero) h =
    go (begins_word (place from)) refl
  where
    go : (b : Bool) → begins_word (place from) ≡ b → ((not b || false) && true) ≡ true
    go true e = let k : from + 1 < from + 1 = (h from e).0 in absurd (omega arith)
    go false e = refl
places_whole place from (suc (suc count)) h =
    and_from _ _ (go (begins_word (place from)) refl)
    (places_whole place (from + 1) (suc count)
    (λ offset b. let k = h offset b in
    let below : offset + 1 < from + suc (suc count) = k.0 in
    (omega (arith, below), k.1)))
  where
    go : (b : Bool) → begins_word (place from) ≡ b → (not b || is_plain (place (from + 1))) ≡ true
    go true e = (h from e).1
    go false e = refl
