-- The fixes that stand after a content of a file: what they are fixed to, that they lie within it, and that
-- no word begins right before another of them.
use Rattle.object_laws.proofs.Prelude.{◌≡◌, ℕ, ◌+◌, ◌<◌, ◌≤◌, ◌==◌, Bool, true, false, not, ◌&&◌, ◌||◌, nat_lt, List, [], ◌∷◌, ◌++◌, length, map, flat_map, Some, None, refl, ap, sym, ◌∙◌, arith, list_all, list_any, AllByRecursion, option_or, and_parts, and_from, lt-ltb, ltb-true, eqb-true, list_all-append, list_any-append, Fix, FixKind, Low, High, Both, Segment, Absolute, Code, Data, Stack, InSegment, width_of, is_both, holds_bytes, is_movable, is_target, Reference, Content, Part, HeaderPart, ExternalNamesPart, PublicsPart, ContentPart, ExternalReferencesPart, RelocationPart, IntersegmentPart, ModuleEndPart, EndOfFilePart, kind_of_part, is_empty, is_fix_record, externals_of, content_of, latest_content, fixes_of, leading_fixes, is_other_segment, is_body, is_within, fix_end, share_a_byte, are_apart, fit_content, are_accepted, not-true}
use Rattle.object_laws.proofs.Files.Bytes.{InRange}
use Rattle.object_laws.proofs.Files.Accepted.{both_fit, any_moved}
use Rattle.object_laws.proofs.Texts.Accepting.{leading_none, leading_more}
use Rattle.object_laws.proofs.Texts.Counted.{has_width}

-- a fix begins at a place, and one of a word does
abbrev pub begins_at : (offset : ℕ) → Fix → Bool
begins_at offset fix = fix.offset == offset

abbrev pub word_at : (offset : ℕ) → Fix → Bool
word_at offset fix = is_both fix.kind && begins_at offset fix

-- a word begins at a place, and another fix at its second byte
abbrev pub clash : (offset : ℕ) → List Fix → Bool
clash offset fixes = list_any (word_at offset) fixes && list_any (begins_at (offset + 1)) fixes

-- fewer pass a test that is harder
pub any_less :
    {A : Type 0} (p q : A → Bool) (xs : List A) → ((x : A) → p x ≡ true → q x ≡ true) → list_any q xs ≡ false
    → list_any p xs ≡ false
any_less p q [] less h = refl
any_less {A} p q (x ∷ xs) less h = go (p x) refl (q x) refl (any_less p q xs less) h
  where
    go : (b : Bool) → p x ≡ b → (c : Bool) → q x ≡ c → (list_any q xs ≡ false → list_any p xs ≡ false)
        → (c || list_any q xs) ≡ false → (b || list_any p xs) ≡ false
    go b e true f later k = absurd (let bad : true ≡ false = k in cc)
    go true e false f later k = absurd (let bad : q x ≡ true = less x e in cc)
    go false e false f later k = later k

both_width : (kind : FixKind) → is_both kind ≡ true → width_of kind ≡ 2
both_width Low h = absurd (let bad : false ≡ true = h in cc)
both_width High h = absurd (let bad : false ≡ true = h in cc)
both_width Both h = refl

-- where a word begins, and how long it is
pub record IsWord (offset : ℕ) (fix : Fix) : Type 0 where
  pub begins : fix.offset ≡ offset
  pub width : width_of fix.kind ≡ 2

pub word_is : (offset : ℕ) (fix : Fix) → word_at offset fix ≡ true → IsWord offset fix
word_is offset fix h =
    let cut = and_parts (is_both fix.kind) (begins_at offset fix) h in
    record { begins = eqb-true fix.offset offset cut.1; width = both_width fix.kind cut.0 }

-- a word and what begins at its second byte share it
share_second :
    (offset : ℕ) (fix next : Fix) → word_at offset fix ≡ true → begins_at (offset + 1) next ≡ true
    → (share_a_byte fix next ≡ true) × (share_a_byte next fix ≡ true)
share_second offset fix next h k =
    let w = word_is offset fix h in
    let begins : fix.offset ≡ offset = w.begins in
    let width : width_of fix.kind ≡ 2 = w.width in
    let at : next.offset ≡ offset + 1 = eqb-true next.offset (offset + 1) k in
    let some : 0 < width_of next.kind = has_width next.kind in
    let a : fix.offset < fix_end next = omega arith in
    let b : next.offset < fix_end fix = omega arith in
    let c : nat_lt fix.offset (fix_end next) ≡ true = lt-ltb fix.offset (fix_end next) a in
    let d : nat_lt next.offset (fix_end fix) ≡ true = lt-ltb next.offset (fix_end fix) b in
    (and_from _ _ c d, and_from _ _ d c)

-- one more fix, apart from the others
clash_more :
    (offset : ℕ) (fix : Fix) (others : List Fix) → list_any (share_a_byte fix) others ≡ false
    → clash offset others ≡ false → clash offset (fix ∷ others) ≡ false
clash_more offset fix others apart h = go (word_at offset fix) refl (begins_at (offset + 1) fix) refl
  where
    go : (b : Bool) → word_at offset fix ≡ b → (c : Bool) → begins_at (offset + 1) fix ≡ c
        → ((b || list_any (word_at offset) others) && (c || list_any (begins_at (offset + 1)) others)) ≡ false
    go true e true f =
        let w = word_is offset fix e in
        let begins : fix.offset ≡ offset = w.begins in
        let at : fix.offset ≡ offset + 1 = eqb-true fix.offset (offset + 1) f in
        absurd (omega arith)
    go true e false f =
        any_less (begins_at (offset + 1)) (share_a_byte fix) others
        (λ next k. (share_second offset fix next e k).0) apart
    go false e true f =
        ap (λ t. t && (true || list_any (begins_at (offset + 1)) others))
        (any_less (word_at offset) (share_a_byte fix) others
        (λ next k. (share_second offset next fix k f).1) apart)
    go false e false f = h

clash_moved :
    (offset : ℕ) (rest : List Fix) (fix : Fix) (others : List Fix)
    → clash offset (rest ++ fix ∷ others) ≡ clash offset (fix ∷ rest ++ others)
clash_moved offset rest fix others =
    ap (λ t. t && list_any (begins_at (offset + 1)) (rest ++ fix ∷ others))
    (any_moved (word_at offset) rest fix others)
    ∙ ap (λ t. list_any (word_at offset) (fix ∷ rest ++ others) && t)
    (any_moved (begins_at (offset + 1)) rest fix others)

clash_all :
    (offset : ℕ) (fixes others : List Fix) → are_apart fixes others ≡ true → clash offset others ≡ false
    → clash offset (fixes ++ others) ≡ false
clash_all offset [] others h k = k
clash_all offset (fix ∷ rest) others h k =
    let cut = and_parts (not (list_any (share_a_byte fix) others)) (are_apart rest (fix ∷ others)) h in
    sym (clash_moved offset rest fix others)
    ∙ clash_all offset rest (fix ∷ others) cut.1 (clash_more offset fix others (not-true _ cut.0) k)

or_turned : (a b c : Bool) → ((a || b) || c) ≡ (b || (a || c))
or_turned true true c = refl
or_turned true false c = refl
or_turned false b c = refl

any_turned :
    {A : Type 0} (p : A → Bool) (xs ys zs : List A)
    → list_any p ((xs ++ ys) ++ zs) ≡ list_any p (ys ++ (xs ++ zs))
any_turned p xs ys zs =
    list_any-append p (xs ++ ys) zs
    ∙ ap (λ t. t || list_any p zs) (list_any-append p xs ys)
    ∙ or_turned (list_any p xs) (list_any p ys) (list_any p zs)
    ∙ ap (λ t. list_any p ys || t) (sym (list_any-append p xs zs))
    ∙ sym (list_any-append p ys (xs ++ zs))

clash_turned :
    (offset : ℕ) (xs ys zs : List Fix) → clash offset ((xs ++ ys) ++ zs) ≡ clash offset (ys ++ (xs ++ zs))
clash_turned offset xs ys zs =
    ap (λ t. t && list_any (begins_at (offset + 1)) ((xs ++ ys) ++ zs)) (any_turned (word_at offset) xs ys zs)
    ∙ ap (λ t. list_any (word_at offset) (ys ++ (xs ++ zs)) && t)
    (any_turned (begins_at (offset + 1)) xs ys zs)

fix_part_alone :
    (part : Part) → is_fix_record (kind_of_part part) ≡ true
    → (content_of part ≡ None) × (externals_of part ≡ [])
fix_part_alone (HeaderPart name translator version entries) h = (refl, refl)
fix_part_alone (ExternalNamesPart names) h = absurd (let bad : false ≡ true = h in cc)
fix_part_alone (PublicsPart segment definitions) h = (refl, refl)
fix_part_alone (ContentPart content) h = absurd (let bad : false ≡ true = h in cc)
fix_part_alone (ExternalReferencesPart kind references) h = (refl, refl)
fix_part_alone (RelocationPart kind offsets) h = (refl, refl)
fix_part_alone (IntersegmentPart target kind offsets) h = (refl, refl)
fix_part_alone (ModuleEndPart start) h = (refl, refl)
fix_part_alone EndOfFilePart h = (refl, refl)

-- targets
movable : (segment : Segment) → holds_bytes segment ≡ true → is_movable segment ≡ true
movable Absolute h = h
movable Code h = refl
movable Data h = refl
movable Stack h = refl

abbrev pub has_target : (count : ℕ) → Fix → Bool
has_target count fix = is_target count fix.target

references_valid :
    (count known : ℕ) (own : Segment) (kind : FixKind) (references : List Reference) → known ≤ count
    → list_all (λ (reference : Reference). nat_lt reference.external known) references ≡ true
    → AllByRecursion (λ (reference : Reference). reference.external < 65536) references
    → list_all (has_target count) (fixes_of own (ExternalReferencesPart kind references)) ≡ true
references_valid count known own kind [] less h range = refl
references_valid count known own kind (reference ∷ others) less h range =
    let cut = and_parts (nat_lt reference.external known) _ h in
    let below : reference.external < known = ltb-true reference.external known cut.0 in
    let within : reference.external < count = omega arith in
    and_from (nat_lt reference.external count && nat_lt reference.external 65536) _
    (and_from (nat_lt reference.external count) _ (lt-ltb reference.external count within)
    (lt-ltb reference.external 65536 range.0))
    (references_valid count known own kind others less cut.1 range.1)

offsets_valid :
    (count : ℕ) (target : Segment) (kind : FixKind) (offsets : List ℕ) → is_movable target ≡ true
    → list_all (has_target count)
    (map (λ offset. record { kind = kind; target = InSegment target; offset = offset }) offsets) ≡ true
offsets_valid count target kind [] h = refl
offsets_valid count target kind (offset ∷ others) h =
    and_from (is_movable target) _ h (offsets_valid count target kind others h)

part_targets :
    (count : ℕ) (before : List Part) (own : Segment) (part : Part) → is_body before part ≡ true → InRange part
    → length (flat_map externals_of before) ≤ count → holds_bytes own ≡ true
    → list_all (has_target count) (fixes_of own part) ≡ true
part_targets count before own (HeaderPart name translator version entries) h range known holds = refl
part_targets count before own (ExternalNamesPart names) h range known holds = refl
part_targets count before own (PublicsPart segment definitions) h range known holds = refl
part_targets count before own (ContentPart content) h range known holds = refl
part_targets count before own (ExternalReferencesPart kind references) h range known holds =
    let cut = and_parts (not (is_empty references)) _ h in
    references_valid count (length (flat_map externals_of before)) own kind references known cut.1 range
part_targets count before own (RelocationPart kind offsets) h range known holds =
    offsets_valid count own kind offsets (movable own holds)
part_targets count before own (IntersegmentPart target kind offsets) h range known holds =
    let cut = and_parts (not (is_empty offsets)) (is_other_segment target (latest_content before)) h in
    offsets_valid count target kind offsets (and_parts (is_movable target) _ cut.1).0
part_targets count before own (ModuleEndPart start) h range known holds = refl
part_targets count before own EndOfFilePart h range known holds = refl

-- what the fixes are that stand in front of parts, after those of these records
pub record FixesSound (count : ℕ) (content : Content) (before after : List Part) : Type 0 where
  pub targets : list_all (has_target count) (leading_fixes content.segment after) ≡ true
  pub within : list_all (is_within content) (leading_fixes content.segment after) ≡ true
  pub clear :
      (offset : ℕ)
      → clash offset (leading_fixes content.segment after ++ leading_fixes content.segment before) ≡ false

pub fixes_sound :
    (count : ℕ) (content : Content) (before after : List Part) → holds_bytes content.segment ≡ true
    → latest_content before ≡ Some content → length (flat_map externals_of before) ≤ count
    → AllByRecursion InRange after → are_accepted before after ≡ true
    → ((offset : ℕ) → clash offset (leading_fixes content.segment before) ≡ false)
    → FixesSound count content before after
fixes_sound count content before [] holds latest known range accepted clear =
    record { targets = refl; within = refl; clear = clear }
fixes_sound count content before (part ∷ others) holds latest known range accepted clear =
    go (is_fix_record (kind_of_part part)) refl
    (λ l k c. fixes_sound count content (part ∷ before) others holds l k range.1
    (both_fit before part others accepted).1 c)
  where
    go : (b : Bool) → is_fix_record (kind_of_part part) ≡ b
        → (latest_content (part ∷ before) ≡ Some content
        → length (flat_map externals_of (part ∷ before)) ≤ count
        → ((offset : ℕ) → clash offset (leading_fixes content.segment (part ∷ before)) ≡ false)
        → FixesSound count content (part ∷ before) others)
        → FixesSound count content before (part ∷ others)
    go false e later =
        let none = leading_none content.segment part others e in
        record {
          targets = ap (list_all (has_target count)) none;
          within = ap (list_all (is_within content)) none;
          clear = λ offset. ap (λ f. clash offset (f ++ leading_fixes content.segment before)) none
              ∙ clear offset;
        }
    go true e later =
        let here = both_fit before part others accepted in
        let alone = fix_part_alone part e in
        let more = leading_more content.segment part others e in
        let again = leading_more content.segment part before e in
        let cut = and_parts (list_all (is_within content) (fixes_of content.segment part))
        (are_apart (fixes_of content.segment part) (leading_fixes content.segment before))
        (sym (ap (fit_content before part) latest) ∙ here.0.fixes) in
        let same : length (flat_map externals_of (part ∷ before)) ≡ length (flat_map externals_of before) =
        ap (λ e. length (e ++ flat_map externals_of before)) alone.1 in
        let next = later (ap (λ c. option_or c (latest_content before)) alone.0 ∙ latest) (omega arith)
        (λ offset.
        ap (clash offset) again
        ∙ clash_all offset (fixes_of content.segment part) (leading_fixes content.segment before)
        cut.1 (clear offset)) in
        record {
          targets =
              ap (list_all (has_target count)) more
              ∙ list_all-append (has_target count) (fixes_of content.segment part)
              (leading_fixes content.segment others)
              ∙ and_from _ _ (part_targets count before content.segment part here.0.body range.0 known holds)
              next.targets;
          within =
              ap (list_all (is_within content)) more
              ∙ list_all-append (is_within content) (fixes_of content.segment part)
              (leading_fixes content.segment others)
              ∙ and_from _ _ cut.0 next.within;
          clear = λ offset.
              ap (λ f. clash offset (f ++ leading_fixes content.segment before)) more
              ∙ clash_turned offset (fixes_of content.segment part) (leading_fixes content.segment others)
              (leading_fixes content.segment before)
              ∙ ap (λ f. clash offset (leading_fixes content.segment others ++ f)) (sym again)
              ∙ next.clear offset;
        }
