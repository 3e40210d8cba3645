-- Marks of fixes: a fix shares a byte with others where one of its bytes is marked.
use Rattle.object_reading.proofs.Prelude.{◌≡◌, ℕ, ◌+◌, ◌-◌, ◌<◌, ◌≤◌, Bool, true, false, not, ◌&&◌, ◌||◌, ◌==◌, nat_lt, nat_le, List, [], ◌∷◌, length, get_or, set, Option, Some, None, cond, refl, ap, sym, ◌∙◌, arith, list_all, list_any, and_parts, and_from, eqb-true, eqb-false, leb-true, le-leb, lt-ltb, ltb-true, nat_tests, length-set, get_or-set_same, get_or-set_other, Fix, FixKind, Low, High, Both, Segment, width_of, Content, content_end, fix_end, is_within, share_a_byte, are_apart, AreFixEntries, fixes_in, fix_in_front, covers, AreMarked, first_mark, last_mark, with_marks, are_placed, is_marked, marks_after, onto, has_width, or_exchanged}
use Rattle.object_reading.proofs.FixEntries.{next_fix_is, no_fix}

-- the order of tests within a conjunction, and an alternative on each item
regrouped : (a b c d : Bool) → ((a && not b) && (c && d)) ≡ ((a && c) && (not b && d))
regrouped true true true d = refl
regrouped true true false d = refl
regrouped true false true d = refl
regrouped true false false d = refl
regrouped false b c d = refl

-- fix by fix, or all within and then all apart
pub placed_is :
    (content : Content) (fixes others : List Fix)
    → are_placed content fixes others ≡ (list_all (is_within content) fixes && are_apart fixes others)
placed_is content [] others = refl
placed_is content (fix ∷ rest) others =
    ap (λ b. (is_within content fix && not (list_any (share_a_byte fix) others)) && b)
    (placed_is content rest (fix ∷ others))
    ∙ regrouped (is_within content fix) (list_any (share_a_byte fix) others)
    (list_all (is_within content) rest)
    (are_apart rest (fix ∷ others))

-- an item passes a test where it passes one of two others
any_of_two :
    {X : Type 0} (p q r : X → Bool) → ((x : X) → p x ≡ (q x || r x))
    → (xs : List X) → list_any p xs ≡ (list_any q xs || list_any r xs)
any_of_two p q r each [] = refl
any_of_two p q r each (x ∷ xs) =
    ap (λ b. b || list_any p xs) (each x)
    ∙ ap (λ b. (q x || r x) || b) (any_of_two p q r each xs)
    ∙ or_exchanged (q x) (r x) (list_any q xs) (list_any r xs)

-- for ranges of places: one of a byte, or of two, meets another that isn't empty where it has one of them
one_byte : (o x e : ℕ) → (nat_lt o e && nat_lt x (o + 1))
    ≡ ((nat_le x o && nat_lt o e) || (nat_le x o && nat_lt o e))
one_byte o x e = grind (arith, nat_tests)

two_bytes :
    (o x e : ℕ) → x < e
    → (nat_lt o e && nat_lt x (o + 2))
    ≡ ((nat_le x o && nat_lt o e) || (nat_le x (o + 1) && nat_lt (o + 1) e))
two_bytes o x e some = grind (arith, nat_tests)

-- the last byte of a fix
abbrev last_of : Fix → ℕ
last_of fix = fix.offset + width_of fix.kind - 1

shares_by : (kind : FixKind) (o x e : ℕ) → x < e
    → (nat_lt o e && nat_lt x (o + width_of kind))
    ≡ ((nat_le x o && nat_lt o e) || (nat_le x (o + width_of kind - 1) && nat_lt (o + width_of kind - 1) e))
shares_by Low o x e some =
    one_byte o x e
    ∙ ap (λ n. (nat_le x o && nat_lt o e) || (nat_le x n && nat_lt n e))
    (let same : o ≡ o + 1 - 1 = omega arith in same)
shares_by High o x e some =
    one_byte o x e
    ∙ ap (λ n. (nat_le x o && nat_lt o e) || (nat_le x n && nat_lt n e))
    (let same : o ≡ o + 1 - 1 = omega arith in same)
shares_by Both o x e some =
    two_bytes o x e some
    ∙ ap (λ n. (nat_le x o && nat_lt o e) || (nat_le x n && nat_lt n e))
    (let same : o + 1 ≡ o + 2 - 1 = omega arith in same)

shares_one : (fix other : Fix) → share_a_byte fix other
    ≡ (covers fix.offset other || covers (last_of fix) other)
shares_one fix other =
    let some : 0 < width_of other.kind = has_width other.kind in
    shares_by fix.kind fix.offset other.offset (fix_end other) (omega arith)

shares_any :
    (fix : Fix) (others : List Fix)
    → list_any (share_a_byte fix) others
    ≡ (list_any (covers fix.offset) others || list_any (covers (last_of fix)) others)
shares_any fix others =
    any_of_two (share_a_byte fix) (covers fix.offset) (covers (last_of fix)) (shares_one fix) others

-- where a fix lies within a content
record Lies (content : Content) (fix : Fix) : Type 0 where
  begins : content.offset ≤ fix.offset
  ends : fix.offset + width_of fix.kind ≤ content.offset + length content.bytes

lies : (content : Content) (fix : Fix) → is_within content fix ≡ true → Lies content fix
lies content fix within =
    let t = and_parts (nat_le content.offset fix.offset)
    (nat_le (fix_end fix) (content_end content)) within in
    record {
      begins = leb-true content.offset fix.offset t.0;
      ends = leb-true (fix_end fix) (content_end content) t.1;
    }

-- a fix within the content shares a byte with others where its first or its last byte is marked
pub shares_is :
    (marks : List Bool) (content : Content) (fix : Fix) (others : List Fix) → AreMarked marks content others
    → is_within content fix ≡ true
    → list_any (share_a_byte fix) others
    ≡ (get_or marks (first_mark content fix) false || get_or marks (last_mark content fix) false)
shares_is marks content fix others m within =
    let l = lies content fix within in
    let some : 0 < width_of fix.kind = has_width fix.kind in
    let begins : content.offset ≤ fix.offset = l.begins in
    let ends : fix.offset + width_of fix.kind ≤ content.offset + length content.bytes = l.ends in
    let first : get_or marks (first_mark content fix) false
    ≡ list_any (covers (content.offset + first_mark content fix)) others =
    m.marked (first_mark content fix) (omega arith) in
    let last : get_or marks (last_mark content fix) false
    ≡ list_any (covers (content.offset + last_mark content fix)) others =
    m.marked (last_mark content fix) (omega arith) in
    let first_at : content.offset + first_mark content fix ≡ fix.offset = omega arith in
    let last_at : content.offset + last_mark content fix ≡ last_of fix = omega arith in
    shares_any fix others
    ∙ ap (λ n. list_any (covers n) others || list_any (covers (last_of fix)) others) (sym first_at)
    ∙ ap (λ n. list_any (covers (content.offset + first_mark content fix)) others
    || list_any (covers n) others) (sym last_at)
    ∙ ap (λ b. b || list_any (covers (content.offset + last_mark content fix)) others) (sym first)
    ∙ ap (λ b. get_or marks (first_mark content fix) false || b) (sym last)

inside_is : (o n w : ℕ) → (nat_le o n && nat_lt n (o + w)) ≡ true → (o ≤ n) × (n < o + w)
inside_is o n w h =
    let t = and_parts (nat_le o n) (nat_lt n (o + w)) h in
    (leb-true o n t.0, ltb-true n (o + w) t.1)

covers_at : (o n w : ℕ) → o ≤ n → n < o + w → (nat_le o n && nat_lt n (o + w)) ≡ true
covers_at o n w a b = and_from (nat_le o n) (nat_lt n (o + w)) (le-leb o n a) (lt-ltb n (o + w) b)

covers_not : (o n w : ℕ) → (o ≤ n → n < o + w → ⊥) → (nat_le o n && nat_lt n (o + w)) ≡ false
covers_not o n w outside = go (nat_le o n && nat_lt n (o + w)) refl
  where
    go : (b : Bool) → (nat_le o n && nat_lt n (o + w)) ≡ b → (nat_le o n && nat_lt n (o + w)) ≡ false
    go true e = let i = inside_is o n w e in absurd (outside i.0 i.1)
    go false e = e

-- a fix of at most two bytes has no other bytes than its first and its last
between :
    (kind : FixKind) (c o k : ℕ) → c ≤ o → o ≤ c + k → c + k < o + width_of kind
    → (k ≡ o - c → ⊥) → (k ≡ o - c + width_of kind - 1 → ⊥) → ⊥
between Low c o k begins a b p q = omega arith
between High c o k begins a b p q = omega arith
between Both c o k begins a b p q = omega arith

-- one more fix within the content, once its marks are set
pub marked_more :
    (marks : List Bool) (content : Content) (fix : Fix) (others : List Fix) → AreMarked marks content others
    → is_within content fix ≡ true → AreMarked (with_marks marks content fix) content (fix ∷ others)
marked_more marks content fix others m within =
    let l = lies content fix within in
    let some : 0 < width_of fix.kind = has_width fix.kind in
    let begins : content.offset ≤ fix.offset = l.begins in
    let ends : fix.offset + width_of fix.kind ≤ content.offset + length content.bytes = l.ends in
    let long : length content.bytes ≤ length marks = m.long in
    let first : ℕ = first_mark content fix in
    let last : ℕ = last_mark content fix in
    let once : List Bool = set marks first true in
    let once_long : length once ≡ length marks = length-set marks first true in
    let twice_long : length (set once last true) ≡ length once = length-set once last true in
    record {
      long = omega arith;
      marked =
          λ k h. at marks content fix others m k h once_long begins ends some (k == last)
          refl (k == first) refl;
    }
  where
    at : (marks : List Bool) (content : Content) (fix : Fix) (others : List Fix)
        → AreMarked marks content others
        → (k : ℕ) → k < length content.bytes
        → length (set marks (first_mark content fix) true) ≡ length marks
        → content.offset ≤ fix.offset → fix.offset + width_of fix.kind ≤ content.offset + length content.bytes
        → 0 < width_of fix.kind
        → (is_last : Bool) → (k == last_mark content fix) ≡ is_last
        → (is_first : Bool) → (k == first_mark content fix) ≡ is_first
        → get_or (with_marks marks content fix) k false
        ≡ list_any (covers (content.offset + k)) (fix ∷ others)
    at marks content fix others m k h kept begins ends some true e f g =
        let same : k ≡ last_mark content fix = eqb-true k (last_mark content fix) e in
        let long : length content.bytes ≤ length marks = m.long in
        ap (λ n. get_or (with_marks marks content fix) n false) same
        ∙ get_or-set_same (set marks (first_mark content fix) true) (last_mark content fix)
        true false (omega arith)
        ∙ sym (ap (λ b. b || list_any (covers (content.offset + k)) others)
        (covers_at fix.offset (content.offset + k) (width_of fix.kind) (omega arith) (omega arith)))
    at marks content fix others m k h kept begins ends some false e true g =
        let same : k ≡ first_mark content fix = eqb-true k (first_mark content fix) g in
        let other : k ≡ last_mark content fix → ⊥ = eqb-false k (last_mark content fix) e in
        let long : length content.bytes ≤ length marks = m.long in
        get_or-set_other (set marks (first_mark content fix) true) (last_mark content fix) k true false other
        ∙ ap (λ n. get_or (set marks (first_mark content fix) true) n false) same
        ∙ get_or-set_same marks (first_mark content fix) true false (omega arith)
        ∙ sym (ap (λ b. b || list_any (covers (content.offset + k)) others)
        (covers_at fix.offset (content.offset + k) (width_of fix.kind) (omega arith) (omega arith)))
    at marks content fix others m k h kept begins ends some false e false g =
        let not_first : k ≡ first_mark content fix → ⊥ = eqb-false k (first_mark content fix) g in
        let not_last : k ≡ last_mark content fix → ⊥ = eqb-false k (last_mark content fix) e in
        get_or-set_other (set marks (first_mark content fix) true) (last_mark content fix)
        k true false not_last
        ∙ get_or-set_other marks (first_mark content fix) k true false not_first
        ∙ m.marked k h
        ∙ sym (ap (λ b. b || list_any (covers (content.offset + k)) others)
        (covers_not fix.offset (content.offset + k) (width_of fix.kind)
        (λ a b. between fix.kind content.offset fix.offset k begins a b not_first not_last)))

-- what the marks tell of fixes that are placed one after another
abbrev pub Placed : Content → List Fix → (others : List Fix) → Option (List Bool) → Type 0
Placed content fixes others None = are_placed content fixes others ≡ false
Placed content fixes others (Some marks) =
    (are_placed content fixes others ≡ true) × AreMarked marks content (onto fixes others)

placed_first :
    (content : Content) (fix : Fix) (rest others : List Fix) (found : Option (List Bool))
    → (is_within content fix && not (list_any (share_a_byte fix) others)) ≡ true
    → Placed content rest (fix ∷ others) found → Placed content (fix ∷ rest) others found
placed_first content fix rest others None fits later =
    ap (λ b. b && are_placed content rest (fix ∷ others)) fits ∙ later
placed_first content fix rest others (Some marks) fits later =
    (ap (λ b. b && are_placed content rest (fix ∷ others)) fits ∙ later.0, later.1)

placed_case :
    (content : Content) (fix : Fix) (rest others : List Fix) (found : Option (List Bool))
    → is_within content fix ≡ true
    → Placed content rest (fix ∷ others) found
    → (marked : Bool) → list_any (share_a_byte fix) others ≡ marked
    → Placed content (fix ∷ rest) others (cond (not marked) found None)
placed_case content fix rest others found within later true shares =
    ap (λ b. (b && not (list_any (share_a_byte fix) others)) && are_placed content rest (fix ∷ others)) within
    ∙ ap (λ b. (true && not b) && are_placed content rest (fix ∷ others)) shares
placed_case content fix rest others found within later false shares =
    placed_first content fix rest others found
    (ap (λ b. b && not (list_any (share_a_byte fix) others)) within ∙ ap not shares) later

pub placed_by :
    (content : Content) (fixes others : List Fix) (marks : List Bool) → AreMarked marks content others
    → Placed content fixes others (marks_after content fixes marks)
placed_by content [] others marks m = (refl, m)
placed_by content (fix ∷ rest) others marks m =
    go (λ e. placed_by content rest (fix ∷ others) (with_marks marks content fix)
    (marked_more marks content fix others m e))
    (is_within content fix) refl
  where
    go : (is_within content fix ≡ true
        → Placed content rest (fix ∷ others) (marks_after content rest (with_marks marks content fix)))
        → (within : Bool) → is_within content fix ≡ within
        → Placed content (fix ∷ rest) others
        (cond (within && not (is_marked marks content fix))
        (marks_after content rest (with_marks marks content fix)) None)
    go later false e =
        ap (λ b. (b && not (list_any (share_a_byte fix) others)) && are_placed content rest (fix ∷ others)) e
    go later true e =
        placed_case content fix rest others
        (marks_after content rest (with_marks marks content fix)) e (later e)
        (is_marked marks content fix) (shares_is marks content fix others m e)

-- fixes that are read one after another
after_first : (content : Content) (fix : Fix) (rest : List Fix) (marks : List Bool)
    → (is_within content fix && not (is_marked marks content fix)) ≡ true
    → marks_after content (fix ∷ rest) marks ≡ marks_after content rest (with_marks marks content fix)
after_first content fix rest marks e =
    ap (λ b. cond b (marks_after content rest (with_marks marks content fix)) None) e

at_first : (content : Content) (fix : Fix) (rest : List Fix) (marks : List Bool)
    → (is_within content fix && not (is_marked marks content fix)) ≡ false
    → marks_after content (fix ∷ rest) marks ≡ None
at_first content fix rest marks e =
    ap (λ b. cond b (marks_after content rest (with_marks marks content fix)) None) e

pub marks_more :
    (content : Content) (target : Option Segment) (kind : FixKind) (entries after : List ℕ) (fix : Fix)
    (marks new : List Bool)
    → AreFixEntries target entries → fix_in_front target kind entries ≡ Some (fix, after)
    → (is_within content fix && not (is_marked marks content fix)) ≡ true → new ≡ with_marks marks content fix
    → marks_after content (fixes_in target kind entries) marks
    ≡ marks_after content (fixes_in target kind after) new
marks_more content target kind entries after fix marks new are found fits e =
    let n = next_fix_is target kind entries fix after are found in
    ap (λ fixes. marks_after content fixes marks) n.left
    ∙ after_first content fix (fixes_in target kind after) marks fits
    ∙ ap (marks_after content (fixes_in target kind after)) (sym e)

pub marks_none :
    (content : Content) (target : Option Segment) (kind : FixKind) (entries after : List ℕ)
    (fix : Fix) (marks : List Bool)
    → AreFixEntries target entries → fix_in_front target kind entries ≡ Some (fix, after)
    → (is_within content fix && not (is_marked marks content fix)) ≡ false
    → marks_after content (fixes_in target kind entries) marks ≡ None
marks_none content target kind entries after fix marks are found fits =
    let n = next_fix_is target kind entries fix after are found in
    ap (λ fixes. marks_after content fixes marks) n.left
    ∙ at_first content fix (fixes_in target kind after) marks fits

nothing_in : (target : Option Segment) (kind : FixKind) → fixes_in target kind [] ≡ []
nothing_in None kind = refl
nothing_in (Some target) kind = refl

pub marks_end :
    (content : Content) (target : Option Segment) (kind : FixKind) (entries : List ℕ) (marks : List Bool)
    → AreFixEntries target entries → fix_in_front target kind entries ≡ None
    → marks_after content (fixes_in target kind entries) marks ≡ Some marks
marks_end content target kind entries marks are none =
    ap (λ l. marks_after content (fixes_in target kind l) marks) (no_fix target kind entries are none)
    ∙ ap (λ fixes. marks_after content fixes marks) (nothing_in target kind)
