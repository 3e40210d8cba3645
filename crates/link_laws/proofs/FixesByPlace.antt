-- The fixes of contents by their places: those of a content are within it, and those of later ones after it.
use Rattle.link_laws.proofs.Prelude.{◌≡◌, ℕ, zero, suc, ◌+◌, ◌≤◌, Bool, true, false, cond, ◌==◌, nat_le, List, [], ◌∷◌, length, flat_map, Option, Some, None, refl, subst, arith, list_all, and_parts, leb-true, same_Some, Fix, content_end, Content, fix_end, is_within, FixedContent, AllPast, AreWithin, Placed, fix_at, fix_table, fixes_by_place, listed, found_there, past_append}

-- a fix that is found is one of those that are within
found_within :
    (content : Content) (fixes : List Fix) (offset : ℕ) (fix : Fix)
    → list_all (is_within content) fixes ≡ true
    → fix_at fixes offset ≡ Some fix → is_within content fix ≡ true
found_within content [] offset fix all h = absurd (let bad : None ≡ Some fix = h in cc)
found_within content (first ∷ others) offset fix all h =
    go (first.offset == offset) h
    (and_parts (is_within content first) (list_all (is_within content) others) all)
    (found_within content others offset fix)
  where
    go : (b : Bool) → cond b (Some first) (fix_at others offset) ≡ Some fix
        → (is_within content first ≡ true) × (list_all (is_within content) others ≡ true)
        → (list_all (is_within content) others ≡ true → fix_at others offset ≡ Some fix
        → is_within content fix ≡ true)
        → is_within content fix ≡ true
    go true k parts later = subst (λ f. is_within content f ≡ true) (same_Some first fix k) parts.0
    go false k parts later = later parts.1 k

table_within :
    (content : Content) (fixes : List Fix) → list_all (is_within content) fixes ≡ true → (count offset : ℕ)
    → AreWithin content.offset (length content.bytes) (listed (fix_table fixes offset count))
table_within content fixes all zero offset = tt
table_within content fixes all (suc count) offset =
    go (fix_at fixes offset) refl (table_within content fixes all count (offset + 1))
  where
    go : (slot : Option Fix) → fix_at fixes offset ≡ slot
        → AreWithin content.offset (length content.bytes) (listed (fix_table fixes (offset + 1) count))
        → AreWithin content.offset (length content.bytes) (listed (slot ∷ fix_table fixes (offset + 1) count))
    go None e later = later
    go (Some fix) e later =
        let parts = and_parts (nat_le content.offset fix.offset) (nat_le (fix_end fix) (content_end content))
        (found_within content fixes offset fix all e) in
        ((leb-true content.offset fix.offset parts.0, leb-true (fix_end fix) (content_end content) parts.1), later)

pub own_within :
    (fixed : FixedContent) → list_all (is_within fixed.content) fixed.fixes ≡ true
    → AreWithin (fixed.content).offset (length (fixed.content).bytes) (fixes_by_place fixed)
own_within fixed all =
    table_within fixed.content fixed.fixes all (length (fixed.content).bytes) (fixed.content).offset

-- fixes of a table begin at its first place or later
table_past :
    (fixes : List Fix) (end count offset : ℕ) → end ≤ offset
    → AllPast end (listed (fix_table fixes offset count))
table_past fixes end zero offset h = tt
table_past fixes end (suc count) offset h =
    go (fix_at fixes offset) refl (table_past fixes end count (offset + 1) (omega (arith, h)))
  where
    go : (slot : Option Fix) → fix_at fixes offset ≡ slot
        → AllPast end (listed (fix_table fixes (offset + 1) count))
        → AllPast end (listed (slot ∷ fix_table fixes (offset + 1) count))
    go None e later = later
    go (Some fix) e later =
        let at : fix.offset ≡ offset = found_there fixes offset fix e in
        (omega (arith, at, h), later)

pub later_past :
    (size end low : ℕ) (contents : List FixedContent) → low ≤ end → Placed size end contents
    → AllPast low (flat_map fixes_by_place contents)
later_past size end low [] h placed = tt
later_past size end low (fixed ∷ others) h placed =
    let begins : end ≤ (fixed.content).offset = placed.0 in
    past_append low (fixes_by_place fixed) (flat_map fixes_by_place others)
    (table_past fixed.fixes low (length (fixed.content).bytes) (fixed.content).offset
    (omega (arith, begins, h)))
    (later_past size (content_end fixed.content) low others (omega (arith, begins, h)) placed.2)
