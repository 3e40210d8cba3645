-- Fixes of bytes in a row, found by counting those before a place.
use Rattle.object_writing.proofs.Prelude.{◌≡◌, ℕ, zero, suc, ◌+◌, ◌<◌, ◌≤◌, Bool, true, false, cond, ◌&&◌, ◌==◌, nat_lt, List, [], ◌∷◌, ◌++◌, length, map, flat_map, take, drop, get_or, slice_get, Option, Some, None, refl, ap, sym, ◌∙◌, arith, option_map_or, drop_more, drop_all, cond-true, cond-false, lt-ltb, le-ltb, ne_eqb, eq-eqb, and_right, Fix, Fixup, SetByte, is_both, begins_word, Run, fixes_from, fixup_at, fixed_bytes, fixes_of_run, fix_at, fix_found, InOrder, count_before, word_at}

-- a byte in front of others
abbrev byte_with : (value : ℕ) → Option Fixup → SetByte
byte_with value fixup = record { value = value; fixup = fixup }

not_before :
    (fix : Fix) (others : List Fix) (place : ℕ) → place ≤ fix.offset → count_before (fix ∷ others) place ≡ 0
not_before fix others place h =
    cond-false (nat_lt fix.offset place) (suc (count_before others place)) 0 (le-ltb fix.offset place h)

one_before :
    (fix : Fix) (others : List Fix) (place : ℕ) → fix.offset < place
    → count_before (fix ∷ others) place ≡ suc (count_before others place)
one_before fix others place h =
    cond-true (nat_lt fix.offset place) (suc (count_before others place)) 0 (lt-ltb fix.offset place h)

-- the count from an index on
pub count_more :
    (fixes : List Fix) (index : ℕ) (fix d : Fix) (place : ℕ) → index < length fixes
    → fix ≡ get_or fixes index d
    → fix.offset < place
    → count_before (drop index fixes) place ≡ suc (count_before (drop (index + 1) fixes) place)
count_more fixes index fix d place within is less =
    ap (λ fs. count_before fs place)
    (drop_more fixes index d within ∙ ap (λ f. f ∷ drop (index + 1) fixes) (sym is))
    ∙ one_before fix (drop (index + 1) fixes) place less

pub count_stops :
    (fixes : List Fix) (index : ℕ) (fix d : Fix) (place : ℕ) → index < length fixes
    → fix ≡ get_or fixes index d
    → place ≤ fix.offset → count_before (drop index fixes) place ≡ 0
count_stops fixes index fix d place within is more =
    ap (λ fs. count_before fs place)
    (drop_more fixes index d within ∙ ap (λ f. f ∷ drop (index + 1) fixes) (sym is))
    ∙ not_before fix (drop (index + 1) fixes) place more

pub count_ends :
    (fixes : List Fix) (index place : ℕ) → length fixes ≤ index → count_before (drop index fixes) place ≡ 0
count_ends fixes index place past = ap (λ fs. count_before fs place) (drop_all index fixes past)

-- no fix is before the bytes
pub none_before :
    (place offset : ℕ) (items : List SetByte) → place ≤ offset
    → count_before (fixes_from offset items) place ≡ 0
none_before place offset [] h = refl
none_before place offset (here ∷ others) h =
    go here.value here.fixup (none_before place (offset + 1) others (omega (arith, h)))
  where
    go : (value : ℕ) (fixup : Option Fixup) → count_before (fixes_from (offset + 1) others) place ≡ 0
        → count_before (fixes_from offset (byte_with value fixup ∷ others)) place ≡ 0
    go value None later = later
    go value (Some fixup) later = not_before (fix_at offset fixup) (fixes_from (offset + 1) others) place h

-- the fixes of bytes, and then those of others
pub fixes_split :
    (count offset : ℕ) (items : List SetByte)
    → fixes_from offset items ≡ fixes_from offset (take count items)
    ++ fixes_from (offset + count) (drop count items)
fixes_split zero offset items = ap (λ o. fixes_from o items) (let e : offset ≡ offset + 0 = omega arith in e)
fixes_split (suc count) offset [] = refl
fixes_split (suc count) offset (here ∷ others) =
    go here.value here.fixup
    (fixes_split count (offset + 1) others
    ∙ ap (λ o. fixes_from (offset + 1) (take count others) ++ fixes_from o (drop count others))
    (let e : offset + 1 + count ≡ offset + suc count = omega arith in e))
  where
    go : (value : ℕ) (fixup : Option Fixup)
        → fixes_from (offset + 1) others
        ≡ fixes_from (offset + 1) (take count others) ++ fixes_from (offset + suc count) (drop count others)
        → fixes_from offset (byte_with value fixup ∷ others)
        ≡ fixes_from offset (byte_with value fixup ∷ take count others)
        ++ fixes_from (offset + suc count) (drop count others)
    go value None later = later
    go value (Some fixup) later = ap (λ r. fix_at offset fixup ∷ r) later

-- the fixes of bytes are those before the place where they end
pub counted :
    (place offset : ℕ) (items : List SetByte) (later : List Fix) → offset + length items ≤ place
    → count_before later place ≡ 0 → count_before (fixes_from offset items ++ later) place
    ≡ length (fixes_from offset items)
counted place offset [] later h none = none
counted place offset (here ∷ others) later h none =
    go here.value here.fixup (counted place (offset + 1) others later (omega (arith, h)) none)
  where
    go : (value : ℕ) (fixup : Option Fixup)
        → count_before (fixes_from (offset + 1) others ++ later) place
        ≡ length (fixes_from (offset + 1) others)
        → count_before (fixes_from offset (byte_with value fixup ∷ others) ++ later) place
        ≡ length (fixes_from offset (byte_with value fixup ∷ others))
    go value None same = same
    go value (Some fixup) same =
        one_before (fix_at offset fixup) (fixes_from (offset + 1) others ++ later) place (omega (arith, h))
        ∙ ap suc same

-- a word that begins at a byte
word_at_first :
    (fix : Fix) (others : List Fix) (place : ℕ) → place ≤ fix.offset
    → word_at (fix ∷ others) place ≡ (is_both fix.kind && fix.offset == place)
word_at_first fix others place h =
    ap (λ n. option_map_or (λ (f : Fix). is_both f.kind && f.offset == place)
    (slice_get (fix ∷ others) n) false)
    (not_before fix others place h)

word_later :
    (fix : Fix) (others : List Fix) (place : ℕ) → fix.offset < place
    → word_at (fix ∷ others) place ≡ word_at others place
word_later fix others place h =
    ap (λ n. option_map_or (λ (f : Fix). is_both f.kind && f.offset == place)
    (slice_get (fix ∷ others) n) false)
    (one_before fix others place h)

no_word_before : (place offset : ℕ) (items : List SetByte) → place < offset
    → word_at (fixes_from offset items) place ≡ false
no_word_before place offset [] h = refl
no_word_before place offset (here ∷ others) h =
    go here.value here.fixup (no_word_before place (offset + 1) others (omega (arith, h)))
  where
    go : (value : ℕ) (fixup : Option Fixup) → word_at (fixes_from (offset + 1) others) place ≡ false
        → word_at (fixes_from offset (byte_with value fixup ∷ others)) place ≡ false
    go value None later = later
    go value (Some fixup) later =
        word_at_first (fix_at offset fixup) (fixes_from (offset + 1) others) place (omega (arith, h))
        ∙ and_right (is_both fixup.kind) (offset == place) (ne_eqb offset place (λ e. omega (arith, e, h)))

and_true : (a b : Bool) → b ≡ true → (a && b) ≡ a
and_true true b e = e
and_true false b e = refl

pub word_is :
    (offset : ℕ) (items : List SetByte) (number : ℕ)
    → word_at (fixes_from offset items) (offset + number) ≡ begins_word (slice_get items number)
word_is offset [] number = refl
word_is offset (here ∷ others) zero = go here.value here.fixup
  where
    go : (value : ℕ) (fixup : Option Fixup)
        → word_at (fixes_from offset (byte_with value fixup ∷ others)) (offset + 0)
        ≡ begins_word (Some (byte_with value fixup))
    go value None = no_word_before (offset + 0) (offset + 1) others (omega arith)
    go value (Some fixup) =
        word_at_first (fix_at offset fixup) (fixes_from (offset + 1) others) (offset + 0) (omega arith)
        ∙ and_true (is_both fixup.kind) (offset == offset + 0) (eq-eqb offset (offset + 0) (omega arith))
word_is offset (here ∷ others) (suc number) =
    go here.value here.fixup
    (ap (word_at (fixes_from (offset + 1) others))
    (let e : offset + suc number ≡ offset + 1 + number = omega arith in e)
    ∙ word_is (offset + 1) others number)
  where
    go : (value : ℕ) (fixup : Option Fixup)
        → word_at (fixes_from (offset + 1) others) (offset + suc number)
        ≡ begins_word (slice_get others number)
        → word_at (fixes_from offset (byte_with value fixup ∷ others)) (offset + suc number)
        ≡ begins_word (slice_get others number)
    go value None later = later
    go value (Some fixup) later =
        word_later (fix_at offset fixup) (fixes_from (offset + 1) others) (offset + suc number) (omega arith)
        ∙ later

-- bytes with their fixes again
fixed_by :
    (all : List Fix) (offset : ℕ) (items : List SetByte)
    → ((number : ℕ) (here : SetByte) → slice_get items number ≡ Some here
    → fixup_at all (offset + number) ≡ here.fixup)
    → fixed_bytes all offset (map (λ (here : SetByte). here.value) items) ≡ items
fixed_by all offset [] h = refl
fixed_by all offset (here ∷ others) h =
    let first : fixup_at all offset ≡ here.fixup =
    ap (fixup_at all) (let e : offset ≡ offset + 0 = omega arith in e) ∙ h 0 here refl in
    ap (λ fixup. record { value = here.value; fixup = fixup }
    ∷ fixed_bytes all (offset + 1) (map (λ (one : SetByte). one.value) others)) first
    ∙ ap (λ rest. here ∷ rest)
    (fixed_by all (offset + 1) others
    (λ number one e.
    ap (fixup_at all) (let same : offset + 1 + number ≡ offset + suc number = omega arith in same)
    ∙ h (suc number) one e))

pub fixed_again :
    (offset : ℕ) (items : List SetByte)
    → fixed_bytes (fixes_from offset items) offset (map (λ (here : SetByte). here.value) items) ≡ items
fixed_again offset items =
    fixed_by (fixes_from offset items) offset items (λ number here e. fix_found offset number items here e)

-- what holds of a run and its fixes
pub are_fixes_of :
    (offset : ℕ) (items : List SetByte) (bytes : List ℕ) (fixes : List Fix)
    → bytes ≡ map (λ (here : SetByte). here.value) items → fixes ≡ fixes_from offset items
    → fixed_bytes fixes offset bytes ≡ items
are_fixes_of offset items bytes fixes b f =
    ap (λ fs. fixed_bytes fs offset bytes) f ∙ ap (fixed_bytes (fixes_from offset items) offset) b
    ∙ fixed_again offset items

-- no fix of later runs is before a place
append_none :
    (xs ys : List Fix) (place : ℕ) → count_before xs place ≡ 0 → count_before ys place ≡ 0
    → count_before (xs ++ ys) place ≡ 0
append_none [] ys place h k = k
append_none (x ∷ xs) ys place h k = go (nat_lt x.offset place) h
  where
    go : (b : Bool) → cond b (suc (count_before xs place)) 0 ≡ 0
        → cond b (suc (count_before (xs ++ ys) place)) 0 ≡ 0
    go true e = absurd (omega (arith, e))
    go false e = refl

pub none_in_runs :
    (place from to : ℕ) (runs : List (Run SetByte)) → InOrder from to runs → place ≤ from
    → count_before (flat_map fixes_of_run runs) place ≡ 0
none_in_runs place from to [] o h = refl
none_in_runs place from to (run ∷ others) o h =
    let p : from ≤ run.offset = o.0 in
    append_none (fixes_of_run run) (flat_map fixes_of_run others) place
    (none_before place run.offset run.items (omega (arith, p, h)))
    (none_in_runs place (run.offset + length run.items) to others o.2 (omega (arith, p, h)))
