-- What is kept of the contents of a segment sets what they set.
use Rattle.objmod.proofs.Prelude.{◌≡◌, ℕ, zero, suc, ◌+◌, ◌-◌, ◌<◌, ◌≤◌, ◌≢◌, Bool, true, false, cond, not, ◌&&◌, ◌==◌, nat_lt, nat_le, ◌⊎◌, inl, inr, List, [], ◌∷◌, ◌++◌, length, map, flat_map, filter, find, Option, Some, None, option_map, slice_index, refl, ap, sym, ◌∙◌, arith, eqb-true, eqb-false, eq-eqb, ne_eqb, leb-true, leb-false, le-leb, lt-leb, ltb-true, ltb-false, lt-ltb, le-ltb, length-append, find_passes, Alignment, Fix, Segment, content_end, Fixup, SetByte, fixup_at, FixedContent, holds_place, set_at, set_in, places_stored, Run, places_by, content_with, byte_in_run, found, found_is, run_at, same_over, before_kept, open_run, is_in, runs_kept, fix_at, fix_table, listed, fixes_by_place, kept_segment, Placed, map_cond, same_self}

-- What contents of one segment set at a place.
abbrev holds : ℕ → FixedContent → Bool
holds x fixed = nat_le (fixed.content).offset x && nat_lt x (content_end fixed.content)

abbrev pub look : List FixedContent → ℕ → Option SetByte
look [] x = None
look (fixed ∷ others) x = cond (holds x fixed) (Some (set_at x fixed)) (look others x)

-- the same with the fixes of a list
abbrev pub bytes_at : List Fix → List FixedContent → ℕ → Option SetByte
bytes_at fixes [] x = None
bytes_at fixes (fixed ∷ others) x =
    cond (holds x fixed)
    (Some (record {
      value = slice_index (fixed.content).bytes (x - (fixed.content).offset);
      fixup = fixup_at fixes x;
    }))
    (bytes_at fixes others x)

-- only the contents of a segment set its places
pub look_is :
    (segment : Segment) (contents : List FixedContent) (x : ℕ)
    → set_in contents segment x ≡ look (filter (is_in segment) contents) x
look_is segment [] x = refl
look_is segment (fixed ∷ others) x = go (is_in segment fixed) refl (look_is segment others x)
  where
    go : (b : Bool) → is_in segment fixed ≡ b
        → option_map (set_at x) (find (holds_place segment x) others) ≡ look (filter (is_in segment) others) x
        → option_map (set_at x)
        (cond (holds_place segment x fixed) (Some fixed) (find (holds_place segment x) others))
        ≡ look (cond (is_in segment fixed) (fixed ∷ filter (is_in segment) others)
        (filter (is_in segment) others)) x
    go true e later =
        ap (λ b.
        option_map (set_at x)
        (cond ((b && nat_le (fixed.content).offset x) && nat_lt x (content_end fixed.content)) (Some fixed)
        (find (holds_place segment x) others))) e
        ∙ map_cond (set_at x) (holds x fixed) fixed (find (holds_place segment x) others)
        ∙ ap (cond (holds x fixed) (Some (set_at x fixed))) later
        ∙ ap (λ b. look (cond b (fixed ∷ filter (is_in segment) others) (filter (is_in segment) others)) x)
        (sym e)
    go false e later =
        ap (λ b.
        option_map (set_at x)
        (cond ((b && nat_le (fixed.content).offset x) && nat_lt x (content_end fixed.content)) (Some fixed)
        (find (holds_place segment x) others))) e
        ∙ later
        ∙ ap (λ b. look (cond b (fixed ∷ filter (is_in segment) others) (filter (is_in segment) others)) x)
        (sym e)

-- bytes of lists one after the other
index_first :
    (xs ys : List ℕ) (k : ℕ) → k < length xs → slice_index (xs ++ ys) k ≡ slice_index xs k
index_first [] ys k h = absurd (omega arith)
index_first (x ∷ xs) ys zero h = refl
index_first (x ∷ xs) ys (suc k) h = index_first xs ys k (omega arith)

index_second :
    (xs ys : List ℕ) (k : ℕ) → slice_index (xs ++ ys) (length xs + k) ≡ slice_index ys k
index_second [] ys k = ap (slice_index ys) (let e : 0 + k ≡ k = omega arith in e)
index_second (x ∷ xs) ys k =
    ap (slice_index (x ∷ xs ++ ys)) (let e : length (x ∷ xs) + k ≡ suc (length xs + k) = omega arith in e)
    ∙ index_second xs ys k

-- the byte at a place, of bytes from an offset on
abbrev byte_here : List Fix → (offset x : ℕ) → List ℕ → SetByte
byte_here fixes offset x items = record { value = slice_index items (x - offset); fixup = fixup_at fixes x }

-- a run and one right after it are one run
joined_found :
    (fixes : List Fix) (offset : ℕ) (bytes : List ℕ) (next : Run ℕ) (others : List (Run ℕ)) (x : ℕ)
    → next.offset ≡ offset + length bytes
    → found fixes (run_at offset (bytes ++ next.items) ∷ others) x
    ≡ found fixes (run_at offset bytes ∷ next ∷ others) x
joined_found fixes offset bytes next others x is =
    go (nat_le offset x) refl (nat_lt x (offset + length bytes)) refl
  where
    sized : length (bytes ++ next.items) ≡ length bytes + length next.items
    sized = length-append bytes next.items

    go : (b : Bool) → nat_le offset x ≡ b → (c : Bool) → nat_lt x (offset + length bytes) ≡ c
        → cond (nat_le offset x && nat_lt x (offset + length (bytes ++ next.items)))
        (Some (byte_here fixes offset x (bytes ++ next.items))) (found fixes others x)
        ≡ cond (nat_le offset x && nat_lt x (offset + length bytes)) (Some (byte_here fixes offset x bytes))
        (cond (nat_le next.offset x && nat_lt x (next.offset + length next.items))
        (Some (byte_in_run fixes x next)) (found fixes others x))
    go false e c f =
        let before : x < offset = leb-false offset x e in
        let after : x < next.offset = omega (arith, is) in
        ap (λ b. cond (b && nat_lt x (offset + length (bytes ++ next.items)))
        (Some (byte_here fixes offset x (bytes ++ next.items))) (found fixes others x)) e
        ∙ sym
        (ap (λ b.
        cond (b && nat_lt x (offset + length bytes)) (Some (byte_here fixes offset x bytes))
        (cond (nat_le next.offset x && nat_lt x (next.offset + length next.items))
        (Some (byte_in_run fixes x next)) (found fixes others x)))
        e
        ∙ ap (λ b. cond (b && nat_lt x (next.offset + length next.items)) (Some (byte_in_run fixes x next))
        (found fixes others x))
        (lt-leb next.offset x after))
    go true e true f =
        let from : offset ≤ x = leb-true offset x e in
        let to : x < offset + length bytes = ltb-true x (offset + length bytes) f in
        let within : x < offset + length (bytes ++ next.items) = omega (arith, sized) in
        ap (λ b. cond (b && nat_lt x (offset + length (bytes ++ next.items)))
        (Some (byte_here fixes offset x (bytes ++ next.items))) (found fixes others x)) e
        ∙ ap (λ b. cond b (Some (byte_here fixes offset x (bytes ++ next.items))) (found fixes others x))
        (lt-ltb x (offset + length (bytes ++ next.items)) within)
        ∙ ap (λ value. Some (record { value = value; fixup = fixup_at fixes x }))
        (index_first bytes next.items (x - offset) (omega arith))
        ∙ sym
        (ap (λ b.
        cond (b && nat_lt x (offset + length bytes)) (Some (byte_here fixes offset x bytes))
        (cond (nat_le next.offset x && nat_lt x (next.offset + length next.items))
        (Some (byte_in_run fixes x next)) (found fixes others x)))
        e
        ∙ ap (λ b.
        cond b (Some (byte_here fixes offset x bytes))
        (cond (nat_le next.offset x && nat_lt x (next.offset + length next.items))
        (Some (byte_in_run fixes x next)) (found fixes others x)))
        f)
    go true e false f =
        let from : offset ≤ x = leb-true offset x e in
        let past : offset + length bytes ≤ x = ltb-false x (offset + length bytes) f in
        let reach : next.offset ≤ x = omega (arith, is) in
        let ends : offset + length (bytes ++ next.items) ≡ next.offset + length next.items =
        omega (arith, is, sized) in
        let place : x - offset ≡ length bytes + (x - next.offset) = omega (arith, is) in
        ap (λ b. cond (b && nat_lt x (offset + length (bytes ++ next.items)))
        (Some (byte_here fixes offset x (bytes ++ next.items))) (found fixes others x)) e
        ∙ ap (λ end. cond (nat_lt x end) (Some (byte_here fixes offset x (bytes ++ next.items)))
        (found fixes others x)) ends
        ∙ ap (λ value.
        cond (nat_lt x (next.offset + length next.items))
        (Some (record { value = value; fixup = fixup_at fixes x })) (found fixes others x))
        (ap (slice_index (bytes ++ next.items)) place ∙ index_second bytes next.items (x - next.offset))
        ∙ sym
        (ap (λ b.
        cond (b && nat_lt x (offset + length bytes)) (Some (byte_here fixes offset x bytes))
        (cond (nat_le next.offset x && nat_lt x (next.offset + length next.items))
        (Some (byte_in_run fixes x next)) (found fixes others x)))
        e
        ∙ ap (λ b.
        cond b (Some (byte_here fixes offset x bytes))
        (cond (nat_le next.offset x && nat_lt x (next.offset + length next.items))
        (Some (byte_in_run fixes x next)) (found fixes others x)))
        f
        ∙ ap (λ b. cond (b && nat_lt x (next.offset + length next.items)) (Some (byte_in_run fixes x next))
        (found fixes others x))
        (le-leb next.offset x reach))

before_found :
    (fixes : List Fix) (offset : ℕ) (bytes : List ℕ) (runs : List (Run ℕ)) (x : ℕ)
    → found fixes (before_kept offset bytes runs) x ≡ found fixes (run_at offset bytes ∷ runs) x
before_found fixes offset bytes [] x = refl
before_found fixes offset bytes (next ∷ others) x = go (next.offset == offset + length bytes) refl
  where
    go : (b : Bool) → (next.offset == offset + length bytes) ≡ b
        → found fixes
        (cond b (run_at offset (bytes ++ next.items) ∷ others) (run_at offset bytes ∷ next ∷ others)) x
        ≡ found fixes (run_at offset bytes ∷ next ∷ others) x
    go true e =
        joined_found fixes offset bytes next others x (eqb-true next.offset (offset + length bytes) e)
    go false e = refl

-- no place is within no bytes
none_within : (offset x : ℕ) → (nat_le offset x && nat_lt x (offset + length {A = ℕ} [])) ≡ false
none_within offset x = go (nat_le offset x) refl
  where
    go : (b : Bool) → nat_le offset x ≡ b → (b && nat_lt x (offset + length {A = ℕ} [])) ≡ false
    go true e =
        let from : offset ≤ x = leb-true offset x e in le-ltb x (offset + length {A = ℕ} []) (omega arith)
    go false e = refl

open_found :
    (fixes : List Fix) (offset : ℕ) (bytes : List ℕ) (runs : List (Run ℕ)) (x : ℕ)
    → found fixes (open_run offset bytes runs) x ≡ found fixes (run_at offset bytes ∷ runs) x
open_found fixes offset [] runs x =
    ap (λ b. cond b (Some (byte_in_run fixes x (run_at offset []))) (found fixes runs x))
    (sym (none_within offset x))
open_found fixes offset (first ∷ others) runs x = before_found fixes offset (first ∷ others) runs x

-- the runs that are kept have the bytes of the contents
pub runs_found :
    (fixes : List Fix) (contents : List FixedContent) (x : ℕ)
    → found fixes (runs_kept contents) x ≡ bytes_at fixes contents x
runs_found fixes [] x = refl
runs_found fixes (fixed ∷ others) x =
    open_found fixes (fixed.content).offset (fixed.content).bytes (runs_kept others) x
    ∙ ap (cond (holds x fixed)
    (Some (record {
      value = slice_index (fixed.content).bytes (x - (fixed.content).offset);
      fixup = fixup_at fixes x;
    })))
    (runs_found fixes others x)

-- The fixes that are kept of a content, by their places.
pub found_there : (fixes : List Fix) (offset : ℕ) (fix : Fix) → fix_at fixes offset ≡ Some fix
    → fix.offset ≡ offset
found_there fixes offset fix h =
    eqb-true fix.offset offset (find_passes (λ (f : Fix). f.offset == offset) fixes fix h)

other_place :
    (fix : Fix) (rest : List Fix) (x : ℕ) → fix.offset ≢ x → fix_at (fix ∷ rest) x ≡ fix_at rest x
other_place fix rest x h = ap (λ b. cond b (Some fix) (fix_at rest x)) (ne_eqb fix.offset x h)

that_place : (fix : Fix) (rest : List Fix) (x : ℕ) → fix.offset ≡ x → fix_at (fix ∷ rest) x ≡ Some fix
that_place fix rest x h = ap (λ b. cond b (Some fix) (fix_at rest x)) (eq-eqb fix.offset x h)

table_none :
    (fixes : List Fix) (offset count x : ℕ) → (x < offset) ⊎ (offset + count ≤ x)
    → fix_at (listed (fix_table fixes offset count)) x ≡ None
table_none fixes offset zero x h = refl
table_none fixes offset (suc count) x h =
    go (fix_at fixes offset) refl (table_none fixes (offset + 1) count x (out h))
  where
    out : (x < offset) ⊎ (offset + suc count ≤ x) → (x < offset + 1) ⊎ (offset + 1 + count ≤ x)
    out (inl before) = inl (omega arith)
    out (inr after) = inr (omega arith)

    apart : (x < offset) ⊎ (offset + suc count ≤ x) → offset ≡ x → ⊥
    apart (inl before) is = omega arith
    apart (inr after) is = omega arith

    go : (slot : Option Fix) → fix_at fixes offset ≡ slot
        → fix_at (listed (fix_table fixes (offset + 1) count)) x ≡ None
        → fix_at (listed (fix_at fixes offset ∷ (fix_table fixes (offset + 1) count))) x ≡ None
    go None e later = ap (λ s. fix_at (listed (s ∷ (fix_table fixes (offset + 1) count))) x) e ∙ later
    go (Some fix) e later =
        let there : fix.offset ≡ offset = found_there fixes offset fix e in
        ap (λ s. fix_at (listed (s ∷ (fix_table fixes (offset + 1) count))) x) e
        ∙ other_place fix (listed (fix_table fixes (offset + 1) count)) x (λ is. apart h (sym there ∙ is))
        ∙ later

table_same :
    (fixes : List Fix) (offset count x : ℕ) → offset ≤ x → x < offset + count
    → fix_at (listed (fix_table fixes offset count)) x ≡ fix_at fixes x
table_same fixes offset zero x from to = absurd (omega arith)
table_same fixes offset (suc count) x from to =
    go (offset == x) refl (λ more. table_same fixes (offset + 1) count x more (omega arith))
  where
    here : (slot : Option Fix) → fix_at fixes offset ≡ slot → offset ≡ x
        → fix_at (listed (fix_at fixes offset ∷ (fix_table fixes (offset + 1) count))) x ≡ fix_at fixes x
    here None e is =
        ap (λ s. fix_at (listed (s ∷ (fix_table fixes (offset + 1) count))) x) e
        ∙ table_none fixes (offset + 1) count x (inl (omega arith))
        ∙ sym (ap (fix_at fixes) (sym is) ∙ e)
    here (Some fix) e is =
        ap (λ s. fix_at (listed (s ∷ (fix_table fixes (offset + 1) count))) x) e
        ∙ that_place fix (listed (fix_table fixes (offset + 1) count)) x (found_there fixes offset fix e ∙ is)
        ∙ sym (ap (fix_at fixes) (sym is) ∙ e)

    there : (slot : Option Fix) → fix_at fixes offset ≡ slot → offset ≢ x
        → fix_at (listed (fix_table fixes (offset + 1) count)) x ≡ fix_at fixes x
        → fix_at (listed (fix_at fixes offset ∷ (fix_table fixes (offset + 1) count))) x ≡ fix_at fixes x
    there None e not later = ap (λ s. fix_at (listed (s ∷ (fix_table fixes (offset + 1) count))) x) e ∙ later
    there (Some fix) e not later =
        ap (λ s. fix_at (listed (s ∷ (fix_table fixes (offset + 1) count))) x) e
        ∙ other_place fix (listed (fix_table fixes (offset + 1) count)) x
        (λ is. not (sym (found_there fixes offset fix e) ∙ is))
        ∙ later

    go : (b : Bool) → (offset == x) ≡ b
        → (offset + 1 ≤ x → fix_at (listed (fix_table fixes (offset + 1) count)) x ≡ fix_at fixes x)
        → fix_at (listed (fix_at fixes offset ∷ (fix_table fixes (offset + 1) count))) x ≡ fix_at fixes x
    go true e later = here (fix_at fixes offset) refl (eqb-true offset x e)
    go false e later =
        let not : offset ≢ x = eqb-false offset x e in
        there (fix_at fixes offset) refl not (later (omega arith))

fix_at_append :
    (xs ys : List Fix) (x : ℕ) → fix_at xs x ≡ None → fix_at (xs ++ ys) x ≡ fix_at ys x
fix_at_append [] ys x h = refl
fix_at_append (fix ∷ xs) ys x h = go (fix.offset == x) refl h (fix_at_append xs ys x)
  where
    go : (b : Bool) → (fix.offset == x) ≡ b → cond (fix.offset == x) (Some fix) (fix_at xs x) ≡ None
        → (fix_at xs x ≡ None → fix_at (xs ++ ys) x ≡ fix_at ys x)
        → cond (fix.offset == x) (Some fix) (fix_at (xs ++ ys) x) ≡ fix_at ys x
    go true e k later =
        absurd (let bad : Some fix ≡ None = ap (λ b. cond b (Some fix) (fix_at xs x)) (sym e) ∙ k in cc)
    go false e k later =
        ap (λ b. cond b (Some fix) (fix_at (xs ++ ys) x)) e
        ∙ later (ap (λ b. cond b (Some fix) (fix_at xs x)) (sym e) ∙ k)

-- what is at no place of the second list is of the first
fix_at_first :
    (xs ys : List Fix) (x : ℕ) → fix_at ys x ≡ None → fix_at (xs ++ ys) x ≡ fix_at xs x
fix_at_first [] ys x h = h
fix_at_first (fix ∷ xs) ys x h = ap (cond (fix.offset == x) (Some fix)) (fix_at_first xs ys x h)

-- no fix that is kept lies before the contents
kept_none :
    (size end : ℕ) (contents : List FixedContent) (x : ℕ) → Placed size end contents → x < end
    → fix_at (flat_map fixes_by_place contents) x ≡ None
kept_none size end [] x placed h = refl
kept_none size end (fixed ∷ others) x placed h =
    let offset : ℕ = (fixed.content).offset in
    let count : ℕ = length (fixed.content).bytes in
    let begins : end ≤ (fixed.content).offset = placed.0 in
    let ends : content_end fixed.content ≡ (fixed.content).offset + length (fixed.content).bytes = refl in
    fix_at_append (fixes_by_place fixed) (flat_map fixes_by_place others) x
    (table_none fixed.fixes offset count x (inl (omega arith)))
    ∙ kept_none size (content_end fixed.content) others x placed.2 (omega (arith, ends))

bytes_none :
    (fixes : List Fix) (size end : ℕ) (contents : List FixedContent) (x : ℕ)
    → Placed size end contents → x < end
    → bytes_at fixes contents x ≡ None
bytes_none fixes size end [] x placed h = refl
bytes_none fixes size end (fixed ∷ others) x placed h =
    let begins : end ≤ (fixed.content).offset = placed.0 in
    let ends : content_end fixed.content ≡ (fixed.content).offset + length (fixed.content).bytes = refl in
    ap (λ b.
    cond (b && nat_lt x (content_end fixed.content))
    (Some (record {
      value = slice_index (fixed.content).bytes (x - (fixed.content).offset);
      fixup = fixup_at fixes x;
    })) (bytes_at fixes others x)) (lt-leb (fixed.content).offset x (omega arith))
    ∙ bytes_none fixes size (content_end fixed.content) others x placed.2 (omega (arith, ends))

bytes_same :
    (left right : List Fix) (contents : List FixedContent) (x : ℕ) → fixup_at left x ≡ fixup_at right x
    → bytes_at left contents x ≡ bytes_at right contents x
bytes_same left right [] x h = refl
bytes_same left right (fixed ∷ others) x h =
    ap (λ fixup.
    cond (holds x fixed)
    (Some (record {
      value = slice_index (fixed.content).bytes (x - (fixed.content).offset);
      fixup = fixup;
    })) (bytes_at left others x)) h
    ∙ ap (cond (holds x fixed)
    (Some (record {
      value = slice_index (fixed.content).bytes (x - (fixed.content).offset);
      fixup = fixup_at right x;
    }))) (bytes_same left right others x h)

abbrev fixup_of : Fix → Fixup
fixup_of fix = record { kind = fix.kind; target = fix.target }

-- the fixes that are kept are those of the contents
pub fixes_found :
    (size end : ℕ) (contents : List FixedContent) (x : ℕ) → Placed size end contents
    → look contents x ≡ bytes_at (flat_map fixes_by_place contents) contents x
fixes_found size end [] x placed = refl
fixes_found size end (fixed ∷ others) x placed =
    go (nat_le (fixed.content).offset x) refl (nat_lt x (content_end fixed.content)) refl
    (fixes_found size (content_end fixed.content) others x placed.2)
  where
    go : (b : Bool) → nat_le (fixed.content).offset x ≡ b → (c : Bool)
        → nat_lt x (content_end fixed.content) ≡ c
        → look others x ≡ bytes_at (flat_map fixes_by_place others) others x
        → cond (nat_le (fixed.content).offset x && nat_lt x (content_end fixed.content))
        (Some (set_at x fixed))
        (look others x)
        ≡ cond (nat_le (fixed.content).offset x && nat_lt x (content_end fixed.content))
        (Some (record { value = slice_index (fixed.content).bytes (x - (fixed.content).offset); fixup = fixup_at (fixes_by_place fixed ++ (flat_map fixes_by_place others)) x })) (bytes_at (fixes_by_place fixed ++ (flat_map fixes_by_place others)) others x)
    go false e c f later =
        let before : x < (fixed.content).offset = leb-false (fixed.content).offset x e in
        let ends : content_end fixed.content ≡ (fixed.content).offset + length (fixed.content).bytes = refl in
        let reach : x < content_end fixed.content = omega (arith, ends) in
        ap (λ b. cond (b && nat_lt x (content_end fixed.content)) (Some (set_at x fixed)) (look others x)) e
        ∙ later
        ∙ bytes_none (flat_map fixes_by_place others) size (content_end fixed.content) others x placed.2 reach
        ∙ sym (bytes_none (fixes_by_place fixed ++ (flat_map fixes_by_place others)) size
        (content_end fixed.content) others x placed.2 reach)
        ∙ sym
        (ap (λ b.
        cond (b && nat_lt x (content_end fixed.content))
        (Some (record { value = slice_index (fixed.content).bytes (x - (fixed.content).offset); fixup = fixup_at (fixes_by_place fixed ++ (flat_map fixes_by_place others)) x }))
        (bytes_at (fixes_by_place fixed ++ (flat_map fixes_by_place others)) others x)) e)
    go true e true f later =
        let from : (fixed.content).offset ≤ x = leb-true (fixed.content).offset x e in
        let to : x < content_end fixed.content = ltb-true x (content_end fixed.content) f in
        ap (λ b. cond (b && nat_lt x (content_end fixed.content)) (Some (set_at x fixed)) (look others x)) e
        ∙ ap (λ b. cond b (Some (set_at x fixed)) (look others x)) f
        ∙ ap (λ fix. Some
        (record { value = slice_index (fixed.content).bytes (x - (fixed.content).offset); fixup = option_map fixup_of fix }))
        (sym
        (fix_at_first (fixes_by_place fixed) (flat_map fixes_by_place others) x
        (kept_none size (content_end fixed.content) others x placed.2 to)
        ∙ table_same fixed.fixes (fixed.content).offset (length (fixed.content).bytes) x from to))
        ∙ sym
        (ap (λ b.
        cond (b && nat_lt x (content_end fixed.content))
        (Some (record { value = slice_index (fixed.content).bytes (x - (fixed.content).offset); fixup = fixup_at (fixes_by_place fixed ++ (flat_map fixes_by_place others)) x }))
        (bytes_at (fixes_by_place fixed ++ (flat_map fixes_by_place others)) others x)) e
        ∙ ap (λ b. cond b
        (Some (record { value = slice_index (fixed.content).bytes (x - (fixed.content).offset); fixup = fixup_at (fixes_by_place fixed ++ (flat_map fixes_by_place others)) x })) (bytes_at (fixes_by_place fixed ++ (flat_map fixes_by_place others)) others x)) f)
    go true e false f later =
        let past : content_end fixed.content ≤ x = ltb-false x (content_end fixed.content) f in
        ap (λ b. cond (b && nat_lt x (content_end fixed.content)) (Some (set_at x fixed)) (look others x)) e
        ∙ ap (λ b. cond b (Some (set_at x fixed)) (look others x)) f
        ∙ later
        ∙ bytes_same (flat_map fixes_by_place others)
        (fixes_by_place fixed ++ (flat_map fixes_by_place others)) others x
        (ap (option_map fixup_of)
        (sym
        (fix_at_append (fixes_by_place fixed) (flat_map fixes_by_place others) x
        (table_none fixed.fixes (fixed.content).offset (length (fixed.content).bytes) x (inr past)))))
        ∙ sym
        (ap (λ b.
        cond (b && nat_lt x (content_end fixed.content))
        (Some (record { value = slice_index (fixed.content).bytes (x - (fixed.content).offset); fixup = fixup_at (fixes_by_place fixed ++ (flat_map fixes_by_place others)) x }))
        (bytes_at (fixes_by_place fixed ++ (flat_map fixes_by_place others)) others x)) e
        ∙ ap (λ b. cond b
        (Some (record { value = slice_index (fixed.content).bytes (x - (fixed.content).offset); fixup = fixup_at (fixes_by_place fixed ++ (flat_map fixes_by_place others)) x })) (bytes_at (fixes_by_place fixed ++ (flat_map fixes_by_place others)) others x)) f)

-- the places of what is kept are those of the contents
pub kept_places :
    (size : ℕ) (alignment : Alignment) (segment : Segment) (contents : List FixedContent)
    → Placed size 0 (filter (is_in segment) contents)
    → places_by contents segment alignment size
    ≡ places_stored segment (kept_segment size alignment segment contents)
kept_places size alignment segment contents placed =
    let own : List FixedContent = filter (is_in segment) contents in
    let fixes : List Fix = flat_map fixes_by_place own in
    ap (λ places. record { alignment = alignment; places = places })
    (same_over (set_in contents segment)
    (set_in (map (content_with segment fixes) (runs_kept own)) segment) 0 size
    (λ x le.
    look_is segment contents x ∙ fixes_found size 0 own x placed ∙ sym (runs_found fixes own x)
    ∙ sym (found_is segment fixes (runs_kept own) x (same_self segment))))
