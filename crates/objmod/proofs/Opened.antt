-- A segment that is put together content by content is what is kept of the contents.
use Rattle.objmod.proofs.Prelude.{◌≡◌, ℕ, zero, suc, ◌+◌, ◌≢◌, Bool, true, false, cond, ◌&&◌, ◌==◌, List, [], ◌∷◌, ◌++◌, length, flat_map, filter, replicate, Some, None, is_none, refl, ap, sym, ◌∙◌, arith, eqb-true, eqb-false, eq-eqb, ne_eqb, length-append, append-nil, append_assoc, Fix, Segment, FixedContent, Run, run_at, Opened, before_kept, open_run, is_in, runs_kept, fix_at, fix_table, fixes_by_place, nothing_opened, closed_runs, goes_on, with_bytes, with_content, kept_in, put_fix, put_all}

-- the runs of a segment, where these are to come
abbrev pub made : Opened → List (Run ℕ) → List (Run ℕ)
made opened rest = opened.runs ++ open_run opened.offset opened.bytes rest

abbrev opened_with : List (Run ℕ) → ℕ → List ℕ → List Fix → Opened
opened_with runs offset bytes fixes = record { runs = runs; offset = offset; bytes = bytes; fixes = fixes }

closed_by :
    (runs : List (Run ℕ)) (offset : ℕ) (bytes : List ℕ) (fixes : List Fix)
    → closed_runs (opened_with runs offset bytes fixes) ≡ made (opened_with runs offset bytes fixes) []
closed_by runs offset [] fixes = sym (append-nil runs)
closed_by runs offset (first ∷ others) fixes = refl

-- what was made is closed where nothing is to come
pub closed_is : (opened : Opened) → closed_runs opened ≡ made opened []
closed_is opened = closed_by opened.runs opened.offset opened.bytes opened.fixes

-- bytes right after others
before_joined :
    (offset : ℕ) (xs : List ℕ) (next : ℕ) (ys : List ℕ) (runs : List (Run ℕ)) → offset + length xs ≡ next
    → before_kept offset xs (before_kept next ys runs) ≡ before_kept offset (xs ++ ys) runs
before_joined offset xs next ys [] is =
    ap (λ b. cond b (run_at offset (xs ++ ys) ∷ []) (run_at offset xs ∷ run_at next ys ∷ []))
    (eq-eqb next (offset + length xs) (sym is))
before_joined offset xs next ys (third ∷ others) is = go (third.offset == next + length ys) refl
  where
    sized : length (xs ++ ys) ≡ length xs + length ys
    sized = length-append xs ys

    ends : next + length ys ≡ offset + length (xs ++ ys)
    ends = omega (arith, is, sized)

    right : (third.offset == next + length ys) ≡ (third.offset == offset + length (xs ++ ys))
    right = ap (λ end. third.offset == end) ends

    go : (b : Bool) → (third.offset == next + length ys) ≡ b
        → before_kept offset xs
        (cond (third.offset == next + length ys) (run_at next (ys ++ third.items) ∷ others)
        (run_at next ys ∷ third ∷ others))
        ≡ cond (third.offset == offset + length (xs ++ ys))
        (run_at offset ((xs ++ ys) ++ third.items) ∷ others)
        (run_at offset (xs ++ ys) ∷ third ∷ others)
    go true e =
        ap (λ b.
        before_kept offset xs
        (cond b (run_at next (ys ++ third.items) ∷ others) (run_at next ys ∷ third ∷ others))) e
        ∙ ap (λ b.
        cond b (run_at offset (xs ++ (ys ++ third.items)) ∷ others)
        (run_at offset xs ∷ run_at next (ys ++ third.items) ∷ others))
        (eq-eqb next (offset + length xs) (sym is))
        ∙ ap (λ items. run_at offset items ∷ others) (sym (append_assoc xs ys third.items))
        ∙ sym
        (ap (λ b.
        cond b (run_at offset ((xs ++ ys) ++ third.items) ∷ others)
        (run_at offset (xs ++ ys) ∷ third ∷ others))
        (sym right ∙ e))
    go false e =
        ap (λ b.
        before_kept offset xs
        (cond b (run_at next (ys ++ third.items) ∷ others) (run_at next ys ∷ third ∷ others))) e
        ∙ ap (λ b.
        cond b (run_at offset (xs ++ ys) ∷ third ∷ others)
        (run_at offset xs ∷ run_at next ys ∷ third ∷ others))
        (eq-eqb next (offset + length xs) (sym is))
        ∙ sym
        (ap (λ b.
        cond b (run_at offset ((xs ++ ys) ++ third.items) ∷ others)
        (run_at offset (xs ++ ys) ∷ third ∷ others))
        (sym right ∙ e))

-- bytes that come later
before_apart :
    (offset : ℕ) (xs : List ℕ) (next : ℕ) (ys : List ℕ) (runs : List (Run ℕ)) → offset + length xs ≢ next
    → before_kept offset xs (before_kept next ys runs) ≡ run_at offset xs ∷ before_kept next ys runs
before_apart offset xs next ys [] apart =
    ap (λ b. cond b (run_at offset (xs ++ ys) ∷ []) (run_at offset xs ∷ run_at next ys ∷ []))
    (ne_eqb next (offset + length xs) (λ is. apart (sym is)))
before_apart offset xs next ys (third ∷ others) apart = go (third.offset == next + length ys)
  where
    go : (b : Bool)
        → before_kept offset xs
        (cond b (run_at next (ys ++ third.items) ∷ others) (run_at next ys ∷ third ∷ others))
        ≡ run_at offset xs ∷ cond b (run_at next (ys ++ third.items) ∷ others)
        (run_at next ys ∷ third ∷ others)
    go true =
        ap (λ b.
        cond b (run_at offset (xs ++ (ys ++ third.items)) ∷ others)
        (run_at offset xs ∷ run_at next (ys ++ third.items) ∷ others))
        (ne_eqb next (offset + length xs) (λ is. apart (sym is)))
    go false =
        ap (λ b.
        cond b (run_at offset (xs ++ ys) ∷ third ∷ others)
        (run_at offset xs ∷ run_at next ys ∷ third ∷ others))
        (ne_eqb next (offset + length xs) (λ is. apart (sym is)))

-- some bytes are added
some_made :
    (runs : List (Run ℕ)) (offset : ℕ) (bytes : List ℕ) (fixes : List Fix) (next first : ℕ) (items : List ℕ)
    (rest : List (Run ℕ))
    → made (with_bytes (opened_with runs offset bytes fixes) next (first ∷ items)) rest
    ≡ made (opened_with runs offset bytes fixes) (before_kept next (first ∷ items) rest)
some_made runs offset [] fixes next first items rest = refl
some_made runs offset (here ∷ others) fixes next first items rest =
    go (offset + length (here ∷ others) == next) refl
  where
    go : (b : Bool) → (offset + length (here ∷ others) == next) ≡ b
        → made
        (cond (offset + length (here ∷ others) == next)
        (opened_with runs offset ((here ∷ others) ++ (first ∷ items)) fixes)
        (opened_with (closed_runs (opened_with runs offset (here ∷ others) fixes)) next
        (first ∷ items) fixes)) rest
        ≡ runs ++ before_kept offset (here ∷ others) (before_kept next (first ∷ items) rest)
    go true e =
        ap (λ b.
        made
        (cond b (opened_with runs offset ((here ∷ others) ++ (first ∷ items)) fixes)
        (opened_with (closed_runs (opened_with runs offset (here ∷ others) fixes)) next
        (first ∷ items) fixes)) rest) e
        ∙ ap (λ made. runs ++ made)
        (sym
        (before_joined offset (here ∷ others) next (first ∷ items) rest
        (eqb-true (offset + length (here ∷ others)) next e)))
    go false e =
        ap (λ b.
        made
        (cond b (opened_with runs offset ((here ∷ others) ++ (first ∷ items)) fixes)
        (opened_with (closed_runs (opened_with runs offset (here ∷ others) fixes)) next
        (first ∷ items) fixes)) rest) e
        ∙ append_assoc runs (run_at offset (here ∷ others) ∷ []) (before_kept next (first ∷ items) rest)
        ∙ ap (λ made. runs ++ made)
        (sym
        (before_apart offset (here ∷ others) next (first ∷ items) rest
        (eqb-false (offset + length (here ∷ others)) next e)))

bytes_made :
    (opened : Opened) (offset : ℕ) (bytes : List ℕ) (rest : List (Run ℕ))
    → made (with_bytes opened offset bytes) rest ≡ made opened (open_run offset bytes rest)
bytes_made opened offset [] rest = refl
bytes_made opened offset (first ∷ items) rest =
    some_made opened.runs opened.offset opened.bytes opened.fixes offset first items rest

bytes_fixes :
    (opened : Opened) (offset : ℕ) (bytes : List ℕ) → (with_bytes opened offset bytes).fixes ≡ opened.fixes
bytes_fixes opened offset [] = refl
bytes_fixes opened offset (first ∷ items) = go (goes_on opened offset)
  where
    go : (b : Bool)
        → (cond b (record opened { bytes = opened.bytes ++ (first ∷ items) })
        (record opened { runs = closed_runs opened; offset = offset; bytes = first ∷ items })).fixes
        ≡ opened.fixes
    go true = refl
    go false = refl

-- what is made of contents
pub kept_made :
    (segment : Segment) (opened : Opened) (contents : List FixedContent)
    → made (kept_in segment opened contents) [] ≡ made opened (runs_kept (filter (is_in segment) contents))
kept_made segment opened [] = refl
kept_made segment opened (fixed ∷ others) =
    go (is_in segment fixed) refl (λ next. kept_made segment next others)
  where
    go : (b : Bool) → is_in segment fixed ≡ b
        → ((next : Opened)
        → made (kept_in segment next others) [] ≡ made next (runs_kept (filter (is_in segment) others)))
        → made (kept_in segment (cond (is_in segment fixed) (with_content opened fixed) opened) others) []
        ≡ made opened
        (runs_kept
        (cond (is_in segment fixed) (fixed ∷ filter (is_in segment) others) (filter (is_in segment) others)))
    go true e later =
        ap (λ b. made (kept_in segment (cond b (with_content opened fixed) opened) others) []) e
        ∙ later (with_content opened fixed)
        ∙ bytes_made opened (fixed.content).offset (fixed.content).bytes
        (runs_kept (filter (is_in segment) others))
        ∙ ap (λ b.
        made opened
        (runs_kept (cond b (fixed ∷ filter (is_in segment) others) (filter (is_in segment) others))))
        (sym e)
    go false e later =
        ap (λ b. made (kept_in segment (cond b (with_content opened fixed) opened) others) []) e
        ∙ later opened
        ∙ ap (λ b.
        made opened
        (runs_kept (cond b (fixed ∷ filter (is_in segment) others) (filter (is_in segment) others))))
        (sym e)

pub kept_fixes :
    (segment : Segment) (opened : Opened) (contents : List FixedContent)
    → (kept_in segment opened contents).fixes
    ≡ opened.fixes ++ flat_map fixes_by_place (filter (is_in segment) contents)
kept_fixes segment opened [] = sym (append-nil opened.fixes)
kept_fixes segment opened (fixed ∷ others) =
    go (is_in segment fixed) refl (λ next. kept_fixes segment next others)
  where
    go : (b : Bool) → is_in segment fixed ≡ b
        → ((next : Opened)
        → (kept_in segment next others).fixes
        ≡ next.fixes ++ flat_map fixes_by_place (filter (is_in segment) others))
        → (kept_in segment (cond (is_in segment fixed) (with_content opened fixed) opened) others).fixes
        ≡ opened.fixes
        ++ flat_map fixes_by_place
        (cond (is_in segment fixed) (fixed ∷ filter (is_in segment) others) (filter (is_in segment) others))
    go true e later =
        ap (λ b. (kept_in segment (cond b (with_content opened fixed) opened) others).fixes) e
        ∙ later (with_content opened fixed)
        ∙ ap (λ fixes. (fixes ++ fixes_by_place fixed)
        ++ flat_map fixes_by_place (filter (is_in segment) others))
        (bytes_fixes opened (fixed.content).offset (fixed.content).bytes)
        ∙ append_assoc opened.fixes (fixes_by_place fixed)
        (flat_map fixes_by_place (filter (is_in segment) others))
        ∙ ap (λ b.
        opened.fixes
        ++ flat_map fixes_by_place
        (cond b (fixed ∷ filter (is_in segment) others) (filter (is_in segment) others)))
        (sym e)
    go false e later =
        ap (λ b. (kept_in segment (cond b (with_content opened fixed) opened) others).fixes) e
        ∙ later opened
        ∙ ap (λ b.
        opened.fixes
        ++ flat_map fixes_by_place
        (cond b (fixed ∷ filter (is_in segment) others) (filter (is_in segment) others)))
        (sym e)

-- the runs and the fixes that are put together are those that are kept
pub runs_put_together :
    (segment : Segment) (contents : List FixedContent)
    → closed_runs (kept_in segment nothing_opened contents) ≡ runs_kept (filter (is_in segment) contents)
runs_put_together segment contents =
    closed_is (kept_in segment nothing_opened contents) ∙ kept_made segment nothing_opened contents

pub fixes_put_together :
    (segment : Segment) (contents : List FixedContent)
    → (kept_in segment nothing_opened contents).fixes
    ≡ flat_map fixes_by_place (filter (is_in segment) contents)
fixes_put_together segment contents = kept_fixes segment nothing_opened contents

-- The table of fixes.
fix_at_more :
    (fixes : List Fix) (fix : Fix) (offset : ℕ)
    → fix_at (fixes ++ fix ∷ []) offset
    ≡ cond (fix.offset == offset && is_none (fix_at fixes offset)) (Some fix) (fix_at fixes offset)
fix_at_more [] fix offset = go (fix.offset == offset)
  where
    go : (b : Bool) → cond b (Some fix) None ≡ cond (b && true) (Some fix) None
    go true = refl
    go false = refl
fix_at_more (first ∷ others) fix offset =
    go (first.offset == offset) (fix.offset == offset) (fix_at_more others fix offset)
  where
    none : (c : Bool) → Some first ≡ cond (c && false) (Some fix) (Some first)
    none true = refl
    none false = refl

    go : (b c : Bool)
        → fix_at (others ++ fix ∷ []) offset
        ≡ cond (c && is_none (fix_at others offset)) (Some fix) (fix_at others offset)
        → cond b (Some first) (fix_at (others ++ fix ∷ []) offset)
        ≡ cond (c && is_none (cond b (Some first) (fix_at others offset))) (Some fix)
        (cond b (Some first) (fix_at others offset))
    go true c later = none c
    go false c later = later

put_one :
    (fixes : List Fix) (fix : Fix) (offset count : ℕ)
    → put_fix (fix_table fixes offset count) offset fix ≡ fix_table (fixes ++ fix ∷ []) offset count
put_one fixes fix offset zero = refl
put_one fixes fix offset (suc count) =
    ap (λ rest.
    cond (fix.offset == offset && is_none (fix_at fixes offset)) (Some fix) (fix_at fixes offset) ∷ rest)
    (put_one fixes fix (offset + 1) count)
    ∙ ap (λ slot. slot ∷ fix_table (fixes ++ fix ∷ []) (offset + 1) count)
    (sym (fix_at_more fixes fix offset))

put_more :
    (before fixes : List Fix) (offset count : ℕ)
    → put_all (fix_table before offset count) offset fixes ≡ fix_table (before ++ fixes) offset count
put_more before [] offset count = ap (λ all. fix_table all offset count) (sym (append-nil before))
put_more before (fix ∷ others) offset count =
    ap (λ table. put_all table offset others) (put_one before fix offset count)
    ∙ put_more (before ++ fix ∷ []) others offset count
    ∙ ap (λ all. fix_table all offset count) (append_assoc before (fix ∷ []) others)

clear_is : (offset count : ℕ) → replicate count None ≡ fix_table [] offset count
clear_is offset zero = refl
clear_is offset (suc count) = ap (λ rest. None ∷ rest) (clear_is (offset + 1) count)

-- a clear table into which fixes are put is theirs
pub table_filled :
    (fixes : List Fix) (offset count : ℕ)
    → put_all (replicate count None) offset fixes ≡ fix_table fixes offset count
table_filled fixes offset count =
    ap (λ table. put_all table offset fixes) (clear_is offset count) ∙ put_more [] fixes offset count
