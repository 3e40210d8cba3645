-- The runs of contents, after the fixes of all, are those of each content after its own fixes, pushed one
-- after another.
use Rattle.link_laws.proofs.Prelude.{◌≡◌, ℕ, ◌+◌, ◌≤◌, Bool, true, false, cond, ◌==◌, nat_lt, List, [], ◌∷◌, ◌++◌, length, flat_map, refl, ap, sym, subst, ◌∙◌, arith, eqb-true, eq-eqb, lt-ltb, append_assoc, length-append, Fix, Target, content_end, is_empty, width_of, fix_end, FixedContent, Run, bytes_after, fixes_below, fixes_past, run_at, run_end, run_fixed, runs_fixed, with_run, with_runs, AllBelow, AllPast, below_first, past_others, AreWithin, AllFit, Placed, fixes_by_place, open_run, runs_kept, some_width}
use Rattle.link_laws.proofs.BytesInParts.{after_both_parts, after_length}
use Rattle.link_laws.proofs.FixesByPlace.{later_past, own_within}

-- Pushing a run in two parts.
last_in_parts :
    (last : Run ℕ) (offset : ℕ) (first second : List ℕ) (joins : Bool)
    → (offset == last.offset + length last.items) ≡ joins
    → with_run (with_run (last ∷ []) (run_at offset first)) (run_at (offset + length first) second)
    ≡ with_run (last ∷ []) (run_at offset (first ++ second))
last_in_parts last offset first second true e =
    let at : offset ≡ last.offset + length last.items = eqb-true offset (last.offset + length last.items) e in
    let long : length (last.items ++ first) ≡ length last.items + length first =
    length-append last.items first in
    let joined : offset + length first ≡ last.offset + length (last.items ++ first) =
    omega (arith, at, long) in
    ap (λ (b : Bool).
    with_run (cond b (run_at last.offset (last.items ++ first) ∷ []) (last ∷ run_at offset first ∷ []))
    (run_at (offset + length first) second)) e
    ∙ ap (λ (b : Bool).
    cond b (run_at last.offset ((last.items ++ first) ++ second) ∷ [])
    (run_at last.offset (last.items ++ first) ∷ run_at (offset + length first) second ∷ []))
    (eq-eqb (offset + length first) (last.offset + length (last.items ++ first)) joined)
    ∙ ap (λ items. run_at last.offset items ∷ []) (append_assoc last.items first second)
    ∙ sym (ap (λ (b : Bool).
    cond b (run_at last.offset (last.items ++ (first ++ second)) ∷ [])
    (last ∷ run_at offset (first ++ second) ∷ [])) e)
last_in_parts last offset first second false e =
    ap (λ (b : Bool).
    with_run (cond b (run_at last.offset (last.items ++ first) ∷ []) (last ∷ run_at offset first ∷ []))
    (run_at (offset + length first) second)) e
    ∙ ap (λ (b : Bool).
    last ∷ cond b (run_at offset (first ++ second) ∷ [])
    (run_at offset first ∷ run_at (offset + length first) second ∷ []))
    (eq-eqb (offset + length first) (offset + length first) refl)
    ∙ sym (ap (λ (b : Bool).
    cond b (run_at last.offset (last.items ++ (first ++ second)) ∷ [])
    (last ∷ run_at offset (first ++ second) ∷ [])) e)

-- what is not the last run stays
skip_first :
    (one two : Run ℕ) (others : List (Run ℕ)) (run next : Run ℕ)
    → with_run (one ∷ with_run (two ∷ others) run) next ≡ one ∷ with_run (with_run (two ∷ others) run) next
skip_first one two [] run next = go (run.offset == two.offset + length two.items)
  where
    go : (b : Bool)
        → with_run (one ∷ cond b (run_at two.offset (two.items ++ run.items) ∷ []) (two ∷ run ∷ [])) next
        ≡ one ∷ with_run (cond b (run_at two.offset (two.items ++ run.items) ∷ []) (two ∷ run ∷ [])) next
    go true = refl
    go false = refl
skip_first one two (third ∷ others) run next = refl

in_parts :
    (runs : List (Run ℕ)) (offset : ℕ) (first second : List ℕ)
    → with_run (with_run runs (run_at offset first)) (run_at (offset + length first) second)
    ≡ with_run runs (run_at offset (first ++ second))
in_parts [] offset first second =
    ap (λ (b : Bool).
    cond b (run_at offset (first ++ second) ∷ [])
    (run_at offset first ∷ run_at (offset + length first) second ∷ []))
    (eq-eqb (offset + length first) (offset + length first) refl)
in_parts (last ∷ []) offset first second =
    last_in_parts last offset first second (offset == last.offset + length last.items) refl
in_parts (one ∷ two ∷ others) offset first second =
    skip_first one two others (run_at offset first) (run_at (offset + length first) second)
    ∙ ap (λ r. one ∷ r) (in_parts (two ∷ others) offset first second)

pub pushed_in_parts :
    (runs : List (Run ℕ)) (offset next : ℕ) (first second : List ℕ) → next ≡ offset + length first
    → with_run (with_run runs (run_at offset first)) (run_at next second)
    ≡ with_run runs (run_at offset (first ++ second))
pushed_in_parts runs offset next first second at =
    ap (λ n. with_run (with_run runs (run_at offset first)) (run_at n second)) at
    ∙ in_parts runs offset first second

-- Fixes before and after a place.
below_both :
    (end : ℕ) (fixes more : List Fix) → AllBelow end fixes
    → fixes_below end (fixes ++ more) ≡ fixes ++ fixes_below end more
below_both end [] more below = refl
below_both end (fix ∷ others) more below =
    ap (λ b. cond b (fix ∷ fixes_below end (others ++ more)) []) (lt-ltb fix.offset end below.0)
    ∙ ap (λ f. fix ∷ f) (below_both end others more below.1)

past_both :
    (end : ℕ) (fixes more : List Fix) → AllBelow end fixes
    → fixes_past end (fixes ++ more) ≡ fixes_past end more
past_both end [] more below = refl
past_both end (fix ∷ others) more below =
    ap (λ b. cond b (fixes_past end (others ++ more)) (fix ∷ (others ++ more)))
    (lt-ltb fix.offset end below.0)
    ∙ past_both end others more below.1

taken_past : (end low : ℕ) (fixes : List Fix) → AllPast low fixes → AllPast low (fixes_below end fixes)
taken_past end low [] past = tt
taken_past end low (fix ∷ others) past = go (nat_lt fix.offset end) (taken_past end low others past.1)
  where
    go : (b : Bool) → AllPast low (fixes_below end others)
        → AllPast low (cond b (fix ∷ fixes_below end others) [])
    go true later = (past.0, later)
    go false later = tt

within_below : (offset size end : ℕ) (fixes : List Fix) → offset + size ≤ end → AreWithin offset size fixes
    → AllBelow end fixes
within_below offset size end [] h all = tt
within_below offset size end (fix ∷ others) h all =
    let high : fix_end fix ≤ offset + size = (all.0).1 in
    let some : 1 ≤ width_of fix.kind = some_width fix.kind in
    (omega (arith, high, some, h), within_below offset size end others h all.1)

-- no fix is within no bytes
within_none : (offset : ℕ) (fixes : List Fix) → AreWithin offset 0 fixes → fixes ≡ []
within_none offset [] all = refl
within_none offset (fix ∷ others) all =
    let low : offset ≤ fix.offset = (all.0).0 in
    let high : fix_end fix ≤ offset + 0 = (all.0).1 in
    let some : 1 ≤ width_of fix.kind = some_width fix.kind in
    absurd (omega (arith, low, high, some))

-- One content more in front of others.
module _ (start : ℕ) (gain_of : Target → ℕ) where
  -- runs, and bytes after their fixes, if there are any
  abbrev pub with_bytes : List (Run ℕ) → (offset : ℕ) → List ℕ → List Fix → List (Run ℕ)
  with_bytes runs offset bytes fixes =
      cond (is_empty bytes) runs (with_run runs (run_fixed start gain_of fixes (run_at offset bytes)))

  joined_first :
      (runs : List (Run ℕ)) (offset : ℕ) (bytes : List ℕ) (next : Run ℕ) (others : List (Run ℕ))
      (own later : List Fix)
      → AreWithin offset (length bytes) own → AllPast (offset + length bytes) later
      → next.offset ≡ offset + length bytes
      → with_runs runs
      (runs_fixed start gain_of (own ++ later) (run_at offset (bytes ++ next.items) ∷ others))
      ≡ with_runs (with_run runs (run_fixed start gain_of own (run_at offset bytes)))
      (runs_fixed start gain_of later (next ∷ others))
  joined_first runs offset bytes next others own later within past at =
      let end : ℕ = offset + length (bytes ++ next.items) in
      let long : length (bytes ++ next.items) ≡ length bytes + length next.items =
      length-append bytes next.items in
      let same : end ≡ run_end next = omega (arith, at, long) in
      let below : AllBelow end own =
      within_below offset (length bytes) end own (omega (arith, long)) within in
      let taken : List Fix = fixes_below (run_end next) later in
      let first : List ℕ = bytes_after gain_of offset own bytes in
      let second : List ℕ = bytes_after gain_of next.offset taken next.items in
      let sized : length first ≡ length bytes = after_length gain_of offset own bytes in
      let taken_later : AllPast next.offset taken =
      taken_past (run_end next) next.offset later (subst (λ n. AllPast n later) (sym at) past) in
      ap (λ f.
      with_runs (with_run runs (run_fixed start gain_of f (run_at offset (bytes ++ next.items))))
      (runs_fixed start gain_of (fixes_past end (own ++ later)) others))
      (below_both end own later below)
      ∙ ap (λ f.
      with_runs
      (with_run runs (run_fixed start gain_of (own ++ fixes_below end later)
      (run_at offset (bytes ++ next.items))))
      (runs_fixed start gain_of f others))
      (past_both end own later below)
      ∙ ap (λ n.
      with_runs
      (with_run runs (run_fixed start gain_of (own ++ fixes_below n later)
      (run_at offset (bytes ++ next.items))))
      (runs_fixed start gain_of (fixes_past n later) others))
      same
      ∙ ap (λ items.
      with_runs (with_run runs (run_at (start + offset) items))
      (runs_fixed start gain_of (fixes_past (run_end next) later) others))
      (after_both_parts gain_of offset next.offset own taken bytes next.items within at taken_later)
      ∙ ap (λ r. with_runs r (runs_fixed start gain_of (fixes_past (run_end next) later) others))
      (sym
      (pushed_in_parts runs (start + offset) (start + next.offset) first second (omega (arith, at, sized))))

  one_content :
      (runs : List (Run ℕ)) (offset : ℕ) (bytes : List ℕ) (kept : List (Run ℕ)) (own later : List Fix)
      → AreWithin offset (length bytes) own → AllPast (offset + length bytes) later
      → with_runs runs (runs_fixed start gain_of (own ++ later) (open_run offset bytes kept))
      ≡ with_runs (with_bytes runs offset bytes own) (runs_fixed start gain_of later kept)
  one_content runs offset [] kept own later within past =
      ap (λ f. with_runs runs (runs_fixed start gain_of (f ++ later) kept)) (within_none offset own within)
  one_content runs offset (byte ∷ bytes) [] own later within past =
      let end : ℕ = offset + length (byte ∷ bytes) in
      ap (λ f. with_run runs (run_fixed start gain_of f (run_at offset (byte ∷ bytes))))
      (below_first end own later (within_below offset (length (byte ∷ bytes)) end own (omega arith) within)
      past)
  one_content runs offset (byte ∷ bytes) (next ∷ others) own later within past =
      go (next.offset == offset + length (byte ∷ bytes)) refl
    where
      end : ℕ
      end = offset + length (byte ∷ bytes)

      below : AllBelow (offset + length (byte ∷ bytes)) own
      below = within_below offset (length (byte ∷ bytes)) (offset + length (byte ∷ bytes)) own
          (omega arith) within

      go : (b : Bool) → (next.offset == offset + length (byte ∷ bytes)) ≡ b
          → with_runs runs
          (runs_fixed start gain_of (own ++ later)
          (cond b (run_at offset ((byte ∷ bytes) ++ next.items) ∷ others)
          (run_at offset (byte ∷ bytes) ∷ next ∷ others)))
          ≡ with_runs (with_run runs (run_fixed start gain_of own (run_at offset (byte ∷ bytes))))
          (runs_fixed start gain_of later (next ∷ others))
      go true e =
          joined_first runs offset (byte ∷ bytes) next others own later within past
          (eqb-true next.offset (offset + length (byte ∷ bytes)) e)
      go false e =
          ap (λ f.
          with_runs (with_run runs (run_fixed start gain_of f (run_at offset (byte ∷ bytes))))
          (runs_fixed start gain_of (fixes_past (offset + length (byte ∷ bytes)) (own ++ later))
          (next ∷ others)))
          (below_first (offset + length (byte ∷ bytes)) own later below past)
          ∙ ap (λ f.
          with_runs (with_run runs (run_fixed start gain_of own (run_at offset (byte ∷ bytes))))
          (runs_fixed start gain_of f (next ∷ others)))
          (past_others (offset + length (byte ∷ bytes)) own later below past)

  -- all contents of a segment, one after another
  abbrev pub runs_grown : List (Run ℕ) → List FixedContent → List (Run ℕ)
  runs_grown runs [] = runs
  runs_grown runs (fixed ∷ others) =
      runs_grown (with_bytes runs (fixed.content).offset (fixed.content).bytes (fixes_by_place fixed)) others

  pub runs_by_contents :
      (runs : List (Run ℕ)) (size end : ℕ) (contents : List FixedContent)
      → Placed size end contents → AllFit contents
      → with_runs runs (runs_fixed start gain_of (flat_map fixes_by_place contents) (runs_kept contents))
      ≡ runs_grown runs contents
  runs_by_contents runs size end [] placed fit = refl
  runs_by_contents runs size end (fixed ∷ others) placed fit =
      one_content runs (fixed.content).offset (fixed.content).bytes (runs_kept others) (fixes_by_place fixed)
      (flat_map fixes_by_place others) (own_within fixed fit.0)
      (later_past size (content_end fixed.content) (content_end fixed.content) others (omega arith) placed.2)
      ∙ runs_by_contents (with_bytes runs (fixed.content).offset (fixed.content).bytes (fixes_by_place fixed))
      size
      (content_end fixed.content) others placed.2 fit.2
