-- Places are those of the segment that keeps their longest runs and their fixes.
use Rattle.object_laws.proofs.Prelude.{◌≡◌, ℕ, suc, ◌+◌, ◌-◌, ◌<◌, ◌≤◌, Bool, true, false, cond, not, ◌&&◌, ◌||◌, ◌==◌, nat_lt, nat_le, List, [], ◌∷◌, length, map, find, slice_get, slice_index, Option, Some, None, option_map, refl, ap, sym, ◌∙◌, true≢false, le_refl, arith, list_all, range_with_len, AllByRecursion, option_map_or, option_flatten, and_parts, and_from, and_left, or_left, or_right, eqb-true, eq-eqb, ne_eqb, le-leb, lt-leb, lt-ltb, le-ltb, leb-true, ltb-true, ltb-false, Alignment, Fix, FixKind, Low, High, Both, Segment, Target, is_empty, Fixup, SetByte, width_of, is_both, begins_word, is_plain, words_are_whole, fix_end, is_within, bytes_of_run, fixup_at, FixedContent, holds_place, set_at, set_in, StoredSegment, IsStored, are_longest, fixes_ascend, is_in_a_run, content_of_run, places_stored, Run, before_runs, runs_from, run_at, before_fixes, place_fixes, and_right, map_cond}
use Rattle.object_laws.proofs.Texts.ContentsAccepted.{same_self}

-- the segment that keeps places
abbrev pub stored_of : Alignment → List (Option SetByte) → StoredSegment
stored_of alignment places = record {
  size = length places;
  alignment = alignment;
  runs = map bytes_of_run (runs_from 0 places);
  fixes = place_fixes 0 places;
}

-- What is set at a place, by the first run that has it.
abbrev has_place : ℕ → Run ℕ → Bool
has_place x run = nat_le run.offset x && nat_lt x (run.offset + length run.items)

abbrev byte_by : List Fix → ℕ → Run ℕ → SetByte
byte_by fixes x run = record { value = slice_index run.items (x - run.offset); fixup = fixup_at fixes x }

abbrev place_by : List Fix → List (Run ℕ) → ℕ → Option SetByte
place_by fixes [] x = None
place_by fixes (run ∷ others) x =
    cond (has_place x run) (Some (byte_by fixes x run)) (place_by fixes others x)

abbrev content_by : Segment → List Fix → Run ℕ → FixedContent
content_by segment fixes run = record { content = content_of_run segment run; fixes = fixes }

set_is :
    (segment : Segment) (fixes : List Fix) (runs : List (Run ℕ)) (x : ℕ)
    → set_in (map (content_by segment fixes) runs) segment x ≡ place_by fixes runs x
set_is segment fixes [] x = refl
set_is segment fixes (run ∷ others) x =
    let rest : Option FixedContent = find (holds_place segment x) (map (content_by segment fixes) others) in
    ap (λ b.
    option_map (set_at x)
    (cond ((b && nat_le run.offset x) && nat_lt x (run.offset + length run.items))
    (Some (content_by segment fixes run)) rest)) (same_self segment)
    ∙ map_cond (set_at x) (has_place x run) (content_by segment fixes run) rest
    ∙ ap (cond (has_place x run) (Some (byte_by fixes x run))) (set_is segment fixes others x)

-- Runs of places begin at these places.
abbrev pub AllFrom : {A : Type 0} → (offset : ℕ) → List (Run A) → Type 0
AllFrom {A} offset runs = AllByRecursion (λ (run : Run A). offset ≤ run.offset) runs

pub all_earlier : {A : Type 0} (low high : ℕ) (runs : List (Run A)) → low ≤ high
    → AllFrom high runs → AllFrom low runs
all_earlier low high [] h all = tt
all_earlier low high (run ∷ others) h all =
    let k : high ≤ run.offset = all.0 in (omega (arith, h, k), all_earlier low high others h all.1)

all_before :
    {A : Type 0} (offset : ℕ) (item : A) (runs : List (Run A)) → AllFrom (offset + 1) runs
    → AllFrom offset (before_runs offset item runs)
all_before offset item [] all = (le_refl offset, tt)
all_before {A} offset item (next ∷ others) all =
    let k : offset + 1 ≤ next.offset = all.0 in
    go (next.offset == offset + 1) (omega (arith, k))
    (all_earlier offset (offset + 1) others (omega arith) all.1)
  where
    go : (b : Bool) → offset ≤ next.offset → AllFrom offset others
        → AllFrom offset (cond b (run_at offset (item ∷ next.items) ∷ others)
        (run_at offset (item ∷ []) ∷ next ∷ others))
    go true h rest = (le_refl offset, rest)
    go false h rest = (le_refl offset, (h, rest))

pub all_from : {A : Type 0} (offset : ℕ) (places : List (Option A)) → AllFrom offset (runs_from offset places)
all_from offset [] = tt
all_from offset (None ∷ others) =
    all_earlier offset (offset + 1) (runs_from (offset + 1) others) (omega arith)
    (all_from (offset + 1) others)
all_from offset (Some item ∷ others) =
    all_before offset item (runs_from (offset + 1) others) (all_from (offset + 1) others)

-- a run does not have a place before it, or after it
place_too_early : (x : ℕ) (run : Run ℕ) → x < run.offset → has_place x run ≡ false
place_too_early x run h =
    and_left (nat_le run.offset x) (nat_lt x (run.offset + length run.items)) (lt-leb run.offset x h)

none_early :
    (fixes : List Fix) (runs : List (Run SetByte)) (x low : ℕ) → x < low → AllFrom low runs
    → place_by fixes (map bytes_of_run runs) x ≡ None
none_early fixes [] x low h all = refl
none_early fixes (run ∷ others) x low h all =
    let k : low ≤ run.offset = all.0 in
    ap (λ b.
    cond b (Some (byte_by fixes x (bytes_of_run run))) (place_by fixes (map bytes_of_run others) x))
    (place_too_early x (bytes_of_run run) (omega (arith, h, k)))
    ∙ none_early fixes others x low h all.1

-- the first place of a run
first_place :
    (fixes : List Fix) (offset value : ℕ) (values : List ℕ) (others : List (Run ℕ))
    → place_by fixes (run_at offset (value ∷ values) ∷ others) offset
    ≡ Some (record { value = value; fixup = fixup_at fixes offset })
first_place fixes offset value values others =
    let none : offset - offset ≡ 0 = omega arith in
    let has : has_place offset (run_at offset (value ∷ values)) ≡ true =
    and_from _ _ (le-leb offset offset (omega arith))
    (lt-ltb offset (offset + suc (length values)) (omega arith)) in
    ap (λ b.
    cond b (Some (byte_by fixes offset (run_at offset (value ∷ values))))
    (place_by fixes others offset)) has
    ∙ ap (λ i. Some (record { value = slice_index (value ∷ values) i; fixup = fixup_at fixes offset })) none

here_first :
    (fixes : List Fix) (offset : ℕ) (here : SetByte) (runs : List (Run SetByte))
    → place_by fixes (map bytes_of_run (before_runs offset here runs)) offset
    ≡ Some (record { value = here.value; fixup = fixup_at fixes offset })
here_first fixes offset here [] = first_place fixes offset here.value [] []
here_first fixes offset here (next ∷ others) = go (next.offset == offset + 1)
  where
    go : (b : Bool)
        → place_by fixes
        (map bytes_of_run (cond b (run_at offset (here ∷ next.items) ∷ others)
        (run_at offset (here ∷ []) ∷ next ∷ others))) offset
        ≡ Some (record { value = here.value; fixup = fixup_at fixes offset })
    go true = first_place fixes offset here.value (bytes_of_run next).items (map bytes_of_run others)
    go false = first_place fixes offset here.value [] (map bytes_of_run (next ∷ others))

-- two tests that hold together
same_le : (a b c d : ℕ) → (a ≤ b → c ≤ d) → (c ≤ d → a ≤ b) → nat_le a b ≡ nat_le c d
same_le a b c d there back = go (nat_le a b) refl (nat_le c d) refl
  where
    go : (x : Bool) → nat_le a b ≡ x → (y : Bool) → nat_le c d ≡ y → x ≡ y
    go true e true f = refl
    go true e false f = sym (le-leb c d (there (leb-true a b e))) ∙ f
    go false e true f = sym e ∙ le-leb a b (back (leb-true c d f))
    go false e false f = refl

same_lt : (a b c d : ℕ) → (a < b → c < d) → (c < d → a < b) → nat_lt a b ≡ nat_lt c d
same_lt a b c d there back = go (nat_lt a b) refl (nat_lt c d) refl
  where
    go : (x : Bool) → nat_lt a b ≡ x → (y : Bool) → nat_lt c d ≡ y → x ≡ y
    go true e true f = refl
    go true e false f = sym (lt-ltb c d (there (ltb-true a b e))) ∙ f
    go false e true f = sym e ∙ lt-ltb a b (back (ltb-true c d f))
    go false e false f = refl

-- a place after the first of a run
past_one :
    (fixes : List Fix) (offset value x : ℕ) (others : List (Run ℕ)) → offset < x
    → place_by fixes (run_at offset (value ∷ []) ∷ others) x ≡ place_by fixes others x
past_one fixes offset value x others h =
    ap (λ b.
    cond b (Some (byte_by fixes x (run_at offset (value ∷ [])))) (place_by fixes others x))
    (ap (λ b. nat_le offset x && b) (le-ltb x (offset + 1) (omega (arith, h)))
    ∙ and_right (nat_le offset x) false refl)

past_first :
    (fixes : List Fix) (offset value x : ℕ) (next : Run ℕ) (others : List (Run ℕ)) → offset < x
    → next.offset ≡ offset + 1
    → place_by fixes (run_at offset (value ∷ next.items) ∷ others) x
    ≡ place_by fixes (next ∷ others) x
past_first fixes offset value x next others h at =
    let index : x - offset ≡ suc (x - next.offset) = omega (arith, h, at) in
    let begins : nat_le offset x ≡ nat_le next.offset x =
    same_le offset x next.offset x (λ k. omega (arith, h, at)) (λ k. omega (arith, h)) in
    let ends : nat_lt x (offset + suc (length next.items)) ≡ nat_lt x (next.offset + length next.items) =
    same_lt x (offset + suc (length next.items)) x (next.offset + length next.items)
    (λ k. omega (arith, at, k))
    (λ k. omega (arith, at, k)) in
    ap (λ b.
    cond (b && nat_lt x (offset + suc (length next.items)))
    (Some (byte_by fixes x (run_at offset (value ∷ next.items)))) (place_by fixes others x)) begins
    ∙ ap (λ b.
    cond (nat_le next.offset x && b)
    (Some (byte_by fixes x (run_at offset (value ∷ next.items)))) (place_by fixes others x)) ends
    ∙ ap (λ i.
    cond (has_place x next)
    (Some (record { value = slice_index (value ∷ next.items) i; fixup = fixup_at fixes x }))
    (place_by fixes others x)) index

later_place :
    (fixes : List Fix) (offset x : ℕ) (here : SetByte) (runs : List (Run SetByte)) → offset < x
    → place_by fixes (map bytes_of_run (before_runs offset here runs)) x
    ≡ place_by fixes (map bytes_of_run runs) x
later_place fixes offset x here [] h = past_one fixes offset here.value x [] h
later_place fixes offset x here (next ∷ others) h = go (next.offset == offset + 1) refl
  where
    go : (b : Bool) → (next.offset == offset + 1) ≡ b
        → place_by fixes
        (map bytes_of_run (cond b (run_at offset (here ∷ next.items) ∷ others)
        (run_at offset (here ∷ []) ∷ next ∷ others))) x
        ≡ place_by fixes (map bytes_of_run (next ∷ others)) x
    go true e =
        past_first fixes offset here.value x (bytes_of_run next) (map bytes_of_run others) h
        (eqb-true next.offset (offset + 1) e)
    go false e = past_one fixes offset here.value x (map bytes_of_run (next ∷ others)) h

-- Fixes of places stand at these.
abbrev FixesFrom : (offset : ℕ) → List Fix → Type 0
FixesFrom offset fixes = AllByRecursion (λ (fix : Fix). offset ≤ fix.offset) fixes

fixes_earlier : (low high : ℕ) (fixes : List Fix) → low ≤ high → FixesFrom high fixes → FixesFrom low fixes
fixes_earlier low high [] h all = tt
fixes_earlier low high (fix ∷ others) h all =
    let k : high ≤ fix.offset = all.0 in (omega (arith, h, k), fixes_earlier low high others h all.1)

fixes_before :
    (offset : ℕ) (fixup : Option Fixup) (fixes : List Fix) → FixesFrom (offset + 1) fixes
    → FixesFrom offset (before_fixes offset fixup fixes)
fixes_before offset None fixes all = fixes_earlier offset (offset + 1) fixes (omega arith) all
fixes_before offset (Some fixup) fixes all =
    (le_refl offset, fixes_earlier offset (offset + 1) fixes (omega arith) all)

fixes_from_place : (offset : ℕ) (places : List (Option SetByte))
    → FixesFrom offset (place_fixes offset places)
fixes_from_place offset [] = tt
fixes_from_place offset (None ∷ others) =
    fixes_earlier offset (offset + 1) (place_fixes (offset + 1) others) (omega arith)
    (fixes_from_place (offset + 1) others)
fixes_from_place offset (Some here ∷ others) =
    fixes_before offset here.fixup (place_fixes (offset + 1) others) (fixes_from_place (offset + 1) others)

no_fix_before : (fixes : List Fix) (x low : ℕ) → x < low → FixesFrom low fixes → fixup_at fixes x ≡ None
no_fix_before [] x low h all = refl
no_fix_before (fix ∷ others) x low h all =
    let k : low ≤ fix.offset = all.0 in
    ap (λ b.
    option_map (λ (f : Fix). record { kind = f.kind; target = f.target })
    (cond b (Some fix) (find (λ (f : Fix). f.offset == x) others)))
    (ne_eqb fix.offset x (λ e. absurd (omega (arith, h, k, e))))
    ∙ no_fix_before others x low h all.1

fix_here :
    (offset : ℕ) (fixup : Option Fixup) (fixes : List Fix) → FixesFrom (offset + 1) fixes
    → fixup_at (before_fixes offset fixup fixes) offset ≡ fixup
fix_here offset None fixes all = no_fix_before fixes offset (offset + 1) (omega arith) all
fix_here offset (Some fixup) fixes all =
    ap (λ b.
    option_map (λ (f : Fix). record { kind = f.kind; target = f.target })
    (cond b (Some (record { kind = fixup.kind; target = fixup.target; offset = offset }))
    (find (λ (f : Fix). f.offset == offset) fixes)))
    (eq-eqb offset offset refl)

fix_later :
    (offset x : ℕ) (fixup : Option Fixup) (fixes : List Fix) → offset < x
    → fixup_at (before_fixes offset fixup fixes) x ≡ fixup_at fixes x
fix_later offset x None fixes h = refl
fix_later offset x (Some fixup) fixes h =
    ap (λ b.
    option_map (λ (f : Fix). record { kind = f.kind; target = f.target })
    (cond b (Some (record { kind = fixup.kind; target = fixup.target; offset = offset }))
    (find (λ (f : Fix). f.offset == x) fixes)))
    (ne_eqb offset x (λ e. absurd (omega (arith, h, e))))

-- Both together: a row of places is what a function gives at each.
abbrev Gives : (place : ℕ → Option SetByte) → (offset : ℕ) → List (Option SetByte) → Type 0
Gives place offset [] = Unit {0}
Gives place offset (here ∷ others) = (place offset ≡ here) × Gives place (offset + 1) others

row_is :
    (place : ℕ → Option SetByte) (offset : ℕ) (places : List (Option SetByte)) → Gives place offset places
    → map place (range_with_len offset (length places)) ≡ places
row_is place offset [] g = refl
row_is place offset (here ∷ others) g =
    ap (λ p. p ∷ map place (range_with_len (offset + 1) (length others))) g.0
    ∙ ap (λ r. here ∷ r) (row_is place (offset + 1) others g.1)

-- a function that from an offset on says what runs and fixes of places from there say
abbrev SaysFrom : (place : ℕ → Option SetByte) → (all : List Fix) → (offset : ℕ)
    → List (Option SetByte) → Type 0
SaysFrom place all offset places =
    (x : ℕ) → offset ≤ x → place x ≡ place_by all (map bytes_of_run (runs_from offset places)) x

abbrev FixesSay : (all : List Fix) → (offset : ℕ) → List (Option SetByte) → Type 0
FixesSay all offset places = (x : ℕ) → offset ≤ x → fixup_at all x ≡ fixup_at (place_fixes offset places) x

gives :
    (place : ℕ → Option SetByte) (all : List Fix) (offset : ℕ) (places : List (Option SetByte))
    → SaysFrom place all offset places → FixesSay all offset places → Gives place offset places
gives place all offset [] says fixes = tt
gives place all offset (None ∷ others) says fixes = (
  says offset (omega arith)
      ∙ none_early all (runs_from (offset + 1) others) offset (offset + 1) (omega arith)
      (all_from (offset + 1) others),
  gives place all (offset + 1) others (λ x h. says x (omega (arith, h))) (λ x h. fixes x (omega (arith, h))),
)
gives place all offset (Some here ∷ others) says fixes = (
  says offset (omega arith)
      ∙ here_first all offset here (runs_from (offset + 1) others)
      ∙ ap (λ f. Some (record { value = here.value; fixup = f }))
      (fixes offset (omega arith)
      ∙ fix_here offset here.fixup (place_fixes (offset + 1) others) (fixes_from_place (offset + 1) others)),
  gives place all (offset + 1) others
      (λ x h. says x (omega (arith, h)) ∙ later_place all offset x here
      (runs_from (offset + 1) others) (omega (arith, h)))
      (λ x h.
      fixes x (omega (arith, h)) ∙ fix_later offset x here.fixup (place_fixes (offset + 1) others)
      (omega (arith, h))),
)

-- the places of the segment that keeps places are these
pub kept_places :
    (segment : Segment) (alignment : Alignment) (places : List (Option SetByte))
    → places_stored segment (stored_of alignment places) ≡ record { alignment = alignment; places = places }
kept_places segment alignment places =
    let fixes : List Fix = place_fixes 0 places in
    let runs : List (Run ℕ) = map bytes_of_run (runs_from 0 places) in
    ap (λ p. record { alignment = alignment; places = p })
    (row_is (set_in (map (content_by segment fixes) runs) segment) 0 places
    (gives (set_in (map (content_by segment fixes) runs) segment) fixes 0 places
    (λ x h. set_is segment fixes runs x) (λ x h. refl)))

-- What such a segment keeps to.
less : (a b : ℕ) → a ≤ b → (b ≡ a → ⊥) → a < b
less a b h not_same = go (nat_lt a b) refl
  where
    go : (t : Bool) → nat_lt a b ≡ t → a < b
    go true e = ltb-true a b e
    go false e = let k : b ≤ a = ltb-false a b e in absurd (not_same (omega (arith, h, k)))

longest_before :
    (offset size : ℕ) (here : SetByte) (runs : List (Run SetByte)) → offset + 1 ≤ size
    → AllFrom (offset + 1) runs
    → are_longest size (map bytes_of_run runs) ≡ true
    → are_longest size (map bytes_of_run (before_runs offset here runs)) ≡ true
longest_before offset size here [] h all longest = le-leb (offset + 1) size h
longest_before offset size here (next ∷ []) h all longest = go (next.offset == offset + 1) refl
  where
    go : (b : Bool) → (next.offset == offset + 1) ≡ b
        → are_longest size
        (map bytes_of_run (cond b (run_at offset (here ∷ next.items) ∷ [])
        (run_at offset (here ∷ []) ∷ next ∷ []))) ≡ true
    go true e =
        let at : next.offset ≡ offset + 1 = eqb-true next.offset (offset + 1) e in
        let last : ℕ = length (map (λ (item : SetByte). item.value) next.items) in
        let ends : next.offset + last ≤ size =
        leb-true (next.offset + last) size
        (and_parts (not (is_empty (bytes_of_run next).items)) (nat_le (next.offset + last) size) longest).1 in
        le-leb (offset + suc last) size (omega (arith, at, ends))
    go false e =
        let k : offset + 1 ≤ next.offset = all.0 in
        let not_next : next.offset ≡ offset + 1 → ⊥ =
        λ same. true≢false (sym (eq-eqb next.offset (offset + 1) same) ∙ e) in
        and_from (nat_lt (offset + 1) next.offset) (are_longest size (bytes_of_run next ∷ []))
        (lt-ltb (offset + 1) next.offset (less (offset + 1) next.offset k not_next)) longest
longest_before offset size here (next ∷ third ∷ others) h all longest = go (next.offset == offset + 1) refl
  where
    go : (b : Bool) → (next.offset == offset + 1) ≡ b
        → are_longest size
        (map bytes_of_run (cond b (run_at offset (here ∷ next.items) ∷ third ∷ others)
        (run_at offset (here ∷ []) ∷ next ∷ third ∷ others))) ≡ true
    go true e =
        let at : next.offset ≡ offset + 1 = eqb-true next.offset (offset + 1) e in
        let last : ℕ = length (map (λ (item : SetByte). item.value) next.items) in
        let cut =
        and_parts (not (is_empty (bytes_of_run next).items) && nat_lt (next.offset + last) third.offset)
        (are_longest size (map bytes_of_run (third ∷ others))) longest in
        let ends : next.offset + last < third.offset =
        ltb-true (next.offset + last) third.offset
        (and_parts (not (is_empty (bytes_of_run next).items))
        (nat_lt (next.offset + last) third.offset) cut.0).1 in
        and_from (nat_lt (offset + suc last) third.offset)
        (are_longest size (map bytes_of_run (third ∷ others)))
        (lt-ltb (offset + suc last) third.offset (omega (arith, at, ends))) cut.1
    go false e =
        let k : offset + 1 ≤ next.offset = all.0 in
        let not_next : next.offset ≡ offset + 1 → ⊥ =
        λ same. true≢false (sym (eq-eqb next.offset (offset + 1) same) ∙ e) in
        and_from (nat_lt (offset + 1) next.offset)
        (are_longest size (map bytes_of_run (next ∷ third ∷ others)))
        (lt-ltb (offset + 1) next.offset (less (offset + 1) next.offset k not_next)) longest

longest_from :
    (offset size : ℕ) (places : List (Option SetByte)) → offset + length places ≤ size
    → are_longest size (map bytes_of_run (runs_from offset places)) ≡ true
longest_from offset size [] h = refl
longest_from offset size (None ∷ others) h = longest_from (offset + 1) size others (omega (arith, h))
longest_from offset size (Some here ∷ others) h =
    longest_before offset size here (runs_from (offset + 1) others) (omega (arith, h))
    (all_from (offset + 1) others)
    (longest_from (offset + 1) size others (omega (arith, h)))

-- fixes ascend
ascend_more :
    (fix : Fix) (fixes : List Fix) → FixesFrom (fix_end fix) fixes → fixes_ascend fixes ≡ true
    → fixes_ascend (fix ∷ fixes) ≡ true
ascend_more fix [] all h = refl
ascend_more fix (next ∷ others) all h = and_from _ _ (le-leb (fix_end fix) next.offset all.0) h

plain_fixes :
    (offset value : ℕ) (fixup : Option Fixup) (others : List (Option SetByte))
    → option_map_or (λ (f : Fixup). false) fixup true ≡ true
    → FixesFrom (offset + 1) (before_fixes offset fixup (place_fixes (offset + 1) others))
plain_fixes offset value None others h = fixes_from_place (offset + 1) others
plain_fixes offset value (Some fixup) others h = absurd (let bad : false ≡ true = h in cc)

after_word :
    (offset : ℕ) (others : List (Option SetByte)) → is_plain (option_flatten (slice_get others 0)) ≡ true
    → FixesFrom (offset + 1) (place_fixes offset others)
after_word offset [] h = tt
after_word offset (None ∷ others) h = absurd (let bad : false ≡ true = h in cc)
after_word offset (Some next ∷ others) h = plain_fixes offset next.value next.fixup others h

after_fix :
    (offset : ℕ) (kind : FixKind) (others : List (Option SetByte))
    → (not (is_both kind) || is_plain (option_flatten (slice_get others 0))) ≡ true
    → FixesFrom (offset + width_of kind) (place_fixes (offset + 1) others)
after_fix offset Low others h = fixes_from_place (offset + 1) others
after_fix offset High others h = fixes_from_place (offset + 1) others
after_fix offset Both others h =
    fixes_earlier (offset + 2) ((offset + 1) + 1) (place_fixes (offset + 1) others) (omega arith)
    (after_word (offset + 1) others h)

ascend_step :
    (offset : ℕ) (fixup : Option Fixup) (others : List (Option SetByte))
    → (not (option_map_or (λ (f : Fixup). is_both f.kind) fixup false)
    || is_plain (option_flatten (slice_get others 0))) ≡ true
    → fixes_ascend (place_fixes (offset + 1) others) ≡ true
    → fixes_ascend (before_fixes offset fixup (place_fixes (offset + 1) others)) ≡ true
ascend_step offset None others h k = k
ascend_step offset (Some fixup) others h k =
    ascend_more (record { kind = fixup.kind; target = fixup.target; offset = offset })
    (place_fixes (offset + 1) others)
    (after_fix offset fixup.kind others h) k

ascend_from_place :
    (offset : ℕ) (places : List (Option SetByte)) → words_are_whole places ≡ true
    → fixes_ascend (place_fixes offset places) ≡ true
ascend_from_place offset [] h = refl
ascend_from_place offset (None ∷ others) h = ascend_from_place (offset + 1) others h
ascend_from_place offset (Some here ∷ others) h =
    let cut = and_parts (not (begins_word (Some here)) || is_plain (option_flatten (slice_get others 0)))
    (words_are_whole others) h in
    ascend_step offset here.fixup others cut.0 (ascend_from_place (offset + 1) others cut.1)

-- each fix is within a run
abbrev within_run : Segment → Fix → Run ℕ → Bool
within_run segment fix run = is_within (content_of_run segment run) fix

in_longer :
    (segment : Segment) (offset value : ℕ) (next : Run ℕ) (fix : Fix) → next.offset ≡ offset + 1
    → within_run segment fix next ≡ true
    → within_run segment fix (run_at offset (value ∷ next.items)) ≡ true
in_longer segment offset value next fix at h =
    let cut =
    and_parts (nat_le next.offset fix.offset)
    (nat_le (fix_end fix) (next.offset + length next.items)) h in
    let begins : next.offset ≤ fix.offset = leb-true next.offset fix.offset cut.0 in
    let ends : fix_end fix ≤ next.offset + length next.items =
    leb-true (fix_end fix) (next.offset + length next.items) cut.1 in
    and_from (nat_le offset fix.offset) _ (le-leb offset fix.offset (omega (arith, at, begins)))
    (le-leb (fix_end fix) (offset + suc (length next.items)) (omega (arith, at, ends)))

or_map : (a b c : Bool) → (a ≡ true → b ≡ true) → (a || c) ≡ true → (b || c) ≡ true
or_map true b c f h = or_left b c (f refl)
or_map false b c f h = or_right b c h

in_more :
    (segment : Segment) (offset : ℕ) (here : SetByte) (runs : List (Run SetByte)) (fix : Fix)
    → is_in_a_run segment (map bytes_of_run runs) fix ≡ true
    → is_in_a_run segment (map bytes_of_run (before_runs offset here runs)) fix ≡ true
in_more segment offset here [] fix h = absurd (let bad : false ≡ true = h in cc)
in_more segment offset here (next ∷ others) fix h = go (next.offset == offset + 1) refl
  where
    go : (b : Bool) → (next.offset == offset + 1) ≡ b
        → is_in_a_run segment
        (map bytes_of_run (cond b (run_at offset (here ∷ next.items) ∷ others)
        (run_at offset (here ∷ []) ∷ next ∷ others))) fix ≡ true
    go true e =
        or_map (within_run segment fix (bytes_of_run next)) _
        (is_in_a_run segment (map bytes_of_run others) fix)
        (in_longer segment offset here.value (bytes_of_run next) fix (eqb-true next.offset (offset + 1) e)) h
    go false e =
        or_right (within_run segment fix (run_at offset (here.value ∷ [])))
        (is_in_a_run segment (map bytes_of_run (next ∷ others)) fix) h

all_in_more :
    (segment : Segment) (offset : ℕ) (here : SetByte) (runs : List (Run SetByte)) (fixes : List Fix)
    → list_all (is_in_a_run segment (map bytes_of_run runs)) fixes ≡ true
    → list_all (is_in_a_run segment (map bytes_of_run (before_runs offset here runs))) fixes ≡ true
all_in_more segment offset here runs [] h = refl
all_in_more segment offset here runs (fix ∷ others) h =
    let cut = and_parts (is_in_a_run segment (map bytes_of_run runs) fix) _ h in
    and_from _ _ (in_more segment offset here runs fix cut.0)
    (all_in_more segment offset here runs others cut.1)

-- a fix at the first place of a run that is long enough
in_first :
    (segment : Segment) (fix : Fix) (values : List ℕ) (others : List (Run ℕ))
    → width_of fix.kind ≤ length values
    → is_in_a_run segment (run_at fix.offset values ∷ others) fix ≡ true
in_first segment fix values others h =
    or_left (within_run segment fix (run_at fix.offset values)) (is_in_a_run segment others fix)
    (and_from (nat_le fix.offset fix.offset) _ (le-leb fix.offset fix.offset (omega arith))
    (le-leb (fix_end fix) (fix.offset + length values) (omega (arith, h))))

one_place :
    (segment : Segment) (fix : Fix) (here : SetByte) (runs : List (Run SetByte)) → width_of fix.kind ≤ 1
    → is_in_a_run segment (map bytes_of_run (before_runs fix.offset here runs)) fix ≡ true
one_place segment fix here [] h = in_first segment fix (here.value ∷ []) [] (omega (arith, h))
one_place segment fix here (next ∷ others) h = go (next.offset == fix.offset + 1)
  where
    go : (b : Bool)
        → is_in_a_run segment
        (map bytes_of_run (cond b (run_at fix.offset (here ∷ next.items) ∷ others)
        (run_at fix.offset (here ∷ []) ∷ next ∷ others))) fix ≡ true
    go true =
        in_first segment fix (here.value ∷ (bytes_of_run next).items)
        (map bytes_of_run others) (omega (arith, h))
    go false = in_first segment fix (here.value ∷ []) (map bytes_of_run (next ∷ others)) (omega (arith, h))

two_places_by :
    (segment : Segment) (fix : Fix) (here : SetByte) (run : Run SetByte) (others : List (Run SetByte))
    → width_of fix.kind ≤ 2 → run.offset ≡ fix.offset + 1 → 0 < length (bytes_of_run run).items
    → is_in_a_run segment (map bytes_of_run (before_runs fix.offset here (run ∷ others))) fix ≡ true
two_places_by segment fix here run others h at some =
    ap (λ b.
    is_in_a_run segment
    (map bytes_of_run (cond b (run_at fix.offset (here ∷ run.items) ∷ others)
    (run_at fix.offset (here ∷ []) ∷ run ∷ others))) fix)
    (eq-eqb run.offset (fix.offset + 1) at)
    ∙ in_first segment fix (here.value ∷ (bytes_of_run run).items) (map bytes_of_run others)
    (omega (arith, h, some))

two_places :
    (segment : Segment) (fix : Fix) (here next : SetByte) (runs : List (Run SetByte)) → width_of fix.kind ≤ 2
    → is_in_a_run segment
    (map bytes_of_run (before_runs fix.offset here (before_runs (fix.offset + 1) next runs))) fix ≡ true
two_places segment fix here next [] h =
    two_places_by segment fix here (run_at (fix.offset + 1) (next ∷ [])) [] h refl (omega arith)
two_places segment fix here next (third ∷ others) h = go (third.offset == (fix.offset + 1) + 1)
  where
    go : (b : Bool)
        → is_in_a_run segment
        (map bytes_of_run (before_runs fix.offset here
        (cond b (run_at (fix.offset + 1) (next ∷ third.items) ∷ others)
        (run_at (fix.offset + 1) (next ∷ []) ∷ third ∷ others)))) fix ≡ true
    go true =
        two_places_by segment fix here (run_at (fix.offset + 1) (next ∷ third.items)) others h refl
        (omega arith)
    go false =
        two_places_by segment fix here (run_at (fix.offset + 1) (next ∷ [])) (third ∷ others) h refl
        (omega arith)

first_fix :
    (segment : Segment) (offset : ℕ) (here : SetByte) (kind : FixKind) (target : Target)
    (others : List (Option SetByte))
    → (not (is_both kind) || is_plain (option_flatten (slice_get others 0))) ≡ true
    → is_in_a_run segment (map bytes_of_run (before_runs offset here (runs_from (offset + 1) others)))
    (record { kind = kind; target = target; offset = offset }) ≡ true
first_fix segment offset here Low target others h =
    one_place segment (record { kind = Low; target = target; offset = offset }) here
    (runs_from (offset + 1) others) (omega arith)
first_fix segment offset here High target others h =
    one_place segment (record { kind = High; target = target; offset = offset }) here
    (runs_from (offset + 1) others) (omega arith)
first_fix segment offset here Both target [] h = absurd (let bad : false ≡ true = h in cc)
first_fix segment offset here Both target (None ∷ others) h = absurd (let bad : false ≡ true = h in cc)
first_fix segment offset here Both target (Some next ∷ others) h =
    two_places segment (record { kind = Both; target = target; offset = offset }) here next
    (runs_from ((offset + 1) + 1) others) (omega arith)

within_step :
    (segment : Segment) (offset : ℕ) (here : SetByte) (fixup : Option Fixup) (others : List (Option SetByte))
    → (not (option_map_or (λ (f : Fixup). is_both f.kind) fixup false)
    || is_plain (option_flatten (slice_get others 0))) ≡ true
    → list_all (is_in_a_run segment (map bytes_of_run (runs_from (offset + 1) others)))
    (place_fixes (offset + 1) others)
    ≡ true
    → list_all
    (is_in_a_run segment (map bytes_of_run (before_runs offset here (runs_from (offset + 1) others))))
    (before_fixes offset fixup (place_fixes (offset + 1) others)) ≡ true
within_step segment offset here None others h k =
    all_in_more segment offset here (runs_from (offset + 1) others) (place_fixes (offset + 1) others) k
within_step segment offset here (Some fixup) others h k =
    and_from _ _ (first_fix segment offset here fixup.kind fixup.target others h)
    (all_in_more segment offset here (runs_from (offset + 1) others) (place_fixes (offset + 1) others) k)

within_from_place :
    (segment : Segment) (offset : ℕ) (places : List (Option SetByte)) → words_are_whole places ≡ true
    → list_all (is_in_a_run segment (map bytes_of_run (runs_from offset places))) (place_fixes offset places)
    ≡ true
within_from_place segment offset [] h = refl
within_from_place segment offset (None ∷ others) h = within_from_place segment (offset + 1) others h
within_from_place segment offset (Some here ∷ others) h =
    let cut = and_parts (not (begins_word (Some here)) || is_plain (option_flatten (slice_get others 0)))
    (words_are_whole others) h in
    within_step segment offset here here.fixup others cut.0
    (within_from_place segment (offset + 1) others cut.1)

-- the segment that keeps places without cut words keeps to all of that
pub kept_stored :
    (segment : Segment) (alignment : Alignment) (places : List (Option SetByte))
    → words_are_whole places ≡ true
    → IsStored segment (stored_of alignment places)
kept_stored segment alignment places h = record {
  runs = longest_from 0 (length places) places (omega arith);
  ascending = ascend_from_place 0 places h;
  fixes = within_from_place segment 0 places h;
}
