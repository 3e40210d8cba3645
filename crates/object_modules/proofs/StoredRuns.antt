-- The runs and the fixes of a segment as it is kept are the longest runs of its places, and their fixes.
use Rattle.object_modules.proofs.Prelude.{◌≡◌, ℕ, zero, suc, ◌+◌, ◌-◌, ◌<◌, ◌≤◌, ◌≢◌, Bool, true, false, cond, not, ◌&&◌, ◌||◌, ◌==◌, nat_lt, nat_le, ◌⊎◌, inl, inr, List, [], ◌∷◌, ◌++◌, length, map, flat_map, find, Option, Some, None, option_map, slice_index, refl, ap, sym, subst, ◌∙◌, arith, list_all, range_with_len, eqb-true, eqb-false, eq-eqb, ne_eqb, leb-true, le-leb, lt-leb, ltb-true, ltb-false, lt-ltb, le-ltb, FixKind, Low, High, Both, Segment, is_empty, same_segment, Fixup, SetByte, width_of, FixedContent, holds_place, set_at, set_in, StoredSegment, IsStored, are_longest, fixes_ascend, is_in_a_run, content_of_run, places_stored, Run, before_runs, runs_from, fixes_from, and_parts}
use Rattle.object_modules.specs.declared.segment.Fix.{Fix}
use Rattle.object_modules.specs.Runs.{bytes_of_run, fixes_of_run, fixup_at, fixed_bytes, fixed_run}
use Rattle.object_modules.specs.Rules.{fix_end, is_within}

-- What is set at a place, by the first run that has it.
abbrev pub in_run : ℕ → Run ℕ → Bool
in_run x run = nat_le run.offset x && nat_lt x (run.offset + length run.items)

abbrev pub byte_in_run : List Fix → ℕ → Run ℕ → SetByte
byte_in_run fixes x run =
    record { value = slice_index run.items (x - run.offset); fixup = fixup_at fixes x }

abbrev pub found : List Fix → List (Run ℕ) → ℕ → Option SetByte
found fixes [] x = None
found fixes (run ∷ others) x = cond (in_run x run) (Some (byte_in_run fixes x run)) (found fixes others x)

abbrev pub content_with : Segment → List Fix → Run ℕ → FixedContent
content_with segment fixes run = record { content = content_of_run segment run; fixes = fixes }

abbrev pub contents_kept : Segment → StoredSegment → List FixedContent
contents_kept segment stored = map (content_with segment stored.fixes) stored.runs

pub map_cond :
    {A B : Type 0} (f : A → B) (b : Bool) (x : A) (rest : Option A)
    → option_map f (cond b (Some x) rest) ≡ cond b (Some (f x)) (option_map f rest)
map_cond f true x rest = refl
map_cond f false x rest = refl

pub found_is :
    (segment : Segment) (fixes : List Fix) (runs : List (Run ℕ)) (x : ℕ) → same_segment segment segment ≡ true
    → set_in (map (content_with segment fixes) runs) segment x ≡ found fixes runs x
found_is segment fixes [] x same = refl
found_is segment fixes (run ∷ others) x same =
    let rest : Option FixedContent = find (holds_place segment x) (map (content_with segment fixes) others) in
    ap (λ b.
    option_map (set_at x)
    (cond ((b && nat_le run.offset x) && nat_lt x (run.offset + length run.items))
    (Some (content_with segment fixes run)) rest)) same
    ∙ map_cond (set_at x) (in_run x run) (content_with segment fixes run) rest
    ∙ ap (cond (in_run x run) (Some (byte_in_run fixes x run))) (found_is segment fixes others x same)

-- Runs beyond a place, and longest runs.
abbrev pub Beyond : ℕ → List (Run ℕ) → Type 0
Beyond end [] = Unit {0}
Beyond end (run ∷ others) = (end < run.offset) × Beyond end others

abbrev pub Longest : ℕ → List (Run ℕ) → Type 0
Longest size [] = Unit {0}
Longest size (run ∷ others) =
    (0 < length run.items) × (run.offset + length run.items ≤ size)
    × Beyond (run.offset + length run.items) others × Longest size others

pub beyond_less : (a b : ℕ) (runs : List (Run ℕ)) → a ≤ b → Beyond b runs → Beyond a runs
beyond_less a b [] h beyond = tt
beyond_less a b (run ∷ others) h beyond =
    let here : b < run.offset = beyond.0 in (omega arith, beyond_less a b others h beyond.1)

some_items : (items : List ℕ) → not (is_empty items) ≡ true → 0 < length items
some_items [] h = absurd (let bad : false ≡ true = h in cc)
some_items (first ∷ others) h = omega arith

longest : (size : ℕ) (runs : List (Run ℕ)) → are_longest size runs ≡ true → Longest size runs
longest size [] h = tt
longest size (run ∷ []) h =
    let parts = and_parts (not (is_empty run.items)) (nat_le (run.offset + length run.items) size) h in
    (some_items run.items parts.0, leb-true (run.offset + length run.items) size parts.1, tt, tt)
longest size (run ∷ next ∷ others) h =
    let outer =
    and_parts (not (is_empty run.items) && nat_lt (run.offset + length run.items) next.offset)
    (are_longest size (next ∷ others)) h in
    let inner =
    and_parts (not (is_empty run.items)) (nat_lt (run.offset + length run.items) next.offset) outer.0 in
    let before : run.offset + length run.items < next.offset =
    ltb-true (run.offset + length run.items) next.offset inner.1 in
    let later : Longest size (next ∷ others) = longest size (next ∷ others) outer.1 in
    let some : 0 < length next.items = later.0 in
    let ends : next.offset + length next.items ≤ size = later.1 in (
      some_items run.items inner.0,
      omega arith,
      (
        before,
        beyond_less (run.offset + length run.items) (next.offset + length next.items) others
            (omega arith) later.2,
      ),
      later,
    )

-- at places before all runs nothing is found
found_none : (fixes : List Fix) (runs : List (Run ℕ)) (x : ℕ) → Beyond x runs → found fixes runs x ≡ None
found_none fixes [] x beyond = refl
found_none fixes (run ∷ others) x beyond =
    ap (λ b.
    cond (b && nat_lt x (run.offset + length run.items)) (Some (byte_in_run fixes x run))
    (found fixes others x))
    (lt-leb run.offset x beyond.0)
    ∙ found_none fixes others x beyond.1

-- after a run it is not looked at
pub found_after :
    (fixes : List Fix) (run : Run ℕ) (others : List (Run ℕ)) (x : ℕ) → run.offset + length run.items ≤ x
    → found fixes (run ∷ others) x ≡ found fixes others x
found_after fixes run others x h =
    let starts : run.offset ≤ x = omega arith in
    ap (λ b. cond (b && nat_lt x (run.offset + length run.items)) (Some (byte_in_run fixes x run))
    (found fixes others x))
    (le-leb run.offset x starts)
    ∙ ap (λ b. cond b (Some (byte_in_run fixes x run)) (found fixes others x))
    (le-ltb x (run.offset + length run.items) h)

-- a run with places before it
abbrev pub run_at : ℕ → List ℕ → Run ℕ
run_at offset items = record { offset = offset; items = items }

-- a place after the first of a run is one of the rest of the run
pub found_shorter :
    (fixes : List Fix) (offset first : ℕ) (items : List ℕ) (others : List (Run ℕ)) (x : ℕ) → offset + 1 ≤ x
    → found fixes (run_at offset (first ∷ items) ∷ others) x
    ≡ found fixes (run_at (offset + 1) items ∷ others) x
found_shorter fixes offset first items others x h =
    let starts : offset ≤ x = omega arith in
    let next : x - offset ≡ suc (x - (offset + 1)) = omega arith in
    let ends : offset + length (first ∷ items) ≡ offset + 1 + length items = omega arith in
    ap (λ b.
    cond (b && nat_lt x (offset + length (first ∷ items)))
    (Some (byte_in_run fixes x (run_at offset (first ∷ items)))) (found fixes others x))
    (le-leb offset x starts ∙ sym (le-leb (offset + 1) x h))
    ∙ ap (λ end.
    cond (nat_le (offset + 1) x && nat_lt x end) (Some (byte_in_run fixes x (run_at offset (first ∷ items))))
    (found fixes others x)) ends
    ∙ ap (λ k.
    cond (nat_le (offset + 1) x && nat_lt x (offset + 1 + length items))
    (Some (record { value = slice_index (first ∷ items) k; fixup = fixup_at fixes x }))
    (found fixes others x)) next

pub found_first :
    (fixes : List Fix) (offset first : ℕ) (items : List ℕ) (others : List (Run ℕ))
    → found fixes (run_at offset (first ∷ items) ∷ others) offset
    ≡ Some (record { value = first; fixup = fixup_at fixes offset })
found_first fixes offset first items others =
    let here : offset < offset + length (first ∷ items) = omega arith in
    let none : offset - offset ≡ 0 = omega arith in
    ap (λ b.
    cond (b && nat_lt offset (offset + length (first ∷ items)))
    (Some (byte_in_run fixes offset (run_at offset (first ∷ items)))) (found fixes others offset))
    (le-leb offset offset (omega arith))
    ∙ ap (λ b.
    cond b (Some (byte_in_run fixes offset (run_at offset (first ∷ items)))) (found fixes others offset))
    (lt-ltb offset (offset + length (first ∷ items)) here)
    ∙ ap (λ k. Some (record { value = slice_index (first ∷ items) k; fixup = fixup_at fixes offset })) none

-- places of which the same is found
pub same_over :
    (f g : ℕ → Option SetByte) (p n : ℕ) → ((x : ℕ) → p ≤ x → f x ≡ g x)
    → map f (range_with_len p n) ≡ map g (range_with_len p n)
same_over f g p zero h = refl
same_over f g p (suc n) h =
    ap (λ here. here ∷ map f (range_with_len (p + 1) n)) (h p (omega arith))
    ∙ ap (λ rest. g p ∷ rest) (same_over f g (p + 1) n (λ x le. h x (omega arith)))

-- The longest runs of the places from one on.
abbrev places_from : List Fix → List (Run ℕ) → (p n : ℕ) → List (Option SetByte)
places_from fixes runs p n = map (found fixes runs) (range_with_len p n)

abbrev From : ℕ → List (Run ℕ) → Type 0
From p [] = Unit {0}
From p (run ∷ others) = p ≤ run.offset

from_zero : (runs : List (Run ℕ)) → From 0 runs
from_zero [] = tt
from_zero (run ∷ others) = omega arith

abbrev Again : List Fix → (size n : ℕ) → Type 0
Again fixes size n =
    (p : ℕ) (runs : List (Run ℕ)) → Longest size runs → From p runs → p + n ≡ size
    → runs_from p (places_from fixes runs p n) ≡ map (fixed_run fixes) runs

beyond_from : (p : ℕ) (runs : List (Run ℕ)) → Beyond p runs → From (p + 1) runs
beyond_from p [] beyond = tt
beyond_from p (run ∷ others) beyond = let here : p < run.offset = beyond.0 in omega arith

alone :
    (fixes : List Fix) (offset : ℕ) (item : SetByte) (runs : List (Run ℕ)) → Beyond (offset + 1) runs
    → before_runs offset item (map (fixed_run fixes) runs)
    ≡ record { offset = offset; items = item ∷ [] } ∷ map (fixed_run fixes) runs
alone fixes offset item [] beyond = refl
alone fixes offset item (next ∷ others) beyond =
    let after : offset + 1 < next.offset = beyond.0 in
    let e : (next.offset == offset + 1) ≡ false = ne_eqb next.offset (offset + 1) (λ is. omega arith) in
    ap (λ b.
    cond b
    (record { offset = offset; items = item ∷ (fixed_run fixes next).items } ∷ map (fixed_run fixes) others)
    (record { offset = offset; items = item ∷ [] } ∷ fixed_run fixes next ∷ map (fixed_run fixes) others)) e

-- a run that begins here
begins :
    (fixes : List Fix) (size n offset : ℕ) (items : List ℕ) (others : List (Run ℕ))
    → Longest size (run_at offset items ∷ others) → offset + suc n ≡ size → Again fixes size n
    → runs_from offset (places_from fixes (run_at offset items ∷ others) offset (suc n))
    ≡ map (fixed_run fixes) (run_at offset items ∷ others)
begins fixes size n offset [] others long is again =
    let bad : 0 < length {A = ℕ} [] = long.0 in absurd (omega arith)
begins fixes size n offset (first ∷ []) others long is again =
    let runs : List (Run ℕ) = run_at offset (first ∷ []) ∷ others in
    let item : SetByte = record { value = first; fixup = fixup_at fixes offset } in
    let beyond : Beyond (offset + 1) others =
    beyond_less (offset + 1) (offset + length (first ∷ [])) others (omega arith) long.2 in
    ap (λ place. runs_from offset (place ∷ places_from fixes runs (offset + 1) n))
    (found_first fixes offset first [] others)
    ∙ ap (λ rest. before_runs offset item (runs_from (offset + 1) rest))
    (same_over (found fixes runs) (found fixes others) (offset + 1) n
    (λ x le. found_after fixes (run_at offset (first ∷ [])) others x (omega arith)))
    ∙ ap (before_runs offset item)
    (again (offset + 1) others long.3 (beyond_from offset others
    (beyond_less offset (offset + 1) others (omega arith) beyond))
    (omega arith))
    ∙ alone fixes offset item others beyond
begins fixes size n offset (first ∷ second ∷ items) others long is again =
    let runs : List (Run ℕ) = run_at offset (first ∷ second ∷ items) ∷ others in
    let shorter : List (Run ℕ) = run_at (offset + 1) (second ∷ items) ∷ others in
    let item : SetByte = record { value = first; fixup = fixup_at fixes offset } in
    let ends : offset + length (first ∷ second ∷ items) ≤ size = long.1 in
    let same : offset + 1 + length (second ∷ items) ≤ offset + length (first ∷ second ∷ items) =
    omega arith in
    let long_still : Longest size shorter = (
      omega arith,
      omega arith,
      beyond_less (offset + 1 + length (second ∷ items))
          (offset + length (first ∷ second ∷ items)) others same
          long.2,
      long.3,
    ) in
    let rest : List (Run SetByte) = map (fixed_run fixes) others in
    let tail : List SetByte = fixed_bytes fixes (offset + 1) (second ∷ items) in
    ap (λ place. runs_from offset (place ∷ places_from fixes runs (offset + 1) n))
    (found_first fixes offset first (second ∷ items) others)
    ∙ ap (λ later. before_runs offset item (runs_from (offset + 1) later))
    (same_over (found fixes runs) (found fixes shorter) (offset + 1) n
    (λ x le. found_shorter fixes offset first (second ∷ items) others x le))
    ∙ ap (before_runs offset item) (again (offset + 1) shorter long_still (omega arith) (omega arith))
    ∙ ap (λ b.
    cond b (record { offset = offset; items = item ∷ tail } ∷ rest)
    (record { offset = offset; items = item ∷ [] } ∷ record { offset = offset + 1; items = tail } ∷ rest))
    (eq-eqb (offset + 1) (offset + 1) refl)

one_more : (fixes : List Fix) (size n : ℕ) → Again fixes size n → Again fixes size (suc n)
one_more fixes size n again p [] long from is = again (p + 1) [] tt tt (omega arith)
one_more fixes size n again p (run ∷ others) long from is = go (nat_lt p run.offset) refl
  where
    go : (b : Bool) → nat_lt p run.offset ≡ b
        → runs_from p (places_from fixes (run ∷ others) p (suc n)) ≡ map (fixed_run fixes) (run ∷ others)
    go true e =
        let before : p < run.offset = ltb-true p run.offset e in
        let beyond : Beyond p (run ∷ others) =
        (before, beyond_less p (run.offset + length run.items) others (omega arith) long.2) in
        let from_next : p + 1 ≤ run.offset = omega arith in
        ap (λ place. runs_from p (place ∷ places_from fixes (run ∷ others) (p + 1) n))
        (found_none fixes (run ∷ others) p beyond)
        ∙ again (p + 1) (run ∷ others) long from_next (omega arith)
    go false e =
        let not_before : run.offset ≤ p = ltb-false p run.offset e in
        let at_least : p ≤ run.offset = from in
        let here : run.offset ≡ p = omega arith in
        subst
        (λ q. runs_from q (places_from fixes (run ∷ others) q (suc n)) ≡ map (fixed_run fixes) (run ∷ others))
        here
        (begins fixes size n run.offset run.items others long (omega arith) again)

runs_again : (fixes : List Fix) (size n : ℕ) → Again fixes size n
runs_again fixes size zero p [] long from is = refl
runs_again fixes size zero p (run ∷ others) long from is =
    let some : 0 < length run.items = long.0 in
    let ends : run.offset + length run.items ≤ size = long.1 in
    let starts : p ≤ run.offset = from in
    absurd (omega arith)
runs_again fixes size (suc n) p runs long from is =
    one_more fixes size n (runs_again fixes size n) p runs long from is

-- the longest runs of the places of a segment are its runs, each byte with its fix
pub stored_runs :
    (segment : Segment) (stored : StoredSegment) → same_segment segment segment ≡ true
    → IsStored segment stored
    → runs_from 0 (places_stored segment stored).places ≡ map (fixed_run stored.fixes) stored.runs
stored_runs segment stored same is =
    ap (runs_from 0)
    (same_over (set_in (map (content_with segment stored.fixes) stored.runs) segment)
    (found stored.fixes stored.runs) 0
    stored.size (λ x le. found_is segment stored.fixes stored.runs x same))
    ∙ runs_again stored.fixes stored.size stored.size 0 stored.runs (longest stored.size stored.runs is.runs)
    (from_zero stored.runs) (omega arith)

pub values_again :
    (fixes : List Fix) (offset : ℕ) (items : List ℕ)
    → map (λ (here : SetByte). here.value) (fixed_bytes fixes offset items) ≡ items
values_again fixes offset [] = refl
values_again fixes offset (first ∷ others) =
    ap (λ rest. first ∷ rest) (values_again fixes (offset + 1) others)

-- without their fixes they are the runs
pub bytes_again :
    (fixes : List Fix) (runs : List (Run ℕ)) → map bytes_of_run (map (fixed_run fixes) runs) ≡ runs
bytes_again fixes [] = refl
bytes_again fixes (run ∷ others) =
    ap (λ items. record { offset = run.offset; items = items }
    ∷ map bytes_of_run (map (fixed_run fixes) others))
    (values_again fixes run.offset run.items)
    ∙ ap (λ rest. run ∷ rest) (bytes_again fixes others)

pub stored_bytes :
    (segment : Segment) (stored : StoredSegment) → same_segment segment segment ≡ true
    → IsStored segment stored
    → map bytes_of_run (runs_from 0 (places_stored segment stored).places) ≡ stored.runs
stored_bytes segment stored same is =
    ap (map bytes_of_run) (stored_runs segment stored same is) ∙ bytes_again stored.fixes stored.runs

-- Fixes by their places, all from one on.
abbrev pub Ascending : ℕ → List Fix → Type 0
Ascending p [] = Unit {0}
Ascending p (fix ∷ others) = (p ≤ fix.offset) × Ascending (fix.offset + 1) others

abbrev First : ℕ → List Fix → Type 0
First p [] = Unit {0}
First p (fix ∷ others) = p ≤ fix.offset

ascending_less : (p q : ℕ) (fixes : List Fix) → p ≤ q → Ascending q fixes → Ascending p fixes
ascending_less p q [] h asc = tt
ascending_less p q (fix ∷ others) h asc = let here : q ≤ fix.offset = asc.0 in (omega arith, asc.1)

pub some_width : (kind : FixKind) → 1 ≤ width_of kind
some_width Low = omega arith
some_width High = omega arith
some_width Both = omega arith

ascending : (p : ℕ) (fixes : List Fix) → fixes_ascend fixes ≡ true → First p fixes → Ascending p fixes
ascending p [] h first = tt
ascending p (fix ∷ []) h first = (first, tt)
ascending p (fix ∷ next ∷ others) h first =
    let parts = and_parts (nat_le (fix_end fix) next.offset) (fixes_ascend (next ∷ others)) h in
    let after : fix.offset + width_of fix.kind ≤ next.offset = leb-true (fix_end fix) next.offset parts.0 in
    let some : 1 ≤ width_of fix.kind = some_width fix.kind in
    (first, ascending (fix.offset + 1) (next ∷ others) parts.1 (omega arith))

abbrev fixup_of : Fix → Fixup
fixup_of fix = record { kind = fix.kind; target = fix.target }

no_fix : (fixes : List Fix) (q x : ℕ) → Ascending q fixes → x < q → fixup_at fixes x ≡ None
no_fix [] q x asc h = refl
no_fix (fix ∷ others) q x asc h =
    let here : q ≤ fix.offset = asc.0 in
    ap (λ b. option_map fixup_of (cond b (Some fix) (find (λ (f : Fix). f.offset == x) others)))
    (ne_eqb fix.offset x (λ is. omega arith))
    ∙ no_fix others (fix.offset + 1) x asc.1 (omega arith)

-- a place is one of a run
abbrev Stands : ℕ → List (Run ℕ) → Type 0
Stands x [] = ⊥
Stands x (run ∷ others) = ((run.offset ≤ x) × (x < run.offset + length run.items)) ⊎ Stands x others

abbrev AllStand : List Fix → List (Run ℕ) → Type 0
AllStand [] runs = Unit {0}
AllStand (fix ∷ others) runs = Stands fix.offset runs × AllStand others runs

fix_stands :
    (segment : Segment) (runs : List (Run ℕ)) (fix : Fix) → is_in_a_run segment runs fix ≡ true
    → Stands fix.offset runs
fix_stands segment [] fix h = absurd (let bad : false ≡ true = h in cc)
fix_stands segment (run ∷ others) fix h =
    go (is_within (content_of_run segment run) fix) refl h (fix_stands segment others fix)
  where
    go : (b : Bool) → is_within (content_of_run segment run) fix ≡ b
        → (b || is_in_a_run segment others fix) ≡ true
        → (is_in_a_run segment others fix ≡ true → Stands fix.offset others)
        → Stands fix.offset (run ∷ others)
    go true e any later =
        let parts =
        and_parts (nat_le run.offset fix.offset) (nat_le (fix_end fix) (run.offset + length run.items)) e in
        let starts : run.offset ≤ fix.offset = leb-true run.offset fix.offset parts.0 in
        let ends : fix.offset + width_of fix.kind ≤ run.offset + length run.items =
        leb-true (fix_end fix) (run.offset + length run.items) parts.1 in
        let some : 1 ≤ width_of fix.kind = some_width fix.kind in
        inl (starts, omega arith)
    go false e any later = inr (later any)

-- what the list of all fixes says from a place on is what these say
abbrev Sees : List Fix → List Fix → ℕ → Type 0
Sees all fixes p = (x : ℕ) → p ≤ x → fixup_at all x ≡ fixup_at fixes x

-- the fixes of runs
abbrev fixes_again : List Fix → List (Run ℕ) → List Fix
fixes_again all runs = flat_map fixes_of_run (map (fixed_run all) runs)

-- these runs have these fixes
abbrev Has : List Fix → List (Run ℕ) → Type 0
Has all runs =
    (p : ℕ) → From p runs → (fixes : List Fix) → Ascending p fixes → AllStand fixes runs → Sees all fixes p
    → fixes_again all runs ≡ fixes

-- the same, where a run has these items left
abbrev HasLeft : List Fix → List (Run ℕ) → (p : ℕ) → (items : List ℕ) → Type 0
HasLeft all others p items =
    (fixes : List Fix) → Ascending p fixes → AllStand fixes (run_at p items ∷ others) → Sees all fixes p
    → fixes_from p (fixed_bytes all p items) ++ fixes_again all others ≡ fixes

stands_later :
    (x p first : ℕ) (items : List ℕ) (others : List (Run ℕ)) → p + 1 ≤ x
    → Stands x (run_at p (first ∷ items) ∷ others) → Stands x (run_at (p + 1) items ∷ others)
stands_later x p first items others h (inl within) =
    let ends : x < p + length (first ∷ items) = within.1 in inl (h, omega arith)
stands_later x p first items others h (inr later) = inr later

all_stand_later :
    (fixes : List Fix) (p first : ℕ) (items : List ℕ) (others : List (Run ℕ)) → Ascending (p + 1) fixes
    → AllStand fixes (run_at p (first ∷ items) ∷ others) → AllStand fixes (run_at (p + 1) items ∷ others)
all_stand_later [] p first items others asc stand = tt
all_stand_later (fix ∷ fixes) p first items others asc stand =
    let here : p + 1 ≤ fix.offset = asc.0 in (
      stands_later fix.offset p first items others here stand.0,
      all_stand_later fixes p first items others
          (ascending_less (p + 1) (fix.offset + 1) fixes (omega arith) asc.1) stand.1,
    )

stands_past :
    (x p : ℕ) (others : List (Run ℕ)) → Stands x (run_at p [] ∷ others) → Stands x others
stands_past x p others (inl within) =
    let starts : p ≤ x = within.0 in
    let ends : x < p + length {A = ℕ} [] = within.1 in
    absurd (omega arith)
stands_past x p others (inr later) = later

all_stand_past :
    (fixes : List Fix) (p : ℕ) (others : List (Run ℕ)) → AllStand fixes (run_at p [] ∷ others)
    → AllStand fixes others
all_stand_past [] p others stand = tt
all_stand_past (fix ∷ fixes) p others stand =
    (stands_past fix.offset p others stand.0, all_stand_past fixes p others stand.1)

-- one more byte of a run
one_byte :
    (all : List Fix) (others : List (Run ℕ)) (p first : ℕ) (items : List ℕ) → HasLeft all others (p + 1) items
    → HasLeft all others p (first ∷ items)
one_byte all others p first items later [] asc stand sees =
    ap (λ fixup.
    fixes_from p (record { value = first; fixup = fixup } ∷ fixed_bytes all (p + 1) items)
    ++ fixes_again all others)
    (sees p (omega arith))
    ∙ later [] tt tt (λ x le. sees x (omega arith))
one_byte all others p first items later (fix ∷ fixes) asc stand sees = go (fix.offset == p) refl
  where
    go : (b : Bool) → (fix.offset == p) ≡ b
        → fixes_from p (fixed_bytes all p (first ∷ items)) ++ fixes_again all others ≡ fix ∷ fixes
    go true e =
        let here : fix.offset ≡ p = eqb-true fix.offset p e in
        let at_place : fixup_at (fix ∷ fixes) p ≡ Some (fixup_of fix) =
        ap (λ b. option_map fixup_of (cond b (Some fix) (find (λ (f : Fix). f.offset == p) fixes))) e in
        let after : Ascending (p + 1) fixes =
        subst (λ q. Ascending (q + 1) fixes) here asc.1 in
        ap (λ fixup.
        fixes_from p (record { value = first; fixup = fixup } ∷ fixed_bytes all (p + 1) items)
        ++ fixes_again all others) (sees p (omega arith) ∙ at_place)
        ∙ ap (λ rest. record { kind = fix.kind; target = fix.target; offset = p } ∷ rest)
        (later fixes after (all_stand_later fixes p first items others after stand.1)
        (λ x le.
        sees x (omega arith)
        ∙ ap (λ b. option_map fixup_of (cond b (Some fix) (find (λ (f : Fix). f.offset == x) fixes)))
        (ne_eqb fix.offset x (λ is. omega arith))))
        ∙ ap (λ offset. record { kind = fix.kind; target = fix.target; offset = offset } ∷ fixes) (sym here)
    go false e =
        let starts : p ≤ fix.offset = asc.0 in
        let not_here : fix.offset ≢ p = eqb-false fix.offset p e in
        let after : Ascending (p + 1) (fix ∷ fixes) = (omega arith, asc.1) in
        ap (λ fixup.
        fixes_from p (record { value = first; fixup = fixup } ∷ fixed_bytes all (p + 1) items)
        ++ fixes_again all others)
        (sees p (omega arith) ∙ no_fix (fix ∷ fixes) (p + 1) p after (omega arith))
        ∙ later (fix ∷ fixes) after (all_stand_later (fix ∷ fixes) p first items others after stand)
        (λ x le. sees x (omega arith))

beyond_here : (p : ℕ) (runs : List (Run ℕ)) → Beyond p runs → From p runs
beyond_here p [] beyond = tt
beyond_here p (run ∷ others) beyond = let here : p < run.offset = beyond.0 in omega arith

one_run :
    (all : List Fix) (others : List (Run ℕ)) → Has all others → (items : List ℕ) (p : ℕ)
    → Beyond (p + length items) others → HasLeft all others p items
one_run all others has [] p beyond fixes asc stand sees =
    has p (beyond_here p others (beyond_less p (p + length {A = ℕ} []) others (omega arith) beyond)) fixes asc
    (all_stand_past fixes p others stand) sees
one_run all others has (first ∷ items) p beyond fixes asc stand sees =
    one_byte all others p first items
    (one_run all others has items (p + 1)
    (beyond_less (p + 1 + length items) (p + length (first ∷ items)) others (omega arith) beyond))
    fixes asc stand sees

stands_beyond : (x end : ℕ) (runs : List (Run ℕ)) → Beyond end runs → Stands x runs → end < x
stands_beyond x end [] beyond here = absurd here
stands_beyond x end (run ∷ others) beyond (inl within) =
    let starts : run.offset ≤ x = within.0 in let after : end < run.offset = beyond.0 in omega arith
stands_beyond x end (run ∷ others) beyond (inr later) = stands_beyond x end others beyond.1 later

-- a place of runs is not before the first of them
stands_from :
    (x : ℕ) (run : Run ℕ) (others : List (Run ℕ)) → Beyond (run.offset + length run.items) others
    → Stands x (run ∷ others) → run.offset ≤ x
stands_from x run others beyond (inl within) = within.0
stands_from x run others beyond (inr later) =
    let after : run.offset + length run.items < x =
    stands_beyond x (run.offset + length run.items) others beyond later in
    omega arith

starts_later :
    (p : ℕ) (fixes : List Fix) (run : Run ℕ) (others : List (Run ℕ))
    → Beyond (run.offset + length run.items) others → Ascending p fixes → AllStand fixes (run ∷ others)
    → Ascending run.offset fixes
starts_later p [] run others beyond asc stand = tt
starts_later p (fix ∷ fixes) run others beyond asc stand =
    (stands_from fix.offset run others beyond stand.0, asc.1)

has_fixes : (all : List Fix) (size : ℕ) (runs : List (Run ℕ)) → Longest size runs → Has all runs
has_fixes all size [] long p from [] asc stand sees = refl
has_fixes all size [] long p from (fix ∷ fixes) asc stand sees = absurd stand.0
has_fixes all size (run ∷ others) long p from fixes asc stand sees =
    let starts : p ≤ run.offset = from in
    one_run all others (has_fixes all size others long.3) run.items run.offset long.2 fixes
    (starts_later p fixes run others long.2 asc stand) stand (λ x le. sees x (omega arith))

all_stand :
    (segment : Segment) (runs : List (Run ℕ)) (fixes : List Fix)
    → list_all (is_in_a_run segment runs) fixes ≡ true
    → AllStand fixes runs
all_stand segment runs [] h = tt
all_stand segment runs (fix ∷ fixes) h =
    let parts = and_parts (is_in_a_run segment runs fix) (list_all (is_in_a_run segment runs) fixes) h in
    (fix_stands segment runs fix parts.0, all_stand segment runs fixes parts.1)

first_of_all : (fixes : List Fix) → First 0 fixes
first_of_all [] = tt
first_of_all (fix ∷ fixes) = omega arith

-- the fixes of the longest runs of the places of a segment are its fixes
pub stored_fixes :
    (segment : Segment) (stored : StoredSegment) → same_segment segment segment ≡ true
    → IsStored segment stored
    → flat_map fixes_of_run (runs_from 0 (places_stored segment stored).places) ≡ stored.fixes
stored_fixes segment stored same is =
    ap (flat_map fixes_of_run) (stored_runs segment stored same is)
    ∙ has_fixes stored.fixes stored.size stored.runs (longest stored.size stored.runs is.runs) 0
    (from_zero stored.runs) stored.fixes
    (ascending 0 stored.fixes is.ascending (first_of_all stored.fixes))
    (all_stand segment stored.runs stored.fixes is.fixes) (λ x le. refl)
