-- The runs of a module with their fixes: each fix lies within the run that it begins in.
use Rattle.link_laws.proofs.Prelude.{◌≡◌, ℕ, suc, ◌+◌, ◌<◌, ◌≤◌, Bool, true, false, not, ◌&&◌, ◌||◌, nat_lt, nat_le, List, [], ◌∷◌, length, map, flat_map, Option, None, Some, IsTrue, refl, ap, sym, subst, ◌∙◌, arith, AllByRecursion, and_parts, leb-true, ltb-true, length-map, Fix, FixKind, Low, High, Both, Segment, Absolute, Code, Data, Stack, Target, is_empty, Fixup, SetByte, ObjectModule, IsObjectModule, begins_word, is_plain, words_are_whole, places_of, width_of, fix_end, bytes_of_run, fixes_of_run, fixes_in, runs_of, are_longest, Run, runs_from, fixes_from, before_fixes, run_end, fixes_step, places_are, Apart, AllBelow, AllPast, below_first, past_others, runs_apart, AllFrom, fixes_later, row_of, values_of, AreWithin, HaveTheirFixes, past_append, some_width}

-- fixes after the first place are within what begins one place before
within_earlier :
    (offset size : ℕ) (fixes : List Fix) → AreWithin (offset + 1) size fixes
    → AreWithin offset (suc size) fixes
within_earlier offset size [] all = tt
within_earlier offset size (fix ∷ others) all =
    let low : offset + 1 ≤ fix.offset = (all.0).0 in
    let high : fix_end fix ≤ (offset + 1) + size = (all.0).1 in
    ((omega (arith, low), omega (arith, high)), within_earlier offset size others all.1)

word_room :
    (here : SetByte) (others : List SetByte) → words_are_whole (row_of (here ∷ others)) ≡ true
    → begins_word (Some here) ≡ true → 0 < length others
word_room here [] whole begins =
    absurd (let bad : false ≡ true =
    sym (ap (λ b. (not b || false) && true) begins) ∙ whole in cc)
word_room here (next ∷ others) whole begins = omega arith

before_within :
    (offset value : ℕ) (fixup : Option Fixup) (others : List SetByte) (fixes : List Fix)
    → words_are_whole (row_of (record { value = value; fixup = fixup } ∷ others)) ≡ true
    → AreWithin offset (suc (length others)) fixes
    → AreWithin offset (suc (length others)) (before_fixes offset fixup fixes)
before_within offset value None others fixes whole all = all
before_within offset value (Some fixup) others fixes whole all =
    ((omega arith, go fixup.kind fixup.target whole), all)
  where
    go : (kind : FixKind) (target : Target)
        → words_are_whole
        (row_of (record { value = value; fixup = Some (record { kind = kind; target = target }) } ∷ others))
        ≡ true
        → offset + width_of kind ≤ offset + suc (length others)
    go Low target w = omega arith
    go High target w = omega arith
    go Both target w =
        let room : 0 < length others =
        word_room (record { value = value; fixup = Some (record { kind = Both; target = target }) }) others w
        refl in
        omega (arith, room)

later_whole :
    (here : SetByte) (others : List SetByte) → words_are_whole (row_of (here ∷ others)) ≡ true
    → words_are_whole (row_of others) ≡ true
later_whole here [] whole = refl
later_whole here (next ∷ others) whole =
    (and_parts (not (begins_word (Some here)) || is_plain (Some next))
    (words_are_whole (row_of (next ∷ others))) whole).1

items_within :
    (offset : ℕ) (items : List SetByte) → words_are_whole (row_of items) ≡ true
    → AreWithin offset (length items) (fixes_from offset items)
items_within offset [] whole = tt
items_within offset (here ∷ others) whole =
    subst (AreWithin offset (suc (length others))) (sym (fixes_step offset here.value here.fixup others))
    (before_within offset here.value here.fixup others (fixes_from (offset + 1) others) whole
    (within_earlier offset (length others) (fixes_from (offset + 1) others)
    (items_within (offset + 1) others (later_whole here others whole))))

within_below : (offset size : ℕ) (fixes : List Fix) → AreWithin offset size fixes
    → AllBelow (offset + size) fixes
within_below offset size [] all = tt
within_below offset size (fix ∷ others) all =
    let high : fix_end fix ≤ offset + size = (all.0).1 in
    let some : 1 ≤ width_of fix.kind = some_width fix.kind in
    (omega (arith, high, some), within_below offset size others all.1)

past_runs : (end : ℕ) (runs : List (Run SetByte)) → AllFrom end runs
    → AllPast end (flat_map fixes_of_run runs)
past_runs end [] all = tt
past_runs end (run ∷ others) all =
    past_append end (fixes_from run.offset run.items) (flat_map fixes_of_run others)
    (fixes_later end run.offset run.items all.0) (past_runs end others all.1)

-- runs that have bytes and end within a size
abbrev AllEnd : (size : ℕ) → List (Run ℕ) → Type 0
AllEnd size runs =
    AllByRecursion (λ (run : Run ℕ). (run_end run ≤ size) × (is_empty run.items ≡ false)) runs

first_ends : (size : ℕ) (run : Run ℕ) (others : List (Run ℕ)) → AllEnd size (run ∷ others)
    → run_end run ≤ size
first_ends size run others all = (all.0).0

has_bytes : (empty : Bool) → not empty ≡ true → empty ≡ false
has_bytes true h = absurd (let bad : false ≡ true = h in cc)
has_bytes false h = refl

longest_end : (size : ℕ) (runs : List (Run ℕ)) → are_longest size runs ≡ true → AllEnd size runs
longest_end size [] h = tt
longest_end size (run ∷ []) h =
    let cut = and_parts (not (is_empty run.items)) (nat_le (run_end run) size) h in
    ((leb-true (run_end run) size cut.1, has_bytes (is_empty run.items) cut.0), tt)
longest_end size (run ∷ next ∷ others) h =
    let cut = and_parts (not (is_empty run.items) && nat_lt (run_end run) next.offset)
    (are_longest size (next ∷ others)) h in
    let here = and_parts (not (is_empty run.items)) (nat_lt (run_end run) next.offset) cut.0 in
    let later : AllEnd size (next ∷ others) = longest_end size (next ∷ others) cut.1 in
    let gap : run_end run < next.offset = ltb-true (run_end run) next.offset here.1 in
    let end : run_end next ≤ size = first_ends size next others later in
    ((omega (arith, gap, end), has_bytes (is_empty run.items) here.0), later)

have_fixes :
    (size : ℕ) (runs : List (Run SetByte)) → Apart runs → AllEnd size (map bytes_of_run runs)
    → HaveTheirFixes size (flat_map fixes_of_run runs) (map bytes_of_run runs)
have_fixes size [] apart ends = refl
have_fixes size (run ∷ others) apart ends =
    let own : List Fix = fixes_from run.offset run.items in
    let later : List Fix = flat_map fixes_of_run others in
    let end : ℕ = run_end (bytes_of_run run) in
    let long : length (values_of run.items) ≡ length run.items =
    length-map run.items (λ (item : SetByte). item.value) in
    let same : run.offset + length run.items ≡ end = ap (λ n. run.offset + n) (sym long) in
    let within : AreWithin run.offset (length run.items) own = items_within run.offset run.items apart.0 in
    let below : AllBelow end own =
    subst (λ n. AllBelow n own) same (within_below run.offset (length run.items) own within) in
    let past : AllPast end later =
    past_runs end others (subst (λ n. AllFrom n others) same apart.1) in (
      (ends.0).0,
      (ends.0).1,
      subst (AreWithin run.offset (length (values_of run.items))) (sym (below_first end own later below past))
          (subst (λ n. AreWithin run.offset n own) (sym long) within),
      subst (λ f. HaveTheirFixes size f (map bytes_of_run others))
          (sym (past_others end own later below past))
          (have_fixes size others apart.2 ends.1),
    )

-- no word of a valid module is cut
pub whole_places :
    (object : ObjectModule) (segment : Segment) → IsObjectModule object
    → words_are_whole (places_of object segment) ≡ true
whole_places object Absolute valid = refl
whole_places object Code valid = (places_are (length object.externals) object.code valid.code).whole
whole_places object Data valid =
    (places_are (length object.externals) object.data_places valid.data_places).whole
whole_places object Stack valid = refl

-- the runs of a module that is valid have their fixes
pub runs_have_fixes :
    (object : ObjectModule) (segment : Segment) (size : ℕ) (runs : List (Run ℕ)) (fixes : List Fix)
    → IsObjectModule object → runs ≡ runs_of object segment → fixes ≡ fixes_in object segment
    → IsTrue (are_longest size runs) → HaveTheirFixes size fixes runs
unfolding runs_of fixes_in
runs_have_fixes object segment size runs fixes valid made of_these longest =
    subst (λ f. HaveTheirFixes size f runs) (sym of_these)
    (subst (HaveTheirFixes size (flat_map fixes_of_run (runs_from 0 (places_of object segment)))) (sym made)
    (have_fixes size (runs_from 0 (places_of object segment))
    (runs_apart 0 (places_of object segment) (whole_places object segment valid))
    (subst (AllEnd size) made (longest_end size runs longest))))
