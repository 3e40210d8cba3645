-- Runs of places that move: each run by itself, its bytes by its fixes one after another.
use Rattle.object_laws.proofs.Prelude.{◌≡◌, ℕ, suc, ◌+◌, ◌-◌, ◌≤◌, Bool, true, false, cond, not, ◌||◌, ◌==◌, List, [], ◌∷◌, ◌++◌, length, map, slice_index, slice_set, Option, Some, None, refl, ap, sym, subst, ◌∙◌, le_refl, arith, AllByRecursion, option_map_or, and_parts, eq-eqb, ne_eqb, Fix, FixKind, Low, High, Both, Target, Fixup, SetByte, begins_word, is_plain, words_are_whole, first_byte_moved, second_byte_moved, value_after, value_moved, byte_moved, moved_after, Run, before_runs, runs_from, fixes_from, run_at, before_fixes, items_moved, run_moved, bytes_fixed, bytes_after, none_either_way, fixes_step}
use Rattle.object_laws.proofs.Merges.Moves.{value_stays}

-- a run begins no earlier than the places do
abbrev pub FirstFrom : {A : Type 0} → (offset : ℕ) → List (Run A) → Type 0
FirstFrom offset [] = Unit {0}
FirstFrom offset (run ∷ others) = offset ≤ run.offset

first_before : {A : Type 0} (offset : ℕ) (item : A) (runs : List (Run A))
    → FirstFrom offset (before_runs offset item runs)
first_before offset item [] = le_refl offset
first_before {A} offset item (next ∷ others) = go (next.offset == offset + 1)
  where
    go : (b : Bool)
        → FirstFrom offset (cond b (run_at offset (item ∷ next.items) ∷ others)
        (run_at offset (item ∷ []) ∷ next ∷ others))
    go true = le_refl offset
    go false = le_refl offset

from_earlier : {A : Type 0} (offset : ℕ) (runs : List (Run A)) → FirstFrom (offset + 1) runs
    → FirstFrom offset runs
from_earlier offset [] h = tt
from_earlier offset (run ∷ others) h = let k : offset + 1 ≤ run.offset = h in omega (arith, k)

pub first_from : {A : Type 0} (offset : ℕ) (places : List (Option A))
    → FirstFrom offset (runs_from offset places)
first_from offset [] = tt
first_from offset (None ∷ others) =
    from_earlier offset (runs_from (offset + 1) others) (first_from (offset + 1) others)
first_from offset (Some item ∷ others) = first_before offset item (runs_from (offset + 1) others)

-- runs that move, of which the first may begin right after a place
abbrev pub first_moved :
    (gain_of : Target → ℕ) → (kept : Target → Option Target) → (before : Option SetByte) → (offset : ℕ)
    → List (Run SetByte) → List (Run SetByte)
first_moved gain_of kept before offset [] = []
first_moved gain_of kept before offset (run ∷ others) =
    run_at run.offset (items_moved gain_of kept (cond (run.offset == offset) before None) run.items)
    ∷ map (run_moved gain_of kept) others

-- nothing is right before
alone :
    (gain_of : Target → ℕ) (kept : Target → Option Target) (offset : ℕ) (runs : List (Run SetByte))
    → first_moved gain_of kept None offset runs ≡ map (run_moved gain_of kept) runs
alone gain_of kept offset [] = refl
alone gain_of kept offset (run ∷ others) =
    ap (λ (b : Option SetByte).
    (run_at run.offset (items_moved gain_of kept b run.items)) ∷ map (run_moved gain_of kept) others)
    (none_either_way (run.offset == offset))

not_first :
    (gain_of : Target → ℕ) (kept : Target → Option Target) (before : Option SetByte) (offset : ℕ)
    (runs : List (Run SetByte)) → FirstFrom (offset + 1) runs
    → map (run_moved gain_of kept) runs ≡ first_moved gain_of kept before offset runs
not_first gain_of kept before offset [] h = refl
not_first gain_of kept before offset (run ∷ others) h =
    let k : offset + 1 ≤ run.offset = h in
    ap (λ (b : Bool).
    (run_at run.offset (items_moved gain_of kept (cond b before None) run.items))
    ∷ map (run_moved gain_of kept) others)
    (sym (ne_eqb run.offset offset (λ e. absurd (omega (arith, k, e)))))

item_first :
    (gain_of : Target → ℕ) (kept : Target → Option Target) (before : Option SetByte)
    (offset : ℕ) (here : SetByte)
    (runs : List (Run SetByte))
    → before_runs offset (byte_moved gain_of kept before here)
    (first_moved gain_of kept (Some here) (offset + 1) runs)
    ≡ first_moved gain_of kept before offset (before_runs offset here runs)
item_first gain_of kept before offset here [] =
    ap (λ (b : Bool).
    (run_at offset (items_moved gain_of kept (cond b before None) (here ∷ []))) ∷ [])
    (sym (eq-eqb offset offset refl))
item_first gain_of kept before offset here (next ∷ others) =
    go (next.offset == offset + 1)
  where
    go : (b : Bool)
        → cond b
        (run_at offset (byte_moved gain_of kept before here
        ∷ items_moved gain_of kept (cond b (Some here) None) next.items)
        ∷ map (run_moved gain_of kept) others)
        (run_at offset (byte_moved gain_of kept before here ∷ [])
        ∷ (run_at next.offset (items_moved gain_of kept (cond b (Some here) None) next.items))
        ∷ map (run_moved gain_of kept) others)
        ≡ first_moved gain_of kept before offset
        (cond b (run_at offset (here ∷ next.items) ∷ others)
        (run_at offset (here ∷ []) ∷ next ∷ others))
    go true =
        ap (λ (c : Bool).
        (run_at offset (items_moved gain_of kept (cond c before None) (here ∷ next.items)))
        ∷ map (run_moved gain_of kept) others)
        (sym (eq-eqb offset offset refl))
    go false =
        ap (λ (c : Bool).
        (run_at offset (items_moved gain_of kept (cond c before None) (here ∷ [])))
        ∷ map (run_moved gain_of kept) (next ∷ others))
        (sym (eq-eqb offset offset refl))

moved_runs_after :
    (gain_of : Target → ℕ) (kept : Target → Option Target) (before : Option SetByte) (offset : ℕ)
    (places : List (Option SetByte))
    → runs_from offset (moved_after gain_of kept before places)
    ≡ first_moved gain_of kept before offset (runs_from offset places)
moved_runs_after gain_of kept before offset [] = refl
moved_runs_after gain_of kept before offset (None ∷ others) =
    moved_runs_after gain_of kept None (offset + 1) others
    ∙ alone gain_of kept (offset + 1) (runs_from (offset + 1) others)
    ∙ not_first gain_of kept before offset (runs_from (offset + 1) others) (first_from (offset + 1) others)
moved_runs_after gain_of kept before offset (Some here ∷ others) =
    ap (before_runs offset (byte_moved gain_of kept before here))
    (moved_runs_after gain_of kept (Some here) (offset + 1) others)
    ∙ item_first gain_of kept before offset here (runs_from (offset + 1) others)

-- the runs of places that move are their runs, each moved
pub moved_runs :
    (gain_of : Target → ℕ) (kept : Target → Option Target) (offset : ℕ) (places : List (Option SetByte))
    → runs_from offset (moved_after gain_of kept None places)
    ≡ map (run_moved gain_of kept) (runs_from offset places)
moved_runs gain_of kept offset places =
    moved_runs_after gain_of kept None offset places ∙ alone gain_of kept offset (runs_from offset places)

-- Bytes by fixes.
before_later :
    (low offset : ℕ) (fixup : Option Fixup) (fixes : List Fix) → low ≤ offset
    → AllByRecursion (λ (fix : Fix). low ≤ fix.offset) fixes
    → AllByRecursion (λ (fix : Fix). low ≤ fix.offset) (before_fixes offset fixup fixes)
before_later low offset None fixes h all = all
before_later low offset (Some fixup) fixes h all = (h, all)

later_by_step :
    (low offset : ℕ) (here : SetByte) (others : List SetByte)
    → AllByRecursion (λ (fix : Fix). low ≤ fix.offset)
    (before_fixes offset here.fixup (fixes_from (offset + 1) others))
    → AllByRecursion (λ (fix : Fix). low ≤ fix.offset) (fixes_from offset (here ∷ others))
later_by_step low offset here others all =
    subst (AllByRecursion (λ (fix : Fix). low ≤ fix.offset))
    (sym (fixes_step offset here.value here.fixup others)) all

pub fixes_later :
    (low offset : ℕ) (items : List SetByte) → low ≤ offset
    → AllByRecursion (λ (fix : Fix). low ≤ fix.offset) (fixes_from offset items)
fixes_later low offset [] h = tt
fixes_later low offset (here ∷ others) h =
    later_by_step low offset here others
    (before_later low offset here.fixup (fixes_from (offset + 1) others) h
    (fixes_later low (offset + 1) others (omega arith)))

fixed_later :
    (kind : FixKind) (index gain x : ℕ) (bytes : List ℕ)
    → bytes_fixed kind (suc index) gain (x ∷ bytes) ≡ x ∷ bytes_fixed kind index gain bytes
fixed_later Low index gain x bytes = refl
fixed_later High index gain x bytes = refl
fixed_later Both index gain x bytes =
    let same : suc index + 1 ≡ suc (index + 1) = omega arith in
    ap (λ i.
    slice_set (slice_set (x ∷ bytes) (suc index) (first_byte_moved Both (slice_index bytes index) gain)) i
    (second_byte_moved (slice_index bytes index) (slice_index (x ∷ bytes) i) gain)) same

after_first :
    (gain_of : Target → ℕ) (offset x : ℕ) (fixes : List Fix) (bytes : List ℕ)
    → AllByRecursion (λ (fix : Fix). offset + 1 ≤ fix.offset) fixes
    → bytes_after gain_of offset fixes (x ∷ bytes) ≡ x ∷ bytes_after gain_of (offset + 1) fixes bytes
after_first gain_of offset x [] bytes all = refl
after_first gain_of offset x (fix ∷ others) bytes all =
    let h : offset + 1 ≤ fix.offset = all.0 in
    let same : fix.offset - offset ≡ suc (fix.offset - (offset + 1)) = omega arith in
    ap (λ i. bytes_after gain_of offset others (bytes_fixed fix.kind i (gain_of fix.target) (x ∷ bytes))) same
    ∙ ap (bytes_after gain_of offset others)
    (fixed_later fix.kind (fix.offset - (offset + 1)) (gain_of fix.target) x bytes)
    ∙ after_first gain_of offset x others
    (bytes_fixed fix.kind (fix.offset - (offset + 1)) (gain_of fix.target) bytes) all.1

-- the values of items after one, before their fixes are applied: the first may be the second of a word
abbrev pub values_next : (gain_of : Target → ℕ) → (here : SetByte) → List SetByte → List ℕ
values_next gain_of here [] = []
values_next gain_of here (next ∷ others) =
    value_after gain_of (Some here) next.value ∷ map (λ (item : SetByte). item.value) others

-- items at places one after another
abbrev pub row_of : List SetByte → List (Option SetByte)
row_of items = map Some items

abbrev pub values_of : List SetByte → List ℕ
values_of items = map (λ (item : SetByte). item.value) items

next_plain :
    (gain_of : Target → ℕ) (value : ℕ) (others : List SetByte)
    → values_of others ≡ values_next gain_of (record { value = value; fixup = None }) others
next_plain gain_of value [] = refl
next_plain gain_of value (next ∷ others) = refl

next_low :
    (gain_of : Target → ℕ) (value : ℕ) (target : Target) (others : List SetByte)
    → values_of others
    ≡ values_next gain_of (record { value = value; fixup = Some (record { kind = Low; target = target }) })
    others
next_low gain_of value target [] = refl
next_low gain_of value target (next ∷ others) = refl

next_high :
    (gain_of : Target → ℕ) (value : ℕ) (target : Target) (others : List SetByte)
    → values_of others
    ≡ values_next gain_of (record { value = value; fixup = Some (record { kind = High; target = target }) })
    others
next_high gain_of value target [] = refl
next_high gain_of value target (next ∷ others) = refl

not_word : (before : Option SetByte) (fixup : Fixup) → (begins_word before ≡ true → Some fixup ≡ None)
    → begins_word before ≡ false
not_word before fixup h = go (begins_word before) refl
  where
    go : (b : Bool) → begins_word before ≡ b → b ≡ false
    go true e = absurd (let bad : Some fixup ≡ None = h e in cc)
    go false e = refl

-- the first item of a kind, and the others as they come out
first_fixed :
    (gain_of : Target → ℕ) (before : Option SetByte) (offset value : ℕ) (kind : FixKind) (target : Target)
    (others : List SetByte) (rest : List ℕ)
    → begins_word before ≡ false
    → bytes_fixed kind 0 (gain_of target) (value ∷ values_of others)
    ≡ first_byte_moved kind value (gain_of target)
    ∷ values_next gain_of (record { value = value; fixup = Some (record { kind = kind; target = target }) })
    others
    → bytes_after gain_of (offset + 1) (fixes_from (offset + 1) others)
    (values_next gain_of (record { value = value; fixup = Some (record { kind = kind; target = target }) })
    others)
    ≡ rest
    → bytes_after gain_of offset
    (fixes_from offset (record { value = value; fixup = Some (record { kind = kind; target = target }) }
    ∷ others))
    (value_after gain_of before value ∷ values_of others)
    ≡ first_byte_moved kind value (gain_of target) ∷ rest
first_fixed gain_of before offset value kind target others rest alone fixed later =
    let here : SetByte = record { value = value; fixup = Some (record { kind = kind; target = target }) } in
    let fixes : List Fix = fixes_from (offset + 1) others in
    let none : offset - offset ≡ 0 = omega arith in
    ap (λ v.
    bytes_after gain_of offset fixes
    (bytes_fixed kind (offset - offset) (gain_of target) (v ∷ values_of others)))
    (value_stays gain_of before value alone)
    ∙ ap (λ i. bytes_after gain_of offset fixes
    (bytes_fixed kind i (gain_of target) (value ∷ values_of others))) none
    ∙ ap (bytes_after gain_of offset fixes) fixed
    ∙ after_first gain_of offset (first_byte_moved kind value (gain_of target)) fixes
    (values_next gain_of here others)
    (fixes_later (offset + 1) (offset + 1) others (omega arith))
    ∙ ap (λ r. first_byte_moved kind value (gain_of target) ∷ r) later

by_kind :
    (gain_of : Target → ℕ) (value : ℕ) (kind : FixKind) (target : Target) (others : List SetByte)
    → words_are_whole
    (row_of (record { value = value; fixup = Some (record { kind = kind; target = target }) } ∷ others))
    ≡ true
    → bytes_fixed kind 0 (gain_of target) (value ∷ values_of others)
    ≡ first_byte_moved kind value (gain_of target)
    ∷ values_next gain_of (record { value = value; fixup = Some (record { kind = kind; target = target }) })
    others
by_kind gain_of value Low target others whole =
    ap (λ r. first_byte_moved Low value (gain_of target) ∷ r) (next_low gain_of value target others)
by_kind gain_of value High target others whole =
    ap (λ r. first_byte_moved High value (gain_of target) ∷ r) (next_high gain_of value target others)
by_kind gain_of value Both target [] whole = absurd (let bad : false ≡ true = whole in cc)
by_kind gain_of value Both target (next ∷ others) whole = refl

item_fixed :
    (gain_of : Target → ℕ) (before : Option SetByte) (offset value : ℕ) (fixup : Option Fixup)
    (others : List SetByte) (rest : List ℕ)
    → (begins_word before ≡ true → fixup ≡ None)
    → words_are_whole (row_of (record { value = value; fixup = fixup } ∷ others)) ≡ true
    → bytes_after gain_of (offset + 1) (fixes_from (offset + 1) others)
    (values_next gain_of (record { value = value; fixup = fixup }) others)
    ≡ rest
    → bytes_after gain_of offset (fixes_from offset (record { value = value; fixup = fixup } ∷ others))
    (value_after gain_of before value ∷ values_of others)
    ≡ value_moved gain_of before (record { value = value; fixup = fixup }) ∷ rest
item_fixed gain_of before offset value None others rest alone whole later =
    ap (λ r. bytes_after gain_of offset (fixes_from (offset + 1) others)
    (value_after gain_of before value ∷ r))
    (next_plain gain_of value others)
    ∙ after_first gain_of offset (value_after gain_of before value) (fixes_from (offset + 1) others)
    (values_next gain_of (record { value = value; fixup = None }) others)
    (fixes_later (offset + 1) (offset + 1) others (omega arith))
    ∙ ap (λ r. value_after gain_of before value ∷ r) later
item_fixed gain_of before offset value (Some fixup) others rest alone whole later =
    first_fixed gain_of before offset value fixup.kind fixup.target others rest (not_word before fixup alone)
    (by_kind gain_of value fixup.kind fixup.target others whole) later

plain_is : (fixup : Option Fixup) → option_map_or (λ (f : Fixup). false) fixup true ≡ true → fixup ≡ None
plain_is None h = refl
plain_is (Some fixup) h = absurd (let bad : false ≡ true = h in cc)

word_then_plain :
    (here next : SetByte) → (not (begins_word (Some here)) || is_plain (Some next)) ≡ true
    → begins_word (Some here) ≡ true → next.fixup ≡ None
word_then_plain here next h k =
    plain_is next.fixup (sym (ap (λ t. not t || is_plain (Some next)) k) ∙ h)

-- the bytes of items that move are their bytes after their fixes, one after another
bytes_moved_after :
    (gain_of : Target → ℕ) (kept : Target → Option Target) (before : Option SetByte)
    (offset : ℕ) (here : SetByte)
    (others : List SetByte)
    → (begins_word before ≡ true → here.fixup ≡ None) → words_are_whole (row_of (here ∷ others)) ≡ true
    → bytes_after gain_of offset (fixes_from offset (here ∷ others))
    (value_after gain_of before here.value ∷ values_of others)
    ≡ values_of (items_moved gain_of kept before (here ∷ others))
bytes_moved_after gain_of kept before offset here [] alone whole =
    item_fixed gain_of before offset here.value here.fixup [] [] alone whole refl
bytes_moved_after gain_of kept before offset here (next ∷ others) alone whole =
    let cut = and_parts (not (begins_word (Some here)) || is_plain (Some next))
    (words_are_whole (row_of (next ∷ others))) whole in
    item_fixed gain_of before offset here.value here.fixup (next ∷ others)
    (values_of (items_moved gain_of kept (Some here) (next ∷ others))) alone whole
    (bytes_moved_after gain_of kept (Some here) (offset + 1) next others
    (word_then_plain here next cut.0) cut.1)

pub bytes_moved :
    (gain_of : Target → ℕ) (kept : Target → Option Target) (offset : ℕ) (items : List SetByte)
    → words_are_whole (row_of items) ≡ true
    → bytes_after gain_of offset (fixes_from offset items) (values_of items)
    ≡ values_of (items_moved gain_of kept None items)
bytes_moved gain_of kept offset [] whole = refl
bytes_moved gain_of kept offset (here ∷ others) whole =
    bytes_moved_after gain_of kept None offset here others
    (λ h. absurd (let bad : false ≡ true = h in cc)) whole

-- bytes after others: only they change
pub fixed_after :
    (kind : FixKind) (index gain : ℕ) (before bytes : List ℕ)
    → bytes_fixed kind (length before + index) gain (before ++ bytes)
    ≡ before ++ bytes_fixed kind index gain bytes
fixed_after kind index gain [] bytes =
    let same : 0 + index ≡ index = omega arith in ap (λ i. bytes_fixed kind i gain bytes) same
fixed_after kind index gain (x ∷ others) bytes =
    let same : suc (length others) + index ≡ suc (length others + index) = omega arith in
    ap (λ i. bytes_fixed kind i gain (x ∷ others ++ bytes)) same
    ∙ fixed_later kind (length others + index) gain x (others ++ bytes)
    ∙ ap (λ r. x ∷ r) (fixed_after kind index gain others bytes)
