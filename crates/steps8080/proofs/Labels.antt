-- Labels of code with flags of their places, and the code that changes them.
use Rattle.steps8080.proofs.Prelude.{◌≡◌, ◌==◌, ℕ, zero, suc, ◌+◌, ◌-◌, ◌<◌, ◌≤◌, Bool, true, false, not, List, [], ◌∷◌, ◌++◌, length, map, replicate, set, take, IsTrue, slice_index_or, Option, Some, None, if◌then◌else◌, unwrap_or, refl, sym, subst, ap, ◌∙◌, arith, ◌≢◌, ◌⊎◌, inl, inr, length-set, lt-ltb, list_any-append, Assembly, KeepsMarks, is_bound, marks, known_label, or_from, not_equal}
use Rattle.asm8080.specs.Items.{BindsSame, BindsSameBut}
use Rattle.runtime8080.specs.{declared.routine.Routine.{Routine}, internal.Routines.{AddsRoutine}}
use Rattle.steps8080.specs.internal.Externals.{Extends, entry}
use Rattle.steps8080.specs.internal.Labels.{AreKept, AreOfCode}
use Rattle.steps8080.proofs.Numbered.{different_set, entry_of_set, nothing_there}

-- no labels
pub none_kept : (code : Assembly) → AreKept [] [] code
none_kept code = record {
  of_code = λ number label given. let bad : None ≡ Some label = given in cc;
  different = λ number other label given same. let bad : None ≡ Some label = given in cc;
  marked = λ number label given off. let bad : None ≡ Some label = given in cc;
  long = omega arith;
}

-- the same code
pub unchanged : (labels : List (Option ℕ)) (flags : List Bool) (before after : Assembly)
    → AreKept labels flags before
    → after ≡ before
    → AreKept labels flags after
unchanged labels flags before after kept same = subst (AreKept labels flags) (sym same) kept

-- code that is longer, and has no further label with a place
pub kept_by : (labels : List (Option ℕ)) (flags : List Bool) (before after : Assembly)
    → AreKept labels flags before
    → BindsSame before.items after.items
    → after.labels ≡ before.labels
    → AreKept labels flags after
kept_by labels flags before after kept same count = record {
  of_code = λ number label given.
      let low : label < before.labels = kept.of_code number label given in omega (arith, low, count);
  different = kept.different;
  marked = λ number label given off. same label ∙ kept.marked number label given off;
  long = kept.long;
}

-- an entry of a table that is there
entry_low : (labels : List (Option ℕ)) (number label : ℕ) → entry labels number ≡ Some label
    → number < length labels
entry_low [] number label given = let bad : None ≡ Some label = given in cc
entry_low (first ∷ others) zero label given = omega arith
entry_low (first ∷ others) (suc number) label given =
    let low : number < length others = entry_low others number label given in omega (arith, low)

-- flags that are cut or extended to a length
all_clear : (count number : ℕ) → slice_index_or (replicate count false) number false ≡ false
all_clear zero number = refl
all_clear (suc count) zero = refl
all_clear (suc count) (suc number) = all_clear count number

cut_same : (flags : List Bool) (size count number : ℕ)
    → number < size
    → slice_index_or (take size flags ++ replicate count false) number false
    ≡ slice_index_or flags number false
cut_same flags zero count number low = absurd (omega (arith, low))
cut_same [] (suc size) count number low = all_clear count number
cut_same (flag ∷ others) (suc size) count zero low = refl
cut_same (flag ∷ others) (suc size) count (suc number) low =
    cut_same others size count number (omega (arith, low))

-- no flag is set by that
pub all_off : (count number : ℕ) → slice_index_or (replicate count false) number false ≡ true → ⊥
all_off count number given = let no : false ≡ true = sym (all_clear count number) ∙ given in cc

cut_kept : (flags : List Bool) (size count number : ℕ)
    → slice_index_or (take size flags ++ replicate count false) number false ≡ true
    → slice_index_or flags number false ≡ true
cut_kept flags zero count number given = absurd (all_off count number given)
cut_kept [] (suc size) count number given = absurd (all_off count number given)
cut_kept (flag ∷ others) (suc size) count zero given = given
cut_kept (flag ∷ others) (suc size) count (suc number) given = cut_kept others size count number given

pub flags_cut : (flags more : List Bool) (size count : ℕ)
    → more ≡ take size flags ++ replicate count false
    → KeepsMarks flags more
flags_cut flags more size count same label given =
    cut_kept flags size count label (ap (λ table. slice_index_or table label false) (sym same) ∙ given)

-- a flag that is read and set
pub flag_there : (flags : List Bool) (index : ℕ) (found : Bool)
    → found ≡ slice_index_or flags index found
    → found ≡ true
    → index < length flags
    → slice_index_or flags index false ≡ true
flag_there [] index found same is low = absurd (omega (arith, low))
flag_there (flag ∷ others) zero found same is low = sym same ∙ is
flag_there (flag ∷ others) (suc index) found same is low =
    flag_there others index found same is (omega (arith, low))

-- the flag of one label is set
pub one_flag_set : (flags : List Bool) (index other : ℕ)
    → slice_index_or (set flags index true) other false ≡ true
    → (slice_index_or flags other false ≡ true) ⊎ (other ≡ index)
one_flag_set [] index other given = inl given
one_flag_set (flag ∷ others) zero zero given = inr refl
one_flag_set (flag ∷ others) zero (suc other) given = inl given
one_flag_set (flag ∷ others) (suc index) zero given = inl given
one_flag_set (flag ∷ others) (suc index) (suc other) given =
    elim (one_flag_set others index other given) [ inl old ↦ inl old | inr same ↦ inr (ap suc same) ]

pub flags_resized : (labels : List (Option ℕ)) (flags more : List Bool) (code : Assembly)
    (size count newsize : ℕ)
    → AreKept labels flags code
    → length labels ≤ size
    → more ≡ take size flags ++ replicate count false
    → newsize ≡ length more
    → newsize ≡ size
    → AreKept labels more code
flags_resized labels flags more code size count newsize kept least same newsized sized = record {
  of_code = kept.of_code;
  different = kept.different;
  marked = λ number label given off.
      let low : number < length labels = entry_low labels number label given in
      kept.marked number label given
      (sym (cut_same flags size count number (omega (arith, low, least)))
      ∙ ap (λ table. slice_index_or table number false) (sym same) ∙ off);
  long = omega (arith, least, newsized, sized);
}

-- a table that is extended to a length, and has no further labels
pub entry_of_longer : (labels : List (Option ℕ)) (size count number label : ℕ)
    → length labels ≤ size
    → entry (take size labels ++ replicate count None) number ≡ Some label
    → entry labels number ≡ Some label
entry_of_longer [] zero count number label least given = absurd (nothing_there count number label given)
entry_of_longer [] (suc size) count number label least given = absurd (nothing_there count number label given)
entry_of_longer (first ∷ others) zero count number label least given = absurd (omega (arith, least))
entry_of_longer (first ∷ others) (suc size) count zero label least given = given
entry_of_longer (first ∷ others) (suc size) count (suc number) label least given =
    entry_of_longer others size count number label (omega (arith, least)) given

entry_in_longer : (labels : List (Option ℕ)) (size count number label : ℕ)
    → length labels ≤ size
    → entry labels number ≡ Some label
    → entry (take size labels ++ replicate count None) number ≡ Some label
entry_in_longer [] size count number label least given = let bad : None ≡ Some label = given in cc
entry_in_longer (first ∷ others) zero count number label least given = absurd (omega (arith, least))
entry_in_longer (first ∷ others) (suc size) count zero label least given = given
entry_in_longer (first ∷ others) (suc size) count (suc number) label least given =
    entry_in_longer others size count number label (omega (arith, least)) given

pub table_extends : (labels more : List (Option ℕ)) (size count : ℕ)
    → length labels ≤ size
    → more ≡ take size labels ++ replicate count None
    → Extends labels more
table_extends labels more size count least same number label given =
    ap (λ table. entry table number) same ∙ entry_in_longer labels size count number label least given

pub table_resized : (labels more : List (Option ℕ)) (flags : List Bool) (code : Assembly)
    (size count newsize : ℕ)
    → AreKept labels flags code
    → length labels ≤ size
    → more ≡ take size labels ++ replicate count None
    → newsize ≡ length more
    → newsize ≤ length flags
    → AreKept more flags code
table_resized labels more flags code size count newsize kept least same newsized long = record {
  of_code = λ number label given. kept.of_code number label (back number label given);
  different = λ number other label given also.
      kept.different number other label (back number label given) (back other label also);
  marked = λ number label given off. kept.marked number label (back number label given) off;
  long = omega (arith, newsized, long);
}
  where
    back : (number label : ℕ) → entry more number ≡ Some label → entry labels number ≡ Some label
    back number label given =
        entry_of_longer labels size count number label least
        (ap (λ table. entry table number) (sym same) ∙ given)

-- a table with a label that is new
pub label_made : (labels : List (Option ℕ)) (flags : List Bool) (before after : Assembly) (index label : ℕ)
    → AreKept labels flags before
    → label ≡ before.labels
    → is_bound label before.items ≡ false
    → after ≡ record before { labels = before.labels + 1 }
    → AreKept (set labels index (Some label)) flags after
label_made labels flags before after index label kept is free more =
    subst (AreKept (set labels index (Some label)) flags) (sym more) (record {
      of_code = λ number found given. elim (entry_of_set labels index label number found given) [
        | inl old ↦ let low : found < before.labels = kept.of_code number found old in omega (arith, low)
        | inr new ↦ let same : found ≡ label = new.1 in omega (arith, same, is)
      ];
      different = different_set labels index label kept.different (λ number old.
          let low : label < before.labels = kept.of_code number label old in omega (arith, low, is));
      marked = λ number found given off. elim (entry_of_set labels index label number found given) [
        | inl old ↦ kept.marked number found old off
        | inr new ↦ ap (λ one. is_bound one before.items) new.1 ∙ free
      ];
      long = let long : length labels ≤ length flags = kept.long in
          subst (λ count. count ≤ length flags) (sym (length-set labels index (Some label))) long;
    })

-- a label gets its place, and its flag is set
set_off : (flags : List Bool) (index number : ℕ)
    → index < length flags
    → slice_index_or (set flags index true) number false ≡ false
    → (number ≢ index) × (slice_index_or flags number false ≡ false)
set_off [] index number low off = absurd (omega (arith, low))
set_off (flag ∷ others) zero zero low off = let bad : true ≡ false = off in cc
set_off (flag ∷ others) zero (suc number) low off = (λ same. omega (arith, same), off)
set_off (flag ∷ others) (suc index) zero low off = (λ same. omega (arith, same), off)
set_off (flag ∷ others) (suc index) (suc number) low off =
    let rest = set_off others index number (omega (arith, low)) off in
    (λ same. rest.0 (omega (arith, same)), rest.1)

pub label_placed : (labels : List (Option ℕ)) (flags : List Bool) (before after : Assembly) (index label : ℕ)
    → AreKept labels flags before
    → entry labels index ≡ Some label
    → BindsSameBut label before.items after.items
    → after.labels ≡ before.labels
    → AreKept labels (set flags index true) after
label_placed labels flags before after index label kept at others count = record {
  of_code = λ number found given.
      let low : found < before.labels = kept.of_code number found given in omega (arith, low, count);
  different = kept.different;
  marked = λ number found given off.
      let old = set_off flags index number inside off in
      let other : found ≢ label = λ same.
      old.0 (kept.different number index found given (at ∙ ap (λ one. Some one) (sym same))) in
      others found (not_equal found label other) ∙ kept.marked number found given old.1;
  long = let long : length labels ≤ length flags = kept.long in
      subst (λ count. length labels ≤ count) (sym (length-set flags index true)) long;
}
  where
    inside : index < length flags
    inside =
        let low : index < length labels = entry_low labels index label at in
        let long : length labels ≤ length flags = kept.long in omega (arith, low, long)

off_of : (flag : Bool) → IsTrue (not flag) → flag ≡ false
off_of false h = refl
off_of true h = let bad : false ≡ true = h in cc

-- code with one more routine, whose labels are its own
pub routine_added : (labels : List (Option ℕ)) (flags : List Bool)
    (before after : Assembly) (routine : Routine)
    → AreKept labels flags before
    → AddsRoutine routine before after
    → AreKept labels flags after
routine_added labels flags before after routine kept adds = record {
  of_code = λ number label given.
      let low : label < before.labels = kept.of_code number label given in
      let more : before.labels ≤ after.labels = adds.more in omega (arith, low, more);
  different = kept.different;
  marked = λ number label given off.
      ap (is_bound label) adds.added
      ∙ list_any-append (marks label) before.items adds.items
      ∙ or_from _ _ (kept.marked number label given off)
      (off_of _ (adds.new label (kept.of_code number label given)));
  long = kept.long;
}

-- labels of code are known to it
pub all_known : (labels : List (Option ℕ)) (code : Assembly)
    → AreOfCode labels code
    → labels ≡ map (known_label code.labels) labels
all_known [] code of_code = refl
all_known (first ∷ others) code of_code =
    ap (λ rest. first ∷ rest) (all_known others code (λ number label given. of_code (suc number) label given))
    ∙ ap (λ one. one ∷ map (known_label code.labels) others)
    (first_known first (λ label given. of_code zero label given))
  where
    first_known : (one : Option ℕ)
        → ((label : ℕ) → one ≡ Some label → label < code.labels)
        → one ≡ known_label code.labels one
    first_known None low = refl
    first_known (Some label) low =
        sym (ap (λ is. if is then Some label else None) (lt-ltb label code.labels (low label refl)))
