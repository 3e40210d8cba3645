-- The tables tell where each procedure and each label stands in the code.
use Rattle.stack_compiler.proofs.Prelude.{◌≡◌, ℕ, zero, suc, ◌+◌, ◌<◌, ◌≤◌, ◌==◌, Bool, true, false, ◌&&◌, cond, nat_eq, List, [], ◌∷◌, length, map, Option, None, Some, option_map, ap, refl, sym, ◌∙◌, arith, slice_get, slice_index, position_from, option_and_then, option_map_or, position_from-zero, slice_get-map, TypedProcedure, TypedModule, InProgram, procedure_at, Instruction, Begin, Mark, Push, Drop, ReadAt, WriteAt, Read, Write, ReadFrame, WriteFrame, LocateFrame, Scale, Advance, Sum, Convert, Unary, Binary, BinaryWith, Function, Shift, Step, Input, Output, Move, Parameter, FrameParameter, Discard, Jump, JumpUnless, LoopBack, Case, Goto, Call, Return, Halt, Entry, ModuleTable, after_first, is_begin, is_mark, AreTablesOf, entry_in, label_in, Row, row_view, empty_row, started_entry, started_row, first_of, padded, updated, with_label, row_labelled, entry_begun, row_begun, noted, noted_all, eqb-zero-suc, eqb-suc-zero, eqb-suc-suc}
use Rattle.stack_compiler.proofs.RowLoops.{first_stands}

first_of_zero : (first : ℕ) → first_of first 0 ≡ first
first_of_zero zero = refl
first_of_zero (suc first) = refl

first_of_three : (a b c : ℕ) → first_of (first_of a b) c ≡ first_of a (first_of b c)
first_of_three zero b c = refl
first_of_three (suc a) b c = refl

-- a list with a changed item
module _ {A : Type 0} (change : A → A) where
  cons_found : (item : A) (others : List A) (number : ℕ) (found : Option A)
      → option_map_or (λ one. item ∷ Rattle.std.specs.Prelude.slice_set others number (change one)) found
      (item ∷ others) ≡ item ∷ option_map_or
      (λ one. Rattle.std.specs.Prelude.slice_set others number (change one)) found others
  cons_found item others number None = refl
  cons_found item others number (Some one) = refl

  updated_cons : (item : A) (others : List A) (number : ℕ)
      → updated change (item ∷ others) (suc number) ≡ item ∷ updated change others number
  updated_cons item others number = cons_found item others number (slice_get others number)

  unchanged : (same : Bool) (found : Option A) → same ≡ false
      → found ≡ option_map (λ item. cond same (change item) item) found
  unchanged true found is = absurd (Rattle.std.proofs.Common.true≢false is)
  unchanged false None is = refl
  unchanged false (Some item) is = refl

  updated_get : (items : List A) (number at : ℕ)
      → slice_get (updated change items number) at
      ≡ option_map (λ item. cond (at == number) (change item) item) (slice_get items at)
  updated_get [] number at = refl
  updated_get (item ∷ items) zero zero = refl
  updated_get (item ∷ items) zero (suc at) =
      unchanged (nat_eq (suc at) 0) (slice_get items at) (eqb-suc-zero at)
  updated_get (item ∷ items) (suc number) zero =
      ap (λ list. slice_get list 0) (updated_cons item items number)
      ∙ unchanged (nat_eq 0 (suc number)) (Some item) (eqb-zero-suc number)
  updated_get (item ∷ items) (suc number) (suc at) =
      ap (λ list. slice_get list (suc at)) (updated_cons item items number)
      ∙ updated_get items number at
      ∙ ap (λ same. option_map (λ item. cond same (change item) item) (slice_get items at))
      (sym (eqb-suc-suc at number))

updated_index : (change : ℕ → ℕ) (places : List ℕ) (number at : ℕ) → number < length places
    → slice_index (updated change places number) at
    ≡ cond (at == number) (change (slice_index places at)) (slice_index places at)
updated_index change [] number at within = absurd (omega arith)
updated_index change (place ∷ places) zero zero within = refl
updated_index change (place ∷ places) zero (suc at) within =
    ap (λ same. cond same (change (slice_index places at)) (slice_index places at)) (sym (eqb-suc-zero at))
updated_index change (place ∷ places) (suc number) zero within =
    ap (λ list. slice_index list 0) (updated_cons change place places number)
    ∙ ap (λ same. cond same (change place) place) (sym (eqb-zero-suc number))
updated_index change (place ∷ places) (suc number) (suc at) within =
    ap (λ list. slice_index list (suc at)) (updated_cons change place places number)
    ∙ updated_index change places number at (omega arith)
    ∙ ap (λ same. cond same (change (slice_index places at)) (slice_index places at))
    (sym (eqb-suc-suc at number))

padded_index : (places : List ℕ) (count at : ℕ)
    → slice_index (padded 0 places count) at ≡ slice_index places at
padded_index places zero at = refl
padded_index [] (suc count) zero = refl
padded_index [] (suc count) (suc at) = padded_index [] count at
padded_index (place ∷ places) (suc count) zero = refl
padded_index (place ∷ places) (suc count) (suc at) = padded_index places count at

padded_length : (places : List ℕ) (count : ℕ) → count ≤ length (padded 0 places count)
padded_length places zero = omega arith
padded_length [] (suc count) = omega (arith, padded_length [] count)
padded_length (place ∷ places) (suc count) = omega (arith, padded_length places count)

-- the places of labels
label_chosen : (same : Bool) (place after : ℕ)
    → cond same (first_of place after) place ≡ first_of place (cond same after 0)
label_chosen true place after = refl
label_chosen false place after = sym (first_of_zero place)

with_label_index : (labels : List ℕ) (label after at : ℕ)
    → slice_index (with_label labels label after) at
    ≡ first_of (slice_index labels at) (cond (at == label) after 0)
with_label_index labels label after at =
    updated_index (λ place. first_of place after) (padded 0 labels (label + 1)) label at
    (omega (arith, padded_length labels (label + 1)))
    ∙ ap (λ place. cond (at == label) (first_of place after) place) (padded_index labels (label + 1) at)
    ∙ label_chosen (at == label) (slice_index labels at) after

abbrev label_of : (label : ℕ) → Option Row → ℕ
label_of label found = option_map_or (λ (row : Row). slice_index row.labels label) found 0

abbrev label_at : List Row → (number_of_module label : ℕ) → ℕ
label_at rows m l = label_of l (slice_get rows m)

abbrev entry_of_row : (number : ℕ) → Option Row → Option Entry
entry_of_row number found = option_and_then (λ (row : Row). slice_get row.entries number) found

abbrev entry_by : List Row → (number_of_module number : ℕ) → Option Entry
entry_by rows m n = entry_of_row n (slice_get rows m)

-- a mark
module _ (label after l : ℕ) where
  abbrev marked : List Row → ℕ → List Row
  marked rows n = updated (row_labelled label after) (padded empty_row rows (suc n)) n

  never : (value : ℕ) (same other : Bool) → same ≡ false
      → value ≡ first_of value (cond (same && other) after 0)
  never value same other is =
      sym (first_of_zero value) ∙ ap (λ one. first_of value (cond (one && other) after 0)) (sym is)

  marked_label : (rows : List Row) (n m : ℕ)
      → label_at (marked rows n) m l ≡ first_of (label_at rows m l) (cond (m == n && l == label) after 0)
  marked_label [] zero zero = with_label_index [] label after l
  marked_label [] zero (suc m) = never 0 (nat_eq (suc m) 0) (l == label) (eqb-suc-zero m)
  marked_label [] (suc n) zero =
      ap (λ rows. label_at rows 0 l)
      (updated_cons (row_labelled label after) empty_row (padded empty_row [] (suc n)) n)
      ∙ never 0 (nat_eq 0 (suc n)) (l == label) (eqb-zero-suc n)
  marked_label [] (suc n) (suc m) =
      ap (λ rows. label_at rows (suc m) l)
      (updated_cons (row_labelled label after) empty_row (padded empty_row [] (suc n)) n)
      ∙ marked_label [] n m
      ∙ ap (λ same. first_of 0 (cond (same && l == label) after 0)) (sym (eqb-suc-suc m n))
  marked_label (row ∷ rows) zero zero = with_label_index row.labels label after l
  marked_label (row ∷ rows) zero (suc m) =
      never (label_at rows m l) (nat_eq (suc m) 0) (l == label) (eqb-suc-zero m)
  marked_label (row ∷ rows) (suc n) zero =
      ap (λ rows. label_at rows 0 l)
      (updated_cons (row_labelled label after) row (padded empty_row rows (suc n)) n)
      ∙ never (slice_index row.labels l) (nat_eq 0 (suc n)) (l == label) (eqb-zero-suc n)
  marked_label (row ∷ rows) (suc n) (suc m) =
      ap (λ rows. label_at rows (suc m) l)
      (updated_cons (row_labelled label after) row (padded empty_row rows (suc n)) n)
      ∙ marked_label rows n m
      ∙ ap (λ same. first_of (label_at rows m l) (cond (same && l == label) after 0)) (sym (eqb-suc-suc m n))

  marked_keeps : (number : ℕ) (same : Bool) (found : Option Row)
      → entry_of_row number (option_map (λ row. cond same (row_labelled label after row) row) found)
      ≡ entry_of_row number found
  marked_keeps number same None = refl
  marked_keeps number true (Some row) = refl
  marked_keeps number false (Some row) = refl

padded_entry : (rows : List Row) (count m n : ℕ)
    → entry_by (padded empty_row rows count) m n ≡ entry_by rows m n
padded_entry rows zero m n = refl
padded_entry [] (suc count) zero n = refl
padded_entry [] (suc count) (suc m) n = padded_entry [] count m n
padded_entry (row ∷ rows) (suc count) zero n = refl
padded_entry (row ∷ rows) (suc count) (suc m) n = padded_entry rows count m n

-- the beginning of a procedure
module _ (number after : ℕ) where
  begun_keeps : (label : ℕ) (same : Bool) (found : Option Row)
      → label_of label (option_map (λ row. cond same (row_begun number after row) row) found)
      ≡ label_of label found
  begun_keeps label same None = refl
  begun_keeps label true (Some row) = refl
  begun_keeps label false (Some row) = refl

  begun_entry : (n : ℕ) (same : Bool) (found : Option Row)
      → entry_of_row n (option_map (λ row. cond same (row_begun number after row) row) found)
      ≡ option_map (λ entry. cond (same && n == number) (entry_begun after entry) entry)
      (entry_of_row n found)
  begun_entry n same None = refl
  begun_entry n true (Some row) = updated_get (entry_begun after) row.entries number n
  begun_entry n false (Some row) = unchanged (entry_begun after) false (slice_get row.entries n) refl

-- an entry that an instruction does not change
entry_with : (after : ℕ) → Entry → Entry
entry_with after entry = entry_begun after entry

chosen : (same : Bool) (after : ℕ) (found : Option Entry)
    → option_map (λ entry. cond same (entry_begun after entry) entry) found
    ≡ option_map (entry_begun (cond same after 0)) found
chosen true after None = refl
chosen true after (Some entry) = refl
chosen false after None = refl
chosen false after (Some entry) =
    λ i. Some (record { begin = sym (first_of_zero entry.begin) i; charge = entry.charge })

kept : (found : Option Entry) → option_map (entry_begun 0) found ≡ found
kept None = refl
kept (Some entry) = λ i. Some (record { begin = first_of_zero entry.begin i; charge = entry.charge })

noted_label : (rows : List Row) (after : ℕ) (instruction : Instruction) (m l : ℕ)
    → label_at (noted rows after instruction) m l
    ≡ first_of (label_at rows m l) (cond (is_mark m l instruction) after 0)
noted_label rows after (Mark n label) m l = marked_label label after l rows n m
noted_label rows after (Begin n number) m l =
    ap (label_of l) (updated_get (row_begun number after) rows n m)
    ∙ begun_keeps number after l (m == n) (slice_get rows m) ∙ sym (first_of_zero (label_at rows m l))
noted_label rows after (Push a) m l = sym (first_of_zero (label_at rows m l))
noted_label rows after Drop m l = sym (first_of_zero (label_at rows m l))
noted_label rows after (ReadAt a b) m l = sym (first_of_zero (label_at rows m l))
noted_label rows after (WriteAt a b) m l = sym (first_of_zero (label_at rows m l))
noted_label rows after (Read a b) m l = sym (first_of_zero (label_at rows m l))
noted_label rows after (Write a b) m l = sym (first_of_zero (label_at rows m l))
noted_label rows after (ReadFrame a b) m l = sym (first_of_zero (label_at rows m l))
noted_label rows after (WriteFrame a b) m l = sym (first_of_zero (label_at rows m l))
noted_label rows after (LocateFrame a) m l = sym (first_of_zero (label_at rows m l))
noted_label rows after (Scale a) m l = sym (first_of_zero (label_at rows m l))
noted_label rows after (Advance a) m l = sym (first_of_zero (label_at rows m l))
noted_label rows after Sum m l = sym (first_of_zero (label_at rows m l))
noted_label rows after (Convert a) m l = sym (first_of_zero (label_at rows m l))
noted_label rows after (Unary a b) m l = sym (first_of_zero (label_at rows m l))
noted_label rows after (Binary a b) m l = sym (first_of_zero (label_at rows m l))
noted_label rows after (BinaryWith a b c) m l = sym (first_of_zero (label_at rows m l))
noted_label rows after (Function a) m l = sym (first_of_zero (label_at rows m l))
noted_label rows after (Shift a b) m l = sym (first_of_zero (label_at rows m l))
noted_label rows after (Step a) m l = sym (first_of_zero (label_at rows m l))
noted_label rows after (Input a) m l = sym (first_of_zero (label_at rows m l))
noted_label rows after (Output a) m l = sym (first_of_zero (label_at rows m l))
noted_label rows after Move m l = sym (first_of_zero (label_at rows m l))
noted_label rows after (Parameter a b c) m l = sym (first_of_zero (label_at rows m l))
noted_label rows after (FrameParameter a b c) m l = sym (first_of_zero (label_at rows m l))
noted_label rows after Discard m l = sym (first_of_zero (label_at rows m l))
noted_label rows after (Jump a) m l = sym (first_of_zero (label_at rows m l))
noted_label rows after (JumpUnless a) m l = sym (first_of_zero (label_at rows m l))
noted_label rows after (LoopBack a) m l = sym (first_of_zero (label_at rows m l))
noted_label rows after (Case a) m l = sym (first_of_zero (label_at rows m l))
noted_label rows after (Goto a b) m l = sym (first_of_zero (label_at rows m l))
noted_label rows after (Call a b c) m l = sym (first_of_zero (label_at rows m l))
noted_label rows after Return m l = sym (first_of_zero (label_at rows m l))
noted_label rows after Halt m l = sym (first_of_zero (label_at rows m l))

noted_entry : (rows : List Row) (after : ℕ) (instruction : Instruction) (at : InProgram)
    → entry_by (noted rows after instruction) at.number_of_module at.number
    ≡ option_map (entry_begun (cond (is_begin at instruction) after 0))
    (entry_by rows at.number_of_module at.number)
noted_entry rows after (Mark n label) at =
    ap (entry_of_row at.number)
    (updated_get (row_labelled label after) (padded empty_row rows (suc n)) n at.number_of_module)
    ∙ marked_keeps label after 0 at.number (at.number_of_module == n)
    (slice_get (padded empty_row rows (suc n)) at.number_of_module)
    ∙ padded_entry rows (suc n) at.number_of_module at.number
    ∙ sym (kept (entry_by rows at.number_of_module at.number))
noted_entry rows after (Begin n number) at =
    ap (entry_of_row at.number) (updated_get (row_begun number after) rows n at.number_of_module)
    ∙ begun_entry number after at.number (at.number_of_module == n) (slice_get rows at.number_of_module)
    ∙ chosen (at.number_of_module == n && at.number == number) after
    (entry_by rows at.number_of_module at.number)
noted_entry rows after (Push a) at = sym (kept (entry_by rows at.number_of_module at.number))
noted_entry rows after Drop at = sym (kept (entry_by rows at.number_of_module at.number))
noted_entry rows after (ReadAt a b) at = sym (kept (entry_by rows at.number_of_module at.number))
noted_entry rows after (WriteAt a b) at = sym (kept (entry_by rows at.number_of_module at.number))
noted_entry rows after (Read a b) at = sym (kept (entry_by rows at.number_of_module at.number))
noted_entry rows after (Write a b) at = sym (kept (entry_by rows at.number_of_module at.number))
noted_entry rows after (ReadFrame a b) at = sym (kept (entry_by rows at.number_of_module at.number))
noted_entry rows after (WriteFrame a b) at = sym (kept (entry_by rows at.number_of_module at.number))
noted_entry rows after (LocateFrame a) at = sym (kept (entry_by rows at.number_of_module at.number))
noted_entry rows after (Scale a) at = sym (kept (entry_by rows at.number_of_module at.number))
noted_entry rows after (Advance a) at = sym (kept (entry_by rows at.number_of_module at.number))
noted_entry rows after Sum at = sym (kept (entry_by rows at.number_of_module at.number))
noted_entry rows after (Convert a) at = sym (kept (entry_by rows at.number_of_module at.number))
noted_entry rows after (Unary a b) at = sym (kept (entry_by rows at.number_of_module at.number))
noted_entry rows after (Binary a b) at = sym (kept (entry_by rows at.number_of_module at.number))
noted_entry rows after (BinaryWith a b c) at = sym (kept (entry_by rows at.number_of_module at.number))
noted_entry rows after (Function a) at = sym (kept (entry_by rows at.number_of_module at.number))
noted_entry rows after (Shift a b) at = sym (kept (entry_by rows at.number_of_module at.number))
noted_entry rows after (Step a) at = sym (kept (entry_by rows at.number_of_module at.number))
noted_entry rows after (Input a) at = sym (kept (entry_by rows at.number_of_module at.number))
noted_entry rows after (Output a) at = sym (kept (entry_by rows at.number_of_module at.number))
noted_entry rows after Move at = sym (kept (entry_by rows at.number_of_module at.number))
noted_entry rows after (Parameter a b c) at = sym (kept (entry_by rows at.number_of_module at.number))
noted_entry rows after (FrameParameter a b c) at = sym (kept (entry_by rows at.number_of_module at.number))
noted_entry rows after Discard at = sym (kept (entry_by rows at.number_of_module at.number))
noted_entry rows after (Jump a) at = sym (kept (entry_by rows at.number_of_module at.number))
noted_entry rows after (JumpUnless a) at = sym (kept (entry_by rows at.number_of_module at.number))
noted_entry rows after (LoopBack a) at = sym (kept (entry_by rows at.number_of_module at.number))
noted_entry rows after (Case a) at = sym (kept (entry_by rows at.number_of_module at.number))
noted_entry rows after (Goto a b) at = sym (kept (entry_by rows at.number_of_module at.number))
noted_entry rows after (Call a b c) at = sym (kept (entry_by rows at.number_of_module at.number))
noted_entry rows after Return at = sym (kept (entry_by rows at.number_of_module at.number))
noted_entry rows after Halt at = sym (kept (entry_by rows at.number_of_module at.number))

-- all of the code
abbrev found_from : (at : ℕ) → (Instruction → Bool) → List Instruction → ℕ
found_from at test code = option_map_or (λ one. one + 1) (position_from test at code) 0

found_first : (a at : ℕ) (passes : Bool) (later : Option ℕ)
    → first_of (first_of a (cond passes (at + 1) 0)) (option_map_or (λ one. one + 1) later 0)
    ≡ first_of a (option_map_or (λ one. one + 1) (cond passes (Some at) later) 0)
found_first a at true later =
    first_of_three a (at + 1) (option_map_or (λ one. one + 1) later 0)
    ∙ ap (first_of a) (sym (first_stands (at + 1) (option_map_or (λ one. one + 1) later 0) (omega arith)))
found_first a at false later =
    ap (λ one. first_of one (option_map_or (λ one. one + 1) later 0)) (first_of_zero a)

all_labels : (rows : List Row) (at : ℕ) (code : List Instruction) (m l : ℕ)
    → label_at (noted_all rows at code) m l ≡ first_of (label_at rows m l) (found_from at (is_mark m l) code)
all_labels rows at [] m l = sym (first_of_zero (label_at rows m l))
all_labels rows at (instruction ∷ others) m l =
    all_labels (noted rows (at + 1) instruction) (at + 1) others m l
    ∙ ap (λ one. first_of one (found_from (at + 1) (is_mark m l) others))
    (noted_label rows (at + 1) instruction m l)
    ∙ found_first (label_at rows m l) at (is_mark m l instruction)
    (position_from (is_mark m l) (at + 1) others)

begun_again : (first at : ℕ) (passes : Bool) (later : Option ℕ) (found : Option Entry)
    → option_map (entry_begun (option_map_or (λ one. one + 1) later 0))
    (option_map (entry_begun (cond passes (at + 1) 0)) found)
    ≡ option_map (entry_begun (option_map_or (λ one. one + 1) (cond passes (Some at) later) 0)) found
begun_again first at passes later None = refl
begun_again first at passes later (Some entry) =
    λ i. Some (record { begin = found_first entry.begin at passes later i; charge = entry.charge })

all_entries : (rows : List Row) (k : ℕ) (code : List Instruction) (at : InProgram)
    → entry_by (noted_all rows k code) at.number_of_module at.number
    ≡ option_map (entry_begun (found_from k (is_begin at) code))
    (entry_by rows at.number_of_module at.number)
all_entries rows k [] at = sym (kept (entry_by rows at.number_of_module at.number))
all_entries rows k (instruction ∷ others) at =
    all_entries (noted rows (k + 1) instruction) (k + 1) others at
    ∙ ap (option_map (entry_begun (found_from (k + 1) (is_begin at) others)))
    (noted_entry rows (k + 1) instruction at)
    ∙ begun_again 0 k (is_begin at instruction) (position_from (is_begin at) (k + 1) others)
    (entry_by rows at.number_of_module at.number)

after_first_is : (test : Instruction → Bool) (code : List Instruction)
    → found_from 0 test code ≡ after_first test code
after_first_is test code =
    ap (λ found. option_map_or (λ one. one + 1) found 0) (sym (position_from-zero test code))

-- the tables of the code, as rows
viewed_label : (found : Option ModuleTable) (l : ℕ)
    → option_map_or (λ (table : ModuleTable). slice_index table.labels.items l) found 0
    ≡ label_of l (option_map row_view found)
viewed_label None l = refl
viewed_label (Some table) l = refl

viewed_entry : (found : Option ModuleTable) (n : ℕ)
    → option_and_then (λ (table : ModuleTable). slice_get table.procedures.items n) found
    ≡ entry_of_row n (option_map row_view found)
viewed_entry None n = refl
viewed_entry (Some table) n = refl

label_viewed : (tables : List ModuleTable) (m l : ℕ)
    → label_in tables m l ≡ label_at (map row_view tables) m l
label_viewed tables m l =
    viewed_label (slice_get tables m) l ∙ ap (label_of l) (sym (slice_get-map row_view tables m))

entry_viewed : (tables : List ModuleTable) (at : InProgram)
    → entry_in tables at ≡ entry_by (map row_view tables) at.number_of_module at.number
entry_viewed tables at =
    viewed_entry (slice_get tables at.number_of_module) at.number
    ∙ ap (entry_of_row at.number) (sym (slice_get-map row_view tables at.number_of_module))

-- before the code is read
no_label : (found : Option TypedModule) (l : ℕ) → label_of l (option_map started_row found) ≡ 0
no_label None l = refl
no_label (Some typed) l = refl

started_label : (modules : List TypedModule) (m l : ℕ) → label_at (map started_row modules) m l ≡ 0
started_label modules m l =
    ap (label_of l) (slice_get-map started_row modules m) ∙ no_label (slice_get modules m) l

abbrev begun_found : (place : ℕ) → TypedModule × TypedProcedure → Entry
begun_found place found = entry_begun place (started_entry found.1)

entry_found : (place : ℕ) (typed : TypedModule) (found : Option TypedProcedure)
    → option_map (entry_begun place) (option_map started_entry found)
    ≡ option_map (begun_found place) (option_map (λ (procedure : TypedProcedure). (typed, procedure)) found)
entry_found place typed None = refl
entry_found place typed (Some procedure) = refl

entry_in_module : (place n : ℕ) (found : Option TypedModule)
    → option_map (entry_begun place) (entry_of_row n (option_map started_row found))
    ≡ option_map (begun_found place)
    (option_and_then (λ (typed : TypedModule). option_map (λ (procedure : TypedProcedure). (typed, procedure))
    (slice_get typed.procedures n)) found)
entry_in_module place n None = refl
entry_in_module place n (Some typed) =
    ap (option_map (entry_begun place)) (slice_get-map started_entry typed.procedures n)
    ∙ entry_found place typed (slice_get typed.procedures n)

started_entries : (place : ℕ) (modules : List TypedModule) (at : InProgram)
    → option_map (entry_begun place) (entry_by (map started_row modules) at.number_of_module at.number)
    ≡ option_map (begun_found place) (procedure_at modules at)
started_entries place modules at =
    ap (λ found. option_map (entry_begun place) (entry_of_row at.number found))
    (slice_get-map started_row modules at.number_of_module)
    ∙ entry_in_module place at.number (slice_get modules at.number_of_module)

pub tables_made : (modules : List TypedModule) (code : List Instruction) (before tables : List ModuleTable)
    → map row_view before ≡ map started_row modules
    → map row_view tables ≡ noted_all (map row_view before) 0 code → AreTablesOf modules code tables
tables_made modules code before tables start noted = record {
  entries = λ at.
      entry_viewed tables at
      ∙ ap (λ rows. entry_by rows at.number_of_module at.number)
      (noted ∙ ap (λ rows. noted_all rows 0 code) start)
      ∙ all_entries (map started_row modules) 0 code at
      ∙ started_entries (found_from 0 (is_begin at) code) modules at
      ∙ ap (λ place. option_map (begun_found place) (procedure_at modules at))
      (after_first_is (is_begin at) code);
  labels = λ number_of_module label.
      label_viewed tables number_of_module label
      ∙ ap (λ rows. label_at rows number_of_module label) (noted ∙ ap (λ rows. noted_all rows 0 code) start)
      ∙ all_labels (map started_row modules) 0 code number_of_module label
      ∙ ap (λ first. first_of first (found_from 0 (is_mark number_of_module label) code)) (started_label modules number_of_module label)
      ∙ after_first_is (is_mark number_of_module label) code;
}
