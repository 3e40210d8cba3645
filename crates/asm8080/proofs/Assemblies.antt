-- The code of items is what their assembly is to be: it stands wherever it is resolved.
use Rattle.asm8080.proofs.Prelude.{◌≡◌, ℕ, ◌+◌, ◌≤◌, Bool, true, false, cond, ◌||◌, nat_le, nat_lt, List, [], ◌∷◌, ◌++◌, length, map, replicate, Option, Some, None, option_map, unwrap_or, refl, sym, subst, ap, ◌∙◌, arith, All, list_all, eq-eqb, le-leb, lt-ltb, length-append, length-replicate, All-head, All-tail, Fix, Target, InSegment, External, Code, is_target, words_are_whole, fix_end, fixes_ascend, is_in_a_run, runs_from, SEGMENT_LIMIT, wrap, Reference, AtLabel, AtTarget, AtNumber, Item, Plain, WithWord, Byte, Address, Gap, Mark, BytesStand, SetBytesStand, Assembly, BoundOnce, IsAssembly, IsKnown, IsListed, KnowsLabels, Layout, ListsExternals, Stands, bytes_of_item, flags_of_item, flags_of_items, is_bound, is_set, marks, offset_of, size_of, size_of_items, AllBound, Assembles, fix_at, fixed_bytes, fixes_of_items, layout_at, place_in, target_of, with_fix, bytes_of_items, code_of, layout_from, offset_in, and_from}
use Rattle.asm8080.proofs.ItemWords.{item_length}
use Rattle.asm8080.proofs.Fixing.{cells_are, cells_of_items, fixed_items, some_length, whole_items}
use Rattle.asm8080.proofs.Filling.{items_filled}
use Rattle.asm8080.proofs.Moving.{resolved_items}

-- the bytes are as many as the items take
pub items_length :
    (layout : Layout) (items : List Item) → length (bytes_of_items layout items) ≡ size_of_items items
items_length layout [] = refl
items_length layout (item ∷ others) =
    let first : length (bytes_of_item layout item) ≡ size_of item = item_length layout item in
    let rest : length (bytes_of_items layout others) ≡ size_of_items others = items_length layout others in
    omega (arith, first, rest, length-append (bytes_of_item layout item) (bytes_of_items layout others))

-- and so many are told of
pub flags_length : (items : List Item) → length (flags_of_items items) ≡ size_of_items items
flags_length [] = refl
flags_length (item ∷ others) =
    let first : length (flags_of_item item) ≡ size_of item = length-replicate (size_of item) (is_set item) in
    let rest : length (flags_of_items others) ≡ size_of_items others = flags_length others in
    omega (arith, first, rest, length-append (flags_of_item item) (flags_of_items others))

-- bytes that stand, in two parts
front_stands :
    (memory : List ℕ) (from : ℕ) (bytes : List ℕ) (rest : List (Option ℕ))
    → SetBytesStand memory from (map Some bytes ++ rest)
    → BytesStand memory from bytes
front_stands memory from [] rest h = tt
front_stands memory from (value ∷ others) rest h = (h.0, front_stands memory (from + 1) others rest h.1)

rest_stands :
    (memory : List ℕ) (from : ℕ) (front rest : List (Option ℕ))
    → SetBytesStand memory from (front ++ rest)
    → SetBytesStand memory (from + length front) rest
rest_stands memory from [] rest h =
    let same : from ≡ from + 0 = omega arith in subst (λ n. SetBytesStand memory n rest) same h
rest_stands memory from (None ∷ others) rest h =
    let same : from + 1 + length others ≡ from + length {A = Option ℕ} (None ∷ others) = omega arith in
    subst (λ n. SetBytesStand memory n rest) same (rest_stands memory (from + 1) others rest h)
rest_stands memory from (Some value ∷ others) rest h =
    let same : from + 1 + length others ≡ from + length (Some value ∷ others) = omega arith in
    subst (λ n. SetBytesStand memory n rest) same (rest_stands memory (from + 1) others rest h.1)

-- labels of items lie where they are from an address on
abbrev LabelsLie : (place_of : ℕ → ℕ) → (from : ℕ) → List Item → Type 0
LabelsLie place_of from items =
    (label offset : ℕ) → offset_of label items ≡ Some offset → place_of label ≡ from + offset

-- a label that has a place is bound
has_place :
    (label offset : ℕ) (items : List Item) → offset_of label items ≡ Some offset → is_bound label items ≡ true
has_place label offset [] h = let bad : ◌≡◌ {A = Option ℕ} None (Some offset) = h in cc
has_place label offset (item ∷ others) h =
    by_mark (λ n e. has_place label n others e) (marks label item) (offset_of label others) refl h
  where
    by_mark :
        ((n : ℕ) → offset_of label others ≡ Some n → is_bound label others ≡ true)
        → (here : Bool) (later : Option ℕ) → later ≡ offset_of label others
        → (cond here (Some 0) (option_map (λ n. size_of item + n) later)) ≡ Some offset
        → (here || is_bound label others) ≡ true
    by_mark again true later same e = refl
    by_mark again false None same e = let bad : ◌≡◌ {A = Option ℕ} None (Some offset) = e in cc
    by_mark again false (Some n) same e = again n (sym same)

labels_later :
    (place_of : ℕ → ℕ) (from : ℕ) (item : Item) (others : List Item)
    → BoundOnce (item ∷ others)
    → LabelsLie place_of from (item ∷ others)
    → LabelsLie place_of (from + size_of item) others
labels_later place_of from item others once lie label offset h =
    by_mark (marks label item) refl
  where
    by_mark : (here : Bool) → marks label item ≡ here → place_of label ≡ from + size_of item + offset
    by_mark true e =
        let bad : true ≡ false = sym (has_place label offset others h) ∙ once.0 label e in cc
    by_mark false e =
        let place : Bool → Option ℕ → Option ℕ
        = λ here later. cond here (Some 0) (option_map (λ n. size_of item + n) later) in
        let there : place_of label ≡ from + (size_of item + offset)
        = lie label (size_of item + offset)
        (ap (λ here. place here (offset_of label others)) e ∙ ap (place false) h) in
        omega (arith, there)

-- an item whose bytes stand, and what comes after it
item_stands :
    (memory : List ℕ) (from size : ℕ) (bytes : List ℕ) (rest : List (Option ℕ))
    → length bytes ≡ size
    → SetBytesStand memory from (map Some bytes ++ rest)
    → BytesStand memory from bytes × SetBytesStand memory (from + size) rest
item_stands memory from size bytes rest sized h = (
  front_stands memory from bytes rest h,
  subst (λ n. SetBytesStand memory (from + n) rest) (some_length bytes ∙ sized)
      (rest_stands memory from (map Some bytes) rest h),
)

pub items_stand :
    (layout : Layout) (memory : List ℕ) (from to : ℕ) (items : List Item)
    → BoundOnce items
    → LabelsLie layout.place_of from items
    → SetBytesStand memory from (cells_of_items layout items)
    → from + size_of_items items ≡ to
    → Stands layout memory items from to
items_stand layout memory from to [] once lie h end = let same : from ≡ to = omega (arith, end) in same
items_stand layout memory from to (Mark label ∷ others) once lie h end =
    let here : layout.place_of label ≡ from + 0
    = lie label 0
    (ap (λ same. cond same (Some 0) (option_map (λ n. 0 + n) (offset_of label others)))
    (eq-eqb label label refl)) in
    let same : from + 0 ≡ from = omega arith in (
      here ∙ same,
      items_stand layout memory from to others once.1
          (subst (λ n. LabelsLie layout.place_of n others) same
          (labels_later layout.place_of from (Mark label) others once lie))
          h (omega (arith, end)),
    )
items_stand layout memory from to (Plain instruction ∷ others) once lie h end =
    let parts =
    item_stands memory from (size_of (Plain instruction)) (bytes_of_item layout (Plain instruction))
    (cells_of_items layout others)
    (item_length layout (Plain instruction)) h in (
      parts.0,
      items_stand layout memory (from + size_of (Plain instruction)) to others once.1
          (labels_later layout.place_of from (Plain instruction) others once lie) parts.1
          (omega (arith, end)),
    )
items_stand layout memory from to (WithWord form reference ∷ others) once lie h end =
    let parts =
    item_stands memory from 3 (bytes_of_item layout (WithWord form reference))
    (cells_of_items layout others)
    (item_length layout (WithWord form reference)) h in (
      parts.0,
      items_stand layout memory (from + 3) to others once.1
          (labels_later layout.place_of from (WithWord form reference) others once lie) parts.1
          (omega (arith, end)),
    )
items_stand layout memory from to (Byte value ∷ others) once lie h end =
    let parts = item_stands memory from 1 (bytes_of_item layout (Byte value)) (cells_of_items layout others)
    (item_length layout (Byte value)) h in (
      parts.0,
      items_stand layout memory (from + 1) to others once.1
          (labels_later layout.place_of from (Byte value) others once lie) parts.1 (omega (arith, end)),
    )
items_stand layout memory from to (Address reference ∷ others) once lie h end =
    let parts =
    item_stands memory from 2 (bytes_of_item layout (Address reference)) (cells_of_items layout others)
    (item_length layout (Address reference)) h in (
      parts.0,
      items_stand layout memory (from + 2) to others once.1
          (labels_later layout.place_of from (Address reference) others once lie) parts.1
          (omega (arith, end)),
    )
items_stand layout memory from to (Gap count ∷ others) once lie h end =
    items_stand layout memory (from + count) to others once.1
    (labels_later layout.place_of from (Gap count) others once lie)
    (subst (λ n. SetBytesStand memory (from + n) (cells_of_items layout others)) (length-replicate count None)
    (rest_stands memory from (replicate count None) (cells_of_items layout others) h))
    (omega (arith, end))

-- labels of items from a base on
labels_moved :
    (base : ℕ) (items : List Item) → LabelsLie (λ label. base + offset_in items label) base items
labels_moved base items label offset h = ap (λ (place : Option ℕ). base + unwrap_or place 0) h

-- fixes begin at a place or after it, and none before the one before it ends
abbrev AreAfter : (start : ℕ) → List Fix → Type 0
AreAfter start [] = Unit {0}
AreAfter start (fix ∷ others) = start ≤ fix.offset

fixes_before :
    (fix : Fix) (others : List Fix)
    → AreAfter (fix_end fix) others
    → fixes_ascend others ≡ true
    → fixes_ascend (fix ∷ others) ≡ true
fixes_before fix [] after h = refl
fixes_before fix (next ∷ others) after h =
    and_from (nat_le (fix_end fix) next.offset) (fixes_ascend (next ∷ others))
    (le-leb (fix_end fix) next.offset after) h

-- a word's fix before others keeps this
after_with :
    (start offset : ℕ) (target : Option Target) (others : List Fix)
    → start ≤ offset
    → AreAfter start others
    → AreAfter start (with_fix offset target others)
after_with start offset None others h after = after
after_with start offset (Some target) others h after = h

ascend_with :
    (offset : ℕ) (target : Option Target) (others : List Fix)
    → AreAfter (offset + 2) others
    → fixes_ascend others ≡ true
    → fixes_ascend (with_fix offset target others) ≡ true
ascend_with offset None others after h = h
ascend_with offset (Some target) others after h = fixes_before (fix_at offset target) others after h

fixes_after : (start offset : ℕ) (items : List Item) → start ≤ offset
    → AreAfter start (fixes_of_items offset items)
fixes_after start offset [] h = tt
fixes_after start offset (Plain instruction ∷ others) h =
    fixes_after start (offset + size_of (Plain instruction)) others (omega arith)
fixes_after start offset (WithWord form reference ∷ others) h =
    after_with start (offset + 1) (target_of reference) (fixes_of_items (offset + 3) others) (omega arith)
    (fixes_after start (offset + 3) others (omega arith))
fixes_after start offset (Byte value ∷ others) h = fixes_after start (offset + 1) others (omega arith)
fixes_after start offset (Address reference ∷ others) h =
    after_with start offset (target_of reference) (fixes_of_items (offset + 2) others) h
    (fixes_after start (offset + 2) others (omega arith))
fixes_after start offset (Gap count ∷ others) h = fixes_after start (offset + count) others (omega arith)
fixes_after start offset (Mark label ∷ others) h = fixes_after start (offset + 0) others (omega arith)

pub items_ascend : (offset : ℕ) (items : List Item) → fixes_ascend (fixes_of_items offset items) ≡ true
items_ascend offset [] = refl
items_ascend offset (Plain instruction ∷ others) = items_ascend (offset + size_of (Plain instruction)) others
items_ascend offset (WithWord form reference ∷ others) =
    ascend_with (offset + 1) (target_of reference) (fixes_of_items (offset + 3) others)
    (fixes_after (offset + 1 + 2) (offset + 3) others (omega arith)) (items_ascend (offset + 3) others)
items_ascend offset (Byte value ∷ others) = items_ascend (offset + 1) others
items_ascend offset (Address reference ∷ others) =
    ascend_with offset (target_of reference) (fixes_of_items (offset + 2) others)
    (fixes_after (offset + 2) (offset + 2) others (omega arith)) (items_ascend (offset + 2) others)
items_ascend offset (Gap count ∷ others) = items_ascend (offset + count) others
items_ascend offset (Mark label ∷ others) = items_ascend (offset + 0) others

-- and each ends within the items
abbrev ends_within : (end : ℕ) → Fix → Bool
ends_within end fix = nat_le (fix_end fix) end

within_with :
    (offset end : ℕ) (target : Option Target) (others : List Fix)
    → offset + 2 ≤ end
    → list_all (ends_within end) others ≡ true
    → list_all (ends_within end) (with_fix offset target others) ≡ true
within_with offset end None others ends h = h
within_with offset end (Some target) others ends h =
    and_from (nat_le (offset + 2) end) (list_all (ends_within end) others) (le-leb (offset + 2) end ends) h

pub items_within :
    (offset end : ℕ) (items : List Item)
    → offset + size_of_items items ≤ end
    → list_all (λ (fix : Fix). nat_le (fix_end fix) end) (fixes_of_items offset items) ≡ true
items_within offset end [] h = refl
items_within offset end (Plain instruction ∷ others) h =
    items_within (offset + size_of (Plain instruction)) end others (omega (arith, h))
items_within offset end (WithWord form reference ∷ others) h =
    within_with (offset + 1) end (target_of reference) (fixes_of_items (offset + 3) others) (omega (arith, h))
    (items_within (offset + 3) end others (omega (arith, h)))
items_within offset end (Byte value ∷ others) h = items_within (offset + 1) end others (omega (arith, h))
items_within offset end (Address reference ∷ others) h =
    within_with offset end (target_of reference) (fixes_of_items (offset + 2) others) (omega (arith, h))
    (items_within (offset + 2) end others (omega (arith, h)))
items_within offset end (Gap count ∷ others) h = items_within (offset + count) end others (omega (arith, h))
items_within offset end (Mark label ∷ others) h = items_within (offset + 0) end others (omega (arith, h))

abbrev fits_module : (count : ℕ) → Fix → Bool
fits_module count fix = is_target count fix.target

-- and what it counts from is a target that an object module may have
fit_with :
    (labels count offset : ℕ) (reference : Reference) (others : List Fix)
    → IsKnown labels reference
    → IsListed count reference
    → list_all (fits_module count) others ≡ true
    → list_all (fits_module count) (with_fix offset (target_of reference) others) ≡ true
fit_with labels count offset (AtLabel label) others known listed h = h
fit_with labels count offset (AtTarget (InSegment segment) displacement) others known listed h =
    and_from (is_target count (InSegment segment)) (list_all (fits_module count) others) known h
fit_with labels count offset (AtTarget (External number) displacement) others known listed h =
    and_from (is_target count (External number)) (list_all (fits_module count) others)
    (and_from (nat_lt number count) (nat_lt number 65536) (lt-ltb number count listed.0)
    (lt-ltb number 65536 listed.1))
    h
fit_with labels count offset (AtNumber number) others known listed h = h

pub items_fit :
    (labels count offset : ℕ) (items : List Item)
    → All (KnowsLabels labels) items
    → All (ListsExternals count) items
    → list_all (λ (fix : Fix). is_target count fix.target) (fixes_of_items offset items) ≡ true
items_fit labels count offset [] known listed = refl
items_fit labels count offset (Plain instruction ∷ others) known listed =
    items_fit labels count (offset + size_of (Plain instruction)) others
    (All-tail (KnowsLabels labels) (Plain instruction) others known)
    (All-tail (ListsExternals count) (Plain instruction) others listed)
items_fit labels count offset (WithWord form reference ∷ others) known listed =
    fit_with labels count (offset + 1) reference (fixes_of_items (offset + 3) others)
    (All-head (KnowsLabels labels) (WithWord form reference) others known)
    (All-head (ListsExternals count) (WithWord form reference) others listed)
    (items_fit labels count (offset + 3) others
    (All-tail (KnowsLabels labels) (WithWord form reference) others known)
    (All-tail (ListsExternals count) (WithWord form reference) others listed))
items_fit labels count offset (Byte value ∷ others) known listed =
    items_fit labels count (offset + 1) others
    (All-tail (KnowsLabels labels) (Byte value) others known)
    (All-tail (ListsExternals count) (Byte value) others listed)
items_fit labels count offset (Address reference ∷ others) known listed =
    fit_with labels count offset reference (fixes_of_items (offset + 2) others)
    (All-head (KnowsLabels labels) (Address reference) others known)
    (All-head (ListsExternals count) (Address reference) others listed)
    (items_fit labels count (offset + 2) others
    (All-tail (KnowsLabels labels) (Address reference) others known)
    (All-tail (ListsExternals count) (Address reference) others listed))
items_fit labels count offset (Gap size ∷ others) known listed =
    items_fit labels count (offset + size) others
    (All-tail (KnowsLabels labels) (Gap size) others known)
    (All-tail (ListsExternals count) (Gap size) others listed)
items_fit labels count offset (Mark label ∷ others) known listed =
    items_fit labels count (offset + 0) others
    (All-tail (KnowsLabels labels) (Mark label) others known)
    (All-tail (ListsExternals count) (Mark label) others listed)

-- a label that is bound has a place within the items
record HasPlace (label : ℕ) (items : List Item) : Type 0 where
  offset : ℕ
  is : offset_of label items ≡ Some offset
  within : offset ≤ size_of_items items

bound_has : (label : ℕ) (items : List Item) → is_bound label items ≡ true → HasPlace label items
bound_has label [] h = absurd (let bad : false ≡ true = h in cc)
bound_has label (item ∷ others) h = by_mark (λ e. bound_has label others e) (marks label item) refl
  where
    place : Bool → Option ℕ → Option ℕ
    place here later = cond here (Some 0) (option_map (λ n. size_of item + n) later)

    by_mark :
        (is_bound label others ≡ true → HasPlace label others)
        → (here : Bool) → marks label item ≡ here → HasPlace label (item ∷ others)
    by_mark again true e = record {
      offset = 0;
      is = ap (λ here. place here (offset_of label others)) e;
      within = omega arith;
    }
    by_mark again false e =
        let later : HasPlace label others
        = again (sym (ap (λ here. here || is_bound label others) e) ∙ h) in
        let within : later.offset ≤ size_of_items others = later.within in
        record {
          offset = size_of item + later.offset;
          is = ap (λ here. place here (offset_of label others)) e ∙ ap (place false) later.is;
          within = omega (arith, within);
        }

wrap_small : (n : ℕ) → n ≤ SEGMENT_LIMIT → n ≡ wrap n
wrap_small n h = omega arith

label_placed :
    (label : ℕ) (items : List Item)
    → is_bound label items ≡ true
    → size_of_items items ≤ SEGMENT_LIMIT
    → offset_of label items ≡ Some (wrap (offset_in items label))
label_placed label items h fits =
    let has : HasPlace label items = bound_has label items h in
    let within : has.offset ≤ size_of_items items = has.within in
    let some : ℕ → Option ℕ = λ n. Some n in
    has.is ∙ ap some (wrap_small has.offset (omega (arith, within, fits)))
    ∙ ap (λ (place : Option ℕ). Some (wrap (unwrap_or place 0))) (sym has.is)

-- the code of an assembly
pub assembles :
    (assembly : Assembly) (places : List (Option ℕ))
    → IsAssembly assembly
    → AllBound assembly
    → size_of_items assembly.items ≤ SEGMENT_LIMIT
    → ((label : ℕ) → place_in places label ≡ offset_in assembly.items label)
    → Assembles assembly (code_of places assembly.items)
assembles assembly places is bound fits placed =
    let items : List Item = assembly.items in
    let layout : Layout = layout_from (offset_in items) in
    let size : length (bytes_of_items layout items) ≡ size_of_items items = items_length layout items in
    record {
      size = size;
      set = refl;
      fixes = refl;
      ascending = items_ascend 0 items;
      within = items_within 0 (length (bytes_of_items layout items)) items (omega (arith, size));
      filled =
          ap (λ cells. list_all (is_in_a_run Code (runs_from 0 cells)) (fixes_of_items 0 items))
          (cells_are layout items)
          ∙ items_filled layout 0 items;
      whole =
          ap (λ cells. words_are_whole (fixed_bytes (fixes_of_items 0 items) 0 cells))
          (cells_are layout items)
          ∙ ap words_are_whole (fixed_items layout 0 items)
          ∙ whole_items layout items;
      targets = λ count listed. items_fit assembly.labels count 0 items is.known listed;
      places = λ label known.
          label_placed label items (bound label (lt-ltb label assembly.labels known)) fits
          ∙ ap (λ n. Some (wrap n)) (sym (placed label));
      stands = λ address_of memory room h.
          items_stand (layout_at address_of assembly) memory (address_of (InSegment Code))
          (address_of (InSegment Code) + length (bytes_of_items layout items)) items is.once
          (labels_moved (address_of (InSegment Code)) items)
          (subst (SetBytesStand memory (address_of (InSegment Code))) (resolved_items address_of places items) h)
          (ap (λ n. address_of (InSegment Code) + n) (sym size));
    }
