-- Tables of places, and what code is made by them.
use Rattle.asm8080.proofs.Prelude.{◌≡◌, ℕ, zero, suc, ◌+◌, ◌<◌, ◌≤◌, ◌==◌, Bool, true, false, cond, ◌||◌, List, [], ◌∷◌, ◌++◌, length, replicate, Option, Some, None, option_map, is_some, unwrap_or, slice_set, Ok, Err, refl, sym, subst, ap, ◌∙◌, arith, All, fun_ext, eq-eqb, eqb-true, ltb-true, lt-ltb, append_assoc, length-append, length-replicate, All-head, All-tail, Fix, Target, SEGMENT_LIMIT, Item, Plain, WithWord, Byte, Address, Gap, Mark, Assembly, BoundOnce, IsAssembly, KnowsLabels, Layout, bytes_of_item, flags_of_item, flags_of_items, is_bound, marks, offset_of, size_of, size_of_items, AllBound, Assembled, Assembles, FitsSegment, IsFinished, fixes_of_items, place_in, target_of, with_fix, all_placed, bytes_of_items, code_of, fixes_of_item, layout_from, no_code, offset_in, places_after, places_of, with_item, with_items, with_mark, with_places}
use Rattle.asm8080.specs.declared.fault.Fault.TheVariants.{UnboundLabel, TooLong}
use Rattle.asm8080.proofs.ItemWords.{item_length}
use Rattle.asm8080.proofs.Assemblies.{assembles, flags_length}

-- the place of a label in a table, if there is one
abbrev place_at : List (Option ℕ) → (label : ℕ) → Option ℕ
place_at [] label = None
place_at (place ∷ others) zero = place
place_at (place ∷ others) (suc label) = place_at others label

place_in_is : (places : List (Option ℕ)) (label : ℕ)
    → place_in places label ≡ unwrap_or (place_at places label) 0
place_in_is [] label = refl
place_in_is (None ∷ others) zero = refl
place_in_is (Some place ∷ others) zero = refl
place_in_is (place ∷ others) (suc label) = place_in_is others label

-- a place of items, or else that of a table
abbrev or_place : Option ℕ → Option ℕ → Option ℕ
or_place None other = other
or_place (Some place) other = Some place

set_here :
    (places : List (Option ℕ)) (label offset : ℕ)
    → label < length places
    → place_at (slice_set places label (Some offset)) label ≡ Some offset
set_here [] label offset h = absurd (omega arith)
set_here (place ∷ others) zero offset h = refl
set_here (place ∷ others) (suc label) offset h = set_here others label offset (omega arith)

set_there :
    (places : List (Option ℕ)) (label other offset : ℕ)
    → (other ≡ label → ⊥)
    → place_at (slice_set places label (Some offset)) other ≡ place_at places other
set_there [] label other offset h = refl
set_there (place ∷ others) zero zero offset h = absurd (h refl)
set_there (place ∷ others) zero (suc other) offset h = refl
set_there (place ∷ others) (suc label) zero offset h = refl
set_there (place ∷ others) (suc label) (suc other) offset h =
    set_there others label other offset (λ e. h (ap (λ n. suc n) e))

set_length :
    (places : List (Option ℕ)) (label offset : ℕ)
    → length (slice_set places label (Some offset)) ≡ length places
set_length [] label offset = refl
set_length (place ∷ others) zero offset = refl
set_length (place ∷ others) (suc label) offset = ap (λ n. suc n) (set_length others label offset)

mark_length :
    (item : Item) (offset : ℕ) (places : List (Option ℕ))
    → length (with_mark item offset places) ≡ length places
mark_length (Plain instruction) offset places = refl
mark_length (WithWord form reference) offset places = refl
mark_length (Byte value) offset places = refl
mark_length (Address reference) offset places = refl
mark_length (Gap count) offset places = refl
mark_length (Mark label) offset places = set_length places label offset

after_length :
    (offset : ℕ) (items : List Item) (places : List (Option ℕ))
    → length (places_after offset items places) ≡ length places
after_length offset [] places = refl
after_length offset (item ∷ others) places =
    after_length (offset + size_of item) others (with_mark item offset places)
    ∙ mark_length item offset places

-- a label has a place in items where they bind it
pub bound_is : (label : ℕ) (items : List Item) → is_some (offset_of label items) ≡ is_bound label items
bound_is label [] = refl
bound_is label (item ∷ others) =
    by_mark (marks label item) (offset_of label others)
    ∙ ap (λ later. marks label item || later) (bound_is label others)
  where
    by_mark :
        (here : Bool) (later : Option ℕ)
        → is_some (cond here (Some 0) (option_map (λ n. size_of item + n) later)) ≡ (here || is_some later)
    by_mark true later = refl
    by_mark false None = refl
    by_mark false (Some n) = refl

not_bound : (label : ℕ) (items : List Item) → is_bound label items ≡ false → offset_of label items ≡ None
not_bound label items h = go (offset_of label items) (bound_is label items ∙ h)
  where
    go : (place : Option ℕ) → is_some place ≡ false → place ≡ None
    go None e = refl
    go (Some n) e = let bad : true ≡ false = e in cc

-- what the labels of items do to a table
later_place :
    (offset size : ℕ) (place other : Option ℕ)
    → or_place (option_map (λ n. offset + size + n) place) other
    ≡ or_place (option_map (λ n. offset + n) (option_map (λ n. size + n) place)) other
later_place offset size None other = refl
later_place offset size (Some n) other =
    let same : offset + size + n ≡ offset + (size + n) = omega arith in
    let some : ℕ → Option ℕ = λ place. Some place in
    ap some same

place_after :
    (labels offset label : ℕ) (items : List Item) (places : List (Option ℕ))
    → length places ≡ labels
    → All (KnowsLabels labels) items
    → BoundOnce items
    → place_at (places_after offset items places) label
    ≡ or_place (option_map (λ n. offset + n) (offset_of label items)) (place_at places label)
place_after labels offset label [] places size known once = refl
place_after labels offset label (Plain instruction ∷ others) places size known once =
    place_after labels (offset + size_of (Plain instruction)) label others places size
    (All-tail (KnowsLabels labels) (Plain instruction) others known) once.1
    ∙ later_place offset (size_of (Plain instruction)) (offset_of label others) (place_at places label)
place_after labels offset label (WithWord form reference ∷ others) places size known once =
    place_after labels (offset + 3) label others places size
    (All-tail (KnowsLabels labels) (WithWord form reference) others known) once.1
    ∙ later_place offset 3 (offset_of label others) (place_at places label)
place_after labels offset label (Byte value ∷ others) places size known once =
    place_after labels (offset + 1) label others places size
    (All-tail (KnowsLabels labels) (Byte value) others known) once.1
    ∙ later_place offset 1 (offset_of label others) (place_at places label)
place_after labels offset label (Address reference ∷ others) places size known once =
    place_after labels (offset + 2) label others places size
    (All-tail (KnowsLabels labels) (Address reference) others known) once.1
    ∙ later_place offset 2 (offset_of label others) (place_at places label)
place_after labels offset label (Gap count ∷ others) places size known once =
    place_after labels (offset + count) label others places size
    (All-tail (KnowsLabels labels) (Gap count) others known) once.1
    ∙ later_place offset count (offset_of label others) (place_at places label)
place_after labels offset label (Mark other ∷ others) places size known once =
    place_after labels (offset + 0) label others (slice_set places other (Some offset))
    (set_length places other offset ∙ size)
    (All-tail (KnowsLabels labels) (Mark other) others known) once.1
    ∙ by_test (label == other) refl
  where
    by_test :
        (same : Bool) → (label == other) ≡ same
        → or_place (option_map (λ n. offset + 0 + n) (offset_of label others))
        (place_at (slice_set places other (Some offset)) label)
        ≡ or_place
        (option_map (λ n. offset + n)
        (cond (label == other) (Some 0) (option_map (λ n. 0 + n) (offset_of label others))))
        (place_at places label)
    by_test true e =
        let within : other < length places
        = omega (arith, size, All-head (KnowsLabels labels) (Mark other) others known) in
        let here : place_at (slice_set places other (Some offset)) label ≡ Some offset
        = subst (λ n. place_at (slice_set places other (Some offset)) n ≡ Some offset)
        (sym (eqb-true label other e)) (set_here places other offset within) in
        let start : offset ≡ offset + 0 = omega arith in
        let some : ℕ → Option ℕ = λ n. Some n in
        let shown : Bool → Option ℕ
        = λ same. or_place (option_map (λ n. offset + n)
        (cond same (Some 0) (option_map (λ n. 0 + n) (offset_of label others)))) (place_at places label) in
        ap (λ (later : Option ℕ).
        or_place (option_map (λ n. offset + 0 + n) later)
        (place_at (slice_set places other (Some offset)) label))
        (not_bound label others (once.0 label e))
        ∙ here ∙ ap some start ∙ ap shown (sym e)
    by_test false e =
        let apart : label ≡ other → ⊥
        = λ same. absurd (let bad : true ≡ false
        = sym (eq-eqb label other same) ∙ e in cc) in
        let shown : Bool → Option ℕ
        = λ same. or_place (option_map (λ n. offset + n)
        (cond same (Some 0) (option_map (λ n. 0 + n) (offset_of label others)))) (place_at places label) in
        ap (λ (before : Option ℕ). or_place
        (option_map (λ n. offset + 0 + n) (offset_of label others)) before)
        (set_there places other label offset apart)
        ∙ later_place offset 0 (offset_of label others) (place_at places label)
        ∙ ap shown (sym e)

no_place : (labels label : ℕ) → place_at (replicate labels None) label ≡ None
no_place zero label = refl
no_place (suc labels) zero = refl
no_place (suc labels) (suc label) = no_place labels label

pub place_is :
    (assembly : Assembly) (label : ℕ)
    → IsAssembly assembly
    → place_at (places_of assembly.labels assembly.items) label ≡ offset_of label assembly.items
place_is assembly label is =
    place_after assembly.labels 0 label assembly.items (replicate assembly.labels None)
    (length-replicate assembly.labels None) is.known is.once
    ∙ ap (λ (other : Option ℕ). or_place (option_map (λ n. 0 + n) (offset_of label assembly.items)) other)
    (no_place assembly.labels label)
    ∙ from_start (offset_of label assembly.items)
  where
    from_start : (place : Option ℕ) → or_place (option_map (λ n. 0 + n) place) None ≡ place
    from_start None = refl
    from_start (Some n) =
        let same : 0 + n ≡ n = omega arith in
        let some : ℕ → Option ℕ = λ m. Some m in
        ap some same

-- all labels are bound where each has a place
some_placed :
    (places : List (Option ℕ)) (label : ℕ)
    → all_placed places ≡ true
    → label < length places
    → is_some (place_at places label) ≡ true
some_placed [] label h within = absurd (omega arith)
some_placed (None ∷ others) label h within = let bad : false ≡ true = h in cc
some_placed (Some place ∷ others) zero h within = refl
some_placed (Some place ∷ others) (suc label) h within = some_placed others label h (omega arith)

placed_all :
    (places : List (Option ℕ))
    → ((label : ℕ) → label < length places → is_some (place_at places label) ≡ true)
    → all_placed places ≡ true
placed_all [] h = refl
placed_all (None ∷ others) h = let bad : false ≡ true = h zero (omega arith) in cc
placed_all (Some place ∷ others) h = placed_all others (λ label within. h (suc label) (omega arith))

places_length : (assembly : Assembly) → length (places_of assembly.labels assembly.items) ≡ assembly.labels
places_length assembly =
    after_length 0 assembly.items (replicate assembly.labels None) ∙ length-replicate assembly.labels None

label_bound :
    (assembly : Assembly) (label : ℕ)
    → IsAssembly assembly
    → is_some (place_at (places_of assembly.labels assembly.items) label) ≡ is_bound label assembly.items
label_bound assembly label is =
    ap (λ place. is_some place) (place_is assembly label is) ∙ bound_is label assembly.items

pub all_bound :
    (assembly : Assembly)
    → IsAssembly assembly
    → all_placed (places_of assembly.labels assembly.items) ≡ true
    → AllBound assembly
all_bound assembly is h label within =
    let few : label < assembly.labels = ltb-true label assembly.labels within in
    sym (label_bound assembly label is)
    ∙ some_placed (places_of assembly.labels assembly.items) label h (omega (arith, places_length assembly))

pub all_placed_if_bound :
    (assembly : Assembly)
    → IsAssembly assembly
    → AllBound assembly
    → all_placed (places_of assembly.labels assembly.items) ≡ true
all_placed_if_bound assembly is bound =
    placed_all (places_of assembly.labels assembly.items)
    (λ label within.
    label_bound assembly label is
    ∙ bound label (lt-ltb label assembly.labels (omega (arith, places_length assembly))))

-- code item by item
before_more :
    (offset : ℕ) (target : Option Target) (others : List Fix)
    → with_fix offset target [] ++ others ≡ with_fix offset target others
before_more offset None others = refl
before_more offset (Some target) others = refl

fixes_split :
    (offset : ℕ) (item : Item) (others : List Item)
    → fixes_of_item offset item ++ fixes_of_items (offset + size_of item) others
    ≡ fixes_of_items offset (item ∷ others)
fixes_split offset (Plain instruction) others = refl
fixes_split offset (WithWord form reference) others =
    before_more (offset + 1) (target_of reference) (fixes_of_items (offset + 3) others)
fixes_split offset (Byte value) others = refl
fixes_split offset (Address reference) others =
    before_more offset (target_of reference) (fixes_of_items (offset + 2) others)
fixes_split offset (Gap count) others = refl
fixes_split offset (Mark label) others = refl

same_code :
    (code : Assembled) (bytes bytes_after : List ℕ) (flags flags_after : List Bool)
    (fixes fixes_after : List Fix)
    → bytes ≡ bytes_after
    → flags ≡ flags_after
    → fixes ≡ fixes_after
    → ◌≡◌ {A = Assembled}
    (record code { bytes = bytes; is_set = flags; fixes = fixes })
    (record code { bytes = bytes_after; is_set = flags_after; fixes = fixes_after })
same_code code bytes bytes_after flags flags_after fixes fixes_after e g f =
    let first : List ℕ → Assembled = λ xs. record code { bytes = xs; is_set = flags; fixes = fixes } in
    let second : List Bool → Assembled =
    λ bs. record code { bytes = bytes_after; is_set = bs; fixes = fixes } in
    let third : List Fix → Assembled
    = λ ys. record code { bytes = bytes_after; is_set = flags_after; fixes = ys } in
    ap first e ∙ ap second g ∙ ap third f

nothing_after : {A : Type 0} (xs : List A) → xs ≡ xs ++ []
nothing_after [] = refl
nothing_after (x ∷ xs) = ap (λ ys. x ∷ ys) (nothing_after xs)

pub items_added :
    (layout : Layout) (code : Assembled) (items : List Item)
    → with_items layout code items
    ≡ record code {
      bytes = code.bytes ++ bytes_of_items layout items;
      is_set = code.is_set ++ flags_of_items items;
      fixes = code.fixes ++ fixes_of_items (length code.bytes) items;
    }
items_added layout code [] =
    same_code code code.bytes (code.bytes ++ []) code.is_set (code.is_set ++ []) code.fixes (code.fixes ++ [])
    (nothing_after code.bytes) (nothing_after code.is_set) (nothing_after code.fixes)
items_added layout code (item ∷ others) =
    let here : List ℕ = bytes_of_item layout item in
    let end : length (code.bytes ++ here) ≡ length code.bytes + size_of item
    = length-append code.bytes here ∙ ap (λ n. length code.bytes + n) (item_length layout item) in
    items_added layout (with_item layout code item) others
    ∙ same_code code
    ((code.bytes ++ here) ++ bytes_of_items layout others)
    (code.bytes ++ (here ++ bytes_of_items layout others))
    ((code.is_set ++ flags_of_item item) ++ flags_of_items others)
    (code.is_set ++ (flags_of_item item ++ flags_of_items others))
    ((code.fixes ++ fixes_of_item (length code.bytes) item)
    ++ fixes_of_items (length (code.bytes ++ here)) others)
    (code.fixes ++ fixes_of_items (length code.bytes) (item ∷ others))
    (append_assoc code.bytes here (bytes_of_items layout others))
    (append_assoc code.is_set (flags_of_item item) (flags_of_items others))
    (append_assoc code.fixes (fixes_of_item (length code.bytes) item)
    (fixes_of_items (length (code.bytes ++ here)) others)
    ∙ ap (λ (fixes : List Fix). code.fixes ++ fixes)
    (ap (λ n. fixes_of_item (length code.bytes) item ++ fixes_of_items n others) end
    ∙ fixes_split (length code.bytes) item others))

place_same :
    (assembly : Assembly) (label : ℕ)
    → IsAssembly assembly
    → place_in (places_of assembly.labels assembly.items) label ≡ offset_in assembly.items label
place_same assembly label is =
    place_in_is (places_of assembly.labels assembly.items) label
    ∙ ap (λ (place : Option ℕ). unwrap_or place 0) (place_is assembly label is)

places_same :
    (assembly : Assembly)
    → IsAssembly assembly
    → ◌≡◌ {A = (label : ℕ) → ℕ} (place_in (places_of assembly.labels assembly.items))
    (offset_in assembly.items)
places_same assembly is = fun_ext (λ label. place_same assembly label is)

pub code_is :
    (assembly : Assembly)
    → IsAssembly assembly
    → with_places (places_of assembly.labels assembly.items)
    (with_items (layout_from (place_in (places_of assembly.labels assembly.items))) no_code assembly.items)
    ≡ code_of (places_of assembly.labels assembly.items) assembly.items
code_is assembly is =
    let placed : Assembled → Assembled = with_places (places_of assembly.labels assembly.items) in
    let by : ((label : ℕ) → ℕ) → Assembled
    = λ place_of. placed (with_items (layout_from place_of) no_code assembly.items) in
    ap by (places_same assembly is)
    ∙ ap placed
    (items_added (layout_from (offset_in assembly.items)) no_code assembly.items)

-- What assembling answers, by the slices that it looks at.
pub record Table (view : Assembly) (items : List Item) (places : List (Option ℕ)) : Type 0 where
  pub is : IsAssembly view
  pub same : items ≡ view.items
  pub table : places ≡ places_of view.labels view.items

pub table_of :
    (view inside : Assembly) (slice : List Item) (made places : List (Option ℕ))
    → inside ≡ view
    → IsAssembly inside
    → slice ≡ inside.items
    → made ≡ places_of inside.labels slice
    → places ≡ made
    → Table view slice places
table_of view inside slice made places shown is same table again =
    subst (λ (assembly : Assembly). Table assembly slice places) shown
    (record { is = is; same = same; table = again ∙ table ∙ ap (places_of inside.labels) same })

-- the code with its table of places
pub with_table :
    (slice : List Item) (places table : List (Option ℕ)) (inside code : Assembled)
    → places ≡ table
    → inside ≡ with_items (layout_from (place_in places)) no_code slice
    → code ≡ with_places table inside
    → code ≡ with_places places (with_items (layout_from (place_in places)) no_code slice)
with_table slice places table inside code shown made is =
    is ∙ ap (λ them. with_places them inside) (sym shown) ∙ ap (with_places places) made

pub finished :
    (view : Assembly) (slice : List Item) (places : List (Option ℕ)) (placed : Bool)
    (size : ℕ) (code : Assembled)
    → Table view slice places
    → placed ≡ all_placed places
    → placed ≡ true
    → size ≡ size_of_items slice
    → size ≤ SEGMENT_LIMIT
    → code ≡ with_places places (with_items (layout_from (place_in places)) no_code slice)
    → IsFinished view (Ok code)
finished view slice places placed size code t test holds sum small made =
    let by : List (Option ℕ) → List Item → Assembled
    = λ them items. with_places them (with_items (layout_from (place_in them)) no_code items) in
    let same : code ≡ code_of (places_of view.labels view.items) view.items
    = made ∙ ap (by places) t.same ∙ ap (λ them. by them view.items) t.table ∙ code_is view t.is in
    let bound : AllBound view
    = all_bound view t.is (ap (λ them. all_placed them) (sym t.table) ∙ sym test ∙ holds) in
    let fits : size_of_items view.items ≤ SEGMENT_LIMIT
    = subst (λ n. n ≤ SEGMENT_LIMIT) (sum ∙ ap size_of_items t.same) small in (
      bound,
      fits,
      subst (Assembles view) (sym same) (assembles view (places_of view.labels view.items) t.is bound fits
          (λ label. place_same view label t.is)),
    )

pub unbound :
    (view : Assembly) (slice : List Item) (places : List (Option ℕ)) (placed : Bool)
    → Table view slice places
    → placed ≡ all_placed places
    → placed ≡ false
    → IsFinished view (Err UnboundLabel)
unbound view slice places placed t test fails bound =
    let bad : true ≡ false
    = sym (all_placed_if_bound view t.is bound) ∙ ap (λ them. all_placed them) (sym t.table)
    ∙ sym test ∙ fails in
    cc

pub too_long :
    (view : Assembly) (slice : List Item) (places : List (Option ℕ)) (placed : Bool) (size : ℕ)
    → Table view slice places
    → placed ≡ all_placed places
    → placed ≡ true
    → size ≡ size_of_items slice
    → SEGMENT_LIMIT < size
    → IsFinished view (Err TooLong)
too_long view slice places placed size t test holds sum long =
    let over : SEGMENT_LIMIT < size_of_items view.items
    = subst (λ n. SEGMENT_LIMIT < n) (sum ∙ ap size_of_items t.same) long in (
      all_bound view t.is (ap (λ them. all_placed them) (sym t.table) ∙ sym test ∙ holds),
      omega (arith, over),
    )

-- and what was made keeps to what a segment does
pub fits_segment : (view : Assembly) (code : Assembled) → IsFinished view (Ok code) → FitsSegment code
fits_segment view code is =
    let size : length code.bytes ≡ size_of_items view.items = is.2.size in
    let few : size_of_items view.items ≤ SEGMENT_LIMIT = is.1 in
    record {
      few = omega (arith, size, few);
      told = ap (λ (flags : List Bool). length flags) is.2.set ∙ flags_length view.items ∙ sym size;
      ascending = is.2.ascending;
      within = is.2.within;
    }
