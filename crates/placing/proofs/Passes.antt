-- What is left of a list that is looked at by a number, and one pass over the modules.
use Rattle.placing.proofs.Prelude.{◌≡◌, ℕ, suc, ◌+◌, ◌-◌, ◌≤◌, List, [], ◌∷◌, ◌++◌, length, take, drop, get_or, map, Some, refl, ap, sym, ◌∙◌, add-one, append_assoc, arith, slice_get, sum, zip, drop-cons, take_all, map-append, sum_by-cons, slice_get_within, get_or_from_slice_get, Typed, module_view, Layout, Bases, ModulePlacement, module_placement_by, Storage, layout_view, CodeModulePlacement, module_placement_view, bases_after, placements_from, layout_sizes}
pub use Rattle.trees.proofs.Lists.{drop_item, drop_past}

-- where there is an item, and where there is none
pub found_first :
    {A : Type 0} (items : List A) (number : ℕ) (item : A)
    → slice_get items number ≡ Some item
    → drop number items ≡ item ∷ drop (number + 1) items
found_first items number item found =
    drop-cons items number item (slice_get_within items number item found)
    ∙ ap (λ first. first ∷ drop (suc number) items) (get_or_from_slice_get items number item item found)
    ∙ ap (λ n. item ∷ drop n items) (sym (add-one number))

abbrev pub nothing : {B : Type 0} → List B
nothing = []

pub zip_nothing : {A B : Type 0} (items : List A) → zip items (nothing {B = B}) ≡ []
zip_nothing [] = refl
zip_nothing (item ∷ others) = refl

-- the others of items, of which the first is known
abbrev others_of : {A : Type 0} → List A → List A
others_of items = take (length items - 1) (drop 1 items)

first_is : {A : Type 0} (items : List A) (first : A) → 1 ≤ length items → first ≡ get_or items 0 first
    → items ≡ first ∷ others_of items
first_is [] first some is = absurd (omega arith)
first_is (item ∷ others) first some is =
    ap (λ front. front ∷ others) (sym is)
    ∙ ap (λ rest. first ∷ rest) (sym (take_all (length (item ∷ others) - 1) others (omega arith)))

first_number : (numbers : List ℕ) → get_or numbers 0 0 ≡ get_or numbers 0 (get_or numbers 0 0)
first_number [] = refl
first_number (number ∷ others) = refl

-- one module more is placed
pub module_placed :
    (bases after : Bases) (made new : List CodeModulePlacement) (total : List ModulePlacement)
    (modules : List Typed) (layouts : List Layout) (lengths : List ℕ)
    (typed : Typed) (layout : Layout) (placed : CodeModulePlacement)
    → map module_placement_view made ++ placements_from bases (map module_view modules)
    (map layout_view layouts) lengths ≡ total
    → 1 ≤ length modules → typed ≡ get_or modules 0 typed
    → 1 ≤ length layouts → layout ≡ get_or layouts 0 layout
    → 1 ≤ length lengths
    → module_placement_view placed ≡ module_placement_by bases (module_view typed) (layout_view layout)
    → new ≡ made ++ placed ∷ []
    → after ≡ bases_after bases (layout_view layout) (get_or lengths 0 0)
    → map module_placement_view new
    ++ placements_from after (map module_view (others_of modules))
    (map layout_view (others_of layouts)) (others_of lengths)
    ≡ total
module_placed bases after made new total modules layouts lengths typed layout placed rest some is found there
    counted given pushed next =
    ap (λ items. map module_placement_view items
    ++ placements_from after (map module_view (others_of modules)) (map layout_view (others_of layouts))
    (others_of lengths)) pushed
    ∙ ap (λ items. items
    ++ placements_from after (map module_view (others_of modules)) (map layout_view (others_of layouts))
    (others_of lengths))
    (map-append module_placement_view made (placed ∷ []))
    ∙ append_assoc (map module_placement_view made) (module_placement_view placed ∷ [])
    (placements_from after (map module_view (others_of modules)) (map layout_view (others_of layouts))
    (others_of lengths))
    ∙ (λ i. map module_placement_view made
    ++ given i
    ∷ placements_from (next i) (map module_view (others_of modules)) (map layout_view (others_of layouts))
    (others_of lengths))
    ∙ sym (λ i. map module_placement_view made
    ++ placements_from bases (map module_view (first_is modules typed some is i))
    (map layout_view (first_is layouts layout found there i))
    (first_is lengths (get_or lengths 0 0) counted (first_number lengths) i))
    ∙ rest

-- the segments of the next module end in memory, and so do those that are left
code_split : (lengths : List ℕ) → 1 ≤ length lengths
    → sum lengths ≡ get_or lengths 0 0 + sum (others_of lengths)
code_split lengths some =
    ap sum (first_is lengths (get_or lengths 0 0) some (first_number lengths))
    ∙ sum_by-cons (λ (n : ℕ). n) (get_or lengths 0 0) (others_of lengths)

pub code_within :
    (lengths : List ℕ) (base : ℕ) → 1 ≤ length lengths → base + sum lengths ≤ 65536
    → base + get_or lengths 0 0 ≤ 65536
code_within lengths base some within = omega (arith, code_split lengths some, within)

pub code_left :
    (lengths : List ℕ) (base next : ℕ) → 1 ≤ length lengths → base + sum lengths ≤ 65536
    → next ≡ base + get_or lengths 0 0
    → next + sum (others_of lengths) ≤ 65536
code_left lengths base next some within is = omega (arith, code_split lengths some, within, is)

data_split :
    (layouts : List Layout) (first : Layout) → 1 ≤ length layouts → first ≡ get_or layouts 0 first
    → layout_sizes layouts ≡ first.data_size + layout_sizes (others_of layouts)
data_split layouts first some there =
    ap layout_sizes (first_is layouts first some there)
    ∙ sum_by-cons (λ (storage : Storage). storage.data_size) (layout_view first)
    (map layout_view (others_of layouts))

pub data_within :
    (layouts : List Layout) (first : Layout) (base : ℕ) → 1 ≤ length layouts → first ≡ get_or layouts 0 first
    → base + layout_sizes layouts ≤ 65536
    → base + first.data_size ≤ 65536
data_within layouts first base some there within = omega (arith, data_split layouts first some there, within)

pub data_left :
    (layouts : List Layout) (first : Layout) (base next : ℕ) → 1 ≤ length layouts
    → first ≡ get_or layouts 0 first
    → base + layout_sizes layouts ≤ 65536
    → next ≡ base + first.data_size
    → next + layout_sizes (others_of layouts) ≤ 65536
data_left layouts first base next some there within is =
    omega (arith, data_split layouts first some there, within, is)
