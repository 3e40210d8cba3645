-- The bytes of a segment that was assembled: they are those of its items, each target at 0.
use Rattle.program_laws.proofs.Prelude.{◌≡◌, ℕ, zero, suc, ◌+◌, ◌<◌, ◌≤◌, Bool, true, false, List, [], ◌∷◌, ◌++◌, length, map, replicate, Option, Some, None, option_map, is_some, refl, sym, ap, subst, ◌∙◌, arith, slice_get, unwrap_or, AllByRecursion, slice_get_within, slice_get-map, get_or_from_slice_get, MEMORY_SIZE, byte_at, wrap, bytes_of, Fix, FixKind, Low, High, Both, Target, Fixup, SetByte, after_fixup, bytes_resolved, first_byte_moved, moved_after, value_after, value_moved, Item, Plain, WithWord, Byte, Address, Gap, Mark, Assembled, Assembles, fixed_bytes, fixes_of_items, layout_at, places_of, set_bytes, Assembly, Layout, Stands, bytes_of_item, flags_of_items, size_of, BytesStand, SetBytesStand, flags_length, cells_of_items, fixed_items, set_of_items, item_length, set_length}

-- each target at 0
abbrev pub at_zero : Target → ℕ
at_zero target = 0

-- a byte, if it is set, has eight bits
abbrev pub IsCell : Option ℕ → Type 0
IsCell None = Unit {0}
IsCell (Some value) = value < 256

abbrev pub HasByte : Option SetByte → Type 0
HasByte None = Unit {0}
HasByte (Some here) = here.value < 256

-- the byte at a place
abbrev cell_of : Option SetByte → Option ℕ
cell_of place = option_map (λ (here : SetByte). here.value) place

-- Where targets are at 0 bytes stay what they are.
after_fix :
    (first value : ℕ) (kind : FixKind) (target : Target)
    → first < 256 → value < 256
    → after_fixup at_zero first value (Some (record { kind = kind; target = target })) ≡ value
after_fix first value Low target small here = refl
after_fix first value High target small here = refl
after_fix first value Both target small here = omega (arith, small, here)

moved_by :
    (value : ℕ) (kind : FixKind) → value < 256 → first_byte_moved kind value 0 ≡ value
moved_by value Low here = omega (arith, here)
moved_by value High here = omega (arith, here)
moved_by value Both here = omega (arith, here)

after_place :
    (before : Option SetByte) (value : ℕ)
    → HasByte before → value < 256
    → value_after at_zero before value ≡ value
after_place None value small here = refl
after_place (Some before) value small here = by before.fixup
  where
    by : (fixup : Option Fixup) → after_fixup at_zero before.value value fixup ≡ value
    by None = refl
    by (Some fixup) = after_fix before.value value fixup.kind fixup.target small here

value_stays :
    (before : Option SetByte) (value : ℕ) (fixup : Option Fixup)
    → HasByte before → value < 256
    → value_moved at_zero before (record { value = value; fixup = fixup }) ≡ value
value_stays before value None small here = after_place before value small here
value_stays before value (Some fixup) small here = moved_by value fixup.kind here

values_stay :
    (before : Option SetByte) (places : List (Option SetByte))
    → HasByte before
    → AllByRecursion HasByte places
    → map cell_of (moved_after at_zero (λ target. None) before places) ≡ map cell_of places
values_stay before [] small all = refl
values_stay before (None ∷ others) small all =
    ap (λ (cells : List (Option ℕ)). None ∷ cells) (values_stay None others tt all.1)
values_stay before (Some here ∷ others) small all =
    ap (λ (value : ℕ). Some value ∷ map cell_of (moved_after at_zero (λ target. None) (Some here) others))
    (value_stays before here.value here.fixup small all.0)
    ∙ ap (λ (cells : List (Option ℕ)). Some here.value ∷ cells) (values_stay (Some here) others all.0 all.1)

-- the bytes of places are those that were fixed
pub cells_of_places :
    (fixes : List Fix) (offset : ℕ) (cells : List (Option ℕ))
    → map cell_of (fixed_bytes fixes offset cells) ≡ cells
cells_of_places fixes offset [] = refl
cells_of_places fixes offset (None ∷ others) =
    ap (λ (cells : List (Option ℕ)). None ∷ cells) (cells_of_places fixes (offset + 1) others)
cells_of_places fixes offset (Some value ∷ others) =
    ap (λ (cells : List (Option ℕ)). Some value ∷ cells) (cells_of_places fixes (offset + 1) others)

pub bytes_of_cells :
    (fixes : List Fix) (offset : ℕ) (cells : List (Option ℕ))
    → AllByRecursion IsCell cells
    → AllByRecursion HasByte (fixed_bytes fixes offset cells)
bytes_of_cells fixes offset [] all = tt
bytes_of_cells fixes offset (None ∷ others) all = (tt, bytes_of_cells fixes (offset + 1) others all.1)
bytes_of_cells fixes offset (Some value ∷ others) all =
    (all.0, bytes_of_cells fixes (offset + 1) others all.1)

-- and the other way round
pub cells_of_bytes :
    (fixes : List Fix) (offset : ℕ) (cells : List (Option ℕ))
    → AllByRecursion HasByte (fixed_bytes fixes offset cells)
    → AllByRecursion IsCell cells
cells_of_bytes fixes offset [] all = tt
cells_of_bytes fixes offset (None ∷ others) all = (tt, cells_of_bytes fixes (offset + 1) others all.1)
cells_of_bytes fixes offset (Some value ∷ others) all =
    (all.0, cells_of_bytes fixes (offset + 1) others all.1)

-- Bytes that are set stand in a memory that has them.
stand_by :
    (memory : List ℕ) (from : ℕ) (cells : List (Option ℕ))
    → ((index value : ℕ)
    → slice_get cells index ≡ Some (Some value)
    → byte_at memory (wrap (from + index)) ≡ value)
    → SetBytesStand memory from cells
stand_by memory from [] has = tt
stand_by memory from (None ∷ others) has =
    stand_by memory (from + 1) others (λ index value found. later index ∙ has (suc index) value found)
  where
    later : (index : ℕ) → byte_at memory (wrap (from + 1 + index)) ≡ byte_at memory (wrap (from + suc index))
    later index =
        let same : from + 1 + index ≡ from + suc index = omega arith in ap (λ n. byte_at memory (wrap n)) same
stand_by memory from (Some byte ∷ others) has = (
  (let same : from ≡ from + 0 = omega arith in ap (λ n. byte_at memory (wrap n)) same) ∙ has 0 byte refl,
  stand_by memory (from + 1) others (λ index value found. later index ∙ has (suc index) value found),
)
  where
    later : (index : ℕ) → byte_at memory (wrap (from + 1 + index)) ≡ byte_at memory (wrap (from + suc index))
    later index =
        let same : from + 1 + index ≡ from + suc index = omega arith in ap (λ n. byte_at memory (wrap n)) same

-- a memory with bytes from 0 on
abbrev or_zero : Option ℕ → ℕ
or_zero cell = unwrap_or cell 0

abbrev memory_of : List (Option ℕ) → List ℕ
memory_of cells = map or_zero cells

stand_at_zero :
    (cells : List (Option ℕ)) → length cells ≤ MEMORY_SIZE → SetBytesStand (memory_of cells) 0 cells
stand_at_zero cells small = stand_by (memory_of cells) 0 cells there
  where
    there : (index value : ℕ) → slice_get cells index ≡ Some (Some value)
        → byte_at (memory_of cells) (wrap (0 + index)) ≡ value
    there index value found =
        let within = slice_get_within cells index (Some value) found in
        let same : wrap (0 + index) ≡ index = omega (arith, within, small) in
        ap (byte_at (memory_of cells)) same
        ∙ get_or_from_slice_get (memory_of cells) index value 0
        (slice_get-map or_zero cells index ∙ ap (λ (got : Option (Option ℕ)). option_map or_zero got) found)

-- What stands in a memory as bytes and as items is the same.
same_bytes :
    (memory bytes : List ℕ) (from : ℕ) (cells out : List (Option ℕ)) (more : List Bool)
    → map is_some cells ≡ replicate (length bytes) true ++ more
    → SetBytesStand memory from cells
    → BytesStand memory from bytes
    → ((rest : List (Option ℕ))
    → map is_some rest ≡ more
    → SetBytesStand memory (from + length bytes) rest
    → rest ≡ out)
    → cells ≡ map Some bytes ++ out
same_bytes memory [] from cells out more flags set stands rest =
    rest cells flags
    (let same : from ≡ from + 0 = omega arith in subst (λ n. SetBytesStand memory n cells) same set)
same_bytes memory (byte ∷ bytes) from [] out more flags set stands rest = absurd (cc)
same_bytes memory (byte ∷ bytes) from (None ∷ cells) out more flags set stands rest = absurd (cc)
same_bytes memory (byte ∷ bytes) from (Some cell ∷ cells) out more flags set stands rest =
    ap (λ (value : ℕ). Some value ∷ cells) (sym set.0 ∙ stands.0)
    ∙ ap (λ (others : List (Option ℕ)). Some byte ∷ others)
    (same_bytes memory bytes (from + 1) cells out more (tail flags) set.1 stands.1
    (λ others is there.
    rest others is
    (let same : from + 1 + length bytes ≡ from + suc (length bytes) = omega arith in
    subst (λ n. SetBytesStand memory n others) same there)))
  where
    tail : {x y : Bool} {xs ys : List Bool} → ◌≡◌ {A = List Bool} (x ∷ xs) (y ∷ ys) → xs ≡ ys
    tail same = cc

-- those of an item of a size
same_item :
    (memory bytes : List ℕ) (size from : ℕ) (cells out : List (Option ℕ)) (more : List Bool)
    → length bytes ≡ size
    → map is_some cells ≡ replicate size true ++ more
    → SetBytesStand memory from cells
    → BytesStand memory from bytes
    → ((rest : List (Option ℕ))
    → map is_some rest ≡ more
    → SetBytesStand memory (from + size) rest
    → rest ≡ out)
    → cells ≡ map Some bytes ++ out
same_item memory bytes size from cells out more sized flags set stands rest =
    same_bytes memory bytes from cells out more
    (flags ∙ ap (λ n. replicate n true ++ more) (sym sized)) set stands
    (λ others is there. rest others is (subst (λ n. SetBytesStand memory (from + n) others) sized there))

-- and those of a gap
same_gap :
    (memory : List ℕ) (count from : ℕ) (cells out : List (Option ℕ)) (more : List Bool)
    → map is_some cells ≡ replicate count false ++ more
    → SetBytesStand memory from cells
    → ((rest : List (Option ℕ))
    → map is_some rest ≡ more
    → SetBytesStand memory (from + count) rest
    → rest ≡ out)
    → cells ≡ replicate count None ++ out
same_gap memory zero from cells out more flags set rest =
    rest cells flags
    (let same : from ≡ from + 0 = omega arith in subst (λ n. SetBytesStand memory n cells) same set)
same_gap memory (suc count) from [] out more flags set rest = absurd (cc)
same_gap memory (suc count) from (Some cell ∷ cells) out more flags set rest = absurd (cc)
same_gap memory (suc count) from (None ∷ cells) out more flags set rest =
    ap (λ (others : List (Option ℕ)). None ∷ others)
    (same_gap memory count (from + 1) cells out more (tail flags) set
    (λ others is there. rest others is (let same : from + 1 + count ≡ from + suc count = omega arith in
    subst (λ n. SetBytesStand memory n others) same there)))
  where
    tail : {x y : Bool} {xs ys : List Bool} → ◌≡◌ {A = List Bool} (x ∷ xs) (y ∷ ys) → xs ≡ ys
    tail same = cc

cells_by_items :
    (layout : Layout) (memory : List ℕ) (items : List Item) (from to : ℕ) (cells : List (Option ℕ))
    → map is_some cells ≡ flags_of_items items
    → SetBytesStand memory from cells
    → Stands layout memory items from to
    → cells ≡ cells_of_items layout items
cells_by_items layout memory [] from to [] flags set stands = refl
cells_by_items layout memory [] from to (cell ∷ cells) flags set stands = absurd (cc)
cells_by_items layout memory (Plain instruction ∷ others) from to cells flags set stands =
    same_item memory (bytes_of instruction) (size_of (Plain instruction)) from cells
    (cells_of_items layout others)
    (flags_of_items others) refl flags set stands.0
    (λ rest is there.
    cells_by_items layout memory others (from + size_of (Plain instruction)) to rest is there stands.1)
cells_by_items layout memory (WithWord form reference ∷ others) from to cells flags set stands =
    same_item memory (bytes_of_item layout (WithWord form reference)) 3 from cells
    (cells_of_items layout others)
    (flags_of_items others) (item_length layout (WithWord form reference)) flags set stands.0
    (λ rest is there. cells_by_items layout memory others (from + 3) to rest is there stands.1)
cells_by_items layout memory (Byte value ∷ others) from to cells flags set stands =
    same_item memory (value ∷ []) 1 from cells (cells_of_items layout others)
    (flags_of_items others) refl flags set stands.0
    (λ rest is there. cells_by_items layout memory others (from + 1) to rest is there stands.1)
cells_by_items layout memory (Address reference ∷ others) from to cells flags set stands =
    same_item memory (bytes_of_item layout (Address reference)) 2 from cells (cells_of_items layout others)
    (flags_of_items others) refl flags set stands.0
    (λ rest is there. cells_by_items layout memory others (from + 2) to rest is there stands.1)
cells_by_items layout memory (Gap count ∷ others) from to cells flags set stands =
    same_gap memory count from cells (cells_of_items layout others) (flags_of_items others) flags set
    (λ rest is there. cells_by_items layout memory others (from + count) to rest is there stands)
cells_by_items layout memory (Mark label ∷ others) from to cells flags set stands =
    cells_by_items layout memory others from to cells flags set stands.1

-- of each byte it is said whether it is set
flags_of_set :
    (bytes : List ℕ) (flags : List Bool) → length flags ≡ length bytes
    → map is_some (set_bytes bytes flags) ≡ flags
flags_of_set [] [] same = refl
flags_of_set [] (flag ∷ flags) same = absurd (omega (arith, same))
flags_of_set (byte ∷ bytes) [] same = absurd (omega (arith, same))
flags_of_set (byte ∷ bytes) (true ∷ flags) same =
    ap (λ (rest : List Bool). true ∷ rest) (flags_of_set bytes flags (omega (arith, same)))
flags_of_set (byte ∷ bytes) (false ∷ flags) same =
    ap (λ (rest : List Bool). false ∷ rest) (flags_of_set bytes flags (omega (arith, same)))

-- What was assembled has the bytes of its items.
pub cells_are :
    (assembly : Assembly) (code : Assembled)
    → Assembles assembly code
    → length code.bytes ≤ MEMORY_SIZE
    → AllByRecursion IsCell (set_bytes code.bytes code.is_set)
    → set_bytes code.bytes code.is_set ≡ cells_of_items (layout_at at_zero assembly) assembly.items
cells_are assembly code is small all =
    cells_by_items (layout_at at_zero assembly) (memory_of cells) assembly.items 0
    (0 + length code.bytes) cells
    (flags_of_set code.bytes code.is_set told ∙ is.set)
    standing
    (is.stands at_zero (memory_of cells) (omega (arith, small))
    (subst (λ (bytes : List (Option ℕ)). SetBytesStand (memory_of cells) 0 bytes) (sym still) standing))
  where
    cells : List (Option ℕ)
    cells = set_bytes code.bytes code.is_set

    told : length code.is_set ≡ length code.bytes
    told = ap (λ (flags : List Bool). length flags) is.set ∙ flags_length assembly.items ∙ sym is.size

    standing : SetBytesStand (memory_of cells) 0 cells
    standing =
        stand_at_zero cells (let same = set_length code.bytes code.is_set in omega (arith, same, small))

    still : bytes_resolved at_zero (places_of code) ≡ cells
    still =
        values_stay None (places_of code) tt (bytes_of_cells code.fixes 0 cells all)
        ∙ cells_of_places code.fixes 0 cells

-- and its fixes at their places
pub places_are :
    (assembly : Assembly) (code : Assembled)
    → Assembles assembly code
    → length code.bytes ≤ MEMORY_SIZE
    → AllByRecursion IsCell (set_bytes code.bytes code.is_set)
    → places_of code ≡ set_of_items (layout_at at_zero assembly) assembly.items
places_are assembly code is small all =
    ap (λ (fixes : List Fix). fixed_bytes fixes 0 (set_bytes code.bytes code.is_set)) is.fixes
    ∙ ap (fixed_bytes (fixes_of_items 0 assembly.items) 0) (cells_are assembly code is small all)
    ∙ fixed_items (layout_at at_zero assembly) 0 assembly.items
