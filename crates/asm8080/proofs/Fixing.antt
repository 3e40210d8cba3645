-- The bytes of items with their fixes.
use Rattle.asm8080.proofs.Prelude.{◌≡◌, ℕ, zero, suc, ◌+◌, ◌<◌, ◌==◌, Bool, true, false, cond, List, [], ◌∷◌, ◌++◌, length, map, replicate, Option, Some, None, option_map, refl, sym, ap, ◌∙◌, arith, find, length-replicate, eq-eqb, ne_eqb, Fix, Both, Target, Fixup, SetByte, words_are_whole, fixup_at, high_byte, low_byte, bytes_of, Item, Plain, WithWord, Byte, Address, Gap, Mark, Layout, bytes_of_item, flags_of_items, size_of, word_of, fix_at, fixed_bytes, fixes_of_items, set_bytes, target_of, with_fix, bytes_of_items}
use Rattle.asm8080.proofs.ItemWords.{form_bytes, item_length, opcode}

-- a byte at which no fix begins, and the first byte of a word, which may count from a target
abbrev pub plain : ℕ → SetByte
plain value = record { value = value; fixup = None }

abbrev pub fixed : ℕ → Option Target → SetByte
fixed value target =
    record { value = value; fixup = option_map (λ from. record { kind = Both; target = from }) target }

-- a word before other bytes
abbrev pub word_before : (word : ℕ) → Option Target → List (Option SetByte) → List (Option SetByte)
word_before word target rest = Some (fixed (low_byte word) target) ∷ Some (plain (high_byte word)) ∷ rest

-- bytes that are not fixed
abbrev pub row_of : List (Option ℕ) → List (Option SetByte)
row_of bytes = map (option_map plain) bytes

-- the bytes of items that are set
abbrev pub cells_of_item : Layout → Item → List (Option ℕ)
cells_of_item layout (Gap count) = replicate count None
cells_of_item layout item = map Some (bytes_of_item layout item)

abbrev pub cells_of_items : Layout → List Item → List (Option ℕ)
cells_of_items layout [] = []
cells_of_items layout (item ∷ others) = cells_of_item layout item ++ cells_of_items layout others

pub some_length : (bytes : List ℕ) → length (map Some bytes) ≡ length bytes
some_length [] = refl
some_length (value ∷ others) = ap (λ n. suc n) (some_length others)

all_set :
    (bytes others : List ℕ) (more : List Bool)
    → set_bytes (bytes ++ others) (replicate (length bytes) true ++ more)
    ≡ map Some bytes ++ set_bytes others more
all_set [] others more = refl
all_set (value ∷ rest) others more =
    ap (λ (cells : List (Option ℕ)). Some value ∷ cells) (all_set rest others more)

none_set :
    (count : ℕ) (others : List ℕ) (more : List Bool)
    → set_bytes (replicate count 0 ++ others) (replicate count false ++ more)
    ≡ replicate count None ++ set_bytes others more
none_set zero others more = refl
none_set (suc count) others more =
    ap (λ (cells : List (Option ℕ)). None ∷ cells) (none_set count others more)

item_set :
    (bytes others : List ℕ) (size : ℕ) (more : List Bool) (cells : List (Option ℕ))
    → length bytes ≡ size
    → set_bytes others more ≡ cells
    → set_bytes (bytes ++ others) (replicate size true ++ more) ≡ map Some bytes ++ cells
item_set bytes others size more cells sized h =
    ap (λ n. set_bytes (bytes ++ others) (replicate n true ++ more)) (sym sized)
    ∙ all_set bytes others more
    ∙ ap (λ (rest : List (Option ℕ)). map Some bytes ++ rest) h

pub cells_are :
    (layout : Layout) (items : List Item)
    → set_bytes (bytes_of_items layout items) (flags_of_items items) ≡ cells_of_items layout items
cells_are layout [] = refl
cells_are layout (Plain instruction ∷ others) =
    item_set (bytes_of instruction) (bytes_of_items layout others) (size_of (Plain instruction))
    (flags_of_items others)
    (cells_of_items layout others) refl (cells_are layout others)
cells_are layout (WithWord form reference ∷ others) =
    item_set (bytes_of_item layout (WithWord form reference)) (bytes_of_items layout others) 3
    (flags_of_items others)
    (cells_of_items layout others) (item_length layout (WithWord form reference)) (cells_are layout others)
cells_are layout (Byte value ∷ others) =
    item_set (value ∷ []) (bytes_of_items layout others) 1 (flags_of_items others)
    (cells_of_items layout others) refl (cells_are layout others)
cells_are layout (Address reference ∷ others) =
    item_set (bytes_of_item layout (Address reference)) (bytes_of_items layout others) 2
    (flags_of_items others)
    (cells_of_items layout others) refl (cells_are layout others)
cells_are layout (Gap count ∷ others) =
    none_set count (bytes_of_items layout others) (flags_of_items others)
    ∙ ap (λ (rest : List (Option ℕ)). replicate count None ++ rest) (cells_are layout others)
cells_are layout (Mark label ∷ others) = cells_are layout others

-- the bytes of items with the fixes that begin at them
abbrev pub set_before : Layout → Item → List (Option SetByte) → List (Option SetByte)
set_before layout (Plain instruction) rest = row_of (map Some (bytes_of instruction)) ++ rest
set_before layout (WithWord form reference) rest =
    Some (plain (opcode form)) ∷ word_before (word_of layout reference) (target_of reference) rest
set_before layout (Byte value) rest = Some (plain value) ∷ rest
set_before layout (Address reference) rest = word_before (word_of layout reference) (target_of reference) rest
set_before layout (Gap count) rest = row_of (replicate count None) ++ rest
set_before layout (Mark label) rest = rest

abbrev pub set_of_items : Layout → List Item → List (Option SetByte)
set_of_items layout [] = []
set_of_items layout (item ∷ others) = set_before layout item (set_of_items layout others)

-- fixes that begin elsewhere
abbrev fixup_of : Fix → Fixup
fixup_of fix = record { kind = fix.kind; target = fix.target }

not_here :
    (fix : Fix) (fixes : List Fix) (x : ℕ)
    → (fix.offset == x) ≡ false
    → fixup_at (fix ∷ fixes) x ≡ fixup_at fixes x
not_here fix fixes x h =
    let by : Bool → Option Fixup
    = λ test. option_map fixup_of (cond test (Some fix) (find (λ (other : Fix). other.offset == x) fixes)) in
    ap by h

here :
    (fix : Fix) (fixes : List Fix) (x : ℕ)
    → (fix.offset == x) ≡ true
    → fixup_at (fix ∷ fixes) x ≡ Some (record { kind = fix.kind; target = fix.target })
here fix fixes x h =
    let by : Bool → Option Fixup
    = λ test. option_map fixup_of (cond test (Some fix) (find (λ (other : Fix). other.offset == x) fixes)) in
    ap by h

with_elsewhere :
    (offset x : ℕ) (target : Option Target) (fixes : List Fix)
    → x < offset
    → fixup_at (with_fix offset target fixes) x ≡ fixup_at fixes x
with_elsewhere offset x None fixes h = refl
with_elsewhere offset x (Some target) fixes h =
    not_here (fix_at offset target) fixes x (ne_eqb offset x (λ e. absurd (omega (arith, e))))

-- the fixes of items are at or after the place of the first
pub none_early :
    (offset x : ℕ) (items : List Item) → x < offset → fixup_at (fixes_of_items offset items) x ≡ None
none_early offset x [] h = refl
none_early offset x (Plain instruction ∷ others) h =
    none_early (offset + size_of (Plain instruction)) x others (omega arith)
none_early offset x (WithWord form reference ∷ others) h =
    with_elsewhere (offset + 1) x (target_of reference) (fixes_of_items (offset + 3) others) (omega arith)
    ∙ none_early (offset + 3) x others (omega arith)
none_early offset x (Byte value ∷ others) h = none_early (offset + 1) x others (omega arith)
none_early offset x (Address reference ∷ others) h =
    with_elsewhere offset x (target_of reference) (fixes_of_items (offset + 2) others) (omega arith)
    ∙ none_early (offset + 2) x others (omega arith)
none_early offset x (Gap count ∷ others) h = none_early (offset + count) x others (omega arith)
none_early offset x (Mark label ∷ others) h = none_early (offset + 0) x others (omega arith)

-- a byte, if it is set, with the fix that begins there
abbrev with_fixup : Option Fixup → Option ℕ → Option SetByte
with_fixup fixup byte = option_map (λ value. record { value = value; fixup = fixup }) byte

join :
    (byte : Option ℕ) (a b : Option Fixup) (xs ys : List (Option SetByte))
    → a ≡ b
    → xs ≡ ys
    → ◌≡◌ {A = List (Option SetByte)} (with_fixup a byte ∷ xs) (with_fixup b byte ∷ ys)
join byte a b xs ys e f =
    let first : Option Fixup → List (Option SetByte) = λ c. with_fixup c byte ∷ xs in
    let others : List (Option SetByte) → List (Option SetByte) = λ zs. with_fixup b byte ∷ zs in
    ap first e ∙ ap others f

-- a fix before the bytes is none of theirs
skip :
    (fix : Fix) (fixes : List Fix) (offset : ℕ) (bytes : List (Option ℕ))
    → fix.offset < offset
    → fixed_bytes (fix ∷ fixes) offset bytes ≡ fixed_bytes fixes offset bytes
skip fix fixes offset [] h = refl
skip fix fixes offset (byte ∷ others) h =
    join byte (fixup_at (fix ∷ fixes) offset) (fixup_at fixes offset)
    (fixed_bytes (fix ∷ fixes) (offset + 1) others) (fixed_bytes fixes (offset + 1) others)
    (not_here fix fixes offset (ne_eqb fix.offset offset (λ e. absurd (omega (arith, e)))))
    (skip fix fixes (offset + 1) others (omega arith))

-- bytes before all fixes
plain_front :
    (fixes : List Fix) (offset end : ℕ) (bytes rest : List (Option ℕ)) (out : List (Option SetByte))
    → offset + length bytes ≡ end
    → ((x : ℕ) → x < end → fixup_at fixes x ≡ None)
    → fixed_bytes fixes end rest ≡ out
    → fixed_bytes fixes offset (bytes ++ rest) ≡ row_of bytes ++ out
plain_front fixes offset end [] rest out ends none h =
    let same : offset ≡ end = omega (arith, ends) in ap (λ n. fixed_bytes fixes n rest) same ∙ h
plain_front fixes offset end (byte ∷ others) rest out ends none h =
    let here : offset < end = omega (arith, ends) in
    let next : offset + 1 + length others ≡ end = omega (arith, ends) in
    join byte (fixup_at fixes offset) None
    (fixed_bytes fixes (offset + 1) (others ++ rest)) (row_of others ++ out)
    (none offset here)
    (plain_front fixes (offset + 1) end others rest out next none h)

-- a word, with its fix if it counts from a target
word_front :
    (target : Option Target) (offset word : ℕ) (others : List Item) (rest : List (Option ℕ))
    (out : List (Option SetByte))
    → fixed_bytes (fixes_of_items (offset + 2) others) (offset + 2) rest ≡ out
    → fixed_bytes (with_fix offset target (fixes_of_items (offset + 2) others)) offset
    (Some (low_byte word) ∷ Some (high_byte word) ∷ rest)
    ≡ word_before word target out
word_front None offset word others rest out h =
    let ends : offset + 2 ≡ offset + 2 = refl in
    plain_front (fixes_of_items (offset + 2) others) offset (offset + 2)
    (Some (low_byte word) ∷ Some (high_byte word) ∷ []) rest out ends
    (λ x k. none_early (offset + 2) x others k) h
word_front (Some target) offset word others rest out h =
    let low : ℕ = low_byte word in
    let high : ℕ = high_byte word in
    let fix : Fix = fix_at offset target in
    let fixes : List Fix = fixes_of_items (offset + 2) others in
    let same : offset + 1 + 1 ≡ offset + 2 = omega arith in
    join (Some low) (fixup_at (fix ∷ fixes) offset) (Some (fixup_of fix))
    (fixed_bytes (fix ∷ fixes) (offset + 1) (Some high ∷ rest)) (Some (plain high) ∷ out)
    (here fix fixes offset (eq-eqb offset offset refl))
    (join (Some high) (fixup_at (fix ∷ fixes) (offset + 1)) None
    (fixed_bytes (fix ∷ fixes) (offset + 1 + 1) rest) out
    (not_here fix fixes (offset + 1) (ne_eqb offset (offset + 1) (λ e. absurd (omega (arith, e))))
    ∙ none_early (offset + 2) (offset + 1) others (omega arith))
    (skip fix fixes (offset + 1 + 1) rest (omega arith)
    ∙ ap (λ n. fixed_bytes fixes n rest) same ∙ h))

-- the bytes of items with the fixes of items
pub fixed_items :
    (layout : Layout) (offset : ℕ) (items : List Item)
    → fixed_bytes (fixes_of_items offset items) offset (cells_of_items layout items)
    ≡ set_of_items layout items
fixed_items layout offset [] = refl
fixed_items layout offset (Plain instruction ∷ others) =
    let end : ℕ = offset + length (bytes_of instruction) in
    plain_front (fixes_of_items end others) offset end (map Some (bytes_of instruction))
    (cells_of_items layout others) (set_of_items layout others)
    (ap (λ n. offset + n) (some_length (bytes_of instruction)))
    (λ x h. none_early end x others h)
    (fixed_items layout end others)
fixed_items layout offset (WithWord form reference ∷ others) =
    let word : ℕ = word_of layout reference in
    let rest : List (Option ℕ) = cells_of_items layout others in
    let target : Option Target = target_of reference in
    let fixes : List Fix = fixes_of_items offset (WithWord form reference ∷ others) in
    let moved : offset + 1 + 2 ≡ offset + 3 = omega arith in
    ap (λ (bytes : List ℕ). fixed_bytes fixes offset (map Some bytes ++ rest)) (form_bytes form word)
    ∙ join (Some (opcode form)) (fixup_at fixes offset) None
    (fixed_bytes fixes (offset + 1) (Some (low_byte word) ∷ Some (high_byte word) ∷ rest))
    (word_before word target (set_of_items layout others))
    (with_elsewhere (offset + 1) offset target (fixes_of_items (offset + 3) others) (omega arith)
    ∙ none_early (offset + 3) offset others (omega arith))
    (ap (λ n.
    fixed_bytes (with_fix (offset + 1) target (fixes_of_items n others)) (offset + 1)
    (Some (low_byte word) ∷ Some (high_byte word) ∷ rest)) (sym moved)
    ∙ word_front target (offset + 1) word others rest (set_of_items layout others)
    (fixed_items layout (offset + 1 + 2) others))
fixed_items layout offset (Byte value ∷ others) =
    join (Some value) (fixup_at (fixes_of_items (offset + 1) others) offset) None
    (fixed_bytes (fixes_of_items (offset + 1) others) (offset + 1) (cells_of_items layout others))
    (set_of_items layout others)
    (none_early (offset + 1) offset others (omega arith))
    (fixed_items layout (offset + 1) others)
fixed_items layout offset (Address reference ∷ others) =
    word_front (target_of reference) offset (word_of layout reference) others (cells_of_items layout others)
    (set_of_items layout others)
    (fixed_items layout (offset + 2) others)
fixed_items layout offset (Gap count ∷ others) =
    plain_front (fixes_of_items (offset + count) others) offset (offset + count) (replicate count None)
    (cells_of_items layout others) (set_of_items layout others)
    (ap (λ n. offset + n) (length-replicate count None))
    (λ x h. none_early (offset + count) x others h)
    (fixed_items layout (offset + count) others)
fixed_items layout offset (Mark label ∷ others) =
    let same : offset + 0 ≡ offset = omega arith in
    ap (λ n. fixed_bytes (fixes_of_items n others) offset (cells_of_items layout others)) same
    ∙ fixed_items layout offset others

-- each word is whole
whole_plain :
    (bytes : List (Option ℕ)) (rest : List (Option SetByte))
    → words_are_whole rest ≡ true
    → words_are_whole (row_of bytes ++ rest) ≡ true
whole_plain [] rest h = h
whole_plain (None ∷ others) rest h = whole_plain others rest h
whole_plain (Some value ∷ others) rest h = whole_plain others rest h

whole_word :
    (word : ℕ) (target : Option Target) (rest : List (Option SetByte))
    → words_are_whole rest ≡ true
    → words_are_whole (word_before word target rest) ≡ true
whole_word word None rest h = h
whole_word word (Some target) rest h = h

pub whole_items : (layout : Layout) (items : List Item) → words_are_whole (set_of_items layout items) ≡ true
whole_items layout [] = refl
whole_items layout (Plain instruction ∷ others) =
    whole_plain (map Some (bytes_of instruction)) (set_of_items layout others) (whole_items layout others)
whole_items layout (WithWord form reference ∷ others) =
    whole_word (word_of layout reference) (target_of reference) (set_of_items layout others)
    (whole_items layout others)
whole_items layout (Byte value ∷ others) = whole_items layout others
whole_items layout (Address reference ∷ others) =
    whole_word (word_of layout reference) (target_of reference) (set_of_items layout others)
    (whole_items layout others)
whole_items layout (Gap count ∷ others) =
    whole_plain (replicate count None) (set_of_items layout others) (whole_items layout others)
whole_items layout (Mark label ∷ others) = whole_items layout others
