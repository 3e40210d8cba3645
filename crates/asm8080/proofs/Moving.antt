-- The bytes of items where targets have addresses.
use Rattle.asm8080.proofs.Prelude.{◌≡◌, ℕ, ◌+◌, ◌%◌, List, [], ◌∷◌, ◌++◌, map, replicate, Option, Some, None, option_map, refl, sym, ap, ◌∙◌, Target, InSegment, Code, SetByte, moved_after, second_byte_moved, value_after, high_byte, low_byte, wrap, bytes_of, Reference, AtLabel, AtTarget, AtNumber, Item, Plain, WithWord, Byte, Address, Gap, Mark, word_of, fixed_bytes, fixes_of_items, resolved, target_of, code_of, layout_from, offset_in}
use Rattle.asm8080.proofs.ItemWords.{form_bytes, high_moved, label_moved, layout_moved, low_moved, opcode, target_moved}
use Rattle.asm8080.proofs.Fixing.{cells_are, cells_of_items, fixed_items, plain, row_of, set_of_items, word_before}

-- nothing stays fixed
abbrev none_kept : Target → Option Target
none_kept target = None

-- no word begins at a place
abbrev pub Rests : (gain_of : Target → ℕ) → Option SetByte → Type 0
Rests gain_of before = (value : ℕ) → value_after gain_of before value ≡ value

cell :
    (a b : ℕ) (xs ys : List (Option SetByte))
    → a ≡ b
    → xs ≡ ys
    → ◌≡◌ {A = List (Option SetByte)} (Some (plain a) ∷ xs) (Some (plain b) ∷ ys)
cell a b xs ys e f =
    let first : ℕ → List (Option SetByte) = λ c. Some (plain c) ∷ xs in
    let others : List (Option SetByte) → List (Option SetByte) = λ zs. Some (plain b) ∷ zs in
    ap first e ∙ ap others f

byte_moves :
    (gain_of : Target → ℕ) (before : Option SetByte) (value : ℕ) (rest out : List (Option SetByte))
    → Rests gain_of before
    → moved_after gain_of none_kept (Some (plain value)) rest ≡ out
    → moved_after gain_of none_kept before (Some (plain value) ∷ rest) ≡ Some (plain value) ∷ out
byte_moves gain_of before value rest out rests h =
    cell (value_after gain_of before value) value
    (moved_after gain_of none_kept (Some (plain value)) rest) out (rests value) h

bytes_move :
    (gain_of : Target → ℕ) (before : Option SetByte) (bytes : List (Option ℕ))
    (rest out : List (Option SetByte))
    → Rests gain_of before
    → ((last : Option SetByte) → Rests gain_of last → moved_after gain_of none_kept last rest ≡ out)
    → moved_after gain_of none_kept before (row_of bytes ++ rest) ≡ row_of bytes ++ out
bytes_move gain_of before [] rest out rests after = after before rests
bytes_move gain_of before (None ∷ others) rest out rests after =
    ap (λ (zs : List (Option SetByte)). None ∷ zs) (bytes_move gain_of None others rest out (λ v. refl) after)
bytes_move gain_of before (Some value ∷ others) rest out rests after =
    byte_moves gain_of before value (row_of others ++ rest) (row_of others ++ out) rests
    (bytes_move gain_of (Some (plain value)) others rest out (λ v. refl) after)

-- a word that counts from a target
target_moves :
    (gain_of : Target → ℕ) (before : Option SetByte) (target : Target) (word word_after : ℕ)
    (rest out : List (Option SetByte))
    → wrap (word + gain_of target) ≡ word_after
    → moved_after gain_of none_kept (Some (plain (high_byte word))) rest ≡ out
    → moved_after gain_of none_kept before (word_before word (Some target) rest)
    ≡ word_before word_after None out
target_moves gain_of before target word word_after rest out moved h =
    let gain : ℕ = gain_of target in
    let second : ℕ = second_byte_moved (low_byte word) (high_byte word) gain in
    let others : List (Option SetByte) = moved_after gain_of none_kept (Some (plain (high_byte word))) rest in
    cell ((low_byte word + gain) % 256) (low_byte word_after)
    (Some (plain second) ∷ others) (Some (plain (high_byte word_after)) ∷ out)
    (low_moved word gain word_after moved)
    (cell second (high_byte word_after) others out (high_moved word gain word_after moved) h)

-- a word of items
word_moves :
    (address_of : Target → ℕ) (place_of : ℕ → ℕ) (before : Option SetByte) (reference : Reference)
    (rest out : List (Option SetByte))
    → Rests address_of before
    → moved_after address_of none_kept (Some (plain (high_byte (word_of (layout_from place_of) reference))))
    rest ≡ out
    → moved_after address_of none_kept before
    (word_before (word_of (layout_from place_of) reference) (target_of reference) rest)
    ≡ word_before (word_of (layout_moved address_of place_of) reference) None out
word_moves address_of place_of before (AtLabel label) rest out rests h =
    target_moves address_of before (InSegment Code) (wrap (place_of label))
    (wrap (address_of (InSegment Code) + place_of label)) rest out
    (label_moved (place_of label) (address_of (InSegment Code))) h
word_moves address_of place_of before (AtTarget target offset) rest out rests h =
    target_moves address_of before target (wrap (offset + 0)) (wrap (offset + address_of target)) rest out
    (target_moved offset (address_of target)) h
word_moves address_of place_of before (AtNumber number) rest out rests h =
    byte_moves address_of before (low_byte number) (Some (plain (high_byte number)) ∷ rest)
    (Some (plain (high_byte number)) ∷ out) rests
    (byte_moves address_of (Some (plain (low_byte number))) (high_byte number) rest out (λ v. refl) h)

row_append : (bytes rest : List (Option ℕ)) → row_of bytes ++ row_of rest ≡ row_of (bytes ++ rest)
row_append [] rest = refl
row_append (byte ∷ others) rest =
    ap (λ (zs : List (Option SetByte)). option_map plain byte ∷ zs) (row_append others rest)

-- items moved are those with the words that their references have there
pub moved_items :
    (address_of : Target → ℕ) (place_of : ℕ → ℕ) (before : Option SetByte) (items : List Item)
    → Rests address_of before
    → moved_after address_of none_kept before (set_of_items (layout_from place_of) items)
    ≡ row_of (cells_of_items (layout_moved address_of place_of) items)
moved_items address_of place_of before [] rests = refl
moved_items address_of place_of before (Plain instruction ∷ others) rests =
    let after : List (Option ℕ) = cells_of_items (layout_moved address_of place_of) others in
    bytes_move address_of before (map Some (bytes_of instruction))
    (set_of_items (layout_from place_of) others) (row_of after)
    rests (λ last same. moved_items address_of place_of last others same)
    ∙ row_append (map Some (bytes_of instruction)) after
moved_items address_of place_of before (WithWord form reference ∷ others) rests =
    let word : ℕ = word_of (layout_from place_of) reference in
    let word_after : ℕ = word_of (layout_moved address_of place_of) reference in
    let rest : List (Option SetByte) = set_of_items (layout_from place_of) others in
    let after : List (Option ℕ) = cells_of_items (layout_moved address_of place_of) others in
    byte_moves address_of before (opcode form) (word_before word (target_of reference) rest)
    (word_before word_after None (row_of after)) rests
    (word_moves address_of place_of (Some (plain (opcode form))) reference rest (row_of after) (λ v. refl)
    (moved_items address_of place_of (Some (plain (high_byte word))) others (λ v. refl)))
    ∙ ap (λ (bytes : List ℕ). row_of (map Some bytes ++ after)) (sym (form_bytes form word_after))
moved_items address_of place_of before (Byte value ∷ others) rests =
    byte_moves address_of before value (set_of_items (layout_from place_of) others)
    (row_of (cells_of_items (layout_moved address_of place_of) others)) rests
    (moved_items address_of place_of (Some (plain value)) others (λ v. refl))
moved_items address_of place_of before (Address reference ∷ others) rests =
    let word : ℕ = word_of (layout_from place_of) reference in
    word_moves address_of place_of before reference (set_of_items (layout_from place_of) others)
    (row_of (cells_of_items (layout_moved address_of place_of) others)) rests
    (moved_items address_of place_of (Some (plain (high_byte word))) others (λ v. refl))
moved_items address_of place_of before (Gap count ∷ others) rests =
    let after : List (Option ℕ) = cells_of_items (layout_moved address_of place_of) others in
    bytes_move address_of before (replicate count None)
    (set_of_items (layout_from place_of) others) (row_of after)
    rests (λ last same. moved_items address_of place_of last others same)
    ∙ row_append (replicate count None) after
moved_items address_of place_of before (Mark label ∷ others) rests =
    moved_items address_of place_of before others rests

-- the values of bytes
abbrev values_of : List (Option SetByte) → List (Option ℕ)
values_of places = map (option_map (λ (here : SetByte). here.value)) places

values_back : (bytes : List (Option ℕ)) → values_of (row_of bytes) ≡ bytes
values_back [] = refl
values_back (None ∷ others) = ap (λ (zs : List (Option ℕ)). None ∷ zs) (values_back others)
values_back (Some value ∷ others) = ap (λ (zs : List (Option ℕ)). Some value ∷ zs) (values_back others)

-- code of items, resolved: the bytes of the items there
pub resolved_items :
    (address_of : Target → ℕ) (places : List (Option ℕ)) (items : List Item)
    → resolved address_of (code_of places items)
    ≡ cells_of_items (layout_moved address_of (offset_in items)) items
resolved_items address_of places items =
    ap (λ cells. values_of (moved_after address_of none_kept None
    (fixed_bytes (fixes_of_items 0 items) 0 cells)))
    (cells_are (layout_from (offset_in items)) items)
    ∙ ap (λ set. values_of (moved_after address_of none_kept None set))
    (fixed_items (layout_from (offset_in items)) 0 items)
    ∙ ap values_of (moved_items address_of (offset_in items) None items (λ v. refl))
    ∙ values_back (cells_of_items (layout_moved address_of (offset_in items)) items)
