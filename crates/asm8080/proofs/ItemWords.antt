-- The words of items: their bytes, and what these become where targets have addresses.
use Rattle.asm8080.proofs.Prelude.{◌≡◌, ℕ, ◌+◌, ◌*◌, ◌/◌, ◌%◌, [], ◌∷◌, length, slice_index, refl, ap, ◌∙◌, arith, length-replicate, Target, InSegment, Code, second_byte_moved, high_byte, low_byte, wrap, bytes_of, WordForm, LoadPair, StoreHl, LoadHl, StoreA, LoadA, Jump, JumpWhere, CallTo, CallWhere, Item, Plain, WithWord, Byte, Address, Gap, Mark, Layout, bytes_of_item, instruction_with, size_of, word_of}

-- the first byte of a form
abbrev pub opcode : WordForm → ℕ
opcode form = slice_index (bytes_of (instruction_with form 0)) 0

pub form_bytes :
    (form : WordForm) (word : ℕ)
    → bytes_of (instruction_with form word) ≡ opcode form ∷ low_byte word ∷ high_byte word ∷ []
form_bytes (LoadPair pair) word = refl
form_bytes StoreHl word = refl
form_bytes LoadHl word = refl
form_bytes StoreA word = refl
form_bytes LoadA word = refl
form_bytes Jump word = refl
form_bytes (JumpWhere condition) word = refl
form_bytes CallTo word = refl
form_bytes (CallWhere condition) word = refl

-- an item has as many bytes as it takes
pub item_length : (layout : Layout) (item : Item) → length (bytes_of_item layout item) ≡ size_of item
item_length layout (Plain instruction) = refl
item_length layout (WithWord form reference) = ap length (form_bytes form (word_of layout reference))
item_length layout (Byte value) = refl
item_length layout (Address reference) = refl
item_length layout (Gap count) = length-replicate count 0
item_length layout (Mark label) = refl

-- labels moved to where the code is, and targets with addresses
abbrev pub layout_moved : (address_of : Target → ℕ) → (place_of : ℕ → ℕ) → Layout
layout_moved address_of place_of = record {
  place_of = λ label. address_of (InSegment Code) + place_of label;
  address_of = address_of;
}

-- a word gains the address of its target
pub label_moved : (place gain : ℕ) → wrap (wrap place + gain) ≡ wrap (gain + place)
label_moved place gain = omega arith

pub target_moved : (offset gain : ℕ) → wrap (wrap (offset + 0) + gain) ≡ wrap (offset + gain)
target_moved offset gain = omega arith

low_gained : (word gain : ℕ) → (word % 256 + gain) % 256 ≡ (word + gain) % 65536 % 256
low_gained word gain = omega arith

high_gained : (word gain : ℕ) → (word % 256 + 256 * (word / 256) + gain) / 256 % 256
    ≡ (word + gain) % 65536 / 256
high_gained word gain = omega arith

pub low_moved : (word gain after : ℕ) → wrap (word + gain) ≡ after
    → (low_byte word + gain) % 256 ≡ low_byte after
low_moved word gain after h = low_gained word gain ∙ ap low_byte h

pub high_moved :
    (word gain after : ℕ)
    → wrap (word + gain) ≡ after
    → second_byte_moved (low_byte word) (high_byte word) gain ≡ high_byte after
high_moved word gain after h = high_gained word gain ∙ ap high_byte h
