-- Code that stays where it stands, while a machine writes elsewhere.
use Rattle.asm8080.proofs.Prelude.{◌≡◌, ◌≢◌, ℕ, ◌+◌, ◌<◌, ◌≤◌, List, [], ◌∷◌, length, refl, sym, ap, ◌∙◌, arith, slice_set, length-set, get_or-set_same, get_or-set_other, All-set, MEMORY_SIZE, Range, IsMemory, byte_at, wrap, WordForm, LoadPair, StoreHl, LoadHl, StoreA, LoadA, Jump, JumpWhere, CallTo, CallWhere, Item, Plain, WithWord, Byte, Address, Gap, Mark, Layout, Stands, bytes_of_item, size_of, size_of_items, instruction_with, AgreesIn, BytesStand, size_of_instruction}

-- a byte that is put elsewhere
pub byte_kept :
    (memory : List ℕ) (address other value : ℕ) → other ≢ address
    → byte_at (slice_set memory address value) other ≡ byte_at memory other
byte_kept memory address other value h = get_or-set_other memory address other value 0 h

-- a byte that was put
pub byte_put :
    (memory : List ℕ) (address value : ℕ) → address < length memory
    → byte_at (slice_set memory address value) address ≡ value
byte_put memory address value h = get_or-set_same memory address value 0 h

pub memory_put :
    (memory : List ℕ) (address value : ℕ) → IsMemory memory → value < 256
    → IsMemory (slice_set memory address value)
memory_put memory address value is small = record {
  size = length-set memory address value ∙ is.size;
  bytes = All-set (λ (byte : ℕ). byte < 256) memory address value small is.bytes;
}

-- two memories have the same bytes from an address to another
abbrev pub Alike : (from to : ℕ) → (memory other : List ℕ) → Type 0
Alike from to memory other =
    (address : ℕ) → from ≤ address → address < to → byte_at other address ≡ byte_at memory address

pub bytes_stay :
    (memory other bytes : List ℕ) (from to : ℕ)
    → to ≤ MEMORY_SIZE
    → from + length bytes ≤ to
    → Alike from to memory other
    → BytesStand memory from bytes
    → BytesStand other from bytes
bytes_stay memory other [] from to limit fits alike stands = tt
bytes_stay memory other (byte ∷ others) from to limit fits alike stands = (
  alike (wrap from) (omega arith) (omega arith) ∙ stands.0,
  bytes_stay memory other others (from + 1) to limit (omega arith)
      (λ address low high. alike address (omega arith) high) stands.1,
)

next_alike : (one other : ℕ) → wrap one ≡ wrap other → wrap (one + 1) ≡ wrap (other + 1)
next_alike one other same = omega (arith, same)

-- bytes that stand from a place on stand from each other place that lies where it does
pub bytes_alike :
    (memory bytes : List ℕ) (one other : ℕ)
    → wrap one ≡ wrap other
    → BytesStand memory one bytes
    → BytesStand memory other bytes
bytes_alike memory [] one other same stands = tt
bytes_alike memory (byte ∷ others) one other same stands = (
  ap (byte_at memory) (sym same) ∙ stands.0,
  bytes_alike memory others (one + 1) (other + 1) (next_alike one other same) stands.1,
)

pub size_with : (form : WordForm) (word : ℕ) → size_of_instruction (instruction_with form word) ≡ 3
size_with (LoadPair pair) word = refl
size_with StoreHl word = refl
size_with LoadHl word = refl
size_with StoreA word = refl
size_with LoadA word = refl
size_with Jump word = refl
size_with (JumpWhere condition) word = refl
size_with CallTo word = refl
size_with (CallWhere condition) word = refl

-- items end where their bytes do
pub stands_size :
    (layout : Layout) (memory : List ℕ) (items : List Item) (from to : ℕ)
    → Stands layout memory items from to
    → to ≡ from + size_of_items items
stands_size layout memory [] from to h = let e : from ≡ to = h in omega arith
stands_size layout memory (Mark label ∷ others) from to h =
    let e : to ≡ from + size_of_items others = stands_size layout memory others from to h.1 in omega arith
stands_size layout memory (Plain i ∷ others) from to h =
    let e : to ≡ from + size_of (Plain i) + size_of_items others =
    stands_size layout memory others (from + size_of (Plain i)) to h.1 in omega arith
stands_size layout memory (WithWord form reference ∷ others) from to h =
    let e : to ≡ from + 3 + size_of_items others =
    stands_size layout memory others (from + 3) to h.1 in omega arith
stands_size layout memory (Byte value ∷ others) from to h =
    let e : to ≡ from + 1 + size_of_items others =
    stands_size layout memory others (from + 1) to h.1 in omega arith
stands_size layout memory (Address reference ∷ others) from to h =
    let e : to ≡ from + 2 + size_of_items others =
    stands_size layout memory others (from + 2) to h.1 in omega arith
stands_size layout memory (Gap count ∷ others) from to h =
    let e : to ≡ from + count + size_of_items others =
    stands_size layout memory others (from + count) to h in omega arith

-- items stand in another memory that has the same bytes where they stand
pub stands_still :
    (layout : Layout) (memory other : List ℕ) (items : List Item) (from to : ℕ)
    → to ≤ MEMORY_SIZE
    → Alike from to memory other
    → Stands layout memory items from to
    → Stands layout other items from to
stands_still layout memory other [] from to limit alike h = h
stands_still layout memory other (Mark label ∷ others) from to limit alike h =
    (h.0, stands_still layout memory other others from to limit alike h.1)
stands_still layout memory other (Plain i ∷ others) from to limit alike h =
    let e : to ≡ from + size_of (Plain i) + size_of_items others =
    stands_size layout memory others (from + size_of (Plain i)) to h.1 in (
      bytes_stay memory other (bytes_of_item layout (Plain i)) from to limit (omega arith) alike h.0,
      stands_still layout memory other others (from + size_of (Plain i)) to limit
          (λ address low high. alike address (omega arith) high) h.1,
    )
stands_still layout memory other (WithWord form reference ∷ others) from to limit alike h =
    let e : to ≡ from + 3 + size_of_items others =
    stands_size layout memory others (from + 3) to h.1 in
    let size = size_with form (Rattle.asm8080.specs.Items.word_of layout reference) in (
      bytes_stay memory other (bytes_of_item layout (WithWord form reference)) from to limit
          (omega arith) alike h.0,
      stands_still layout memory other others (from + 3) to limit
          (λ address low high. alike address (omega arith) high) h.1,
    )
stands_still layout memory other (Byte value ∷ others) from to limit alike h =
    let e : to ≡ from + 1 + size_of_items others =
    stands_size layout memory others (from + 1) to h.1 in (
      bytes_stay memory other (bytes_of_item layout (Byte value)) from to limit (omega arith) alike h.0,
      stands_still layout memory other others (from + 1) to limit
          (λ address low high. alike address (omega arith) high) h.1,
    )
stands_still layout memory other (Address reference ∷ others) from to limit alike h =
    let e : to ≡ from + 2 + size_of_items others =
    stands_size layout memory others (from + 2) to h.1 in (
      bytes_stay memory other (bytes_of_item layout (Address reference)) from to limit
          (omega arith) alike h.0,
      stands_still layout memory other others (from + 2) to limit
          (λ address low high. alike address (omega arith) high) h.1,
    )
stands_still layout memory other (Gap count ∷ others) from to limit alike h =
    stands_still layout memory other others (from + count) to limit
    (λ address low high. alike address (omega arith) high) h

-- and so in each memory that agrees on a range in which they stand
pub stands_in :
    (layout : Layout) (range : Range) (memory other : List ℕ) (items : List Item) (from to : ℕ)
    → range.start + range.len ≤ MEMORY_SIZE
    → range.start ≤ from
    → to ≤ range.start + range.len
    → AgreesIn range memory other
    → Stands layout memory items from to
    → Stands layout other items from to
stands_in layout range memory other items from to limit low high agrees stands =
    stands_still layout memory other items from to (omega (arith, high, limit))
    (λ address above below. agrees address (omega (arith, low, above), omega (arith, high, below))) stands
