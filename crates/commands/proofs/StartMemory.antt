-- The memory that a program starts from, byte by byte.
use Rattle.commands.proofs.Prelude.{◌≡◌, ℕ, ◌+◌, ◌<◌, ◌≤◌, Bool, true, false, List, [], ◌∷◌, Option, Some, None, length, refl, sym, ap, subst, ◌∙◌, arith, drop, get_or, eqb-true, eqb-false, get_or-set_at, same_number_lists, length-set, get_or-set_other, length-replicate, get_or-replicate, lt_of_le-ne, replicate, unwrap_or, if◌then◌else◌, slice_index, slice_set, option_or, MEMORY_SIZE, IsLoaded, IsMemory, zeros, Values, MemoryByte, IsStart, byte_named}
use Rattle.std.specs.Prelude.{◌==◌}

-- the bytes below an address are those of the fill; once there is one, the memory has all of its bytes
pub record FilledBelow (fill next : ℕ) (memory : List ℕ) : Type 0 where
  pub size : 0 < next → length memory ≡ MEMORY_SIZE
  pub bytes : (address : ℕ) → address < next → slice_index memory address ≡ fill

pub none_filled : (fill : ℕ) (memory : List ℕ) → FilledBelow fill 0 memory
none_filled fill memory = record { size = λ some. absurd (omega (arith, some)); bytes = λ address below. absurd (omega (arith, below)) }

-- one more
pub one_filled : (fill next : ℕ) (old new : List ℕ) → next < MEMORY_SIZE → new ≡ slice_set old next fill → IsMemory new → FilledBelow fill next old → FilledBelow fill (next + 1) new
one_filled fill next old new inside is has so_far = record {
  size = λ some. has.size;
  bytes = λ address below. by_address address below (address == next) refl;
}
  where
    size : length old ≡ MEMORY_SIZE
    size = sym (length-set old next fill) ∙ ap length (sym is) ∙ has.size

    by_address : (address : ℕ) → address < next + 1 → (here : Bool) → (address == next) ≡ here → slice_index new address ≡ fill
    by_address address below true e =
        ap (λ (m : List ℕ). slice_index m address) is ∙ get_or-set_at old next address fill 0 (eqb-true address next e) (omega (arith, size, inside))
    by_address address below false e =
        let other = eqb-false address next e in
        ap (λ (m : List ℕ). slice_index m address) is ∙ get_or-set_other old next address fill 0 other
        ∙ so_far.bytes address (lt_of_le-ne (omega (arith, below)) other)

-- what is put, and then what is left to be put, is all
pub record PutIn (bytes left : List MemoryByte) (before memory : List ℕ) : Type 0 where
  pub size : length memory ≡ length before
  pub still : (address : ℕ) → address < MEMORY_SIZE
      → unwrap_or (byte_named left address) (slice_index memory address) ≡ unwrap_or (byte_named bytes address) (slice_index before address)

pub none_put : (bytes : List MemoryByte) (memory : List ℕ) → PutIn bytes bytes memory memory
none_put bytes memory = record { size = refl; still = λ address inside. refl }

-- a byte that is named, or else one that was there
unwrap_later : (later first : Option ℕ) (there : ℕ) → unwrap_or (option_or later first) there ≡ unwrap_or later (unwrap_or first there)
unwrap_later None first there = refl
unwrap_later (Some byte) first there = refl

-- the byte at an address, once one was put
put_at : (memory : List ℕ) (one : MemoryByte) (address : ℕ) → one.address < length memory
    → slice_index (slice_set memory one.address one.byte) address ≡ unwrap_or (if address == one.address then Some one.byte else None) (slice_index memory address)
put_at memory one address inside = go (address == one.address) refl
  where
    go : (here : Bool) → (address == one.address) ≡ here
        → slice_index (slice_set memory one.address one.byte) address ≡ unwrap_or (if address == one.address then Some one.byte else None) (slice_index memory address)
    go true e = rw e (get_or-set_at memory one.address address one.byte 0 (eqb-true address one.address e) inside)
    go false e = rw e (get_or-set_other memory one.address address one.byte 0 (eqb-false address one.address e))

-- one more
pub one_put : (bytes left : List MemoryByte) (one : MemoryByte) (before old new : List ℕ) → 1 ≤ length left → one ≡ get_or left 0 one → one.address < 65536
    → new ≡ slice_set old one.address one.byte → IsMemory new → PutIn bytes left before old → PutIn bytes (drop 1 left) before new
one_put bytes [] one before old new some first small is has so_far = absurd (omega (arith, some))
one_put bytes (here ∷ later) one before old new some first small is has so_far = record {
  size = ap length is ∙ length-set old one.address one.byte ∙ so_far.size;
  still = λ address inside.
      ap (unwrap_or (byte_named later address)) (ap (λ (m : List ℕ). slice_index m address) is ∙ put_at old one address within)
      ∙ sym (unwrap_later (byte_named later address) (if address == one.address then Some one.byte else None) (slice_index old address))
      ∙ ap (λ (o : MemoryByte). unwrap_or (byte_named (o ∷ later) address) (slice_index old address)) first ∙ so_far.still address inside;
}
  where
    within : one.address < length old
    within = omega (arith, small, sym (length-set old one.address one.byte) ∙ ap length (sym is) ∙ has.size)

-- where nothing is left, all is put
pub all_put : (bytes left : List MemoryByte) (before memory : List ℕ) → length left < 1 → PutIn bytes left before memory → IsLoaded (byte_named bytes) before memory
all_put bytes [] before memory none so_far = record { size = so_far.size; bytes = so_far.still }
all_put bytes (one ∷ left) before memory none so_far = absurd (omega (arith, none))

-- bytes over a memory of the fill
pub is_start : (values : Values) (filled memory : List ℕ) → length filled ≡ MEMORY_SIZE
    → ((address : ℕ) → address < MEMORY_SIZE → slice_index filled address ≡ values.fill) → IsLoaded (byte_named values.memory) filled memory → IsStart values memory
is_start values filled memory size same over = record {
  size = over.size ∙ size;
  bytes = λ address inside. over.bytes address inside ∙ ap (unwrap_or (byte_named values.memory address)) (same address inside);
}

-- where no option says otherwise, it is a memory of zeros
pub starts_from_zeros : (values : Values) (memory : List ℕ) → values.fill ≡ 0 → values.memory ≡ [] → IsStart values memory → memory ≡ zeros
unfolding zeros
starts_from_zeros values memory fill none start =
    as_many MEMORY_SIZE start.size (λ address inside. start.bytes address inside
    ∙ ap (λ (bytes : List MemoryByte). unwrap_or (byte_named bytes address) values.fill) none ∙ fill)
  where
    as_many : (count : ℕ) → length memory ≡ count → ((address : ℕ) → address < count → slice_index memory address ≡ 0) → memory ≡ replicate count 0
    as_many count size zero_at = same_number_lists memory (replicate count 0) (size ∙ sym (length-replicate count 0))
        (λ address inside. let below : address < count = subst (λ (n : ℕ). address < n) size inside in
        zero_at address below ∙ sym (get_or-replicate count address 0 0 below))
