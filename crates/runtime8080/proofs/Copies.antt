-- Blocks of bytes that are copied, and what stays of a memory.
use Rattle.runtime8080.proofs.Prelude.{◌≡◌, ℕ, zero, suc, ◌+◌, ◌<◌, ◌==◌, Bool, true, false, List, length, refl, sym, ap, ◌∙◌, arith, slice_set, eqb-true, length-set, All-get_or, MEMORY_SIZE, Range, IsMemory, byte_at, byte_small, IsIn, wrap, byte_kept, byte_put, memory_put, BlockMisses, copied, wrapped_small}
use Rattle.runtime8080.proofs.Labels.{differs_by}

first_wrapped : (start : ℕ) → wrap start ≡ wrap (start + 0)
first_wrapped start = omega arith

-- the first address of a block
pub first_missed :
    (count start : ℕ) (range : Range) → BlockMisses (suc count) start range → IsIn (wrap start) range → ⊥
first_missed count start range misses inside =
    misses (wrap start) (0, omega arith, first_wrapped start) inside

next_wrapped : (start k : ℕ) → wrap (start + 1 + k) ≡ wrap (start + suc k)
next_wrapped start k = omega arith

-- the others
pub others_missed :
    (count start : ℕ) (range : Range) → BlockMisses (suc count) start range
    → BlockMisses count (start + 1) range
others_missed count start range misses address block inside =
    misses address (suc block.0, omega (arith, block.1), block.2 ∙ next_wrapped start block.0) inside

pub copied_is_memory :
    (count source destination : ℕ) (memory : List ℕ)
    → IsMemory memory
    → IsMemory (copied count source destination memory)
copied_is_memory zero source destination memory is = is
copied_is_memory (suc count) source destination memory is =
    copied_is_memory count (source + 1) (destination + 1)
    (slice_set memory (wrap destination) (byte_at memory (wrap source)))
    (memory_put memory (wrap destination) (byte_at memory (wrap source)) is
    (byte_small memory (wrap source) is))

-- what a copied block keeps
pub copied_keeps :
    (count source destination : ℕ) (memory : List ℕ) (range : Range)
    → BlockMisses count destination range
    → (address : ℕ)
    → IsIn address range
    → byte_at (copied count source destination memory) address ≡ byte_at memory address
copied_keeps zero source destination memory range misses address inside = refl
copied_keeps (suc count) source destination memory range misses address inside =
    copied_keeps count (source + 1) (destination + 1)
    (slice_set memory (wrap destination) (byte_at memory (wrap source))) range
    (others_missed count destination range misses) address inside
    ∙ byte_kept memory (wrap destination) address (byte_at memory (wrap source))
    (λ e. misses address (0, omega arith, e ∙ first_wrapped destination) inside)

-- two memories that differ in a range alone
abbrev pub DifferIn : Range → (memory other : List ℕ) → Type 0
DifferIn range memory other =
    (address : ℕ) → (IsIn address range → ⊥) → byte_at other address ≡ byte_at memory address

put_both :
    (range : Range) (memory other : List ℕ) (place value value' : ℕ)
    → place < length memory
    → place < length other
    → DifferIn range memory other
    → value' ≡ value
    → DifferIn range (slice_set memory place value) (slice_set other place value')
put_both range memory other place value value' fits fits' differ same address out = go (address == place) refl
  where
    go : (test : Bool) → (address == place) ≡ test
        → byte_at (slice_set other place value') address ≡ byte_at (slice_set memory place value) address
    go true h =
        let e = eqb-true address place h in
        ap (byte_at (slice_set other place value')) e
        ∙ (byte_put other place value' fits' ∙ (same ∙ (sym (byte_put memory place value fits)
        ∙ ap (byte_at (slice_set memory place value)) (sym e))))
    go false h =
        let other_place = differs_by address place h in
        byte_kept other place address value' other_place
        ∙ (differ address out ∙ sym (byte_kept memory place address value other_place))

-- memories that differ in a range alone do so after a block from outside it was copied
pub copied_differ :
    (range : Range) (count source destination : ℕ) (memory other : List ℕ)
    → length memory ≡ MEMORY_SIZE
    → length other ≡ MEMORY_SIZE
    → BlockMisses count source range
    → DifferIn range memory other
    → DifferIn range (copied count source destination memory) (copied count source destination other)
copied_differ range zero source destination memory other size size' misses differ = differ
copied_differ range (suc count) source destination memory other size size' misses differ =
    let value = byte_at memory (wrap source) in
    let value' = byte_at other (wrap source) in
    let small = wrapped_small destination in
    copied_differ range count (source + 1) (destination + 1) (slice_set memory (wrap destination) value)
    (slice_set other (wrap destination) value') (length-set memory (wrap destination) value ∙ size)
    (length-set other (wrap destination) value' ∙ size') (others_missed count source range misses)
    (put_both range memory other (wrap destination) value value' (omega arith) (omega arith) differ
    (differ (wrap source) (first_missed count source range misses)))
