-- The new memory, and one into which bytes are loaded.
use Rattle.std.proofs.Common.{◌≡◌, ℕ, ◌+◌, ◌<◌, ◌≤◌, ◌⊎◌, inl, inr, List, ◌++◌, length, take, drop, get_or, ◌∙◌, arith, length-append}
use Rattle.std.specs.Prelude.{replicate}
use Rattle.std.proofs.lemmas.Bool.{cases_lt}
use Rattle.std.proofs.lemmas.List.{length-replicate, length-take-le, length-drop, get_or_past}
use Rattle.std.proofs.lemmas.List.Elements.{All-replicate, All-take, All-drop, All-append, All-from_get_or, All-get_or}
use Rattle.mem80.specs.Memory.{IsMemory, byte_at, with_bytes}

-- as many zeros as there are addresses
pub zeros_are_memory :
    (n : ℕ) (memory : List ℕ)
    → memory ≡ replicate n 0
    → n ≡ 65536
    → IsMemory memory
zeros_are_memory n memory same is_size =
    rw same
    record {
      size = length-replicate n 0 ∙ is_size;
      bytes = All-replicate (λ byte. byte < 256) n 0 (omega arith);
    }

-- bytes in place of as many from an address on
pub loaded_is_memory :
    (memory bytes : List ℕ) (start : ℕ)
    → IsMemory memory
    → ((i : ℕ) → get_or bytes i 0 < 256)
    → start + length bytes ≤ 65536
    → IsMemory (with_bytes bytes start memory)
loaded_is_memory memory bytes start is fit within =
    let P : ℕ → Type 0 = λ byte. byte < 256 in
    let after : List ℕ = drop (start + length bytes) memory in
    let short : start ≤ length memory = omega (arith, is.size) in
    record {
      size =
          omega (
            arith,
            is.size,
            length-append (take start memory) (bytes ++ after),
            length-append bytes after,
            length-take-le start memory short,
            length-drop (start + length bytes) memory,
          );
      bytes =
          All-append P (take start memory) (bytes ++ after) (All-take P start memory is.bytes)
          (All-append P bytes after (All-from_get_or P bytes 0 (λ i below. fit i))
          (All-drop P (start + length bytes) memory is.bytes));
    }

-- a byte of a memory at any address
pub byte_small : (memory : List ℕ) (address : ℕ) → IsMemory memory → byte_at memory address < 256
byte_small memory address is = by_place (cases_lt address (length memory))
  where
    by_place : (address < length memory) ⊎ (length memory ≤ address) → byte_at memory address < 256
    by_place (inl inside) = All-get_or (λ (byte : ℕ). byte < 256) memory address 0 inside is.bytes
    by_place (inr past) = rw (get_or_past memory address 0 past) (omega arith)
