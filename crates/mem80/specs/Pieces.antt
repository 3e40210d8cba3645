-- Pieces of bytes, each with the address where it begins.
use Rattle.std.specs.Prelude.{◌≡◌, ℕ, ◌+◌, ◌-◌, ◌<◌, ◌≤◌, Bool, true, ◌&&◌, IsTrue, nat_lt, nat_le, List, [], ◌∷◌, length, find, slice_index, Option, option_map, unwrap_or, All, AllPairs}
use Rattle.mem80.specs.declared.memory.TheConstants.{MEMORY_SIZE}
use Rattle.mem80.specs.declared.range.Piece.{Piece}
use Rattle.mem80.specs.declared.range.Range.{Range}
use Rattle.mem80.specs.Range.{Meets, ranges_meet}

-- the addresses of a piece
abbrev pub range_of : Piece → Range
range_of piece = record { start = piece.start; len = length piece.bytes }

-- a piece ends with the end of memory or before it
abbrev pub EndsInMemory : Piece → Type 0
EndsInMemory piece = piece.start + length piece.bytes ≤ MEMORY_SIZE

-- no address has bytes of two pieces
abbrev pub AreApart : Piece → Piece → Type 0
AreApart left right = ¬ Meets (range_of left) (range_of right)

-- some address has bytes of both
abbrev pub pieces_meet : Piece → Piece → Bool
pieces_meet left right = ranges_meet (range_of left) (range_of right)

-- pieces that can be written: each in memory, and no two with an address in common
pub record AreWritable (pieces : List Piece) : Type 0 where
  pub in_memory : All EndsInMemory pieces
  pub apart : AllPairs AreApart pieces

-- a piece has a byte at an address
abbrev pub has_address : (address : ℕ) → Piece → Bool
has_address address piece =
    nat_le piece.start address && nat_lt address (piece.start + length piece.bytes)

-- the byte that the pieces have at an address, if one of them has any
abbrev pub byte_in : List Piece → (address : ℕ) → Option ℕ
byte_in pieces address =
    option_map (λ (piece : Piece). slice_index piece.bytes (address - piece.start))
    (find (has_address address) pieces)

abbrev pub has_bytes : Piece → Bool
has_bytes piece = nat_lt 0 (length piece.bytes)

-- each piece has bytes, and ends before the address where the next one begins
abbrev pub are_runs : List Piece → Bool
are_runs [] = true
are_runs (piece ∷ []) = has_bytes piece
are_runs (piece ∷ next ∷ others) =
    has_bytes piece && nat_lt (piece.start + length piece.bytes) next.start && are_runs (next ∷ others)

-- Pieces are the longest runs of addresses with a byte, by address: where one ends, nothing is.
pub record AreLongestRuns (pieces : List Piece) (byte_at : ℕ → Option ℕ) : Type 0 where
  pub runs : IsTrue (are_runs pieces)
  pub bytes : (address : ℕ) → byte_in pieces address ≡ byte_at address

-- a memory has bytes at some addresses, and is as another elsewhere
pub record IsLoaded (byte_at : ℕ → Option ℕ) (before after : List ℕ) : Type 0 where
  pub size : length after ≡ length before
  pub bytes :
      (address : ℕ) → address < MEMORY_SIZE
      → slice_index after address ≡ unwrap_or (byte_at address) (slice_index before address)
