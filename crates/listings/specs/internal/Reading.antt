-- Instructions that are read from an image.
use Rattle.std.specs.Prelude.{◌≡◌, ℕ, ◌+◌, ◌≤◌, ◌==◌, Bool, false, ◌&&◌, ◌||◌, nat_lt, List, length, take, slice_index, Option, Some, None}
use Rattle.isa8080.specs.Code.{bytes_of}
use Rattle.mem80.specs.declared.range.Piece.{Piece}
use Rattle.listings.specs.Listing.{AllThere, byte_in}
use Rattle.listings.specs.declared.image.Coded.{Coded}

-- a byte is there, and it is this one
abbrev pub is_byte : Option ℕ → (byte : ℕ) → Bool
is_byte None byte = false
is_byte (Some there) byte = there == byte

-- the first bytes of three, one to three, lie there from an address on
abbrev pub are_there : List Piece → (address : ℕ) → (bytes : List ℕ) → (size : ℕ) → Bool
are_there pieces address bytes size =
    is_byte (byte_in pieces address) (slice_index bytes 0)
    && ((nat_lt size 2 || is_byte (byte_in pieces (address + 1)) (slice_index bytes 1))
    && (nat_lt size 3 || is_byte (byte_in pieces (address + 2)) (slice_index bytes 2)))

-- three bytes and a size are those of an instruction
pub record IsCoded (code : Coded) : Type 0 where
  pub three : length code.bytes ≡ 3
  pub some : 1 ≤ code.size
  pub few : code.size ≤ 3
  pub sized : code.size ≡ length (bytes_of code.instr)
  pub bytes_are : take code.size code.bytes ≡ bytes_of code.instr

-- the bytes at an address are those of an instruction
pub record IsCodedAt (pieces : List Piece) (address : ℕ) (code : Coded) : Type 0 where
  pub coded : IsCoded code
  pub there : AllThere pieces address (take code.size code.bytes)
