-- Ranges of addresses.
use Rattle.std.specs.Prelude.{ℕ, ◌+◌, ◌%◌, ◌<◌, ◌≤◌, Bool, nat_lt, max, min}
use Rattle.mem80.specs.declared.memory.TheConstants.{MEMORY_SIZE}
use Rattle.mem80.specs.declared.range.Range.{Range}

-- an address is one of a range
abbrev pub IsIn : ℕ → Range → Type 0
IsIn address range = (range.start ≤ address) × (address < range.start + range.len)

-- some address is in both
abbrev pub Meets : Range → Range → Type 0
Meets left right = (address : ℕ) × IsIn address left × IsIn address right

-- the same as a test: the later start is before the earlier end
abbrev pub ranges_meet : Range → Range → Bool
ranges_meet left right =
    nat_lt (max left.start right.start) (min (left.start + left.len) (right.start + right.len))

-- the address just past a range, 0 after 65535
abbrev pub address_past : Range → ℕ
address_past range = (range.start + range.len) % MEMORY_SIZE
