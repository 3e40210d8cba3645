-- Bytes that add up to 0.
use Rattle.std.specs.Prelude.{ℕ, ◌-◌, ◌%◌, List, sum}

-- the byte that makes bytes add up to 0, modulo 256
abbrev pub checksum_of : List ℕ → ℕ
checksum_of bytes = (256 - sum bytes % 256) % 256
