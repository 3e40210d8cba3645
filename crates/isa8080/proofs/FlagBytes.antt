-- The flag byte is a byte.
use Rattle.isa8080.proofs.Prelude.{ℕ, ◌<◌, ◌≤◌, Bool, true, false, arith, Flags, bit, flag_byte}

bit_small : (b : Bool) → bit b ≤ 1
bit_small true = omega arith
bit_small false = omega arith

pub flag_byte_small : (f : Flags) → flag_byte f < 256
flag_byte_small f =
    omega (arith, bit_small f.s, bit_small f.z, bit_small f.ac, bit_small f.p, bit_small f.cy)
