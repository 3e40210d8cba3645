-- Lists of bytes, and parts of them.
use Rattle.std.proofs.Common.{ℕ, zero, suc, ◌<◌, List, [], ◌∷◌, take, drop}
use Rattle.std.specs.List.{AllByRecursion}

-- each number is a byte
abbrev pub IsBytes : List ℕ → Type 0
IsBytes bytes = AllByRecursion (λ byte. byte < 256) bytes

pub bytes_take : (n : ℕ) (bytes : List ℕ) → IsBytes bytes → IsBytes (take n bytes)
bytes_take zero bytes all = tt
bytes_take (suc n) [] all = tt
bytes_take (suc n) (byte ∷ others) all = (all.0, bytes_take n others all.1)

pub bytes_drop : (n : ℕ) (bytes : List ℕ) → IsBytes bytes → IsBytes (drop n bytes)
bytes_drop zero bytes all = all
bytes_drop (suc n) [] all = all
bytes_drop (suc n) (byte ∷ others) all = bytes_drop n others all.1
