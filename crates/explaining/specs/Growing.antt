-- What an explanation leaves on standard error.
use Rattle.std.specs.Prelude.{List, ℕ, Option}
use Rattle.std.specs.Io.KnownBytes.{Appends}

-- known bytes stay at the front, and something may come after them
abbrev pub Grows : (old new : Option (List ℕ)) → Type 0
Grows old new = (more : List ℕ) × Appends old new more
