-- What a writer has after a failure.
use Rattle.std.specs.Prelude.{◌≡◌, ℕ, List, ◌++◌, Option}
use Rattle.std.specs.Io.KnownBytes.{Appends}

-- bytes begins with sent
abbrev pub IsBeginning : List ℕ → List ℕ → Type 0
IsBeginning sent bytes = (rest : List ℕ) × (bytes ≡ sent ++ rest)

-- known bytes stay at the front and grow by a beginning of these
abbrev pub AppendsBeginning : Option (List ℕ) → Option (List ℕ) → List ℕ → Type 0
AppendsBeginning old new bytes = (sent : List ℕ) × IsBeginning sent bytes × Appends old new sent
