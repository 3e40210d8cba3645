-- From which modules the lines of code come.
use Rattle.std.specs.Prelude.{◌≡◌, ℕ, ◌<◌, List, slice_get, unwrap_or}
use Rattle.std.specs.List.{AllByRecursion}
use Rattle.listings.specs.declared.origins.CodeLines.{CodeLines}
use Rattle.listings.specs.declared.origins.CodeOrigin.{CodeOrigin}
use Rattle.listings.specs.declared.origins.CodeOrigin.TheVariants.{Line, Outside, Routine}
use Rattle.listings.specs.declared.origins.SourceLine.{SourceLine}

-- what code has a byte at an address
abbrev pub origin_at : CodeLines → (address : ℕ) → CodeOrigin
origin_at lines address = unwrap_or (slice_get lines.origins.items address) Outside

-- a line is one of the module of this number
abbrev pub IsOriginOf : (number : ℕ) → CodeOrigin → Type 0
IsOriginOf number (Line line) = line.«module» ≡ number
IsOriginOf number Routine = Unit {0}
IsOriginOf number Outside = Unit {0}

-- a line is one of the first `count` modules
abbrev pub IsOriginIn : (count : ℕ) → CodeOrigin → Type 0
IsOriginIn count (Line line) = line.«module» < count
IsOriginIn count Routine = Unit {0}
IsOriginIn count Outside = Unit {0}

abbrev pub AreOriginsIn : (count : ℕ) → List CodeOrigin → Type 0
AreOriginsIn count origins = AllByRecursion (IsOriginIn count) origins

-- and so is each line from which the code of a program comes
abbrev pub AreLinesOf : (count : ℕ) → CodeLines → Type 0
AreLinesOf count lines =
    (address : ℕ) (line : SourceLine) → origin_at lines address ≡ Line line → line.«module» < count

-- lines stay those of the first `count` modules if one more is such a line, or one of the module of this number
abbrev pub KeepsWith : CodeOrigin → (old new : List CodeOrigin) → Type 0
KeepsWith origin old new =
    (count : ℕ) → IsOriginIn count origin → AreOriginsIn count old → AreOriginsIn count new

abbrev pub KeepsOrigins : (number : ℕ) → (old new : List CodeOrigin) → Type 0
KeepsOrigins number old new =
    (count : ℕ) → number < count → AreOriginsIn count old → AreOriginsIn count new
