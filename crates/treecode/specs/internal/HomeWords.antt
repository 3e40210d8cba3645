-- The homes of objects by their numbers; and that the numbers at which tree code places objects have 16 bits.
use Rattle.std.specs.Prelude.{◌≡◌, ℕ, ◌<◌, List, slice_index_or}
use Rattle.treecode.specs.declared.place.Home.{Home}
use Rattle.treecode.specs.declared.place.Home.TheVariants.{Static}
use Rattle.treecode.specs.declared.place.Place.TheVariants.{Number}

-- the home of an object; the address 0 if there is no object with this number
abbrev pub home_at : List Home → (object : ℕ) → Home
home_at homes object = slice_index_or homes object (Static (Number 0))

-- the number at which an object is placed, if any, has 16 bits
abbrev pub HomeIsWord : Home → Type 0
HomeIsWord (Static (Number number)) = number < 65536
HomeIsWord home = Unit {0}

-- the same for the object of each number
abbrev pub HomesAreWords : List Home → Type 0
HomesAreWords homes = (object number : ℕ) → home_at homes object ≡ Static (Number number) → number < 65536
