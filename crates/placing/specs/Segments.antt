-- What each module of a program needs of its segments.
use Rattle.std.specs.Prelude.{ℕ, ◌≤◌, List, zip, All}
use Rattle.typed_trees.specs.TypedTrees.{TypedModule}
use Rattle.typed_trees.specs.Storable.{IsStorable}
use Rattle.typed_trees.specs.Weight.{constant_bytes}

-- a code segment of this length has room for the constants that it begins with
abbrev pub HoldsConstants : TypedModule × ℕ → Type 0
HoldsConstants segment = constant_bytes segment.0 ≤ segment.1

-- the objects and the constants of each module have a place each, and its code segment holds the constants
pub record HaveStorage (modules : List TypedModule) (code_lengths : List ℕ) : Type 0 where
  pub storable : All IsStorable modules
  pub constants : All HoldsConstants (zip modules code_lengths)
