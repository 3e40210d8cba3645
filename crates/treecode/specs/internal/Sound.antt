-- Sound nodes, and nodes that extend others.
use Rattle.std.specs.Prelude.{◌≡◌, ◌≤◌, length}
use Rattle.treecode.specs.internal.Nodes.{Nodes}
use Rattle.treecode.specs.internal.Traits.{KeepTraits}
use Rattle.treecode.specs.internal.Growth.{Grows}
use Rattle.treecode.specs.internal.Rising.{NumbersRise}

-- the traits of nodes follow from their parts, and their numbers rise
pub record AreSound (nodes : Nodes) : Type 0 where
  pub keeps : KeepTraits nodes
  pub rises : NumbersRise nodes

-- new nodes come after the old ones, and all are sound
pub record Leads (before after : Nodes) : Type 0 where
  pub grows : Grows before after
  pub statements : length before.statements ≤ length after.statements
  pub homes : after.homes ≡ before.homes
  pub sound : AreSound after
