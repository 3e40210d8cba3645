-- Tables of nodes to which nodes are added.
use Rattle.std.specs.Prelude.{◌≡◌, ℕ, ◌≤◌, List, length, Some, slice_get}
use Rattle.treecode.specs.internal.Nodes.{Nodes}

-- each entry of the first list is also in the second, at the same index
abbrev pub Holds : {A : Type 0} → (before after : List A) → Type 0
Holds {A} before after =
    (index : ℕ) (x : A) → slice_get before index ≡ Some x → slice_get after index ≡ Some x

-- new nodes come after the old ones
pub record Grows (before after : Nodes) : Type 0 where
  pub expressions : Holds before.expressions after.expressions
  pub statements : Holds before.statements after.statements
  pub arguments : Holds before.arguments after.arguments
  pub targets : Holds before.targets after.targets
  pub lists : Holds before.lists after.lists
  pub count : length before.expressions ≤ length after.expressions
