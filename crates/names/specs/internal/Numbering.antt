-- How the labels of a list are numbered.
use Rattle.std.specs.Prelude.{◌≡◌, ℕ, ◌+◌, List, length}
use Rattle.trees.specs.declared.identifier.Identifier.{Identifier}
use Rattle.names.specs.Environment.{Names, numbered_from}

-- labels that are numbered from one number on up to another, beside what was before
pub record AreNumbered (first : ℕ) (labels : List Identifier) (before : Names) (next : ℕ) (after : Names) : Type 0 where
  pub entries : after ≡ numbered_from first labels before
  pub count : next ≡ first + length labels
