-- Types of targets, found one target after another.
use Rattle.std.specs.Prelude.{◌≡◌, ℕ, ◌-◌, Bool, ◌||◌}
use Rattle.treecode.specs.declared.lists.Range.{Range}
use Rattle.statements8080.specs.declared.body.Body.{Body}
use Rattle.statements8080.specs.internal.Assignments.{any_target, takes_byte, takes_word}

-- the types found before an index, with those of the targets from it on, are those of all targets
pub record IsFinding
    (body : Body) (targets : Range) (index : ℕ) (takes_bytes takes_words : Bool) : Type 0 where
  pub bytes :
      (takes_bytes || any_target takes_byte body targets index (targets.count - index))
      ≡ any_target takes_byte body targets 0 targets.count
  pub words :
      (takes_words || any_target takes_word body targets index (targets.count - index))
      ≡ any_target takes_word body targets 0 targets.count
