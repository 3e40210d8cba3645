-- The conditions on which the size of the code of a module depends.
use Rattle.typed_trees.specs.Frames.{FramesFit, ParametersFit}
use Rattle.typed_trees.specs.Jumps.{JumpsAreSound}
use Rattle.typed_trees.specs.Storable.{IsStorable}
use Rattle.typed_trees.specs.TypedTrees.{TypedModule}
use Rattle.typed_trees.specs.WellTyped.{IsWellTyped}

-- The conditions on which the size of code depends, as typing ensures them: labels are only in lists, no
-- procedure has more parameters than allowed, and DATA fills no more bytes than its object has. A label as a
-- case would weigh nothing and take three bytes. Each RETURN of a REENTRANT procedure takes a byte for each
-- parameter.
pub record IsSound (typed : TypedModule) : Type 0 where
  pub types : IsWellTyped typed
  pub jumps : JumpsAreSound typed
  pub frames : FramesFit typed
  pub parameters : ParametersFit typed
  pub storable : IsStorable typed
