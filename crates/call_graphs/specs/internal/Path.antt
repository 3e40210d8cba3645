-- Whether a path has no visits.
use Rattle.std.specs.Prelude.{Bool, true, false, List, [], ◌∷◌}
use Rattle.call_graphs.specs.declared.path.Visit.{Visit}

abbrev pub is_ended : List Visit → Bool
is_ended [] = true
is_ended (visit ∷ others) = false
