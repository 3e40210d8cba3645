-- The names that a module shares with other modules.
use Rattle.std.specs.Prelude.{◌≡◌, [], ◌∷◌, None}
use Rattle.typed_trees.specs.TypedTrees.{TypedModule}
use Rattle.layout.specs.Joined.{first_repeated, globals_of}

-- No two of the PUBLIC and EXTERNAL names that a module lists are the same. It lists them all where `ListsGlobals` holds of it.
abbrev pub GlobalNamesDiffer : TypedModule → Type 0
GlobalNamesDiffer typed = first_repeated [] (globals_of (typed ∷ [])) ≡ None
