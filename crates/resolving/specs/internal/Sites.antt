-- What objects stand for where a part of a program stands.
use Rattle.std.specs.Prelude.{ℕ, Option, slice_get}
use Rattle.std.specs.Option.{option_and_then}
use Rattle.typed_trees.specs.TypedTrees.{TypedModule}
use Rattle.layout.specs.Joined.{InProgram}
use Rattle.layout.specs.StartingMemory.{meant_in}
use Rattle.meaning.specs.Access.{Surroundings}

-- the object that an object of the module stands for
abbrev pub meant_at : Surroundings → (object : ℕ) → Option InProgram
meant_at around object =
    option_and_then
    (λ (typed : TypedModule). meant_in around.program.modules around.number_of_module object typed)
    (slice_get around.program.modules around.number_of_module)
