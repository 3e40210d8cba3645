-- The address of a static object has 16 bits, if the numbers of tree code have.
use Rattle.task_laws.proofs.Prelude.{◌≡◌, ℕ, ◌<◌, List, MEMORY_SIZE, Layout, Home, Place, Number, Code, Data, External, home_at, place_at, wrapped_small}
use Rattle.treecode.specs.declared.place.Home.TheVariants.{Static}

pub place_is_word : (layout : Layout) (homes : List Home)
    → ((object number : ℕ) → home_at homes object ≡ Static (Number number) → number < MEMORY_SIZE)
    → (object : ℕ) (place : Place) → home_at homes object ≡ Static place
    → place_at layout place < MEMORY_SIZE
place_is_word layout homes words object (Number number) is = words object number is
place_is_word layout homes words object (Code offset) is = wrapped_small _
place_is_word layout homes words object (Data offset) is = wrapped_small _
place_is_word layout homes words object (External offset name) is = wrapped_small _
