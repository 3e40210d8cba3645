-- The contents of a program, part by part, as the code puts them.
use Rattle.std.specs.Prelude.{◌≡◌, ℕ, ◌+◌, ◌≤◌, List, [], ◌∷◌, ◌++◌, fold, Option, Some, None, slice_get}
use Rattle.std.specs.Option.{option_map_or}
use Rattle.mem80.specs.declared.memory.TheConstants.{MEMORY_SIZE}
use Rattle.typed_trees.specs.TypedTrees.{TypedModule}
use Rattle.layout.specs.Placement.{ModulePlacement}
use Rattle.layout.specs.StartingMemory.{Contents, contents_of_module, written}
use Rattle.meaning.specs.Outcomes.{Program}
use Rattle.meaning.specs.Access.{Surroundings}

-- the address `count` bytes after one, if it lies in memory
abbrev pub IsAfter : Option ℕ → (address count : ℕ) → Type 0
IsAfter None address count = MEMORY_SIZE ≤ address + count
IsAfter (Some next) address count = next ≡ address + count

-- a memory with bytes written where they begin, and with all of several
abbrev pub with_contents : List ℕ → Contents → List ℕ
with_contents memory contents = written memory contents.0 contents.1

abbrev pub with_all : List ℕ → List Contents → List ℕ
with_all memory all = fold with_contents memory all

-- the contents of a module, if there is one of that number
abbrev pub contents_at : Surroundings → ModulePlacement → List Contents
contents_at around placed =
    option_map_or
    (λ (typed : TypedModule).
    contents_of_module around.program.modules around.program.placement around.number_of_module typed placed)
    (slice_get around.program.modules around.number_of_module) []

-- a module of a program, by its number
abbrev pub module_in : Program → (number_of_module : ℕ) → Surroundings
module_in program number_of_module =
    record { program = program; number_of_module = number_of_module; room = 0 }

-- the contents of the modules from a number on, which lie as told
abbrev pub contents_from : Program → (number_of_module : ℕ) → List ModulePlacement → List Contents
contents_from program number_of_module [] = []
contents_from program number_of_module (placed ∷ others) =
    contents_at (module_in program number_of_module) placed
    ++ contents_from program (number_of_module + 1) others
