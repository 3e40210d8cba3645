-- What the types of the code are.
use Rattle.std.specs.Prelude.{ℕ, List}
use Rattle.object_modules.specs.Displacements.{Start}
use Rattle.link_modules.specs.declared.mains.MainModule.{MainModule}
use Rattle.link_modules.specs.declared.placed.ModuleStart.{ModuleStart}

abbrev pub start_view : ModuleStart → Start
start_view start = record { code = start.code; data_start = start.data_start }

-- the name of a main module, and its start in the merge
abbrev pub main_view : MainModule → List ℕ × ℕ
main_view main = (main.name, main.start)
