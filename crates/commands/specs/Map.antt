-- The lines of where the objects of a program lie.
use Rattle.std.specs.Prelude.{ℕ, Bool, true, false, min, List, [], ◌∷◌, ◌++◌, codes, flat_map, zip, Option, Some, None}
use Rattle.std.specs.Fmt.{decimal}
use Rattle.typed_trees.specs.Sizes.{size_of_object}
use Rattle.typed_trees.specs.TypedTrees.{TypedModule, TypedObject}
use Rattle.layout.specs.Placement.{ModulePlacement, PieceKind, kind_of}
use Rattle.object_commands.specs.Placing.{address_digits}
use Rattle.sources.specs.Programs.{program_modules}
use Rattle.tool.specs.Construction.{Construction}

-- the line of an object: the names of its module and of itself, its address and how many bytes it takes, with
-- spaces (32) between them and a line feed (10) at the end
abbrev pub map_line : (of_module name : List ℕ) → (address size : ℕ) → List ℕ
map_line of_module name address size =
    codes "MAP " ++ of_module ++ 32 ∷ name ++ 32 ∷ address_digits address ++ 32 ∷ decimal size ++ 10 ∷ []

-- a line, where there is something that lies there
abbrev pub line_if : Option PieceKind → (line : List ℕ) → List ℕ
line_if None line = []
line_if (Some kind) line = line

-- the line of an object with its address, where it has storage or a place by AT; a size above 4294967295 is
-- printed as that number
abbrev pub object_line : (of_module : List ℕ) → TypedObject × ℕ → List ℕ
object_line of_module placed =
    line_if (kind_of (placed.0).home)
    (map_line of_module (placed.0).name placed.1 (min (size_of_object placed.0) 4294967295))

-- the lines of the objects of a module, and of those of modules
abbrev pub module_text : TypedModule × ModulePlacement → List ℕ
module_text placed =
    flat_map (object_line (placed.0).name) (zip (placed.0).objects (placed.1).objects)

abbrev pub map_text : List TypedModule → List ModulePlacement → List ℕ
map_text modules placed = flat_map module_text (zip modules placed)

-- the map of a program that was built
abbrev pub map_of : Construction → List ℕ
map_of built = map_text (program_modules built.program) built.placement.modules

-- the same, where it is wanted
abbrev pub map_if : Bool → Construction → List ℕ
map_if false built = []
map_if true built = map_of built
