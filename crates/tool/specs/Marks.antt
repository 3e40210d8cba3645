-- Marks of the code of modules.
use Rattle.std.specs.Prelude.{List, [], ◌∷◌}
use Rattle.object_modules.specs.Module.{ObjectModule}
use Rattle.typed_trees.specs.TypedTrees.{TypedModule}
use Rattle.codegen8080.specs.declared.marking.Mark.{Mark}
use Rattle.codegen8080.specs.declared.module.CodeMarks.{CodeMarks}
use Rattle.generation.specs.ModuleMarks.{LieInModule}
use Rattle.tool.specs.declared.marking.SourceMark.{SourceMark}

-- a mark with its line, without that
abbrev pub mark_of : SourceMark → Mark
mark_of mark = record { part = mark.part; place = mark.place }

-- the marks of modules lie in the code of their object modules, one by one
abbrev pub LieInEach : List TypedModule → List ObjectModule → List CodeMarks → Type 0
LieInEach [] [] [] = Unit {0}
LieInEach (typed ∷ modules) (object ∷ objects) (marks ∷ others) =
    LieInModule marks typed object × LieInEach modules objects others
LieInEach modules objects others = ⊥
