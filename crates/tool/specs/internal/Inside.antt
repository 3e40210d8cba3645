-- The parts of a built program as what a contract sees of it.
use Rattle.std.specs.Prelude.{List}
use Rattle.object_modules.specs.Module.{ObjectModule}
use Rattle.locate.specs.Locating.{Absolute}
use Rattle.mem80.specs.declared.plan.Plan.{Plan}
use Rattle.placing.specs.Views.{placement_view}
use Rattle.generation.specs.internal.Typed.{AreSoundlyMade}
use Rattle.sources.specs.Programs.{program_modules}
use Rattle.sources.specs.declared.placed.Placed.{Placed}
use Rattle.tool.specs.declared.built.Built.TheInside.{Inside}
use Rattle.tool.specs.Construction.{Construction, IsConstruction}
use Rattle.tool.specs.Marks.{LieInEach}

abbrev pub construction_of : Inside → Construction
construction_of b = record {
  program = b.program;
  plan = b.plan;
  placement = placement_view b.placement;
  objects = b.objects.items;
  image = b.image;
}

-- a construction whose object modules are those that `generate` makes of its modules: that they are is shown to nobody, and
-- what they do is in the contracts that they keep
abbrev pub IsMadeConstruction : Construction → Type 0
IsMadeConstruction built =
    IsConstruction built × AreSoundlyMade (program_modules built.program) built.objects

-- what is built is such a construction, and has the marks of each module
abbrev pub IsConstructionInside : Inside → Type 0
IsConstructionInside b =
    IsMadeConstruction (construction_of b) × LieInEach (program_modules b.program) b.objects.items b.marks.items

-- a program that was placed, with its object modules and its image
abbrev pub construction_with : Placed → Plan → List ObjectModule → Absolute → Construction
construction_with placed plan objects image = record {
  program = placed.program;
  plan = plan;
  placement = placement_view placed.placement;
  objects = objects;
  image = image;
}
