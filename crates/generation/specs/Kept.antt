-- What the object module of a module keeps of what is promised of it.
use Rattle.object_modules.specs.Module.{IsObjectModule, ObjectModule}
use Rattle.typed_trees.specs.TypedTrees.{TypedModule}
use Rattle.image_laws.specs.Names.{HasNames}
use Rattle.image_laws.specs.Objects.{IsObjectOf}
use Rattle.image_laws.specs.Segments.{HasSegments}
use Rattle.program_laws.specs.OneModule.{DoesWhereItLies}
use Rattle.generation.specs.Bounded.{KeepsBound}

-- What `generate` promises of the object module of a module: wherever it lies, it does on the machine what the module
-- says; it is valid; it has the segments and the names of the module, and asks for no stack; and its code segment is within
-- the code bound of the module. How the code was made is no part of it.
pub record KeepsContract (typed : TypedModule) (object : ObjectModule) : Type 0 where
  pub does : DoesWhereItLies typed object
  pub valid : IsObjectModule object
  pub is_object : IsObjectOf typed object
  pub segments : HasSegments typed object
  pub names : HasNames typed object
  pub bound : KeepsBound typed object
