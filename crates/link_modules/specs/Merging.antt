-- What a merge tells.
use Rattle.std.specs.Prelude.{List}
use Rattle.object_modules.specs.Displacements.{Start}
use Rattle.object_modules.specs.Module.{ObjectModule}

-- a merge, and where the pieces of its modules begin
pub record Merged : Type 0 where
  pub object : ObjectModule
  pub starts : List Start
