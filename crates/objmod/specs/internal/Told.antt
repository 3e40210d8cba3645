-- The parts of a module that are put together of a walk.
use Rattle.std.specs.Prelude.{◌≡◌, map}
use Rattle.object_modules.specs.declared.object.ModuleParts.{ModuleParts}
use Rattle.object_modules.specs.declared.segment.Segment.TheVariants.{Code, Data}
use Rattle.object_modules.specs.internal.Views.{owned_public_view}
use Rattle.object_modules.specs.Walking.{Walking}
use Rattle.objmod.specs.internal.Keeping.{put_together}

pub record IsPutTogether (walking : Walking) (parts : ModuleParts) : Type 0 where
  pub name : parts.name ≡ walking.name
  pub code : parts.code ≡ put_together walking.code_length walking.code_alignment Code walking.contents
  pub data_bytes :
      parts.data_bytes ≡ put_together walking.data_length walking.data_alignment Data walking.contents
  pub stack : parts.stack_length ≡ walking.stack_length
  pub publics : map owned_public_view parts.publics.items ≡ walking.publics
  pub externals : parts.externals.items ≡ walking.externals
  pub start : parts.start ≡ walking.start
