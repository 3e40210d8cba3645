-- The views of the types of the code.
use Rattle.std.specs.Prelude.{map}
use Rattle.object_modules.specs.declared.object.ModuleParts.{ModuleParts}
use Rattle.object_modules.specs.declared.public.OwnedPublic.{OwnedPublic}
use Rattle.object_modules.specs.declared.public.PublicName.{PublicName}
use Rattle.object_modules.specs.declared.segment.Segment.TheVariants.{Code, Data}
use Rattle.object_modules.specs.Module.{Public, ObjectModule, IsObjectModule}
use Rattle.object_modules.specs.Stored.{IsStored, places_stored}

abbrev pub owned_public_view : OwnedPublic → Public
owned_public_view public =
    record { segment = public.segment; offset = public.offset; name = public.name }

abbrev pub public_view : PublicName → Public
public_view public =
    record { segment = public.segment; offset = public.offset; name = public.name.now }

-- the module that parts are
abbrev pub module_of_parts : ModuleParts → ObjectModule
module_of_parts parts = record {
  name = parts.name;
  code = places_stored Code parts.code;
  data_places = places_stored Data parts.data_bytes;
  stack_length = parts.stack_length;
  publics = map owned_public_view parts.publics.items;
  externals = parts.externals.items;
  start = parts.start;
}

-- the rules that the parts of a module follow
pub record AreKept (parts : ModuleParts) : Type 0 where
  pub code : IsStored Code parts.code
  pub data_places : IsStored Data parts.data_bytes
  pub object : IsObjectModule (module_of_parts parts)
