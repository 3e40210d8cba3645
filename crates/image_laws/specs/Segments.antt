-- Object modules that have the segments of modules: their code begins with the constants, their data are the variables,
-- and their PUBLIC names stand for the places of the objects.
use Rattle.std.specs.Prelude.{◌≡◌, ℕ, List, [], ◌∷◌, Option, Some, None, slice_get, true}
use Rattle.object_modules.specs.declared.segment.FixKind.TheVariants.{Both}
use Rattle.object_modules.specs.declared.segment.Segment.TheVariants.{Absolute}
use Rattle.object_modules.specs.declared.segment.Target.{Target}
use Rattle.object_modules.specs.declared.segment.Target.TheVariants.{InSegment, External}
use Rattle.object_modules.specs.Module.{Fixup, SetByte, Public, ObjectModule}
use Rattle.typed_trees.specs.TypedTrees.{TypedObject, TypedModule}
use Rattle.layout.specs.Segments.{Target as ModuleTarget, SegmentStart, ExternalName, Location, After, SegmentByte, Places, constant_places, data_places, location_of, Absolute as AtNumber}
use Rattle.image_laws.specs.Objects.{segment_of}

-- the target of a fix is that of a byte: the segment, or the EXTERNAL name by its number
abbrev pub IsTarget : ObjectModule → ModuleTarget → Target → Type 0
IsTarget object (SegmentStart segment) target = target ≡ InSegment (segment_of segment)
IsTarget object (ExternalName name) (External number) = slice_get object.externals number ≡ Some name
IsTarget object (ExternalName name) (InSegment segment) = ⊥

-- a fix is there where a byte gains the address of a target, and it is one of a word
abbrev pub IsFix : ObjectModule → Option ModuleTarget → Option Fixup → Type 0
IsFix object None None = Unit {0}
IsFix object (Some target) (Some fixup) = (fixup.kind ≡ Both) × IsTarget object target fixup.target
IsFix object target fixup = ⊥

-- a place is set as a byte of the segments is
abbrev pub IsPlace : ObjectModule → Option SegmentByte → Option SetByte → Type 0
IsPlace object None None = Unit {0}
IsPlace object (Some byte) (Some here) = (here.value ≡ byte.value) × IsFix object byte.target here.fixup
IsPlace object byte here = ⊥

-- places begin with these bytes
abbrev pub BeginWith : ObjectModule → Places → List (Option SetByte) → Type 0
BeginWith object [] places = Unit {0}
BeginWith object (byte ∷ bytes) (here ∷ others) = IsPlace object byte here × BeginWith object bytes others
BeginWith object (byte ∷ bytes) [] = ⊥

-- a public gives this location, which is in no other module
abbrev pub IsPublicAt : (name : List ℕ) → Location → Public → Type 0
IsPublicAt name (AtNumber address) public =
    public ≡ record { segment = Absolute; offset = address; name = name }
IsPublicAt name (After (SegmentStart segment) offset) public =
    public ≡ record { segment = segment_of segment; offset = offset; name = name }
IsPublicAt name (After (ExternalName other) offset) public = ⊥

-- one of the publics gives this location
pub record HasPublic (name : List ℕ) (location : Location) (publics : List Public) : Type 0 where
  pub place : ℕ
  pub public : Public
  pub found : slice_get publics place ≡ Some public
  pub is : IsPublicAt name location public

-- An object module has the segments of a module: its code begins with the constants, its data are the variables,
-- and each PUBLIC object is a public where it lies.
pub record HasSegments (typed : TypedModule) (object : ObjectModule) : Type 0 where
  pub code : BeginWith object (constant_places typed) object.code.places
  pub data_places : BeginWith object (data_places typed) object.data_places.places
  pub publics : (number : ℕ) (each : TypedObject)
      → slice_get typed.objects number ≡ Some each
      → each.is_public ≡ true
      → HasPublic each.name (location_of typed number) object.publics
