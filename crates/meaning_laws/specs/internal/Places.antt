-- Where the objects of a program lie: those that are PUBLIC, those that INITIAL and DATA locate, and what an
-- object stands for (PL/M-80 Programming Manual, "Extended scope: the PUBLIC and EXTERNAL attributes", "The
-- INITIAL attribute", "The DATA attribute").
use Rattle.std.specs.Prelude.{◌≡◌, ℕ, ◌+◌, ◌<◌, true, List, All, Some, IsSomeAnd, slice_get}
use Rattle.typed_trees.specs.declared.parts.InitialValue.TheVariants.{LocationValue}
use Rattle.typed_trees.specs.declared.parts.InitialValue.{InitialValue}
use Rattle.typed_trees.specs.Sizes.{size_of_object}
use Rattle.typed_trees.specs.Storable.{HasPlace}
use Rattle.typed_trees.specs.TypedTrees.{TypedObject, TypedModule}
use Rattle.layout.specs.Joined.{InProgram}
use Rattle.layout.specs.Placement.{IsDeclared}
use Rattle.layout.specs.StartingMemory.{address_in, meant_in, values_in}
use Rattle.meaning.specs.Outcomes.{Program}
use Rattle.meaning_laws.specs.internal.Meant.{HasAddress, IsPlaced}

-- an object that is PUBLIC has a place: in the data segment, among the constants, or where AT puts it
abbrev pub LiesIfPublic : TypedObject → Type 0
LiesIfPublic object = object.is_public ≡ true → HasPlace object.home

-- so has each PUBLIC object of a module: none is BASED, in a frame, nowhere, or in another module
abbrev pub PublicsLie : TypedModule → Type 0
PublicsLie typed = All LiesIfPublic typed.objects

-- what a value of INITIAL or DATA locates is an object of the table, which is not BASED, in a frame or nowhere
abbrev pub LocatesObject : (objects : List TypedObject) → InitialValue → Type 0
LocatesObject objects (LocationValue object offset) =
    IsSomeAnd (slice_get objects object) (λ (found : TypedObject). HasAddress found.home)
LocatesObject objects value = Unit {0}

-- the same for each value of an object
abbrev pub LocatesObjects : (objects : List TypedObject) → TypedObject → Type 0
LocatesObjects objects object = All (LocatesObject objects) (values_in object.home)

-- What is true of the table of objects of every module that a source text is, besides that the module is
-- soundly typed.
pub record ArePlaceable (objects : List TypedObject) : Type 0 where
  pub publics : All LiesIfPublic objects
  pub locations : All (LocatesObjects objects) objects

abbrev pub IsPlaceable : TypedModule → Type 0
IsPlaceable typed = ArePlaceable typed.objects

-- An object of a program that is there and lies somewhere: the placement has an address for it, and each byte
-- from there on, as many as it takes, is declared. Where AT puts objects, they may share bytes.
pub record HasDeclaredBytes (program : Program) (at : InProgram) : Type 0 where
  pub typed : TypedModule
  pub object : TypedObject
  pub its_module : slice_get program.modules at.number_of_module ≡ Some typed
  pub its_object : slice_get typed.objects at.number ≡ Some object
  pub place : HasPlace object.home
  pub placed : IsPlaced program.placement at
  pub declared :
      (offset : ℕ) → offset < size_of_object object
      → IsDeclared program.modules program.placement (address_in program.placement at + offset)

-- an object of a module is there, and stands for one that lies somewhere
abbrev pub StandsForBytes : Program → (number_of_module : ℕ) → TypedModule → (object : ℕ) → Type 0
StandsForBytes program number_of_module typed object =
    IsSomeAnd (meant_in program.modules number_of_module object typed) (HasDeclaredBytes program)

-- so does each object of a module that is not BASED, in a frame or nowhere: one of another module too
abbrev pub ObjectsLie : Program → (number_of_module : ℕ) → TypedModule → Type 0
ObjectsLie program number_of_module typed =
    (object : ℕ) (found : TypedObject) → slice_get typed.objects object ≡ Some found
    → HasAddress found.home → StandsForBytes program number_of_module typed object

-- and each that a value of INITIAL or DATA locates
abbrev pub LocationLies : Program → (number_of_module : ℕ) → TypedModule → InitialValue → Type 0
LocationLies program number_of_module typed (LocationValue object offset) =
    StandsForBytes program number_of_module typed object
LocationLies program number_of_module typed value = Unit {0}

abbrev pub LocationsLie : Program → (number_of_module : ℕ) → TypedModule → Type 0
LocationsLie program number_of_module typed =
    All (λ (object : TypedObject). All (LocationLies program number_of_module typed) (values_in object.home))
    typed.objects
