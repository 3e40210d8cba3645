-- What holds of a typed module, so that code can be made of it.
use Rattle.std.specs.Prelude.{◌≡◌, ℕ, ◌<◌, true, All, Some, slice_get}
use Rattle.typed_trees.specs.declared.parts.AtAddress.TheVariants.{AtObject}
use Rattle.typed_trees.specs.declared.parts.InitialValue.TheVariants.{LocationValue}
use Rattle.typed_trees.specs.declared.parts.InitialValue.{InitialValue}
use Rattle.typed_trees.specs.Frames.{FramesFit, ParametersFit}
use Rattle.typed_trees.specs.Globals.{ListsGlobals}
use Rattle.typed_trees.specs.Jumps.{JumpsAreSound}
use Rattle.typed_trees.specs.Sizes.{size_of_object}
use Rattle.typed_trees.specs.Storable.{IsStorable}
use Rattle.typed_trees.specs.TypedTrees.{Home, Placed, BasedOn, InFrame, TypedObject, TypedProcedure, TypedModule}
use Rattle.typed_trees.specs.WellTyped.{IsWellTyped}
use Rattle.layout.specs.StartingMemory.{values_in}

-- the object that another is BASED on is before it in the table
abbrev pub BasesStandBefore : TypedModule → Type 0
BasesStandBefore typed =
    (object base : ℕ) (found : TypedObject)
    → slice_get typed.objects object ≡ Some found → found.home ≡ BasedOn base → base < object

-- objects live in the frames of REENTRANT procedures alone
abbrev pub FramesAreReentrant : TypedModule → Type 0
FramesAreReentrant typed =
    (object number : ℕ) (found : TypedObject) (heading : TypedProcedure)
    → slice_get typed.objects object ≡ Some found
    → slice_get typed.procedures number ≡ Some heading
    → found.home ≡ InFrame number
    → heading.is_reentrant ≡ true

-- each object of a module takes a byte or more
abbrev pub TakeBytes : TypedModule → Type 0
TakeBytes typed = All (λ (object : TypedObject). 0 < size_of_object object) typed.objects

-- the number that INITIAL and DATA add to the location of an object is a word
abbrev pub AddsWord : InitialValue → Type 0
AddsWord (LocationValue object offset) = offset < 65536
AddsWord value = Unit {0}

abbrev pub AddWords : TypedModule → Type 0
AddWords typed = All (λ (object : TypedObject). All AddsWord (values_in object.home)) typed.objects

-- and so is the number that AT adds
abbrev pub AtAddsWord : Home → Type 0
AtAddsWord (Placed (AtObject other offset)) = offset < 65536
AtAddsWord home = Unit {0}

abbrev pub PlacesAddWords : TypedModule → Type 0
PlacesAddWords typed = All (λ (object : TypedObject). AtAddsWord object.home) typed.objects

-- What holds of every module that is typed from a source text.
pub record IsSoundlyTyped (typed : TypedModule) : Type 0 where
  pub types : IsWellTyped typed
  pub jumps : JumpsAreSound typed
  pub storable : IsStorable typed
  pub globals : ListsGlobals typed
  pub frames : FramesFit typed
  pub parameters : ParametersFit typed
  pub bases : BasesStandBefore typed
  pub reentrant : FramesAreReentrant typed
  pub sized : TakeBytes typed
  pub added : AddWords typed
  pub places : PlacesAddWords typed
