-- Where the parameters of a procedure lie that is not REENTRANT.
use Rattle.procedure_laws.proofs.Prelude.{◌≡◌, ◌≢◌, ℕ, zero, suc, ◌+◌, ◌%◌, ◌<◌, inl, inr, true, List, [], ◌∷◌, length, map, slice_get, slice_index_or, Option, Some, None, AllPairs, refl, sym, ap, subst, ◌∙◌, arith, IsSomeAnd, zip, option_map_or, MEMORY_SIZE, ScalarType, Byte, Address, AreParameters, IsScalar, size_of_scalar, Home, InData, TypedModule, TypedObject, Nowhere, InMemory, SourcePlace, home_in, home_of, place_in, place_of, based_place, Gave, SourceState, wrap, TreeHome, Parameter, location_of, parameter_at, place_of_slot, home_at, scalar_size, home_in_data, place_at, Entries, ModuleCode, ModuleLies, surroundings_in}
use Rattle.treecode.specs.declared.place.Home.TheVariants.{Static}
use Rattle.procedure_laws.proofs.Puts.{Apart, ApartFrom, AreMeant, EachApart, IsPart, Slot}
use Rattle.procedure_laws.proofs.Static.StaticBegins.{parameter_of}

-- what is true of a parameter
pub record SlotFits (code : ModuleCode) (slot : Slot) : Type 0 where
  pub object : TypedObject
  pub there : slice_get code.typed.objects slot.object ≡ Some object
  pub scalar : IsScalar slot.scalar object
  pub home : object.home ≡ InData []
  pub starts : home_at code.tree.now.homes.items slot.object ≡ Static slot.place
  pub at_is : place_at code.layout slot.place ≡ slot.at
  pub small : slot.at < MEMORY_SIZE

abbrev pub SlotsFit : ModuleCode → List Slot → Type 0
SlotsFit code [] = Unit {0}
SlotsFit code (slot ∷ slots) = SlotFits code slot × SlotsFit code slots

-- the places of parameters
pub record HasSlots (code : ModuleCode) (scalars : List ScalarType) (parameters : List ℕ) : Type 0 where
  pub slots : List Slot
  pub fit : SlotsFit code slots
  pub scalars_are : map (λ (slot : Slot). slot.scalar) slots ≡ scalars
  pub objects_are : map (λ (slot : Slot). slot.object) slots ≡ parameters
  pub parameters_are : map (parameter_at code.tree.now.homes.items) (zip scalars parameters)
      ≡ map parameter_of slots

pub slots_of :
    (code : ModuleCode) (entries : Entries) (scalars : List ScalarType) (parameters : List ℕ)
    → ModuleLies code entries
    → AreParameters code.typed (InData []) scalars parameters
    → HasSlots code scalars parameters
slots_of code entries [] [] lies are =
    record { slots = []; fit = tt; scalars_are = refl; objects_are = refl; parameters_are = refl }
slots_of code entries [] (parameter ∷ parameters) lies are = absurd are
slots_of code entries (scalar ∷ scalars) [] lies are = absurd are
slots_of code entries (scalar ∷ scalars) (parameter ∷ parameters) lies are =
    by_object (slice_get code.typed.objects parameter) refl are.0
    (slots_of code entries scalars parameters lies are.1)
  where
    by_object : (entry : Option TypedObject)
        → slice_get code.typed.objects parameter ≡ entry
        → IsSomeAnd entry
        (λ (object : TypedObject).
        IsScalar scalar object × (object.home ≡ InData []) × (object.is_parameter ≡ true))
        → HasSlots code scalars parameters
        → HasSlots code (scalar ∷ scalars) (parameter ∷ parameters)
    by_object None there is rest = absurd is
    by_object (Some object) there is rest = record {
      slots =
          record {
            scalar = scalar;
            object = parameter;
            place = place_of_slot (slice_index_or code.storage.objects parameter None);
            at = place_at code.layout (place_of_slot (slice_index_or code.storage.objects parameter None));
          }
          ∷ rest.slots;
      fit = (
        record {
          object = object;
          there = there;
          scalar = is.0;
          home = is.1;
          starts = starts;
          at_is = refl;
          small = lies.words parameter (place_of_slot (slice_index_or code.storage.objects parameter None))
              starts;
        },
        rest.fit,
      );
      scalars_are = ap (λ (scalars : List ScalarType). scalar ∷ scalars) rest.scalars_are;
      objects_are = ap (λ (parameters : List ℕ). parameter ∷ parameters) rest.objects_are;
      parameters_are =
          ap (λ (home : TreeHome).
          record { scalar = scalar; location = location_of home }
          ∷ map (parameter_at code.tree.now.homes.items) (zip scalars parameters)) starts
          ∙ ap (λ (others : List Parameter).
          record {
            scalar = scalar;
            location =
                location_of (Static (place_of_slot (slice_index_or code.storage.objects parameter None)));
          }
          ∷ others) rest.parameters_are;
    }
      where
        starts : home_at code.tree.now.homes.items parameter
            ≡ Static (place_of_slot (slice_index_or code.storage.objects parameter None))
        starts =
            ap (λ (homes : List TreeHome). home_at homes parameter) lies.lowered.homes
            ∙ home_in_data code.typed code.storage parameter object there is.1

-- where the meaning has them
nowhere : SourceState
nowhere = record { memory = []; frame = []; events = []; budget = 0 }

same_gave : (one other : SourcePlace) (s : SourceState) → Gave one s ≡ Gave other s → one ≡ other
same_gave one other s same = cc

at_zero : (at : ℕ) → at < MEMORY_SIZE → (at + 0) % MEMORY_SIZE ≡ at
at_zero at small = omega (arith, small)

slot_meant : (code : ModuleCode) (entries : Entries) (room : ℕ) (slot : Slot)
    → ModuleLies code entries → SlotFits code slot
    → place_of (surroundings_in code room) slot.object ≡ InMemory slot.at
slot_meant code entries room slot lies fits =
    ap (λ (home : Home). place_in home (surroundings_in code room) slot.object 0 true) home_is
    ∙ same_gave (place_in (InData []) (surroundings_in code room) slot.object 0 true)
    (InMemory ((place_at code.layout slot.place + 0) % MEMORY_SIZE)) nowhere
    (ap (λ (home : Home). based_place home (surroundings_in code room) slot.object 0 true nowhere)
    (sym home_is)
    ∙ (lies.resolves room).object slot.object slot.place 0 true nowhere fits.starts)
    ∙ ap (λ (at : ℕ). InMemory ((at + 0) % MEMORY_SIZE)) fits.at_is
    ∙ ap (λ (at : ℕ). InMemory at) (at_zero slot.at fits.small)
  where
    home_is : home_of (surroundings_in code room) slot.object ≡ InData []
    home_is =
        ap (λ (entry : Option TypedModule).
        option_map_or (λ (typed : TypedModule). home_in typed slot.object) entry
        Nowhere) lies.is_module
        ∙ ap (λ (entry : Option TypedObject).
        option_map_or (λ (found : TypedObject). found.home) entry Nowhere) fits.there
        ∙ fits.home

pub slots_meant : (code : ModuleCode) (entries : Entries) (room : ℕ) (slots : List Slot)
    → ModuleLies code entries → SlotsFit code slots → AreMeant (surroundings_in code room) slots
slots_meant code entries room [] lies fit = tt
slots_meant code entries room (slot ∷ slots) lies fit =
    (slot_meant code entries room slot lies fit.0, slots_meant code entries room slots lies fit.1)

-- they have no byte in common
record PartIs (code : ModuleCode) (slot : Slot) (address : ℕ) : Type 0 where
  offset : ℕ
  within : offset < size_of_scalar slot.scalar
  is : address ≡ wrap (slot.at + offset)

part_is : (code : ModuleCode) (slot : Slot) (scalar : ScalarType) (address : ℕ) → slot.scalar ≡ scalar
    → slot.at < MEMORY_SIZE → IsPart scalar slot.at address → PartIs code slot address
part_is code slot Byte address same small part =
    record {
      offset = 0;
      within = subst (λ (scalar : ScalarType). 0 < size_of_scalar scalar) (sym same) (omega arith);
      is = omega (arith, part, small);
    }
part_is code slot Address address same small (inl part) =
    record {
      offset = 0;
      within = subst (λ (scalar : ScalarType). 0 < size_of_scalar scalar) (sym same) (omega arith);
      is = omega (arith, part, small);
    }
part_is code slot Address address same small (inr part) =
    record {
      offset = 1;
      within = subst (λ (scalar : ScalarType). 1 < size_of_scalar scalar) (sym same) (omega arith);
      is = part;
    }

two_apart : (code : ModuleCode) (entries : Entries) (one other : Slot)
    → ModuleLies code entries → SlotFits code one → SlotFits code other
    → one.object ≢ other.object → Apart one other
two_apart code entries one other lies first second differ address left right =
    let its = part_is code one one.scalar address refl first.small left in
    let others = part_is code other other.scalar address refl second.small right in
    lies.apart one.object other.object first.object second.object one.place other.place its.offset
    others.offset differ
    first.there second.there first.home second.home first.starts second.starts
    (subst (λ (size : ℕ). its.offset < size)
    (sym (scalar_size first.object one.scalar first.scalar)) its.within)
    (subst (λ (size : ℕ). others.offset < size) (sym (scalar_size second.object other.scalar second.scalar))
    others.within)
    (ap (λ (at : ℕ). wrap (at + its.offset)) first.at_is ∙ sym its.is ∙ others.is
    ∙ ap (λ (at : ℕ). wrap (at + others.offset)) (sym second.at_is))

apart_from : (code : ModuleCode) (entries : Entries) (slot : Slot) (slots : List Slot)
    → ModuleLies code entries → SlotFits code slot → SlotsFit code slots
    → ((index d : ℕ) → index < length (map (λ (slot : Slot). slot.object) slots)
    → slot.object ≢ slice_index_or (map (λ (slot : Slot). slot.object) slots) index d)
    → ApartFrom slot slots
apart_from code entries slot [] lies first fit differ = tt
apart_from code entries slot (other ∷ slots) lies first fit differ = (
  two_apart code entries slot other lies first fit.0 (differ 0 0 (omega arith)),
  apart_from code entries slot slots lies first fit.1
      (λ index d below. differ (suc index) d (omega (arith, below))),
)

pub slots_apart : (code : ModuleCode) (entries : Entries) (slots : List Slot)
    → ModuleLies code entries → SlotsFit code slots
    → AllPairs (λ (one other : ℕ). one ≢ other) (map (λ (slot : Slot). slot.object) slots)
    → EachApart slots
slots_apart code entries [] lies fit differ = tt
slots_apart code entries (slot ∷ slots) lies fit differ = (
  apart_from code entries slot slots lies fit.0 fit.1
      (λ index d below. differ 0 (suc index) d (omega arith) (omega (arith, below))),
  slots_apart code entries slots lies fit.1
      (λ i j d before within. differ (suc i) (suc j) d (omega (arith, before)) (omega (arith, within))),
)

-- where one of them lies
pub slot_fits : (code : ModuleCode) (slots : List Slot) (index : ℕ) (slot : Slot)
    → SlotsFit code slots → slice_get slots index ≡ Some slot → SlotFits code slot
slot_fits code [] index slot fit is = let bad : ⊥ = cc in absurd bad
slot_fits code (first ∷ slots) zero slot fit is =
    let same : first ≡ slot = cc in subst (λ (one : Slot). SlotFits code one) same fit.0
slot_fits code (first ∷ slots) (suc index) slot fit is = slot_fits code slots index slot fit.1 is
