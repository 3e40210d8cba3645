-- The base of an object: its location by the tree and by the source, and the code for its address.
use Rattle.task_laws.proofs.Prelude.{◌≡◌, ℕ, ◌+◌, ◌*◌, ◌%◌, ◌<◌, Bool, true, List, [], Option, Some, None, slice_get, refl, sym, ap, subst, ◌∙◌, arith, IsSomeAnd, option_map_or, ScalarType, Address, IsScalar, count_of, size_of_element, size_of_object, TypedHome, InData, InConstants, Placed, BasedOn, Elsewhere, Nowhere, InFrame, ObjectType, TypedObject, TypedModule, IsSeen, LiesFor, Within, WithinMain, WithinProcedure, SourcePlace, InMemory, InTheFrame, Surroundings, home_in, home_of, place_in, place_of, read_scalar, based_place, SourceState, Outcome, Gave, Stopped, then_do, wrap, Home, Place, Location, frame_number, homes_of, place_after, home_at, home, location_at, place_at, location_after_is, Base, base_after, base_of, Context, IsSound, distances_in, address_on_machine}
use Rattle.treecode.specs.declared.place.Home.TheVariants as homes
use Rattle.treecode.specs.declared.place.Location.TheVariants as locations
use Rattle.treecode.specs.internal.Homes.{location_of}
use Rattle.steps8080.specs.declared.sites.queries.Base.TheVariants as bases
use Rattle.task_laws.proofs.Places.Homes.{Begins, BeginsAtBase, BeginsInFrame, BeginsInMemory, begins}
use Rattle.task_laws.proofs.Places.Reading.{FitsIn}

-- The base of an object, with `known` bytes of a displacement: its place on the machine is where the source
-- has the object, for each displacement with this known part.
pub data IsBase (context : Context) (object known : ℕ) : Base → Type 0 where
  InPlace : {place : Place}
      → ((bytes rest : ℕ) (is_inside : Bool) (s : SourceState)
      → wrap bytes ≡ wrap (rest + known)
      → based_place (home_of context.activation.around object) context.activation.around
      object bytes is_inside s
      ≡ Gave (InMemory (wrap (place_at context.activation.layout place + rest))) s)
      → IsBase context object known (bases.Static place)
  InAFrame : {variable offset : ℕ}
      → ((bytes : ℕ) (is_inside : Bool) (s : SourceState)
      → based_place (home_of context.activation.around object) context.activation.around
      object bytes is_inside s
      ≡ Gave (InTheFrame object bytes is_inside) s)
      → ((bytes rest : ℕ) → wrap bytes ≡ wrap (rest + known)
      → wrap (context.activation.level + context.activation.distance object + bytes)
      ≡ wrap (location_at context.activation (distances_in context) (locations.Frame variable offset) + rest))
      → IsBase context object known (bases.Frame variable offset)
  OnBase : {pointer : Location} {offset : ℕ} (base : ℕ)
      → wrap offset ≡ wrap known
      → ((bytes : ℕ) (is_inside : Bool) (s : SourceState)
      → based_place (home_of context.activation.around object) context.activation.around
      object bytes is_inside s
      ≡ then_do
      (read_scalar context.activation.around.program Address (place_of context.activation.around base) s)
      (λ start t. Gave (InMemory (wrap (start + bytes))) t))
      → address_on_machine context.activation (place_of context.activation.around base)
      ≡ location_at context.activation (distances_in context) pointer
      → FitsIn context.activation 2 (place_of context.activation.around base)
      → IsBase context object known (bases.Based pointer offset)

-- numbers in a base are words
abbrev pub IsSmall : Context → Base → Type 0
IsSmall context (bases.Static place) = place_at context.activation.layout place < 65536
IsSmall context (bases.Frame variable offset) = Unit {0}
IsSmall context (bases.Based pointer offset) = offset < 65536

pub small_after : (context : Context) (base : Base) (more : ℕ) → IsSound context
    → IsSmall context (base_after base more)
small_after context (bases.Static place) more sound =
    let is = sound.resolves.after place more in omega (arith, is)
small_after context (bases.Frame variable offset) more sound = tt
small_after context (bases.Based pointer offset) more sound = omega arith

rest_on : (bytes rest known more : ℕ) → wrap bytes ≡ wrap (rest + (known + more))
    → wrap bytes ≡ wrap (rest + more + known)
rest_on bytes rest known more is = omega (arith, is)

moved_on : (address rest more after : ℕ) → after ≡ wrap (address + more)
    → wrap (address + (rest + more)) ≡ wrap (after + rest)
moved_on address rest more after is = omega (arith, is)

further : (offset known more : ℕ) → wrap offset ≡ wrap known
    → wrap ((offset + more) % 65536) ≡ wrap (known + more)
further offset known more is = omega (arith, is)

-- a base `more` bytes further on
pub base_further :
    {context : Context} {object known : ℕ} (base : Base) (more : ℕ)
    → IsSound context
    → IsBase context object known base
    → IsBase context object (known + more) (base_after base more)
base_further {context = context} {object = object} {known = known} (bases.Static place) more
    sound (InPlace at) =
    InPlace (λ bytes rest is_inside s is.
    at bytes (rest + more) is_inside s (rest_on bytes rest known more is)
    ∙ ap (λ (n : ℕ). Gave (InMemory n) s)
    (moved_on (place_at context.activation.layout place) rest more
    (place_at context.activation.layout (place_after place more))
    (sound.resolves.after place more)))
base_further {context = context} {object = object} {known = known} (bases.Frame variable offset) more sound
    (InAFrame at is_at) =
    InAFrame at
    (λ bytes rest is.
    is_at bytes (rest + more) (rest_on bytes rest known more is)
    ∙ moved_on (location_at context.activation (distances_in context) (locations.Frame variable offset)) rest
    more
    (location_at context.activation (distances_in context)
    (locations.Frame variable ((offset + more) % 65536)))
    (location_after_is context.activation (distances_in context) (locations.Frame variable offset) more))
base_further {context = context} {object = object} {known = known} (bases.Based pointer offset) more sound
    (OnBase base is at place fits) =
    OnBase base (further offset known more is) at place fits

-- an option has a value, with a property
pub record HasSome {A : Type 0} (option : Option A) (P : A → Type 0) : Type 0 where
  pub found : A
  pub is : option ≡ Some found
  pub holds : P found

pub has_some : {A : Type 0} {P : A → Type 0} (option : Option A) → IsSomeAnd option P → HasSome option P
has_some None holds = absurd holds
has_some (Some found) holds = record { found = found; is = refl; holds = holds }

-- where the source has an object
pub home_there :
    (context : Context) (object : ℕ) (found : TypedObject)
    → IsSound context
    → slice_get context.typed.objects object ≡ Some found
    → home_of context.activation.around object ≡ found.home
home_there context object found sound is =
    ap (λ (option : Option TypedModule). option_map_or (λ (typed : TypedModule). home_in typed object) option
    Nowhere) sound.is_module
    ∙ ap (λ (option : Option TypedObject). option_map_or (λ (found : TypedObject). found.home) option Nowhere)
    is

-- and where tree code has it
pub begins_there :
    (context : Context) (object : ℕ) (found : TypedObject)
    → IsSound context
    → slice_get context.typed.objects object ≡ Some found
    → Begins context.typed context.storage object found.home
    (home_at context.site.tree.now.homes.items object)
begins_there context object found sound is =
    subst (λ (list : List Home). Begins context.typed context.storage object found.home (home_at list object))
    (sym sound.lowered.homes)
    (begins context.typed context.storage object found is
    (λ base same. sound.bases object base found is same))

nothing_yet : SourceState
nothing_yet = record { memory = []; frame = []; events = []; budget = 0 }

given : Outcome SourcePlace → SourcePlace
given (Gave place t) = place
given (Stopped why t) = InMemory 0

-- an object that is not BASED is at its home
pub not_based :
    (within : Within) (kind : TypedHome) (around : Surroundings) (object bytes : ℕ)
    (is_inside : Bool) (s : SourceState)
    → LiesFor within kind
    → based_place kind around object bytes is_inside s ≡ Gave (place_in kind around object bytes is_inside) s
not_based within (BasedOn base) around object bytes is_inside s lies = absurd lies
not_based within (InData values) around object bytes is_inside s lies = refl
not_based within (InConstants values) around object bytes is_inside s lies = refl
not_based within (Placed at) around object bytes is_inside s lies = refl
not_based within Elsewhere around object bytes is_inside s lies = refl
not_based within Nowhere around object bytes is_inside s lies = refl
not_based within (InFrame procedure) around object bytes is_inside s lies = refl

-- the frame of the procedure that the code is of
pub own_frame :
    (within : Within) (procedure : ℕ) → LiesFor within (InFrame procedure)
    → (result : Option ScalarType) × (within ≡ WithinProcedure procedure result)
own_frame (WithinProcedure number result) procedure lies =
    (result, ap (λ (n : ℕ). WithinProcedure n result) (sym lies))
own_frame WithinMain procedure lies = absurd lies

scalar_size : (object : TypedObject) → IsScalar Address object → size_of_object object ≡ 2
scalar_size object is =
    ap (λ (dimension : Option ℕ). count_of dimension * size_of_element object.object_type) is.0
    ∙ ap (λ (object_type : ObjectType). 1 * size_of_element object_type) is.1

same_sum : (address bytes rest : ℕ) → wrap bytes ≡ wrap (rest + 0)
    → wrap (address + bytes) ≡ wrap (address + rest)
same_sum address bytes rest is = omega (arith, is)

framed_sum :
    (level begins distance bytes rest : ℕ) → begins ≡ distance → wrap bytes ≡ wrap (rest + 0)
    → wrap (level + begins + bytes) ≡ wrap (wrap (level + distance + 0) + rest)
framed_sum level begins distance bytes rest same is = omega (arith, same, is)

-- the pointer that an object is BASED on
pub record IsPointer (context : Context) (base : ℕ) (pointer : Location) : Type 0 where
  pub is_at : address_on_machine context.activation (place_of context.activation.around base)
      ≡ location_at context.activation (distances_in context) pointer
  pub fits : FitsIn context.activation 2 (place_of context.activation.around base)

pointer_in_memory :
    (context : Context) (base : ℕ) (found : TypedObject) (place : Place)
    → IsSound context
    → slice_get context.typed.objects base ≡ Some found
    → LiesFor context.within found.home
    → home_at context.site.tree.now.homes.items base ≡ homes.Static place
    → IsPointer context base (locations.Static place)
unfolding given
pointer_in_memory context base found place sound is lies begins_at =
    let small = sound.words base place begins_at in
    let around = context.activation.around in
    let home_is = home_there context base found sound is in
    let at : place_of around base ≡ InMemory (wrap (place_at context.activation.layout place + 0))
    = ap given
    (sym (ap (λ (kind : TypedHome). based_place kind around base 0 true nothing_yet) home_is
    ∙ not_based context.within found.home around base 0 true nothing_yet lies
    ∙ ap (λ (kind : TypedHome). Gave (place_in kind around base 0 true) nothing_yet) (sym home_is))
    ∙ sound.resolves.object base place 0 true nothing_yet begins_at) in
    record {
      is_at = ap (address_on_machine context.activation) at ∙ omega (arith, small);
      fits = subst (λ (place : SourcePlace). FitsIn context.activation 2 place) (sym at) (omega arith);
    }

pointer_in_frame :
    (context : Context) (base procedure : ℕ) (found : TypedObject)
    → IsSound context
    → slice_get context.typed.objects base ≡ Some found
    → IsScalar Address found
    → found.home ≡ InFrame procedure
    → LiesFor context.within (InFrame procedure)
    → IsPointer context base (locations.Frame (frame_number context.typed procedure base) 0)
pointer_in_frame context base procedure found sound is scalar home_is lies =
    let own = own_frame context.within procedure lies in
    let planned = sound.frame procedure base own.0 found own.1 is home_is in
    let at : place_of context.activation.around base ≡ InTheFrame base 0 true
    = ap (λ (kind : TypedHome). place_in kind context.activation.around base 0 true)
    (home_there context base found sound is ∙ home_is) in
    let begins_at = planned.0 in
    let size = planned.1 in
    let two = scalar_size found scalar in
    record {
      is_at =
          ap (address_on_machine context.activation) at
          ∙ ap (λ (distance : ℕ). wrap (context.activation.level + distance + 0)) begins_at;
      fits = subst (λ (place : SourcePlace). FitsIn context.activation 2 place) (sym at)
          (λ inside. omega (arith, size, two));
    }

pointer_by_kind :
    (context : Context) (base : ℕ) (found : TypedObject) (kind : TypedHome) (home : Home)
    → IsSound context
    → slice_get context.typed.objects base ≡ Some found
    → IsScalar Address found
    → found.home ≡ kind
    → LiesFor context.within kind
    → home_at context.site.tree.now.homes.items base ≡ home
    → Begins context.typed context.storage base kind home
    → IsPointer context base (location_of home)
pointer_by_kind context base found kind home sound is scalar home_is lies at
    (BeginsInMemory {place = place}) =
    pointer_in_memory context base found place sound is
    (subst (λ (kind : TypedHome). LiesFor context.within kind) (sym home_is) lies) at
pointer_by_kind context base found kind home sound is scalar home_is lies at
    (BeginsInFrame {procedure = procedure}) =
    pointer_in_frame context base procedure found sound is scalar home_is lies
pointer_by_kind context base found kind home sound is scalar home_is lies at BeginsAtBase = absurd lies

pub pointer_is :
    (context : Context) (base : ℕ) (found : TypedObject)
    → IsSound context
    → slice_get context.typed.objects base ≡ Some found
    → IsScalar Address found
    → LiesFor context.within found.home
    → IsPointer context base (location_of (home_at context.site.tree.now.homes.items base))
pointer_is context base found sound is scalar lies =
    pointer_by_kind context base found found.home (home_at context.site.tree.now.homes.items base)
    sound is scalar refl
    lies refl (begins_there context base found sound is)

base_by_kind :
    (context : Context) (object : ℕ) (found : TypedObject) (kind : TypedHome) (home : Home)
    → IsSound context
    → slice_get context.typed.objects object ≡ Some found
    → found.home ≡ kind
    → IsSeen context.typed context.within kind
    → home_at context.site.tree.now.homes.items object ≡ home
    → Begins context.typed context.storage object kind home
    → IsBase context object 0 (base_of home)
base_by_kind context object found kind home sound is home_is seen at (BeginsInMemory {place = place}) =
    InPlace (λ bytes rest is_inside s is.
    sound.resolves.object object place bytes is_inside s at
    ∙ ap (λ (n : ℕ). Gave (InMemory n) s) (same_sum (place_at context.activation.layout place) bytes rest is))
base_by_kind context object found kind home sound is home_is seen at (BeginsInFrame {procedure = procedure}) =
    let own = own_frame context.within procedure seen in
    let planned = sound.frame procedure object own.0 found own.1 is home_is in
    InAFrame
    (λ bytes is_inside s.
    ap (λ (kind : TypedHome). based_place kind context.activation.around object bytes is_inside s)
    (home_there context object found sound is ∙ home_is))
    (λ bytes rest is.
    framed_sum context.activation.level (context.activation.distance object)
    (distances_in context (frame_number context.typed procedure object)) bytes rest planned.0 is)
base_by_kind context object found kind home sound is home_is seen at (BeginsAtBase {base = base}) =
    let its = has_some (slice_get context.typed.objects base) seen in
    let pointer = pointer_is context base its.found sound its.is its.holds.0 its.holds.1 in
    let same : home_at context.site.tree.now.homes.items base
    ≡ home_at (homes_of context.typed context.storage) base
    = ap (λ (list : List Home). home_at list base) sound.lowered.homes in
    OnBase base refl
    (λ bytes is_inside s.
    ap (λ (kind : TypedHome). based_place kind context.activation.around object bytes is_inside s)
    (home_there context object found sound is ∙ home_is))
    (pointer.is_at
    ∙ ap (λ (home : Home). location_at context.activation (distances_in context) (location_of home)) same)
    pointer.fits

-- the base of an object that is referred to
pub base_is :
    (context : Context) (object : ℕ)
    → IsSound context
    → IsSomeAnd (slice_get context.typed.objects object)
    (λ (found : TypedObject). IsSeen context.typed context.within found.home)
    → IsBase context object 0 (base_of (home context.site.tree.now object))
base_is context object sound referred =
    let its = has_some (slice_get context.typed.objects object) referred in
    base_by_kind context object its.found (its.found).home
    (home_at context.site.tree.now.homes.items object) sound its.is refl
    its.holds refl (begins_there context object its.found sound its.is)
