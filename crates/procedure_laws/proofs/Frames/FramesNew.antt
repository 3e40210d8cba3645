-- A new frame: zeros for its variables lie where the plan has them, and its parameters lie in their words.
use Rattle.procedure_laws.proofs.Prelude.{◌≡◌, ℕ, zero, suc, ◌+◌, ◌-◌, ◌<◌, ◌≤◌, inl, inr, Bool, true, false, if◌then◌else◌, List, [], ◌∷◌, length, map, replicate, slice_get, slice_index_or, Option, Some, None, IsSomeAnd, refl, sym, ap, subst, ◌∙◌, arith, option_map_or, get_or-replicate, length-replicate, eqb-true, none-some, byte_at, ScalarType, Visibility, AreParameters, HasParameters, IsParameter, home_of_parameters, is_in_frame, IsScalar, size_of_object, size_of_scalar, BasedOn, Elsewhere, Home, InConstants, InData, InFrame, Nowhere, Placed, TypedModule, TypedObject, TypedProcedure, InTheFrame, home_in, place_in, place_of, frame_of, is_frame_of, TreeProcedure, kind_of, IsProcedure, nodes_of, FramePlan, IsPlanOf, distance_of, parameter_distance, frame_number, listed, scalar_size, has_parameters, Entries, activation_in, frame_shape, size_in_frame, ModuleCode, ModuleLies, surroundings_in, zero-add}
use Rattle.typed_trees.specs.declared.parts.Visibility.TheVariants as visibilities
use Rattle.treecode.specs.declared.procedure.ProcedureKind.TheVariants as kinds
use Rattle.procedure_laws.proofs.Frames.FramesPlanned.{parameter_lies, variable_lies}
use Rattle.procedure_laws.proofs.ProcedureCalls.{as_many_parameters}
use Rattle.procedure_laws.proofs.Soundness.{frame_home}
use Rattle.procedure_laws.proofs.Frames.FramesSet.{AreInWords, IsAmong, IsOfParameters, LiesBut}

-- whether an object is in a frame, in the words of the meaning
same_test : (procedure : ℕ) (home : Home) → is_frame_of procedure home ≡ is_in_frame procedure home
same_test procedure (InFrame other) = refl
same_test procedure (InData values) = refl
same_test procedure (InConstants values) = refl
same_test procedure (Placed address) = refl
same_test procedure (BasedOn base) = refl
same_test procedure Elsewhere = refl
same_test procedure Nowhere = refl

-- the bytes of an object in a new frame
abbrev new_bytes : (procedure : ℕ) → TypedObject → List ℕ
new_bytes procedure object =
    if is_frame_of procedure object.home then replicate (size_of_object object) 0 else []

abbrev size_of_found : (procedure : ℕ) → TypedObject → ℕ
size_of_found procedure object = if is_in_frame procedure object.home then size_of_object object else 0

new_length : (procedure : ℕ) (object : TypedObject)
    → length (new_bytes procedure object) ≡ size_of_found procedure object
new_length procedure object =
    ap (λ (test : Bool). length {A = ℕ} (if test then replicate (size_of_object object) 0 else []))
    (same_test procedure object.home)
    ∙ by_test (is_in_frame procedure object.home)
  where
    by_test : (test : Bool)
        → length {A = ℕ} (if test then replicate (size_of_object object) 0 else [])
        ≡ (if test then size_of_object object else 0)
    by_test true = length-replicate (size_of_object object) 0
    by_test false = refl

lengths_from :
    (procedure object : ℕ) (objects : List TypedObject)
    → length (slice_index_or (map (new_bytes procedure) objects) object [])
    ≡ option_map_or (size_of_found procedure) (slice_get objects object) 0
lengths_from procedure object [] = refl
lengths_from procedure zero (first ∷ others) = new_length procedure first
lengths_from procedure (suc object) (first ∷ others) = lengths_from procedure object others

-- each byte is 0
new_zero : (procedure : ℕ) (object : TypedObject) (offset : ℕ)
    → offset < size_of_found procedure object
    → byte_at (new_bytes procedure object) offset ≡ 0
new_zero procedure object offset within =
    ap (λ (test : Bool). byte_at (if test then replicate (size_of_object object) 0 else []) offset)
    (same_test procedure object.home)
    ∙ by_test (is_in_frame procedure object.home) within
  where
    by_test : (test : Bool) → offset < (if test then size_of_object object else 0)
        → byte_at (if test then replicate (size_of_object object) 0 else []) offset ≡ 0
    by_test true within = get_or-replicate (size_of_object object) offset 0 0 within
    by_test false within = absurd (omega (arith, within))

zeros_from :
    (procedure object offset : ℕ) (objects : List TypedObject)
    → offset < option_map_or (size_of_found procedure) (slice_get objects object) 0
    → byte_at (slice_index_or (map (new_bytes procedure) objects) object []) offset ≡ 0
zeros_from procedure object offset [] within = absurd (omega (arith, within))
zeros_from procedure zero offset (first ∷ others) within = new_zero procedure first offset within
zeros_from procedure (suc object) offset (first ∷ others) within =
    zeros_from procedure object offset others within

-- what stands in a list is among its items
stands_among : (items : List ℕ) (index item : ℕ) → slice_get items index ≡ Some item → IsAmong item items
stands_among [] index item stands = absurd (none-some item stands)
stands_among (first ∷ others) zero item stands = let same : item ≡ first = cc in inl same
stands_among (first ∷ others) (suc index) item stands = inr (stands_among others index item stands)

-- the parameters of a REENTRANT procedure live in its frames
pub home_reentrant :
    (typed : TypedModule) (index : ℕ) (found : TypedProcedure)
    → kind_of typed index found ≡ kinds.Reentrant
    → home_of_parameters index found.is_reentrant found.visibility ≡ InFrame index
home_reentrant typed index found is = by found.visibility found.is_reentrant refl refl
  where
    kind_by : (visibility : Visibility) (is_reentrant : Bool)
        → found.visibility ≡ visibility → found.is_reentrant ≡ is_reentrant
        → kind_of typed index (record found { visibility = visibility; is_reentrant = is_reentrant })
        ≡ kinds.Reentrant
    kind_by visibility is_reentrant one other =
        sym (ap (λ (visibility : Visibility). kind_of typed index (record found { visibility = visibility }))
        one
        ∙ ap (λ (test : Bool). kind_of typed index
        (record found { visibility = visibility; is_reentrant = test })) other)
        ∙ is

    home_by : (visibility : Visibility) (is_reentrant : Bool)
        → found.visibility ≡ visibility → found.is_reentrant ≡ is_reentrant
        → home_of_parameters index is_reentrant visibility ≡ InFrame index
        → home_of_parameters index found.is_reentrant found.visibility ≡ InFrame index
    home_by visibility is_reentrant one other home =
        ap (λ (visibility : Visibility). home_of_parameters index found.is_reentrant visibility) one
        ∙ ap (λ (test : Bool). home_of_parameters index test visibility) other
        ∙ home

    by : (visibility : Visibility) (is_reentrant : Bool)
        → found.visibility ≡ visibility → found.is_reentrant ≡ is_reentrant
        → home_of_parameters index found.is_reentrant found.visibility ≡ InFrame index
    by visibilities.External is_reentrant one other =
        let kind = kind_by visibilities.External is_reentrant one other in
        let bad : ⊥ = cc in absurd bad
    by visibilities.Public false one other =
        let kind = kind_by visibilities.Public false one other in
        let bad : ⊥ = cc in absurd bad
    by visibilities.Private false one other =
        let kind = kind_by visibilities.Private false one other in
        let bad : ⊥ = cc in absurd bad
    by visibilities.Public true one other = home_by visibilities.Public true one other refl
    by visibilities.Private true one other = home_by visibilities.Private true one other refl

-- an object of a parameter in a frame
pub record IsObjectOf (typed : TypedModule) (index : ℕ) (scalar : ScalarType) (parameter : ℕ) : Type 0 where
  pub found : TypedObject
  pub there : slice_get typed.objects parameter ≡ Some found
  pub home : found.home ≡ InFrame index
  pub scalar_is : IsScalar scalar found

pub object_of :
    (typed : TypedModule) (index : ℕ) (scalar : ScalarType) (parameter : ℕ)
    → IsParameter typed (InFrame index) scalar parameter
    → IsObjectOf typed index scalar parameter
object_of typed index scalar parameter is = by_object (slice_get typed.objects parameter) refl is
  where
    by_object : (entry : Option TypedObject) → slice_get typed.objects parameter ≡ entry
        → IsSomeAnd entry
        (λ (object : TypedObject). IsScalar scalar object × (object.home ≡ InFrame index)
        × (object.is_parameter ≡ true))
        → IsObjectOf typed index scalar parameter
    by_object None there holds = absurd holds
    by_object (Some object) there holds =
        record { found = object; there = there; home = holds.1; scalar_is = holds.0 }

pub size_in_frame_is :
    (typed : TypedModule) (index : ℕ) (scalar : ScalarType) (parameter : ℕ)
    → (object : IsObjectOf typed index scalar parameter)
    → size_in_frame typed index parameter ≡ size_of_scalar scalar
size_in_frame_is typed index scalar parameter object =
    ap (λ (entry : Option TypedObject). option_map_or (size_of_found index) entry 0) object.there
    ∙ ap (λ (home : Home). if is_in_frame index home then size_of_object object.found else 0) object.home
    ∙ ap (λ (test : Bool). if test then size_of_object object.found else 0)
    (Rattle.std.proofs.lemmas.Bool.eq-eqb index index refl)
    ∙ scalar_size object.found scalar object.scalar_is

module _ (code : ModuleCode) (entries : Entries) (index : ℕ) (procedure : TreeProcedure)
    (found : TypedProcedure)
    (plan : FramePlan) (room floor level : ℕ) (lies : ModuleLies code entries)
    (there : slice_get code.tree.now.procedures.items index ≡ Some procedure)
    (stands : slice_get code.typed.procedures index ≡ Some found) (planned : IsPlanOf procedure plan) where
  abbrev lowered : IsProcedure code.typed (nodes_of code.tree.now) code.storage index procedure found
  lowered = lies.lowered.procedures index procedure found there stands

  -- a new frame lies in a memory with zeros for the variables, but for the bytes of the parameters
  pub new_lies :
      (memory : List ℕ)
      → ((address : ℕ) → level ≤ address → address < level + found.frame_bytes → byte_at memory address ≡ 0)
      → LiesBut (activation_in code room (frame_shape code.typed index found plan floor level))
      (IsOfParameters (activation_in code room (frame_shape code.typed index found plan floor level))
      found.parameters)
      (frame_of index code.typed) memory
  new_lies memory zeros = record {
    sizes = λ object. lengths_from index object code.typed.objects;
    bytes = λ object offset within closed.
        by_object object offset within closed (slice_get code.typed.objects object) refl
        ∙ sym (zeros_from index object offset code.typed.objects within);
  }
    where
      has : HasParameters code.typed index found
      has = has_parameters code.typed index found lies.parameters stands

      zero_of : (object offset : ℕ) (one : TypedObject)
          → slice_get code.typed.objects object ≡ Some one
          → (IsOfParameters (activation_in code room (frame_shape code.typed index found plan floor level))
          found.parameters object
          offset → ⊥)
          → offset < size_in_frame code.typed index object
          → one.home ≡ InFrame index
          → offset < size_of_object one
          → (named : Bool) → one.is_parameter ≡ named
          → byte_at memory (level + distance_of plan (frame_number code.typed index object) + offset) ≡ 0
      zero_of object offset one object_there closed inside home within true named =
          let its = listed code.typed index found object one has object_there home named in
          absurd (closed (inside, stands_among found.parameters its.index object its.stands))
      zero_of object offset one object_there closed inside home within false named =
          let below =
          variable_lies code.typed (nodes_of code.tree.now) code.storage index procedure
          found plan lies.sized
          lies.parameters lies.frames stands lowered planned object offset one object_there
          home named within in
          zeros (level + distance_of plan (frame_number code.typed index object) + offset) (omega arith)
          (omega (arith, below))

      by_test : (object offset : ℕ) (one : TypedObject)
          → slice_get code.typed.objects object ≡ Some one
          → (IsOfParameters (activation_in code room (frame_shape code.typed index found plan floor level))
          found.parameters object
          offset → ⊥)
          → offset < size_in_frame code.typed index object
          → (test : Bool) → is_in_frame index one.home ≡ test
          → offset < (if test then size_of_object one else 0)
          → byte_at memory (level + distance_of plan (frame_number code.typed index object) + offset) ≡ 0
      by_test object offset one object_there closed inside true is within =
          zero_of object offset one object_there closed inside (frame_home index one.home is) within
          one.is_parameter refl
      by_test object offset one object_there closed inside false is within = absurd (omega (arith, within))

      by_object : (object offset : ℕ)
          → offset < size_in_frame code.typed index object
          → (IsOfParameters (activation_in code room (frame_shape code.typed index found plan floor level))
          found.parameters object
          offset → ⊥)
          → (entry : Option TypedObject) → slice_get code.typed.objects object ≡ entry
          → byte_at memory (level + distance_of plan (frame_number code.typed index object) + offset) ≡ 0
      by_object object offset within closed None object_there =
          let none : size_in_frame code.typed index object ≡ 0
          = ap (λ (entry : Option TypedObject). option_map_or (size_of_found index) entry 0) object_there in
          absurd (omega (arith, within, none))
      by_object object offset within closed (Some one) object_there =
          by_test object offset one object_there closed within (is_in_frame index one.home) refl
          (subst (λ (entry : Option TypedObject). offset < option_map_or (size_of_found index) entry 0)
          object_there within)

  -- where a parameter lies
  place_there :
      (scalar : ScalarType) (parameter : ℕ)
      → IsObjectOf code.typed index scalar parameter
      → place_of (surroundings_in code room) parameter ≡ InTheFrame parameter 0 true
  place_there scalar parameter object =
      ap (λ (home : Home). place_in home (surroundings_in code room) parameter 0 true)
      (ap (λ (option : Option TypedModule).
      option_map_or (λ (typed : TypedModule). home_in typed parameter) option Nowhere) lies.is_module
      ∙ ap (λ (option : Option TypedObject). option_map_or
      (λ (found : TypedObject). found.home) option Nowhere)
      object.there
      ∙ object.home)

  -- the parameters from one on
  words_from :
      (before : ℕ) (scalars : List ScalarType) (parameters : List ℕ)
      → AreParameters code.typed (InFrame index) scalars parameters
      → length found.parameters ≡ before + length scalars
      → ((place parameter : ℕ) → slice_get parameters place ≡ Some parameter
      → slice_get found.parameters (before + place) ≡ Some parameter)
      → AreInWords (surroundings_in code room)
      (activation_in code room (frame_shape code.typed index found plan floor level))
      found.frame_bytes scalars parameters
  words_from before [] [] are count stand = tt
  words_from before [] (parameter ∷ parameters) are count stand = absurd are
  words_from before (scalar ∷ scalars) [] are count stand = absurd are
  words_from before (scalar ∷ scalars) (parameter ∷ parameters) are count stand =
      let object = object_of code.typed index scalar parameter are.0 in (
        record {
          place = place_there scalar parameter object;
          size = size_in_frame_is code.typed index scalar parameter object;
          distance =
              parameter_lies code.typed (nodes_of code.tree.now) code.storage index procedure
              found plan lies.sized
              lies.parameters lies.frames stands lowered planned parameter before scalar
              object.found object.there
              object.home object.scalar_is
              (ap (λ (place : ℕ). slice_get found.parameters place) at_first ∙ stand 0 parameter refl)
              ∙ ap (λ (followers : ℕ).
              parameter_distance found.frame_bytes followers (size_of_scalar scalar)) followers_are;
        },
        words_from (suc before) scalars parameters are.1 (omega (arith, count))
            (λ place other its.
            ap (λ (place : ℕ). slice_get found.parameters place) (at_next place)
            ∙ stand (suc place) other its),
      )
    where
      at_first : before ≡ before + 0
      at_first = omega arith

      at_next : (place : ℕ) → suc before + place ≡ before + suc place
      at_next place = omega arith

      followers_are : length found.parameters - before - 1 ≡ length scalars
      followers_are = omega (arith, count)

  -- all parameters lie in their words
  pub parameters_in_words :
      procedure.kind ≡ kinds.Reentrant
      → AreInWords (surroundings_in code room)
      (activation_in code room (frame_shape code.typed index found plan floor level))
      found.frame_bytes found.parameter_types found.parameters
  parameters_in_words kind =
      words_from 0 found.parameter_types found.parameters
      (subst (λ (home : Home). AreParameters code.typed home found.parameter_types found.parameters)
      (home_reentrant code.typed index found (sym lowered.kind ∙ kind))
      (has_parameters code.typed index found lies.parameters stands).objects)
      (omega (arith, count))
      (λ place parameter its. ap (λ (place : ℕ). slice_get found.parameters place) (zero-add place) ∙ its)
    where
      count : length found.parameters ≡ length found.parameter_types
      count =
          as_many_parameters code.typed (home_of_parameters index found.is_reentrant found.visibility)
          found.parameter_types
          found.parameters (has_parameters code.typed index found lies.parameters stands).objects
