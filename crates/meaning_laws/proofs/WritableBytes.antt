-- The bytes that parts of a program read and change are there: in memory, and in the frames of calls.
use Rattle.meaning_laws.proofs.Prelude.{◌≡◌, ◌≢◌, ℕ, zero, suc, ◌+◌, ◌*◌, ◌%◌, ◌<◌, ◌≤◌, ◌&&◌, Bool, true, false, List, [], ◌∷◌, length, map, replicate, cond, slice_get, slice_index, Option, Some, None, IsSomeAnd, if◌then◌else◌, refl, sym, ap, subst, ◌∙◌, arith, one-mul, option_map, eq-eqb, ltb-true, length-replicate, All-weaker, get_or_from_slice_get, slice_get-map, MEMORY_SIZE, ScalarType, Address, Visibility, AreParameters, home_of_parameters, IsScalar, IsScalarOf, count_of, size_of_element, size_of_object, size_of_scalar, IsStorable, TypedExpression, TypedArguments, TypedReference, PartOf, Subscript, NoSubscript, At, TypedTarget, TypedIteration, TypedStatement, TypedList, Home, InData, InConstants, Placed, BasedOn, Elsewhere, Nowhere, InFrame, ObjectType, TypedObject, TypedProcedure, TypedModule, Within, WithinProcedure, WithinMain, LiesFor, IsSeen, RefersToScalar, Counts, IsSoundlyTyped, InProgram, starting_memory, starts_as, Place, InMemory, Surroundings, address_of, frame_bytes, home_of, place_in, place_of, read_scalar, Displacement, Later, based_place, displaced, displacement, done, done_list, frame_of, is_frame_of, later_by, located, parameters_set, stored, value, values, Program, State, Outcome, Gave, Stopped, Flow, Onward, Returned, Jumped, then_do, Continues, Extra, Keeps, jump_took, nothing_else, reads_scalar, later_keeps, sets_parameters, displacement_keeps, located_keeps, stored_keeps, value_keeps, values_keep, list_keeps, statement_keeps, GivesBytes, HasBytes, IsCallee, IsThere, IsWhole, JumpTakesOne, LeavesBytes, ParametersAreThere, and_parts, remainder_in_memory}
use Rattle.typed_trees.specs.declared.parts.Visibility.TheVariants as visibilities
use Rattle.typed_trees.proofs.Inside.{LiesAt, scalar_lies_within}
use Rattle.meaning_laws.proofs.Names.{home_there}

-- A call begins with a frame that has all bytes of each object that its procedure has in its frames.
pub new_frame_has_bytes : (typed : TypedModule) (number : ℕ) (result : Option ScalarType) (s : State)
    → length s.memory ≡ MEMORY_SIZE
    → HasBytes typed (WithinProcedure number result) (record s { frame = frame_of number typed })
new_frame_has_bytes typed number result s size = record {
  memory = size;
  frame = λ object procedure found is home_is lies. its_bytes object found is (home_is ∙ ap InFrame lies);
}
  where
    new_bytes : TypedObject → List ℕ
    new_bytes object = if is_frame_of number object.home then replicate (size_of_object object) 0 else []

    its_bytes : (object : ℕ) (found : TypedObject) → slice_get typed.objects object ≡ Some found
        → found.home ≡ InFrame number → length (frame_bytes (frame_of number typed) object)
        ≡ size_of_object found
    its_bytes object found is home_is =
        let here : slice_get (map new_bytes typed.objects) object ≡ Some (new_bytes found) =
        slice_get-map new_bytes typed.objects object
        ∙ ap (λ (entry : Option TypedObject). option_map new_bytes entry) is in
        let one : is_frame_of number found.home ≡ true =
        ap (λ (home : Home). is_frame_of number home) home_is ∙ eq-eqb number number refl in
        ap (λ (bytes : List ℕ). length bytes)
        (get_or_from_slice_get (map new_bytes typed.objects) object (new_bytes found) [] here)
        ∙ ap (λ (test : Bool). length {A = ℕ} (cond test (replicate (size_of_object found) 0) [])) one
        ∙ length-replicate (size_of_object found) 0

-- A main program begins with all bytes of memory, and has no objects in frames.
pub main_has_bytes : (program : Program) → IsWhole program → (given : List ℕ) → length given ≡ MEMORY_SIZE
    → (typed : TypedModule) (s : State) → s.memory ≡ starting_memory program.modules program.placement given
    → HasBytes typed WithinMain s
main_has_bytes program whole given size typed s is = record {
  memory = ap (λ (memory : List ℕ). length memory) is
      ∙ (starts_as program.modules program.placement given whole.lawful
      (All-weaker IsSoundlyTyped IsStorable (λ typed sound. sound.storable) program.modules whole.sound)
      size).size
      ∙ size;
  frame = λ object procedure found is home_is lies. absurd lies;
}

-- how many bytes an object has in a frame
sizes_at : (frame : List (List ℕ)) (object : ℕ)
    → slice_index (map length frame) object ≡ length (frame_bytes frame object)
sizes_at [] object = refl
sizes_at (first ∷ others) zero = refl
sizes_at (first ∷ others) (suc object) = sizes_at others object

-- what goes on within a call has the bytes that it had
bytes_kept : (program : Program) (typed : TypedModule) (within : Within) (s t : State) → Continues program s t
    → HasBytes typed within s → HasBytes typed within t
bytes_kept program typed within s t kept has = record {
  memory = (kept.follows).size ∙ has.memory;
  frame = λ object procedure found is home_is lies.
      sym (sizes_at t.frame object) ∙ ap (λ (sizes : List ℕ). slice_index sizes object) kept.frame
      ∙ sizes_at s.frame object ∙ has.frame object procedure found is home_is lies;
}

leaves_bytes : {A : Type 0} (program : Program) (extra : Extra A) (typed : TypedModule)
    (within : Within) (s : State)
    (outcome : Outcome A) → Keeps program extra s outcome → HasBytes typed within s
    → LeavesBytes typed within s outcome
leaves_bytes program extra typed within s (Gave found t) kept has =
    (bytes_kept program typed within s t kept.0 has, ((kept.0).follows).budget)
leaves_bytes program extra typed within s (Stopped why t) kept has = tt

jump_took_one : (program : Program) (s : State) (outcome : Outcome Flow) → Keeps program jump_took s outcome
    → JumpTakesOne s outcome
jump_took_one program s (Gave Onward t) kept = tt
jump_took_one program s (Gave (Returned number) t) kept = tt
jump_took_one program s (Gave (Jumped label) t) kept = kept.1
jump_took_one program s (Stopped why t) kept = tt

module _ (number : ℕ) (around : Surroundings) (typed : TypedModule) (within : Within) (s : State)
    (below : s.budget < number) (has : HasBytes typed within s) where
  -- after an expression
  pub value_leaves_bytes : (expression : TypedExpression)
      → LeavesBytes typed within s (value (later_by number) around expression s)
  value_leaves_bytes expression =
      leaves_bytes around.program nothing_else typed within s (value (later_by number) around expression s)
      (value_keeps number (later_by number) (later_keeps number) expression around s below) has

  -- after arguments
  pub values_leave_bytes : (arguments : TypedArguments)
      → LeavesBytes typed within s (values (later_by number) around arguments s)
  values_leave_bytes arguments =
      leaves_bytes around.program nothing_else typed within s (values (later_by number) around arguments s)
      (values_keep number (later_by number) (later_keeps number) arguments around s below) has

  -- after what locates a part of an object
  pub location_leaves_bytes : (reference : TypedReference)
      → LeavesBytes typed within s (located (later_by number) around reference s)
  location_leaves_bytes reference =
      leaves_bytes around.program nothing_else typed within s (located (later_by number) around reference s)
      (located_keeps number (later_by number) (later_keeps number) reference around s below) has

  -- after a store
  pub store_leaves_bytes : (target : TypedTarget) (found : ℕ)
      → LeavesBytes typed within s (stored (later_by number) around target found s)
  store_leaves_bytes target found =
      leaves_bytes around.program nothing_else typed within s (stored (later_by number) around target found s)
      (stored_keeps number (later_by number) (later_keeps number) target found around s below) has

  -- after a statement
  pub statement_leaves_bytes : (statement : TypedStatement)
      → LeavesBytes typed within s (done (later_by number) around statement s)
  statement_leaves_bytes statement =
      leaves_bytes around.program jump_took typed within s (done (later_by number) around statement s)
      (statement_keeps number (later_by number) (later_keeps number) statement around s below) has

  -- where a statement gives a jump, that took one of the budget
  pub jump_takes_one : (statement : TypedStatement)
      → JumpTakesOne s (done (later_by number) around statement s)
  jump_takes_one statement =
      jump_took_one around.program s (done (later_by number) around statement s)
      (statement_keeps number (later_by number) (later_keeps number) statement around s below)

  -- after a list of statements
  pub list_leaves_bytes : (list : TypedList)
      → LeavesBytes typed within s (done_list (later_by number) around list s)
  list_leaves_bytes list =
      leaves_bytes around.program jump_took typed within s (done_list (later_by number) around list s)
      (list_keeps number (later_by number) (later_keeps number) list around s below) has

-- after parameters are set
pub parameters_leave_bytes : (around : Surroundings) (typed : TypedModule) (within : Within)
    (scalars : List ScalarType) (parameters arguments : List ℕ) (s : State)
    → HasBytes typed within s → LeavesBytes typed within s
    (parameters_set around scalars parameters arguments s)
parameters_leave_bytes around typed within scalars parameters arguments s has =
    leaves_bytes around.program nothing_else typed within s
    (parameters_set around scalars parameters arguments s)
    (sets_parameters scalars parameters arguments around s) has

scalar_size : (scalar : ScalarType) (object : TypedObject) → IsScalar scalar object
    → size_of_object object ≡ size_of_scalar scalar
scalar_size scalar object is =
    ap (λ (dimension : Option ℕ). count_of dimension * size_of_element object.object_type) is.0
    ∙ ap (λ (object_type : ObjectType). 1 * size_of_element object_type) is.1
    ∙ one-mul (size_of_scalar scalar)

module _ (around : Surroundings) (typed : TypedModule) (within : Within)
    (here : slice_get around.program.modules around.number_of_module ≡ Some typed) where
  -- The bytes of a scalar that is not BASED are there.
  pub variable_is_there : (scalar : ScalarType) (object : ℕ) (found : TypedObject) (s : State)
      → slice_get typed.objects object ≡ Some found → IsScalar scalar found → LiesFor within found.home
      → HasBytes typed within s → IsThere (size_of_scalar scalar) (place_of around object) s
  variable_is_there scalar object found s is is_scalar lies has =
      subst (λ (home : Home). IsThere (size_of_scalar scalar) (place_in home around object 0 true) s)
      (sym (home_there around typed object found here is)) (by found.home refl lies)
    where
      in_memory : ((address_of around object + 0) % MEMORY_SIZE < MEMORY_SIZE)
          × (length s.memory ≡ MEMORY_SIZE)
      in_memory = (remainder_in_memory (address_of around object + 0), has.memory)

      by : (home : Home) → found.home ≡ home → LiesFor within home
          → IsThere (size_of_scalar scalar) (place_in home around object 0 true) s
      by (InFrame procedure) home_is lies =
          λ inside.
          let bytes = has.frame object procedure found is home_is lies in
          let size = scalar_size scalar found is_scalar in
          omega (arith, bytes, size)
      by (InData values) home_is lies = in_memory
      by (InConstants values) home_is lies = in_memory
      by (Placed at) home_is lies = in_memory
      by Elsewhere home_is lies = in_memory
      by (BasedOn base) home_is lies = absurd lies
      by Nowhere home_is lies = absurd lies

  -- The bytes of the variable of an iterative DO are there.
  pub counter_is_there : (head : TypedIteration) (s : State) → Counts typed within head
      → HasBytes typed within s
      → IsThere (size_of_scalar head.scalar) (place_of around head.variable) s
  counter_is_there head s counts has = by (slice_get typed.objects head.variable) refl counts
    where
      by : (entry : Option TypedObject) → slice_get typed.objects head.variable ≡ entry
          → IsSomeAnd entry
          (λ (object : TypedObject). IsScalar head.scalar object × LiesFor within object.home)
          → IsThere (size_of_scalar head.scalar) (place_of around head.variable) s
      by None is counts = absurd counts
      by (Some found) is counts = variable_is_there head.scalar head.variable found s is counts.0 counts.1 has

-- The bytes of each parameter of a procedure with a body are there.
pub parameters_are_there : (around : Surroundings) (typed : TypedModule) (number : ℕ)
    (result : Option ScalarType)
    (is_reentrant : Bool) (visibility : Visibility) (scalars : List ScalarType)
    (parameters : List ℕ) (s : State)
    → slice_get around.program.modules around.number_of_module ≡ Some typed
    → visibility ≢ visibilities.External
    → AreParameters typed (home_of_parameters number is_reentrant visibility) scalars parameters
    → HasBytes typed (WithinProcedure number result) s
    → ParametersAreThere around scalars parameters s
parameters_are_there around typed number result is_reentrant visibility [] [] s here own are has = tt
parameters_are_there around typed number result is_reentrant visibility (scalar ∷ scalars) []
    s here own are has =
    absurd are
parameters_are_there around typed number result is_reentrant visibility [] (parameter ∷ parameters)
    s here own are has =
    absurd are
parameters_are_there around typed number result is_reentrant visibility (scalar ∷ scalars)
    (parameter ∷ parameters) s
    here own are has = (
      by (slice_get typed.objects parameter) refl are.0,
      parameters_are_there around typed number result is_reentrant visibility scalars parameters
          s here own are.1 has,
    )
  where
    lies : (reentrant : Bool) (its : Visibility) → its ≢ visibilities.External
        → LiesFor (WithinProcedure number result) (home_of_parameters number reentrant its)
    lies reentrant visibilities.External differs = absurd (differs refl)
    lies true visibilities.Public differs = refl
    lies true visibilities.Private differs = refl
    lies false visibilities.Public differs = tt
    lies false visibilities.Private differs = tt

    by : (entry : Option TypedObject) → slice_get typed.objects parameter ≡ entry
        → IsSomeAnd entry
        (λ (object : TypedObject). IsScalar scalar object
        × (object.home ≡ home_of_parameters number is_reentrant visibility) × (object.is_parameter ≡ true))
        → IsThere (size_of_scalar scalar) (place_of around parameter) s
    by None is its = absurd its
    by (Some found) is its =
        variable_is_there around typed (WithinProcedure number result) here scalar parameter found s is its.0
        (subst (λ (home : Home). LiesFor (WithinProcedure number result) home) (sym its.1)
        (lies is_reentrant visibility own)) has

-- What is called begins with all bytes of its frame, those of its parameters among them.
pub callee_has_bytes : (around : Surroundings) (heading : TypedProcedure) (at : InProgram)
    (typed : TypedModule)
    (procedure : TypedProcedure) (s : State)
    → IsCallee around.program.modules heading at typed procedure
    → around.number_of_module ≡ at.number_of_module
    → length s.memory ≡ MEMORY_SIZE
    → HasBytes typed (WithinProcedure at.number procedure.result)
    (record s { frame = frame_of at.number typed })
    × ParametersAreThere around procedure.parameter_types procedure.parameters
    (record s { frame = frame_of at.number typed })
callee_has_bytes around heading at typed procedure s callee is_module size =
    let has = new_frame_has_bytes typed at.number procedure.result s size in
    let here : slice_get around.program.modules around.number_of_module ≡ Some typed =
    ap (λ (number : ℕ). slice_get around.program.modules number) is_module ∙ callee.its_module in (
      has,
      parameters_are_there around typed at.number procedure.result procedure.is_reentrant procedure.visibility
          procedure.parameter_types procedure.parameters
          (record s { frame = frame_of at.number typed }) here callee.own
          callee.parameters has,
    )

-- where its subscript is below the dimension, a displacement is that of an element
abbrev LiesInside : Subscript → Displacement → Type 0
LiesInside subscript found = found.is_inside ≡ true → LiesAt subscript found.bytes

abbrev GivesInside : Subscript → Outcome Displacement → Type 0
GivesInside subscript (Gave found t) = LiesInside subscript found
GivesInside _ (Stopped why t) = Unit {0}

displacement_inside : (later : Later) (around : Surroundings) (subscript : Subscript) (s : State)
    → GivesInside subscript (displacement later around subscript s)
displacement_inside later around NoSubscript s = λ inside. refl
displacement_inside later around (At stride count index) s = by (value later around index s)
  where
    by : (outcome : Outcome ℕ)
        → GivesInside (At stride count index)
        (then_do outcome (λ number t. Gave (displaced stride count number) t))
    by (Gave number t) = λ inside. (number, ltb-true number count inside, refl)
    by (Stopped why t) = tt

module _ (number : ℕ) (around : Surroundings) (typed : TypedModule) (within : Within) (size object : ℕ)
    (found : TypedObject)
    (here : slice_get around.program.modules around.number_of_module ≡ Some typed)
    (is : slice_get typed.objects object ≡ Some found) (seen : IsSeen typed within found.home) where
  -- where a BASED object begins, its base was read
  base_gives : (bytes : ℕ) (s : State) (outcome : Outcome ℕ) → Keeps around.program nothing_else s outcome
      → HasBytes typed within s
      → GivesBytes size (then_do outcome (λ start t. Gave (InMemory ((start + bytes) % MEMORY_SIZE)) t))
  base_gives bytes s (Gave start t) kept has =
      (remainder_in_memory (start + bytes), (bytes_kept around.program typed within s t kept.0 has).memory)
  base_gives bytes s (Stopped why t) kept has = tt

  place_gives : (bytes : ℕ) (is_inside : Bool) (s : State) → HasBytes typed within s
      → (is_inside ≡ true → bytes + size ≤ size_of_object found)
      → GivesBytes size (based_place (home_of around object) around object bytes is_inside s)
  place_gives bytes is_inside s has fits =
      subst (λ (home : Home). GivesBytes size (based_place home around object bytes is_inside s))
      (sym (home_there around typed object found here is)) (by found.home refl seen)
    where
      in_memory : ((address_of around object + bytes) % MEMORY_SIZE < MEMORY_SIZE)
          × (length s.memory ≡ MEMORY_SIZE)
      in_memory = (remainder_in_memory (address_of around object + bytes), has.memory)

      by : (home : Home) → found.home ≡ home → IsSeen typed within home
          → GivesBytes size (based_place home around object bytes is_inside s)
      by (BasedOn base) home_is seen =
          base_gives bytes s (read_scalar around.program Address (place_of around base) s)
          (reads_scalar around.program Address (place_of around base) s) has
      by (InFrame procedure) home_is seen =
          λ inside.
          let within_it = fits inside in
          let all = has.frame object procedure found is home_is seen in
          omega (arith, within_it, all)
      by (InData values) home_is seen = in_memory
      by (InConstants values) home_is seen = in_memory
      by (Placed at) home_is seen = in_memory
      by Elsewhere home_is seen = in_memory
      by Nowhere home_is seen = absurd seen

-- the place of what lies at two displacements
abbrev placed_at : Surroundings → (object offset : ℕ) → Displacement → Displacement → State → Outcome Place
placed_at around object offset one two u =
    based_place (home_of around object) around object (one.bytes + offset + two.bytes)
    (one.is_inside && two.is_inside) u

module _ (number : ℕ) (around : Surroundings) (typed : TypedModule) (within : Within) (scalar : ScalarType)
    (object : ℕ) (subscript : Subscript) (member : Option ℕ) (offset : ℕ) (member_subscript : Subscript)
    (found : TypedObject)
    (here : slice_get around.program.modules around.number_of_module ≡ Some typed)
    (is : slice_get typed.objects object ≡ Some found) (seen : IsSeen typed within found.home)
    (its : IsScalarOf found scalar (PartOf object subscript member offset member_subscript)) where
  -- after the second subscript
  second_gives : (one : Displacement) (t : State) (outcome : Outcome Displacement) → LiesInside subscript one
      → HasBytes typed within t → Keeps around.program nothing_else t outcome
      → GivesInside member_subscript outcome
      → GivesBytes (size_of_scalar scalar) (then_do outcome (placed_at around object offset one))
  second_gives one t (Gave two u) lies has kept lies_too =
      place_gives number around typed within (size_of_scalar scalar) object found here is seen
      (one.bytes + offset + two.bytes) (one.is_inside && two.is_inside) u
      (bytes_kept around.program typed within t u kept.0 has)
      (λ inside.
      let each = and_parts one.is_inside two.is_inside inside in
      scalar_lies_within found scalar object subscript member offset member_subscript one.bytes two.bytes its
      (lies each.0) (lies_too each.1))
  second_gives one t (Stopped why u) lies has kept lies_too = tt

  -- after the first
  first_gives : (s : State) (outcome : Outcome Displacement) → s.budget < number → HasBytes typed within s
      → Keeps around.program nothing_else s outcome → GivesInside subscript outcome
      → GivesBytes (size_of_scalar scalar)
      (then_do outcome
      (λ one t.
      then_do (displacement (later_by number) around member_subscript t)
      (placed_at around object offset one)))
  first_gives s (Gave one t) below has kept lies =
      second_gives one t (displacement (later_by number) around member_subscript t) lies
      (bytes_kept around.program typed within s t kept.0 has)
      (displacement_keeps number (later_by number) (later_keeps number) member_subscript around t
      (omega (arith, ((kept.0).follows).budget, below)))
      (displacement_inside (later_by number) around member_subscript t)
  first_gives s (Stopped why t) below has kept lies = tt

-- Where a scalar that a part refers to is located, its bytes are there.
pub scalar_is_there : (number : ℕ) (around : Surroundings) (typed : TypedModule) (within : Within)
    (scalar : ScalarType)
    (reference : TypedReference) (s : State)
    → slice_get around.program.modules around.number_of_module ≡ Some typed
    → RefersToScalar typed within scalar reference
    → s.budget < number → HasBytes typed within s
    → GivesBytes (size_of_scalar scalar) (located (later_by number) around reference s)
scalar_is_there number around typed within scalar
    (PartOf object subscript member offset member_subscript) s here refers
    below has =
    by (slice_get typed.objects object) refl refers
  where
    by : (entry : Option TypedObject) → slice_get typed.objects object ≡ entry
        → IsSomeAnd entry
        (λ (found : TypedObject). IsSeen typed within found.home
        × IsScalarOf found scalar (PartOf object subscript member offset member_subscript))
        → GivesBytes (size_of_scalar scalar)
        (located (later_by number) around (PartOf object subscript member offset member_subscript) s)
    by None is refers = absurd refers
    by (Some found) is refers =
        first_gives number around typed within scalar object subscript member offset
        member_subscript found here is
        refers.0 refers.1 s (displacement (later_by number) around subscript s) below has
        (displacement_keeps number (later_by number) (later_keeps number) subscript around s below)
        (displacement_inside (later_by number) around subscript s)
