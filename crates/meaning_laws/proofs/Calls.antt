-- What is called is there, with an object for each parameter; and what has a location is in memory.
use Rattle.meaning_laws.proofs.Prelude.{◌≡◌, ◌≢◌, ℕ, zero, suc, ◌+◌, ◌%◌, ◌&&◌, Bool, true, List, [], ◌∷◌, length, Option, Some, None, IsSomeAnd, slice_get, refl, sym, ap, subst, ◌∙◌, arith, option_map, AllByRecursion, enumerate_from, option_and_then, recursion_from_All, none-some, MEMORY_SIZE, ScalarType, Address, Visibility, AreParameters, HasParameters, home_of_parameters, IsPartOf, TypedArguments, NoArguments, MoreArguments, TypedReference, PartOf, Home, InData, InConstants, Placed, BasedOn, Elsewhere, Nowhere, InFrame, TypedObject, TypedProcedure, TypedModule, HasLocation, IsSeen, RefersToLocation, Takes, Within, types_of, IsSoundlyTyped, DeclaredProcedure, InProgram, agree, is_public_procedure, procedure_meant, MeansProcedure, external_procedure_meant, procedures_agree, Place, InMemory, Surroundings, home_of, place_of, read_scalar, Later, based_place, callee_in, displacement, located, procedure_at, value, values, Program, State, Outcome, Gave, Stopped, then_do, CalleeIsMeant, CallIsMeant, GivesInMemory, GivesSoMany, IsCallee, IsWhole, zero-add, at_place, not_external}
use Rattle.typed_trees.specs.declared.parts.Visibility.TheVariants as visibilities
use Rattle.meaning_laws.proofs.Names.{globals_listed, home_there}

-- the parameters of a procedure of a module
parameters_typed : (typed : TypedModule) (from : ℕ) (procedures : List TypedProcedure)
    → AllByRecursion (λ (numbered : ℕ × TypedProcedure). HasParameters typed numbered.0 numbered.1)
    (enumerate_from from procedures)
    → (number : ℕ) (found : TypedProcedure) → slice_get procedures number ≡ Some found
    → AreParameters typed (home_of_parameters (from + number) found.is_reentrant found.visibility)
    found.parameter_types found.parameters
parameters_typed typed from [] have number found is = absurd (none-some found is)
parameters_typed typed from (first ∷ others) have zero found is =
    let same : first ≡ found = cc in
    let here : from ≡ from + 0 = omega arith in
    subst
    (λ (number : ℕ).
    AreParameters typed (home_of_parameters number found.is_reentrant found.visibility) found.parameter_types
    found.parameters) here
    (subst
    (λ (one : TypedProcedure).
    AreParameters typed (home_of_parameters from one.is_reentrant one.visibility) one.parameter_types
    one.parameters) same (have.0).objects)
parameters_typed typed from (first ∷ others) have (suc number) found is =
    let here : from + 1 + number ≡ from + suc number = omega arith in
    subst
    (λ (at : ℕ).
    AreParameters typed (home_of_parameters at found.is_reentrant found.visibility) found.parameter_types
    found.parameters) here
    (parameters_typed typed (from + 1) others have.1 number found is)

-- what is PUBLIC or of its module alone is not EXTERNAL
public_differs : visibilities.Public ≢ visibilities.External
public_differs same = cc

private_differs : visibilities.Private ≢ visibilities.External
private_differs same = cc

-- what is called by a heading, at a place of a program
abbrev HeadsAt : Program → (heading : TypedProcedure) → InProgram → Type 0
HeadsAt program heading at =
    IsSomeAnd (procedure_at program.modules at)
    (λ (one : TypedModule × TypedProcedure). IsCallee program.modules heading at one.0 one.1)

module _ (program : Program) (whole : IsWhole program) where
  -- a procedure of a program, where it has the same result and parameters as a heading
  heads : (at : InProgram) (its : TypedModule) (found heading : TypedProcedure)
      → slice_get program.modules at.number_of_module ≡ Some its
      → slice_get its.procedures at.number ≡ Some found
      → found.visibility ≢ visibilities.External
      → (found.result ≡ heading.result) × (found.parameter_types ≡ heading.parameter_types)
      → HeadsAt program heading at
  heads at its found heading is there own same =
      let sound : IsSoundlyTyped its =
      at_place IsSoundlyTyped program.modules at.number_of_module its
      (recursion_from_All IsSoundlyTyped program.modules whole.sound) is in
      let place : procedure_at program.modules at ≡ Some (its, found) =
      ap (λ (entry : Option TypedModule).
      option_and_then
      (λ (one : TypedModule).
      option_map (λ (procedure : TypedProcedure). (one, procedure))
      (slice_get one.procedures at.number)) entry) is
      ∙ ap (λ (entry : Option TypedProcedure).
      option_map (λ (procedure : TypedProcedure). (its, procedure)) entry) there in
      subst
      (λ (entry : Option (TypedModule × TypedProcedure)).
      IsSomeAnd entry
      (λ (one : TypedModule × TypedProcedure). IsCallee program.modules heading at one.0 one.1)) (sym place)
      (record {
        its_module = is;
        its_procedure = there;
        own = own;
        result = same.0;
        types = same.1;
        parameters = subst
            (λ (number : ℕ).
            AreParameters its (home_of_parameters number found.is_reentrant found.visibility)
            found.parameter_types
            found.parameters) (zero-add at.number)
            (parameters_typed its 0 its.procedures
            (recursion_from_All _ (enumerate_from 0 its.procedures) (sound.parameters).procedures) at.number
            found
            there);
      })

  -- the PUBLIC one of an EXTERNAL one
  public_heads : (at : InProgram) (heading : TypedProcedure) → MeansProcedure program.modules heading at
      → HeadsAt program heading at
  public_heads at heading means = by_module (slice_get program.modules at.number_of_module) refl means
    where
      by_procedure : (its : TypedModule) (entry : Option TypedProcedure)
          → slice_get program.modules at.number_of_module ≡ Some its
          → slice_get its.procedures at.number ≡ entry
          → IsSomeAnd entry
          (λ (public : TypedProcedure). (is_public_procedure public.visibility ≡ true)
          × (agree (DeclaredProcedure heading) (DeclaredProcedure public) ≡ true))
          → HeadsAt program heading at
      by_procedure its None is there means = absurd means
      by_procedure its (Some public) is there means =
          let same = procedures_agree heading public means.1 in
          heads at its public heading is there (not_external public.visibility means.0)
          (sym same.0, sym same.1)

      by_module : (entry : Option TypedModule)
          → slice_get program.modules at.number_of_module ≡ entry
          → IsSomeAnd entry
          (λ (its : TypedModule). IsSomeAnd (slice_get its.procedures at.number)
          (λ (public : TypedProcedure). (is_public_procedure public.visibility ≡ true)
          × (agree (DeclaredProcedure heading) (DeclaredProcedure public) ≡ true)))
          → HeadsAt program heading at
      by_module None is means = absurd means
      by_module (Some its) is means = by_procedure its (slice_get its.procedures at.number) is refl means

-- a procedure of a module, by its number
abbrev own_place : Surroundings → (procedure : ℕ) → InProgram
own_place around procedure = record { number_of_module = around.number_of_module; number = procedure }

-- What a call of a procedure stands for is there: its module, its body, the result and the types of
-- parameters of the heading that the call was typed by, and an object for each parameter.
pub callee_is_meant : (around : Surroundings) → IsWhole around.program
    → (typed : TypedModule) (procedure : ℕ) (heading : TypedProcedure)
    → slice_get around.program.modules around.number_of_module ≡ Some typed
    → slice_get typed.procedures procedure ≡ Some heading
    → CalleeIsMeant around procedure heading
callee_is_meant around whole typed procedure heading here is =
    subst (λ (entry : Option InProgram). IsSomeAnd entry (HeadsAt around.program heading)) (sym callee_is)
    (by heading.visibility refl)
  where
    callee_is : callee_in around procedure
        ≡ procedure_meant around.program.modules (own_place around procedure) heading heading.visibility
    callee_is =
        ap (λ (entry : Option TypedModule).
        option_and_then
        (λ (its : TypedModule).
        option_and_then
        (λ (found : TypedProcedure). procedure_meant around.program.modules (own_place around procedure)
        found found.visibility)
        (slice_get its.procedures procedure)) entry) here
        ∙ ap (λ (entry : Option TypedProcedure).
        option_and_then
        (λ (found : TypedProcedure). procedure_meant around.program.modules (own_place around procedure) found
        found.visibility) entry) is

    own : heading.visibility ≢ visibilities.External
        → HeadsAt around.program heading (own_place around procedure)
    own not_external =
        heads around.program whole (own_place around procedure) typed heading heading here is
        not_external (refl, refl)

    external : (entry : Option InProgram) → IsSomeAnd entry (MeansProcedure around.program.modules heading)
        → IsSomeAnd entry (HeadsAt around.program heading)
    external None means = absurd means
    external (Some at) means = public_heads around.program whole at heading means

    by : (visibility : Visibility) → heading.visibility ≡ visibility
        → IsSomeAnd
        (procedure_meant around.program.modules (own_place around procedure) heading heading.visibility)
        (HeadsAt around.program heading)
    by visibilities.External is_external =
        external
        (procedure_meant around.program.modules (own_place around procedure) heading heading.visibility)
        (external_procedure_meant around.program.modules whole.joined (globals_listed around.program whole)
        around.number_of_module procedure typed heading here is is_external)
    by visibilities.Public is_public =
        subst
        (λ (visibility : Visibility).
        IsSomeAnd (procedure_meant around.program.modules (own_place around procedure) heading visibility)
        (HeadsAt around.program heading)) (sym is_public)
        (own (subst (λ (its : Visibility). its ≢ visibilities.External) (sym is_public) public_differs))
    by visibilities.Private is_private =
        subst
        (λ (visibility : Visibility).
        IsSomeAnd (procedure_meant around.program.modules (own_place around procedure) heading visibility)
        (HeadsAt around.program heading)) (sym is_private)
        (own (subst (λ (its : Visibility). its ≢ visibilities.External) (sym is_private) private_differs))

-- what a call stands for that was typed so
pub call_is_meant : (around : Surroundings) → IsWhole around.program
    → (typed : TypedModule) (procedure : ℕ) (result : Option ScalarType) (arguments : TypedArguments)
    → slice_get around.program.modules around.number_of_module ≡ Some typed
    → Takes typed procedure result arguments
    → CallIsMeant around typed procedure result arguments
call_is_meant around whole typed procedure result arguments here takes =
    by (slice_get typed.procedures procedure) refl takes
  where
    by : (entry : Option TypedProcedure) → slice_get typed.procedures procedure ≡ entry
        → IsSomeAnd entry
        (λ (found : TypedProcedure). (found.result ≡ result) × (found.parameter_types ≡ types_of arguments))
        → IsSomeAnd entry
        (λ (heading : TypedProcedure). (heading.result ≡ result)
        × (heading.parameter_types ≡ types_of arguments)
        × CalleeIsMeant around procedure heading)
    by None is takes = absurd takes
    by (Some heading) is takes =
        (takes.0, takes.1, callee_is_meant around whole typed procedure heading here is)

many_then : {A : Type 0} (count : ℕ) (outcome : Outcome A) (go : A → State → Outcome (List ℕ))
    → ((found : A) (t : State) → GivesSoMany count (go found t)) → GivesSoMany count (then_do outcome go)
many_then count (Gave found t) go rest = rest found t
many_then count (Stopped why t) go rest = tt

one_more : (count number : ℕ) (outcome : Outcome (List ℕ)) → GivesSoMany count outcome
    → GivesSoMany (suc count) (then_do outcome (λ numbers u. Gave (number ∷ numbers) u))
one_more count number (Gave found t) many = ap (λ (n : ℕ). suc n) many
one_more count number (Stopped why t) many = tt

-- as many values as arguments, and so as parameters of the heading that the arguments were typed by
pub values_are_counted : (later : Later) (around : Surroundings) (arguments : TypedArguments) (s : State)
    → GivesSoMany (length (types_of arguments)) (values later around arguments s)
values_are_counted later around NoArguments s = refl
values_are_counted later around (MoreArguments first others) s =
    many_then (suc (length (types_of others))) (value later around first s)
    (λ number t. then_do (values later around others t) (λ numbers u. Gave (number ∷ numbers) u))
    (λ number t. one_more (length (types_of others)) number (values later around others t)
    (values_are_counted later around others t))

memory_then : {A : Type 0} (outcome : Outcome A) (go : A → State → Outcome Place)
    → ((found : A) (t : State) → GivesInMemory (go found t)) → GivesInMemory (then_do outcome go)
memory_then (Gave found t) go rest = rest found t
memory_then (Stopped why t) go rest = tt

located_by_home : (home : Home) (around : Surroundings) (object bytes : ℕ) (is_inside : Bool) (s : State)
    → HasLocation home → GivesInMemory (based_place home around object bytes is_inside s)
located_by_home (BasedOn base) around object bytes is_inside s has =
    memory_then (read_scalar around.program Address (place_of around base) s)
    (λ start t. Gave (InMemory ((start + bytes) % MEMORY_SIZE)) t) (λ start t. tt)
located_by_home (InFrame procedure) around object bytes is_inside s has = absurd has
located_by_home (InData values) around object bytes is_inside s has = tt
located_by_home (InConstants values) around object bytes is_inside s has = tt
located_by_home (Placed at) around object bytes is_inside s has = tt
located_by_home Elsewhere around object bytes is_inside s has = tt
located_by_home Nowhere around object bytes is_inside s has = tt

-- what has a location is in memory
pub location_is_in_memory : (later : Later) (around : Surroundings) (typed : TypedModule) (within : Within)
    (reference : TypedReference) (s : State)
    → slice_get around.program.modules around.number_of_module ≡ Some typed
    → RefersToLocation typed within reference
    → GivesInMemory (located later around reference s)
location_is_in_memory later around typed within
    (PartOf object subscript member offset member_subscript) s here holds =
    by (slice_get typed.objects object) refl holds
  where
    by : (entry : Option TypedObject)
        → slice_get typed.objects object ≡ entry
        → IsSomeAnd entry
        (λ (found : TypedObject). IsSeen typed within found.home × HasLocation found.home
        × IsPartOf found (PartOf object subscript member offset member_subscript))
        → GivesInMemory (located later around (PartOf object subscript member offset member_subscript) s)
    by None is holds = absurd holds
    by (Some found) is holds =
        memory_then (displacement later around subscript s) _
        (λ one t. memory_then (displacement later around member_subscript t) _
        (λ two u.
        located_by_home (home_of around object) around object (one.bytes + offset + two.bytes)
        (one.is_inside && two.is_inside) u
        (subst HasLocation (sym (home_there around typed object found here is)) holds.1)))
