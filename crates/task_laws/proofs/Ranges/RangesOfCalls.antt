-- Values of typed trees are of their types: calls with arguments of the types of parameters give values of
-- the types of results, and leave bytes, in any program with well-typed modules.
use Rattle.task_laws.proofs.Prelude.{◌≡◌, ℕ, zero, suc, ◌-◌, ◌<◌, Bool, true, false, nat_lt, List, [], ◌∷◌, replicate, IsSomeAnd, Option, Some, None, option_map, slice_get, if◌then◌else◌, refl, sym, ap, ◌∙◌, subst, arith, All, AllByRecursion, option_and_then, option_map_or, All-map, All-nil, All-replicate, All-from_recursion, ScalarType, Visibility, charge_of, size_of_object, TypedModule, TypedObject, TypedProcedure, IsWellTyped, TypesHoldInList, TypesHoldInProcedure, WithinProcedure, DeclaredProcedure, InProgram, is_public_procedure, procedure_meant, Stack, Surroundings, place_of, write_scalar, Later, called, called_for, callee_in, charged, done_list, entered, frame_of, is_frame_of, later_by, parameters_set, procedure_at, value_of_flow, Flow, Gave, Jumped, Onward, Outcome, Outside, Returned, Stopped, then_do, AreOfTypes, CallsFit, Context, IsOfResult, SourceFits, NumbersFitInList, NumbersFitInModule, NumbersFitInProcedure, HasTypes, holds_for_item, numbered_at}
use Rattle.typed_trees.specs.declared.parts.Visibility.TheVariants as visibilities
use Rattle.layout.specs.Joined.{agree}
use Rattle.layout.proofs.Meant.{MeansProcedure, external_procedure_meant, procedures_agree}
use Rattle.meaning.specs.Outcomes.{State}
use Rattle.task_laws.proofs.Ranges.RangesOfBytes.{Gives, IsGiven, IsStopped, given_by, gives_then, write_fits, after_taking, either}
use Rattle.task_laws.proofs.Ranges.RangesOfTrees.{CalleesAreHeaded, FlowFits, IsHeaded, LaterFits, calls_give, nothing_fits}
use Rattle.task_laws.proofs.Ranges.RangesOfStatements.{list_fits, rest_fits, turn_fits}

-- A call finds its procedure.
module _ (around : Surroundings) (program : HasTypes around.program) (typed : TypedModule)
    (here : slice_get around.program.modules around.number_of_module ≡ Some typed) where
  callee_is : (procedure : ℕ) (heading : TypedProcedure) → slice_get typed.procedures procedure ≡ Some heading
      → callee_in around procedure
      ≡ procedure_meant around.program.modules
      (record { number_of_module = around.number_of_module; number = procedure })
      heading heading.visibility
  callee_is procedure heading is =
      ap (λ (entry : Option TypedModule).
      option_and_then
      (λ (its : TypedModule).
      option_and_then
      (λ (found : TypedProcedure).
      procedure_meant around.program.modules
      (record { number_of_module = around.number_of_module; number = procedure })
      found found.visibility)
      (slice_get its.procedures procedure)) entry) here
      ∙ ap (λ (entry : Option TypedProcedure).
      option_and_then
      (λ (found : TypedProcedure).
      procedure_meant around.program.modules
      (record { number_of_module = around.number_of_module; number = procedure })
      found found.visibility) entry) is

  -- the procedure at a place in the program
  at_place : (modules : List TypedModule) (at : InProgram) (its : TypedModule) (found : TypedProcedure)
      → slice_get modules at.number_of_module ≡ Some its
      → slice_get its.procedures at.number ≡ Some found
      → procedure_at modules at ≡ Some (its, found)
  at_place modules at its found is there =
      ap (λ (entry : Option TypedModule).
      option_and_then
      (λ (one : TypedModule).
      option_map (λ (procedure : TypedProcedure). (one, procedure))
      (slice_get one.procedures at.number)) entry) is
      ∙ ap (λ (entry : Option TypedProcedure).
      option_map (λ (procedure : TypedProcedure). (its, procedure)) entry) there

  same_pair : (one other : TypedModule) (first second : TypedProcedure)
      → ◌≡◌ {A = Option (TypedModule × TypedProcedure)} (Some (one, first)) (Some (other, second))
      → first ≡ second
  same_pair one other first second same =
      ap (λ (found : Option (TypedModule × TypedProcedure)).
      option_map_or (λ (pair : TypedModule × TypedProcedure). pair.1) found first) same

  headed_by : (modules : List TypedModule) (at : InProgram) (heading : TypedProcedure) (its : TypedModule)
      (found : TypedProcedure)
      → procedure_at modules at ≡ Some (its, found)
      → (found.result ≡ heading.result) × (found.parameter_types ≡ heading.parameter_types)
      → IsHeaded modules at heading.result heading.parameter_types
  headed_by modules at heading its found there are other procedure is =
      let same : found ≡ procedure = same_pair its other found procedure (sym there ∙ is) in (
        ap (λ (one : TypedProcedure). one.result) (sym same) ∙ are.0,
        ap (λ (one : TypedProcedure). one.parameter_types) (sym same) ∙ are.1,
      )

  -- an EXTERNAL one
  meant_headed : (at : InProgram) (heading : TypedProcedure)
      → MeansProcedure around.program.modules heading at
      → IsHeaded around.program.modules at heading.result heading.parameter_types
  meant_headed at heading means =
      by_module (slice_get around.program.modules at.number_of_module) refl means
    where
      by_found : (its : TypedModule) (entry : Option TypedProcedure)
          → slice_get around.program.modules at.number_of_module ≡ Some its
          → slice_get its.procedures at.number ≡ entry
          → IsSomeAnd entry
          (λ (public : TypedProcedure). (is_public_procedure public.visibility ≡ true)
          × (agree (DeclaredProcedure heading) (DeclaredProcedure public) ≡ true))
          → IsHeaded around.program.modules at heading.result heading.parameter_types
      by_found its None is there holds = absurd holds
      by_found its (Some found) is there holds =
          let same = procedures_agree heading found holds.1 in
          headed_by around.program.modules at heading its found
          (at_place around.program.modules at its found is there)
          (sym same.0, sym same.1)

      by_module : (entry : Option TypedModule)
          → slice_get around.program.modules at.number_of_module ≡ entry
          → IsSomeAnd entry
          (λ (its : TypedModule). IsSomeAnd (slice_get its.procedures at.number)
          (λ (public : TypedProcedure). (is_public_procedure public.visibility ≡ true)
          × (agree (DeclaredProcedure heading) (DeclaredProcedure public) ≡ true)))
          → IsHeaded around.program.modules at heading.result heading.parameter_types
      by_module None is holds = absurd holds
      by_module (Some its) is holds = by_found its (slice_get its.procedures at.number) is refl holds

  pub callees_headed : CalleesAreHeaded typed around
  callees_headed procedure heading at is meant =
      by heading.visibility refl (sym (callee_is procedure heading is) ∙ meant)
    where
      own : Some (record { number_of_module = around.number_of_module; number = procedure }) ≡ Some at
          → IsHeaded around.program.modules at heading.result heading.parameter_types
      own same =
          let place : record { number_of_module = around.number_of_module; number = procedure } ≡ at = cc in
          subst (λ (one : InProgram). IsHeaded around.program.modules one heading.result
          heading.parameter_types) place
          (headed_by around.program.modules
          (record { number_of_module = around.number_of_module; number = procedure })
          heading typed heading
          (at_place around.program.modules
          (record { number_of_module = around.number_of_module; number = procedure }) typed heading here is)
          (refl, refl))

      by : (visibility : Visibility) → heading.visibility ≡ visibility
          → procedure_meant around.program.modules
          (record { number_of_module = around.number_of_module; number = procedure }) heading
          heading.visibility ≡ Some at
          → IsHeaded around.program.modules at heading.result heading.parameter_types
      by visibilities.External is_external same =
          meant_headed at heading
          (subst (λ (found : Option InProgram). IsSomeAnd found
          (MeansProcedure around.program.modules heading)) same
          (external_procedure_meant around.program.modules program.joined program.globals
          around.number_of_module
          procedure typed heading here is is_external))
      by visibilities.Public is_public same =
          own (sym (ap (λ (visibility : Visibility).
          procedure_meant around.program.modules
          (record { number_of_module = around.number_of_module; number = procedure }) heading
          visibility) is_public)
          ∙ same)
      by visibilities.Private is_private same =
          own (sym (ap (λ (visibility : Visibility).
          procedure_meant around.program.modules
          (record { number_of_module = around.number_of_module; number = procedure }) heading
          visibility) is_private)
          ∙ same)

-- a frame of zeros
zeros_fit : (procedure : ℕ) (typed : TypedModule)
    → All (λ bytes. All (λ byte. byte < 256) bytes) (frame_of procedure typed)
zeros_fit procedure typed =
    All-map (λ (bytes : List ℕ). All (λ (byte : ℕ). byte < 256) bytes)
    (λ (object : TypedObject). if is_frame_of procedure object.home then replicate
    (size_of_object object) 0 else [])
    typed.objects (All-from_recursion _ typed.objects (each typed.objects))
  where
    one : (test : Bool) (object : TypedObject)
        → All (λ (byte : ℕ). byte < 256) (if test then replicate (size_of_object object) 0 else [])
    one true object = All-replicate (λ (byte : ℕ). byte < 256) (size_of_object object) 0 (omega arith)
    one false object = All-nil (λ (byte : ℕ). byte < 256)

    each : (objects : List TypedObject)
        → AllByRecursion
        (λ object. All (λ (byte : ℕ). byte < 256)
        (if is_frame_of procedure object.home then replicate (size_of_object object) 0 else []))
        objects
    each [] = tt
    each (object ∷ others) = (one (is_frame_of procedure object.home) object, each others)

-- arguments become the values of parameters
pub parameters_fit :
    (around : Surroundings) (scalars : List ScalarType) (parameters arguments : List ℕ) (s : State)
    → AreOfTypes scalars arguments
    → SourceFits around s
    → Gives (λ found t. SourceFits around t) (parameters_set around scalars parameters arguments s)
parameters_fit around [] parameters arguments s types source = IsGiven source
parameters_fit around (scalar ∷ scalars) [] arguments s types source = IsGiven source
parameters_fit around (scalar ∷ scalars) (parameter ∷ parameters) [] s types source = IsGiven source
parameters_fit around (scalar ∷ scalars) (parameter ∷ parameters) (argument ∷ arguments) s types source =
    gives_then (write_scalar around.program scalar (place_of around parameter) argument s)
    (λ _ t. parameters_set around scalars parameters arguments t)
    (write_fits around scalar (place_of around parameter) argument s types.0 source)
    (λ _ t one. parameters_fit around scalars parameters arguments t types.1 one)

-- the value of a call
flow_value : (number : ℕ) (result : Option ScalarType) (flow : Flow)
    → FlowFits (WithinProcedure number result) flow
    → IsOfResult result (value_of_flow flow)
flow_value number result Onward fits = nothing_fits result
flow_value number result (Returned found) fits = fits
flow_value number result (Jumped label) fits = nothing_fits result

module _ (later : Later) (fits : LaterFits later) where
  -- the body of a procedure
  entered_fits :
      (around : Surroundings) (typed : TypedModule) (number : ℕ) (procedure : TypedProcedure)
      (arguments : List ℕ)
      (s : State)
      → HasTypes around.program
      → slice_get around.program.modules around.number_of_module ≡ Some typed
      → slice_get typed.procedures number ≡ Some procedure
      → AreOfTypes procedure.parameter_types arguments
      → SourceFits around s
      → Gives (λ found t. IsOfResult procedure.result found × SourceFits around t)
      (entered later typed number procedure arguments around s)
  entered_fits around typed number procedure arguments s program here is types source =
      gives_then
      (parameters_set around procedure.parameter_types procedure.parameters arguments
      (record s { frame = frame_of number typed }))
      (λ _ t.
      then_do (done_list later around procedure.body t)
      (λ flow u. Gave (value_of_flow flow) (record u { frame = s.frame })))
      (parameters_fit around procedure.parameter_types procedure.parameters arguments
      (record s { frame = frame_of number typed }) types
      (record { memory = source.memory; frame = zeros_fit number typed }))
      (λ _ t one.
      gives_then (done_list later around procedure.body t)
      (λ flow u. Gave (value_of_flow flow) (record u { frame = s.frame }))
      (list_fits later fits typed (WithinProcedure number procedure.result) around program
      (callees_headed around program typed here) here procedure.body t body_types body_numbers one)
      (λ flow u two.
      IsGiven (flow_value number procedure.result flow two.0, record { memory = two.1.memory; frame = source.frame })))
    where
      body_types : TypesHoldInList typed (WithinProcedure number procedure.result) procedure.body
      body_types =
          numbered_at (TypesHoldInProcedure typed) typed.procedures number procedure
          (holds_for_item IsWellTyped around.program.modules around.number_of_module typed
          program.types here).procedures is

      body_numbers : NumbersFitInList procedure.body
      body_numbers =
          holds_for_item NumbersFitInProcedure typed.procedures number procedure
          (holds_for_item NumbersFitInModule around.program.modules around.number_of_module typed
          program.numbers here).procedures
          is

  -- a call of a procedure that is found
  found_fits :
      (at : InProgram) (result : Option ScalarType) (scalars : List ScalarType) (arguments : List ℕ)
      (around : Surroundings) (s : State)
      → HasTypes around.program
      → IsHeaded around.program.modules at result scalars
      → AreOfTypes scalars arguments
      → SourceFits around s
      → Gives (λ found t. IsOfResult result found × SourceFits around t)
      (option_map_or
      (λ (found : TypedModule × TypedProcedure).
      charged (charge_of found.1) (record around { number_of_module = at.number_of_module }) s
      (λ within u. entered later found.0 at.number found.1 arguments within u))
      (procedure_at around.program.modules at) (Gave 0 s))
  found_fits at result scalars arguments around s program headed types source =
      by_module (slice_get around.program.modules at.number_of_module) refl
    where
      back : (room : ℕ) (procedure : TypedProcedure) (outcome : Outcome ℕ)
          → procedure.result ≡ result
          → Gives (λ found t. IsOfResult procedure.result found
          × SourceFits (record around { number_of_module = at.number_of_module; room = room }) t) outcome
          → Gives (λ found t. IsOfResult result found × SourceFits around t) outcome
      back room procedure outcome same IsStopped = IsStopped
      back room procedure outcome same (IsGiven {found = found} both) =
          IsGiven (
            subst (λ (its : Option ScalarType). IsOfResult its found) same both.0,
            record { memory = both.1.memory; frame = both.1.frame },
          )

      run : (typed : TypedModule) (procedure : TypedProcedure)
          → slice_get around.program.modules at.number_of_module ≡ Some typed
          → slice_get typed.procedures at.number ≡ Some procedure
          → (procedure.result ≡ result) × (procedure.parameter_types ≡ scalars)
          → Gives (λ found t. IsOfResult result found × SourceFits around t)
          (charged (charge_of procedure) (record around { number_of_module = at.number_of_module }) s
          (λ within u. entered later typed at.number procedure arguments within u))
      run typed procedure here is are =
          either (nat_lt around.room (charge_of procedure)) (Stopped (Outside Stack) s)
          (entered later typed at.number procedure arguments
          (record around { number_of_module = at.number_of_module; room = around.room - charge_of procedure })
          s)
          IsStopped
          (back (around.room - charge_of procedure) procedure
          (entered later typed at.number procedure arguments
          (record around { number_of_module = at.number_of_module; room = around.room - charge_of procedure })
          s)
          are.0
          (entered_fits
          (record around { number_of_module = at.number_of_module; room = around.room - charge_of procedure })
          typed at.number procedure arguments s program here is
          (subst (λ (its : List ScalarType). AreOfTypes its arguments) (sym are.1) types)
          (record { memory = source.memory; frame = source.frame })))

      by_procedure : (typed : TypedModule) (entry : Option TypedProcedure)
          → slice_get around.program.modules at.number_of_module ≡ Some typed
          → slice_get typed.procedures at.number ≡ entry
          → ((its : TypedModule) (procedure : TypedProcedure)
          → option_map {U = TypedModule × TypedProcedure}
          (λ (procedure : TypedProcedure). (typed, procedure)) entry
          ≡ Some (its, procedure)
          → (procedure.result ≡ result) × (procedure.parameter_types ≡ scalars))
          → Gives (λ found t. IsOfResult result found × SourceFits around t)
          (option_map_or
          (λ (found : TypedModule × TypedProcedure).
          charged (charge_of found.1) (record around { number_of_module = at.number_of_module }) s
          (λ within u. entered later found.0 at.number found.1 arguments within u))
          (option_map {U = TypedModule × TypedProcedure}
          (λ (procedure : TypedProcedure). (typed, procedure)) entry)
          (Gave 0 s))
      by_procedure typed None here is are = IsGiven (nothing_fits result, source)
      by_procedure typed (Some procedure) here is are = run typed procedure here is (are typed procedure refl)

      by_module : (entry : Option TypedModule)
          → slice_get around.program.modules at.number_of_module ≡ entry
          → Gives (λ found t. IsOfResult result found × SourceFits around t)
          (option_map_or
          (λ (found : TypedModule × TypedProcedure).
          charged (charge_of found.1) (record around { number_of_module = at.number_of_module }) s
          (λ within u. entered later found.0 at.number found.1 arguments within u))
          (option_and_then
          (λ (typed : TypedModule).
          option_map {U = TypedModule × TypedProcedure} (λ (procedure : TypedProcedure). (typed, procedure))
          (slice_get typed.procedures at.number))
          entry) (Gave 0 s))
      by_module None here = IsGiven (nothing_fits result, source)
      by_module (Some typed) here =
          by_procedure typed (slice_get typed.procedures at.number) here refl
          (λ its procedure is.
          headed its procedure
          (ap (λ (entry : Option TypedModule).
          option_and_then
          (λ (one : TypedModule).
          option_map {U = TypedModule × TypedProcedure} (λ (found : TypedProcedure). (one, found))
          (slice_get one.procedures at.number)) entry) here ∙ is))

  call_fits :
      (at : InProgram) (result : Option ScalarType) (scalars : List ScalarType) (arguments : List ℕ)
      (around : Surroundings) (s : State)
      → HasTypes around.program
      → IsHeaded around.program.modules at result scalars
      → AreOfTypes scalars arguments
      → SourceFits around s
      → Gives (λ found t. IsOfResult result found × SourceFits around t) (called later at arguments around s)
  call_fits at result scalars arguments around s program headed types source =
      after_taking around s
      (λ t.
      option_map_or
      (λ (found : TypedModule × TypedProcedure).
      charged (charge_of found.1) (record around { number_of_module = at.number_of_module }) t
      (λ within u. entered later found.0 at.number found.1 arguments within u))
      (procedure_at around.program.modules at) (Gave 0 t))
      source
      (λ t less. found_fits at result scalars arguments around t program headed types less)

-- The values of up to `number` calls, turns and jumps are of their types.
pub later_fits : (number : ℕ) → LaterFits (later_by number)
later_fits zero = record {
  call = λ at result scalars arguments around s program headed types source. IsStopped;
  again = λ typed within turn around s program here types source. IsStopped;
  onto = λ typed within list rest around s program here types more source. IsStopped;
}
later_fits (suc number) = record {
  call = λ at result scalars arguments around s program headed types source.
      call_fits (later_by number) (later_fits number) at result scalars arguments around s program
      headed types source;
  again = λ typed within turn around s program here types source.
      turn_fits (later_by number) (later_fits number) typed within around program
      (callees_headed around program typed here) here turn s types source;
  onto = λ typed within list rest around s program here types more source.
      rest_fits (later_by number) (later_fits number) typed within around program
      (callees_headed around program typed here) here list rest s types more source;
}

-- Calls in a module of a program, with arguments of the types of parameters, give values of the types of
-- results, and leave bytes in declared memory and frames.
pub calls_of_program_fit :
    (bound procedure found : ℕ) (typed : TypedModule) (heading : TypedProcedure) (values : List ℕ)
    (around : Surroundings) (s t : State)
    → HasTypes around.program
    → slice_get around.program.modules around.number_of_module ≡ Some typed
    → slice_get typed.procedures procedure ≡ Some heading
    → AreOfTypes heading.parameter_types values
    → SourceFits around s
    → called_for (later_by bound) (callee_in around procedure) values around s ≡ Gave found t
    → IsOfResult heading.result found × SourceFits around t
calls_of_program_fit bound procedure found typed heading values around s t program here is types source same =
    given_by (called_for (later_by bound) (callee_in around procedure) values around s) found t same
    (calls_give (later_by bound) typed around (later_fits bound) program
    (callees_headed around program typed here)
    procedure heading values s is types source)

-- The same for a context: the assumptions are properties of its program.
pub calls_fit :
    (context : Context) (bound : ℕ)
    → context.later ≡ later_by bound
    → HasTypes context.activation.around.program
    → slice_get context.activation.around.program.modules context.activation.around.number_of_module
    ≡ Some context.typed
    → CallsFit context
calls_fit context bound is_later program here procedure found heading values s t is types source same =
    calls_of_program_fit bound procedure found context.typed heading values
    context.activation.around s t program here is
    types source
    (subst
    (λ (later : Later).
    called_for later (callee_in context.activation.around procedure) values context.activation.around s
    ≡ Gave found t)
    is_later same)
