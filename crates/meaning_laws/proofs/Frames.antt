-- A call gives the frame of its caller back, and begins with a frame of zeros.
use Rattle.meaning_laws.proofs.Prelude.{◌≡◌, ℕ, ◌-◌, ◌==◌, Bool, true, false, List, [], ◌∷◌, Option, Some, None, cond, nat_lt, replicate, if◌then◌else◌, refl, All, AllByRecursion, option_map_or, All-from_recursion, All-map, All-nil, All-replicate, charge_of, size_of_object, TypedObject, TypedProcedure, TypedModule, InProgram, Stack, Surroundings, Later, called, charged, done_list, entered, frame_of, is_frame_of, parameters_set, procedure_at, State, Outside, Outcome, Gave, Stopped, then_do, LeavesFrame}

frame_then : {A : Type 0} (frame : List (List ℕ)) (outcome : Outcome A) (go : A → State → Outcome ℕ)
    → ((found : A) (t : State) → LeavesFrame frame (go found t)) → LeavesFrame frame (then_do outcome go)
frame_then frame (Gave found t) go rest = rest found t
frame_then frame (Stopped why t) go rest = tt

frame_if : (frame : List (List ℕ)) (test : Bool) (one other : Outcome ℕ)
    → LeavesFrame frame one → LeavesFrame frame other → LeavesFrame frame (cond test one other)
frame_if frame true one other first second = first
frame_if frame false one other first second = second

-- a call gives the frame back
pub call_gives_frame_back : (later : Later) (at : InProgram) (arguments : List ℕ)
    (around : Surroundings) (s : State)
    → LeavesFrame s.frame (called later at arguments around s)
call_gives_frame_back later at arguments around s =
    frame_if s.frame (s.budget == 0) _ _ tt (by (procedure_at around.program.modules at))
  where
    by : (entry : Option (TypedModule × TypedProcedure))
        → LeavesFrame s.frame
        (option_map_or
        (λ (found : TypedModule × TypedProcedure).
        charged (charge_of found.1) (record around { number_of_module = at.number_of_module })
        (record s { budget = s.budget - 1 })
        (λ within u. entered later found.0 at.number found.1 arguments within u)) entry
        (Gave 0 (record s { budget = s.budget - 1 })))
    by None = refl
    by (Some (typed, procedure)) =
        let within : Surroundings =
        record around { number_of_module = at.number_of_module; room = around.room - charge_of procedure } in
        let t : State = record s { budget = s.budget - 1 } in
        frame_if s.frame (nat_lt around.room (charge_of procedure)) (Stopped (Outside Stack) t)
        (entered later typed at.number procedure arguments within t) tt
        (frame_then s.frame
        (parameters_set within procedure.parameter_types procedure.parameters arguments
        (record t { frame = frame_of at.number typed })) _
        (λ _ u. frame_then s.frame (done_list later within procedure.body u) _ (λ flow v. refl)))

-- a new frame is zeros
pub new_frame_is_zeros : (procedure : ℕ) (typed : TypedModule)
    → All (λ (bytes : List ℕ). All (λ (byte : ℕ). byte ≡ 0) bytes) (frame_of procedure typed)
new_frame_is_zeros procedure typed =
    All-map (λ (bytes : List ℕ). All (λ (byte : ℕ). byte ≡ 0) bytes)
    (λ (object : TypedObject). if is_frame_of procedure object.home then replicate
    (size_of_object object) 0 else [])
    typed.objects (All-from_recursion _ typed.objects (each typed.objects))
  where
    one : (test : Bool) (object : TypedObject)
        → All (λ (byte : ℕ). byte ≡ 0) (if test then replicate (size_of_object object) 0 else [])
    one true object = All-replicate (λ (byte : ℕ). byte ≡ 0) (size_of_object object) 0 refl
    one false object = All-nil (λ (byte : ℕ). byte ≡ 0)

    each : (objects : List TypedObject)
        → AllByRecursion
        (λ object. All (λ (byte : ℕ). byte ≡ 0)
        (if is_frame_of procedure object.home then replicate (size_of_object object) 0 else []))
        objects
    each [] = tt
    each (object ∷ others) = (one (is_frame_of procedure object.home) object, each others)
