-- A REENTRANT procedure returns: its frame is dropped, and the words of its other arguments.
use Rattle.procedure_laws.proofs.Prelude.{◌≡◌, ℕ, ◌+◌, ◌-◌, ◌*◌, ◌<◌, ◌≤◌, nat_eq, min, Bool, true, false, if◌then◌else◌, ◌++◌, length, refl, sym, ap, subst, ◌∙◌, arith, eqb-true, eqb-false, MEMORY_SIZE, HasParameters, Gave, SourceState, State, ProcedureKind, TreeProcedure, IsProcedure, nodes_of, return_distance, return_of, parameter_count, frame_fits, has_parameters, LiesWell, Does, at_place, Body, drop_steps, return_of_frame_steps, return_over_any_steps, return_steps, return_steps_by, Entries, ReturnLies, ModuleCode, loaded_by, ModuleLies, ReentrantReturns, frame_level, reentrant_body, HasReturned}
use Rattle.treecode.specs.declared.procedure.ProcedureKind.TheVariants as kinds
use Rattle.procedure_laws.proofs.ProcedureCalls.{return_is}
use Rattle.procedure_laws.proofs.Returns.ReturnsDrop.{frame_dropped}
use Rattle.procedure_laws.proofs.Returns.ReturnsOver.{over_returns}
use Rattle.procedure_laws.proofs.Zeros.{same_steps}
use Rattle.procedure_laws.proofs.Numbers.{after_one_less}

-- the bytes that are dropped are those below the return address
abbrev dropped : (bytes count : ℕ) → ℕ
dropped bytes count = min (bytes + (if nat_eq count 0 then 0 else 2)) 65535

dropped_is : (bytes count : ℕ) → bytes ≤ 1024 → dropped bytes count ≡ return_distance bytes count
dropped_is bytes count few = by_test (nat_eq count 0) refl
  where
    by_test : (test : Bool) → nat_eq count 0 ≡ test
        → min (bytes + (if test then 0 else 2)) 65535 ≡ return_distance bytes count
    by_test true same =
        let whole : min (bytes + 0) 65535 ≡ bytes = omega (arith, few) in
        whole ∙ ap (return_distance bytes) (sym (eqb-true count 0 same))
    by_test false same =
        let whole : min (bytes + 2) 65535 ≡ bytes + 2 = omega (arith, few) in
        whole ∙ ap (return_distance bytes) (after_one_less count (eqb-false count 0 same))

steps_are :
    (body : Body) → body.procedure.now.kind ≡ kinds.Reentrant
    → return_steps body
    ≡ drop_steps (dropped body.frame.now.variable_bytes body.frame.now.parameter_count)
    body.procedure.now.result
    ++ return_over_any_steps (body.frame.now.parameter_count - 1) body.procedure.now.result
unfolding return_steps_by return_of_frame_steps
steps_are body reentrant = ap (λ (kind : ProcedureKind). return_steps_by kind body) reentrant

pub reentrant_returns :
    (code : ModuleCode) (entries : Entries) (bound : ℕ) → ModuleLies code entries
    → ReentrantReturns code bound
reentrant_returns code entries bound lies index number room top procedure found body is kind charge_fits sound
    place back value base t r memory stands ready lie return_lies =
    does.told
  where
    lowered : IsProcedure code.typed (nodes_of code.tree.now) code.storage index procedure found
    lowered = lies.lowered.procedures index procedure found is.there is.is

    has : HasParameters code.typed index found
    has = has_parameters code.typed index found lies.parameters is.is

    well : LiesWell (reentrant_body code index found body bound number room top).context.activation
    well = sound.sound.lies

    few : body.frame.now.variable_bytes ≤ 1024
    few =
        let bytes = (is.frame kind).variable_bytes ∙ lowered.frame_bytes in
        let limit : found.frame_bytes ≤ 1024 = (frame_fits code.typed index found lies.frames is.is).bytes in
        omega (arith, bytes, limit)

    below : dropped body.frame.now.variable_bytes body.frame.now.parameter_count
        ≡ (return_of body.frame.now).start
    below = dropped_is body.frame.now.variable_bytes body.frame.now.parameter_count few

    count : body.frame.now.parameter_count ≡ length found.parameters
    count =
        (is.frame kind).parameter_count
        ∙ parameter_count code.typed index found (nodes_of code.tree.now).homes procedure.parameters.items has
        lowered.has_body.parameters

    whole : (return_of body.frame.now).start + 2 + 2 * (length found.parameters - 1)
        ≡ 2 + 2 * length found.parameters + found.frame_bytes
    whole =
        (return_is body.frame.now found.frame_bytes (length found.parameters)
        ((is.frame kind).variable_bytes ∙ lowered.frame_bytes) count).0

    above_is : frame_level body.frame.now top
        + dropped body.frame.now.variable_bytes body.frame.now.parameter_count + 2
        + 2 * (body.frame.now.parameter_count - 1)
        ≡ frame_level body.frame.now top + (2 + 2 * length found.parameters + found.frame_bytes)
    above_is = omega (arith, below, count, whole)

    limit : frame_level body.frame.now top + (2 + 2 * length found.parameters + found.frame_bytes)
        ≤ code.program.placement.stack.start + code.program.placement.stack.len
    limit = well.above

    low : top + 2 - room ≤ frame_level body.frame.now top
    low = well.low

    in_memory : code.program.placement.stack.start + code.program.placement.stack.len ≤ MEMORY_SIZE
    in_memory = well.placed.stack_in_memory

    return_there : ReturnLies
        (frame_level body.frame.now top + dropped body.frame.now.variable_bytes
        body.frame.now.parameter_count) back memory
    return_there =
        subst (λ (bytes : ℕ). ReturnLies (frame_level body.frame.now top + bytes) back memory)
        (sym below) return_lies

    small : dropped body.frame.now.variable_bytes body.frame.now.parameter_count < MEMORY_SIZE
    small = omega arith

    does : Does (loaded_by code) t.budget 0 (at_place place r memory t.events) (Gave value t)
        (λ (value : ℕ) (t : SourceState) (end : State).
        HasReturned (reentrant_body code index found body bound number room top) body.procedure.now.result
        (frame_level body.frame.now top + (2 + 2 * length found.parameters + found.frame_bytes))
        back memory value t end)
    does =
        frame_dropped {memory = memory} (reentrant_body code index found body bound number room top)
        well ready.shares.code
        ready.shares.is_memory
        (dropped body.frame.now.variable_bytes body.frame.now.parameter_count) body.procedure.now.result value
        (frame_level body.frame.now top) place r
        (return_over_any_steps (body.frame.now.parameter_count - 1) body.procedure.now.result) small
        (omega (arith, above_is, limit, in_memory))
        (same_steps (reentrant_body code index found body bound number room top)
        (steps_are body (ap (λ (one : TreeProcedure). one.kind) is.is_procedure ∙ kind))
        (record { list = stands.list; written = stands.written; there = stands.there }))
        (record { registers = ready.registers; pointer = ready.pointer; lies = lie })
        (λ here after now stand_after is_back.
        over_returns (reentrant_body code index found body bound number room top)
        body.procedure.now.result value
        (frame_level body.frame.now top + (2 + 2 * length found.parameters + found.frame_bytes)) back t memory
        well
        ready.shares (omega (arith, low)) limit (body.frame.now.parameter_count - 1) after stands.to
        (frame_level body.frame.now top + dropped body.frame.now.variable_bytes
        body.frame.now.parameter_count) here
        stands.last now above_is stand_after return_there is_back)
