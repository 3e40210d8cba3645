-- A procedure that is not REENTRANT returns by RET.
use Rattle.procedure_laws.proofs.Prelude.{◌≡◌, ℕ, ◌+◌, ◌-◌, ◌*◌, ◌/◌, ◌%◌, ◌≤◌, List, [], ◌∷◌, Option, Some, None, refl, ap, subst, ◌∙◌, arith, MEMORY_SIZE, byte_at, word_at, Event, ScalarType, Byte, Address, Gave, SourceState, Ret, act, Registers, State, wrap, running, step_of, Item, ProcedureKind, TreeProcedure, IsThere, LiesWell, Does, at_place, plain_step, after_step, does_without_step, keeps_all, Body, Planned, plain, AreCarriedOut, return_steps, return_steps_by, ResultLies, BodyContext, IsOfCall, ReturnLies, ModuleCode, loaded_by, StaticReturns, static_body, static_level, HasReturned}
use Rattle.asm8080.proofs.Stack as stack
use Rattle.treecode.specs.declared.procedure.ProcedureKind.TheVariants as kinds
use Rattle.procedure_laws.proofs.Ends.{plain_planned}
use Rattle.procedure_laws.proofs.Numbers.{two_more_less}

-- a result lies where it does at another place of the program, with another stack pointer
pub result_kept : (result : Option ScalarType) (value : ℕ) (r now : Registers) (memory ended : List ℕ)
    → now.a ≡ r.a → now.h ≡ r.h → now.l ≡ r.l
    → ResultLies result value r memory → ResultLies result value now ended
result_kept None value r now memory ended a h l lies = tt
result_kept (Some Byte) value r now memory ended a h l lies = a ∙ lies
result_kept (Some Address) value r now memory ended a h l lies = (h ∙ lies.0, l ∙ lies.1)

first_byte : (level : ℕ) → level + 2 - 2 ≡ level + 0
first_byte level = omega arith

next_byte : (level : ℕ) → level + 2 - 1 ≡ level + 0 + 1
next_byte level = omega arith

-- RET, with the return address there
pub return_does :
    (script : List (List ℕ)) (place level back : ℕ) (r : Registers) (memory : List ℕ) (events : List Event)
    → r.sp ≡ wrap level
    → level + 2 ≤ MEMORY_SIZE
    → ReturnLies (level + 0) back memory
    → act script Ret (at_place place r memory events)
    ≡ at_place back (record r { sp = wrap (level + 2) }) memory events
return_does script place level back r memory events pointer limit return_lies =
    stack.return_does script place (level + 2) (wrap back) r memory events
    (pointer ∙ ap wrap (two_more_less level)) (omega arith) limit
    (record {
      high = ap (byte_at memory) (next_byte level) ∙ return_lies.high;
      low = ap (byte_at memory) (first_byte level) ∙ return_lies.low;
    })

steps_are : (body : Body) → body.procedure.now.kind ≡ kinds.Static → return_steps body ≡ plain Ret ∷ []
unfolding return_steps_by
steps_are body static = ap (λ (kind : ProcedureKind). return_steps_by kind body) static

pub static_returns : (code : ModuleCode) (bound : ℕ) → StaticReturns code bound
static_returns code bound index number room top procedure found body is static fits sound place back value
    base t r memory stands ready lie return_lies =
    does.told
  where
    at : BodyContext
    at = static_body code index found body bound number room top

    level : ℕ
    level = static_level found top

    lies : LiesWell (static_body code index found body bound number room top).context.activation
    lies = sound.sound.lies

    limit : static_level found top + 2 ≤ MEMORY_SIZE
    limit =
        let above = lies.above in
        let stack = lies.placed.stack_in_memory in
        omega (arith, above, stack)

    planned : AreCarriedOut body code.called stands.here None (plain Ret ∷ []) stands.list stands.last
    planned =
        subst (λ (steps : List Planned). AreCarriedOut body code.called stands.here None steps
        stands.list stands.last)
        (steps_are body (ap (λ (one : TreeProcedure). one.kind) is.is_procedure ∙ static)) stands.written

    now : Registers
    now = record r { sp = wrap (static_level found top + 2) }

    step : step_of code.program.script (at_place place r memory t.events)
        ≡ at_place back (record r { sp = wrap (static_level found top + 2) }) memory t.events
    step =
        let parts = plain_planned (static_body code index found body bound number room top) Ret [] planned in
        plain_step code.program.script
        (static_body code index found body bound number room top).context.activation Ret
        parts.more place stands.to r memory t.events lies ready.shares.code
        (subst (λ (list : List Item).
        IsThere (static_body code index found body bound number room top).context.activation
        list place stands.to)
        parts.is stands.there)
        ∙ return_does code.program.script (place + 1) (static_level found top) back r memory
        t.events ready.pointer limit
        return_lies

    does : Does (loaded_by code) t.budget 0 (at_place place r memory t.events) (Gave value t)
        (λ (value : ℕ) (t : SourceState) (end : State).
        HasReturned (static_body code index found body bound number room top) body.procedure.now.result
        (static_level found top + 2) back memory value t end)
    does =
        let bytes = ready.registers in
        after_step step
        (does_without_step (record {
          r = record r { sp = wrap (static_level found top + 2) };
          memory = memory;
          is_at = refl;
          shares = ready.shares;
          registers =
              record { a = bytes.a; b = bytes.b; c = bytes.c; d = bytes.d; e = bytes.e; h = bytes.h; l = bytes.l };
          pointer = refl;
          kept = keeps_all (IsOfCall code.program (top + 2 - room) (static_level found top + 2)) memory;
          lies =
              result_kept body.procedure.now.result value r
              (record r { sp = wrap (static_level found top + 2) }) memory
              memory refl refl refl lie;
        }))
