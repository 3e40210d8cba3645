-- A step and a run only add events.
use Rattle.isa8080.proofs.Prelude.{◌≡◌, ℕ, zero, suc, Bool, true, false, if◌then◌else◌, List, [], ◌∷◌, ◌++◌, refl, ap, ◌∙◌, append_assoc, Event, IsBeginning, read_event, write_event, input_value, Instr, Ldax, Inr, Dcr, Mvi, Mov, MovToMemory, ReturnIf, JumpIf, CallIf, Lda, Out, In, Of, M, Status, Running, Halted, Illegal, State, holds, act, Form, One, Two, Three, Unknown, form_of, advance, carry_out, next_byte, next_word, state_after, step_by, step_of, begins_itself}
use Rattle.mem80.specs.Memory.{byte_at}

pub begins_on :
    (one other last : List Event) → IsBeginning one other → IsBeginning other last → IsBeginning one last
begins_on one other last first second =
    (first.0 ++ second.0, second.1 ∙ ap (λ events. events ++ second.0) first.1 ∙ append_assoc one first.0 second.0)

-- either way of a condition
either_way :
    (test : Bool) (events : List Event) (one other : State)
    → IsBeginning events one.events
    → IsBeginning events other.events
    → IsBeginning events (if test then one else other).events
either_way true events one other yes_way no_way = yes_way
either_way false events one other yes_way no_way = no_way

-- what an instruction does only adds events
pub act_adds : (script : List (List ℕ)) (i : Instr) (s : State) → IsBeginning s.events (act script i s).events
act_adds script (Out port) s = (write_event port s.registers.a ∷ [], refl)
act_adds script (In port) s = (read_event port (input_value script s.events port) ∷ [], refl)
act_adds script (ReturnIf c) s =
    either_way (holds c s.registers.flags) s.events _ s (begins_itself s.events) (begins_itself s.events)
act_adds script (JumpIf c word) s =
    either_way (holds c s.registers.flags) s.events _ s (begins_itself s.events) (begins_itself s.events)
act_adds script (CallIf c word) s =
    either_way (holds c s.registers.flags) s.events _ s (begins_itself s.events) (begins_itself s.events)
act_adds script (Inr (Of register)) s = begins_itself s.events
act_adds script (Inr M) s = begins_itself s.events
act_adds script (Dcr (Of register)) s = begins_itself s.events
act_adds script (Dcr M) s = begins_itself s.events
act_adds script (Mvi (Of register) byte) s = begins_itself s.events
act_adds script (Mvi M byte) s = begins_itself s.events
act_adds script i s = begins_itself s.events

form_adds : (script : List (List ℕ)) (form : Form) (s : State)
    → IsBeginning s.events (carry_out script form s).events
form_adds script (One i) s = act_adds script i (advance 1 s)
form_adds script (Two i) s = act_adds script (i (next_byte s)) (advance 2 s)
form_adds script (Three i) s = act_adds script (i (next_word s)) (advance 3 s)
form_adds script Unknown s = begins_itself s.events

status_adds : (script : List (List ℕ)) (status : Status) (s : State)
    → IsBeginning s.events (step_by script status s).events
status_adds script Running s = form_adds script (form_of (byte_at s.memory s.registers.pc)) s
status_adds script Halted s = begins_itself s.events
status_adds script Illegal s = begins_itself s.events

-- a step
pub step_adds : (script : List (List ℕ)) (s : State) → IsBeginning s.events (step_of script s).events
unfolding step_of
step_adds script s = status_adds script s.status s

-- a run
pub run_adds : (script : List (List ℕ)) (k : ℕ) (s : State)
    → IsBeginning s.events (state_after script k s).events
unfolding state_after
run_adds script zero s = begins_itself s.events
run_adds script (suc k) s =
    begins_on s.events (state_after script k s).events (step_of script (state_after script k s)).events
    (run_adds script k s) (step_adds script (state_after script k s))
