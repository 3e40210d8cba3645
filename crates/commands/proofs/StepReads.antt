-- Steps that read no port, and steps that stay within the input.
use Rattle.commands.proofs.{Prelude.{◌≡◌, ℕ, ◌+◌, ◌<◌, Bool, true, false, List, [], ◌∷◌, ◌++◌, length, Option, Some, None, refl, sym, ap, ◌∙◌, arith, Event, IfSome, length-append, agree_below_at, if◌then◌else◌, byte_at, AddsEvent, read_event, write_event, input_value, act, Form, One, Two, Three, Unknown, form_of, State, holds, Instr, CallIf, Dcr, In, Inr, JumpIf, Mvi, Out, ReturnIf, Of, M, Status, advance, carry_out, next_byte, next_word, step_by, step_of, Machine, IsWithinInput, HasMore, ReadsNext, ReadsNothing, StaysWithin}, PortReads.{read_within, write_within}, Steps.{same_last}}
use Rattle.std.specs.Prelude.{◌==◌}

-- ---- only IN reads

abbrev is_in : Instr → Bool
is_in (In port) = true
is_in i = false

-- where the bytes after the first are these
abbrev may_read : (after : ℕ) → Form → Bool
may_read after (One i) = is_in i
may_read after (Two i) = is_in (i after)
may_read after (Three i) = is_in (i after)
may_read after Unknown = false

-- of the 256 codes one does
read_code : (after code : ℕ) → code < 256 → may_read after (form_of code) ≡ (code == 219)
read_code after code small = agree_below_at (λ c. may_read after (form_of c)) (λ c. c == 219) 256 code refl small

no_more : (events : List Event) (event : Event) → events ≡ events ++ event ∷ [] → ⊥
no_more events event same =
    let longer : length events ≡ length events + 1 = ap (λ (es : List Event). length es) same ∙ length-append events (event ∷ []) in
    omega (arith, longer)

-- where an instruction is no IN, what it adds is a write
abbrev Writes : List Event → List Event → Type 0
Writes old new = (event : Event) → AddsEvent old new event → event.write ≡ true

none_writes : (events new : List Event) → new ≡ events → Writes events new
none_writes events new same event adds = absurd (no_more events event (sym same ∙ adds))

either_writes : (test : Bool) (events : List Event) (one other : State) → one.events ≡ events → other.events ≡ events → Writes events (if test then one else other).events
either_writes true events one other first second = none_writes events one.events first
either_writes false events one other first second = none_writes events other.events second

act_writes : (script : List (List ℕ)) (i : Instr) (s : State) → is_in i ≡ false → Writes s.events (act script i s).events
act_writes script (In port) s other = let bad : true ≡ false = other in cc
act_writes script (Out port) s other = λ event adds. sym (ap (λ (e : Event). e.write) (same_last s.events (write_event port s.registers.a) event adds))
act_writes script (ReturnIf c) s other = either_writes (holds c s.registers.flags) s.events _ s refl refl
act_writes script (JumpIf c word) s other = either_writes (holds c s.registers.flags) s.events _ s refl refl
act_writes script (CallIf c word) s other = either_writes (holds c s.registers.flags) s.events _ s refl refl
act_writes script (Inr (Of register)) s other = none_writes s.events s.events refl
act_writes script (Inr M) s other = none_writes s.events s.events refl
act_writes script (Dcr (Of register)) s other = none_writes s.events s.events refl
act_writes script (Dcr M) s other = none_writes s.events s.events refl
act_writes script (Mvi (Of register) byte) s other = none_writes s.events s.events refl
act_writes script (Mvi M byte) s other = none_writes s.events s.events refl
act_writes script i s other = none_writes s.events s.events refl

form_writes : (script : List (List ℕ)) (form : Form) (s : State) → ((after : ℕ) → may_read after form ≡ false) → Writes s.events (carry_out script form s).events
form_writes script (One i) s other = act_writes script i (advance 1 s) (other 0)
form_writes script (Two i) s other = act_writes script (i (next_byte s)) (advance 2 s) (other (next_byte s))
form_writes script (Three i) s other = act_writes script (i (next_word s)) (advance 3 s) (other (next_word s))
form_writes script Unknown s other = none_writes s.events s.events refl

-- the instruction at the program counter is no IN
pub reads_nothing : (m : Machine) (place code : ℕ) → place ≡ m.state.registers.pc → code ≡ byte_at m.state.memory place → code < 256 → (code == 219) ≡ false → ReadsNothing m
unfolding step_of
reads_nothing m place code at is small other runs event adds =
    let s : State = m.state in
    let found : byte_at s.memory s.registers.pc ≡ code = ap (λ n. byte_at s.memory n) (sym at) ∙ sym is in
    let none : (after : ℕ) → may_read after (form_of code) ≡ false = λ after. read_code after code small ∙ other in
    let step : (step_by m.script s.status s).events ≡ (carry_out m.script (form_of code) s).events =
    ap (λ (running : Status). (step_by m.script running s).events) runs ∙ ap (λ n. (carry_out m.script (form_of n) s).events) found in
    form_writes m.script (form_of code) s none event (sym step ∙ adds)

-- ---- the next step stays within the input

pub stays_within : (m : Machine) (read : Option ℕ) → IfSome read (λ port. ReadsNext m port) → (read ≡ None → ReadsNothing m) → IsWithinInput m.script m.state.events → HasMore read m.script m.state.events → StaysWithin m
stays_within m None reads nothing within more runs event adds = write_within m.script m.state.events event within (nothing refl runs event adds)
stays_within m (Some port) reads nothing within more runs event adds =
    let next : event ≡ read_event port (input_value m.script m.state.events port) =
    same_last m.state.events event (read_event port (input_value m.script m.state.events port)) (sym adds ∙ reads runs) in
    read_within m.script m.state.events event within port more (ap (λ (e : Event). e.write) next) (ap (λ (e : Event). e.port) next)
