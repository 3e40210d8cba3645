-- The code that sends the low byte of a value to a port.
use Rattle.task_laws.proofs.Prelude.{◌≡◌, ℕ, ◌+◌, ◌%◌, ◌<◌, Bool, List, [], ◌∷◌, ◌++◌, refl, sym, ap, subst, ◌∙◌, write_event, ScalarType, Byte, Address, SourceState, values_of, Out, Registers, Sent, IsSent, Does, loaded_of, at_place, Arrives, does_without_step, Facts, Plain, send_steps, Context, InRegister, IsSound, StepsStand, PlainThere, PartDoes, StoreDoes, byte_is_low}
use Rattle.task_laws.specs.internal.Tasks.{IsStored}
use Rattle.task_laws.proofs.Machine.Rules.{GoesOn, registers_go}
use Rattle.task_laws.proofs.Machine.Addresses.{nothing_goes}
use Rattle.task_laws.proofs.Stores.Stores.{plain_gains}

-- OUT of the byte in A
out_goes :
    {context : Context} {facts last : Facts} {top from to : ℕ} {base : List ℕ}
    (Holds : Unit {0} → Registers → List ℕ → Type 0)
    (port byte : ℕ) (s : SourceState) (r : Registers) (memory : List ℕ)
    → IsSound context
    → r.a ≡ byte
    → StepsStand context (PartDoes context) facts from (Plain (Out port) ∷ []) last to
    → GoesOn context facts top base s.memory s.frame r memory
    → (GoesOn context last top base s.memory s.frame r memory → Holds tt r memory)
    → Does (loaded_of context.activation) s.budget 1 (at_place from r memory s.events)
    (Rattle.meaning.specs.Outcomes.Gave tt (record s { events = s.events ++ write_event port byte ∷ [] }))
    (Arrives context.activation top base to Holds)
out_goes {context = context} {top = top} {from = from} {to = to} {base = base} Holds port byte s r memory
    sound a (PlainThere there stand) on holds =
    plain_gains r r memory (s.events ++ write_event port byte ∷ []) sound there on tt
    (ap (λ (n : ℕ). at_place (from + 2) r memory (s.events ++ write_event port n ∷ [])) a)
    (λ known.
    nothing_goes r stand (record { ready = on.ready; known = known })
    (λ on_last. does_without_step
    (record { r = r; memory = memory; is_at = refl; ready = on_last.ready; holds = holds on_last })))

pub send_law :
    {context : Context} {facts last : Facts} {pushed from to port : ℕ}
    {scalar : ScalarType} (is_wanted : Bool)
    → IsSound context
    → StepsStand context (PartDoes context) facts from (send_steps scalar port) last to
    → StoreDoes context facts (Sent scalar port) is_wanted pushed from last to
send_law {context = context} {last = last} {port = port} {scalar = Byte} is_wanted sound stand bound number _
    tree IsSent types small top base s r memory less room ready known asked =
    let at_a : InRegister Byte number r =
    subst (λ (scalar : ScalarType). InRegister scalar number r) (sym types.0) asked in
    let fits : number < values_of Byte =
    subst (λ (scalar : ScalarType). number < values_of scalar) (sym types.0) small in
    out_goes (IsStored context last _ is_wanted number r memory) port (number % 256) s r memory sound
    (at_a ∙ byte_is_low number fits) stand (record { ready = ready; known = known })
    (λ on. record { known = on.known; wanted = λ wanted. asked })
send_law {context = context} {last = last} {port = port} {scalar = Address} is_wanted sound
    (PlainThere there stand) bound number _ tree IsSent types small top base s r memory less
    room ready known asked =
    let at_hl : InRegister Address number r =
    subst (λ (scalar : ScalarType). InRegister scalar number r) (sym types.0) asked in
    let bytes = ready.registers in
    let now : Registers = record r { a = r.l } in
    registers_go r now sound there (record { ready = ready; known = known }) tt refl refl
    (record { a = bytes.l; b = bytes.b; c = bytes.c; d = bytes.d; e = bytes.e; h = bytes.h; l = bytes.l })
    (λ on_now.
    out_goes (IsStored context last _ is_wanted number r memory) port (number % 256) s now memory sound
    at_hl.1 stand on_now
    (λ on. record {
      known = on.known;
      wanted = λ wanted. subst (λ (scalar : ScalarType). InRegister scalar number now) types.0 at_hl;
    }))
