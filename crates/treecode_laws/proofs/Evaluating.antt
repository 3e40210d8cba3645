-- Evaluations that change nothing, and evaluations that at most add events, one part after another.
use Rattle.treecode_laws.proofs.Prelude.{◌≡◌, ℕ, ◌*◌, ◌+◌, ◌%◌, Bool, true, false, [], ◌∷◌, ◌++◌, Option, Some, None, cond, slice_index, refl, sym, ap, ◌∙◌, subst, append-nil, append_assoc, MEMORY_SIZE, byte_at, ScalarType, Byte, Address, InData, InConstants, Placed, BasedOn, Elsewhere, Nowhere, InFrame, UndeclaredByte, Divide, InMemory, InTheFrame, Surroundings, frame_bytes, is_declared, next_place, place_in, place_of, read_byte, read_scalar, based_place, computed, taken_in, Program, State, Ended, More, Outside, Outcome, Gave, Stopped, then_do, Answer, Found, Fails, outcome_of, IsQuiet, OnlyAdds, AddsAtMost, StoresNothing}
use Rattle.ports.specs.{Events.{read_event}, Input.{input_value}}
use Rattle.typed_trees.specs.TypedTrees.{Home}
use Rattle.meaning.specs.Access.{Place}

-- continues with the value of an answer
abbrev and_then : {A B : Type 0} → Answer A → (A → Answer B) → Answer B
and_then (Found found) go = go found
and_then (Fails reason) go = Fails reason

pub quiet_gave : {A : Type 0} (found : A) → IsQuiet (λ (s : State). Gave found s)
quiet_gave found = record { answer = λ memory frame. Found found; gives = λ s. refl }

-- one part after another changes nothing
pub quiet_then : {A B : Type 0} (first : State → Outcome A) (go : A → State → Outcome B)
    → IsQuiet first → ((found : A) → IsQuiet (go found))
    → IsQuiet (λ (s : State). then_do (first s) go)
quiet_then {A = A} {B = B} first go quiet rest = record {
  answer = λ memory frame.
      and_then (quiet.answer memory frame) (λ (found : A). (rest found).answer memory frame);
  gives = λ s.
      ap (λ (outcome : Outcome A). then_do outcome go) (quiet.gives s)
      ∙ gone_on s (quiet.answer s.memory s.frame);
}
  where
    gone_on : (s : State) (answer : Answer A)
        → then_do (outcome_of answer s) go
        ≡ outcome_of (and_then answer (λ (found : A). (rest found).answer s.memory s.frame)) s
    gone_on s (Found found) = (rest found).gives s
    gone_on s (Fails reason) = refl

-- one answer or the other, in a state
chosen : {A : Type 0} (test : Bool) (one other : Answer A) (s : State)
    → cond test (outcome_of one s) (outcome_of other s) ≡ outcome_of (cond test one other) s
chosen true one other s = refl
chosen false one other s = refl

pub quiet_byte : (program : Program) (place : Place) → IsQuiet (λ (s : State). read_byte program place s)
quiet_byte program (InMemory address) = record {
  answer = λ memory frame.
      cond (is_declared program address) (Found (byte_at memory address)) (Fails UndeclaredByte);
  gives = λ s.
      chosen (is_declared program address) (Found (byte_at s.memory address)) (Fails UndeclaredByte) s;
}
quiet_byte program (InTheFrame object offset is_inside) = record {
  answer = λ memory frame.
      cond is_inside (Found (slice_index (frame_bytes frame object) offset)) (Fails UndeclaredByte);
  gives = λ s.
      chosen is_inside (Found (slice_index (frame_bytes s.frame object) offset)) (Fails UndeclaredByte) s;
}

pub quiet_scalar : (program : Program) (scalar : ScalarType) (place : Place)
    → IsQuiet (λ (s : State). read_scalar program scalar place s)
quiet_scalar program Byte place = quiet_byte program place
quiet_scalar program Address place =
    quiet_then (λ s. read_byte program place s)
    (λ low t. then_do (read_byte program (next_place place) t) (λ high u. Gave (low + 256 * high) u))
    (quiet_byte program place)
    (λ low.
    quiet_then (λ t. read_byte program (next_place place) t) (λ high u. Gave (low + 256 * high) u)
    (quiet_byte program (next_place place)) (λ high. quiet_gave (low + 256 * high)))

pub quiet_base : (home : Home) (around : Surroundings) (object bytes : ℕ) (is_inside : Bool)
    → IsQuiet (λ (s : State). based_place home around object bytes is_inside s)
quiet_base (BasedOn base) around object bytes is_inside =
    quiet_then (λ s. read_scalar around.program Address (place_of around base) s)
    (λ start t. Gave (InMemory ((start + bytes) % MEMORY_SIZE)) t)
    (quiet_scalar around.program Address (place_of around base))
    (λ start. quiet_gave (InMemory ((start + bytes) % MEMORY_SIZE)))
quiet_base (InData initial) around object bytes is_inside =
    quiet_gave (place_in (InData initial) around object bytes is_inside)
quiet_base (InConstants initial) around object bytes is_inside =
    quiet_gave (place_in (InConstants initial) around object bytes is_inside)
quiet_base (Placed address) around object bytes is_inside =
    quiet_gave (place_in (Placed address) around object bytes is_inside)
quiet_base Elsewhere around object bytes is_inside =
    quiet_gave (place_in Elsewhere around object bytes is_inside)
quiet_base Nowhere around object bytes is_inside =
    quiet_gave (place_in Nowhere around object bytes is_inside)
quiet_base (InFrame procedure) around object bytes is_inside =
    quiet_gave (place_in (InFrame procedure) around object bytes is_inside)

pub quiet_computed : (found : Option ℕ) → IsQuiet (λ (s : State). computed found s)
quiet_computed (Some found) = quiet_gave found
quiet_computed None = record { answer = λ memory frame. Fails Divide; gives = λ s. refl }

-- in a state with the same memory and frame the answer is the same, whatever the events and the budget
pub quiet_same : {A : Type 0} (go : State → Outcome A) (quiet : IsQuiet go) (s t : State)
    → t.memory ≡ s.memory → t.frame ≡ s.frame
    → go t ≡ outcome_of (quiet.answer s.memory s.frame) t
quiet_same go quiet s t memory frame =
    quiet.gives t
    ∙ ap (λ bytes. outcome_of (quiet.answer bytes t.frame) t) memory
    ∙ ap (λ objects. outcome_of (quiet.answer s.memory objects) t) frame

-- nothing changes
pub adds_nothing : (s : State) → OnlyAdds s s
adds_nothing s = record {
  memory = refl;
  frame = refl;
  budget = refl;
  events = ([], sym (append-nil s.events));
}

only_adds_then : (s t u : State) → OnlyAdds s t → OnlyAdds t u → OnlyAdds s u
only_adds_then s t u first second = record {
  memory = second.memory ∙ first.memory;
  frame = second.frame ∙ first.frame;
  budget = second.budget ∙ first.budget;
  events = (
    first.events.0 ++ second.events.0,
    second.events.1
        ∙ ap (λ es. es ++ second.events.0) first.events.1
        ∙ append_assoc s.events first.events.0 second.events.0,
  );
}

adds_after : {A : Type 0} (s t : State) (outcome : Outcome A) → OnlyAdds s t → AddsAtMost t outcome
    → AddsAtMost s outcome
adds_after s t (Gave found u) first second = only_adds_then s t u first second
adds_after s t (Stopped (Outside reason) u) first second = only_adds_then s t u first second
adds_after s t (Stopped Ended u) first second = second
adds_after s t (Stopped More u) first second = second

-- one part after another at most adds events
pub storing_nothing_then : {A B : Type 0} (first : State → Outcome A) (go : A → State → Outcome B)
    → StoresNothing first → ((found : A) → StoresNothing (go found))
    → StoresNothing (λ (s : State). then_do (first s) go)
storing_nothing_then {A = A} first go adds rest s = gone_on (first s) (adds s)
  where
    gone_on : (outcome : Outcome A) → AddsAtMost s outcome → AddsAtMost s (then_do outcome go)
    gone_on (Gave found t) added = adds_after s t (go found t) added (rest found t)
    gone_on (Stopped (Outside reason) t) added = added
    gone_on (Stopped Ended t) added = added
    gone_on (Stopped More t) added = added

-- an evaluation that changes nothing stores nothing
pub quiet_adds_nothing : {A : Type 0} (go : State → Outcome A) → IsQuiet go → StoresNothing go
quiet_adds_nothing {A = A} go quiet s =
    subst (λ (outcome : Outcome A). AddsAtMost s outcome) (sym (quiet.gives s))
    (answered (quiet.answer s.memory s.frame))
  where
    answered : (answer : Answer A) → AddsAtMost s (outcome_of answer s)
    answered (Found found) = adds_nothing s
    answered (Fails reason) = adds_nothing s

-- a read of a port adds an event
pub takes_in : (around : Surroundings) (port : ℕ) → StoresNothing (λ (s : State). taken_in around port s)
takes_in around port s = record {
  memory = refl;
  frame = refl;
  budget = refl;
  events = (read_event port (input_value around.program.script s.events port) ∷ [], refl);
}
