-- Calls of routines.
use Rattle.task_laws.proofs.Prelude.{◌≡◌, ℕ, ◌+◌, ◌-◌, ◌<◌, ◌≤◌, inl, inr, List, [], ◌∷◌, refl, sym, ap, ◌∙◌, arith, subst, MEMORY_SIZE, byte_at, IsIn, Event, SourceState, Outcome, Call, Running, bytes_of, HoldBytes, Registers, State, wrap, CallTo, InstructionStands, below, Does, loaded_of, Lands, at_place, Activation, HasRoom, IsReady, LiesWell, MayChange, Owns, told_on, keeps_both, keeps_wider, stands_now, no_facts_hold, bytes_alike, stands_in, Facts, Part, Step, CallRoutine, no_facts, jump_item, label_of_routine, Context, IsSound, RoutineIsAt, StepsStand, RoutineThere, wrapped_once, wrapped_small}
use Rattle.mem80.specs.declared.range.Range.{Range}
use Rattle.asm8080.specs.Standing.{Keeps}
use Rattle.runtime8080.specs.{declared.routine.Routine.{Routine}, internal.Routines.{BlocksMiss, Computes, CopyMisses, HasReturned, Leaves, Returns, memory_after}}
use Rattle.runtime8080.specs.declared.routine.Routine.TheVariants as routines
use Rattle.task_laws.proofs.Machine.Rules.{GoesOn, bytes_at_place}

-- all routines but MOVE leave memory as it was, but for the bytes below the stack
abbrev pub IsOnRegisters : Routine → Type 0
IsOnRegisters routines.Move = ⊥
IsOnRegisters routine = Unit {0}

same_memory : (routine : Routine) (s : State) → IsOnRegisters routine → memory_after routine s ≡ s.memory
same_memory routines.Multiply s is = refl
same_memory routines.Divide s is = refl
same_memory routines.ShiftLeftByte s is = refl
same_memory routines.ShiftRightByte s is = refl
same_memory routines.ShiftLeftAddress s is = refl
same_memory routines.ShiftRightAddress s is = refl
same_memory routines.RotateLeft s is = refl
same_memory routines.RotateRight s is = refl
same_memory routines.Move s is = absurd is

no_blocks : (routine : Routine) (s : State) (range : Range) → IsOnRegisters routine
    → BlocksMiss routine s range
no_blocks routines.Multiply s range is = tt
no_blocks routines.Divide s range is = tt
no_blocks routines.ShiftLeftByte s range is = tt
no_blocks routines.ShiftRightByte s range is = tt
no_blocks routines.ShiftLeftAddress s range is = tt
no_blocks routines.ShiftRightAddress s range is = tt
no_blocks routines.RotateLeft s range is = tt
no_blocks routines.RotateRight s range is = tt
no_blocks routines.Move s range is = absurd is

no_copy : (routine : Routine) (s : State) (range : Range) → IsOnRegisters routine → CopyMisses routine s range
no_copy routines.Multiply s range is = tt
no_copy routines.Divide s range is = tt
no_copy routines.ShiftLeftByte s range is = tt
no_copy routines.ShiftRightByte s range is = tt
no_copy routines.ShiftLeftAddress s range is = tt
no_copy routines.ShiftRightAddress s range is = tt
no_copy routines.RotateLeft s range is = tt
no_copy routines.RotateRight s range is = tt
no_copy routines.Move s range is = absurd is

-- the results and the kept registers of a routine do not depend on the place of its call
computes_there : (routine : Routine) (place : ℕ) (r now : Registers)
    → Computes routine (record r { pc = place }) now → Computes routine r now
computes_there routines.Multiply place r now computes = computes
computes_there routines.Divide place r now computes = computes
computes_there routines.ShiftLeftByte place r now computes = computes
computes_there routines.ShiftRightByte place r now computes = computes
computes_there routines.ShiftLeftAddress place r now computes = computes
computes_there routines.ShiftRightAddress place r now computes = computes
computes_there routines.RotateLeft place r now computes = computes
computes_there routines.RotateRight place r now computes = computes
computes_there routines.Move place r now computes = tt

leaves_there : (routine : Routine) (place : ℕ) (r now : Registers)
    → Leaves routine (record r { pc = place }) now → Leaves routine r now
leaves_there routines.Multiply place r now leaves = tt
leaves_there routines.Divide place r now leaves = tt
leaves_there routines.ShiftLeftByte place r now leaves =
    record { b = leaves.b; c = leaves.c; h = leaves.h; l = leaves.l }
leaves_there routines.ShiftRightByte place r now leaves =
    record { b = leaves.b; c = leaves.c; h = leaves.h; l = leaves.l }
leaves_there routines.ShiftLeftAddress place r now leaves =
    record { b = leaves.b; c = leaves.c; d = leaves.d }
leaves_there routines.ShiftRightAddress place r now leaves =
    record { b = leaves.b; c = leaves.c; d = leaves.d; e = leaves.e }
leaves_there routines.RotateLeft place r now leaves =
    record { b = leaves.b; c = leaves.c; h = leaves.h; l = leaves.l }
leaves_there routines.RotateRight place r now leaves =
    record { b = leaves.b; c = leaves.c; h = leaves.h; l = leaves.l }
leaves_there routines.Move place r now leaves = tt

-- a state that runs at a place
pub machine_is : (after : State) (place : ℕ) (events : List Event)
    → after.status ≡ Running
    → after.registers.pc ≡ wrap place
    → after.events ≡ events
    → after ≡ at_place place after.registers after.memory events
machine_is after place events runs here same =
    ap (λ status. record { registers = after.registers; memory = after.memory; events = after.events; status = status }) runs
    ∙ ap (λ (pc : ℕ). record { registers = record after.registers { pc = pc }; memory = after.memory; events = after.events; status = Running }) here
    ∙ ap (λ (list : List Event). at_place place after.registers after.memory list) same

pub twice_wrapped : (place : ℕ) → wrap (wrap place + 3) ≡ wrap (place + 3)
twice_wrapped place = omega arith

pub in_memory : (entry to limit : ℕ) → entry < to → to ≤ limit → limit ≤ MEMORY_SIZE → wrap entry ≡ entry
in_memory entry to limit less high fits = omega (arith, less, high, fits)

-- bytes below the stack pointer may have been written
pub ready_after_routine :
    (activation : Activation) (top pushed need : ℕ) (base source memory ended : List ℕ)
    (frame : List (List ℕ))
    (r now : Registers)
    → LiesWell activation
    → HasRoom activation top pushed need
    → 2 ≤ need
    → IsReady activation top base source frame r memory
    → now.sp ≡ r.sp
    → HoldBytes now
    → Rattle.mem80.specs.Memory.IsMemory ended
    → Keeps (λ address. IsIn address (below top 2)) memory ended
    → IsReady activation top base source frame now ended
ready_after_routine activation top pushed need base source memory ended frame r now lies room two ready
    pointer bytes is kept =
    let depth = room.depth in
    let enough = room.enough in
    let bottom = lies.bottom in
    let above = lies.above in
    let start : activation.floor + 2 ≤ top = omega (arith, enough, two) in
    let under : top ≤ activation.level = omega (arith, depth) in
    record {
      pointer = pointer ∙ ready.pointer;
      registers = bytes;
      shares = record {
        is_memory = is;
        size = ready.shares.size;
        declared = λ address there.
            kept.bytes address
            (λ (inside : IsIn address (below top 2)).
            let low : top - 2 ≤ address = inside.0 in
            let high : address < top - 2 + 2 = inside.1 in
            lies.placed.stack_free address there (omega (arith, start, low, bottom))
            (omega (arith, start, high, under, above)))
            ∙ ready.shares.declared address there;
        code = λ address there.
            kept.bytes address
            (λ (inside : IsIn address (below top 2)).
            let low : top - 2 ≤ address = inside.0 in
            let high : address < top - 2 + 2 = inside.1 in
            lies.placed.apart address there.0 there.1 (omega (arith, start, low, bottom))
            (omega (arith, start, high, under, above)))
            ∙ ready.shares.code address there;
        others =
            keeps_both (MayChange activation.around.program) activation.image memory ended ready.shares.others
            (keeps_wider (λ address. IsIn address (below top 2)) (MayChange activation.around.program) memory
            ended
            (λ address (inside : IsIn address (below top 2)).
            let low : top - 2 ≤ address = inside.0 in
            let high : address < top - 2 + 2 = inside.1 in
            inr (omega (arith, start, low, bottom), omega (arith, start, high, under, above))) kept);
      };
      frame_lies = record {
        sizes = ready.frame_lies.sizes;
        bytes = λ object offset within.
            kept.bytes (activation.level + activation.distance object + offset)
            (λ (inside : IsIn (activation.level + activation.distance object + offset) (below top 2)).
            let high : activation.level + activation.distance object + offset < top - 2 + 2 = inside.1 in
            omega (arith, start, high, under))
            ∙ ready.frame_lies.bytes object offset within;
      };
      kept =
          keeps_both (Owns activation top) base memory ended ready.kept
          (keeps_wider (λ address. IsIn address (below top 2)) (Owns activation top) memory ended
          (λ address (inside : IsIn address (below top 2)).
          let low : top - 2 ≤ address = inside.0 in
          let high : address < top - 2 + 2 = inside.1 in
          inr (inl (omega (arith, start, low), omega (arith, start, high))))
          kept);
    }

-- The call of a routine returns: its results are in the registers, and of the other registers only those that
-- it keeps are the same.
pub routine_then :
    {A : Type 0} {outcome : Outcome A} {Good : A → SourceState → State → Type 0}
    {context : Context} {PartIs : (before : Facts) → Part → (from : ℕ) → (after : Facts) → (to : ℕ) → Type 0}
    {facts last : Facts} {from to top bytes need budget more : ℕ} {base source memory : List ℕ}
    {frame : List (List ℕ)} {events : List Event} (routine : Routine) (others : List Step) (r : Registers)
    → IsSound context
    → IsOnRegisters routine
    → HasRoom context.activation top bytes need
    → 2 ≤ need
    → StepsStand context PartIs facts from (CallRoutine routine ∷ others) last to
    → GoesOn context facts top base source frame r memory
    → ((now : Registers) (ended : List ℕ)
    → StepsStand context PartIs no_facts (from + 3) others last to
    → GoesOn context no_facts top base source frame now ended
    → Computes routine r now
    → Leaves routine r now
    → Does (loaded_of context.activation) budget more
    (at_place (from + 3) now ended events) outcome Good)
    → Does (loaded_of context.activation) budget more (at_place from r memory events) outcome Good
routine_then {outcome = outcome} {Good = Good} {context = context} {from = from} {top = top} {bytes = bytes}
    {need = need} {budget = budget} {more = more} {base = base} {source = source} {memory = memory}
    {frame = frame} {events = events} routine others r sound on room two
    (RoutineThere has there stand) going rest =
    let activation = context.activation in
    let script = activation.around.program.script in
    let loaded = loaded_of activation in
    let lies = sound.lies in
    let ready = going.ready in
    let depth = room.depth in
    let enough = room.enough in
    let bottom = lies.bottom in
    let above = lies.above in
    let stack = lies.placed.stack_in_memory in
    let fits = lies.placed.code_in_memory in
    let start : activation.floor + 2 ≤ top = omega (arith, enough, two) in
    let under : top ≤ activation.level = omega (arith, depth) in
    let limit : top ≤ MEMORY_SIZE = omega (arith, under, above, stack) in
    let entry = activation.layout.place_of (label_of_routine context.site routine).index in
    let found : RoutineIsAt activation routine entry = sound.routines routine has in
    let here = found.high in
    let least = found.low in
    let ends : found.to ≤ MEMORY_SIZE = omega (arith, here, fits) in
    let s : State = at_place from r memory events in
    let code : Range = record { start = entry; len = found.to - entry } in
    let some = found.has_bytes in
    let call : InstructionStands memory (wrap from) (Call entry) =
    subst (λ (target : ℕ). InstructionStands memory (wrap from) (Call target))
    (in_memory entry found.to (activation.around.program.placement.code.start
    + activation.around.program.placement.code.len) some here fits)
    (bytes_alike memory (bytes_of (Call (wrap entry))) from (wrap from) (wrapped_once from)
    (stands_now activation memory (jump_item CallTo (label_of_routine context.site routine) ∷ [])
    from (from + 3) lies
    ready.shares.code there).0) in
    let returns : Returns script routine top s =
    found.is_routine found.layout entry found.to script top s ends
    (stands_in found.layout activation.around.program.placement.code activation.image memory
    found.items entry found.to
    fits least here ready.shares.code found.stands)
    (record {
      running = refl;
      place = wrapped_small from;
      registers = bytes_at_place (wrap from) r ready.registers;
      memory = ready.shares.is_memory;
      call = call;
      stack = record { limit = limit; pointer = ready.pointer };
      room = omega (arith, start);
      apart = λ meet.
          let address = meet.0 in
          let in_code : IsIn address code = meet.1 in
          let in_stack : IsIn address (below top 2) = meet.2 in
          let one : entry ≤ address = in_code.0 in
          let other : address < entry + (found.to - entry) = in_code.1 in
          let low : top - 2 ≤ address = in_stack.0 in
          let high : address < top - 2 + 2 = in_stack.1 in
          lies.placed.apart address (omega (arith, one, least)) (omega (arith, other, here, some))
          (omega (arith, start, low, bottom)) (omega (arith, start, high, under, above));
      blocks_miss_stack = no_blocks routine s (below top 2) on;
      copy_misses_code = no_copy routine s code on;
    }) in
    let after = returns.after in
    let back : HasReturned routine top s after = returns.returned in
    let is_at : after ≡ at_place (from + 3) after.registers after.memory events =
    machine_is after (from + 3) events back.running (back.place ∙ twice_wrapped from) back.events in
    let kept : Keeps (λ address. IsIn address (below top 2)) memory after.memory =
    subst (λ (bytes : List ℕ). Keeps (λ address. IsIn address (below top 2)) bytes after.memory)
    (same_memory routine s on) back.memory in
    let going_on : GoesOn context no_facts top base source frame after.registers after.memory = record {
      ready =
          ready_after_routine activation top bytes need base source memory after.memory frame r
          after.registers lies room
          two ready back.stack back.registers back.memory_is kept;
      known = no_facts_hold;
    } in
    let does : Does loaded budget more (at_place (from + 3) after.registers after.memory events) outcome
    Good =
    rest after.registers after.memory stand going_on
    (computes_there routine (wrap from) r after.registers back.computes)
    (leaves_there routine (wrap from) r after.registers back.leaves) in
    let run : Lands script budget 0 s budget (λ (end : State). end ≡ after) = record {
      count = returns.count;
      end = after;
      run = returns.run;
      paid = omega arith;
      spent = omega arith;
      is_good = refl;
    } in
    record {
      told =
          told_on loaded run budget more outcome Good (omega arith) (omega arith)
          (subst (λ (end : State). Rattle.code_meaning.specs.Landing.Told loaded budget more end outcome Good)
          (sym is_at) does.told);
    }
