-- From what a routine does between its entry and its return to what a call of it does.
use Rattle.runtime8080.proofs.Prelude.{◌≡◌, ℕ, suc, ◌+◌, ◌-◌, ◌<◌, ◌≤◌, List, refl, sym, ◌∙◌, subst, arith, slice_set, length-set, MEMORY_SIZE, byte_at, IsIn, Meets, Event, HoldBytes, Registers, State, high_byte, wrap, Comes, Keeps, below, at, returned, step_then, Alike, called, pushed, pushed_is_memory, pushed_is_pushed, pushed_keeps, returned_is, Routine, CALL_BYTES, Computes, HasReturned, Leaves, MayCall, Returns, memory_after, most_steps, wrapped_small}
use Rattle.runtime8080.specs.declared.routine.Routine.TheVariants as routines

-- What a routine does that writes no memory, from its first byte to where it has returned.
pub record Body
    (script : List (List ℕ)) (routine : Routine) (entry : ℕ) (r : Registers) (memory : List ℕ)
    (events : List Event) : Type 0 where
  pub count : ℕ
  pub after : Registers
  pub run : Comes script count (at entry r memory events) (returned after memory events)
  pub few : suc count ≤ most_steps routine r
  pub sp : after.sp ≡ r.sp
  pub bytes : HoldBytes after
  pub computes : Computes routine r after
  pub leaves : Leaves routine r after

computes_where :
    (routine : Routine) (r after : Registers) (top sp pc : ℕ)
    → Computes routine (record r { sp = top }) after
    → Computes routine r (record after { sp = sp; pc = pc })
computes_where routines.Multiply r after top sp pc h = h
computes_where routine r after top sp pc h = h

leaves_where :
    (routine : Routine) (r after : Registers) (top sp pc : ℕ)
    → Leaves routine (record r { sp = top }) after
    → Leaves routine r (record after { sp = sp; pc = pc })
leaves_where routines.Multiply r after top sp pc h = h
leaves_where routines.Divide r after top sp pc h = h
leaves_where routines.Move r after top sp pc h = h
leaves_where routines.ShiftLeftAddress r after top sp pc h = record { b = h.b; c = h.c; d = h.d }
leaves_where routines.ShiftRightAddress r after top sp pc h = record { b = h.b; c = h.c; d = h.d; e = h.e }
leaves_where routine r after top sp pc h = record { b = h.b; c = h.c; h = h.h; l = h.l }

few_where :
    (routine : Routine) (r : Registers) (top n : ℕ)
    → n ≤ most_steps routine (record r { sp = top })
    → n ≤ most_steps routine r
few_where routines.Multiply r top n h = h
few_where routine r top n h = h

pub bytes_where : (r : Registers) (sp pc : ℕ) → HoldBytes r → HoldBytes (record r { sp = sp; pc = pc })
bytes_where r sp pc h =
    record { a = h.a; b = h.b; c = h.c; d = h.d; e = h.e; h = h.h; l = h.l }

-- registers with another SP hold bytes
pub bytes_with_sp : (r : Registers) (sp : ℕ) → HoldBytes r → HoldBytes (record r { sp = sp })
bytes_with_sp r sp h = record { a = h.a; b = h.b; c = h.c; d = h.d; e = h.e; h = h.h; l = h.l }

pub in_spare : (level address : ℕ) → CALL_BYTES ≤ level → level ≤ MEMORY_SIZE → level - 2 ≤ address
    → address < level → IsIn address (below level CALL_BYTES)
in_spare level address room limit low high = (omega arith, omega arith)

-- the code is apart from the return address
code_apart :
    (from to level address : ℕ)
    → CALL_BYTES ≤ level
    → level ≤ MEMORY_SIZE
    → (Meets (record { start = from; len = to - from }) (below level CALL_BYTES) → ⊥)
    → from ≤ address
    → address < to
    → level - 2 ≤ address
    → address < level
    → ⊥
code_apart from to level address room limit apart low high under over =
    apart (address, (omega arith, omega arith), in_spare level address room limit under over)

one_of_two : (level address : ℕ) → 2 ≤ level → address ≡ level - 1 → level - 2 ≤ address
one_of_two level address room e = omega arith

one_of_two_high : (level address : ℕ) → 2 ≤ level → address ≡ level - 1 → address < level
one_of_two_high level address room e = omega arith

two_of_two : (level address : ℕ) → 2 ≤ level → address ≡ level - 2 → level - 2 ≤ address
two_of_two level address room e = omega arith

two_of_two_high : (level address : ℕ) → 2 ≤ level → address ≡ level - 2 → address < level
two_of_two_high level address room e = omega arith

pub pushed_elsewhere :
    (level word : ℕ) (memory : List ℕ) (address : ℕ)
    → 2 ≤ level
    → (level - 2 ≤ address → address < level → ⊥)
    → byte_at (pushed level word memory) address ≡ byte_at memory address
pushed_elsewhere level word memory address room out =
    pushed_keeps level word memory address
    (λ e. out (one_of_two level address room e) (one_of_two_high level address room e))
    (λ e. out (two_of_two level address room e) (two_of_two_high level address room e))

pub two_fit : (level : ℕ) → CALL_BYTES ≤ level → 2 ≤ level
two_fit level h = omega arith

-- the code stands in memory after the call
pub code_stays :
    (routine : Routine) (from to level word : ℕ) (s : State)
    → MayCall routine from (record { start = from; len = to - from }) level s
    → Alike from to s.memory (pushed level word s.memory)
code_stays routine from to level word s may address low high =
    pushed_elsewhere level word s.memory address may.room
    (code_apart from to level address may.room may.stack.limit may.apart low high)

has_returned :
    (script : List (List ℕ)) (routine : Routine) (from to level : ℕ) (s : State) (memory : List ℕ)
    → MayCall routine from (record { start = from; len = to - from }) level s
    → memory_after routine s ≡ s.memory
    → memory ≡ pushed level (wrap (s.registers.pc + 3)) s.memory
    → (body : Body script routine from (record s.registers { sp = level - 2 }) memory s.events)
    → HasReturned routine level s
    (at (wrap (s.registers.pc + 3)) (record body.after { sp = wrap level })
    (pushed level (wrap (s.registers.pc + 3)) s.memory) s.events)
has_returned script routine from to level s memory may quiet same body =
    let word = wrap (s.registers.pc + 3) in
    let outer =
    length-set (slice_set s.memory (level - 1) (high_byte word)) (level - 2)
    (Rattle.isa8080.specs.State.low_byte word) in
    let inner = length-set s.memory (level - 1) (high_byte word) in
    record {
      running = refl;
      place = refl;
      stack = sym may.stack.pointer;
      events = refl;
      registers = bytes_where body.after (wrap level) word body.bytes;
      computes = computes_where routine s.registers body.after (level - 2) (wrap level) word body.computes;
      leaves = leaves_where routine s.registers body.after (level - 2) (wrap level) word body.leaves;
      memory_is = pushed_is_memory level word s.memory (wrapped_small (s.registers.pc + 3)) may.memory;
      memory =
          subst (λ (m : List ℕ). Keeps (λ address. IsIn address (below level CALL_BYTES)) m
          (pushed level word s.memory))
          (sym quiet)
          (record {
            size = outer ∙ inner;
            bytes = λ address out.
                pushed_elsewhere level word s.memory address may.room
                (λ low high. out (in_spare level address may.room may.stack.limit low high));
          });
    }

-- a routine that writes no memory returns
pub returns_quietly :
    (script : List (List ℕ)) (routine : Routine) (from to level : ℕ) (s : State)
    → MayCall routine from (record { start = from; len = to - from }) level s
    → memory_after routine s ≡ s.memory
    → ((memory : List ℕ) → Alike from to s.memory memory
    → Body script routine from (record s.registers { sp = level - 2 }) memory s.events)
    → Returns script routine level s
returns_quietly script routine from to level s may quiet does =
    let word = wrap (s.registers.pc + 3) in
    let memory = pushed level word s.memory in
    let body = does memory (code_stays routine from to level word s may) in
    let after = at word (record body.after { sp = wrap level }) memory s.events in
    record {
      count = suc body.count;
      after = after;
      run =
          step_then script body.count s (at from (record s.registers { sp = level - 2 }) memory s.events)
          after
          (called script from level s may.running may.place may.stack (two_fit level may.room) may.call)
          (sym (returned_is level word body.after memory s.events body.sp
          (two_fit level may.room) may.stack.limit
          (pushed_is_pushed level word s.memory (two_fit level may.room) may.stack.limit may.memory.size))
          ∙ body.run);
      some_steps = omega arith;
      few_steps = few_where routine s.registers (level - 2) (suc body.count) body.few;
      returned = has_returned script routine from to level s memory may quiet refl body;
    }
