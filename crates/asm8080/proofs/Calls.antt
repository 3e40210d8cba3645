-- A call, and the return from it.
use Rattle.asm8080.proofs.Prelude.{◌≡◌, ◌≢◌, ℕ, ◌+◌, ◌-◌, ◌*◌, ◌%◌, ◌<◌, ◌≤◌, List, length, ap, ◌∙◌, arith, slice_set, length-set, MEMORY_SIZE, IsMemory, byte_at, word_at, Event, Call, Status, Running, State, Registers, high_byte, low_byte, one_less, two_less, wrap, step_of, InstructionStands, StackIsAt, low_byte_small}
use Rattle.asm8080.proofs.Kept.{byte_kept, byte_put, memory_put}
use Rattle.asm8080.proofs.Steps.{at, returned, step_is}

-- a memory with a word pushed on a stack that ended at a level
abbrev pub pushed : (level word : ℕ) → List ℕ → List ℕ
pushed level word memory =
    slice_set (slice_set memory (level - 1) (high_byte word)) (level - 2) (low_byte word)

pub one_below : (sp level : ℕ) → sp ≡ wrap level → level ≤ MEMORY_SIZE → 2 ≤ level → one_less sp ≡ level - 1
one_below sp level h limit room = omega arith

pub two_below : (sp level : ℕ) → sp ≡ wrap level → level ≤ MEMORY_SIZE → 2 ≤ level → two_less sp ≡ level - 2
two_below sp level h limit room = omega arith

-- the state in a call, by where SP is and what is written
called_at : (entry high low word : ℕ) → Registers → List ℕ → State → Status → State
called_at entry high low word r memory s status = record {
  registers = record r { sp = low; pc = entry };
  memory = slice_set (slice_set memory high (high_byte word)) low (low_byte word);
  events = s.events;
  status = status;
}

-- the step of a call
pub called :
    (script : List (List ℕ)) (entry level : ℕ) (s : State)
    → s.status ≡ Running
    → s.registers.pc < MEMORY_SIZE
    → StackIsAt level s
    → 2 ≤ level
    → InstructionStands s.memory s.registers.pc (Call entry)
    → step_of script s
    ≡ at entry (record s.registers { sp = level - 2 })
    (pushed level (wrap (s.registers.pc + 3)) s.memory) s.events
unfolding called_at
called script entry level s runs small stack room stands =
    let word = wrap (s.registers.pc + 3) in
    step_is script (Call entry) s runs small stands
    ∙ (ap (λ status. called_at entry (one_less s.registers.sp) (two_less s.registers.sp) word s.registers
    s.memory s status) runs
    ∙ (ap (λ n. called_at entry n (two_less s.registers.sp) word s.registers s.memory s Running)
    (one_below s.registers.sp level stack.pointer stack.limit room)
    ∙ ap (λ n. called_at entry (level - 1) n word s.registers s.memory s Running)
    (two_below s.registers.sp level stack.pointer stack.limit room)))

high_small : (word : ℕ) → word < MEMORY_SIZE → high_byte word < 256
high_small word h = omega arith

pub pushed_is_memory :
    (level word : ℕ) (memory : List ℕ)
    → word < MEMORY_SIZE
    → IsMemory memory
    → IsMemory (pushed level word memory)
pushed_is_memory level word memory small is =
    memory_put (slice_set memory (level - 1) (high_byte word)) (level - 2) (low_byte word)
    (memory_put memory (level - 1) (high_byte word) is (high_small word small))
    (low_byte_small word)

-- what a push keeps
pub pushed_keeps :
    (level word : ℕ) (memory : List ℕ) (address : ℕ)
    → address ≢ level - 1
    → address ≢ level - 2
    → byte_at (pushed level word memory) address ≡ byte_at memory address
pushed_keeps level word memory address high low =
    byte_kept (slice_set memory (level - 1) (high_byte word)) (level - 2) address (low_byte word) low
    ∙ byte_kept memory (level - 1) address (high_byte word) high

-- a word stands on top of a stack that ended at a level
pub record IsPushed (level word : ℕ) (memory : List ℕ) : Type 0 where
  pub high : byte_at memory (level - 1) ≡ high_byte word
  pub low : byte_at memory (level - 2) ≡ low_byte word

apart : (level : ℕ) → 2 ≤ level → level - 1 ≢ level - 2
apart level room = omega arith

pub pushed_is_pushed :
    (level word : ℕ) (memory : List ℕ)
    → 2 ≤ level
    → level ≤ MEMORY_SIZE
    → length memory ≡ MEMORY_SIZE
    → IsPushed level word (pushed level word memory)
pushed_is_pushed level word memory room limit size =
    let inner = length-set memory (level - 1) (high_byte word) in
    record {
      high =
          byte_kept (slice_set memory (level - 1) (high_byte word)) (level - 2) (level - 1) (low_byte word)
          (apart level room)
          ∙ byte_put memory (level - 1) (high_byte word) (omega arith);
      low =
          byte_put (slice_set memory (level - 1) (high_byte word)) (level - 2) (low_byte word)
          (omega arith);
    }

word_back : (word low high : ℕ) → low ≡ low_byte word → high ≡ high_byte word → low + 256 * high ≡ word
word_back word low high l h = omega arith

above : (level : ℕ) → 2 ≤ level → level ≤ MEMORY_SIZE → (level - 2 + 1) % MEMORY_SIZE ≡ level - 1
above level room limit = omega arith

pub pointer_after_pop : (level : ℕ) → 2 ≤ level → wrap (level - 2 + 2) ≡ wrap level
pointer_after_pop level room = omega arith

-- the word at the stack pointer
pub word_pushed :
    (level word : ℕ) (memory : List ℕ)
    → 2 ≤ level
    → level ≤ MEMORY_SIZE
    → IsPushed level word memory
    → word_at memory (level - 2) ≡ word
word_pushed level word memory room limit is =
    word_back word (byte_at memory (level - 2)) (byte_at memory ((level - 2 + 1) % MEMORY_SIZE)) is.low
    (ap (byte_at memory) (above level room limit) ∙ is.high)

-- the state after the return from a call
pub returned_is :
    (level word : ℕ) (r : Registers) (memory : List ℕ) (events : List Event)
    → r.sp ≡ level - 2
    → 2 ≤ level
    → level ≤ MEMORY_SIZE
    → IsPushed level word memory
    → returned r memory events ≡ at word (record r { sp = wrap level }) memory events
returned_is level word r memory events top room limit is =
    ap (λ n. at (word_at memory n) (record r { sp = wrap (n + 2) }) memory events) top
    ∙ (ap (λ n. at n (record r { sp = wrap (level - 2 + 2) }) memory events)
    (word_pushed level word memory room limit is)
    ∙ ap (λ n. at word (record r { sp = n }) memory events) (pointer_after_pop level room))
