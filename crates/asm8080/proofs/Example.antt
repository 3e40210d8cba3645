-- The worked program, wherever it is placed: turn by turn.
use Rattle.asm8080.proofs.Prelude.{◌≡◌, ℕ, suc, ◌+◌, ◌-◌, ◌%◌, ◌<◌, ◌≤◌, ◌⊎◌, inl, inr, true, false, List, [], ◌∷◌, length, slice_set, refl, sym, subst, ap, ◌∙◌, arith, length-set, MEMORY_SIZE, byte_at, IsIn, Event, InSegment, Code, Stack, Dcr, Hlt, Inr, Lxi, Mvi, Ret, Of, A, B, Sp, NotZero, Registers, State, high_byte, holds, low_byte, wrap, Item, Plain, WithWord, Mark, AtLabel, CallTo, JumpWhere, layout_at, Layout, Stands, Comes, Keeps, below, wrap_of_place}
use Rattle.asm8080.proofs.RunLaws.{comes_on}
use Rattle.asm8080.specs.internal.Example.{CountsAnywhere, Ends, counting, counting_code}
use Rattle.asm8080.proofs.Steps.{at, runs_from_instruction, goes_past, jumps_where, step_is, step_then}
use Rattle.asm8080.proofs.Spending.{halted_at, hlt_halts, same_after}
use Rattle.asm8080.proofs.Straight.{does_to, straight}
use Rattle.asm8080.proofs.Loops.{word_is}
use Rattle.asm8080.proofs.Kept.{Alike, stands_still}
use Rattle.asm8080.proofs.Calls.{called, pushed, pushed_is_pushed, pushed_keeps, returned_is}

-- the parts of the program
abbrev called_part : List Item
called_part = Mark 1 ∷ Plain (Inr (Of A)) ∷ Plain Ret ∷ []

-- where there is room, what the calls write is not code
abbrev Apart : (base level : ℕ) → Type 0
Apart base level = (level ≤ base) ⊎ (base + 15 + 2 ≤ level)

code_alike :
    (memory : List ℕ) (base level word : ℕ)
    → 2 ≤ level
    → Apart base level
    → Alike base (base + 15) memory (pushed level word memory)
code_alike memory base level word room (inl before) address low high =
    pushed_keeps level word memory address (λ e. omega arith) (λ e. omega arith)
code_alike memory base level word room (inr after) address low high =
    pushed_keeps level word memory address (λ e. omega arith) (λ e. omega arith)

pushed_size : (level word : ℕ) (memory : List ℕ) → length (pushed level word memory) ≡ length memory
pushed_size level word memory =
    length-set (slice_set memory (level - 1) (high_byte word)) (level - 2) (low_byte word)
    ∙ length-set memory (level - 1) (high_byte word)

-- where the program stands, beside a stack
record Placed (layout : Layout) (base level : ℕ) (memory : List ℕ) : Type 0 where
  stands : Stands layout memory counting base (base + 15)
  fits : base + 15 ≤ MEMORY_SIZE
  size : length memory ≡ MEMORY_SIZE
  room : 2 ≤ level
  limit : level ≤ MEMORY_SIZE
  apart : Apart base level

placed_still :
    (layout : Layout) (base level word : ℕ) (memory : List ℕ)
    → Placed layout base level memory
    → Placed layout base level (pushed level word memory)
placed_still layout base level word memory is = record {
  stands =
      stands_still layout memory (pushed level word memory) counting base (base + 15) is.fits
      (code_alike memory base level word is.room is.apart) is.stands;
  fits = is.fits;
  size = pushed_size level word memory ∙ is.size;
  room = is.room;
  limit = is.limit;
  apart = is.apart;
}

-- the loop begins here, and what it calls there
abbrev top_of : (base : ℕ) → ℕ
top_of base = base + 3 + 2

abbrev entry_of : (base : ℕ) → ℕ
entry_of base = top_of base + 3 + 1 + 3 + 1

-- a call pushes this
abbrev back_to : (base : ℕ) → ℕ
back_to base = wrap (top_of base + 3)

-- the registers in the call, after it and after a turn
abbrev in_call : (level : ℕ) → Registers → Registers
in_call level r = does_to (Inr (Of A)) (record r { sp = level - 2 })

abbrev after_call : (level : ℕ) → Registers → Registers
after_call level r = record (in_call level r) { sp = wrap level }

abbrev turned : (level : ℕ) → Registers → Registers
turned level r = does_to (Dcr (Of B)) (after_call level r)

-- a turn, up to its jump
turn :
    (script : List (List ℕ)) (layout : Layout) (base level : ℕ) (memory : List ℕ) (r : Registers)
    (events : List Event) (k : ℕ) (u : State)
    → Placed layout base level memory
    → r.sp ≡ wrap level
    → Comes script k (at (top_of base + 3 + 1) (turned level r) (pushed level (back_to base) memory) events) u
    → Comes script (suc (suc (suc (suc k)))) (at (top_of base) r memory events) u
turn script layout base level memory r events k u is pointer more =
    let fits : base + 15 ≤ MEMORY_SIZE = is.fits in
    let word : ℕ = back_to base in
    let after : List ℕ = pushed level word memory in
    let still : Placed layout base level after = placed_still layout base level word memory is in
    let entry : ℕ = entry_of base in
    let in_memory : top_of base < MEMORY_SIZE = omega arith in
    let past_call : top_of base + 3 < MEMORY_SIZE = omega arith in
    let past_count : top_of base + 3 + 1 < MEMORY_SIZE = omega arith in
    let entry_in : entry_of base < MEMORY_SIZE = omega arith in
    let return_in : entry_of base + 1 < MEMORY_SIZE = omega arith in
    step_then script (suc (suc (suc k))) (at (top_of base) r memory events)
    (at entry (record r { sp = level - 2 }) after events) u
    (called script (wrap (layout.place_of 1)) level (at (top_of base) r memory events) refl in_memory
    (record { limit = is.limit; pointer = pointer }) is.room is.stands.1.1.1.0
    ∙ ap (λ n. at n (record r { sp = level - 2 }) after events)
    (word_is (layout.place_of 1) entry is.stands.1.1.1.1.1.1.1.0 entry_in))
    (straight script layout (Inr (Of A) ∷ []) (Plain Ret ∷ []) entry (base + 15) (record r { sp = level - 2 }) after
    events (suc (suc k)) u refl still.stands.1.1.1.1.1.1.1.1 return_in
    (step_then script (suc k) (at (entry + 1) (in_call level r) after events)
    (at (top_of base + 3) (after_call level r) after events) u
    (step_is script Ret (at (entry + 1) (in_call level r) after events) refl return_in
    still.stands.1.1.1.1.1.1.1.1.1.0
    ∙ returned_is level word (record (in_call level r) { pc = wrap (entry + 1 + 1) }) after events refl is.room is.limit
    (pushed_is_pushed level word memory is.room is.limit is.size)
    ∙ ap (λ n. at n (after_call level r) after events) (wrap_of_place (top_of base + 3) past_call))
    (straight script layout (Dcr (Of B) ∷ []) (WithWord (JumpWhere NotZero) (AtLabel 0) ∷ Plain Hlt ∷ called_part)
    (top_of base + 3) (base + 15) (after_call level r) after events k u refl still.stands.1.1.1.1 past_count more)))

-- a turn, and another after it
turn_again :
    (script : List (List ℕ)) (layout : Layout) (base level : ℕ) (memory : List ℕ) (r : Registers)
    (events : List Event) (k : ℕ) (u : State)
    → Placed layout base level memory
    → r.sp ≡ wrap level
    → holds NotZero (turned level r).flags ≡ true
    → Comes script k (at (top_of base) (turned level r) (pushed level (back_to base) memory) events) u
    → Comes script (suc (suc (suc (suc (suc k))))) (at (top_of base) r memory events) u
turn_again script layout base level memory r events k u is pointer again more =
    let fits : base + 15 ≤ MEMORY_SIZE = is.fits in
    let after : List ℕ = pushed level (back_to base) memory in
    let still : Placed layout base level after = placed_still layout base level (back_to base) memory is in
    let in_memory : top_of base < MEMORY_SIZE = omega arith in
    let past_count : top_of base + 3 + 1 < MEMORY_SIZE = omega arith in
    turn script layout base level memory r events (suc k) u is pointer
    (jumps_where script k NotZero (wrap (layout.place_of 0)) (top_of base + 3 + 1) (top_of base) (turned level r) after
    events u still.stands.1.1.1.1.1.0 past_count again
    (word_is (layout.place_of 0) (top_of base) still.stands.1.1.0 in_memory) more)

-- the last turn, up to the halt
turn_last :
    (script : List (List ℕ)) (layout : Layout) (base level : ℕ) (memory : List ℕ) (r : Registers)
    (events : List Event)
    → Placed layout base level memory
    → r.sp ≡ wrap level
    → holds NotZero (turned level r).flags ≡ false
    → Comes script 5 (at (top_of base) r memory events)
    (at (top_of base + 3 + 1 + 3) (turned level r) (pushed level (back_to base) memory) events)
turn_last script layout base level memory r events is pointer last =
    let fits : base + 15 ≤ MEMORY_SIZE = is.fits in
    let after : List ℕ = pushed level (back_to base) memory in
    let still : Placed layout base level after = placed_still layout base level (back_to base) memory is in
    let past_jump : top_of base + 3 + 1 + 3 < MEMORY_SIZE = omega arith in
    let end : State = at (top_of base + 3 + 1 + 3) (turned level r) after events in
    turn script layout base level memory r events 1 end is pointer
    (goes_past script 0 NotZero (wrap (layout.place_of 0)) (top_of base + 3 + 1) (turned level r) after events end
    still.stands.1.1.1.1.1.0 past_jump last (same_after script end))

-- what three calls write
abbrev thrice : (level word : ℕ) → List ℕ → List ℕ
thrice level word memory = pushed level word (pushed level word (pushed level word memory))

pushed_keeps_all :
    (level word : ℕ) (memory : List ℕ)
    → 2 ≤ level
    → (address : ℕ)
    → (IsIn address (below level 2) → ⊥)
    → byte_at (pushed level word memory) address ≡ byte_at memory address
pushed_keeps_all level word memory room address outside =
    pushed_keeps level word memory address
    (λ e. outside (omega (arith, e), omega (arith, e)))
    (λ e. outside (omega (arith, e), omega (arith, e)))

thrice_keeps :
    (level word : ℕ) (memory : List ℕ)
    → 2 ≤ level
    → Keeps (λ address. IsIn address (below level 2)) memory (thrice level word memory)
thrice_keeps level word memory room =
    let first : List ℕ = pushed level word memory in
    let second : List ℕ = pushed level word first in
    record {
      size = pushed_size level word second ∙ pushed_size level word first ∙ pushed_size level word memory;
      bytes = λ address outside.
          pushed_keeps_all level word second room address outside
          ∙ pushed_keeps_all level word first room address outside
          ∙ pushed_keeps_all level word memory room address outside;
    }

thrice_counted : (a : ℕ) → (((a + 1) % 256 + 1) % 256 + 1) % 256 ≡ (a + 3) % 256
thrice_counted a = omega arith

-- the registers where the loop begins
abbrev begun : (stack : ℕ) → Registers → Registers
begun stack r = does_to (Mvi (Of B) 3) (record r { sp = wrap (0 + stack) })

from_zero : (stack level : ℕ) → stack ≡ level → wrap (0 + stack) ≡ wrap level
from_zero stack level e = omega (arith, e)

runs :
    (script : List (List ℕ)) (layout : Layout) (base level : ℕ) (memory : List ℕ) (r : Registers)
    (events : List Event)
    → Placed layout base level memory
    → layout.address_of (InSegment Stack) ≡ level
    → Ends script memory r events base level
runs script layout base level memory r events is stack_is =
    let fits : base + 15 ≤ MEMORY_SIZE = is.fits in
    let stack : ℕ = layout.address_of (InSegment Stack) in
    let word : ℕ = back_to base in
    let first : List ℕ = pushed level word memory in
    let second : List ℕ = pushed level word first in
    let r1 : Registers = begun stack r in
    let r2 : Registers = turned level r1 in
    let r3 : Registers = turned level r2 in
    let third : List ℕ = pushed level word second in
    let start : State = at base r memory events in
    let before : State = at (top_of base + 3 + 1 + 3) (turned level r3) third events in
    let end : State = halted_at (top_of base + 3 + 1 + 3) (turned level r3) third events in
    let after_first : Placed layout base level first = placed_still layout base level word memory is in
    let after_second : Placed layout base level second = placed_still layout base level word first after_first in
    let past_load : base + 3 < MEMORY_SIZE = omega arith in
    let past_count : base + 3 + 2 < MEMORY_SIZE = omega arith in
    let past_jump : top_of base + 3 + 1 + 3 < MEMORY_SIZE = omega arith in
    let pointer : wrap (0 + stack) ≡ wrap level = from_zero stack level stack_is in
    let after_third : Placed layout base level third = placed_still layout base level word second after_second in
    let up_to_halt : Comes script 17 start before
    = runs_from_instruction script 16 (Lxi Sp (wrap (0 + stack))) base r memory events before is.stands.0 past_load
    (straight script layout (Mvi (Of B) 3 ∷ [])
    (Mark 0 ∷ WithWord CallTo (AtLabel 1) ∷ Plain (Dcr (Of B)) ∷ WithWord (JumpWhere NotZero) (AtLabel 0)
    ∷ Plain Hlt ∷ called_part)
    (base + 3) (base + 15) (record r { sp = wrap (0 + stack) }) memory events 15 before refl is.stands.1 past_count
    (turn_again script layout base level memory r1 events 10 before is pointer refl
    (turn_again script layout base level first r2 events 5 before after_first refl refl
    (turn_last script layout base level second r3 events after_second refl refl)))) in
    let whole : Comes script 18 start end
    = comes_on script 17 1 start before end up_to_halt
    (hlt_halts script (top_of base + 3 + 1 + 3) (turned level r3) third events after_third.stands.1.1.1.1.1.1.0 past_jump) in
    record {
      last = end;
      run = whole;
      runs_before = sym (ap (λ (s : State). s.status) up_to_halt);
      counts = record {
        halted = refl;
        counted = thrice_counted r.a;
        same_events = refl;
        kept = thrice_keeps level word memory is.room;
      };
    }

pub counts_anywhere : CountsAnywhere
counts_anywhere script address_of code memory r events is placed =
    let base : ℕ = address_of (InSegment Code) in
    let ends : base + length code.bytes ≡ base + 15 = ap (λ n. base + n) is.size in
    let fits : base + length code.bytes ≤ MEMORY_SIZE = subst (λ n. n ≤ MEMORY_SIZE) (sym ends) placed.fits in
    runs script (layout_at address_of counting_code) base (address_of (InSegment Stack)) memory r events
    (record {
      stands =
          subst (λ n. Stands (layout_at address_of counting_code) memory counting base n) ends
          (is.stands address_of memory fits placed.stands);
      fits = placed.fits;
      size = placed.size;
      room = placed.room;
      limit = placed.limit;
      apart = placed.apart;
    })
    refl
