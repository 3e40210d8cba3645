-- PUSH, POP and RET where the stack pointer is at a level, which is counted up to 65536.
use Rattle.asm8080.proofs.Prelude.{◌≡◌, ℕ, ◌+◌, ◌-◌, ◌≤◌, List, slice_set, refl, sym, ap, ◌∙◌, arith, MEMORY_SIZE, word_at, Event, Pop, Push, Ret, StackPair, StackBc, StackDe, StackHl, Psw, Registers, high_byte, low_byte, pushed_of, two_less, with_popped, wrap, act}
use Rattle.asm8080.proofs.Calls.{IsPushed, one_below, pushed, returned_is, two_below, pointer_after_pop, word_pushed}
use Rattle.asm8080.proofs.Steps.{at}

two_lower : (top : ℕ) → 2 ≤ top → top ≤ MEMORY_SIZE → wrap (top - 2) ≡ top - 2
two_lower top room limit = omega arith

-- PUSH
pub push_does :
    (script : List (List ℕ)) (pair : StackPair) (place top : ℕ) (r : Registers) (memory : List ℕ)
    (events : List Event)
    → r.sp ≡ wrap top
    → top ≤ MEMORY_SIZE
    → 2 ≤ top
    → act script (Push pair) (at (wrap place) r memory events)
    ≡ at (wrap place) (record r { sp = wrap (top - 2) })
    (pushed top (pushed_of pair (record r { pc = wrap place })) memory) events
push_does script pair place top r memory events pointer limit room =
    let word = pushed_of pair (record r { pc = wrap place }) in
    ap (λ n. at (wrap place) (record r { sp = two_less r.sp })
    (slice_set (slice_set memory n (high_byte word)) (two_less r.sp) (low_byte word)) events)
    (one_below r.sp top pointer limit room)
    ∙ (ap (λ n. at (wrap place) (record r { sp = n })
    (slice_set (slice_set memory (top - 1) (high_byte word)) n (low_byte word)) events)
    (two_below r.sp top pointer limit room)
    ∙ ap (λ n. at (wrap place) (record r { sp = n }) (pushed top word memory) events)
    (sym (two_lower top room limit)))

-- the word at the stack pointer is popped
pop_acts :
    (script : List (List ℕ)) (pair : StackPair) (place : ℕ) (r : Registers) (memory : List ℕ)
    (events : List Event)
    → act script (Pop pair) (at (wrap place) r memory events)
    ≡ at (wrap place) (record (with_popped pair (word_at memory r.sp) r) { sp = wrap (r.sp + 2) }) memory
    events
pop_acts script StackBc place r memory events = refl
pop_acts script StackDe place r memory events = refl
pop_acts script StackHl place r memory events = refl
pop_acts script Psw place r memory events = refl

-- POP
pub pop_does :
    (script : List (List ℕ)) (pair : StackPair) (place top word : ℕ) (r : Registers) (memory : List ℕ)
    (events : List Event)
    → r.sp ≡ wrap (top - 2)
    → 2 ≤ top
    → top ≤ MEMORY_SIZE
    → IsPushed top word memory
    → act script (Pop pair) (at (wrap place) r memory events)
    ≡ at (wrap place) (record (with_popped pair word r) { sp = wrap top }) memory events
pop_does script pair place top word r memory events pointer room limit is =
    pop_acts script pair place r memory events
    ∙ (ap (λ n. at (wrap place) (record (with_popped pair (word_at memory n) r) { sp = wrap (n + 2) }) memory
    events)
    (pointer ∙ two_lower top room limit)
    ∙ (ap (λ n. at (wrap place) (record (with_popped pair n r) { sp = wrap (top - 2 + 2) }) memory events)
    (word_pushed top word memory room limit is)
    ∙ ap (λ n. at (wrap place) (record (with_popped pair word r) { sp = n }) memory events)
    (pointer_after_pop top room)))

-- RET
pub return_does :
    (script : List (List ℕ)) (place top word : ℕ) (r : Registers) (memory : List ℕ) (events : List Event)
    → r.sp ≡ wrap (top - 2)
    → 2 ≤ top
    → top ≤ MEMORY_SIZE
    → IsPushed top word memory
    → act script Ret (at (wrap place) r memory events) ≡ at word (record r { sp = wrap top }) memory events
return_does script place top word r memory events pointer room limit is =
    returned_is top word r memory events (pointer ∙ two_lower top room limit) room limit is
