-- The step of a machine that comes to an item that is an instruction. Places count on past the end of memory, where the
-- program counter begins at 0 again.
use Rattle.asm8080.proofs.Prelude.{◌≡◌, ℕ, ◌+◌, ◌-◌, ◌≤◌, List, ◌∷◌, refl, ap, ◌∙◌, arith, MEMORY_SIZE, Event, Instr, Pop, Push, Ret, StackPair, Registers, pushed_of, with_popped, wrap, act, step_of, Item, Plain, WithWord, Reference, WordForm, Layout, Stands, instruction_with, word_of, InstructionStands, size_of_instruction, wrapped_once, wrapped_small}
use Rattle.asm8080.proofs.Calls.{IsPushed, pushed}
use Rattle.asm8080.proofs.Kept.{bytes_alike, size_with}
use Rattle.asm8080.proofs.Stack.{pop_does, push_does, return_does}
use Rattle.asm8080.proofs.Steps.{at, step_is}

past : (place size : ℕ) → wrap (wrap place + size) ≡ wrap (place + size)
past place size = omega arith

-- where an instruction stands
pub step_at :
    (script : List (List ℕ)) (i : Instr) (place : ℕ) (r : Registers) (memory : List ℕ) (events : List Event)
    → InstructionStands memory place i
    → step_of script (at (wrap place) r memory events)
    ≡ act script i (at (wrap (place + size_of_instruction i)) r memory events)
step_at script i place r memory events stands =
    step_is script i (at (wrap place) r memory events) refl (wrapped_small place)
    (bytes_alike memory _ place (wrap place) (wrapped_once place) stands)
    ∙ ap (λ n. act script i (at n r memory events)) (past place (size_of_instruction i))

-- an item that is an instruction
pub plain_item_step :
    (script : List (List ℕ)) (layout : Layout) (i : Instr) (items : List Item) (from to : ℕ)
    (r : Registers) (memory : List ℕ) (events : List Event)
    → Stands layout memory (Plain i ∷ items) from to
    → step_of script (at (wrap from) r memory events)
    ≡ act script i (at (wrap (from + size_of_instruction i)) r memory events)
plain_item_step script layout i items from to r memory events stands =
    step_at script i from r memory events stands.0

-- one with a word
pub word_item_step :
    (script : List (List ℕ)) (layout : Layout) (form : WordForm) (reference : Reference) (items : List Item)
    (from to : ℕ) (r : Registers) (memory : List ℕ) (events : List Event)
    → Stands layout memory (WithWord form reference ∷ items) from to
    → step_of script (at (wrap from) r memory events)
    ≡ act script (instruction_with form (word_of layout reference)) (at (wrap (from + 3)) r memory events)
word_item_step script layout form reference items from to r memory events stands =
    let i = instruction_with form (word_of layout reference) in
    step_at script i from r memory events stands.0
    ∙ ap (λ size. act script i (at (wrap (from + size)) r memory events))
    (size_with form (word_of layout reference))

-- PUSH
pub push_item_step :
    (script : List (List ℕ)) (layout : Layout) (pair : StackPair) (items : List Item) (from to top : ℕ)
    (r : Registers) (memory : List ℕ) (events : List Event)
    → Stands layout memory (Plain (Push pair) ∷ items) from to
    → r.sp ≡ wrap top
    → top ≤ MEMORY_SIZE
    → 2 ≤ top
    → step_of script (at (wrap from) r memory events)
    ≡ at (wrap (from + 1)) (record r { sp = wrap (top - 2) })
    (pushed top (pushed_of pair (record r { pc = wrap (from + 1) })) memory) events
push_item_step script layout pair items from to top r memory events stands pointer limit room =
    plain_item_step script layout (Push pair) items from to r memory events stands
    ∙ push_does script pair (from + 1) top r memory events pointer limit room

-- POP
pub pop_item_step :
    (script : List (List ℕ)) (layout : Layout) (pair : StackPair) (items : List Item) (from to top word : ℕ)
    (r : Registers) (memory : List ℕ) (events : List Event)
    → Stands layout memory (Plain (Pop pair) ∷ items) from to
    → r.sp ≡ wrap (top - 2)
    → 2 ≤ top
    → top ≤ MEMORY_SIZE
    → IsPushed top word memory
    → step_of script (at (wrap from) r memory events)
    ≡ at (wrap (from + 1)) (record (with_popped pair word r) { sp = wrap top }) memory events
pop_item_step script layout pair items from to top word r memory events stands pointer room limit is =
    plain_item_step script layout (Pop pair) items from to r memory events stands
    ∙ pop_does script pair (from + 1) top word r memory events pointer room limit is

-- RET
pub return_item_step :
    (script : List (List ℕ)) (layout : Layout) (items : List Item) (from to top word : ℕ)
    (r : Registers) (memory : List ℕ) (events : List Event)
    → Stands layout memory (Plain Ret ∷ items) from to
    → r.sp ≡ wrap (top - 2)
    → 2 ≤ top
    → top ≤ MEMORY_SIZE
    → IsPushed top word memory
    → step_of script (at (wrap from) r memory events) ≡ at word (record r { sp = wrap top }) memory events
return_item_step script layout items from to top word r memory events stands pointer room limit is =
    plain_item_step script layout Ret items from to r memory events stands
    ∙ return_does script (from + 1) top word r memory events pointer room limit is
