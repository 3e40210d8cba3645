-- Straight code of instructions that touch registers alone.
use Rattle.asm8080.proofs.Prelude.{◌≡◌, ℕ, suc, ◌+◌, ◌<◌, ◌≤◌, Bool, true, false, ◌&&◌, List, [], ◌∷◌, refl, sym, arith, subst, MEMORY_SIZE, Event, B, Of, Bc, Instr, Nop, Lxi, Inx, Dcx, Dad, Inr, Dcr, Mvi, Rlc, Rrc, Ral, Rar, Daa, Cma, Stc, Cmc, Mov, Accumulate, AccumulateImmediate, Xchg, State, Registers, act, running, Item, Plain, Layout, Stands, Comes, size_of_instruction, and_parts, first_below, lt_of_le_of_lt}
use Rattle.asm8080.proofs.Steps.{at, runs_from_instruction}

-- an instruction touches registers and flags alone
abbrev pub touches_registers : Instr → Bool
touches_registers Nop = true
touches_registers (Lxi p w) = true
touches_registers (Inx p) = true
touches_registers (Dcx p) = true
touches_registers (Dad p) = true
touches_registers (Inr (Of o)) = true
touches_registers (Dcr (Of o)) = true
touches_registers (Mvi (Of o) v) = true
touches_registers Rlc = true
touches_registers Rrc = true
touches_registers Ral = true
touches_registers Rar = true
touches_registers Daa = true
touches_registers Cma = true
touches_registers Stc = true
touches_registers Cmc = true
touches_registers Xchg = true
touches_registers (Mov d (Of o)) = true
touches_registers (Accumulate k (Of o)) = true
touches_registers (AccumulateImmediate k v) = true
touches_registers i = false

-- the registers after such an instruction
abbrev pub does_to : Instr → Registers → Registers
does_to i r = (act [] i (running r [] [])).registers

acts :
    (script : List (List ℕ)) (i : Instr) (place : ℕ) (r : Registers) (memory : List ℕ) (events : List Event)
    → touches_registers i ≡ true
    → act script i (at place r memory events) ≡ at place (does_to i r) memory events
acts script (Lxi Bc w) place r memory events h = refl
acts script (Lxi p w) place r memory events h = refl
acts script (Inx Bc) place r memory events h = refl
acts script (Inx p) place r memory events h = refl
acts script (Dcx Bc) place r memory events h = refl
acts script (Dcx p) place r memory events h = refl
acts script (Dad Bc) place r memory events h = refl
acts script (Dad p) place r memory events h = refl
acts script (Inr (Of B)) place r memory events h = refl
acts script (Inr (Of o)) place r memory events h = refl
acts script (Dcr (Of B)) place r memory events h = refl
acts script (Dcr (Of o)) place r memory events h = refl
acts script (Mvi (Of B) v) place r memory events h = refl
acts script (Mvi (Of o) v) place r memory events h = refl
acts script Rlc place r memory events h = refl
acts script Rrc place r memory events h = refl
acts script Ral place r memory events h = refl
acts script Rar place r memory events h = refl
acts script Daa place r memory events h = refl
acts script Cma place r memory events h = refl
acts script Stc place r memory events h = refl
acts script Cmc place r memory events h = refl
acts script Xchg place r memory events h = refl
acts script Nop place r memory events h = refl
acts script (Mov B (Of B)) place r memory events h = refl
acts script (Mov B (Of o)) place r memory events h = refl
acts script (Mov d (Of B)) place r memory events h = refl
acts script (Mov d (Of o)) place r memory events h = refl
acts script (Accumulate k (Of B)) place r memory events h = refl
acts script (Accumulate k (Of o)) place r memory events h = refl
acts script (AccumulateImmediate k v) place r memory events h = refl
acts script i place r memory events h = let bad : false ≡ true = h in cc

-- the registers after instructions
abbrev pub effect : List Instr → Registers → Registers
effect [] r = r
effect (i ∷ others) r = effect others (does_to i r)

abbrev pub touch_registers : List Instr → Bool
touch_registers [] = true
touch_registers (i ∷ others) = touches_registers i && touch_registers others

-- items that begin with instructions
abbrev pub plain : List Instr → List Item → List Item
plain [] items = items
plain (i ∷ others) items = Plain i ∷ plain others items

-- the place after instructions
abbrev pub past : (place : ℕ) → List Instr → ℕ
past place [] = place
past place (i ∷ others) = past (place + size_of_instruction i) others

-- so many steps after those of instructions
abbrev pub steps_of : List Instr → (more : ℕ) → ℕ
steps_of [] more = more
steps_of (i ∷ others) more = suc (steps_of others more)

pub past_later : (instructions : List Instr) (place : ℕ) → place ≤ past place instructions
past_later [] place = omega arith
past_later (i ∷ others) place =
    first_below place (size_of_instruction i) (past (place + size_of_instruction i) others)
    (past_later others (place + size_of_instruction i))

-- a run that begins with straight code
pub straight :
    (script : List (List ℕ)) (layout : Layout) (instructions : List Instr) (items : List Item) (place to : ℕ)
    (r : Registers) (memory : List ℕ) (events : List Event) (k : ℕ) (u : State)
    → touch_registers instructions ≡ true
    → Stands layout memory (plain instructions items) place to
    → past place instructions < MEMORY_SIZE
    → Comes script k (at (past place instructions) (effect instructions r) memory events) u
    → Comes script (steps_of instructions k) (at place r memory events) u
straight script layout [] items place to r memory events k u touch stands small more = more
straight script layout (i ∷ others) items place to r memory events k u touch stands small more =
    let next = place + size_of_instruction i in
    runs_from_instruction script (steps_of others k) i place r memory events u stands.0
    (lt_of_le_of_lt (past_later others next) small)
    (subst (λ (s : State). Comes script (steps_of others k) s u)
    (sym (acts script i next r memory events
    (and_parts (touches_registers i) (touch_registers others) touch).0))
    (straight script layout others items next to (does_to i r) memory events k u
    (and_parts (touches_registers i) (touch_registers others) touch).1 stands.1 small more))

-- what stands after straight code
pub stands_after :
    (layout : Layout) (memory : List ℕ) (instructions : List Instr) (items : List Item) (place to : ℕ)
    → Stands layout memory (plain instructions items) place to
    → Stands layout memory items (past place instructions) to
stands_after layout memory [] items place to h = h
stands_after layout memory (i ∷ others) items place to h =
    stands_after layout memory others items (place + size_of_instruction i) to h.1
