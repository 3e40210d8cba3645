-- Steps that are paid for and steps that are not, and the step that halts.
use Rattle.asm8080.proofs.Prelude.{◌≡◌, ℕ, suc, ◌+◌, ◌<◌, ◌≤◌, List, refl, arith, MEMORY_SIZE, Event, Hlt, Halted, Registers, State, wrap, state_after, step_of, Comes, Spends, InstructionStands}
use Rattle.asm8080.proofs.Steps.{at, step_is, step_then}

one_enough : (n : ℕ) → suc n ≤ n + 1
one_enough n = omega arith

one_spent : (n : ℕ) → n ≤ suc n
one_spent n = omega arith

none_enough : (n k : ℕ) → n ≤ n + k
none_enough n k = omega arith

none_spent : (n : ℕ) → n ≤ n
none_spent n = omega arith

-- no step
pub same_after : (script : List (List ℕ)) (s : State) → Comes script 0 s s
unfolding state_after
same_after script s = refl

-- a step that takes one of a budget
pub spends_one : (script : List (List ℕ)) (n : ℕ) (s t : State) → step_of script s ≡ t
    → Spends script (suc n) s n t
spends_one script n s t e = record {
  count = 1;
  run = step_then script 0 s t t e (same_after script t);
  enough = one_enough n;
  spent = one_spent n;
}

-- steps that take nothing
pub spends_none : (script : List (List ℕ)) (n k : ℕ) (s t : State) → Comes script k s t
    → Spends script n s n t
spends_none script n k s t h = record {
  count = k;
  run = h;
  enough = none_enough n k;
  spent = none_spent n;
}

-- the machine after HLT at a place
abbrev pub halted_at : (place : ℕ) → Registers → (memory : List ℕ) → List Event → State
halted_at place r memory events = record (at (wrap (place + 1)) r memory events) { status = Halted }

-- HLT may be the very last byte of memory
pub hlt_halts :
    (script : List (List ℕ)) (place : ℕ) (r : Registers) (memory : List ℕ) (events : List Event)
    → InstructionStands memory place Hlt
    → place < MEMORY_SIZE
    → Comes script 1 (at place r memory events) (halted_at place r memory events)
hlt_halts script place r memory events stands small =
    step_then script 0 (at place r memory events) (halted_at place r memory events)
    (halted_at place r memory events)
    (step_is script Hlt (at place r memory events) refl small stands)
    (same_after script (halted_at place r memory events))
