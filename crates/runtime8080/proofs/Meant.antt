-- MOVE of the language is what the routine copies.
use Rattle.runtime8080.proofs.Prelude.{◌≡◌, ℕ, zero, suc, ◌+◌, ◌%◌, ◌<◌, Bool, true, false, if◌then◌else◌, slice_set, refl, sym, ap, ◌∙◌, arith, MEMORY_SIZE, byte_at, wrap, UndeclaredByte, Constant, is_constant, is_declared, moved, Gave, Outcome, Outside, Stopped, then_do, IsInBlock}
use Rattle.meaning.specs.Outcomes.{State}
use Rattle.runtime8080.specs.internal.Moves.{Copies, MoveCopies}

abbrev state_of : Outcome (Unit {0}) → State
state_of (Gave found s) = s
state_of (Stopped why s) = s

abbrev is_given : Outcome (Unit {0}) → Bool
is_given (Gave found s) = true
is_given (Stopped why s) = false

first_place : (start : ℕ) → wrap (start + 0) ≡ wrap start
first_place start = omega arith

later_place : (start k : ℕ) → wrap (start + suc k) ≡ wrap (start + 1 + k)
later_place start k = omega arith

-- what holds at the first place of a block and in the rest of it
in_block :
    (test : ℕ → Bool) (is : Bool) (count start : ℕ)
    → test (wrap start) ≡ is
    → ((address : ℕ) → IsInBlock count (start + 1) address → test address ≡ is)
    → (address : ℕ) → IsInBlock (suc count) start address → test address ≡ is
in_block test is count start here later address block = by_place block.0 block.1 block.2
  where
    by_place : (k : ℕ) → k < suc count → address ≡ wrap (start + k) → test address ≡ is
    by_place zero within at = ap test (at ∙ first_place start) ∙ here
    by_place (suc k) within at =
        let fewer : k < count = omega (arith, within) in later address (k, fewer, at ∙ later_place start k)

pub move_copies : MoveCopies
move_copies program zero source destination before after h = record {
  result = sym (ap state_of h);
  read = λ address block. let none : block.0 < 0 = block.1 in absurd (omega (arith, none));
  written = λ address block. let none : block.0 < 0 = block.1 in absurd (omega (arith, none));
  variable = λ address block. let none : block.0 < 0 = block.1 in absurd (omega (arith, none));
}
move_copies program (suc count) source destination before after h =
    go (is_declared program (source % MEMORY_SIZE)) (is_declared program (destination % MEMORY_SIZE))
    (is_constant program (destination % MEMORY_SIZE)) refl refl refl h
    (λ given. move_copies program count (source + 1) (destination + 1) next after given)
  where
    next : State
    next = record before {
      memory =
          slice_set before.memory (destination % MEMORY_SIZE) (byte_at before.memory (source % MEMORY_SIZE));
    }

    step : (readable declared constant : Bool) → Outcome (Unit {0})
    step readable declared constant =
        then_do
        (if readable then Gave (byte_at before.memory (source % MEMORY_SIZE)) before
        else Stopped (Outside UndeclaredByte) before)
        (λ byte t.
        then_do
        (if declared
        then (if constant then Stopped (Outside Constant) t
        else Gave (tt {0}) (record t { memory = slice_set t.memory (destination % MEMORY_SIZE) byte }))
        else Stopped (Outside UndeclaredByte) t)
        (λ _ u. moved program count (source + 1) (destination + 1) u))

    go :
        (readable declared constant : Bool)
        → is_declared program (source % MEMORY_SIZE) ≡ readable
        → is_declared program (destination % MEMORY_SIZE) ≡ declared
        → is_constant program (destination % MEMORY_SIZE) ≡ constant
        → step readable declared constant ≡ Gave (tt {0}) after
        → (moved program count (source + 1) (destination + 1) next ≡ Gave (tt {0}) after
        → Copies program count (source + 1) (destination + 1) next after)
        → Copies program (suc count) source destination before after
    go true true false reads declares varies given later =
        let rest : Copies program count (source + 1) (destination + 1) next after = later given in
        record {
          result = rest.result;
          read = in_block (is_declared program) true count source reads rest.read;
          written = in_block (is_declared program) true count destination declares rest.written;
          variable = in_block (is_constant program) false count destination varies rest.variable;
        }
    go true true true reads declares varies given later = let bad : false ≡ true = ap is_given given in cc
    go true false constant reads declares varies given later =
        let bad : false ≡ true = ap is_given given in cc
    go false declared constant reads declares varies given later = let bad : false ≡ true = ap is_given given in cc
