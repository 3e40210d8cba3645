-- What MOVE of the language does, in the words of the routine.
use Rattle.std.specs.Prelude.{◌≡◌, ℕ, true, false}
use Rattle.meaning.specs.Access.{is_constant, is_declared}
use Rattle.meaning.specs.Meaning.{moved}
use Rattle.meaning.specs.Outcomes.{Gave, Program, State}
use Rattle.runtime8080.specs.internal.Routines.{IsInBlock, copied}

-- MOVE leaves the block copied, byte by byte, and nothing else changed. It may look at each byte of the block,
-- and write each byte of its copy.
pub record Copies (program : Program) (count source destination : ℕ) (before after : State) : Type 0 where
  pub result : after ≡ record before { memory = copied count source destination before.memory }
  pub read : (address : ℕ) → IsInBlock count source address → is_declared program address ≡ true
  pub written : (address : ℕ) → IsInBlock count destination address → is_declared program address ≡ true
  pub variable : (address : ℕ) → IsInBlock count destination address → is_constant program address ≡ false

-- wherever MOVE gives a state, it is that of the routine
abbrev pub MoveCopies : Type 0
MoveCopies =
    (program : Program) (count source destination : ℕ) (before after : State)
    → moved program count source destination before ≡ Gave tt after
    → Copies program count source destination before after
