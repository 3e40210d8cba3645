-- What it means that a machine performs what a source does.
use Rattle.std.specs.Prelude.{◌≡◌, ◌≢◌, ℕ}
use Rattle.ports.specs.Events.{IsBeginning}
use Rattle.isa8080.specs.declared.registers.Status.TheVariants.{Halted, Illegal}
use Rattle.isa8080.specs.State.{State}
use Rattle.meaning.specs.Outcomes.{Ended}
use Rattle.meaning.specs.Run.{Run}

-- the machine performs exactly the source's reads and writes, and halts exactly if the source ends: the source
-- with budget n, and the machine after k steps
pub record Agrees (source : ℕ → Run) (machine : ℕ → State) : Type 0 where
  pub keeps_up : (n : ℕ) → (k : ℕ) × ((machine k).events ≡ (source n).events)
  pub runs_no_further : (k : ℕ) → (n : ℕ) × IsBeginning (machine k).events (source n).events
  pub halts_when_ended : (n : ℕ)
      → (source n).end ≡ Ended
      → (k : ℕ) × ((machine k).status ≡ Halted) × ((machine k).events ≡ (source n).events)
  pub ended_when_halted : (k : ℕ)
      → (machine k).status ≡ Halted
      → (n : ℕ) × ((source n).end ≡ Ended)
  pub never_illegal : (k : ℕ) → (machine k).status ≢ Illegal
