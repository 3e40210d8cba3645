-- What is printed of some steps of a run.
use Rattle.std.specs.Prelude.{ℕ, List, Option, drop, length}
use Rattle.std.specs.List.{flat_map}
use Rattle.failure.specs.Writing.{AppendsBeginning}
use Rattle.printing.specs.Report.{shown_line}
use Rattle.cpu8080.specs.Machine.{Machine}
use Rattle.cpu8080.specs.Runs.{IsRun}
use Rattle.cpu8080.specs.declared.machine.End.{End}

-- a run of at most `limit` steps, and a beginning of the lines of its events was printed
pub record BeginsSlice (quiet : List ℕ) (limit : ℕ) (start machine : Machine) (old new : Option (List ℕ)) : Type 0 where
  pub end : End
  pub run : IsRun limit start end machine
  pub printed : AppendsBeginning old new
      (flat_map (shown_line quiet) (drop (length start.state.events) machine.state.events))
