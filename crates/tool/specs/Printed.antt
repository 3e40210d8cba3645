-- What is printed of a run of a built program.
use Rattle.std.specs.Prelude.{◌≡◌, ℕ, List, Option, codes}
use Rattle.std.specs.Io.KnownBytes.{Appends}
use Rattle.printing.specs.Report.{report_of}
use Rattle.meaning.specs.Outcomes.{Ended}
use Rattle.meaning.specs.Run.{Run}

-- just the lines of the events of a source that ended, but for those of quiet ports, and then HALT, were printed
pub record PrintsEnded (quiet : List ℕ) (source : ℕ → Run) (old new : Option (List ℕ)) : Type 0 where
  pub budget : ℕ
  pub ended : (source budget).end ≡ Ended
  pub printed : Appends old new (report_of quiet (source budget).events (codes "HALT"))
