-- What is printed of a run of a machine.
use Rattle.std.specs.Prelude.{ℕ, List, Option, codes}
use Rattle.std.specs.Io.KnownBytes.{Appends}
use Rattle.failure.specs.Writing.{AppendsBeginning}
use Rattle.printing.specs.Report.{report_of}
use Rattle.cpu8080.specs.Machine.{Machine}
use Rattle.cpu8080.specs.Runs.{IsRun}
use Rattle.cpu8080.specs.declared.machine.End.{End}
use Rattle.cpu8080.specs.declared.machine.End.TheVariants.{Halted, Illegal, PortFault, Limit}

-- the word that a run ends with
abbrev pub end_word : End → List ℕ
end_word Halted = codes "HALT"
end_word Illegal = codes "ILLEGAL"
end_word PortFault = codes "PORT"
end_word Limit = codes "LIMIT"

-- a run of at most `limit` steps ended so at this machine, and the lines of its events, but for those of quiet ports,
-- and the word of its end were printed
pub record PrintsRun (quiet : List ℕ) (limit : ℕ) (start : Machine) (end : End) (machine : Machine)
    (old new : Option (List ℕ)) : Type 0 where
  pub run : IsRun limit start end machine
  pub printed : Appends old new (report_of quiet machine.state.events (end_word end))

-- a beginning of what is printed of a run of at most `limit` steps
pub record BeginsRun (quiet : List ℕ) (limit : ℕ) (start : Machine) (old new : Option (List ℕ)) : Type 0 where
  pub end : End
  pub machine : Machine
  pub run : IsRun limit start end machine
  pub printed : AppendsBeginning old new (report_of quiet machine.state.events (end_word end))
