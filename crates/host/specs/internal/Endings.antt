-- Exit statuses.
use Rattle.std.specs.Prelude.{ℕ}
use Rattle.host.specs.declared.endings.Ending.{Ending}
use Rattle.host.specs.declared.endings.Ending.TheVariants.{Done, Refused, WrongLine, Limit, Stopped, Outside}

-- the exit status of an ending
abbrev pub status_of : Ending → ℕ
status_of Done = 0
status_of Refused = 1
status_of WrongLine = 2
status_of Limit = 3
status_of Stopped = 4
status_of Outside = 5
