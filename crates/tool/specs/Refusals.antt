-- What a source that is too long is answered.
use Rattle.std.specs.Prelude.{◌≡◌, ℕ, ◌<◌, ◌⊎◌, Result, Ok, Err}
use Rattle.failure.specs.declared.Failure.{Failure}
use Rattle.failure.specs.declared.Failure.TheVariants.{Fault, Memory}
use Rattle.sources.specs.declared.read.ReadFault.TheVariants.{TooLong}
use Rattle.tool.specs.declared.fault.ToolFault.{ToolFault}
use Rattle.tool.specs.declared.fault.ToolFault.TheVariants.{TooManySources, Source, Code, Program, Link, Locate}
use Rattle.tool.specs.Construction.{Construction}

-- a fault is that this source is too long, that a source before it has a fault, or that there are too many
abbrev pub IsRefusal : ℕ → ToolFault → Type 0
IsRefusal file TooManySources = Unit {0}
IsRefusal file (Source other fault) = (other < file) ⊎ ((other ≡ file) × (fault ≡ TooLong))
IsRefusal file (Code other fault) = other < file
IsRefusal file (Program fault) = ⊥
IsRefusal file (Link fault) = ⊥
IsRefusal file (Locate fault) = ⊥

-- sources are refused for this one or for one before it, or memory ran out
abbrev pub IsRefusedBy : ℕ → Result Construction (Failure ToolFault) → Type 0
IsRefusedBy file (Ok built) = ⊥
IsRefusedBy file (Err (Fault fault)) = IsRefusal file fault
IsRefusedBy file (Err Memory) = Unit {0}
