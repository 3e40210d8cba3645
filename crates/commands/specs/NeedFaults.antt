-- What a fault of sources that have no need is reported as.
use Rattle.std.specs.Prelude.{ℕ, List, Option, codes, slice_get, unwrap_or}
use Rattle.host.specs.Refusals.{refusal_line}
use Rattle.sources.specs.Faults as of_source
use Rattle.join.specs.Views as of_joining
use Rattle.join.specs.declared.fault.Fault as join_fault
use Rattle.commands.specs.declared.needs.fault.NeedFault.{NeedFault}
use Rattle.commands.specs.declared.needs.fault.NeedFault.TheVariants.{TooManySources, Source, Join}
use Rattle.sources.specs.ProgramFaults.{name_of_joining}

-- a name, or a dash if there is no name
abbrev pub name_or_dash : Option (List ℕ) → List ℕ
name_or_dash name = unwrap_or name (codes "-")

-- the name of the file of this number, counted from 0, or a dash
abbrev pub name_at : (names : List (List ℕ)) → (number : ℕ) → List ℕ
name_at names number = name_or_dash (slice_get names number)

-- the line that says why modules make no program
abbrev pub joining_line : join_fault.Fault → List ℕ
joining_line fault = refusal_line (of_joining.number_of fault) (name_or_dash (name_of_joining fault)) 0

-- the line that tells a fault of sources, whose files have these names
abbrev pub fault_line : (names : List (List ℕ)) → NeedFault → List ℕ
fault_line names TooManySources = refusal_line (codes "U1") (codes "-") 0
fault_line names (Source file fault) =
    refusal_line (of_source.number_of fault) (name_at names file) (of_source.line_of fault)
fault_line names (Join fault) = joining_line fault
