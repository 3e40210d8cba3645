-- What the ports of a run give, and how it ended.
use Rattle.std.specs.Prelude.{◌≡◌, ℕ, ◌==◌, List, codes, filter, map}
use Rattle.std.specs.Prelude.{Option, Some, None}
use Rattle.ports.specs.Input.{queue_of}
use Rattle.cpu8080.specs.declared.machine.End.{End}
use Rattle.cpu8080.specs.declared.machine.End.TheVariants.{Halted, Illegal, PortFault, Limit}
use Rattle.meaning.specs.declared.reason.Reason.TheVariants.{Divide, Byte, Constant, Stack}
use Rattle.meaning.specs.Outcomes.{Stop, Ended, More, Outside}
use Rattle.printing.specs.Printing.{end_word}
use Rattle.command_line.specs.declared.values.InputByte.{InputByte}

-- the bytes of an input for a port, in their order
abbrev pub bytes_to : (port : ℕ) → List InputByte → List ℕ
bytes_to port input =
    map (λ (one : InputByte). one.byte) (filter (λ (one : InputByte). port == one.port) input)

-- each port gives the bytes of the input that are for it
abbrev pub GivesInput : List InputByte → (script : List (List ℕ)) → Type 0
GivesInput input script = (port : ℕ) → queue_of script port ≡ bytes_to port input

-- the last word of a run on the machine, which ended so, or before a read past the input, and its exit status
abbrev pub machine_word : Option End → List ℕ
machine_word (Some end) = end_word end
machine_word None = codes "DRY"

abbrev pub machine_status : Option End → ℕ
machine_status (Some Halted) = 0
machine_status (Some Limit) = 3
machine_status (Some Illegal) = 4
machine_status (Some PortFault) = 4
machine_status None = 3

-- the same of a run of a source, which stopped so, or at a port that failed, or before a read past the input
abbrev pub source_word : Option (Option Stop) → List ℕ
source_word (Some (Some Ended)) = codes "HALT"
source_word (Some (Some More)) = codes "LIMIT"
source_word (Some (Some (Outside Divide))) = codes "OUTSIDE DIVIDE"
source_word (Some (Some (Outside Byte))) = codes "OUTSIDE BYTE"
source_word (Some (Some (Outside Constant))) = codes "OUTSIDE CONSTANT"
source_word (Some (Some (Outside Stack))) = codes "OUTSIDE STACK"
source_word (Some None) = codes "PORT"
source_word None = codes "DRY"

abbrev pub source_status : Option (Option Stop) → ℕ
source_status (Some (Some Ended)) = 0
source_status (Some (Some More)) = 3
source_status (Some (Some (Outside reason))) = 5
source_status (Some None) = 4
source_status None = 3
