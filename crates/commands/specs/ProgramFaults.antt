-- What a fault of sources is reported as.
use Rattle.std.specs.Prelude.{ℕ, List, Option, None, Some, codes}
use Rattle.host.specs.Refusals.{refusal_line}
use Rattle.commands.specs.NeedFaults.{name_at}
use Rattle.tool.specs.Faults.{file_of, line_of, name_of, number_of}
use Rattle.tool.specs.declared.fault.ToolFault.{ToolFault}

-- the name of the file of this number, or a dash where a fault is in none
abbrev pub file_place : (names : List (List ℕ)) → (file : Option ℕ) → List ℕ
file_place names None = codes "-"
file_place names (Some file) = name_at names file

-- the name that a fault is about, or else the name of its file, or a dash
abbrev pub fault_place : (names : List (List ℕ)) → (name : Option (List ℕ)) → (file : Option ℕ) → List ℕ
fault_place names (Some name) file = name
fault_place names None file = file_place names file

-- the line that tells a fault of sources, whose files have these names
abbrev pub fault_line : (names : List (List ℕ)) → ToolFault → List ℕ
fault_line names fault =
    refusal_line (number_of fault) (fault_place names (name_of fault) (file_of fault)) (line_of fault)
