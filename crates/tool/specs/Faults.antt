-- What a fault of sources is reported as.
use Rattle.std.specs.Prelude.{ℕ, List, Option, None, Some, codes}
use Rattle.codegen8080.specs.Faults as of_code
use Rattle.sources.specs.Faults as of_source
use Rattle.object_modules.specs.Image.{placement_number}
use Rattle.object_modules.specs.Merge.{link_number}
use Rattle.link_laws.specs.Faults as of_linking
use Rattle.link_laws.specs.declared.fault.LinkFault.{LinkFault}
use Rattle.link_laws.specs.declared.fault.LinkFault.TheVariants as link_faults
use Rattle.locate.specs.Locating as of_locating
use Rattle.sources.specs.ProgramFaults as of_program
use Rattle.tool.specs.declared.fault.ToolFault.{ToolFault}
use Rattle.tool.specs.declared.fault.ToolFault.TheVariants.{TooManySources, Source, Code, Program, Link, Locate}

-- its number
abbrev pub number_of : ToolFault → List ℕ
number_of TooManySources = codes "U1"
number_of (Source file fault) = of_source.number_of fault
number_of (Code file fault) = of_code.number_of fault
number_of (Program fault) = of_program.number_of fault
number_of (Link fault) = link_number (of_linking.refusal_of fault)
number_of (Locate fault) = placement_number (of_locating.refusal_of fault)

-- the source that it is in, or None where it is one of all
abbrev pub file_of : ToolFault → Option ℕ
file_of TooManySources = None
file_of (Source file fault) = Some file
file_of (Code file fault) = Some file
file_of (Program fault) = None
file_of (Link fault) = None
file_of (Locate fault) = None

-- its line, or 0 where it is in no line
abbrev pub line_of : ToolFault → ℕ
line_of (Source file fault) = of_source.line_of fault
line_of fault = 0

-- the name that a fault of linking is about
abbrev pub name_of_linking : LinkFault → Option (List ℕ)
name_of_linking (link_faults.DuplicatePublic name) = Some name
name_of_linking (link_faults.UnresolvedExternal name) = Some name
name_of_linking fault = None

-- the name that a fault is about
abbrev pub name_of : ToolFault → Option (List ℕ)
name_of (Program fault) = of_program.name_of fault
name_of (Link fault) = name_of_linking fault
name_of fault = None
