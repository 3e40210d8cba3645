-- Sources: why they are refused, and in which order their faults are looked for.
use Rattle.std.specs.Prelude.{◌≡◌, ℕ, ◌<◌, List, length, Some}
use Rattle.std.specs.List.{AllZip}
use Rattle.typed_trees.specs.TypedTrees.{TypedModule}
use Rattle.layout.specs.Joined.{join_refusal}
use Rattle.layout.specs.Placing.{placing_refusal}
use Rattle.join.specs.declared.fault.Fault as join_fault
use Rattle.join.specs.Views as of_joining
use Rattle.object_modules.specs.Module.{ObjectModule}
use Rattle.placing.specs.declared.fault.Fault as placing_fault
use Rattle.placing.specs.Views as of_placement
use Rattle.mem80.specs.declared.plan.Plan.{Plan}
use Rattle.sources.specs.Causes.{HasReadCause}
use Rattle.sources.specs.Reading.{IsSourceOf}
use Rattle.generation.specs.Bounded.{PassesBound}
use Rattle.generation.specs.Kept.{KeepsContract}
use Rattle.sources.specs.declared.fault.ProgramFault.{ProgramFault}
use Rattle.sources.specs.declared.fault.ProgramFault.TheVariants.{Join, Placement}
use Rattle.sources.specs.declared.sources.TheConstants.{MOST_SOURCES}
use Rattle.sources.specs.Programs.{AreSourcesOf, IsProgramOf, text_of}
use Rattle.tool.specs.declared.fault.ToolFault.{ToolFault}
use Rattle.tool.specs.declared.fault.ToolFault.TheVariants.{TooManySources, Source, Code, Program, Link, Locate}
use Rattle.codegen8080.specs.declared.fault.Fault as code_fault
use Rattle.tool.specs.Made.{IsCompiledTo, code_lengths}

-- a text is the source of a module that has no object module, for this fault: its code bound passes what a segment may have
pub record HasNoObject (fault : code_fault.Fault) (text : List ℕ) : Type 0 where
  pub typed : TypedModule
  pub source : IsSourceOf text typed
  pub passes : PassesBound fault typed

-- the modules of the texts make no program
pub record HasNoProgram (fault : join_fault.Fault) (texts : List (List ℕ)) : Type 0 where
  pub modules : List TypedModule
  pub sources : AreSourcesOf texts modules
  pub cause : join_refusal modules ≡ Some (of_joining.refusal_of fault)

-- the program of the texts can't lie as planned, with the code segments of object modules that keep what is promised of them:
-- of lengths between the constants and the code bounds of its modules
pub record HasNoPlace (fault : placing_fault.Fault) (texts : List (List ℕ)) (plan : Plan) : Type 0 where
  pub modules : List TypedModule
  pub objects : List ObjectModule
  pub program : IsProgramOf texts modules
  pub contracts : AllZip KeepsContract modules objects
  pub cause : placing_refusal (of_placement.plan_view plan) modules (code_lengths objects)
      ≡ Some (of_placement.refusal_of fault)

-- why texts make no program, or their program has no place
abbrev pub HasProgramRefusal : ProgramFault → List (List ℕ) → Plan → Type 0
HasProgramRefusal (Join fault) texts plan = HasNoProgram fault texts
HasProgramRefusal (Placement fault) texts plan = HasNoPlace fault texts plan

-- The cause of a refusal is in the sources or in the plan. What can lie as planned is linked and placed: faults of linking
-- and of placing object modules have no cause.
abbrev pub HasCause : ToolFault → List (List ℕ) → Plan → Type 0
HasCause TooManySources texts plan = MOST_SOURCES < length texts
HasCause (Source file fault) texts plan = (file < length texts) × HasReadCause fault (text_of texts file)
HasCause (Code file fault) texts plan = (file < length texts) × HasNoObject fault (text_of texts file)
HasCause (Program fault) texts plan = HasProgramRefusal fault texts plan
HasCause (Link fault) texts plan = ⊥
HasCause (Locate fault) texts plan = ⊥

-- the cause that a text alone, source 0, is refused: it can't be read, or it is the source of a module that has no object module
abbrev pub IsRefusedAlone : (text : List ℕ) → ToolFault → Type 0
IsRefusedAlone text (Source file fault) = (file ≡ 0) × HasReadCause fault text
IsRefusedAlone text (Code file fault) = (file ≡ 0) × HasNoObject fault text
IsRefusedAlone text fault = ⊥

-- a text alone has no fault: there is an object module that it is compiled to
pub record IsWithoutFault (text : List ℕ) : Type 0 where
  pub object : ObjectModule
  pub compiled : IsCompiledTo text object

-- the first `count` texts have no fault
pub record AreWithoutFault (count : ℕ) (texts : List (List ℕ)) : Type 0 where
  pub each : (file : ℕ) → file < count → IsWithoutFault (text_of texts file)

-- How many of `count` sources come before a fault in the order in which faults are looked for. The faults of the whole
-- program come last.
abbrev pub sources_before : ToolFault → ℕ → ℕ
sources_before TooManySources count = 0
sources_before (Source file fault) count = file
sources_before (Code file fault) count = file
sources_before (Program fault) count = count
sources_before (Link fault) count = count
sources_before (Locate fault) count = count

-- each source that comes before a fault has none
abbrev pub IsInOrder : ToolFault → List (List ℕ) → Type 0
IsInOrder fault texts = AreWithoutFault (sources_before fault (length texts)) texts
