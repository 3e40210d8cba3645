-- Sources that are read and whose object modules are made.
use Rattle.std.specs.Prelude.{◌≡◌, ℕ, List, [], ◌∷◌}
use Rattle.failure.specs.declared.Failure.{Failure}
use Rattle.failure.specs.declared.Failure.TheVariants.{Fault, Memory}
use Rattle.typed_trees.specs.TypedTrees.{TypedModule}
use Rattle.typed_trees.specs.Views.{module_view}
use Rattle.layout.specs.Storage.{storage_with}
use Rattle.layout.specs.Views.{layout_view}
use Rattle.layout.specs.Joined.{IsJoined}
use Rattle.mem80.specs.declared.plan.Plan.{Plan}
use Rattle.codegen8080.specs.declared.fault.Fault as code_fault
use Rattle.sources.specs.Causes.{HasReadCause}
use Rattle.sources.specs.Reading.{IsSourceOf}
use Rattle.generation.specs.internal.Measured.{IsNotMade}
use Rattle.generation.specs.internal.Typed.{IsSoundlyMade}
use Rattle.generation.specs.ModuleMarks.{LieInModule}
use Rattle.sources.specs.Programs.{HasProgramCause, program_modules}
use Rattle.tool.specs.declared.compiled.Compiled.{Compiled}
use Rattle.tool.specs.declared.fault.ToolFault.{ToolFault}
use Rattle.tool.specs.declared.fault.ToolFault.TheVariants.{Source, Code, Program}
use Rattle.tool.specs.Construction.{Construction}

-- the module of a source that is compiled
abbrev pub module_in : Compiled → TypedModule
module_in compiled = module_view compiled.source.typed

-- a module has a source
pub record HasSource (typed : TypedModule) : Type 0 where
  pub text : List ℕ
  pub source : IsSourceOf text typed

-- what a source is compiled to: its module, the storage of that, an object module that is made of it, and marks in its code
pub record IsCompiled (text : List ℕ) (compiled : Compiled) : Type 0 where
  pub source : IsSourceOf text (module_in compiled)
  pub storage : layout_view compiled.source.storage ≡ storage_with (module_in compiled)
  pub made : IsSoundlyMade (module_in compiled) compiled.object
  pub marked : LieInModule compiled.marks (module_in compiled) compiled.object

-- texts are compiled to these, one by one
abbrev pub AreCompiled : List (List ℕ) → List Compiled → Type 0
AreCompiled [] [] = Unit {0}
AreCompiled (text ∷ texts) (compiled ∷ others) = IsCompiled text compiled × AreCompiled texts others
AreCompiled texts compiled = ⊥

-- the source of this number can't be read, since its text has the fault
abbrev pub HasSourceCause : (place : ℕ) → (text : List ℕ) → ToolFault → Type 0
HasSourceCause place text (Source file fault) = (file ≡ place) × HasReadCause fault text
HasSourceCause place text fault = ⊥

-- the failure of the code of the source of this number
abbrev pub failure_of_code : (file : ℕ) → Failure code_fault.Fault → Failure ToolFault
failure_of_code file (Fault fault) = Fault (Code file fault)
failure_of_code file Memory = Memory

-- no object module is made of the module of the source of this number
abbrev pub HasGenerationCause : (place : ℕ) → TypedModule → ToolFault → Type 0
HasGenerationCause place typed (Code file fault) = (file ≡ place) × IsNotMade fault typed
HasGenerationCause place typed fault = ⊥

-- a text is the source of a module, and `generate` makes no object module of it, for this fault
pub record IsNotCompiled (fault : code_fault.Fault) (text : List ℕ) : Type 0 where
  pub typed : TypedModule
  pub source : IsSourceOf text typed
  pub none : IsNotMade fault typed

-- the text has the fault, or no object module is made of it
abbrev pub HasCompileCause : ToolFault → ℕ → List ℕ → Type 0
HasCompileCause (Source file fault) place text = (file ≡ place) × HasReadCause fault text
HasCompileCause (Code file fault) place text = (file ≡ place) × IsNotCompiled fault text
HasCompileCause fault place text = ⊥

-- a program that was built from modules by a plan
pub record IsBuiltFrom (modules : List TypedModule) (plan : Plan) (built : Construction) : Type 0 where
  pub program : program_modules built.program ≡ modules
  pub joined : IsJoined modules
  pub as_planned : built.plan ≡ plan

-- the modules make no program, or one that can't lie as planned with code segments that are so long
abbrev pub HasBuildCause : ToolFault → List TypedModule → (lengths : List ℕ) → Plan → Type 0
HasBuildCause (Program fault) modules lengths plan = HasProgramCause fault modules lengths plan
HasBuildCause fault modules lengths plan = ⊥
