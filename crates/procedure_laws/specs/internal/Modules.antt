-- Where the code of a module of a program lies, and what is true of the module.
use Rattle.std.specs.Prelude.{◌≡◌, ◌≢◌, ℕ, ◌<◌, ◌+◌, true, All, Bool, List, ◌++◌, [], ◌∷◌, Some, None, length, slice_get}
use Rattle.std.specs.Borrow.{Bor}
use Rattle.mem80.specs.declared.memory.TheConstants.{MEMORY_SIZE}
use Rattle.object_modules.specs.declared.segment.Segment.TheVariants.{Stack}
use Rattle.object_modules.specs.declared.segment.Target.TheVariants.{InSegment, External}
use Rattle.ports.specs.Input.{IsScript}
use Rattle.typed_trees.specs.Frames.{FramesFit, ParametersFit}
use Rattle.typed_trees.specs.Globals.{ListsGlobals}
use Rattle.typed_trees.specs.Jumps.{JumpsAreSound}
use Rattle.typed_trees.specs.Sizes.{size_of_object}
use Rattle.typed_trees.specs.TypedTrees.{InData, TypedModule, TypedObject}
use Rattle.typed_trees.specs.WellTyped.{IsWellTyped}
use Rattle.layout.specs.Sound.{BasesStandBefore, FramesAreReentrant, TakeBytes}
use Rattle.layout.specs.Joined.{InProgram, IsJoined}
use Rattle.layout.specs.Storage.{Storage}
use Rattle.meaning.specs.Access.{Surroundings}
use Rattle.meaning.specs.Meaning.{callee_in}
use Rattle.meaning.specs.Outcomes.{Program}
use Rattle.isa8080.specs.declared.instr.Instr.TheVariants.{Hlt}
use Rattle.isa8080.specs.declared.instr.Pair.TheVariants.{Sp}
use Rattle.isa8080.specs.State.{wrap}
use Rattle.asm8080.specs.declared.item.Item.{Item}
use Rattle.asm8080.specs.declared.item.Item.TheVariants as items
use Rattle.asm8080.specs.declared.item.Reference.TheVariants.{AtTarget}
use Rattle.asm8080.specs.declared.item.WordForm.TheVariants.{LoadPair}
use Rattle.asm8080.specs.Items.{Layout}
use Rattle.runtime8080.specs.declared.routine.Routine.{Routine}
use Rattle.treecode.specs.declared.module.TreeModule.{TreeModule}
use Rattle.treecode.specs.declared.place.Home.TheVariants.{Static}
use Rattle.treecode.specs.declared.place.Place.{Place}
use Rattle.treecode.specs.declared.procedure.ProcedureKind.TheVariants as kinds
use Rattle.treecode.specs.declared.procedure.TreeProcedure.{TreeProcedure}
use Rattle.treecode.specs.internal.Lowered.{IsLowered}
use Rattle.treecode.specs.internal.Nodes.{home_at, nodes_of}
use Rattle.treecode.specs.internal.Resolved.{Resolves}
use Rattle.frames.specs.internal.Frames.{HasNothing, IsPlanOf}
use Rattle.code_meaning.specs.internal.Activations.{Activation, IsThere, PlacementLies, Loaded}
use Rattle.code_meaning.specs.internal.Holding.{place_at}
use Rattle.steps8080.specs.internal.Facts.{no_facts}
use Rattle.exprgen8080.specs.internal.Emission.{has_routine, module_label_of_routine}
use Rattle.statements8080.specs.declared.body.Body.{Body}
use Rattle.statement_laws.specs.Here.{Here}
use Rattle.statement_laws.specs.internal.Generated.{AreCarriedOut, IsListCarriedOut}
use Rattle.statement_laws.specs.internal.GeneratedModules.{IsEndCode}
use Rattle.statement_laws.specs.internal.GeneratedProcedures.{entry_steps}
use Rattle.statement_laws.specs.internal.CodeContexts.{NumbersAreWords, RoutineIsAt}
use Rattle.procedure_laws.specs.Calls.{Entries}

-- A module of a program, by its number: as it is typed, with its storage, as tree code; the memory as it was loaded; where
-- the labels of its code and its targets lie; and the routines that its code calls.
pub record ModuleCode : Type 0 where
  pub program : Program
  pub image : List ℕ
  pub number : ℕ
  pub typed : TypedModule
  pub storage : Storage
  pub tree : Bor TreeModule
  pub called : List Bool
  pub layout : Layout

-- the program that a module is of, as it is loaded
abbrev pub loaded_by : ModuleCode → Loaded
loaded_by code = record { program = code.program; image = code.image }

-- what code of a module is carried out in, with so much room on the stack
abbrev pub surroundings_in : ModuleCode → (room : ℕ) → Surroundings
surroundings_in code room = record { program = code.program; number_of_module = code.number; room = room }

-- an activation of code that has no frame, which is at the end of the stack: for what is said of code alone
abbrev pub bare : ModuleCode → Activation
bare code = record {
  around = surroundings_in code 0;
  layout = code.layout;
  image = code.image;
  floor = code.program.placement.stack.start;
  level = 0;
  distance = λ object. 0;
  size = λ object. 0;
  back = 0;
  whole = 0;
}

-- code comes to a place with nothing known of the registers
abbrev pub at_start : Here
at_start = record { facts = no_facts; goes_on = true }

-- the code of a procedure stands at its entry: how it begins, its body, and its end
pub record ProcedureStands (code : ModuleCode) (procedure : TreeProcedure) (entry : ℕ) : Type 0 where
  pub body : Body
  pub tree : body.tree.now ≡ code.tree.now
  pub is_procedure : body.procedure.now ≡ procedure
  pub frame : procedure.kind ≡ kinds.Reentrant → IsPlanOf procedure body.frame.now
  pub first : ℕ
  pub begins : List Item
  pub begun : Here
  pub entry_written : AreCarriedOut body code.called at_start None (entry_steps body first) begins begun
  pub statements : List Item
  pub last : Here
  pub list_written : IsListCarriedOut body code.called begun.facts procedure.body statements last
  pub ends : List Item
  pub end_written : IsEndCode body code.called last procedure.reaches_its_end ends
  pub to : ℕ
  pub there : IsThere (bare code) (begins ++ (statements ++ ends)) entry to

-- The code of the main program stands at its start: the stack pointer goes to the end of the stack; then come its
-- statements, and the machine halts.
pub record MainStands (code : ModuleCode) (start : ℕ) : Type 0 where
  pub body : Body
  pub tree : body.tree.now ≡ code.tree.now
  pub is_main : body.procedure.now ≡ code.tree.now.main
  pub frame : HasNothing body.frame.now
  pub statements : List Item
  pub last : Here
  pub list_written : IsListCarriedOut body code.called no_facts code.tree.now.main.body statements last
  pub to : ℕ
  pub there :
      IsThere (bare code)
      (items.WithWord (LoadPair Sp) (AtTarget (InSegment Stack) 0) ∷ (statements ++ (items.Plain Hlt ∷ []))) start to

-- variables of the data segment without AT and INITIAL have no byte in common
abbrev pub VariablesAreApart : ModuleCode → Type 0
VariablesAreApart code =
    (one other : ℕ) (first second : TypedObject) (left right : Place) (offset distance : ℕ)
    → one ≢ other
    → slice_get code.typed.objects one ≡ Some first
    → slice_get code.typed.objects other ≡ Some second
    → first.home ≡ InData []
    → second.home ≡ InData []
    → home_at code.tree.now.homes.items one ≡ Static left
    → home_at code.tree.now.homes.items other ≡ Static right
    → offset < size_of_object first
    → distance < size_of_object second
    → wrap (place_at code.layout left + offset) ≢ wrap (place_at code.layout right + distance)

-- What is true of a module of a program and of where its code lies, where the entries of procedures are these.
pub record ModuleLies (code : ModuleCode) (entries : Entries) : Type 0 where
  pub is_module : slice_get code.program.modules code.number ≡ Some code.typed
  pub joined : IsJoined code.program.modules
  pub globals : All ListsGlobals code.program.modules
  pub types : IsWellTyped code.typed
  pub jumps : JumpsAreSound code.typed
  pub frames : FramesFit code.typed
  pub parameters : ParametersFit code.typed
  pub reentrant : FramesAreReentrant code.typed
  pub sized : TakeBytes code.typed
  pub bases : BasesStandBefore code.typed
  pub lists : length code.storage.lists ≡ length code.typed.constants.lists
  pub lowered : IsLowered code.typed code.storage code.tree.now
  pub numbers : NumbersAreWords (nodes_of code.tree.now)
  pub script : IsScript code.program.script
  pub placed : PlacementLies code.program
  pub apart : VariablesAreApart code
  pub resolves : (room : ℕ)
      → Resolves (surroundings_in code room) code.tree.now.homes.items code.storage (place_at code.layout)
  pub words : (object : ℕ) (place : Place) → home_at code.tree.now.homes.items object ≡ Static place
      → place_at code.layout place < MEMORY_SIZE
  pub stack_end : wrap (code.layout.address_of (InSegment Stack))
      ≡ wrap (code.program.placement.stack.start + code.program.placement.stack.len)
  pub routines : (routine : Routine) → has_routine code.called routine ≡ true
      → RoutineIsAt (bare code) routine
      (code.layout.place_of (module_label_of_routine code.tree.now routine).index)
  pub procedures : (number : ℕ) (procedure : TreeProcedure)
      → slice_get code.tree.now.procedures.items number ≡ Some procedure
      → ((name : ℕ) → procedure.kind ≢ kinds.External name)
      → ProcedureStands code procedure (code.layout.place_of number)
  pub own : (number : ℕ) (procedure : TreeProcedure)
      → slice_get code.tree.now.procedures.items number ≡ Some procedure
      → ((name : ℕ) → procedure.kind ≢ kinds.External name)
      → wrap (entries (record { number_of_module = code.number; number = number }))
      ≡ wrap (code.layout.place_of number)
  pub externals : (number name : ℕ) (procedure : TreeProcedure) (at : InProgram)
      → slice_get code.tree.now.procedures.items number ≡ Some procedure
      → procedure.kind ≡ kinds.External name
      → callee_in (surroundings_in code 0) number ≡ Some at
      → wrap (entries at) ≡ wrap (code.layout.address_of (External name))
