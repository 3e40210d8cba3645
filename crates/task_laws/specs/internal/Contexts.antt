-- The context of the code of a body: its module as a typed module and as tree code, an activation on the
-- machine, and the laws of the calls that it makes.
use Rattle.std.specs.Prelude.{◌≡◌, ℕ, ◌+◌, ◌<◌, ◌≤◌, Bool, true, List, [], ◌∷◌, length, Option, Some, None, slice_get, All}
use Rattle.mem80.specs.declared.memory.TheConstants.{MEMORY_SIZE}
use Rattle.mem80.specs.Memory.{byte_at}
use Rattle.trees.specs.declared.declaration.ScalarType.{ScalarType}
use Rattle.typed_trees.specs.Sizes.{size_of_object}
use Rattle.typed_trees.specs.TypedTrees.{InFrame, TypedModule, TypedObject, TypedProcedure}
use Rattle.typed_trees.specs.WellTyped.{IsWellTyped, Within, WithinProcedure}
use Rattle.layout.specs.Sound.{BasesStandBefore}
use Rattle.layout.specs.Storage.{Storage}
use Rattle.ports.specs.Input.{IsScript}
use Rattle.meaning.specs.Access.{Surroundings, is_declared}
use Rattle.meaning.specs.Outcomes.{State as SourceState, Gave}
use Rattle.meaning.specs.Meaning.{Later, callee_in, called_for}
use Rattle.meaning.specs.Values.{values_of}
use Rattle.isa8080.specs.State.{Registers}
use Rattle.asm8080.specs.declared.item.Item.{Item}
use Rattle.asm8080.specs.Items.{Layout, Stands}
use Rattle.runtime8080.specs.declared.routine.Routine.{Routine}
use Rattle.runtime8080.specs.internal.Routines.{IsRoutine}
use Rattle.treecode.specs.declared.place.Home.TheVariants.{Static}
use Rattle.treecode.specs.declared.place.Place.{Place}
use Rattle.treecode.specs.internal.Homes.{frame_number}
use Rattle.treecode.specs.internal.Lowered.{IsLowered}
pub use Rattle.treecode.specs.internal.Nodes.{NumbersAreWords}
use Rattle.treecode.specs.internal.Nodes.{Nodes, home_at, nodes_of}
use Rattle.treecode.specs.internal.Resolved.{Resolves}
use Rattle.frames.specs.internal.Frames.{distance_of}
use Rattle.code_meaning.specs.internal.Activations.{Activation, Arrives, HasRoom, IsReady, IsThere, LiesWell, loaded_of}
use Rattle.code_meaning.specs.Landing.{Does, at_place}
use Rattle.code_meaning.specs.internal.Holding.{Distances, place_at}
use Rattle.steps8080.specs.declared.sites.site.Site.{Site}
use Rattle.exprgen8080.specs.internal.Emission.{call_items, has_routine, label_of_routine}
pub use Rattle.task_laws.specs.CallingConvention.{ArgumentsLie, InRegister, InWord, ResultLies, bytes_pushed}

-- The context of a body: its module and the storage of that module; its procedure; the site of its code; the
-- routines that the module's code calls; the meaning of calls, and the budget below which they are known to
-- have it; and the activation.
pub record Context : Type 0 where
  pub typed : TypedModule
  pub storage : Storage
  pub within : Within
  pub site : Site
  pub called : List Bool
  pub later : Later
  pub number : ℕ
  pub activation : Activation

abbrev pub nodes_in : Context → Nodes
nodes_in context = nodes_of context.site.tree.now

-- the distance from the level up to each variable of the frame
abbrev pub distances_in : Context → Distances
distances_in context variable = distance_of context.site.frame.now variable

-- Calls, from their CALL on: wherever a call is placed, with its arguments passed, the machine does what the
-- call means, and the arguments are popped. This holds for runs that are below a budget.
abbrev pub CallsDo : Context → Type 0
CallsDo context =
    (procedure from top pushed : ℕ) (heading : TypedProcedure) (values base : List ℕ) (s : SourceState)
    (r : Registers) (memory : List ℕ)
    → slice_get context.typed.procedures procedure ≡ Some heading
    → s.budget < context.number
    → IsThere context.activation (call_items context.site procedure) from (from + 3)
    → HasRoom context.activation top pushed 0
    → bytes_pushed values ≤ pushed
    → IsReady context.activation top base s.memory s.frame r memory
    → ArgumentsLie heading.parameter_types values top r memory
    → Does (loaded_of context.activation) s.budget 0 (at_place from r memory s.events)
    (called_for context.later
    (callee_in context.activation.around procedure) values context.activation.around s)
    (Arrives context.activation (top + bytes_pushed values) base (from + 3) (ResultLies heading.result))

-- Each declared byte of a state of the source, and each byte of its frame, is below 256.
pub record SourceFits (around : Surroundings) (s : SourceState) : Type 0 where
  pub memory : (address : ℕ) → is_declared around.program address ≡ true → byte_at s.memory address < 256
  pub frame : All (λ bytes. All (λ byte. byte < 256) bytes) s.frame

-- values of types, one by one
abbrev pub AreOfTypes : List ScalarType → (values : List ℕ) → Type 0
AreOfTypes [] [] = Unit {0}
AreOfTypes (scalar ∷ scalars) (value ∷ values) = (value < values_of scalar) × AreOfTypes scalars values
AreOfTypes scalars values = ⊥

-- the value of a call is of the type of its result
abbrev pub IsOfResult : Option ScalarType → (value : ℕ) → Type 0
IsOfResult None value = Unit {0}
IsOfResult (Some scalar) value = value < values_of scalar

-- Calls with arguments of the types of parameters give values of the types of results, and leave bytes in
-- declared memory and frames.
abbrev pub CallsFit : Context → Type 0
CallsFit context =
    (procedure found : ℕ) (heading : TypedProcedure) (values : List ℕ) (s t : SourceState)
    → slice_get context.typed.procedures procedure ≡ Some heading
    → AreOfTypes heading.parameter_types values
    → SourceFits context.activation.around s
    → called_for context.later
    (callee_in context.activation.around procedure) values context.activation.around s
    ≡ Gave found t
    → IsOfResult heading.result found × SourceFits context.activation.around t

-- a routine is at a place
pub record RoutineIsAt (activation : Activation) (routine : Routine) (entry : ℕ) : Type 0 where
  pub layout : Layout
  pub items : List Item
  pub to : ℕ
  pub stands : Stands layout activation.image items entry to
  pub has_bytes : entry < to
  pub low : activation.around.program.placement.code.start ≤ entry
  pub high : to ≤ activation.around.program.placement.code.start +
      activation.around.program.placement.code.len
  pub is_routine : IsRoutine routine items

-- the objects of a frame are at the distances of the site
abbrev pub FrameIsPlanned : Context → Type 0
FrameIsPlanned context =
    (procedure object : ℕ) (result : Option ScalarType) (found : TypedObject)
    → context.within ≡ WithinProcedure procedure result
    → slice_get context.typed.objects object ≡ Some found
    → found.home ≡ InFrame procedure
    → (context.activation.distance object
    ≡ distances_in context (frame_number context.typed procedure object))
    × (context.activation.size object ≡ size_of_object found)

-- The properties of the context of a body.
pub record IsSound (context : Context) : Type 0 where
  pub lowered : IsLowered context.typed context.storage context.site.tree.now
  pub types : IsWellTyped context.typed
  pub lists : length context.storage.lists ≡ length context.typed.constants.lists
  pub numbers : NumbersAreWords (nodes_in context)
  pub is_module :
      slice_get context.activation.around.program.modules context.activation.around.number_of_module
      ≡ Some context.typed
  pub lies : LiesWell context.activation
  pub resolves :
      Resolves context.activation.around context.site.tree.now.homes.items context.storage
      (place_at context.activation.layout)
  pub frame : FrameIsPlanned context
  pub bases : BasesStandBefore context.typed
  pub words :
      (object : ℕ) (place : Place) → home_at context.site.tree.now.homes.items object ≡ Static place
      → place_at context.activation.layout place < MEMORY_SIZE
  pub routines :
      (routine : Routine) → has_routine context.called routine ≡ true
      → RoutineIsAt context.activation routine
      (context.activation.layout.place_of (label_of_routine context.site routine).index)
  pub calls : CallsDo context
  pub calls_fit : CallsFit context
  pub script : IsScript context.activation.around.program.script
