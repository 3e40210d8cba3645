-- The existence of what the names and places of a program stand for. The meaning has cases for those that do not
-- exist: modules, objects, bases, constant lists, callees, parameters, and bytes of memory and of frames. How
-- bodies are left, and which bytes change.
use Rattle.std.specs.Prelude.{◌≡◌, ◌≢◌, ℕ, ◌+◌, ◌<◌, ◌≤◌, true, List, [], ◌∷◌, length, All, Option, Some, IsSomeAnd, find, slice_get}
use Rattle.mem80.specs.declared.memory.TheConstants.{MEMORY_SIZE}
use Rattle.mem80.specs.Memory.{byte_at}
use Rattle.trees.specs.declared.declaration.ScalarType.{ScalarType}
use Rattle.typed_trees.specs.declared.parts.Visibility.TheVariants.{External}
use Rattle.typed_trees.specs.Frames.{AreParameters, home_of_parameters}
use Rattle.typed_trees.specs.Sizes.{size_of_object, size_of_scalar}
use Rattle.typed_trees.specs.TypedTrees.{TypedArguments, TypedReference, PartOf, Home, BasedOn, Nowhere, InFrame, TypedObject, TypedProcedure, TypedModule}
use Rattle.typed_trees.specs.WellTyped.{Within, LiesFor, types_of}
use Rattle.layout.specs.Sound.{IsSoundlyTyped}
use Rattle.layout.specs.Joined.{InProgram, IsJoined, is_main}
use Rattle.layout.specs.Lawful.{IsLawful}
use Rattle.layout.specs.Placement.{ModulePlacement, Placement, IsWritable}
use Rattle.layout.specs.StartingMemory.{meant_in}
use Rattle.meaning.specs.Access.{Place, InMemory, InTheFrame, Surroundings, frame_bytes, place_of}
use Rattle.meaning.specs.Meaning.{callee_in, procedure_at}
use Rattle.meaning.specs.Outcomes.{Program, State, Outcome, Gave, Stopped, Flow, Onward, Jumped}
use Rattle.meaning.specs.Run.{number_of_main}

-- a program that is joined of soundly typed modules and lies lawfully
pub record IsWhole (program : Program) : Type 0 where
  pub joined : IsJoined program.modules
  pub sound : All IsSoundlyTyped program.modules
  pub lawful : IsLawful program.modules program.placement

-- an object with this home has an address of its own, or stands for one of another module
abbrev pub HasAddress : Home → Type 0
HasAddress (BasedOn base) = ⊥
HasAddress (InFrame procedure) = ⊥
HasAddress Nowhere = ⊥
HasAddress home = Unit {0}

-- The placement has a number where the address of an object of a program stands. It has one for each object,
-- also for one that is BASED, in a frame or nowhere, where that number says nothing: that an object has a
-- place is what `HasDeclaredBytes` says.
abbrev pub IsPlaced : Placement → InProgram → Type 0
IsPlaced placement at =
    IsSomeAnd (slice_get placement.modules at.number_of_module)
    (λ (placed : ModulePlacement). at.number < length placed.objects)

-- an object of a module stands for one, of this or another module, that has a number in the placement
abbrev pub ObjectIsMeant : Program → (number_of_module : ℕ) → TypedModule → (object : ℕ) → Type 0
ObjectIsMeant program number_of_module typed object =
    IsSomeAnd (meant_in program.modules number_of_module object typed) (IsPlaced program.placement)

-- the placement has an address for a constant list of a module
abbrev pub ListIsPlaced : Program → (number_of_module list : ℕ) → Type 0
ListIsPlaced program number_of_module list =
    IsSomeAnd (slice_get program.placement.modules number_of_module)
    (λ (placed : ModulePlacement). list < length placed.lists)

-- an object with this home that a part of a module reads or changes where it lies: it stands for one that is
-- placed, or it is in the frame of the procedure that the part stands in
abbrev pub LiesThere : Program → (number_of_module : ℕ) → TypedModule → Within → (object : ℕ) → Home → Type 0
LiesThere program number_of_module typed within object (BasedOn base) = ⊥
LiesThere program number_of_module typed within object Nowhere = ⊥
LiesThere program number_of_module typed within object (InFrame procedure) =
    LiesFor within (InFrame procedure)
LiesThere program number_of_module typed within object home =
    ObjectIsMeant program number_of_module typed object

-- an object of a number is there, and lies so
abbrev pub VariableIsMeant : Program → (number_of_module : ℕ) → TypedModule → Within → (object : ℕ) → Type 0
VariableIsMeant program number_of_module typed within object =
    IsSomeAnd (slice_get typed.objects object)
    (λ (found : TypedObject). LiesThere program number_of_module typed within object found.home)

-- an object with this home that a part of a module names: it lies so, or the object that it is BASED on does
abbrev pub IsNamed : Program → (number_of_module : ℕ) → TypedModule → Within → (object : ℕ) → Home → Type 0
IsNamed program number_of_module typed within object (BasedOn base) =
    VariableIsMeant program number_of_module typed within base
IsNamed program number_of_module typed within object home =
    LiesThere program number_of_module typed within object home

-- the object of a reference is there, and it or its base lies so
abbrev pub ReferenceIsMeant :
    Program → (number_of_module : ℕ) → TypedModule → Within → TypedReference → Type 0
ReferenceIsMeant program number typed within (PartOf object _ member offset _) =
    IsSomeAnd (slice_get typed.objects object)
    (λ (found : TypedObject). IsNamed program number typed within object found.home)

-- What is called by a heading: a procedure of the module and the number that are given, which is not EXTERNAL. It
-- has the same result and types of parameters, and an object for each parameter: a scalar of its type, in the
-- frame or among the variables of the module.
pub record IsCallee (modules : List TypedModule) (heading : TypedProcedure) (at : InProgram)
    (typed : TypedModule) (procedure : TypedProcedure) : Type 0 where
  pub its_module : slice_get modules at.number_of_module ≡ Some typed
  pub its_procedure : slice_get typed.procedures at.number ≡ Some procedure
  pub own : procedure.visibility ≢ External
  pub result : procedure.result ≡ heading.result
  pub types : procedure.parameter_types ≡ heading.parameter_types
  pub parameters : AreParameters typed
      (home_of_parameters at.number procedure.is_reentrant procedure.visibility) procedure.parameter_types
      procedure.parameters

-- the procedure that a call in a module stands for is there, as its heading says
abbrev pub CalleeIsMeant : Surroundings → (procedure : ℕ) → (heading : TypedProcedure) → Type 0
CalleeIsMeant around procedure heading =
    IsSomeAnd (callee_in around procedure)
    (λ (at : InProgram). IsSomeAnd (procedure_at around.program.modules at)
    (λ (found : TypedModule × TypedProcedure). IsCallee around.program.modules heading at found.0 found.1))

-- a call in a part of a module, for a result and with arguments, is there: a heading with this result and parameters
-- of the types of the arguments, and the procedure that it stands for
abbrev pub CallIsMeant :
    Surroundings → TypedModule → (procedure : ℕ) → Option ScalarType → TypedArguments → Type 0
CallIsMeant around typed procedure result arguments =
    IsSomeAnd (slice_get typed.procedures procedure)
    (λ (heading : TypedProcedure). (heading.result ≡ result) × (heading.parameter_types ≡ types_of arguments)
    × CalleeIsMeant around procedure heading)

-- `count` values are given
abbrev pub GivesSoMany : ℕ → Outcome (List ℕ) → Type 0
GivesSoMany count (Gave found t) = length found ≡ count
GivesSoMany count (Stopped why t) = Unit {0}

-- a place in memory
abbrev pub IsInMemory : Place → Type 0
IsInMemory (InMemory address) = Unit {0}
IsInMemory (InTheFrame object offset is_inside) = ⊥

-- the given place is in memory
abbrev pub GivesInMemory : Outcome Place → Type 0
GivesInMemory (Gave place t) = IsInMemory place
GivesInMemory (Stopped why t) = Unit {0}

-- A state that has each byte of memory, and in its frame all bytes of each object that a part of a module has
-- there.
pub record HasBytes (typed : TypedModule) (within : Within) (s : State) : Type 0 where
  pub memory : length s.memory ≡ MEMORY_SIZE
  pub frame : (object procedure : ℕ) (found : TypedObject) → slice_get typed.objects object ≡ Some found
      → found.home ≡ InFrame procedure → LiesFor within (InFrame procedure)
      → length (frame_bytes s.frame object) ≡ size_of_object found

-- what gives something, from a state on, leaves one with as many bytes, and with no more of the budget
abbrev pub LeavesBytes : {A : Type 0} → TypedModule → Within → State → Outcome A → Type 0
LeavesBytes typed within s (Gave found t) = HasBytes typed within t × (t.budget ≤ s.budget)
LeavesBytes typed within s (Stopped why t) = Unit {0}

-- a jump took one of the budget
abbrev pub JumpTakesOne : State → Outcome Flow → Type 0
JumpTakesOne s (Gave (Jumped label) t) = t.budget < s.budget
JumpTakesOne s outcome = Unit {0}

-- Bytes from a place on are there in a state, `size` of them: in memory all addresses are, and in a frame, where
-- each subscript is below its dimension, `size` bytes of the object are.
abbrev pub IsThere : (size : ℕ) → Place → State → Type 0
IsThere size (InMemory address) s = (address < MEMORY_SIZE) × (length s.memory ≡ MEMORY_SIZE)
IsThere size (InTheFrame object offset is_inside) s =
    is_inside ≡ true → offset + size ≤ length (frame_bytes s.frame object)

-- each parameter has its bytes there
abbrev pub ParametersAreThere : Surroundings → List ScalarType → (parameters : List ℕ) → State → Type 0
ParametersAreThere around (scalar ∷ scalars) (parameter ∷ parameters) s =
    IsThere (size_of_scalar scalar) (place_of around parameter) s
    × ParametersAreThere around scalars parameters s
ParametersAreThere around [] [] s = Unit {0}
ParametersAreThere around scalars parameters s = ⊥

-- the given place has `size` bytes in the state after it
abbrev pub GivesBytes : (size : ℕ) → Outcome Place → Type 0
GivesBytes size (Gave place t) = IsThere size place t
GivesBytes size (Stopped why t) = Unit {0}

-- after a given value the frame is this one
abbrev pub LeavesFrame : List (List ℕ) → Outcome ℕ → Type 0
LeavesFrame frame (Gave found t) = t.frame ≡ frame
LeavesFrame frame (Stopped why t) = Unit {0}

-- how a procedure is left, and how the main program is: neither by a jump, and the main program only at its
-- end
abbrev pub LeavesProcedure : Flow → Type 0
LeavesProcedure (Jumped label) = ⊥
LeavesProcedure flow = Unit {0}

abbrev pub LeavesMain : Flow → Type 0
LeavesMain Onward = Unit {0}
LeavesMain flow = ⊥

-- an outcome with a flow leaves so
abbrev pub Leaves : (Flow → Type 0) → Outcome Flow → Type 0
Leaves by (Gave flow t) = by flow
Leaves by (Stopped why t) = Unit {0}

-- each byte in which the memories of two states differ is one that may be written
abbrev pub OnlyWritableDiffer : Program → State → State → Type 0
OnlyWritableDiffer program s t =
    (address : ℕ) → byte_at t.memory address ≢ byte_at s.memory address
    → IsWritable program.modules program.placement address

-- a part of a run, from a state on, changes no others
abbrev pub ChangesWritable : {A : Type 0} → Program → State → Outcome A → Type 0
ChangesWritable program s (Gave found t) = OnlyWritableDiffer program s t
ChangesWritable program s (Stopped why t) = OnlyWritableDiffer program s t

-- there is a main program, where its number says
abbrev pub HasMain : List TypedModule → Type 0
HasMain modules =
    IsSomeAnd (find is_main modules)
    (λ (main : TypedModule). slice_get modules (number_of_main modules) ≡ Some main)
