-- The cases that the meaning has for trees that no source has, and that no run of a program takes: each field rules
-- some out, and names the definitions that have them.
use Rattle.std.specs.Prelude.{◌≡◌, ℕ, ◌<◌, List, length, zip, All, Some, slice_get}
use Rattle.mem80.specs.declared.memory.TheConstants.{MEMORY_SIZE}
use Rattle.trees.specs.declared.declaration.ScalarType.{ScalarType}
use Rattle.trees.specs.declared.declaration.ScalarType.TheVariants.{Address}
use Rattle.typed_trees.specs.Jumps.{JumpsAreSound, ListStands}
use Rattle.typed_trees.specs.ObjectParts.{IsScalar}
use Rattle.typed_trees.specs.Sizes.{size_of_scalar}
use Rattle.typed_trees.specs.TypedTrees.{TypedExpression, TypedReference, TypedTarget, TypedArguments, TypedIteration, TypedStatement, LabelStatement, TypedStatements, MoreStatements, TypedList, TypedObject, TypedProcedure, TypedModule}
use Rattle.typed_trees.specs.WellTyped.{IsWellTyped, Within, WithinProcedure, WithinMain, Counts, LiesFor, RefersToLocation, RefersToScalar, types_of}
use Rattle.layout.specs.Joined.{InProgram}
use Rattle.layout.specs.Lawful.{HasAddresses}
use Rattle.layout.specs.StartingMemory.{Contents, Covers, IsAmong, StartsAs, contents_of, starting_memory}
use Rattle.meaning.specs.Access.{Surroundings, place_of}
use Rattle.meaning.specs.Meaning.{Later, IsMeantBelow, done, done_list, frame_of, later_by, located, parameters_set, rest_from, stored, value, values}
use Rattle.meaning.specs.Outcomes.{Program, State}
use Rattle.meaning_laws.specs.internal.Meant.{GivesBytes, GivesInMemory, GivesSoMany, HasBytes, HasMain, IsCallee, IsThere, JumpTakesOne, Leaves, LeavesBytes, LeavesMain, LeavesProcedure, ParametersAreThere}
use Rattle.meaning_laws.specs.internal.Named.{NamesAreMeant}
use Rattle.meaning_laws.specs.internal.Places.{LocationsLie, ObjectsLie}

-- statements that begin with a label
abbrev pub BeginsWith : (label : ℕ) → TypedStatements → Type 0
BeginsWith label (MoreStatements (LabelStatement other) others) = other ≡ label
BeginsWith label _ = ⊥

-- Each part of a body leaves as many bytes in memory, and in its frame for each object, as it began with: the
-- bytes themselves may change. It leaves no more of the budget, and a jump took one of that.
pub record KeepsBytes (around : Surroundings) (typed : TypedModule) (within : Within) (number : ℕ) (s : State)
    : Type 0 where
  pub values : (arguments : TypedArguments)
      → LeavesBytes typed within s (values (later_by number) around arguments s)
  pub value : (expression : TypedExpression)
      → LeavesBytes typed within s (value (later_by number) around expression s)
  pub place : (reference : TypedReference)
      → LeavesBytes typed within s (located (later_by number) around reference s)
  pub store : (target : TypedTarget) (found : ℕ)
      → LeavesBytes typed within s (stored (later_by number) around target found s)
  pub statement : (statement : TypedStatement)
      → LeavesBytes typed within s (done (later_by number) around statement s)
  pub jump : (statement : TypedStatement) → JumpTakesOne s (done (later_by number) around statement s)
  pub list : (list : TypedList) → LeavesBytes typed within s (done_list (later_by number) around list s)
  pub parameters : (scalars : List ScalarType) (parameters arguments : List ℕ)
      → LeavesBytes typed within s (parameters_set around scalars parameters arguments s)

-- If there are as many bytes, they include those that the body reads and changes: of scalars, of the bases of
-- objects, and of the variables of iterative DOs. (Those that MOVE reads and changes are bytes of memory.)
pub record FindsBytes (around : Surroundings) (typed : TypedModule) (within : Within) (number : ℕ) (s : State)
    : Type 0 where
  pub scalar : (scalar : ScalarType) (reference : TypedReference) → RefersToScalar typed within scalar reference
      → GivesBytes (size_of_scalar scalar) (located (later_by number) around reference s)
  pub base : (object : ℕ) (found : TypedObject) → slice_get typed.objects object ≡ Some found
      → IsScalar Address found → LiesFor within found.home
      → IsThere (size_of_scalar Address) (place_of around object) s
  pub counter : (head : TypedIteration) → Counts typed within head
      → IsThere (size_of_scalar head.scalar) (place_of around head.variable) s

-- All that a program has before it runs is there when a run begins. Each module has a placement, with an address for
-- each of its objects and constant lists. Each byte of INITIAL, DATA and these lists is in memory where it lies.
pub record BeginsWithAll (program : Program) : Type 0 where
  pub for_each_module : length program.placement.modules ≡ length program.modules
  pub complete : All HasAddresses (zip program.modules program.placement.modules)
  pub in_memory : (contents : Contents) → IsAmong contents (contents_of program.modules program.placement)
      → (address : ℕ) → Covers contents address → address < MEMORY_SIZE
  pub starts : (given : List ℕ) → length given ≡ MEMORY_SIZE
      → StartsAs program.modules program.placement given
      (starting_memory program.modules program.placement given)

-- in a module, which is carried out in these surroundings
pub record TakesNoDefaultIn (around : Surroundings) (typed : TypedModule) : Type 0 where
  -- The premises of other fields on references and on the variables of iterative DOs hold of those in its bodies. `returned`:
  -- a RETURN without a value in a procedure that has a result, or with one in another.
  pub types : IsWellTyped typed
  -- and their premises on lists hold of those in its bodies
  pub jumps : JumpsAreSound typed
  -- `home_in`, `home_of`, `place_in`: no such object, or one that is nowhere; `address_of`,
  -- `address_of_object`, `address_in`, `address_of_list`: no number where its address stands; `callee_in`,
  -- `called_for`, `called`: no such procedure
  pub named : NamesAreMeant around typed
  -- `address_of_object`, `address_in`: an object that has no place, so that its number says nothing. What is
  -- not BASED, in a frame or nowhere has one, and what an EXTERNAL object stands for is there and has one.
  pub objects : ObjectsLie around.program around.number_of_module typed
  -- `address_of_object` of what INITIAL and DATA locate, with which `source_run` begins: no such object, or one
  -- that has no place
  pub locations : LocationsLie around.program around.number_of_module typed
  -- `address_in_memory`: the address of a place in a frame
  pub addresses : (later : Later) (within : Within) (reference : TypedReference) (s : State)
      → RefersToLocation typed within reference → GivesInMemory (located later around reference s)
  -- `parameters_set`: more or fewer values than arguments, for which there are as many parameters by `named`
  pub counted : (later : Later) (arguments : TypedArguments) (s : State)
      → GivesSoMany (length (types_of arguments)) (values later around arguments s)
  -- `value_of_flow`: a body of a procedure that is left by a jump
  pub left : (number count : ℕ) (procedure : TypedProcedure) (s : State)
      → slice_get typed.procedures number ≡ Some procedure
      → Leaves LeavesProcedure (done_list (later_by count) around procedure.body s)
  -- `run_of`: a main program that is left by a jump or a RETURN
  pub main_left : (count : ℕ) (s : State) → Leaves LeavesMain (done_list (later_by count) around typed.main.body s)
  -- `frame_bytes`, `read_byte`, `write_byte`: no such byte of memory or of the frame. A main program begins with all
  -- bytes, and so does a called procedure, those of its parameters among them; there are as many after
  -- each part of a run; and each byte that is read or changed is among them. `main_done` begins with a budget below
  -- the number of `later_by`, and it stays below it.
  pub main_begins : (given : List ℕ) (s : State) → length given ≡ MEMORY_SIZE
      → s.memory ≡ starting_memory around.program.modules around.program.placement given
      → HasBytes typed WithinMain s
  pub callee_begins : (heading : TypedProcedure) (at : InProgram) (procedure : TypedProcedure) (s : State)
      → IsCallee around.program.modules heading at typed procedure
      → around.number_of_module ≡ at.number_of_module
      → length s.memory ≡ MEMORY_SIZE
      → HasBytes typed (WithinProcedure at.number procedure.result) (record s { frame = frame_of at.number typed })
      × ParametersAreThere around procedure.parameter_types procedure.parameters
      (record s { frame = frame_of at.number typed })
  pub kept : (within : Within) (number : ℕ) (s : State) → s.budget < number → HasBytes typed within s
      → KeepsBytes around typed within number s
  pub there : (within : Within) (number : ℕ) (s : State) → s.budget < number → HasBytes typed within s
      → FindsBytes around typed within number s

-- In a program. Law `takes_no_default` says it of one that is joined of soundly typed modules and lies lawfully, and in
-- which PUBLIC objects and those that INITIAL and DATA locate have places. Law `built_takes_no_default` of `built_laws`
-- says it of each program that is built of texts.
--
-- That values are of their types is not said here. Of one that is above its type `result_of` and `result_of_one` take a
-- difference that stops at 0. Where numbers are words, and the bytes of memory and of the queues of the script are below
-- 256 (`IsScript`, which the headline asks), each value of well typed trees is of its type: laws `tree_fits` and
-- `later_fits` of `task_laws`.
pub record TakesNoDefault (program : Program) : Type 0 where
  -- `number_of_main`, `source_run`: no main program
  pub main : HasMain program.modules
  -- `contents_of`, `contents_of_module`, `pieces_of`, `pieces_of_module`: contents of a module, an object or a list
  -- without an address, which `zip` leaves out; `written`: bytes past the end of memory
  pub begins : BeginsWithAll program
  -- `nothing_later`: a call, a turn or a jump that nothing is known of
  pub later : (number : ℕ) → IsMeantBelow number (later_by number)
  -- `dropped`: a label that is not where the places of its list say
  pub labels : (list : TypedList) (label : ℕ) (rest : TypedStatements) → ListStands list
      → rest_from label list ≡ Some rest → BeginsWith label rest
  pub modules : (number room : ℕ) (typed : TypedModule) → slice_get program.modules number ≡ Some typed
      → TakesNoDefaultIn (record { program = program; number_of_module = number; room = room }) typed
