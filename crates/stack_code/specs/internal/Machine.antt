-- What stack code does: a machine with a stack of values, whose steps read and change memory, ports and budget
-- just as the meaning of programs says.
use Rattle.std.specs.Prelude.{◌≡◌, ℕ, zero, suc, ◌+◌, ◌-◌, ◌*◌, ◌%◌, ◌==◌, Bool, true, false, ◌&&◌, min, nat_le, nat_lt, List, [], ◌∷◌, ◌++◌, drop, map, position, slice_get, slice_index, Option, Some, None, if◌then◌else◌}
use Rattle.std.specs.Option.{option_map_or}
use Rattle.mem80.specs.declared.memory.TheConstants.{MEMORY_SIZE}
use Rattle.ports.specs.Events.{write_event}
use Rattle.trees.specs.declared.declaration.ScalarType.{ScalarType}
use Rattle.trees.specs.declared.declaration.ScalarType.TheVariants.{Address}
use Rattle.typed_trees.specs.TypedTrees.{TypedProcedure, TypedModule}
use Rattle.typed_trees.specs.Charge.{charge_of}
use Rattle.layout.specs.Joined.{InProgram}
use Rattle.meaning.specs.Values.{as_type, function_of, is_true, result_of, result_of_one, shifted, values_of}
use Rattle.meaning.specs.Outcomes.{State, Stop, Ended, Outcome, Gave, Stopped, then_do, taking_one}
use Rattle.meaning.specs.Access.{InMemory, InTheFrame, Surroundings, read_scalar, write_scalar}
use Rattle.meaning.specs.Meaning.{charged, computed, frame_of, moved, procedure_at, taken_in}
use Rattle.stack_code.specs.declared.instruction.FramePart.{FramePart}
use Rattle.stack_code.specs.declared.instruction.FrameSubscript.{FrameSubscript}
use Rattle.stack_code.specs.declared.instruction.FrameSubscript.TheVariants.{Absent, Present}
use Rattle.stack_code.specs.declared.instruction.Instruction.{Instruction}
use Rattle.stack_code.specs.declared.instruction.Instruction.TheVariants as instructions

-- a call that is under way: the place, surroundings and frame of its caller, and the number of its arguments
pub record Call : Type 0 where
  pub return_to : ℕ
  pub around : Surroundings
  pub frame : List (List ℕ)
  pub arguments : ℕ

-- The machine: which instruction is the next; the values, the last one first; the calls, the last one first;
-- and its surroundings and state.
pub record Machine : Type 0 where
  pub at : ℕ
  pub values : List ℕ
  pub calls : List Call
  pub around : Surroundings
  pub state : State

-- a step continues, or the run stops
pub data Progress : Type 0 where
  Going : Machine → Progress
  Done : Stop → State → Progress

-- the value on top of a stack, and those below; 0 and the empty list for an empty stack
abbrev pub top : List ℕ → ℕ
top [] = 0
top (value ∷ values) = value

abbrev pub below : List ℕ → List ℕ
below [] = []
below (value ∷ values) = values

abbrev pub pushing : Outcome ℕ → List ℕ → Outcome (List ℕ)
pushing outcome values = then_do outcome (λ number s. Gave (number ∷ values) s)

-- something that leaves the values as they are
abbrev pub leaving : Outcome (Unit {0}) → List ℕ → Outcome (List ℕ)
leaving outcome values = then_do outcome (λ _ s. Gave values s)

-- a part of the frame whose subscripts lie on the stack, the second one on top
abbrev pub without_index : FrameSubscript → List ℕ → List ℕ
without_index Absent values = values
without_index (Present stride count) values = below values

abbrev pub bytes_by : FrameSubscript → (index : ℕ) → ℕ
bytes_by Absent index = 0
bytes_by (Present stride count) index = stride * index

abbrev pub is_inside : FrameSubscript → (index : ℕ) → Bool
is_inside Absent index = true
is_inside (Present stride count) index = nat_lt index count

abbrev pub without_indices : FramePart → List ℕ → List ℕ
without_indices part values = without_index part.first (without_index part.second values)

abbrev pub part_place : FramePart → (values : List ℕ) → Rattle.meaning.specs.Access.Place
part_place part values =
    let second : ℕ = top values in
    let first : ℕ = top (without_index part.second values) in
    InTheFrame part.object (bytes_by part.first first + part.offset + bytes_by part.second second)
    (is_inside part.first first && is_inside part.second second)

-- the argument of a call with this index, if there is one; the last one is on top
abbrev pub argument_of : (arguments index : ℕ) → List ℕ → Option ℕ
argument_of arguments index values =
    if nat_lt index arguments then Some (slice_index values (arguments - 1 - index)) else None

abbrev pub arguments_now : List Call → ℕ
arguments_now [] = 0
arguments_now (call ∷ calls) = call.arguments

-- an argument goes to its parameter
abbrev pub parameter_set :
    Surroundings → ScalarType → Rattle.meaning.specs.Access.Place → Option ℕ → List ℕ → State → Outcome (List ℕ)
parameter_set around scalar place None values s = Gave values s
parameter_set around scalar place (Some number) values s =
    leaving (write_scalar around.program scalar place number s) values

-- the values after an instruction, if the next one follows
abbrev pub values_after : Instruction → Surroundings → (arguments : ℕ) → List ℕ → State → Outcome (List ℕ)
values_after (instructions.Push number) around arguments values s = Gave (number ∷ values) s
values_after instructions.Drop around arguments values s = Gave (below values) s
values_after (instructions.ReadAt scalar address) around arguments values s =
    pushing (read_scalar around.program scalar (InMemory address) s) values
values_after (instructions.WriteAt scalar address) around arguments values s =
    leaving (write_scalar around.program scalar (InMemory address) (as_type scalar (top values)) s) values
values_after (instructions.Read scalar offset) around arguments values s =
    pushing (read_scalar around.program scalar (InMemory ((top values + offset) % MEMORY_SIZE)) s) (below values)
values_after (instructions.Write scalar offset) around arguments values s =
    leaving
    (write_scalar around.program scalar (InMemory ((top values + offset) % MEMORY_SIZE))
    (as_type scalar (top (below values))) s)
    (below values)
values_after (instructions.ReadFrame scalar part) around arguments values s =
    pushing (read_scalar around.program scalar (part_place part values) s) (without_indices part values)
values_after (instructions.WriteFrame scalar part) around arguments values s =
    leaving
    (write_scalar around.program scalar (part_place part values)
    (as_type scalar (top (without_indices part values))) s)
    (without_indices part values)
values_after (instructions.LocateFrame part) around arguments values s =
    Gave (0 ∷ without_indices part values) s
values_after (instructions.Scale stride) around arguments values s =
    Gave ((stride * top values) % MEMORY_SIZE ∷ below values) s
values_after (instructions.Advance number) around arguments values s =
    Gave ((top values + number) % MEMORY_SIZE ∷ below values) s
values_after instructions.Sum around arguments values s =
    Gave ((top (below values) + top values) % MEMORY_SIZE ∷ below (below values)) s
values_after (instructions.Convert scalar) around arguments values s =
    Gave (as_type scalar (top values) ∷ below values) s
values_after (instructions.Unary scalar operator) around arguments values s =
    Gave (result_of_one scalar operator (top values) ∷ below values) s
values_after (instructions.Binary operands operator) around arguments values s =
    pushing (computed (result_of operands operator (top (below values)) (top values)) s) (below (below values))
values_after (instructions.BinaryWith operands operator right) around arguments values s =
    pushing (computed (result_of operands operator (top values) right) s) (below values)
values_after (instructions.Function function) around arguments values s =
    Gave (function_of function (top values) ∷ below values) s
values_after (instructions.Shift scalar function) around arguments values s =
    Gave (shifted scalar function (top (below values)) (top values) ∷ below (below values)) s
values_after (instructions.Step scalar) around arguments values s =
    let sum : ℕ = top values + top (below values) in
    Gave (as_type scalar sum ∷ (if nat_lt sum (values_of scalar) then 1 else 0) ∷ below (below values)) s
values_after (instructions.Input port) around arguments values s = pushing (taken_in around port s) values
values_after (instructions.Output port) around arguments values s =
    Gave values (record s { events = s.events ++ write_event port (top values % 256) ∷ [] })
values_after instructions.Move around arguments values s =
    leaving
    (moved around.program (top (below (below values))) (top (below values)) (top values) s)
    (below (below (below values)))
values_after (instructions.Parameter index scalar address) around arguments values s =
    parameter_set around scalar (InMemory address) (argument_of arguments index values) values s
values_after (instructions.FrameParameter index scalar object) around arguments values s =
    parameter_set around scalar (InTheFrame object 0 true) (argument_of arguments index values) values s
values_after instructions.Discard around arguments values s = Gave (drop arguments values) s
values_after instruction around arguments values s = Gave values s

-- continues, or stops
abbrev pub progress_of : {A : Type 0} → Outcome A → (A → State → Machine) → Progress
progress_of (Gave found s) go = Going (go found s)
progress_of (Stopped why s) go = Done why s

-- the instruction after the first one that is of a kind
abbrev pub after_first : (Instruction → Bool) → List Instruction → ℕ
after_first is_kind code = option_map_or (λ at. at + 1) (position is_kind code) 0

abbrev pub is_mark : (number_of_module label : ℕ) → Instruction → Bool
is_mark number_of_module label (instructions.Mark other_module other) =
    number_of_module == other_module && label == other
is_mark number_of_module label instruction = false

abbrev pub is_begin : InProgram → Instruction → Bool
is_begin at (instructions.Begin number_of_module number) =
    at.number_of_module == number_of_module && at.number == number
is_begin at instruction = false

abbrev pub jumping : Machine → (at : ℕ) → Machine
jumping m at = record m { at = at }

-- takes a condition, and continues at one of two places
abbrev pub choosing : Machine → Bool → (here there : ℕ) → Machine
choosing m holds here there = record m { at = (if holds then here else there); values = below m.values }

-- takes one of the budget, or stops if the budget is 0
abbrev pub spending : State → (State → Progress) → Progress
spending s go = if s.budget == 0 then Done Stop.More s else go (record s { budget = s.budget - 1 })

-- a further turn of a loop takes one of the budget
abbrev pub looping : Machine → (count : ℕ) → Bool → Progress
looping m count holds =
    if holds
    then spending m.state (λ s. Going (record m { at = m.at - count; values = below m.values; state = s }))
    else Going (record m { at = m.at + 1; values = below m.values })

-- the machine where a procedure begins
abbrev pub entering :
    List Instruction → Machine → InProgram → (arguments : ℕ) → TypedModule × TypedProcedure → State → Progress
entering code m at arguments found s =
    progress_of
    (charged (charge_of found.1) (record m.around { number_of_module = at.number_of_module }) s
    (λ within t. Gave within t))
    (λ within t. record m {
      at = after_first (is_begin at) code;
      calls =
          record { return_to = m.at + 1; around = m.around; frame = t.frame; arguments = arguments } ∷ m.calls;
      around = within;
      state = record t { frame = frame_of at.number found.0 };
    })

abbrev pub calling : List Instruction → Machine → InProgram → (arguments : ℕ) → State → Progress
calling code m at arguments s =
    option_map_or (λ (found : TypedModule × TypedProcedure). entering code m at arguments found s)
    (procedure_at m.around.program.modules at) (Done Ended s)

-- the caller continues, with its surroundings and its frame
abbrev pub returning : Machine → List Call → Progress
returning m [] = Done Ended m.state
returning m (call ∷ calls) =
    Going (record m {
      at = call.return_to;
      calls = calls;
      around = call.around;
      state = record m.state { frame = call.frame };
    })

-- the machine after an instruction
abbrev pub carried_out : List Instruction → Instruction → Machine → Progress
carried_out code (instructions.Jump count) m = Going (jumping m (m.at + 1 + count))
carried_out code (instructions.JumpUnless count) m =
    Going (choosing m (is_true (top m.values)) (m.at + 1) (m.at + 1 + count))
carried_out code (instructions.LoopBack count) m = looping m count (is_true (top m.values))
carried_out code (instructions.Case count) m =
    Going (record m { at = m.at + 1 + min (top m.values) count; values = below m.values })
carried_out code (instructions.Goto number_of_module label) m =
    spending m.state (λ s. Going (record m { at = after_first (is_mark number_of_module label) code; state = s }))
carried_out code (instructions.Call number_of_module procedure arguments) m =
    spending m.state
    (λ s. calling code m (record { number_of_module = number_of_module; number = procedure }) arguments s)
carried_out code instructions.Return m = returning m m.calls
carried_out code instructions.Halt m = Done Ended m.state
carried_out code instruction m =
    progress_of (values_after instruction m.around (arguments_now m.calls) m.values m.state)
    (λ values s. record m { at = m.at + 1; values = values; state = s })

-- the end of the code ends the program
abbrev pub step : List Instruction → Machine → Progress
step code m = option_map_or (λ instruction. carried_out code instruction m) (slice_get code m.at) (Done Ended m.state)

abbrev pub and_then_steps : Progress → (Machine → Progress) → Progress
and_then_steps (Going m) go = go m
and_then_steps (Done why s) go = Done why s

-- the progress after `count` steps
abbrev pub steps : List Instruction → (count : ℕ) → Machine → Progress
steps code zero m = Going m
steps code (suc count) m = and_then_steps (step code m) (steps code count)
