-- The meaning of expressions and statements (PL/M-80 Programming Manual). What calls, further turns of loops
-- and jumps mean is given from outside. `later_by` gives it for a budget below a number, by what calls, turns
-- and jumps are defined as here: `IsMeantBelow` says so.
--
-- All trees have a meaning here, also those that no source has. Where an object, a list, a callee or a
-- parameter is not there, or a body is left by a jump, a number is 0 and nothing is done. A program that is
-- built of texts takes no such case: so says `TakesNoDefault` of `meaning_laws`, case by case.
use Rattle.std.specs.Prelude.{◌≡◌, ℕ, zero, suc, ◌+◌, ◌<◌, ◌-◌, ◌*◌, ◌%◌, ◌==◌, Bool, true, false, ◌&&◌, nat_le, nat_lt, List, [], ◌∷◌, ◌++◌, replicate, map, slice_get, slice_index, Option, Some, None, option_map, if◌then◌else◌}
use Rattle.std.specs.Option.{option_map_or, option_and_then}
use Rattle.mem80.specs.declared.memory.TheConstants.{MEMORY_SIZE}
use Rattle.ports.specs.Events.{read_event, write_event}
use Rattle.ports.specs.Input.{input_value}
use Rattle.trees.specs.declared.declaration.ScalarType.{ScalarType}
use Rattle.trees.specs.declared.declaration.ScalarType.TheVariants.{Address}
use Rattle.typed_trees.specs.Charge.{charge_of}
use Rattle.typed_trees.specs.Sizes.{size_of_object}
use Rattle.typed_trees.specs.TypedTrees.{TypedExpression, NumberNode, ValueNode, LocationNode, ListNode, ConversionNode, AssignmentNode, UnaryNode, BinaryNode, CallNode, FunctionNode, ShiftNode, InputNode, TypedReference, PartOf, Subscript, NoSubscript, At, TypedTarget, StoredIn, SentTo, TypedArguments, NoArguments, MoreArguments, TypedIteration, TypedHead, WhileHead, CountHead, TypedStatement, LabelStatement, NullStatement, AssignmentStatement, CallStatement, MoveStatement, ReturnStatement, HaltStatement, GotoStatement, IfStatement, DoStatement, LoopStatement, CaseStatement, TypedElse, NoElse, ElseStatement, TypedStatements, NoStatements, MoreStatements, TypedList, ListOf, Home, BasedOn, InFrame, TypedObject, TypedProcedure, TypedModule}
use Rattle.layout.specs.Joined.{InProgram, procedure_meant}
use Rattle.layout.specs.Placement.{ModulePlacement}
use Rattle.meaning.specs.declared.reason.Reason.TheVariants.{Divide, Stack}
use Rattle.meaning.specs.Values.{as_type, function_of, is_true, result_of, result_of_one, shifted, values_of}
use Rattle.meaning.specs.Outcomes.{Program, State, Ended, More, Outside, Outcome, Gave, Stopped, then_do, taking_one, Flow, Onward, Returned, Jumped}
use Rattle.meaning.specs.Access.{Place, InMemory, InTheFrame, Surroundings, home_of, place_in, place_of, read_byte, read_scalar, write_byte, write_scalar}

-- a further turn of a loop, from its test on
pub data Turn : Type 0 where
  LoopTurn : (head : TypedHead) → (body : TypedList) → Turn

-- what is given from outside: the call of a procedure with the values of its arguments, which gives its
-- value; a further turn of a loop; and the rest of a list after a jump to one of its
-- labels
pub record Later : Type 0 where
  pub call : InProgram → List ℕ → Surroundings → State → Outcome ℕ
  pub again : Turn → Surroundings → State → Outcome Flow
  pub onto : TypedList → (rest : TypedStatements) → Surroundings → State → Outcome Flow

-- the bytes that a subscript adds to a place, and whether it is below its dimension
pub record Displacement : Type 0 where
  pub bytes : ℕ
  pub is_inside : Bool

abbrev pub no_displacement : Displacement
no_displacement = record { bytes = 0; is_inside = true }

abbrev pub displaced : (stride count index : ℕ) → Displacement
displaced stride count index = record { bytes = stride * index; is_inside = nat_lt index count }

-- the place of a part of an object; for one that is BASED its base is read
abbrev pub based_place : Home → Surroundings → (object bytes : ℕ) → (is_inside : Bool) → State → Outcome Place
based_place (BasedOn base) around object bytes is_inside s =
    then_do (read_scalar around.program Address (place_of around base) s)
    (λ start t. Gave (InMemory ((start + bytes) % MEMORY_SIZE)) t)
based_place home around object bytes is_inside s = Gave (place_in home around object bytes is_inside) s

-- the address of a place; one in a frame has none that a program could ask for
abbrev pub address_in_memory : Place → ℕ
address_in_memory (InMemory address) = address
address_in_memory (InTheFrame object offset is_inside) = 0

-- the address of a constant list
abbrev pub address_of_list : Surroundings → (list : ℕ) → ℕ
address_of_list around list =
    option_map_or (λ (placed : ModulePlacement). slice_index placed.lists list % MEMORY_SIZE)
    (slice_get around.program.placement.modules around.number_of_module) 0

-- a division by 0 goes outside
abbrev pub computed : Option ℕ → State → Outcome ℕ
computed (Some found) s = Gave found s
computed None s = Stopped (Outside Divide) s

-- a read of a port is an event
abbrev pub taken_in : Surroundings → (port : ℕ) → State → Outcome ℕ
taken_in around port s =
    let number : ℕ = input_value around.program.script s.events port in
    Gave number (record s { events = s.events ++ read_event port number ∷ [] })

-- the procedure that a call in a module stands for
abbrev pub callee_in : Surroundings → (procedure : ℕ) → Option InProgram
callee_in around procedure =
    option_and_then
    (λ (typed : TypedModule).
    option_and_then
    (λ (found : TypedProcedure).
    procedure_meant around.program.modules
    (record { number_of_module = around.number_of_module; number = procedure }) found found.visibility)
    (slice_get typed.procedures procedure))
    (slice_get around.program.modules around.number_of_module)

abbrev pub called_for : Later → Option InProgram → List ℕ → Surroundings → State → Outcome ℕ
called_for later (Some callee) arguments around s = later.call callee arguments around s
called_for later None arguments around s = Gave 0 s

abbrev mutual
  -- the value of an expression: operands and arguments from left to right
  pub value : Later → Surroundings → TypedExpression → State → Outcome ℕ
  value later around (NumberNode scalar number origin) s = Gave number s
  value later around (ValueNode scalar reference) s =
      then_do (located later around reference s) (λ place t. read_scalar around.program scalar place t)
  value later around (LocationNode reference) s =
      then_do (located later around reference s) (λ place t. Gave (address_in_memory place) t)
  value later around (ListNode list) s = Gave (address_of_list around list) s
  value later around (ConversionNode scalar inner) s =
      then_do (value later around inner s) (λ number t. Gave (as_type scalar number) t)
  value later around (AssignmentNode target inner) s =
      then_do (value later around inner s)
      (λ number t. then_do (stored later around target number t) (λ _ u. Gave number u))
  value later around (UnaryNode scalar operator operand) s =
      then_do (value later around operand s) (λ number t. Gave (result_of_one scalar operator number) t)
  value later around (BinaryNode operands operator left right) s =
      then_do (value later around left s)
      (λ first t.
      then_do (value later around right t) (λ second u. computed (result_of operands operator first second) u))
  value later around (CallNode procedure scalar arguments) s =
      then_do (values later around arguments s)
      (λ given t. called_for later (callee_in around procedure) given around t)
  value later around (FunctionNode function operand) s =
      then_do (value later around operand s) (λ number t. Gave (function_of function number) t)
  value later around (ShiftNode scalar function shift_of count) s =
      then_do (value later around shift_of s)
      (λ number t. then_do (value later around count t) (λ by u. Gave (shifted scalar function number by) u))
  value later around (InputNode port) s = taken_in around port s

  -- the values of arguments
  pub values : Later → Surroundings → TypedArguments → State → Outcome (List ℕ)
  values later around NoArguments s = Gave [] s
  values later around (MoreArguments first others) s =
      then_do (value later around first s)
      (λ number t. then_do (values later around others t) (λ numbers u. Gave (number ∷ numbers) u))

  -- where something lies: its subscripts from left to right, and then its base
  pub located : Later → Surroundings → TypedReference → State → Outcome Place
  located later around (PartOf object subscript member offset member_subscript) s =
      then_do (displacement later around subscript s)
      (λ one t.
      then_do (displacement later around member_subscript t)
      (λ two u.
      based_place (home_of around object) around object (one.bytes + offset + two.bytes)
      (one.is_inside && two.is_inside) u))

  pub displacement : Later → Surroundings → Subscript → State → Outcome Displacement
  displacement later around NoSubscript s = Gave no_displacement s
  displacement later around (At stride count index) s =
      then_do (value later around index s) (λ number t. Gave (displaced stride count number) t)

  -- a value goes to a target: it is located, and then changed; a port takes the low byte, which is an event
  pub stored : Later → Surroundings → TypedTarget → ℕ → State → Outcome (Unit {0})
  stored later around (StoredIn from to reference) number s =
      then_do (located later around reference s)
      (λ place t. write_scalar around.program to place (as_type to number) t)
  stored later around (SentTo from port) number s =
      Gave tt (record s { events = s.events ++ write_event port (number % 256) ∷ [] })

-- a value goes to targets, one by one
abbrev pub stored_in_each : Later → Surroundings → List TypedTarget → ℕ → State → Outcome (Unit {0})
stored_in_each later around [] number s = Gave tt s
stored_in_each later around (first ∷ others) number s =
    then_do (stored later around first number s) (λ _ t. stored_in_each later around others number t)

-- MOVE: byte by byte, with addresses that go on from 65535 to 0
abbrev pub moved : Program → (count source destination : ℕ) → State → Outcome (Unit {0})
moved program zero source destination s = Gave tt s
moved program (suc count) source destination s =
    then_do (read_byte program (InMemory (source % MEMORY_SIZE)) s)
    (λ byte t.
    then_do (write_byte program (InMemory (destination % MEMORY_SIZE)) byte t)
    (λ _ u. moved program count (source + 1) (destination + 1) u))

-- the value of a RETURN, 0 if it has no expression
abbrev pub returned : Later → Surroundings → Option TypedExpression → State → Outcome Flow
returned later around None s = Gave (Returned 0) s
returned later around (Some expression) s =
    then_do (value later around expression s) (λ number t. Gave (Returned number) t)

-- the run after a statement that did not return or jump
abbrev pub going_on : Flow → (State → Outcome Flow) → State → Outcome Flow
going_on Onward go s = go s
going_on flow go s = Gave flow s

-- after a turn of a loop: the next turn, if the turn did not return or jump
abbrev pub after_turn : Later → Surroundings → Turn → Flow → State → Outcome Flow
after_turn later around turn flow s = going_on flow (later.again turn around) s

-- the rest of a list from a label on, if it holds the label
abbrev pub dropped : ℕ → TypedStatements → TypedStatements
dropped zero statements = statements
dropped (suc count) NoStatements = NoStatements
dropped (suc count) (MoreStatements first others) = dropped count others

abbrev pub rest_from : (label : ℕ) → TypedList → Option TypedStatements
rest_from label (ListOf first_label places statements) =
    if nat_le first_label label
    then option_map (λ place. dropped place statements) (slice_get places (label - first_label))
    else None

-- a jump out of a part of a list continues in the list, if that holds the label
abbrev pub landed : Later → Surroundings → TypedList → (label : ℕ) → Option TypedStatements → State → Outcome Flow
landed later around list label (Some rest) s = later.onto list rest around s
landed later around list label None s = Gave (Jumped label) s

abbrev pub caught_in : Later → Surroundings → TypedList → Flow → State → Outcome Flow
caught_in later around list (Jumped label) s = landed later around list label (rest_from label list) s
caught_in later around list flow s = Gave flow s

-- the variable of an iterative DO
abbrev pub read_variable : Surroundings → TypedIteration → State → Outcome ℕ
read_variable around head s = read_scalar around.program head.scalar (place_of around head.variable) s

abbrev pub write_variable : Surroundings → TypedIteration → ℕ → State → Outcome (Unit {0})
write_variable around head number s =
    write_scalar around.program head.scalar (place_of around head.variable) number s

abbrev pub step_value : Later → Surroundings → Option TypedExpression → State → Outcome ℕ
step_value later around None s = Gave 1 s
step_value later around (Some step) s = value later around step s

-- After the body of an iterative DO the step is evaluated, and the variable read again and changed by it. The
-- loop ends if the sum exceeds the type of the variable.
abbrev pub next_turn : Later → Surroundings → TypedIteration → TypedList → (sum : ℕ) → State → Outcome Flow
next_turn later around head body sum s =
    if nat_lt sum (values_of head.scalar)
    then later.again (LoopTurn (CountHead head) body) around s
    else Gave Onward s

abbrev pub stepped : Later → Surroundings → TypedIteration → TypedList → Flow → State → Outcome Flow
stepped later around head body flow s =
    going_on flow (λ r.
    then_do (step_value later around head.step r)
    (λ step t.
    then_do (read_variable around head t)
    (λ number u.
    then_do (write_variable around head (as_type head.scalar (number + step)) u)
    (λ _ v. next_turn later around head body (number + step) v)))) s

-- A turn of an iterative DO: the last value is evaluated, and then the variable is read, which must not be
-- above it. What the body does is given.
abbrev pub iterated :
    Later → Surroundings → TypedIteration → TypedList → (body_done : State → Outcome Flow) → State → Outcome Flow
iterated later around head body body_done s =
    then_do (value later around head.last s)
    (λ last t.
    then_do (read_variable around head t)
    (λ number u.
    if nat_lt last number then Gave Onward u
    else taking_one u (λ v. then_do (body_done v) (stepped later around head body))))

-- A turn of a loop, from its test on. The test of a DO WHILE is its condition, and a DO WHILE has no step. What the
-- body does is given.
abbrev pub turned :
    Later → Surroundings → TypedHead → TypedList → (body_done : State → Outcome Flow) → State → Outcome Flow
turned later around (WhileHead condition) body body_done s =
    then_do (value later around condition s)
    (λ number t.
    if is_true number
    then taking_one t
    (λ u. then_do (body_done u) (after_turn later around (LoopTurn (WhileHead condition) body)))
    else Gave Onward t)
turned later around (CountHead head) body body_done s = iterated later around head body body_done s

-- Before the turns of a loop, which are given, the variable of an iterative DO gets the first value.
abbrev pub begun : Later → Surroundings → TypedHead → (turns : State → Outcome Flow) → State → Outcome Flow
begun later around (WhileHead condition) turns s = turns s
begun later around (CountHead head) turns s =
    then_do (value later around head.first s)
    (λ first t. then_do (write_variable around head (as_type head.scalar first) t) (λ _ u. turns u))

abbrev mutual
  -- the meaning of a statement
  pub done : Later → Surroundings → TypedStatement → State → Outcome Flow
  done later around (LabelStatement label) s = Gave Onward s
  done later around NullStatement s = Gave Onward s
  done later around (AssignmentStatement targets expression) s =
      then_do (value later around expression s)
      (λ number t. then_do (stored_in_each later around targets number t) (λ _ u. Gave Onward u))
  done later around (CallStatement procedure arguments) s =
      then_do (values later around arguments s)
      (λ given t.
      then_do (called_for later (callee_in around procedure) given around t) (λ _ u. Gave Onward u))
  done later around (MoveStatement count source destination) s =
      then_do (value later around count s)
      (λ bytes t.
      then_do (value later around source t)
      (λ from u.
      then_do (value later around destination u)
      (λ to v. then_do (moved around.program bytes from to v) (λ _ w. Gave Onward w))))
  done later around (ReturnStatement expression) s = returned later around expression s
  done later around HaltStatement s = Stopped Ended s
  done later around (GotoStatement label) s = taking_one s (λ t. Gave (Jumped label) t)
  done later around (IfStatement condition body otherwise) s =
      then_do (value later around condition s)
      (λ number t. if is_true number then done later around body t else done_else later around otherwise t)
  done later around (DoStatement body) s = done_list later around body s
  done later around (LoopStatement head body) s =
      begun later around head (turned later around head body (λ t. done_list later around body t)) s
  done later around (CaseStatement choice statements) s =
      then_do (value later around choice s) (λ number t. done_case later around statements number t)

  pub done_else : Later → Surroundings → TypedElse → State → Outcome Flow
  done_else later around NoElse s = Gave Onward s
  done_else later around (ElseStatement statement) s = done later around statement s

  -- the statement of a number, counted from 0; nothing is done if there are not enough statements
  pub done_case : Later → Surroundings → TypedStatements → ℕ → State → Outcome Flow
  done_case later around NoStatements number s = Gave Onward s
  done_case later around (MoreStatements first others) zero s = done later around first s
  done_case later around (MoreStatements first others) (suc number) s = done_case later around others number s

  -- statements one after another, until one returns or jumps
  pub done_all : Later → Surroundings → TypedStatements → State → Outcome Flow
  done_all later around NoStatements s = Gave Onward s
  done_all later around (MoreStatements first others) s =
      then_do (done later around first s) (λ flow t. going_on flow (λ u. done_all later around others u) t)

  -- a list with its labels
  pub done_list : Later → Surroundings → TypedList → State → Outcome Flow
  done_list later around (ListOf first_label places statements) s =
      then_do (done_all later around statements s)
      (caught_in later around (ListOf first_label places statements))

-- a turn of a loop, from its test on
abbrev pub turn_of : Later → Turn → Surroundings → State → Outcome Flow
turn_of later (LoopTurn head body) around s = turned later around head body (done_list later around body) s

-- the rest of a list, where a jump out of it may go on in the list
abbrev pub rest_of : Later → TypedList → TypedStatements → Surroundings → State → Outcome Flow
rest_of later list rest around s = then_do (done_all later around rest s) (caught_in later around list)

-- the frame of a call: zeros for each object that lives in it
abbrev pub is_frame_of : (procedure : ℕ) → Home → Bool
is_frame_of procedure (InFrame other) = procedure == other
is_frame_of procedure home = false

abbrev pub frame_of : (procedure : ℕ) → TypedModule → List (List ℕ)
frame_of procedure typed =
    map
    (λ (object : TypedObject). if is_frame_of procedure object.home then replicate (size_of_object object) 0 else [])
    typed.objects

-- arguments become the values of parameters
abbrev pub parameters_set :
    Surroundings → List ScalarType → (parameters arguments : List ℕ) → State → Outcome (Unit {0})
parameters_set around (scalar ∷ scalars) (parameter ∷ parameters) (argument ∷ arguments) s =
    then_do (write_scalar around.program scalar (place_of around parameter) argument s)
    (λ _ t. parameters_set around scalars parameters arguments t)
parameters_set around scalars parameters arguments s = Gave tt s

-- the value of a call whose body was left so; at its END a procedure gives 0
abbrev pub value_of_flow : Flow → ℕ
value_of_flow (Returned number) = number
value_of_flow flow = 0

-- the body of a procedure, after its charge was taken from the room; the frame of the caller comes back
abbrev pub entered : Later → TypedModule → (procedure : ℕ) → TypedProcedure → List ℕ → Surroundings → State → Outcome ℕ
entered later typed number procedure arguments around s =
    then_do
    (parameters_set around procedure.parameter_types procedure.parameters arguments
    (record s { frame = frame_of number typed }))
    (λ _ t.
    then_do (done_list later around procedure.body t)
    (λ flow u. Gave (value_of_flow flow) (record u { frame = s.frame })))

-- takes the charge from the room, or goes outside if the room is less
abbrev pub charged : {A : Type 0} → (charge : ℕ) → Surroundings → State → (Surroundings → State → Outcome A) → Outcome A
charged charge around s go =
    if nat_lt around.room charge then Stopped (Outside Stack) s
    else go (record around { room = around.room - charge }) s

abbrev pub procedure_at : List TypedModule → InProgram → Option (TypedModule × TypedProcedure)
procedure_at modules at =
    option_and_then
    (λ (typed : TypedModule).
    option_map (λ (procedure : TypedProcedure). (typed, procedure)) (slice_get typed.procedures at.number))
    (slice_get modules at.number_of_module)

-- A call of a procedure whose arguments are evaluated takes one of the budget, then its charge from the room,
-- and then sets its parameters.
abbrev pub called : Later → InProgram → List ℕ → Surroundings → State → Outcome ℕ
called later at arguments around s =
    taking_one s
    (λ t.
    option_map_or
    (λ (found : TypedModule × TypedProcedure).
    charged (charge_of found.1) (record around { number_of_module = at.number_of_module }) t
    (λ within u. entered later found.0 at.number found.1 arguments within u))
    (procedure_at around.program.modules at) (Gave 0 t))

-- nothing more is known: a run that comes so far wants more budget
abbrev pub nothing_later : Later
nothing_later = record {
  call = λ at arguments around s. Stopped More s;
  again = λ turn around s. Stopped More s;
  onto = λ list rest around s. Stopped More s;
}

-- `count` calls, turns and jumps within each other
abbrev pub later_by : ℕ → Later
later_by zero = nothing_later
later_by (suc count) = record {
  call = λ at arguments around s. called (later_by count) at arguments around s;
  again = λ turn around s. turn_of (later_by count) turn around s;
  onto = λ list rest around s. rest_of (later_by count) list rest around s;
}

-- Where the budget is below a number, a call is `called`, a further turn of a loop `turn_of`, and what
-- follows a jump `rest_of`, of the same meaning. So it is of `later_by` of that number.
pub record IsMeantBelow (number : ℕ) (later : Later) : Type 0 where
  pub call : (at : InProgram) (arguments : List ℕ) (around : Surroundings) (s : State) → s.budget < number
      → later.call at arguments around s ≡ called later at arguments around s
  pub again : (turn : Turn) (around : Surroundings) (s : State) → suc s.budget < number
      → later.again turn around s ≡ turn_of later turn around s
  pub onto : (list : TypedList) (rest : TypedStatements) (around : Surroundings) (s : State)
      → suc s.budget < number → later.onto list rest around s ≡ rest_of later list rest around s
