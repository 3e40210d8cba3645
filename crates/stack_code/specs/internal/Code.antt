-- The parts of a program as stack code.
use Rattle.std.specs.Prelude.{ℕ, suc, ◌+◌, ◌-◌, ◌%◌, List, [], ◌∷◌, ◌++◌, length, flat_map, replicate, Option, Some, None}
use Rattle.std.specs.List.{enumerate_from}
use Rattle.mem80.specs.declared.memory.TheConstants.{MEMORY_SIZE}
use Rattle.trees.specs.declared.declaration.ScalarType.{ScalarType}
use Rattle.trees.specs.declared.declaration.ScalarType.TheVariants.{Address}
use Rattle.trees.specs.declared.expression.BinaryOperator.{BinaryOperator}
use Rattle.trees.specs.declared.expression.BinaryOperator.TheVariants.{GreaterOrEqual}
use Rattle.typed_trees.specs.TypedTrees.{TypedExpression, NumberNode, ValueNode, LocationNode, ListNode, ConversionNode, AssignmentNode, UnaryNode, BinaryNode, CallNode, FunctionNode, ShiftNode, InputNode, TypedReference, PartOf, Subscript, NoSubscript, At, TypedTarget, StoredIn, SentTo, TypedArguments, NoArguments, MoreArguments, TypedIteration, TypedHead, WhileHead, CountHead, TypedStatement, LabelStatement, NullStatement, AssignmentStatement, CallStatement, MoveStatement, ReturnStatement, HaltStatement, GotoStatement, IfStatement, DoStatement, LoopStatement, CaseStatement, TypedElse, NoElse, ElseStatement, TypedStatements, NoStatements, MoreStatements, TypedList, ListOf, Home, BasedOn, InFrame, TypedProcedure, TypedModule}
use Rattle.layout.specs.Joined.{InProgram}
use Rattle.layout.specs.Placement.{Placement}
use Rattle.meaning.specs.Access.{Surroundings, address_of, home_of}
use Rattle.meaning.specs.Meaning.{address_of_list, callee_in}
use Rattle.stack_code.specs.declared.instruction.FramePart.{FramePart}
use Rattle.stack_code.specs.declared.instruction.FrameSubscript.{FrameSubscript}
use Rattle.stack_code.specs.declared.instruction.FrameSubscript.TheVariants.{Absent, Present}
use Rattle.stack_code.specs.declared.instruction.Instruction.{Instruction}
use Rattle.stack_code.specs.declared.instruction.Instruction.TheVariants.{Push, Drop, ReadAt, WriteAt, Read, Write, ReadFrame, WriteFrame, LocateFrame, Scale, Advance, Sum, Convert, Unary, Binary, BinaryWith, Function, Shift, Step, Input, Output, Move, Parameter, FrameParameter, Discard, Mark, Begin, Jump, JumpUnless, LoopBack, Case, Goto, Call, Return, Halt}

-- where a part of a program stands: in a module of a program at a placement
pub record Site : Type 0 where
  pub modules : List TypedModule
  pub placement : Placement
  pub number_of_module : ℕ

abbrev pub surroundings_at : Site → Surroundings
surroundings_at site = record {
  program = record { modules = site.modules; placement = site.placement; script = [] };
  number_of_module = site.number_of_module;
  room = 0;
}

-- what is done with a part of an object: its value is asked for, a value is written to it, or its address is
-- asked for
pub data Purpose : Type 0 where
  ToRead : ScalarType → Purpose
  ToWrite : ScalarType → Purpose
  ToLocate : Purpose

abbrev pub instruction_at : Purpose → (address : ℕ) → Instruction
instruction_at (ToRead scalar) address = ReadAt scalar address
instruction_at (ToWrite scalar) address = WriteAt scalar address
instruction_at ToLocate address = Push address

-- with an address on the stack, to which a number is added
abbrev pub instruction_after : Purpose → (number : ℕ) → Instruction
instruction_after (ToRead scalar) number = Read scalar number
instruction_after (ToWrite scalar) number = Write scalar number
instruction_after ToLocate number = Advance number

abbrev pub instruction_of_frame : Purpose → FramePart → Instruction
instruction_of_frame (ToRead scalar) part = ReadFrame scalar part
instruction_of_frame (ToWrite scalar) part = WriteFrame scalar part
instruction_of_frame ToLocate part = LocateFrame part

abbrev pub frame_subscript : Subscript → FrameSubscript
frame_subscript NoSubscript = Absent
frame_subscript (At stride count index) = Present stride count

abbrev pub part_of : (object offset : ℕ) → (first second : Subscript) → FramePart
part_of object offset first second = record {
  object = object;
  offset = offset;
  first = frame_subscript first;
  second = frame_subscript second;
}

abbrev pub whole_in_frame : (object : ℕ) → FramePart
whole_in_frame object = part_of object 0 NoSubscript NoSubscript

-- a scalar without subscripts that is not BASED
abbrev pub scalar_code : Site → Purpose → Home → (object : ℕ) → Instruction
scalar_code site purpose (InFrame procedure) object = instruction_of_frame purpose (whole_in_frame object)
scalar_code site purpose home object = instruction_at purpose (address_of (surroundings_at site) object % MEMORY_SIZE)

abbrev pub variable_code : Site → Purpose → (object : ℕ) → Instruction
variable_code site purpose object = scalar_code site purpose (home_of (surroundings_at site) object) object

-- if there are two subscripts, adds their numbers
abbrev pub summed : (first second : Subscript) → List Instruction
summed (At stride count index) (At other_stride other_count other_index) = Sum ∷ []
summed first second = []

-- if there is a subscript, adds its bytes to the address above them on the stack
abbrev pub added_to_bytes : (first second : Subscript) → List Instruction
added_to_bytes NoSubscript NoSubscript = []
added_to_bytes first second = Sum ∷ []

-- a part of an object in memory, whose subscripts are evaluated by `bytes`
abbrev pub part_at : Purpose → (address : ℕ) → (first second : Subscript) → (bytes : List Instruction) → List Instruction
part_at purpose address NoSubscript NoSubscript bytes = instruction_at purpose address ∷ []
part_at purpose address first second bytes = bytes ++ (instruction_after purpose address ∷ [])

-- a part of an object by where it lives; its subscripts are evaluated by `indices`, and as bytes by `bytes`
abbrev pub part_code :
    Site → Purpose → Home → (object offset : ℕ) → (first second : Subscript) → (indices bytes : List Instruction)
    → List Instruction
part_code site purpose (InFrame procedure) object offset first second indices bytes =
    indices ++ (instruction_of_frame purpose (part_of object offset first second) ∷ [])
part_code site purpose (BasedOn base) object offset first second indices bytes =
    bytes
    ++ (variable_code site (ToRead Address) base
    ∷ (added_to_bytes first second ++ (instruction_after purpose (offset % MEMORY_SIZE) ∷ [])))
part_code site purpose home object offset first second indices bytes =
    part_at purpose ((address_of (surroundings_at site) object + offset) % MEMORY_SIZE) first second bytes

-- a call, or the code in place of one that has no procedure: it drops the arguments and gives 0
abbrev pub called_code : Option InProgram → (arguments : ℕ) → List Instruction
called_code (Some callee) arguments = Call callee.number_of_module callee.number arguments ∷ []
called_code None arguments = replicate arguments Drop ++ (Push 0 ∷ [])

-- the number that an expression is, if it is one
abbrev pub number_in : TypedExpression → Option ℕ
number_in (NumberNode scalar number origin) = Some number
number_in expression = None

-- an operator after its left operand; the right one is a number, or `right` puts it on the stack
abbrev pub operator_code : ScalarType → BinaryOperator → Option ℕ → (right : List Instruction) → List Instruction
operator_code operands operator (Some number) right = BinaryWith operands operator number ∷ []
operator_code operands operator None right = right ++ (Binary operands operator ∷ [])

abbrev pub count_of_arguments : TypedArguments → ℕ
count_of_arguments NoArguments = 0
count_of_arguments (MoreArguments first others) = suc (count_of_arguments others)

abbrev mutual
  -- puts the value of an expression on the stack
  pub expression_code : Site → TypedExpression → List Instruction
  expression_code site (NumberNode scalar number origin) = Push number ∷ []
  expression_code site (ValueNode scalar reference) = reference_code site (ToRead scalar) reference
  expression_code site (LocationNode reference) = reference_code site ToLocate reference
  expression_code site (ListNode list) = Push (address_of_list (surroundings_at site) list) ∷ []
  expression_code site (ConversionNode scalar inner) = expression_code site inner ++ (Convert scalar ∷ [])
  expression_code site (AssignmentNode target inner) = expression_code site inner ++ target_code site target
  expression_code site (UnaryNode scalar operator operand) =
      expression_code site operand ++ (Unary scalar operator ∷ [])
  expression_code site (BinaryNode operands operator left right) =
      expression_code site left
      ++ operator_code operands operator (number_in right) (expression_code site right)
  expression_code site (CallNode procedure scalar arguments) =
      arguments_code site arguments
      ++ called_code (callee_in (surroundings_at site) procedure) (count_of_arguments arguments)
  expression_code site (FunctionNode function operand) =
      expression_code site operand ++ (Function function ∷ [])
  expression_code site (ShiftNode scalar function shift_of count) =
      expression_code site shift_of ++ (expression_code site count ++ (Shift scalar function ∷ []))
  expression_code site (InputNode port) = Input port ∷ []

  -- puts the values of arguments on the stack, one after another
  pub arguments_code : Site → TypedArguments → List Instruction
  arguments_code site NoArguments = []
  arguments_code site (MoreArguments first others) = expression_code site first ++ arguments_code site others

  pub reference_code : Site → Purpose → TypedReference → List Instruction
  reference_code site purpose (PartOf object first member offset second) =
      part_code site purpose (home_of (surroundings_at site) object) object offset first second
      (index_code site first ++ index_code site second)
      (scaled_code site first ++ (scaled_code site second ++ summed first second))

  -- puts a subscript on the stack, and the bytes that it stands for
  pub index_code : Site → Subscript → List Instruction
  index_code site NoSubscript = []
  index_code site (At stride count index) = expression_code site index

  pub scaled_code : Site → Subscript → List Instruction
  scaled_code site NoSubscript = []
  scaled_code site (At stride count index) = expression_code site index ++ (Scale stride ∷ [])

  -- writes the value on top to a target
  pub target_code : Site → TypedTarget → List Instruction
  target_code site (StoredIn from to reference) = reference_code site (ToWrite to) reference
  target_code site (SentTo from port) = Output port ∷ []

abbrev pub targets_code : Site → List TypedTarget → List Instruction
targets_code site targets = flat_map (target_code site) targets

-- a value, or a number in its place
abbrev pub value_or : Site → (number : ℕ) → Option TypedExpression → List Instruction
value_or site number None = Push number ∷ []
value_or site number (Some expression) = expression_code site expression

-- before the first turn of a loop the variable of an iterative DO gets its first value
abbrev pub first_code : Site → TypedHead → List Instruction
first_code site (WhileHead condition) = []
first_code site (CountHead head) =
    expression_code site head.first ++ (variable_code site (ToWrite head.scalar) head.variable ∷ Drop ∷ [])

-- the test before each turn: the condition of DO WHILE, or that the variable of an iterative DO is at most the last value
abbrev pub test_code : Site → TypedHead → List Instruction
test_code site (WhileHead condition) = expression_code site condition
test_code site (CountHead head) =
    expression_code site head.last
    ++ (variable_code site (ToRead head.scalar) head.variable ∷ Binary Address GreaterOrEqual ∷ [])

-- the step of an iterative DO changes the variable, and ends the loop if the sum is too great
abbrev pub step_code : Site → TypedIteration → List Instruction
step_code site head =
    value_or site 1 head.step
    ++ (variable_code site (ToRead head.scalar) head.variable
    ∷ Step head.scalar
    ∷ variable_code site (ToWrite head.scalar) head.variable
    ∷ Drop
    ∷ JumpUnless (length (test_code site (CountHead head)) + 1)
    ∷ [])

-- a turn: the body, and the step of an iterative DO
abbrev pub turn_code : Site → TypedHead → (body : List Instruction) → List Instruction
turn_code site (WhileHead condition) body = body
turn_code site (CountHead head) body = body ++ step_code site head

-- a turn, the test after it, and the jump back to the turn if the test holds
abbrev pub loop_code : (turn test : List Instruction) → List Instruction
loop_code turn test = turn ++ (test ++ (LoopBack (length turn + length test) ∷ []))

abbrev pub count_of_statements : TypedStatements → ℕ
count_of_statements NoStatements = 0
count_of_statements (MoreStatements first others) = suc (count_of_statements others)

-- IF with ELSE, or without
abbrev pub choice_code : (body : List Instruction) → Option (List Instruction) → List Instruction
choice_code body None = JumpUnless (length body) ∷ body
choice_code body (Some otherwise) =
    JumpUnless (length body + 1) ∷ (body ++ (Jump (length otherwise) ∷ otherwise))

abbrev mutual
  pub statement_code : Site → TypedStatement → List Instruction
  statement_code site (LabelStatement label) = Mark site.number_of_module label ∷ []
  statement_code site NullStatement = []
  statement_code site (AssignmentStatement targets expression) =
      expression_code site expression ++ (targets_code site targets ++ (Drop ∷ []))
  statement_code site (CallStatement procedure arguments) =
      arguments_code site arguments
      ++ (called_code (callee_in (surroundings_at site) procedure) (count_of_arguments arguments) ++ (Drop ∷ []))
  statement_code site (MoveStatement count source destination) =
      expression_code site count
      ++ (expression_code site source ++ (expression_code site destination ++ (Move ∷ [])))
  statement_code site (ReturnStatement expression) = value_or site 0 expression ++ (Return ∷ [])
  statement_code site HaltStatement = Halt ∷ []
  statement_code site (GotoStatement label) = Goto site.number_of_module label ∷ []
  statement_code site (IfStatement condition body otherwise) =
      expression_code site condition
      ++ choice_code (statement_code site body) (else_code site otherwise)
  statement_code site (DoStatement body) = list_code site body
  statement_code site (LoopStatement head body) =
      first_code site head
      ++ (Jump (length (turn_code site head (list_code site body)))
      ∷ loop_code (turn_code site head (list_code site body)) (test_code site head))
  statement_code site (CaseStatement choice statements) =
      expression_code site choice
      ++ (Case (count_of_statements statements)
      ∷ (entries_code site (count_of_statements statements) 0 statements ++ cases_code site statements))

  pub else_code : Site → TypedElse → Option (List Instruction)
  else_code site NoElse = None
  else_code site (ElseStatement statement) = Some (statement_code site statement)

  pub statements_code : Site → TypedStatements → List Instruction
  statements_code site NoStatements = []
  statements_code site (MoreStatements first others) =
      statement_code site first ++ statements_code site others

  -- a jump to each statement of DO CASE, and one past them; `after` jumps follow, and the statements so far
  -- take `before` instructions
  pub entries_code : Site → (after before : ℕ) → TypedStatements → List Instruction
  entries_code site after before NoStatements = Jump before ∷ []
  entries_code site after before (MoreStatements first others) =
      Jump (after + before)
      ∷ entries_code site (after - 1) (before + length (statement_code site first) + 1) others

  -- the statements of DO CASE, each with a jump past those after it
  pub cases_code : Site → TypedStatements → List Instruction
  cases_code site NoStatements = []
  cases_code site (MoreStatements first others) =
      statement_code site first
      ++ (Jump (length (cases_code site others)) ∷ cases_code site others)

  pub list_code : Site → TypedList → List Instruction
  list_code site (ListOf first_label places statements) = statements_code site statements

-- each argument goes to its parameter, from the first one on
abbrev pub parameter_code : Site → Home → (index : ℕ) → ScalarType → (object : ℕ) → Instruction
parameter_code site (InFrame procedure) index scalar object = FrameParameter index scalar object
parameter_code site home index scalar object =
    Parameter index scalar (address_of (surroundings_at site) object % MEMORY_SIZE)

abbrev pub parameters_code : Site → (index : ℕ) → List ScalarType → List ℕ → List Instruction
parameters_code site index (scalar ∷ scalars) (object ∷ objects) =
    parameter_code site (home_of (surroundings_at site) object) index scalar object
    ∷ parameters_code site (index + 1) scalars objects
parameters_code site index scalars objects = []

-- a procedure of a module, by its number
abbrev pub procedure_code : Site → ℕ × TypedProcedure → List Instruction
procedure_code site numbered =
    Begin site.number_of_module numbered.0
    ∷ (parameters_code site 0 (numbered.1).parameter_types (numbered.1).parameters
    ++ (Discard ∷ (list_code site (numbered.1).body ++ (Push 0 ∷ Return ∷ []))))

abbrev pub site_of : List TypedModule → Placement → (number_of_module : ℕ) → Site
site_of modules placement number_of_module = record {
  modules = modules;
  placement = placement;
  number_of_module = number_of_module;
}

abbrev pub module_code : List TypedModule → Placement → ℕ × TypedModule → List Instruction
module_code modules placement numbered =
    flat_map (procedure_code (site_of modules placement numbered.0)) (enumerate_from 0 (numbered.1).procedures)

-- the main program of a module, which ends the program
abbrev pub main_code : List TypedModule → Placement → ℕ × TypedModule → List Instruction
main_code modules placement numbered =
    list_code (site_of modules placement numbered.0) (numbered.1).main.body ++ (Halt ∷ [])

-- a program: its main program, and then the procedures of all modules
unfoldable pub program_code : List TypedModule → Placement → (number_of_main : ℕ) → (main : TypedModule) → List Instruction
program_code modules placement number_of_main main =
    main_code modules placement (number_of_main, main)
    ++ flat_map (module_code modules placement) (enumerate_from 0 modules)
