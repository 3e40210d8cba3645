-- Where the room is enough, the evaluation of expressions does not go outside for the stack.
use Rattle.stack_need.proofs.Prelude.{◌≡◌, ℕ, zero, suc, ◌+◌, ◌-◌, ◌==◌, ◌%◌, ◌&&◌, Bool, true, false, List, [], ◌∷◌, Option, Some, None, cond, refl, ScalarType, Byte, Address, TypedExpression, NumberNode, ValueNode, LocationNode, ListNode, ConversionNode, AssignmentNode, UnaryNode, BinaryNode, CallNode, FunctionNode, ShiftNode, InputNode, TypedReference, PartOf, Subscript, NoSubscript, At, TypedTarget, StoredIn, SentTo, TypedArguments, NoArguments, MoreArguments, Home, InData, InConstants, Placed, BasedOn, Elsewhere, Nowhere, InFrame, InProgram, as_type, result_of, Place, InMemory, InTheFrame, Surroundings, home_of, is_constant, is_declared, next_place, place_of, read_byte, read_scalar, write_byte, write_scalar, Later, based_place, called_for, callee_in, computed, displacement, located, moved, stored, stored_in_each, value, values, Program, State, More, Outcome, Gave, Stopped, then_do, taking_one, calls_in, calls_in_arguments, calls_in_reference, calls_in_subscript, calls_in_target, calls_in_targets, Holds, HoldsAll, HoldsCall, LaterStays, StaysWithin}
use Rattle.mem80.specs.declared.memory.TheConstants.{MEMORY_SIZE}
use Rattle.stack_need.proofs.Elements.{all_left, all_right}

-- one part after another
pub then_do_stays : {A B : Type 0} (outcome : Outcome A) (go : A → State → Outcome B) → StaysWithin outcome
    → ((found : A) (t : State) → StaysWithin (go found t)) → StaysWithin (then_do outcome go)
then_do_stays (Gave found t) go stays rest = rest found t
then_do_stays (Stopped why t) go stays rest = stays

-- where a test decides
pub either : {A : Type 0} (test : Bool) (one other : Outcome A) → StaysWithin one → StaysWithin other
    → StaysWithin (cond test one other)
either true one other on off = on
either false one other on off = off

-- one is taken of the budget
pub takes_one : {A : Type 0} (s : State) (go : State → Outcome A) → ((t : State) → StaysWithin (go t))
    → StaysWithin (taking_one s go)
takes_one s go rest =
    either (s.budget == 0) (Stopped More s) (go (record s { budget = s.budget - 1 })) tt
    (rest (record s { budget = s.budget - 1 }))

pub reads_byte : (program : Program) (place : Place) (s : State) → StaysWithin (read_byte program place s)
reads_byte program (InMemory address) s = either (is_declared program address) _ _ tt tt
reads_byte program (InTheFrame object offset is_inside) s = either is_inside _ _ tt tt

pub changes_byte : (program : Program) (place : Place) (byte : ℕ) (s : State)
    → StaysWithin (write_byte program place byte s)
changes_byte program (InMemory address) byte s =
    either (is_declared program address) _ _ (either (is_constant program address) _ _ tt tt) tt
changes_byte program (InTheFrame object offset is_inside) byte s = either is_inside _ _ tt tt

pub reads_scalar : (program : Program) (scalar : ScalarType) (place : Place) (s : State)
    → StaysWithin (read_scalar program scalar place s)
reads_scalar program Byte place s = reads_byte program place s
reads_scalar program Address place s =
    then_do_stays (read_byte program place s) _ (reads_byte program place s)
    (λ low t. then_do_stays (read_byte program (next_place place) t) _
    (reads_byte program (next_place place) t) (λ high u. tt))

pub changes_scalar : (program : Program) (scalar : ScalarType) (place : Place) (number : ℕ) (s : State)
    → StaysWithin (write_scalar program scalar place number s)
changes_scalar program Byte place number s = changes_byte program place _ s
changes_scalar program Address place number s =
    then_do_stays (write_byte program place (number % 256) s) _ (changes_byte program place (number % 256) s)
    (λ done t. changes_byte program (next_place place) _ t)

computes : (found : Option ℕ) (s : State) → StaysWithin (computed found s)
computes (Some found) s = tt
computes None s = tt

finds_base : (home : Home) (around : Surroundings) (object bytes : ℕ) (is_inside : Bool) (s : State)
    → StaysWithin (based_place home around object bytes is_inside s)
finds_base (BasedOn base) around object bytes is_inside s =
    then_do_stays (read_scalar around.program Address (place_of around base) s) _
    (reads_scalar around.program Address (place_of around base) s) (λ start t. tt)
finds_base (InData initial) around object bytes is_inside s = tt
finds_base (InConstants initial) around object bytes is_inside s = tt
finds_base (Placed address) around object bytes is_inside s = tt
finds_base Elsewhere around object bytes is_inside s = tt
finds_base Nowhere around object bytes is_inside s = tt
finds_base (InFrame procedure) around object bytes is_inside s = tt

module _ (later : Later) (stays : LaterStays later) where
  calls_found : (at : Option InProgram) (arguments : List ℕ) (around : Surroundings) (s : State)
      → ((one : InProgram) → at ≡ Some one → Holds around one)
      → StaysWithin (called_for later at arguments around s)
  calls_found (Some at) arguments around s holds = stays.call at arguments around s (holds at refl)
  calls_found None arguments around s holds = tt

  pub call_stays : (procedure : ℕ) (arguments : List ℕ) (around : Surroundings) (s : State)
      → HoldsCall around procedure → StaysWithin
      (called_for later (callee_in around procedure) arguments around s)
  call_stays procedure arguments around s holds =
      calls_found (callee_in around procedure) arguments around s holds

  mutual
    pub value_stays : (expression : TypedExpression) (around : Surroundings) (s : State)
        → HoldsAll around (calls_in expression) → StaysWithin (value later around expression s)
    value_stays (NumberNode scalar found origin) around s holds = tt
    value_stays (ValueNode scalar reference) around s holds =
        then_do_stays (located later around reference s) _ (located_stays reference around s holds)
        (λ place t. reads_scalar around.program scalar place t)
    value_stays (LocationNode reference) around s holds =
        then_do_stays (located later around reference s) _
        (located_stays reference around s holds) (λ place t. tt)
    value_stays (ListNode list) around s holds = tt
    value_stays (ConversionNode scalar inner) around s holds =
        then_do_stays (value later around inner s) _ (value_stays inner around s holds) (λ found t. tt)
    value_stays (AssignmentNode target inner) around s holds =
        then_do_stays (value later around inner s) _
        (value_stays inner around s (all_left (HoldsCall around) (calls_in inner)
        (calls_in_target target) holds))
        (λ found t.
        then_do_stays (stored later around target found t) _
        (stored_stays target found around t
        (all_right (HoldsCall around) (calls_in inner) (calls_in_target target) holds))
        (λ done u. tt))
    value_stays (UnaryNode scalar operator operand) around s holds =
        then_do_stays (value later around operand s) _ (value_stays operand around s holds) (λ found t. tt)
    value_stays (BinaryNode operands operator left right) around s holds =
        then_do_stays (value later around left s) _
        (value_stays left around s (all_left (HoldsCall around) (calls_in left) (calls_in right) holds))
        (λ one t.
        then_do_stays (value later around right t) _
        (value_stays right around t (all_right (HoldsCall around) (calls_in left) (calls_in right) holds))
        (λ two u. computes (result_of operands operator one two) u))
    value_stays (CallNode procedure scalar arguments) around s holds =
        then_do_stays (values later around arguments s) _
        (values_stay arguments around s (all_left (HoldsCall around) (calls_in_arguments arguments)
        (procedure ∷ []) holds))
        (λ given t. call_stays procedure given around t
        (all_right (HoldsCall around) (calls_in_arguments arguments) (procedure ∷ []) holds).0)
    value_stays (FunctionNode function operand) around s holds =
        then_do_stays (value later around operand s) _ (value_stays operand around s holds) (λ found t. tt)
    value_stays (ShiftNode scalar function shift_of count) around s holds =
        then_do_stays (value later around shift_of s) _
        (value_stays shift_of around s (all_left (HoldsCall around) (calls_in shift_of)
        (calls_in count) holds))
        (λ found t. then_do_stays (value later around count t) _
        (value_stays count around t (all_right (HoldsCall around) (calls_in shift_of) (calls_in count)
        holds)) (λ by u. tt))
    value_stays (InputNode port) around s holds = tt

    pub values_stay : (arguments : TypedArguments) (around : Surroundings) (s : State)
        → HoldsAll around (calls_in_arguments arguments) → StaysWithin (values later around arguments s)
    values_stay NoArguments around s holds = tt
    values_stay (MoreArguments argument others) around s holds =
        then_do_stays (value later around argument s) _
        (value_stays argument around s (all_left (HoldsCall around) (calls_in argument)
        (calls_in_arguments others) holds))
        (λ found t.
        then_do_stays (values later around others t) _
        (values_stay others around t (all_right (HoldsCall around) (calls_in argument)
        (calls_in_arguments others) holds)) (λ numbers u. tt))

    pub located_stays : (reference : TypedReference) (around : Surroundings) (s : State)
        → HoldsAll around (calls_in_reference reference) → StaysWithin (located later around reference s)
    located_stays (PartOf object subscript member offset member_subscript) around s holds =
        then_do_stays (displacement later around subscript s) _
        (displacement_stays subscript around s
        (all_left (HoldsCall around) (calls_in_subscript subscript)
        (calls_in_subscript member_subscript) holds))
        (λ one t.
        then_do_stays (displacement later around member_subscript t) _
        (displacement_stays member_subscript around t
        (all_right (HoldsCall around) (calls_in_subscript subscript)
        (calls_in_subscript member_subscript) holds))
        (λ two u. finds_base (home_of around object) around object (one.bytes + offset + two.bytes)
        (one.is_inside && two.is_inside) u))

    pub displacement_stays : (subscript : Subscript) (around : Surroundings) (s : State)
        → HoldsAll around (calls_in_subscript subscript) → StaysWithin (displacement later around subscript s)
    displacement_stays NoSubscript around s holds = tt
    displacement_stays (At stride count index) around s holds =
        then_do_stays (value later around index s) _ (value_stays index around s holds) (λ found t. tt)

    pub stored_stays : (target : TypedTarget) (found : ℕ) (around : Surroundings) (s : State)
        → HoldsAll around (calls_in_target target) → StaysWithin (stored later around target found s)
    stored_stays (StoredIn from to reference) found around s holds =
        then_do_stays (located later around reference s) _ (located_stays reference around s holds)
        (λ place t. changes_scalar around.program to place (as_type to found) t)
    stored_stays (SentTo from port) found around s holds = tt

  pub targets_stay : (targets : List TypedTarget) (found : ℕ) (around : Surroundings) (s : State)
      → HoldsAll around (calls_in_targets targets) → StaysWithin (stored_in_each later around targets found s)
  targets_stay [] found around s holds = tt
  targets_stay (target ∷ others) found around s holds =
      then_do_stays (stored later around target found s) _
      (stored_stays target found around s
      (all_left (HoldsCall around) (calls_in_target target) (calls_in_targets others) holds))
      (λ done t. targets_stay others found around t
      (all_right (HoldsCall around) (calls_in_target target) (calls_in_targets others) holds))

-- MOVE
pub moved_stays : (program : Program) (count source destination : ℕ) (s : State)
    → StaysWithin (moved program count source destination s)
moved_stays program zero source destination s = tt
moved_stays program (suc count) source destination s =
    then_do_stays (read_byte program (InMemory (source % MEMORY_SIZE)) s) _
    (reads_byte program (InMemory (source % MEMORY_SIZE)) s)
    (λ byte t.
    then_do_stays (write_byte program (InMemory (destination % MEMORY_SIZE)) byte t) _
    (changes_byte program (InMemory (destination % MEMORY_SIZE)) byte t)
    (λ done u. moved_stays program count (source + 1) (destination + 1) u))
