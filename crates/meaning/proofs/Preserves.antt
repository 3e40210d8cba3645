-- One walk of the meaning. A law that says the same of each part of what statements and expressions do holds
-- of all that they do: it is an instance of `Preserves`.
use Rattle.meaning.proofs.Prelude.{Address, AssignmentNode, AssignmentStatement, At, BasedOn, BinaryNode, Bool, Byte, CallNode, CallStatement, CaseStatement, ConversionNode, Divide, DoStatement, ElseStatement, Elsewhere, Ended, Flow, FunctionNode, Gave, GotoStatement, HaltStatement, Home, IfStatement, InConstants, InData, InFrame, InMemory, InProgram, InputNode, Jumped, LabelStatement, Later, List, ListNode, ListOf, LocationNode, LoopStatement, LoopTurn, MEMORY_SIZE, MoreArguments, MoreStatements, MoveStatement, NoArguments, NoElse, NoStatements, NoSubscript, None, Nowhere, NullStatement, NumberNode, Onward, Option, Outcome, Outside, PartOf, Place, Placed, ReturnStatement, Returned, ScalarType, SentTo, ShiftNode, Some, Stack, State, Stopped, StoredIn, Subscript, Surroundings, Turn, TypedArguments, TypedElse, TypedExpression, TypedHead, TypedIteration, TypedList, TypedModule, TypedProcedure, TypedReference, TypedStatement, TypedStatements, TypedTarget, UnaryNode, ValueNode, [], as_type, based_place, begun, body_of_turn, called_for, callee_in, caught_in, charge_of, charged, computed, cond, displacement, done, done_all, done_case, done_else, done_list, entered, false, frame_of, going_on, home_of, is_true, located, moved, nat_lt, next_place, option_map_or, parameters_set, place_of, read_byte, read_scalar, rest_of, result_of, returned, step_value, stepped, stored, stored_in_each, suc, taken_in, taking_one, then_do, true, turn_of, turned, value, value_of_flow, values, values_of, write_byte, write_scalar, zero, ℕ, ◌%◌, ◌&&◌, ◌+◌, ◌-◌, ◌∷◌}
use Rattle.typed_trees.specs.TypedTrees.{WhileHead, CountHead}
use Rattle.meaning.specs.declared.reason.Reason.{Reason}

-- a body in a frame of its own, after its parameters were set
abbrev pub in_frame_of_its_own :
    List (List ℕ) → (State → Outcome (Unit {0})) → (State → Outcome Flow) → State → Outcome ℕ
in_frame_of_its_own frame sets body s =
    then_do (sets (record s { frame = frame }))
    (λ _ t. then_do (body t) (λ flow u. Gave (value_of_flow flow) (record u { frame = s.frame })))

-- one part after another, where the first gives how its statement was left
abbrev pub one_after : (State → Outcome Flow) → (State → Outcome Flow) → State → Outcome Flow
one_after f p s = then_do (f s) (λ flow t. going_on flow p t)

-- What is asked of a statement where `c` is known around it, and what that says of its parts. In a list more may
-- be known.
pub record Condition (C : Type 0) : Type 1 where
  pub Holds : C → TypedStatement → Type 0
  pub HoldsElse : C → TypedElse → Type 0
  pub HoldsCase : C → TypedStatements → Type 0
  pub HoldsAll : C → TypedStatements → Type 0
  pub HoldsList : C → TypedList → Type 0
  pub inside : C → TypedList → C
  pub of_branches : (c : C) (condition : TypedExpression) (body : TypedStatement) (otherwise : TypedElse)
      → Holds c (IfStatement condition body otherwise) → Holds c body × HoldsElse c otherwise
  pub of_else : (c : C) (statement : TypedStatement) → HoldsElse c (ElseStatement statement)
      → Holds c statement
  pub of_group : (c : C) (body : TypedList) → Holds c (DoStatement body) → HoldsList c body
  pub of_loop : (c : C) (head : TypedHead) (body : TypedList) → Holds c (LoopStatement head body)
      → HoldsList c body
  pub of_choices : (c : C) (choice : TypedExpression) (body : TypedStatements)
      → Holds c (CaseStatement choice body) → HoldsCase c body
  pub of_choice : (c : C) (first : TypedStatement) (others : TypedStatements)
      → HoldsCase c (MoreStatements first others) → Holds c first × HoldsCase c others
  pub of_each : (c : C) (first : TypedStatement) (others : TypedStatements)
      → HoldsAll c (MoreStatements first others) → Holds c first × HoldsAll c others
  pub of_items : (c : C) (first : ℕ) (places : List ℕ) (statements : TypedStatements)
      → HoldsList c (ListOf first places statements)
      → HoldsAll (inside c (ListOf first places statements)) statements

abbrev pub no_condition : Condition (Unit {0})
no_condition = record {
  Holds = λ c statement. Unit {0};
  HoldsElse = λ c otherwise. Unit {0};
  HoldsCase = λ c statements. Unit {0};
  HoldsAll = λ c statements. Unit {0};
  HoldsList = λ c list. Unit {0};
  inside = λ c list. tt;
  of_branches = λ c condition body otherwise holds. (tt, tt);
  of_else = λ c statement holds. tt;
  of_group = λ c body holds. tt;
  of_loop = λ c head body holds. tt;
  of_choices = λ c choice body holds. tt;
  of_choice = λ c first others holds. (tt, tt);
  of_each = λ c first others holds. (tt, tt);
  of_items = λ c first places statements holds. tt;
}

module _ (one other : Later) (around : Surroundings) {C : Type 0} (asks : Condition C)
    (V : (A : Type 0) → (State → Outcome A) → (State → Outcome A) → Type 0)
    (F T : C → (State → Outcome Flow) → (State → Outcome Flow) → Type 0) where
  -- What is asked of relations between what two meanings do: V to get a value, F in statements for which the
  -- condition holds, and T in what follows where one of the budget was taken.
  pub record Preserves : Type 1 where
    pub gives : (A : Type 0) (found : A) → V A (λ s. Gave found s) (λ s. Gave found s)
    pub goes_outside : (reason : Reason)
        → V ℕ (λ s. Stopped (Outside reason) s) (λ s. Stopped (Outside reason) s)
    pub reads : (place : Place)
        → V ℕ (λ s. read_byte around.program place s) (λ s. read_byte around.program place s)
    pub writes : (place : Place) (byte : ℕ)
        → V _ (λ s. write_byte around.program place byte s) (λ s. write_byte around.program place byte s)
    pub takes_in : (port : ℕ) → V ℕ (λ s. taken_in around port s) (λ s. taken_in around port s)
    pub puts_out : (from : ScalarType) (port number : ℕ)
        → V _ (λ s. stored one around (SentTo from port) number s)
        (λ s. stored other around (SentTo from port) number s)
    pub calls : (at : InProgram) (arguments : List ℕ)
        → V ℕ (λ s. one.call at arguments around s) (λ s. other.call at arguments around s)
    pub enters : (c : C) (frame : List (List ℕ)) (sets : State → Outcome (Unit {0}))
        (f g : State → Outcome Flow) → V _ sets sets → F c f g
        → V ℕ (in_frame_of_its_own frame sets f) (in_frame_of_its_own frame sets g)
    pub then_gives : (A B : Type 0) (f g : State → Outcome A) (p q : A → State → Outcome B) → V A f g
        → ((found : A) → V B (p found) (q found)) → V B (λ s. then_do (f s) p) (λ s. then_do (g s) q)
    pub goes_on : (c : C) → F c (λ s. Gave Onward s) (λ s. Gave Onward s)
    pub returns : (c : C) (expression : Option TypedExpression) (found : ℕ)
        → asks.Holds c (ReturnStatement expression)
        → F c (λ s. Gave (Returned found) s) (λ s. Gave (Returned found) s)
    pub ends : (c : C) → F c (λ s. Stopped Ended s) (λ s. Stopped Ended s)
    pub jumps : (c : C) (label : ℕ) → asks.Holds c (GotoStatement label)
        → F c (λ s. taking_one s (λ t. Gave (Jumped label) t))
        (λ s. taking_one s (λ t. Gave (Jumped label) t))
    pub then_does : (c : C) (A : Type 0) (f g : State → Outcome A) (p q : A → State → Outcome Flow)
        → V A f g → ((found : A) → F c (p found) (q found))
        → F c (λ s. then_do (f s) p) (λ s. then_do (g s) q)
    pub follows : (c : C) (f g p q : State → Outcome Flow) → F c f g → F c p q
        → F c (one_after f p) (one_after g q)
    pub lists : (c : C) (list : TypedList) (f g : State → Outcome Flow) → asks.HoldsList c list
        → F (asks.inside c list) f g
        → F c (λ s. then_do (f s) (caught_in one around list))
        (λ s. then_do (g s) (caught_in other around list))
    pub turns : (c : C) (f g p q : State → Outcome Flow) → F c f g → T c p q
        → F c (λ s. taking_one s (one_after f p)) (λ s. taking_one s (one_after g q))
    pub taken_on : (c : C) → T c (λ s. Gave Onward s) (λ s. Gave Onward s)
    pub taken_again : (c : C) (turn : Turn) → asks.HoldsList c (body_of_turn turn)
        → T c (λ s. one.again turn around s) (λ s. other.again turn around s)
    pub then_taken : (c : C) (A : Type 0) (f g : State → Outcome A) (p q : A → State → Outcome Flow)
        → V A f g → ((found : A) → T c (p found) (q found))
        → T c (λ s. then_do (f s) p) (λ s. then_do (g s) q)

  module _ (keeps : Preserves) where
    by_test : {A : Type 0} (R : (State → Outcome A) → (State → Outcome A) → Type 0) (test : Bool)
        (f g p q : State → Outcome A) → R f g → R p q
        → R (λ s. cond test (f s) (p s)) (λ s. cond test (g s) (q s))
    by_test R true f g p q first second = first
    by_test R false f g p q first second = second

    and_gives : {A B : Type 0} {f g : State → Outcome A} {p q : A → State → Outcome B} → V A f g
        → ((found : A) → V B (p found) (q found)) → V B (λ s. then_do (f s) p) (λ s. then_do (g s) q)
    and_gives first rest = keeps.then_gives _ _ _ _ _ _ first rest

    and_does : {A : Type 0} {f g : State → Outcome A} {p q : A → State → Outcome Flow} (c : C) → V A f g
        → ((found : A) → F c (p found) (q found)) → F c (λ s. then_do (f s) p) (λ s. then_do (g s) q)
    and_does c first rest = keeps.then_does c _ _ _ _ _ first rest

    and_taken : {A : Type 0} {f g : State → Outcome A} {p q : A → State → Outcome Flow} (c : C) → V A f g
        → ((found : A) → T c (p found) (q found)) → T c (λ s. then_do (f s) p) (λ s. then_do (g s) q)
    and_taken c first rest = keeps.then_taken c _ _ _ _ _ first rest

    pub scalar_read : (scalar : ScalarType) (place : Place)
        → V ℕ (λ s. read_scalar around.program scalar place s)
        (λ s. read_scalar around.program scalar place s)
    scalar_read Byte place = keeps.reads place
    scalar_read Address place =
        and_gives (keeps.reads place)
        (λ low. and_gives (keeps.reads (next_place place)) (λ high. keeps.gives _ _))

    pub scalar_written : (scalar : ScalarType) (place : Place) (number : ℕ)
        → V _ (λ s. write_scalar around.program scalar place number s)
        (λ s. write_scalar around.program scalar place number s)
    scalar_written Byte place number = keeps.writes place (number % 256)
    scalar_written Address place number =
        and_gives (keeps.writes place (number % 256)) (λ done. keeps.writes (next_place place) _)

    base_read : (home : Home) (object bytes : ℕ) (is_inside : Bool)
        → V _ (λ s. based_place home around object bytes is_inside s)
        (λ s. based_place home around object bytes is_inside s)
    base_read (BasedOn base) object bytes is_inside =
        and_gives (scalar_read Address (place_of around base)) (λ start. keeps.gives _ _)
    base_read (InData initial) object bytes is_inside = keeps.gives _ _
    base_read (InConstants initial) object bytes is_inside = keeps.gives _ _
    base_read (Placed address) object bytes is_inside = keeps.gives _ _
    base_read Elsewhere object bytes is_inside = keeps.gives _ _
    base_read Nowhere object bytes is_inside = keeps.gives _ _
    base_read (InFrame procedure) object bytes is_inside = keeps.gives _ _

    of_result : (found : Option ℕ) → V ℕ (λ s. computed found s) (λ s. computed found s)
    of_result (Some found) = keeps.gives _ found
    of_result None = keeps.goes_outside Divide

    pub of_called : (at : Option InProgram) (arguments : List ℕ)
        → V ℕ (λ s. called_for one at arguments around s) (λ s. called_for other at arguments around s)
    of_called (Some at) arguments = keeps.calls at arguments
    of_called None arguments = keeps.gives _ 0

    mutual
      pub of_value : (expression : TypedExpression)
          → V ℕ (λ s. value one around expression s) (λ s. value other around expression s)
      of_value (NumberNode scalar found origin) = keeps.gives _ found
      of_value (ValueNode scalar reference) =
          and_gives (of_place reference) (λ place. scalar_read scalar place)
      of_value (LocationNode reference) = and_gives (of_place reference) (λ place. keeps.gives _ _)
      of_value (ListNode list) = keeps.gives _ _
      of_value (ConversionNode scalar inner) = and_gives (of_value inner) (λ found. keeps.gives _ _)
      of_value (AssignmentNode target inner) =
          and_gives (of_value inner) (λ found. and_gives (of_target target found) (λ done. keeps.gives _ _))
      of_value (UnaryNode scalar operator operand) = and_gives (of_value operand) (λ found. keeps.gives _ _)
      of_value (BinaryNode operands operator left right) =
          and_gives (of_value left)
          (λ first. and_gives (of_value right)
          (λ second. of_result (result_of operands operator first second)))
      of_value (CallNode procedure scalar arguments) =
          and_gives (of_values arguments) (λ given. of_called (callee_in around procedure) given)
      of_value (FunctionNode function operand) = and_gives (of_value operand) (λ found. keeps.gives _ _)
      of_value (ShiftNode scalar function inner count) =
          and_gives (of_value inner) (λ found. and_gives (of_value count) (λ by. keeps.gives _ _))
      of_value (InputNode port) = keeps.takes_in port

      pub of_values : (arguments : TypedArguments)
          → V _ (λ s. values one around arguments s) (λ s. values other around arguments s)
      of_values NoArguments = keeps.gives _ _
      of_values (MoreArguments first others) =
          and_gives (of_value first) (λ found. and_gives (of_values others) (λ numbers. keeps.gives _ _))

      pub of_place : (reference : TypedReference)
          → V _ (λ s. located one around reference s) (λ s. located other around reference s)
      of_place (PartOf object subscript member offset member_subscript) =
          and_gives (of_subscript subscript)
          (λ first. and_gives (of_subscript member_subscript)
          (λ second. base_read (home_of around object) object (first.bytes + offset + second.bytes)
          (first.is_inside && second.is_inside)))

      pub of_subscript : (subscript : Subscript)
          → V _ (λ s. displacement one around subscript s) (λ s. displacement other around subscript s)
      of_subscript NoSubscript = keeps.gives _ _
      of_subscript (At stride count index) = and_gives (of_value index) (λ found. keeps.gives _ _)

      pub of_target : (target : TypedTarget) (found : ℕ)
          → V _ (λ s. stored one around target found s) (λ s. stored other around target found s)
      of_target (StoredIn from to reference) found =
          and_gives (of_place reference) (λ place. scalar_written to place (as_type to found))
      of_target (SentTo from port) found = keeps.puts_out from port found

    pub of_targets : (targets : List TypedTarget) (found : ℕ)
        → V _ (λ s. stored_in_each one around targets found s)
        (λ s. stored_in_each other around targets found s)
    of_targets [] found = keeps.gives _ tt
    of_targets (first ∷ others) found = and_gives (of_target first found) (λ done. of_targets others found)

    pub of_moved : (count source destination : ℕ)
        → V _ (λ s. moved around.program count source destination s)
        (λ s. moved around.program count source destination s)
    of_moved zero source destination = keeps.gives _ tt
    of_moved (suc count) source destination =
        and_gives (keeps.reads (InMemory (source % MEMORY_SIZE)))
        (λ byte. and_gives (keeps.writes (InMemory (destination % MEMORY_SIZE)) byte)
        (λ done. of_moved count (source + 1) (destination + 1)))

    pub of_parameters : (scalars : List ScalarType) (parameters arguments : List ℕ)
        → V _ (λ s. parameters_set around scalars parameters arguments s)
        (λ s. parameters_set around scalars parameters arguments s)
    of_parameters [] parameters arguments = keeps.gives _ tt
    of_parameters (scalar ∷ scalars) [] arguments = keeps.gives _ tt
    of_parameters (scalar ∷ scalars) (parameter ∷ parameters) [] = keeps.gives _ tt
    of_parameters (scalar ∷ scalars) (parameter ∷ parameters) (argument ∷ arguments) =
        and_gives (scalar_written scalar (place_of around parameter) argument)
        (λ done. of_parameters scalars parameters arguments)

    of_returned : (c : C) (expression : Option TypedExpression) → asks.Holds c (ReturnStatement expression)
        → F c (λ s. returned one around expression s) (λ s. returned other around expression s)
    of_returned c None holds = keeps.returns c None 0 holds
    of_returned c (Some expression) holds =
        and_does c (of_value expression) (λ found. keeps.returns c (Some expression) found holds)

    pub of_step : (step : Option TypedExpression)
        → V ℕ (λ s. step_value one around step s) (λ s. step_value other around step s)
    of_step None = keeps.gives _ 1
    of_step (Some step) = of_value step

    after_step : (c : C) (head : TypedIteration) (body : TypedList) → asks.HoldsList c body
        → T c (λ s. stepped one around head body Onward s) (λ s. stepped other around head body Onward s)
    after_step c head body holds =
        and_taken c (of_step head.step)
        (λ step. and_taken c (scalar_read head.scalar (place_of around head.variable))
        (λ found. and_taken c
        (scalar_written head.scalar (place_of around head.variable) (as_type head.scalar (found + step)))
        (λ done. by_test (T c) (nat_lt (found + step) (values_of head.scalar)) _ _ _ _
        (keeps.taken_again c (LoopTurn (CountHead head) body) holds) (keeps.taken_on c))))

    of_turned : (c : C) (head : TypedHead) (body : TypedList) (f g : State → Outcome Flow)
        → asks.HoldsList c body → F c f g
        → F c (λ s. turned one around head body f s) (λ s. turned other around head body g s)
    of_turned c (WhileHead condition) body f g holds is =
        and_does c (of_value condition)
        (λ found. by_test (F c) (is_true found) _ _ _ _
        (keeps.turns c f g (one.again (LoopTurn (WhileHead condition) body) around)
        (other.again (LoopTurn (WhileHead condition) body) around) is
        (keeps.taken_again c (LoopTurn (WhileHead condition) body) holds)) (keeps.goes_on c))
    of_turned c (CountHead head) body f g holds is =
        and_does c (of_value head.last)
        (λ last. and_does c (scalar_read head.scalar (place_of around head.variable))
        (λ found. by_test (F c) (nat_lt last found) _ _ _ _ (keeps.goes_on c)
        (keeps.turns c f g (stepped one around head body Onward) (stepped other around head body Onward) is
        (after_step c head body holds))))

    of_begun : (c : C) (head : TypedHead) (f g : State → Outcome Flow) → F c f g
        → F c (λ s. begun one around head f s) (λ s. begun other around head g s)
    of_begun c (WhileHead condition) f g is = is
    of_begun c (CountHead head) f g is =
        and_does c (of_value head.first)
        (λ found. and_does c
        (scalar_written head.scalar (place_of around head.variable) (as_type head.scalar found)) (λ done. is))

    mutual
      pub of_statement : (c : C) (statement : TypedStatement) → asks.Holds c statement
          → F c (λ s. done one around statement s) (λ s. done other around statement s)
      of_statement c (LabelStatement label) holds = keeps.goes_on c
      of_statement c NullStatement holds = keeps.goes_on c
      of_statement c (AssignmentStatement targets expression) holds =
          and_does c (of_value expression)
          (λ found. and_does c (of_targets targets found) (λ done. keeps.goes_on c))
      of_statement c (CallStatement procedure arguments) holds =
          and_does c (of_values arguments)
          (λ given. and_does c (of_called (callee_in around procedure) given) (λ done. keeps.goes_on c))
      of_statement c (MoveStatement count source destination) holds =
          and_does c (of_value count)
          (λ bytes. and_does c (of_value source)
          (λ from. and_does c (of_value destination)
          (λ to. and_does c (of_moved bytes from to) (λ done. keeps.goes_on c))))
      of_statement c (ReturnStatement expression) holds = of_returned c expression holds
      of_statement c HaltStatement holds = keeps.ends c
      of_statement c (GotoStatement label) holds = keeps.jumps c label holds
      of_statement c (IfStatement condition body otherwise) holds =
          let parts = asks.of_branches c condition body otherwise holds in
          and_does c (of_value condition)
          (λ found. by_test (F c) (is_true found) _ _ _ _ (of_statement c body parts.0)
          (of_else c otherwise parts.1))
      of_statement c (DoStatement body) holds = of_list c body (asks.of_group c body holds)
      of_statement c (LoopStatement head body) holds =
          let inner = asks.of_loop c head body holds in
          of_begun c head (turned one around head body (done_list one around body))
          (turned other around head body (done_list other around body))
          (of_turned c head body (done_list one around body) (done_list other around body) inner
          (of_list c body inner))
      of_statement c (CaseStatement choice statements) holds =
          and_does c (of_value choice)
          (λ found. of_case c statements found (asks.of_choices c choice statements holds))

      of_else : (c : C) (otherwise : TypedElse) → asks.HoldsElse c otherwise
          → F c (λ s. done_else one around otherwise s) (λ s. done_else other around otherwise s)
      of_else c NoElse holds = keeps.goes_on c
      of_else c (ElseStatement statement) holds = of_statement c statement (asks.of_else c statement holds)

      of_case : (c : C) (statements : TypedStatements) (found : ℕ) → asks.HoldsCase c statements
          → F c (λ s. done_case one around statements found s)
          (λ s. done_case other around statements found s)
      of_case c NoStatements found holds = keeps.goes_on c
      of_case c (MoreStatements first others) zero holds =
          of_statement c first (asks.of_choice c first others holds).0
      of_case c (MoreStatements first others) (suc found) holds =
          of_case c others found (asks.of_choice c first others holds).1

      pub of_statements : (c : C) (statements : TypedStatements) → asks.HoldsAll c statements
          → F c (λ s. done_all one around statements s) (λ s. done_all other around statements s)
      of_statements c NoStatements holds = keeps.goes_on c
      of_statements c (MoreStatements statement others) holds =
          let parts = asks.of_each c statement others holds in
          keeps.follows c _ _ (done_all one around others) (done_all other around others)
          (of_statement c statement parts.0) (of_statements c others parts.1)

      pub of_list : (c : C) (list : TypedList) → asks.HoldsList c list
          → F c (λ s. done_list one around list s) (λ s. done_list other around list s)
      of_list c (ListOf first places statements) holds =
          keeps.lists c (ListOf first places statements) _ _ holds
          (of_statements (asks.inside c (ListOf first places statements)) statements
          (asks.of_items c first places statements holds))

    pub of_turn : (c : C) (turn : Turn) → asks.HoldsList c (body_of_turn turn)
        → F c (λ s. turn_of one turn around s) (λ s. turn_of other turn around s)
    of_turn c (LoopTurn head body) holds =
        of_turned c head body (done_list one around body) (done_list other around body) holds
        (of_list c body holds)

    pub of_rest : (c : C) (list : TypedList) (rest : TypedStatements) → asks.HoldsList c list
        → asks.HoldsAll (asks.inside c list) rest
        → F c (λ s. rest_of one list rest around s) (λ s. rest_of other list rest around s)
    of_rest c list rest holds part =
        keeps.lists c list _ _ holds (of_statements (asks.inside c list) rest part)

-- a procedure that is found, in its module and with the room that its charge leaves
abbrev pub entered_if_found :
    Later → Option (TypedModule × TypedProcedure) → InProgram → List ℕ → Surroundings → State → Outcome ℕ
entered_if_found later found at arguments around s =
    option_map_or
    (λ (here : TypedModule × TypedProcedure).
    charged (charge_of here.1) (record around { number_of_module = at.number_of_module }) s
    (λ within t. entered later here.0 at.number here.1 arguments within t))
    found (Gave 0 s)

-- a call, once one of the budget was taken
pub of_found : (one other : Later) (around : Surroundings)
    (V : (A : Type 0) → (State → Outcome A) → (State → Outcome A) → Type 0)
    (F T : Unit {0} → (State → Outcome Flow) → (State → Outcome Flow) → Type 0)
    → ((number room : ℕ)
    → Preserves one other (record around { number_of_module = number; room = room }) no_condition V F T)
    → (found : Option (TypedModule × TypedProcedure)) (at : InProgram) (arguments : List ℕ)
    → V ℕ (λ s. entered_if_found one found at arguments around s)
    (λ s. entered_if_found other found at arguments around s)
of_found one other around V F T keeps None at arguments = (keeps 0 0).gives _ 0
of_found one other around V F T keeps (Some here) at arguments =
    let within : Surroundings =
    record around { number_of_module = at.number_of_module; room = around.room - charge_of here.1 } in
    let inside : Preserves one other within no_condition V F T =
    keeps at.number_of_module (around.room - charge_of here.1) in
    by_test one other within no_condition V F T inside (V ℕ) (nat_lt around.room (charge_of here.1)) _ _ _ _
    (inside.goes_outside Stack)
    (inside.enters tt (frame_of at.number here.0)
    (parameters_set within here.1.parameter_types here.1.parameters arguments)
    (done_list one within here.1.body) (done_list other within here.1.body)
    (of_parameters one other within no_condition V F T inside here.1.parameter_types here.1.parameters
    arguments)
    (of_list one other within no_condition V F T inside tt here.1.body tt))
