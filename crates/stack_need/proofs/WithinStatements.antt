-- Where the room is enough, statements do not go outside for the stack.
use Rattle.stack_need.proofs.Prelude.{◌≡◌, ℕ, zero, suc, ◌+◌, ◌-◌, ◌++◌, Bool, true, false, [], ◌∷◌, Option, Some, None, option_map, cond, nat_le, nat_lt, slice_get, refl, subst, TypedExpression, TypedIteration, TypedHead, TypedStatement, LabelStatement, NullStatement, AssignmentStatement, CallStatement, MoveStatement, ReturnStatement, HaltStatement, GotoStatement, IfStatement, DoStatement, LoopStatement, CaseStatement, TypedElse, NoElse, ElseStatement, TypedStatements, NoStatements, MoreStatements, TypedList, ListOf, as_type, is_true, values_of, Surroundings, place_of, Later, Turn, LoopTurn, after_turn, begun, called_for, callee_in, caught_in, done, done_all, done_case, done_else, done_list, dropped, going_on, landed, moved, next_turn, read_variable, rest_from, rest_of, returned, step_value, stored_in_each, turn_of, turned, value, values, write_variable, State, Outcome, Gave, then_do, taking_one, Flow, Onward, Returned, Jumped, calls_in, calls_in_arguments, calls_in_else, calls_in_head, calls_in_list, calls_in_optional, calls_in_statement, calls_in_statements, calls_in_targets, HoldsAll, HoldsCall, HoldsTurn, LaterStays, StaysWithin}
use Rattle.typed_trees.specs.TypedTrees.{WhileHead, CountHead}
use Rattle.meaning.specs.Meaning.{stepped}
use Rattle.stack_need.proofs.Elements.{all_left, all_right}
use Rattle.stack_need.proofs.Within.{call_stays, changes_scalar, either, moved_stays, then_do_stays, reads_scalar, takes_one, targets_stay, value_stays, values_stay}

-- the rest of a list calls what the list calls
rest_holds : (around : Surroundings) (count : ℕ) (statements : TypedStatements)
    → HoldsAll around (calls_in_statements statements)
    → HoldsAll around (calls_in_statements (dropped count statements))
rest_holds around zero statements holds = holds
rest_holds around (suc count) NoStatements holds = holds
rest_holds around (suc count) (MoreStatements first others) holds =
    rest_holds around count others
    (all_right (HoldsCall around) (calls_in_statement first) (calls_in_statements others) holds)

module _ (later : Later) (stays : LaterStays later) where
  -- a jump goes on in the list that holds its label
  lands : (list : TypedList) (label : ℕ) (rest : Option TypedStatements) (around : Surroundings) (s : State)
      → HoldsAll around (calls_in_list list)
      → ((found : TypedStatements) → rest ≡ Some found → HoldsAll around (calls_in_statements found))
      → StaysWithin (landed later around list label rest s)
  lands list label (Some rest) around s holds found = stays.onto list rest around s holds (found rest refl)
  lands list label None around s holds found = tt

  place_found : (around : Surroundings) (statements : TypedStatements) (place : Option ℕ)
      (found : TypedStatements) → HoldsAll around (calls_in_statements statements)
      → option_map (λ number. dropped number statements) place ≡ Some found
      → HoldsAll around (calls_in_statements found)
  place_found around statements None found holds same = let bad : ⊥ = cc in absurd bad
  place_found around statements (Some place) found holds same =
      let is : dropped place statements ≡ found = cc in
      subst (λ one. HoldsAll around (calls_in_statements one)) is (rest_holds around place statements holds)

  label_found : (around : Surroundings) (test : Bool) (statements : TypedStatements) (place : Option ℕ)
      (found : TypedStatements) → HoldsAll around (calls_in_statements statements)
      → cond test (option_map (λ number. dropped number statements) place) None ≡ Some found
      → HoldsAll around (calls_in_statements found)
  label_found around true statements place found holds same =
      place_found around statements place found holds same
  label_found around false statements place found holds same = let bad : ⊥ = cc in absurd bad

  from_label : (list : TypedList) (label : ℕ) (around : Surroundings) (found : TypedStatements)
      → HoldsAll around (calls_in_list list) → rest_from label list ≡ Some found
      → HoldsAll around (calls_in_statements found)
  from_label (ListOf first_label places statements) label around found holds same =
      label_found around (nat_le first_label label) statements
      (slice_get places (label - first_label)) found holds same

  catches : (list : TypedList) (flow : Flow) (around : Surroundings) (s : State)
      → HoldsAll around (calls_in_list list) → StaysWithin (caught_in later around list flow s)
  catches list Onward around s holds = tt
  catches list (Returned found) around s holds = tt
  catches list (Jumped label) around s holds =
      lands list label (rest_from label list) around s holds
      (λ found same. from_label list label around found holds same)

  goes_on : (flow : Flow) (go : State → Outcome Flow) (s : State) → StaysWithin (go s)
      → StaysWithin (going_on flow go s)
  goes_on Onward go s rest = rest
  goes_on (Returned found) go s rest = tt
  goes_on (Jumped label) go s rest = tt

  returns : (expression : Option TypedExpression) (around : Surroundings) (s : State)
      → HoldsAll around (calls_in_optional expression) → StaysWithin (returned later around expression s)
  returns None around s holds = tt
  returns (Some expression) around s holds =
      then_do_stays (value later around expression s) _
      (value_stays later stays expression around s holds) (λ found t. tt)

  steps : (step : Option TypedExpression) (around : Surroundings) (s : State)
      → HoldsAll around (calls_in_optional step) → StaysWithin (step_value later around step s)
  steps None around s holds = tt
  steps (Some step) around s holds = value_stays later stays step around s holds

  turns_next : (head : TypedIteration) (body : TypedList) (sum : ℕ) (around : Surroundings) (s : State)
      → HoldsTurn around (LoopTurn (CountHead head) body)
      → StaysWithin (next_turn later around head body sum s)
  turns_next head body sum around s holds =
      either (nat_lt sum (values_of head.scalar)) (later.again (LoopTurn (CountHead head) body) around s)
      (Gave Onward s) (stays.again (LoopTurn (CountHead head) body) around s holds) tt

  -- the parts of the head of an iterative DO
  first_of_head : (head : TypedIteration) (around : Surroundings)
      → HoldsAll around (calls_in_head (CountHead head))
      → HoldsAll around (calls_in head.first)
  first_of_head head around holds =
      all_left (HoldsCall around) (calls_in head.first)
      (calls_in head.last ++ calls_in_optional head.step) holds

  last_of_head : (head : TypedIteration) (around : Surroundings)
      → HoldsAll around (calls_in_head (CountHead head))
      → HoldsAll around (calls_in head.last)
  last_of_head head around holds =
      all_left (HoldsCall around) (calls_in head.last) (calls_in_optional head.step)
      (all_right (HoldsCall around) (calls_in head.first)
      (calls_in head.last ++ calls_in_optional head.step) holds)

  step_of_head : (head : TypedIteration) (around : Surroundings)
      → HoldsAll around (calls_in_head (CountHead head))
      → HoldsAll around (calls_in_optional head.step)
  step_of_head head around holds =
      all_right (HoldsCall around) (calls_in head.last) (calls_in_optional head.step)
      (all_right (HoldsCall around) (calls_in head.first)
      (calls_in head.last ++ calls_in_optional head.step) holds)

  steps_after : (head : TypedIteration) (body : TypedList) (flow : Flow) (around : Surroundings) (s : State)
      → HoldsTurn around (LoopTurn (CountHead head) body)
      → StaysWithin (stepped later around head body flow s)
  steps_after head body Onward around s holds =
      then_do_stays (step_value later around head.step s) _
      (steps head.step around s (step_of_head head around holds.0))
      (λ step t.
      then_do_stays (read_variable around head t) _
      (reads_scalar around.program head.scalar (place_of around head.variable) t)
      (λ found u.
      then_do_stays (write_variable around head (as_type head.scalar (found + step)) u) _
      (changes_scalar around.program head.scalar (place_of around head.variable)
      (as_type head.scalar (found + step)) u)
      (λ done v. turns_next head body (found + step) around v holds)))
  steps_after head body (Returned found) around s holds = tt
  steps_after head body (Jumped label) around s holds = tt

  turns_after : (turn : Turn) (flow : Flow) (around : Surroundings) (s : State) → HoldsTurn around turn
      → StaysWithin (after_turn later around turn flow s)
  turns_after turn Onward around s holds = stays.again turn around s holds
  turns_after turn (Returned found) around s holds = tt
  turns_after turn (Jumped label) around s holds = tt

  turns_stay : (head : TypedHead) (body : TypedList) (body_done : State → Outcome Flow)
      (around : Surroundings) → ((t : State) → StaysWithin (body_done t)) → (s : State)
      → HoldsTurn around (LoopTurn head body)
      → StaysWithin (turned later around head body body_done s)
  turns_stay (WhileHead condition) body body_done around body_stays s holds =
      then_do_stays (value later around condition s) _
      (value_stays later stays condition around s holds.0)
      (λ found t.
      either (is_true found)
      (taking_one t
      (λ u. then_do (body_done u) (after_turn later around (LoopTurn (WhileHead condition) body))))
      (Gave Onward t)
      (takes_one t
      (λ u. then_do (body_done u) (after_turn later around (LoopTurn (WhileHead condition) body)))
      (λ u.
      then_do_stays (body_done u) (after_turn later around (LoopTurn (WhileHead condition) body))
      (body_stays u)
      (λ flow v. turns_after (LoopTurn (WhileHead condition) body) flow around v holds)))
      tt)
  turns_stay (CountHead head) body body_done around body_stays s holds =
      then_do_stays (value later around head.last s) _
      (value_stays later stays head.last around s (last_of_head head around holds.0))
      (λ last t.
      then_do_stays (read_variable around head t) _
      (reads_scalar around.program head.scalar (place_of around head.variable) t)
      (λ found u.
      either (nat_lt last found) (Gave Onward u)
      (taking_one u (λ v. then_do (body_done v) (stepped later around head body))) tt
      (takes_one u (λ v. then_do (body_done v) (stepped later around head body))
      (λ v. then_do_stays (body_done v) (stepped later around head body) (body_stays v)
      (λ flow w. steps_after head body flow around w holds)))))

  -- the variable of an iterative DO gets its first value
  begins : (head : TypedHead) (turns : State → Outcome Flow) (around : Surroundings)
      → ((t : State) → StaysWithin (turns t)) → (s : State) → HoldsAll around (calls_in_head head)
      → StaysWithin (begun later around head turns s)
  begins (WhileHead condition) turns around stay s holds = stay s
  begins (CountHead head) turns around stay s holds =
      then_do_stays (value later around head.first s) _
      (value_stays later stays head.first around s (first_of_head head around holds))
      (λ found t.
      then_do_stays (write_variable around head (as_type head.scalar found) t) _
      (changes_scalar around.program head.scalar (place_of around head.variable)
      (as_type head.scalar found) t)
      (λ done u. stay u))

  mutual
    pub statement_stays : (statement : TypedStatement) (around : Surroundings) (s : State)
        → HoldsAll around (calls_in_statement statement) → StaysWithin (done later around statement s)
    statement_stays (LabelStatement label) around s holds = tt
    statement_stays NullStatement around s holds = tt
    statement_stays (AssignmentStatement targets expression) around s holds =
        then_do_stays (value later around expression s) _
        (value_stays later stays expression around s
        (all_left (HoldsCall around) (calls_in expression) (calls_in_targets targets) holds))
        (λ found t.
        then_do_stays (stored_in_each later around targets found t) _
        (targets_stay later stays targets found around t
        (all_right (HoldsCall around) (calls_in expression) (calls_in_targets targets) holds))
        (λ done u. tt))
    statement_stays (CallStatement procedure arguments) around s holds =
        then_do_stays (values later around arguments s) _
        (values_stay later stays arguments around s
        (all_left (HoldsCall around) (calls_in_arguments arguments) (procedure ∷ []) holds))
        (λ given t.
        then_do_stays (called_for later (callee_in around procedure) given around t) _
        (call_stays later stays procedure given around t
        (all_right (HoldsCall around) (calls_in_arguments arguments) (procedure ∷ []) holds).0)
        (λ done u. tt))
    statement_stays (MoveStatement count source destination) around s holds =
        let rest : HoldsAll around (calls_in source ++ calls_in destination) =
        all_right (HoldsCall around) (calls_in count) (calls_in source ++ calls_in destination) holds in
        then_do_stays (value later around count s) _
        (value_stays later stays count around s
        (all_left (HoldsCall around) (calls_in count) (calls_in source ++ calls_in destination) holds))
        (λ bytes t.
        then_do_stays (value later around source t) _
        (value_stays later stays source around t
        (all_left (HoldsCall around) (calls_in source) (calls_in destination) rest))
        (λ from u.
        then_do_stays (value later around destination u) _
        (value_stays later stays destination around u
        (all_right (HoldsCall around) (calls_in source) (calls_in destination) rest))
        (λ to v. then_do_stays (moved around.program bytes from to v) _
        (moved_stays around.program bytes from to v) (λ done w. tt))))
    statement_stays (ReturnStatement expression) around s holds = returns expression around s holds
    statement_stays HaltStatement around s holds = tt
    statement_stays (GotoStatement label) around s holds = takes_one s (λ t. Gave (Jumped label) t) (λ t. tt)
    statement_stays (IfStatement condition body otherwise) around s holds =
        let rest : HoldsAll around (calls_in_statement body ++ calls_in_else otherwise) =
        all_right (HoldsCall around) (calls_in condition)
        (calls_in_statement body ++ calls_in_else otherwise) holds in
        then_do_stays (value later around condition s) _
        (value_stays later stays condition around s
        (all_left (HoldsCall around) (calls_in condition)
        (calls_in_statement body ++ calls_in_else otherwise) holds))
        (λ found t.
        either (is_true found) (done later around body t) (done_else later around otherwise t)
        (statement_stays body around t (all_left (HoldsCall around) (calls_in_statement body)
        (calls_in_else otherwise) rest))
        (else_stays otherwise around t (all_right (HoldsCall around) (calls_in_statement body)
        (calls_in_else otherwise) rest)))
    statement_stays (DoStatement body) around s holds = list_stays body around s holds
    statement_stays (LoopStatement head body) around s holds =
        let one : HoldsAll around (calls_in_head head) =
        all_left (HoldsCall around) (calls_in_head head) (calls_in_list body) holds in
        let two : HoldsAll around (calls_in_list body) =
        all_right (HoldsCall around) (calls_in_head head) (calls_in_list body) holds in
        begins head (turned later around head body (done_list later around body)) around
        (λ t. turns_stay head body (done_list later around body) around
        (λ u. list_stays body around u two) t (one, two))
        s one
    statement_stays (CaseStatement choice statements) around s holds =
        then_do_stays (value later around choice s) _
        (value_stays later stays choice around s
        (all_left (HoldsCall around) (calls_in choice) (calls_in_statements statements) holds))
        (λ found t. case_stays statements found around t
        (all_right (HoldsCall around) (calls_in choice) (calls_in_statements statements) holds))

    pub else_stays : (otherwise : TypedElse) (around : Surroundings) (s : State)
        → HoldsAll around (calls_in_else otherwise) → StaysWithin (done_else later around otherwise s)
    else_stays NoElse around s holds = tt
    else_stays (ElseStatement statement) around s holds = statement_stays statement around s holds

    pub case_stays : (statements : TypedStatements) (found : ℕ) (around : Surroundings) (s : State)
        → HoldsAll around (calls_in_statements statements)
        → StaysWithin (done_case later around statements found s)
    case_stays NoStatements found around s holds = tt
    case_stays (MoreStatements first others) zero around s holds =
        statement_stays first around s
        (all_left (HoldsCall around) (calls_in_statement first) (calls_in_statements others) holds)
    case_stays (MoreStatements first others) (suc found) around s holds =
        case_stays others found around s
        (all_right (HoldsCall around) (calls_in_statement first) (calls_in_statements others) holds)

    pub statements_stay : (statements : TypedStatements) (around : Surroundings) (s : State)
        → HoldsAll around (calls_in_statements statements) → StaysWithin (done_all later around statements s)
    statements_stay NoStatements around s holds = tt
    statements_stay (MoreStatements statement others) around s holds =
        then_do_stays (done later around statement s) _
        (statement_stays statement around s
        (all_left (HoldsCall around) (calls_in_statement statement) (calls_in_statements others) holds))
        (λ flow t.
        goes_on flow (λ u. done_all later around others u) t
        (statements_stay others around t (all_right (HoldsCall around) (calls_in_statement statement)
        (calls_in_statements others) holds)))

    pub list_stays : (list : TypedList) (around : Surroundings) (s : State)
        → HoldsAll around (calls_in_list list) → StaysWithin (done_list later around list s)
    list_stays (ListOf first_label places statements) around s holds =
        then_do_stays (done_all later around statements s)
        (caught_in later around (ListOf first_label places statements))
        (statements_stay statements around s holds)
        (λ flow t. catches (ListOf first_label places statements) flow around t holds)

  pub turn_stays : (turn : Turn) (around : Surroundings) (s : State) → HoldsTurn around turn
      → StaysWithin (turn_of later turn around s)
  turn_stays (LoopTurn head body) around s holds =
      turns_stay head body (done_list later around body) around (λ t. list_stays body around t holds.1)
      s holds

  pub rest_stays : (list : TypedList) (rest : TypedStatements) (around : Surroundings) (s : State)
      → HoldsAll around (calls_in_list list) → HoldsAll around (calls_in_statements rest)
      → StaysWithin (rest_of later list rest around s)
  rest_stays list rest around s holds in_rest =
      then_do_stays (done_all later around rest s) (caught_in later around list)
      (statements_stay rest around s in_rest) (λ flow t. catches list flow around t holds)
