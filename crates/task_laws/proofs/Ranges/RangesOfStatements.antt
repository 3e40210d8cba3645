-- Values of typed trees are of their types: for statements, provided that those of calls, further turns and
-- jumps are.
use Rattle.task_laws.proofs.Prelude.{◌≡◌, ℕ, zero, suc, ◌+◌, ◌-◌, ◌%◌, ◌<◌, Bool, true, false, nat_le, Option, Some, None, option_map, slice_get, if◌then◌else◌, refl, subst, MEMORY_SIZE, type_of, TypedExpression, TypedStatement, LabelStatement, NullStatement, AssignmentStatement, CallStatement, MoveStatement, ReturnStatement, HaltStatement, GotoStatement, IfStatement, DoStatement, LoopStatement, CaseStatement, TypedElse, NoElse, ElseStatement, TypedStatements, NoStatements, MoreStatements, TypedList, ListOf, TypedModule, IsReturned, TypesHold, TypesHoldIn, TypesHoldInElse, TypesHoldInList, TypesHoldInStatements, Within, WithinMain, WithinProcedure, InMemory, Surroundings, read_byte, write_byte, Later, LoopTurn, Turn, called_for, callee_in, caught_in, done, done_all, done_case, done_else, done_list, dropped, going_on, landed, moved, rest_from, rest_of, returned, stored_in_each, turn_of, turned_loop, value, values, Flow, Gave, Jumped, Onward, Outcome, Returned, then_do, is_true, values_of, SourceFits, NumbersFit, NumbersFitIfSome, NumbersFitIn, NumbersFitInElse, NumbersFitInList, NumbersFitInStatements, HasTypes}
use Rattle.meaning.specs.Outcomes.{State}
use Rattle.task_laws.proofs.Ranges.RangesOfBytes.{Gives, IsGiven, IsStopped, byte_fits, gives_then, of_type, read_fits, either, after_taking}
use Rattle.task_laws.proofs.Ranges.RangesOfTrees.{CalleesAreHeaded, CallsGive, FlowFits, LaterFits, ReturnFits, TurnFits, calls_give, takes_fits, targets_fit, tree_fits, trees_fit}
use Rattle.task_laws.proofs.Ranges.Heads.{begun_fits, turned_fits}

-- the statements of a list from one on
pub dropped_types : (typed : TypedModule) (within : Within) (count : ℕ) (list : TypedStatements)
    → TypesHoldInStatements typed within list
    → TypesHoldInStatements typed within (dropped count list)
dropped_types typed within zero list types = types
dropped_types typed within (suc count) NoStatements types = types
dropped_types typed within (suc count) (MoreStatements first others) types =
    dropped_types typed within count others types.1

dropped_numbers : (count : ℕ) (list : TypedStatements)
    → NumbersFitInStatements list → NumbersFitInStatements (dropped count list)
dropped_numbers zero list small = small
dropped_numbers (suc count) NoStatements small = small
dropped_numbers (suc count) (MoreStatements first others) small = dropped_numbers count others small.1

-- the rest of a list from a label on has the types of the list
rest_types :
    (typed : TypedModule) (within : Within) (label : ℕ) (list : TypedList) (rest : TypedStatements)
    → TypesHoldInList typed within list × NumbersFitInList list
    → rest_from label list ≡ Some rest
    → TypesHoldInStatements typed within rest × NumbersFitInStatements rest
rest_types typed within label (ListOf first_label places statements) rest types is =
    by (nat_le first_label label) (slice_get places (label - first_label)) is
  where
    by : (test : Bool) (place : Option ℕ)
        → (if test then option_map (λ at. dropped at statements) place else None) ≡ Some rest
        → TypesHoldInStatements typed within rest × NumbersFitInStatements rest
    by true (Some place) same =
        let found : dropped place statements ≡ rest = cc in (
          subst (TypesHoldInStatements typed within) found
              (dropped_types typed within place statements types.0),
          subst NumbersFitInStatements found (dropped_numbers place statements types.1),
        )
    by true None same = absurd cc
    by false place same = absurd cc

module _ (around : Surroundings) where
  -- MOVE
  pub moved_fits : (count from to : ℕ) (s : State) → SourceFits around s
      → Gives (λ found t. SourceFits around t) (moved around.program count from to s)
  moved_fits zero from to s source = IsGiven source
  moved_fits (suc count) from to s source =
      gives_then (read_byte around.program (InMemory (from % MEMORY_SIZE)) s)
      (λ byte t.
      then_do (write_byte around.program (InMemory (to % MEMORY_SIZE)) byte t)
      (λ _ u. moved around.program count (from + 1) (to + 1) u))
      (read_fits around (InMemory (from % MEMORY_SIZE)) s source)
      (λ byte t one.
      gives_then (write_byte around.program (InMemory (to % MEMORY_SIZE)) byte t)
      (λ _ u. moved around.program count (from + 1) (to + 1) u)
      (byte_fits around (InMemory (to % MEMORY_SIZE)) byte t one.0 one.1)
      (λ _ u two. moved_fits count (from + 1) (to + 1) u two))

module _ (later : Later) (fits : LaterFits later) (typed : TypedModule) (within : Within)
    (around : Surroundings)
    (program : HasTypes around.program) (headed : CalleesAreHeaded typed around)
    (here : slice_get around.program.modules around.number_of_module ≡ Some typed) where
  -- the result of a part of a body
  abbrev FlowIs : Outcome Flow → Type 0
  FlowIs outcome = Gives (λ flow t. FlowFits within flow × SourceFits around t) outcome

  calls : CallsGive later typed around
  calls = calls_give later typed around fits program headed

  value_is : (tree : TypedExpression) (s : State)
      → TypesHold typed within tree → NumbersFit tree → SourceFits around s
      → Gives (λ n t. (n < values_of (type_of tree)) × SourceFits around t) (value later around tree s)
  value_is tree s types small source =
      tree_fits later typed within around program.script calls tree s types small source

  caught_fits : (list : TypedList) (flow : Flow) (s : State)
      → TypesHoldInList typed within list × NumbersFitInList list
      → FlowFits within flow × SourceFits around s
      → FlowIs (caught_in later around list flow s)
  caught_fits list Onward s types both = IsGiven both
  caught_fits list (Returned found) s types both = IsGiven both
  caught_fits list (Jumped label) s types both = by (rest_from label list) refl
    where
      by : (found : Option TypedStatements) → rest_from label list ≡ found
          → FlowIs (landed later around list label found s)
      by (Some rest) is =
          fits.onto typed within list rest around s program here types
          (rest_types typed within label list rest types is) both.1
      by None is = IsGiven (tt, both.1)

  goes_on : (flow : Flow) (go : State → Outcome Flow) (s : State)
      → ((t : State) → SourceFits around t → FlowIs (go t))
      → FlowFits within flow × SourceFits around s
      → FlowIs (going_on flow go s)
  goes_on Onward go s rest both = rest s both.1
  goes_on (Returned found) go s rest both = IsGiven both
  goes_on (Jumped label) go s rest both = IsGiven both

  -- RETURN
  returned_fits : (result : Option TypedExpression) (s : State)
      → IsReturned typed within result → NumbersFitIfSome result → SourceFits around s
      → FlowIs (returned later around result s)
  returned_fits None s types small source = IsGiven (by within types, source)
    where
      by : (its : Within) → IsReturned typed its None → ReturnFits its 0
      by (WithinProcedure number None) is = tt
      by (WithinProcedure number (Some scalar)) is = absurd is
      by WithinMain is = absurd is
  returned_fits (Some tree) s types small source =
      gives_then (value later around tree s) (λ n t. Gave (Returned n) t)
      (value_is tree s (by within types).0 small source)
      (λ n t one. IsGiven ((by within types).1 n one.0, one.1))
    where
      by : (its : Within) → IsReturned typed its (Some tree)
          → TypesHold typed its tree × ((n : ℕ) → n < values_of (type_of tree) → ReturnFits its n)
      by (WithinProcedure number None) is = absurd is
      by (WithinProcedure number (Some scalar)) is =
          (is.0, λ n less. of_type (type_of tree) scalar n is.1 less)
      by WithinMain is = absurd is

  mutual
    pub statement_fits : (statement : TypedStatement) (s : State)
        → TypesHoldIn typed within statement → NumbersFitIn statement → SourceFits around s
        → FlowIs (done later around statement s)
    statement_fits (LabelStatement label) s types small source = IsGiven (tt, source)
    statement_fits NullStatement s types small source = IsGiven (tt, source)
    statement_fits (AssignmentStatement targets tree) s types small source =
        gives_then (value later around tree s)
        (λ n t. then_do (stored_in_each later around targets n t) (λ _ u. Gave Onward u))
        (value_is tree s types.0 small.0 source)
        (λ n t one.
        gives_then (stored_in_each later around targets n t) (λ _ u. Gave Onward u)
        (targets_fit later typed within around program.script calls (type_of tree) targets t n
        types.1 small.1 one.1)
        (λ _ u two. IsGiven (tt, two)))
    statement_fits (CallStatement procedure trees) s types small source =
        gives_then (values later around trees s)
        (λ given t. then_do (called_for later (callee_in around procedure) given around t)
        (λ _ u. Gave Onward u))
        (trees_fit later typed within around program.script calls trees s types.1 small source)
        (λ given t one.
        gives_then (called_for later (callee_in around procedure) given around t) (λ _ u. Gave Onward u)
        (takes_fits later typed within around program.script calls procedure None trees given t
        types.0 one.0 one.1)
        (λ found u two. IsGiven (tt, two.1)))
    statement_fits (MoveStatement count source_tree destination) s types small source =
        gives_then (value later around count s)
        (λ bytes t.
        then_do (value later around source_tree t)
        (λ from u.
        then_do (value later around destination u)
        (λ to v. then_do (moved around.program bytes from to v) (λ _ w. Gave Onward w))))
        (value_is count s (types.0).0 small.0 source)
        (λ bytes t one.
        gives_then (value later around source_tree t)
        (λ from u.
        then_do (value later around destination u)
        (λ to v. then_do (moved around.program bytes from to v) (λ _ w. Gave Onward w)))
        (value_is source_tree t (types.1).0 small.1 one.1)
        (λ from u two.
        gives_then (value later around destination u)
        (λ to v. then_do (moved around.program bytes from to v) (λ _ w. Gave Onward w))
        (value_is destination u (types.2).0 small.2 two.1)
        (λ to v three.
        gives_then (moved around.program bytes from to v) (λ _ w. Gave Onward w)
        (moved_fits around bytes from to v three.1)
        (λ _ w four. IsGiven (tt, four)))))
    statement_fits (ReturnStatement result) s types small source = returned_fits result s types small source
    statement_fits HaltStatement s types small source = IsStopped
    statement_fits (GotoStatement label) s types small source =
        after_taking around s (λ t. Gave (Jumped label) t) source (λ t less. IsGiven (tt, less))
    statement_fits (IfStatement condition body otherwise) s types small source =
        gives_then (value later around condition s)
        (λ n t. if is_true n then done later around body t else done_else later around otherwise t)
        (value_is condition s types.0 small.0 source)
        (λ n t one.
        either (is_true n) (done later around body t) (done_else later around otherwise t)
        (statement_fits body t types.1 small.1 one.1)
        (else_fits otherwise t types.2 small.2 one.1))
    statement_fits (DoStatement body) s types small source = list_fits body s types small source
    statement_fits (LoopStatement head body) s types small source =
        begun_fits later fits typed within around program here value_is head
        (turned_loop later around head body (λ v. done_list later around body v)) s
        types.0 small.0
        (λ t one.
        turned_fits later fits typed within around program here value_is head body
        (λ v. done_list later around body v) t ((types.0, small.0), types.1, small.1)
        (λ u two. list_fits body u types.1 small.1 two) one) source
    statement_fits (CaseStatement choice statements) s types small source =
        gives_then (value later around choice s) (λ n t. done_case later around statements n t)
        (value_is choice s types.0 small.0 source)
        (λ n t one. case_fits statements n t types.1 small.1 one.1)

    else_fits : (otherwise : TypedElse) (s : State)
        → TypesHoldInElse typed within otherwise → NumbersFitInElse otherwise → SourceFits around s
        → FlowIs (done_else later around otherwise s)
    else_fits NoElse s types small source = IsGiven (tt, source)
    else_fits (ElseStatement statement) s types small source = statement_fits statement s types small source

    case_fits : (statements : TypedStatements) (number : ℕ) (s : State)
        → TypesHoldInStatements typed within statements → NumbersFitInStatements statements
        → SourceFits around s
        → FlowIs (done_case later around statements number s)
    case_fits NoStatements number s types small source = IsGiven (tt, source)
    case_fits (MoreStatements first others) zero s types small source =
        statement_fits first s types.0 small.0 source
    case_fits (MoreStatements first others) (suc number) s types small source =
        case_fits others number s types.1 small.1 source

    pub statements_fit : (statements : TypedStatements) (s : State)
        → TypesHoldInStatements typed within statements → NumbersFitInStatements statements
        → SourceFits around s
        → FlowIs (done_all later around statements s)
    statements_fit NoStatements s types small source = IsGiven (tt, source)
    statements_fit (MoreStatements first others) s types small source =
        gives_then (done later around first s)
        (λ flow t. going_on flow (λ u. done_all later around others u) t)
        (statement_fits first s types.0 small.0 source)
        (λ flow t one.
        goes_on flow (λ u. done_all later around others u) t
        (λ u inside. statements_fit others u types.1 small.1 inside) one)

    pub list_fits : (list : TypedList) (s : State)
        → TypesHoldInList typed within list → NumbersFitInList list → SourceFits around s
        → FlowIs (done_list later around list s)
    list_fits (ListOf first_label places statements) s types small source =
        gives_then (done_all later around statements s)
        (caught_in later around (ListOf first_label places statements))
        (statements_fit statements s types small source)
        (λ flow t one. caught_fits (ListOf first_label places statements) flow t (types, small) one)

  -- a further turn of a loop
  pub turn_fits : (turn : Turn) (s : State) → TurnFits typed within turn → SourceFits around s
      → FlowIs (turn_of later turn around s)
  turn_fits (LoopTurn head body) s types source =
      turned_fits later fits typed within around program here value_is head body
      (done_list later around body) s types
      (λ v inside. list_fits body v types.1 types.2 inside) source

  -- the rest of a list from a label on
  pub rest_fits : (list : TypedList) (rest : TypedStatements) (s : State)
      → TypesHoldInList typed within list × NumbersFitInList list
      → TypesHoldInStatements typed within rest × NumbersFitInStatements rest
      → SourceFits around s
      → FlowIs (rest_of later list rest around s)
  rest_fits list rest s types more source =
      gives_then (done_all later around rest s) (caught_in later around list)
      (statements_fit rest s more.0 more.1 source)
      (λ flow t one. caught_fits list flow t types one)
