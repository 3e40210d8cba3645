-- The head of a loop: its code marks no place, and follows what is done before the first turn and in each.
use Rattle.stack_code.proofs.Prelude.{◌≡◌, ℕ, suc, ◌+◌, ◌-◌, ◌<◌, ◌≤◌, Bool, List, [], ◌∷◌, ◌++◌, length, nat_lt, Option, Some, None, arith, refl, sym, ScalarType, Address, TypedExpression, TypedIteration, TypedHead, TypedList, Instruction, ToRead, ToWrite, Site, expression_code, first_code, list_code, step_code, test_code, turn_code, value_or, variable_code, AllPlain, hits, ◌%◌, nat_le, if◌then◌else◌, subst, Byte, GreaterOrEqual, ListStands, as_type, truth, values_of, Surroundings, place_of, write_scalar, Later, LoopTurn, after_turn, begun, done_list, read_variable, step_value, stepped, turned, write_variable, State, Outcome, Gave, then_do, Flow, Onward, nothing_else, LaterKeeps, changes_scalar, reads_scalar, list_keeps, step_keeps, Call, Machine, Progress, Going, Ahead, Leads, Stands, after, exits, machine_at, length_of_turn, site_in, turns_code}
use Rattle.typed_trees.specs.TypedTrees.{WhileHead, CountHead}
use Rattle.stack_code.specs.declared.instruction.Instruction.TheVariants as instructions
use Rattle.stack_code.proofs.Steps.{after_leaving, follows_kept, leads_as, leads_here, leads_then}
use Rattle.stack_code.proofs.Standing.{instruction_gives, leads_to, stands_end, stands_split, drop_leads}
use Rattle.stack_code.proofs.References.{variable_follows, variable_read}
use Rattle.stack_code.proofs.Expressions.{value_follows, value_first}
use Rattle.stack_code.proofs.Flows.{flow_then, loop_leads, past_leads, unless_flag}
use Rattle.stack_code.proofs.Plain.{plain_append, plain_expression, plain_variable, plain_value_or}

-- ---- what marks no place
module _ (site : Site) where
  pub plain_first : (head : TypedHead) → AllPlain (first_code site head)
  plain_first (WhileHead condition) = tt
  plain_first (CountHead head) =
      plain_append (expression_code site head.first) _ (plain_expression site head.first)
      (plain_variable site (ToWrite head.scalar) head.variable, (refl, tt))

  pub plain_test : (head : TypedHead) → AllPlain (test_code site head)
  plain_test (WhileHead condition) = plain_expression site condition
  plain_test (CountHead head) =
      plain_append (expression_code site head.last) _ (plain_expression site head.last)
      (plain_variable site (ToRead head.scalar) head.variable, (refl, tt))

  plain_step : (head : TypedIteration) → AllPlain (step_code site head)
  plain_step head =
      plain_append (value_or site 1 head.step) _ (plain_value_or site 1 head.step) (
        plain_variable site (ToRead head.scalar) head.variable,
        (refl, (plain_variable site (ToWrite head.scalar) head.variable, (refl, (refl, tt)))),
      )

  -- a turn has the marks of the body
  pub turn_hits : (test : Instruction → Bool)
      → ((one other : List Instruction) → AllPlain other → hits test (one ++ other) ≡ hits test one)
      → (head : TypedHead) (body : List Instruction)
      → hits test (turn_code site head body) ≡ hits test body
  turn_hits test before (WhileHead condition) body = refl
  turn_hits test before (CountHead head) body = before body (step_code site head) (plain_step head)

-- ---- what its code follows
as_type_twice : (scalar : ScalarType) (number : ℕ)
    → as_type scalar (as_type scalar number) ≡ as_type scalar number
as_type_twice Byte number = once number
  where
    once : (number : ℕ) → (number % 256) % 256 ≡ number % 256
    once number = omega arith
as_type_twice Address number = once number
  where
    once : (number : ℕ) → (number % 65536) % 65536 ≡ number % 65536
    once number = omega arith

module _ (code : List Instruction) (around : Surroundings) (calls : List Call) (later : Later) (number : ℕ)
    (kept : LaterKeeps number later) (ahead : Ahead around.program code later number) (stack : List ℕ) where
  -- the machine before a statement, and what follows a flow
  abbrev here : (at : ℕ) → State → Machine
  here at s = machine_at around calls at stack s

  abbrev out : (to : ℕ) → Flow → State → Progress
  out to = exits code around calls stack to

  -- what is known of the body of a loop
  abbrev BodyFollows : TypedList → Type 0
  BodyFollows body =
      (from to : ℕ) (s : State) → Stands code from (list_code (site_in around) body) to → s.budget < number
      → Leads code (here from s) (after (done_list later around body s) (out to))

  -- what is known of the turns of a loop, from the test on
  abbrev TurnsFollow : TypedHead → TypedList → Type 0
  TurnsFollow head body =
      (from to : ℕ) (s : State) → ListStands body → BodyFollows body
      → Stands code from (turns_code (site_in around) head body) to → s.budget < number
      → Leads code (here (from + length_of_turn (site_in around) head body) s)
      (after (turned later around head body (λ t. done_list later around body t) s) (out to))

  -- those of a DO WHILE
  while_follows : (condition : TypedExpression) (body : TypedList) → TurnsFollow (WhileHead condition) body
  while_follows condition body from to s lists body_follows stands below =
      let parts = stands_split code from to (list_code (site_in around) body) _ stands in
      let more = stands_split code parts.0 to (expression_code (site_in around) condition) _ parts.2 in
      let test_at : parts.0 ≡ from + length (list_code (site_in around) body) =
      stands_end code from parts.0 (list_code (site_in around) body) parts.1 in
      let back_at : more.0 ≡ parts.0 + length (expression_code (site_in around) condition) =
      stands_end code parts.0 more.0 (expression_code (site_in around) condition) more.1 in
      let back : more.0
      - (length (list_code (site_in around) body) + length (expression_code (site_in around) condition))
      ≡ from = omega (arith, test_at, back_at) in
      subst (λ at. Leads code (here at s)
      (after (turned later around (WhileHead condition) body (λ t. done_list later around body t) s)
      (out to))) test_at
      (value_first code around calls later number kept ahead condition parts.0 more.0 stack s _ (out to)
      more.1 below
      (λ found t first.
      loop_leads code around calls stack found more.0
      (length (list_code (site_in around) body) + length (expression_code (site_in around) condition))
      from to t
      (λ u. then_do (done_list later around body u)
      (after_turn later around (LoopTurn (WhileHead condition) body)))
      more.2.0 back more.2.1
      (λ positive.
      let u : State = record t { budget = t.budget - 1 } in
      let less : suc u.budget ≤ t.budget = omega (arith, positive) in
      let fits : t.budget < number = omega (arith, first.follows.budget, below) in
      let under : u.budget < number = omega (arith, less, fits) in
      flow_then code around calls stack (here from u) u (done_list later around body u)
      (after_turn later around (LoopTurn (WhileHead condition) body)) parts.0 to
      (list_keeps number later kept body around u under) (body_follows from parts.0 u parts.1 under)
      (λ v second.
      subst (λ at. Leads code (here at v)
      (after (later.again (LoopTurn (WhileHead condition) body) around v) (out to)))
      (sym test_at)
      (ahead.again around.number_of_module around.room calls stack (WhileHead condition) body from to v lists
      stands (omega (arith, second.follows.budget, less, fits))))
      (λ value_given v. refl)
      (λ label v second took. leads_here code _))))

  -- the value of a step
  step_follows : (step : Option TypedExpression) (from to : ℕ) (s : State)
      → Stands code from (value_or (site_in around) 1 step) to → s.budget < number
      → Leads code (here from s)
      (after (step_value later around step s)
      (λ found t. Going (machine_at around calls to (found ∷ stack) t)))
  step_follows None from to s stands below =
      instruction_gives code around calls from to (instructions.Push 1) stack (1 ∷ stack) s s stands refl
  step_follows (Some step) from to s stands below =
      value_follows code around calls later number kept ahead step from to stack s stands below

  write_follows : (scalar : ScalarType) (object found from to : ℕ) (others : List ℕ) (s : State)
      → Stands code from (variable_code (site_in around) (ToWrite scalar) object ∷ []) to
      → Leads code (machine_at around calls from (found ∷ others) s)
      (after (write_scalar around.program scalar (place_of around object) (as_type scalar found) s)
      (λ _ t. Going (machine_at around calls to (found ∷ others) t)))
  write_follows scalar object found from to others s stands =
      leads_as code _ _ _
      (after_leaving (write_scalar around.program scalar (place_of around object) (as_type scalar found)
      s) (found ∷ others) (λ one t. Going (machine_at around calls to one t)))
      (variable_follows code around calls (ToWrite scalar) object from to (found ∷ others) s stands)

  -- after the body of an iterative DO
  stepped_follows : (head : TypedIteration) (body : TypedList) (from middle to : ℕ) (s : State)
      → Stands code from (step_code (site_in around) head) middle
      → middle + (length (test_code (site_in around) (CountHead head)) + 1) ≡ to → suc s.budget < number
      → ((t : State) → suc t.budget < number
      → Leads code (here middle t) (after (later.again (LoopTurn (CountHead head) body) around t) (out to)))
      → Leads code (here from s) (after (stepped later around head body Onward s) (out to))
  stepped_follows head body from middle to s stands past below again =
      let parts = stands_split code from middle (value_or (site_in around) 1 head.step) _ stands in
      let a : ℕ = parts.0 in
      let b : ℕ = a + 1 in
      let c : ℕ = b + 1 in
      let d : ℕ = c + 1 in
      let e : ℕ = d + 1 in
      let end : e + 1 ≡ middle = parts.2.1.1.1.1.1 in
      let there : e + 1 + (length (test_code (site_in around) (CountHead head)) + 1) ≡ to =
      omega (arith, end, past) in
      follows_kept code around.program nothing_else s _ (step_value later around head.step s) _
      (λ found t. machine_at around calls a (found ∷ stack) t) (out to)
      (step_keeps number later kept head.step around s (omega (arith, below)))
      (step_follows head.step from a s parts.1 (omega (arith, below)))
      (λ step t first more.
      follows_kept code around.program nothing_else t _ (read_variable around head t) _
      (λ found u. machine_at around calls b (found ∷ step ∷ stack) u) (out to)
      (reads_scalar around.program head.scalar (place_of around head.variable) t)
      (variable_read code around calls head.scalar head.variable a b (step ∷ stack) t (parts.2.0, refl))
      (λ found u second more_still.
      leads_then code _ _ _
      (instruction_gives code around calls b c (instructions.Step head.scalar) (found ∷ step ∷ stack)
      (as_type head.scalar (found + step)
      ∷ (if nat_lt (found + step) (values_of head.scalar) then 1 else 0)
      ∷ stack) u u (parts.2.1.0, refl) refl)
      (follows_kept code around.program nothing_else u _
      (write_variable around head (as_type head.scalar (found + step)) u) _
      (λ _ v. machine_at around calls d (as_type head.scalar (found + step)
      ∷ (if nat_lt (found + step) (values_of head.scalar) then 1 else 0) ∷ stack) v) (out to)
      (changes_scalar around.program head.scalar (place_of around head.variable)
      (as_type head.scalar (found + step)) u)
      (subst
      (λ written. Leads code (machine_at around calls c
      (as_type head.scalar (found + step)
      ∷ (if nat_lt (found + step) (values_of head.scalar) then 1 else 0) ∷ stack) u)
      (after (write_scalar around.program head.scalar (place_of around head.variable) written u)
      (λ _ v. Going (machine_at around calls d
      (as_type head.scalar (found + step)
      ∷ (if nat_lt (found + step) (values_of head.scalar) then 1 else 0) ∷ stack) v))))
      (as_type_twice head.scalar (found + step))
      (write_follows head.scalar head.variable (as_type head.scalar (found + step)) c d
      ((if nat_lt (found + step) (values_of head.scalar) then 1 else 0) ∷ stack) u (parts.2.1.1.0, refl)))
      (λ done v third last.
      leads_then code _ _ _
      (instruction_gives code around calls d e instructions.Drop
      (as_type head.scalar (found + step)
      ∷ (if nat_lt (found + step) (values_of head.scalar) then 1 else 0)
      ∷ stack) ((if nat_lt (found + step) (values_of head.scalar) then 1 else 0) ∷ stack) v v
      (parts.2.1.1.1.0, refl) refl)
      (unless_flag code around calls stack (nat_lt (found + step) (values_of head.scalar)) e
      (length (test_code (site_in around) (CountHead head)) + 1) to to v
      (later.again (LoopTurn (CountHead head) body) around v) (Gave Onward v)
      parts.2.1.1.1.1.0 there
      (subst (λ at. Leads code (here at v)
      (after (later.again (LoopTurn (CountHead head) body) around v) (out to)))
      (sym end)
      (again v (omega (arith, first.follows.budget, second.follows.budget, third.follows.budget, below))))
      (leads_here code _))))))

  -- those of an iterative DO
  iterate_follows : (head : TypedIteration) (body : TypedList) → TurnsFollow (CountHead head) body
  iterate_follows head body from to s lists body_follows stands below =
      let parts =
      stands_split code from to (list_code (site_in around) body ++ step_code (site_in around) head) _
      stands in
      let inner =
      stands_split code from parts.0 (list_code (site_in around) body)
      (step_code (site_in around) head) parts.1 in
      let more = stands_split code parts.0 to (test_code (site_in around) (CountHead head)) _ parts.2 in
      let test = stands_split code parts.0 more.0 (expression_code (site_in around) head.last) _ more.1 in
      let test_at : parts.0 ≡ from + length
      (list_code (site_in around) body ++ step_code (site_in around) head) =
      stands_end code from parts.0 (list_code (site_in around) body ++ step_code (site_in around) head)
      parts.1 in
      let back_at : more.0 ≡ parts.0 + length (test_code (site_in around) (CountHead head)) =
      stands_end code parts.0 more.0 (test_code (site_in around) (CountHead head)) more.1 in
      let count : ℕ =
      length (list_code (site_in around) body ++ step_code (site_in around) head)
      + length (test_code (site_in around) (CountHead head)) in
      let back : more.0 - count ≡ from = omega (arith, test_at, back_at) in
      let end : more.0 + 1 ≡ to = more.2.1 in
      let past : parts.0 + (length (test_code (site_in around) (CountHead head)) + 1) ≡ to =
      omega (arith, back_at, end) in
      subst (λ at. Leads code (here at s)
      (after (turned later around (CountHead head) body (λ t. done_list later around body t) s)
      (out to))) test_at
      (value_first code around calls later number kept ahead head.last parts.0 test.0 stack s _ (out to)
      test.1 below
      (λ last t first.
      follows_kept code around.program nothing_else t _ (read_variable around head t) _
      (λ found u. machine_at around calls (test.0 + 1) (found ∷ last ∷ stack) u) (out to)
      (reads_scalar around.program head.scalar (place_of around head.variable) t)
      (variable_read code around calls head.scalar head.variable test.0 (test.0 + 1)
      (last ∷ stack) t (test.2.0, refl))
      (λ found u second more_still.
      leads_then code _ _ _
      (instruction_gives code around calls (test.0 + 1) more.0 (instructions.Binary Address GreaterOrEqual)
      (found ∷ last ∷ stack) (truth (nat_le found last) ∷ stack) u u test.2.1 refl)
      (past_leads code around calls stack last found more.0 count from to u
      (λ v. then_do (done_list later around body v) (stepped later around head body)) more.2.0 back end
      (λ positive.
      let v : State = record u { budget = u.budget - 1 } in
      let less : suc v.budget ≤ u.budget = omega (arith, positive) in
      let fits : u.budget < number = omega (arith, first.follows.budget, second.follows.budget, below) in
      let under : v.budget < number = omega (arith, less, fits) in
      flow_then code around calls stack (here from v) v (done_list later around body v)
      (stepped later around head body) inner.0 to
      (list_keeps number later kept body around v under) (body_follows from inner.0 v inner.1 under)
      (λ w third.
      stepped_follows head body inner.0 parts.0 to w inner.2 past
      (omega (arith, third.follows.budget, less, fits))
      (λ x fits_still.
      subst (λ at. Leads code (here at x)
      (after (later.again (LoopTurn (CountHead head) body) around x) (out to)))
      (sym test_at)
      (ahead.again around.number_of_module around.room calls stack (CountHead head) body from to x lists
      stands fits_still)))
      (λ value_given w. refl)
      (λ label w third took. leads_here code _))))))

  pub turns_follow : (head : TypedHead) (body : TypedList) → TurnsFollow head body
  turns_follow (WhileHead condition) body = while_follows condition body
  turns_follow (CountHead head) body = iterate_follows head body

  -- what stands before the first turn of a loop
  pub begun_follows : (head : TypedHead) (turns : State → Outcome Flow) (from middle to : ℕ) (s : State)
      → Stands code from (first_code (site_in around) head) middle → s.budget < number
      → ((t : State) → t.budget < number → Leads code (here middle t) (after (turns t) (out to)))
      → Leads code (here from s) (after (begun later around head turns s) (out to))
  begun_follows (WhileHead condition) turns from middle to s stands below rest =
      leads_then code _ _ _ (leads_to code around calls from middle stack s stands) (rest s below)
  begun_follows (CountHead head) turns from middle to s stands below rest =
      let parts = stands_split code from middle (expression_code (site_in around) head.first) _ stands in
      value_first code around calls later number kept ahead head.first from parts.0 stack s _ (out to)
      parts.1 below
      (λ found t first.
      follows_kept code around.program nothing_else t _
      (write_variable around head (as_type head.scalar found) t) _
      (λ _ u. machine_at around calls (parts.0 + 1) (found ∷ stack) u) (out to)
      (changes_scalar around.program head.scalar (place_of around head.variable)
      (as_type head.scalar found) t)
      (write_follows head.scalar head.variable found parts.0 (parts.0 + 1) stack t (parts.2.0, refl))
      (λ done u second more.
      leads_then code _ _ _ (drop_leads code around calls found (parts.0 + 1) middle stack u parts.2.1)
      (rest u (omega (arith, first.follows.budget, second.follows.budget, below)))))
