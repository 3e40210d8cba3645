-- Labels, null statements, calls, HALT, GOTO and DO.
use Rattle.statement_laws.proofs.Prelude.{◌≡◌, ℕ, ◌+◌, ◌*◌, [], slice_get, Some, refl, sym, subst, ◌∙◌, arith, same_Some, count_of_arguments, height_of_arguments, height_of_statement, ListsStand, TypedStatement, DoStatement, TypesHoldIn, called_for, callee_in, done, values, Gave, Onward, Jumped, State, AtLabel, Jump, Range, Statement, StatementNumber, IsCall, IsDo, IsGoto, IsHalt, IsLabel, IsNull, IsStatementForm, IsStatementNode, Does, at_place, word_step, halts, then_does, no_facts_hold, Facts, body_label, Here, statement_steps, nodes_in, then_again, does_same, loaded_in, script_of, Behaves, BodyContext, IsSoundBody, Leaves, StatementDoes, StatementStands, room_for}
use Rattle.treecode.specs.declared.statement.Statement.TheVariants as statements
use Rattle.statement_laws.proofs.FirstSteps.{steps_ended, jump_first, list_first, mark_first, part_first, plain_first}
use Rattle.statement_laws.proofs.Outcomes.{ends_onward, taking_does, to_label}

-- code does what a statement of a form says
abbrev pub FormDoes :
    BodyContext → (before : Facts) → Statement → (from : ℕ) → (after : Here) → (to : ℕ) → Type 0
FormDoes at before statement from after to =
    (bound : ℕ) (tree : TypedStatement)
    → IsStatementForm (nodes_in at.context) at.context.storage at.labels bound statement tree
    → TypesHoldIn at.context.typed at.context.within tree
    → ListsStand tree
    → Behaves at before (2 + 2 * height_of_statement tree) from after to
    (done at.context.later at.context.activation.around tree)

-- where a statement has a form
pub form_does :
    (at : BodyContext) (before : Facts) (number : StatementNumber) (statement : Statement) (from : ℕ)
    (after : Here) (to : ℕ)
    → slice_get (nodes_in at.context).statements number.index ≡ Some statement
    → FormDoes at before statement from after to
    → StatementDoes at before number from after to
form_does at before number statement from after to there does bound tree
    (IsStatementNode {statement = found} below is form) =
    does number.index tree
    (subst (λ (one : Statement). IsStatementForm (nodes_in at.context) at.context.storage at.labels
    number.index one tree)
    (same_Some found statement (sym is ∙ there)) form)

-- a label is a place
pub label_does :
    (at : BodyContext) (before : Facts) (of label from : ℕ) (after : Here) (to : ℕ)
    → StatementStands at before (statements.Label of) label from after to
    → FormDoes at before (statements.Label of) from after to
unfolding statement_steps
label_does at before of label from after to stands bound _ (IsLabel names) types lists base s r memory
    below room ready known =
    ends_onward (steps_ended (mark_first stands).rest) refl
    (record { below = below; room = room; ready = ready; known = no_facts_hold })

-- nothing
pub null_does :
    (at : BodyContext) (before : Facts) (label from : ℕ) (after : Here) (to : ℕ)
    → StatementStands at before statements.Null label from after to
    → FormDoes at before statements.Null from after to
unfolding statement_steps
null_does at before label from after to stands bound _ IsNull types lists base s r memory
    below room ready known =
    ends_onward (steps_ended stands) refl
    (record { below = below; room = room; ready = ready; known = known })

-- a call whose result is not wanted
pub call_does :
    (at : BodyContext) (before : Facts) (procedure : ℕ) (arguments : Range) (label from : ℕ)
    (after : Here) (to : ℕ)
    → StatementStands at before (statements.Call procedure arguments) label from after to
    → FormDoes at before (statements.Call procedure arguments) from after to
unfolding statement_steps
call_does at before procedure arguments label from after to stands bound _ (IsCall {trees = trees} are) types
    lists base s r memory below room ready known =
    let first = part_first stands in
    let later = at.context.later in
    let around = at.context.activation.around in
    does_same _
    (sym (then_again (values later around trees s)
    (λ given t. called_for later (callee_in around procedure) given around t) (λ found t. Gave Onward t)))
    (then_does
    (first.does _ _ trees are types.0 types.1 at.context.activation.level base s r memory below
    (room_for (2 * (1 + count_of_arguments trees + height_of_arguments trees)) (omega arith) room) ready
    known tt)
    (λ found t end arrives less.
    subst (λ (there : State). Does (loaded_in at.context) t.budget 0 there (Gave Onward t)
    (Leaves at base to after s.budget))
    (sym arrives.is_at)
    (ends_onward (steps_ended first.rest) refl
    (record { below = omega (arith, less, below); room = room; ready = arrives.ready; known = (arrives.holds).known }))))

-- HALT
pub halt_does :
    (at : BodyContext) (before : Facts) (label from : ℕ) (after : Here) (to : ℕ)
    → IsSoundBody at
    → StatementStands at before statements.Halt label from after to
    → FormDoes at before statements.Halt from after to
unfolding statement_steps
halt_does at before label from after to sound stands bound _ IsHalt types lists base s r memory
    below room ready known =
    let first = plain_first stands in
    halts at.context.activation [] from (from + 1) at.context.activation.level base s r memory
    sound.sound.lies first.there ready

-- GOTO
pub goto_does :
    (at : BodyContext) (before : Facts) (of label from : ℕ) (after : Here) (to : ℕ)
    → IsSoundBody at
    → StatementStands at before (statements.Goto of) label from after to
    → FormDoes at before (statements.Goto of) from after to
unfolding statement_steps
goto_does at before of label from after to sound stands bound _ (IsGoto {label = name} names) types lists base
    s r memory below room ready known =
    let first = jump_first stands in
    taking_does s (λ t. Gave (Jumped name) t)
    (word_step (script_of at.context) at.context.activation Jump (AtLabel (body_label at.body of).index)
    [] from (from + 3) r
    memory s.events sound.sound.lies ready.shares.code first.there)
    refl refl
    (λ one_less. to_label of name names (omega (arith, one_less)) ready)

-- DO
pub do_does :
    (at : BodyContext) (before : Facts) (list : Range) (label from : ℕ) (after : Here) (to : ℕ)
    → StatementStands at before (statements.Do list) label from after to
    → FormDoes at before (statements.Do list) from after to
unfolding statement_steps
do_does at before list label from after to stands bound _ (IsDo {list = body} is) types lists base s r memory
    below room ready known =
    let first = list_first stands in
    let ends = steps_ended first.rest in
    subst (λ (last : Here). Does (loaded_in at.context) s.budget 0 (at_place from r memory s.events)
    (done at.context.later at.context.activation.around (DoStatement body) s)
    (Leaves at base to last s.budget)) (sym ends.same)
    (subst (λ (place : ℕ). Does (loaded_in at.context) s.budget 0 (at_place from r memory s.events)
    (done at.context.later at.context.activation.around (DoStatement body) s)
    (Leaves at base place first.after s.budget)) (sym ends.place)
    (first.does bound body is types lists base s r memory below room ready known))
