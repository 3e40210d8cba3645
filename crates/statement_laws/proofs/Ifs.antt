-- IF.
use Rattle.statement_laws.proofs.Prelude.{◌≡◌, ℕ, ◌+◌, ◌*◌, ◌%◌, ◌<◌, ◌≤◌, ◌==◌, max, Bool, true, false, not, if◌then◌else◌, nat_eq, List, [], ◌∷◌, ◌++◌, slice_get, Option, Some, None, refl, sym, ap, subst, ◌∙◌, arith, same_Some, height_of, height_of_else, height_of_statement, ListsStand, ListsStandInElse, TypedExpression, TypedStatement, GotoStatement, TypedElse, NoElse, ElseStatement, TypesHold, TypesHoldIn, TypesHoldInElse, done, done_else, value, SourceState, Outcome, Gave, then_do, Flow, Onward, Returned, Jumped, is_true, Registers, State, AtLabel, Jump, ExpressionNumber, Statement, StatementNumber, IsElse, IsExpressionIn, IsGoto, IsIf, IsNoElse, IsSomeElse, IsStatement, IsStatementForm, IsStatementNode, statement, HasRoom, IsReady, IsThere, Does, at_place, word_step, after_step, does_without_step, then_does, no_facts_hold, Facts, LabelNumber, no_facts, label_of, jump_item, Site, number, knowing, Planned, body_label, both_steps, branch, computed_if_steps, goto_label, goto_label_of, has_one_jump, if_steps, statement_if_any, tested_if_steps, then_steps, nth_label, Here, jump_on_steps, known_here, site_of, statement_steps, nodes_in, jumps_once, StepsStand, JumpThere, MarkThere, NoneThere, BranchDoes, Goes, Know, PartDoes, Parts, Passes, number_means, does_same, gives_then, loaded_in, script_of, BodyContext, IsSoundBody, Leaves, StatementDoes, StatementStands, room_for}
use Rattle.treecode.specs.declared.statement.Statement.TheVariants as statements
use Rattle.steps8080.specs.declared.step.Step.TheVariants as steps
use Rattle.statement_laws.proofs.FirstSteps.{Stand, steps_ended, going, jumped_first, meet_first, part_first, statement_first, turn_first}
use Rattle.statement_laws.proofs.Meetings.{has_one_jump_is, meets_here, meets_waiting, waits_here}
use Rattle.statement_laws.proofs.Outcomes.{Between, does_later, ends_onward, taking_does, to_label}
use Rattle.statement_laws.proofs.Simple.{FormDoes}

-- a statement, and then the code after it
pub statement_then :
    {at : BodyContext} {base : List ℕ} {place to before budget : ℕ} {middle last : Here} {from : State}
    {outcome : Outcome Flow}
    → Does (loaded_in at.context) budget 0 from outcome (Leaves at base place middle before)
    → ((u : SourceState) (r : Registers) (memory : List ℕ)
    → u.budget ≤ budget
    → middle.goes_on ≡ true
    → IsReady at.context.activation at.context.activation.level base u.memory u.frame r memory
    → Know at.context middle.facts r memory
    → Does (loaded_in at.context) u.budget 0 (at_place place r memory u.events) (Gave Onward u)
    (Leaves at base to last before))
    → Does (loaded_in at.context) budget 0 from outcome (Leaves at base to last before)
statement_then {at = at} {base = base} {place = place} {to = to} {before = before} {budget = budget}
    {middle = middle} {last = last} {outcome = outcome} does rest =
    gives_then outcome does (λ flow u end leaves less. by flow u end less leaves)
  where
    by : (flow : Flow) (u : SourceState) (end : State) → u.budget ≤ budget
        → Leaves at base place middle before flow u end
        → Does (loaded_in at.context) u.budget 0 end (Gave flow u) (Leaves at base to last before)
    by Onward u end less leaves =
        let comes = leaves.comes in
        subst (λ (s : State). Does (loaded_in at.context) u.budget 0 s (Gave Onward u)
        (Leaves at base to last before)) (sym comes.is_at)
        (rest u comes.r comes.memory less leaves.goes_on comes.ready comes.holds)
    by (Returned found) u end less leaves = does_without_step leaves
    by (Jumped label) u end less leaves = does_without_step leaves

-- a statement that is a GOTO
pub record GoesTo (at : BodyContext) (label : LabelNumber) (tree : TypedStatement) : Type 0 where
  pub number : ℕ
  pub name : ℕ
  pub is : tree ≡ GotoStatement name
  pub label_is : label ≡ body_label at.body number
  pub names : slice_get at.labels number ≡ Some name

goto_form :
    (at : BodyContext) (label : LabelNumber) (of : Statement) (bound : ℕ) (tree : TypedStatement)
    → goto_label_of at.body of ≡ Some label
    → IsStatementForm (nodes_in at.context) at.context.storage at.labels bound of tree
    → GoesTo at label tree
goto_form at label (statements.Goto number) bound tree same (IsGoto {label = name} names) =
    record { number = number; name = name; is = refl; label_is = sym (same_Some (body_label at.body number) label same); names = names }
goto_form at label of bound tree same form = let never : ⊥ = cc in absurd never

goes_to :
    (at : BodyContext) (label : LabelNumber) (of : StatementNumber) (bound : ℕ) (tree : TypedStatement)
    → IsSoundBody at
    → goto_label at.body of ≡ Some label
    → IsStatement (nodes_in at.context) at.context.storage at.labels bound of.index tree
    → GoesTo at label tree
goes_to at label of bound tree sound same (IsStatementNode {statement = found} below there form) =
    goto_form at label found of.index tree
    (ap (λ (one : Option Statement). elim one [ Some given ↦ goto_label_of at.body given | None ↦ None ])
    (sym there ∙ ap (λ (site : Site). statement site.tree.now of) sound.site)
    ∙ same) form

-- what a branch to a GOTO does
pub goes_out :
    {at : BodyContext} {base : List ℕ} {to before : ℕ} {last : Here} {tree : TypedStatement}
    {label : LabelNumber}
    {t : SourceState} {end there : State} {r : Registers} {memory : List ℕ}
    → GoesTo at label tree
    → t.budget ≤ before
    → Rattle.isa8080.specs.Step.step_of (script_of at.context) end ≡ there
    → there ≡ at_place (at.context.activation.layout.place_of label.index) r memory t.events
    → IsReady at.context.activation at.context.activation.level base t.memory t.frame r memory
    → Does (loaded_in at.context) t.budget 0 end (done at.context.later at.context.activation.around tree t)
    (Leaves at base to last before)
goes_out {at = at} {base = base} {to = to} {before = before} {last = last} {t = t} {end = end} {r = r}
    {memory = memory} goto less step is_there ready =
    subst (λ (one : TypedStatement). Does (loaded_in at.context) t.budget 0 end
    (done at.context.later at.context.activation.around one t) (Leaves at base to last before)) (sym goto.is)
    (taking_does t (λ u. Gave (Jumped goto.name) u)
    (step ∙ is_there
    ∙ ap (λ (one : LabelNumber). at_place (at.context.activation.layout.place_of one.index) r memory t.events)
    goto.label_is)
    refl refl
    (λ one_less. to_label goto.number goto.name goto.names (omega (arith, one_less, less)) ready))

-- the steps of `Turn`
pub record Turned (at : BodyContext) (goes_on : Bool) (other end : LabelNumber) (from to : ℕ) : Type 0 where
  pub lies : at.context.activation.layout.place_of other.index ≡ to
  pub jumps : goes_on ≡ true → IsThere at.context.activation (jump_item Jump end ∷ []) from (from + 3)

pub turned :
    (at : BodyContext) (facts last : Facts) (goes_on : Bool) (other end : LabelNumber) (from to : ℕ)
    → StepsStand at.context (PartDoes at.context) facts from
    (jump_on_steps goes_on end ++ (steps.Mark other ∷ [])) last to
    → Turned at goes_on other end from to
turned at facts last true other end from to (JumpThere there (MarkThere lies NoneThere)) =
    record { lies = lies; jumps = λ goes. there }
turned at facts last false other end from to (MarkThere lies NoneThere) =
    record { lies = lies; jumps = λ goes. let never : ⊥ = cc in absurd never }

-- the parts of an IF
module _
    (at : BodyContext) (sound : IsSoundBody at) (facts : Facts) (need bound : ℕ)
    (condition : ExpressionNumber) (then_part : StatementNumber) (else_part : Option StatementNumber)
    (test : TypedExpression) (then_tree : TypedStatement) (else_tree : TypedElse)
    (is : IsExpressionIn (nodes_in at.context) at.context.storage condition test)
    (then_is : IsStatement (nodes_in at.context) at.context.storage at.labels bound then_part.index then_tree)
    (types : TypesHold at.context.typed at.context.within test)
    (then_types : TypesHoldIn at.context.typed at.context.within then_tree)
    (else_types : TypesHoldInElse at.context.typed at.context.within else_tree)
    (then_lists : ListsStand then_tree)
    (else_lists : ListsStandInElse else_tree)
    (fits : 2 + 2 * max (height_of test) (max (height_of_statement then_tree) (height_of_else else_tree))
    ≤ need)
    (base : List ℕ) (last : Here) (to : ℕ) (s : SourceState) (below : s.budget < at.context.number)
    (room : HasRoom at.context.activation at.context.activation.level 0 need)
  where
    -- what follows the condition
    abbrev chosen : Bool → SourceState → Outcome Flow
    chosen holds t =
        if holds then done at.context.later at.context.activation.around then_tree t
        else done_else at.context.later at.context.activation.around else_tree t

    -- a machine after the condition
    abbrev Comes : (holds : Bool) (t : SourceState) (end : State) → Type 0
    Comes holds t end =
        Does (loaded_in at.context) t.budget 0 end (chosen holds t) (Leaves at base to last s.budget)

    -- what is known after the condition of a machine
    stage : (t : SourceState) (known : Facts) (r : Registers) (memory : List ℕ)
        → t.budget ≤ s.budget
        → IsReady at.context.activation at.context.activation.level base t.memory t.frame r memory
        → Know at.context known r memory
        → Between at need base t known r memory
    stage t known r memory less ready knows =
        record { below = omega (arith, less, below); room = room; ready = ready; known = knows }

    -- the first statement, where the code goes on after it
    then_goes :
        (known : Facts) (from middle : ℕ) (h : Here) (t : SourceState) (r : Registers) (memory : List ℕ)
        → StatementDoes at known then_part from h middle
        → t.budget ≤ s.budget
        → IsReady at.context.activation at.context.activation.level base t.memory t.frame r memory
        → Know at.context known r memory
        → ((u : SourceState) (now : Registers) (kept : List ℕ)
        → u.budget ≤ s.budget
        → h.goes_on ≡ true
        → IsReady at.context.activation at.context.activation.level base u.memory u.frame now kept
        → Know at.context h.facts now kept
        → Does (loaded_in at.context) u.budget 0 (at_place middle now kept u.events) (Gave Onward u)
        (Leaves at base to last s.budget))
        → Does (loaded_in at.context) t.budget 0 (at_place from r memory t.events)
        (done at.context.later at.context.activation.around then_tree t) (Leaves at base to last s.budget)
    then_goes known from middle h t r memory does less ready knows rest =
        statement_then
        (does_later s.budget less
        (does bound then_tree then_is then_types then_lists base t r memory (omega (arith, less, below))
        (room_for (2 + 2 * height_of_statement then_tree) (omega (arith, fits)) room) ready knows))
        (λ u now kept fewer goes there known_there. rest u now kept (omega (arith, fewer, less))
        goes there known_there)

    -- the second one
    else_goes :
        (else_number : StatementNumber) (else_statement : TypedStatement) (known : Facts)
        (from middle : ℕ) (h : Here)
        (t : SourceState) (r : Registers) (memory : List ℕ)
        → else_tree ≡ ElseStatement else_statement
        → IsStatement (nodes_in at.context) at.context.storage at.labels bound
        else_number.index else_statement
        → StatementDoes at known else_number from h middle
        → t.budget ≤ s.budget
        → IsReady at.context.activation at.context.activation.level base t.memory t.frame r memory
        → Know at.context known r memory
        → ((u : SourceState) (now : Registers) (kept : List ℕ)
        → u.budget ≤ s.budget
        → h.goes_on ≡ true
        → IsReady at.context.activation at.context.activation.level base u.memory u.frame now kept
        → Know at.context h.facts now kept
        → Does (loaded_in at.context) u.budget 0 (at_place middle now kept u.events) (Gave Onward u)
        (Leaves at base to last s.budget))
        → Does (loaded_in at.context) t.budget 0 (at_place from r memory t.events)
        (done_else at.context.later at.context.activation.around else_tree t)
        (Leaves at base to last s.budget)
    else_goes else_number else_statement known from middle h t r memory same else_is does
        less ready knows rest =
        let types_there : TypesHoldInElse at.context.typed at.context.within (ElseStatement else_statement) =
        subst (λ (one : TypedElse). TypesHoldInElse at.context.typed at.context.within one) same else_types in
        let lists_there : ListsStandInElse (ElseStatement else_statement) =
        subst (λ (one : TypedElse). ListsStandInElse one) same else_lists in
        let high : height_of_else else_tree ≡ height_of_statement else_statement = ap height_of_else same in
        subst (λ (one : TypedElse). Does (loaded_in at.context) t.budget 0 (at_place from r memory t.events)
        (done_else at.context.later at.context.activation.around one t)
        (Leaves at base to last s.budget)) (sym same)
        (statement_then
        (does_later s.budget less
        (does bound else_statement else_is types_there lists_there.1 base t r memory
        (omega (arith, less, below))
        (room_for (2 + 2 * height_of_statement else_statement) (omega (arith, fits, high)) room) ready knows))
        (λ u now kept fewer goes there known_there. rest u now kept (omega (arith, fewer, less))
        goes there known_there))

    -- the second one, if there is one
    any_else_goes :
        (known : Facts) (from : ℕ) (t : SourceState) (r : Registers) (memory : List ℕ)
        → IsElse (nodes_in at.context) at.context.storage at.labels bound else_part else_tree
        → Stand at (going true known) None from (statement_if_any else_part) last to
        → t.budget ≤ s.budget
        → IsReady at.context.activation at.context.activation.level base t.memory t.frame r memory
        → Know at.context known r memory
        → Does (loaded_in at.context) t.budget 0 (at_place from r memory t.events)
        (done_else at.context.later at.context.activation.around else_tree t)
        (Leaves at base to last s.budget)
    any_else_goes known from t r memory else_is stand less ready knows =
        by else_part else_tree refl else_is stand
      where
        by : (part : Option StatementNumber) (tree : TypedElse)
            → else_tree ≡ tree
            → IsElse (nodes_in at.context) at.context.storage at.labels bound part tree
            → Stand at (going true known) None from (statement_if_any part) last to
            → Does (loaded_in at.context) t.budget 0 (at_place from r memory t.events)
            (done_else at.context.later at.context.activation.around else_tree t)
            (Leaves at base to last s.budget)
        by None tree same IsNoElse ends =
            subst (λ (one : TypedElse). Does (loaded_in at.context) t.budget 0
            (at_place from r memory t.events)
            (done_else at.context.later at.context.activation.around one t)
            (Leaves at base to last s.budget)) (sym same)
            (ends_onward (steps_ended ends) refl (stage t known r memory less ready knows))
        by (Some part) tree same (IsSomeElse {tree = found} there) stand =
            let first = statement_first stand in
            else_goes part found known from first.middle first.after t r memory same there
            first.does less ready knows
            (λ u now kept fewer goes ready_there known_there.
            ends_onward (steps_ended first.rest) goes
            (stage u first.after.facts now kept fewer ready_there known_there))

    -- the condition, and what follows it
    by_condition :
        (label : LabelNumber) (sense : Bool) (from middle : ℕ) (known : Facts)
        (r : Registers) (memory : List ℕ)
        → BranchDoes at.context facts condition label sense 0 from known middle
        → IsReady at.context.activation at.context.activation.level base s.memory s.frame r memory
        → Know at.context facts r memory
        → ((t : SourceState) (end there : State) (now : Registers) (kept : List ℕ)
        → t.budget ≤ s.budget
        → Rattle.isa8080.specs.Step.step_of (script_of at.context) end ≡ there
        → there ≡ at_place (at.context.activation.layout.place_of label.index) now kept t.events
        → IsReady at.context.activation at.context.activation.level base t.memory t.frame now kept
        → (jumps_once test ≡ true → Know at.context known now kept)
        → Comes sense t end)
        → ((t : SourceState) (now : Registers) (kept : List ℕ)
        → t.budget ≤ s.budget
        → IsReady at.context.activation at.context.activation.level base t.memory t.frame now kept
        → Know at.context known now kept
        → Comes (not sense) t (at_place middle now kept t.events))
        → Does (loaded_in at.context) s.budget 0 (at_place from r memory s.events)
        (then_do (value at.context.later at.context.activation.around test s) (λ n t. chosen (is_true n) t))
        (Leaves at base to last s.budget)
    by_condition label sense from middle known r memory does ready knows goes passes =
        then_does
        (does _ test is types at.context.activation.level base s r memory below
        (room_for (2 * height_of test) (omega (arith, fits)) room)
        ready knows)
        (λ n t end parts less. by n t end parts less)
      where
        by : (n : ℕ) (t : SourceState) (end : State)
            → Parts at.context known test label sense at.context.activation.level base middle n t end
            → t.budget ≤ s.budget
            → Comes (is_true n) t end
        by n t end (Goes there holds step arrives) less =
            subst (λ (b : Bool). Comes b t end) (sym holds)
            (goes t end there arrives.r arrives.memory less step arrives.is_at arrives.ready arrives.holds)
        by n t end (Passes holds arrives) less =
            subst (λ (b : Bool). Comes b t end) (sym holds)
            (subst (λ (one : State). Comes (not sense) t one) (sym arrives.is_at)
            (passes t arrives.r arrives.memory less arrives.ready arrives.holds))

    -- what is known where the one jump of a condition comes to
    once_known :
        (known : Facts) (now : Registers) (kept : List ℕ) (one : Bool)
        → has_one_jump (knowing (site_of at.body) facts) condition ≡ one
        → (jumps_once test ≡ true → Know at.context known now kept)
        → Know at.context (if one then known else no_facts) now kept
    once_known known now kept true single knows =
        knows (has_one_jump_is facts _ condition sound.sound is
        (ap (λ (site : Site). has_one_jump (knowing site facts) condition) sound.site ∙ single))
    once_known known now kept false single knows = no_facts_hold

    abbrev Goal : (from : ℕ) (r : Registers) (memory : List ℕ) → Type 0
    Goal from r memory =
        Does (loaded_in at.context) s.budget 0 (at_place from r memory s.events)
        (then_do (value at.context.later at.context.activation.around test s) (λ n t. chosen (is_true n) t))
        (Leaves at base to last s.budget)

    -- one statement alone
    then_alone :
        (from label : ℕ) (r : Registers) (memory : List ℕ)
        → else_tree ≡ NoElse
        → Stand at (going true facts) None from
        (then_steps (knowing (site_of at.body) facts) condition then_part label) last to
        → IsReady at.context.activation at.context.activation.level base s.memory s.frame r memory
        → Know at.context facts r memory
        → Goal from r memory
    then_alone from label r memory no_else stand ready knows =
        let tested = part_first stand in
        let first = statement_first (jumped_first tested.rest) in
        let meets = meet_first first.rest in
        let once : Bool = has_one_jump (knowing (site_of at.body) facts) condition in
        by_condition (label_of label) false from tested.middle tested.known r memory tested.does ready knows
        (λ t end there now kept less step is_there there_ready single.
        subst (λ (one : TypedElse). Does (loaded_in at.context) t.budget 0 end
        (done_else at.context.later at.context.activation.around one t)
        (Leaves at base to last s.budget)) (sym no_else)
        (after_step (step ∙ is_there ∙ ap (λ (place : ℕ). at_place place now kept t.events) meets.lies)
        (let met_there = meets_waiting at.context now kept (known_here
        first.after) (if once then tested.known else no_facts)
        (once_known tested.known now kept once refl single) in
        ends_onward (steps_ended meets.rest) met_there.goes_on
        (stage t _ now kept less there_ready met_there.known))))
        (λ t now kept less there_ready known_there.
        then_goes tested.known tested.middle first.middle first.after t now kept first.does less
        there_ready known_there
        (λ u here held fewer goes ready_here known_here_too.
        let met_there =
        meets_here at.context here held first.after (Some (if once then tested.known else no_facts))
        goes known_here_too in
        ends_onward (steps_ended meets.rest) met_there.goes_on
        (stage u _ here held fewer ready_here met_there.known)))

    -- one of two statements
    one_of_both :
        (from label : ℕ) (r : Registers) (memory : List ℕ) (else_number : StatementNumber)
        (else_statement : TypedStatement)
        → else_tree ≡ ElseStatement else_statement
        → IsStatement (nodes_in at.context) at.context.storage at.labels bound
        else_number.index else_statement
        → Stand at (going true facts) None from
        (both_steps (knowing (site_of at.body) facts) condition then_part else_number label) last to
        → IsReady at.context.activation at.context.activation.level base s.memory s.frame r memory
        → Know at.context facts r memory
        → Goal from r memory
    one_of_both from label r memory else_number else_statement same else_is stand ready knows =
        let tested = part_first stand in
        let first = statement_first (jumped_first tested.rest) in
        let turns = turn_first first.rest in
        let turn =
        turned at first.after.facts turns.known first.after.goes_on (label_of label) (nth_label label 1)
        first.middle turns.middle turns.first in
        let second = statement_first turns.rest in
        let meets = meet_first second.rest in
        let once : Bool = has_one_jump (knowing (site_of at.body) facts) condition in
        by_condition (label_of label) false from tested.middle tested.known r memory tested.does ready knows
        (λ t end there now kept less step is_there there_ready single.
        after_step (step ∙ is_there ∙ ap (λ (place : ℕ). at_place place now kept t.events) turn.lies)
        (else_goes else_number else_statement (if once then tested.known else no_facts) turns.middle
        second.middle second.after
        t now kept same else_is second.does less there_ready
        (once_known tested.known now kept once refl single)
        (λ u here held fewer goes ready_here known_there.
        let met_there =
        meets_here at.context here held second.after (known_here first.after) goes known_there in
        ends_onward (steps_ended meets.rest) met_there.goes_on
        (stage u _ here held fewer ready_here met_there.known))))
        (λ t now kept less there_ready known_there.
        then_goes tested.known tested.middle first.middle first.after t now kept first.does less
        there_ready known_there
        (λ u here held fewer goes ready_here known_here_too.
        let met_there =
        waits_here at.context here held (known_here second.after) first.after goes known_here_too in
        after_step
        (word_step (script_of at.context) at.context.activation Jump (AtLabel (nth_label label 1).index) []
        first.middle (first.middle + 3)
        here held u.events sound.sound.lies ready_here.shares.code (turn.jumps goes)
        ∙ ap (λ (place : ℕ). at_place place here held u.events) meets.lies)
        (ends_onward (steps_ended meets.rest) met_there.goes_on
        (stage u _ here held fewer ready_here met_there.known))))

    -- the second statement is a GOTO
    else_goto :
        (from : ℕ) (label : LabelNumber) (r : Registers) (memory : List ℕ) (else_statement : TypedStatement)
        → else_tree ≡ ElseStatement else_statement
        → GoesTo at label else_statement
        → Stand at (going true facts) None from
        (branch condition label false
        ∷ Rattle.statements8080.specs.declared.plan.Planned.TheVariants.Statement then_part ∷ []) last to
        → IsReady at.context.activation at.context.activation.level base s.memory s.frame r memory
        → Know at.context facts r memory
        → Goal from r memory
    else_goto from label r memory else_statement same goto stand ready knows =
        let tested = part_first stand in
        let first = statement_first tested.rest in
        by_condition label false from tested.middle tested.known r memory tested.does ready knows
        (λ t end there now kept less step is_there there_ready single.
        subst (λ (one : TypedElse). Does (loaded_in at.context) t.budget 0 end
        (done_else at.context.later at.context.activation.around one t)
        (Leaves at base to last s.budget)) (sym same)
        (goes_out goto less step is_there there_ready))
        (λ t now kept less there_ready known_there.
        then_goes tested.known tested.middle first.middle first.after t now kept first.does less
        there_ready known_there
        (λ u here held fewer goes ready_here known_here_too.
        ends_onward (steps_ended first.rest) goes (stage u _ here held fewer ready_here known_here_too)))

    -- the first one is
    then_goto :
        (from : ℕ) (label : LabelNumber) (r : Registers) (memory : List ℕ)
        → IsElse (nodes_in at.context) at.context.storage at.labels bound else_part else_tree
        → GoesTo at label then_tree
        → Stand at (going true facts) None from
        (branch condition label true ∷ statement_if_any else_part) last to
        → IsReady at.context.activation at.context.activation.level base s.memory s.frame r memory
        → Know at.context facts r memory
        → Goal from r memory
    then_goto from label r memory else_is goto stand ready knows =
        let tested = part_first stand in
        by_condition label true from tested.middle tested.known r memory tested.does ready knows
        (λ t end there now kept less step is_there there_ready single. goes_out goto less step
        is_there there_ready)
        (λ t now kept less there_ready known_there.
        any_else_goes tested.known tested.middle t now kept else_is tested.rest less there_ready known_there)

    -- a condition that is not known
    computed :
        (from label : ℕ) (r : Registers) (memory : List ℕ) (part : Option StatementNumber) (tree : TypedElse)
        → else_tree ≡ tree
        → IsElse (nodes_in at.context) at.context.storage at.labels bound part tree
        → Stand at (going true facts) None from
        (computed_if_steps at.body (knowing (site_of at.body) facts) condition then_part part label) last to
        → IsReady at.context.activation at.context.activation.level base s.memory s.frame r memory
        → Know at.context facts r memory
        → Goal from r memory
    computed from label r memory None tree same IsNoElse stand ready knows =
        then_alone from label r memory same stand ready knows
    computed from label r memory (Some part) tree same (IsSomeElse {tree = found} there) stand ready knows =
        by (goto_label at.body part) refl stand
      where
        by : (target : Option LabelNumber)
            → goto_label at.body part ≡ target
            → Stand at (going true facts) None from
            (elim target [
              | Some given ↦ branch condition given false
                  ∷ Rattle.statements8080.specs.declared.plan.Planned.TheVariants.Statement then_part ∷ []
              | None ↦ both_steps (knowing (site_of at.body) facts) condition then_part part label
            ]) last to
            → Goal from r memory
        by (Some given) target stand =
            else_goto from given r memory found same
            (goes_to at given part bound found sound target there) stand ready knows
        by None target stand = one_of_both from label r memory part found same there stand ready knows

    tested_if :
        (from label : ℕ) (r : Registers) (memory : List ℕ)
        → IsElse (nodes_in at.context) at.context.storage at.labels bound else_part else_tree
        → Stand at (going true facts) None from
        (tested_if_steps at.body (knowing (site_of at.body) facts) condition then_part else_part label) last
        to
        → IsReady at.context.activation at.context.activation.level base s.memory s.frame r memory
        → Know at.context facts r memory
        → Goal from r memory
    tested_if from label r memory else_is stand ready knows = by (goto_label at.body then_part) refl stand
      where
        by : (target : Option LabelNumber)
            → goto_label at.body then_part ≡ target
            → Stand at (going true facts) None from
            (elim target [
              | Some given ↦ branch condition given true ∷ statement_if_any else_part
              | None ↦ computed_if_steps at.body (knowing (site_of at.body) facts) condition
                  then_part else_part label
            ]) last to
            → Goal from r memory
        by (Some given) target stand =
            then_goto from given r memory else_is
            (goes_to at given then_part bound then_tree sound target then_is) stand ready knows
        by None target stand = computed from label r memory else_part else_tree refl else_is stand ready knows

    -- a condition that is known
    known_if :
        (from n : ℕ) (r : Registers) (memory : List ℕ)
        → number (knowing (site_of at.body) facts) condition ≡ Some n
        → IsElse (nodes_in at.context) at.context.storage at.labels bound else_part else_tree
        → Stand at (going true facts) None from
        (if nat_eq (n % 2) 1 then Rattle.statements8080.specs.declared.plan.Planned.TheVariants.Statement
        then_part ∷ [] else statement_if_any else_part) last to
        → IsReady at.context.activation at.context.activation.level base s.memory s.frame r memory
        → Know at.context facts r memory
        → Goal from r memory
    known_if from n r memory known else_is stand ready knows =
        does_same (chosen (is_true n) s)
        (ap (λ (given : Outcome ℕ). then_do given (λ m t. chosen (is_true m) t))
        (number_means facts n sound.sound is types
        (ap (λ (site : Site). number (knowing site facts) condition) sound.site ∙ known) s))
        (by (n % 2 == 1) stand)
      where
        by : (holds : Bool)
            → Stand at (going true facts) None from
            (if holds then Rattle.statements8080.specs.declared.plan.Planned.TheVariants.Statement then_part
            ∷ [] else statement_if_any else_part) last to
            → Does (loaded_in at.context) s.budget 0 (at_place from r memory s.events) (chosen holds s)
            (Leaves at base to last s.budget)
        by true stand =
            let first = statement_first stand in
            then_goes facts from first.middle first.after s r memory first.does (omega arith) ready knows
            (λ u here held fewer goes ready_here known_here_too.
            ends_onward (steps_ended first.rest) goes (stage u _ here held fewer ready_here known_here_too))
        by false stand = any_else_goes facts from s r memory else_is stand (omega arith) ready knows

    pub any_if :
        (from label : ℕ) (r : Registers) (memory : List ℕ)
        → IsElse (nodes_in at.context) at.context.storage at.labels bound else_part else_tree
        → Stand at (going true facts) None from
        (if_steps at.body (knowing (site_of at.body) facts) condition then_part else_part label) last to
        → IsReady at.context.activation at.context.activation.level base s.memory s.frame r memory
        → Know at.context facts r memory
        → Goal from r memory
    any_if from label r memory else_is stand ready knows =
        by (number (knowing (site_of at.body) facts) condition) refl stand
      where
        by : (known : Option ℕ)
            → number (knowing (site_of at.body) facts) condition ≡ known
            → Stand at (going true facts) None from
            (elim known [
              | Some n ↦ if nat_eq (n % 2)
                  1 then Rattle.statements8080.specs.declared.plan.Planned.TheVariants.Statement then_part
                  ∷ [] else statement_if_any else_part
              | None ↦ tested_if_steps at.body (knowing (site_of at.body) facts) condition
                  then_part else_part label
            ]) last to
            → Goal from r memory
        by (Some n) known stand = known_if from n r memory known else_is stand ready knows
        by None known stand = tested_if from label r memory else_is stand ready knows

pub if_does :
    (at : BodyContext) (before : Facts) (condition : ExpressionNumber) (then_part : StatementNumber)
    (else_part : Option StatementNumber) (label from : ℕ) (after : Here) (to : ℕ)
    → IsSoundBody at
    → StatementStands at before (statements.If condition then_part else_part) label from after to
    → FormDoes at before (statements.If condition then_part else_part) from after to
unfolding statement_steps
if_does at before condition then_part else_part label from after to sound stands bound _
    (IsIf {test = test} {then_tree = then_tree} {else_tree = else_tree} is then_is else_is) types lists base s
    r memory below room ready known =
    any_if at sound before
    (2 + 2 * max (height_of test) (max (height_of_statement then_tree) (height_of_else else_tree))) bound
    condition then_part else_part test then_tree else_tree is then_is types.0 types.1 types.2 lists.1
    lists.2 (omega arith)
    base after to s below room from label r memory else_is stands ready known
