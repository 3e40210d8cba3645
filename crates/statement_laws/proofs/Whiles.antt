-- DO WHILE.
use Rattle.statement_laws.proofs.Prelude.{◌≡◌, ℕ, zero, suc, ◌+◌, ◌-◌, ◌*◌, ◌%◌, ◌<◌, ◌≤◌, max, Bool, true, false, if◌then◌else◌, nat_eq, nat_lt, List, [], ◌∷◌, ◌++◌, Option, Some, None, refl, sym, ap, subst, ◌∙◌, arith, ltb-false, height_of, height_of_list, ListStands, TypedExpression, TypedList, TypedStatements, ListOf, LoopStatement, TypesHold, TypesHoldInList, Later, LoopTurn, after_turn, done, done_list, going_on, value, SourceState, Outcome, Gave, then_do, taking_one, Flow, Onward, Returned, Jumped, is_true, again_is, Nop, Registers, State, AtLabel, Jump, ExpressionNumber, Range, AreNoStatements, AreStatements, IsExpressionIn, IsList, IsListOf, HasRoom, IsReady, IsThere, Does, at_place, plain_step, word_step, after_step, does_without_step, then_does, no_facts_hold, Facts, LabelNumber, after_form, no_facts, label_of, jump_item, Site, number, knowing, branch, forever_steps, tested_while_steps, jump, mark, nth_label, Here, jump_on_steps, site_of, statement_steps, nodes_in, StepsStand, JumpThere, NoneThere, BranchDoes, Goes, Know, PartDoes, Parts, Passes, number_means, does_same, loaded_in, script_of, Behaves, BodyContext, IsSoundBody, Leaves, ListDoes, StatementStands, room_for}
use Rattle.typed_trees.specs.TypedTrees.{WhileHead}
use Rattle.treecode.specs.internal.Lowered.{IsLoop, IsWhileHead}
use Rattle.treecode.specs.declared.statement.LoopHead.TheVariants as heads
use Rattle.treecode.specs.declared.statement.Statement.TheVariants as statements
use Rattle.statements8080.specs.declared.plan.Planned.TheVariants as planned
use Rattle.statement_laws.proofs.FirstSteps.{Stand, steps_ended, going, jump_first, jump_on_first, list_first, mark_first, part_first, plain_first, reaches_first}
use Rattle.statement_laws.proofs.Lists.{goes_then}
use Rattle.statement_laws.proofs.Outcomes.{Between, does_later, ends_onward, leaves_later, taking_does}
use Rattle.statement_laws.proofs.Simple.{FormDoes}

-- what it means from its test on, after a turn, and from a turn on
abbrev whiled : BodyContext → TypedExpression → TypedList → SourceState → Outcome Flow
whiled at tree body s =
    done at.context.later at.context.activation.around (LoopStatement (WhileHead tree) body) s

abbrev after_while : BodyContext → TypedExpression → TypedList → Flow → SourceState → Outcome Flow
after_while at tree body flow s =
    after_turn at.context.later at.context.activation.around (LoopTurn (WhileHead tree) body) flow s

abbrev while_turn : BodyContext → TypedExpression → TypedList → SourceState → Outcome Flow
while_turn at tree body u =
    then_do (done_list at.context.later at.context.activation.around body u) (after_while at tree body)

module _
    (at : BodyContext) (sound : IsSoundBody at) (base : List ℕ) (last : Here) (to : ℕ) (need : ℕ)
    (bound : ℕ) (tree : TypedExpression) (body : TypedList)
    (condition : ExpressionNumber) (list : Range)
    (is : IsExpressionIn (nodes_in at.context) at.context.storage condition tree)
    (is_list : IsList (nodes_in at.context) at.context.storage at.labels bound list body)
    (types : TypesHold at.context.typed at.context.within tree)
    (list_types : TypesHoldInList at.context.typed at.context.within body)
    (lists : ListStands body)
    (fits : 2 * height_of tree ≤ need) (list_fits : 2 + 2 * height_of_list body ≤ need)
    (room : HasRoom at.context.activation at.context.activation.level 0 need)
  where
    abbrev loop : SourceState → Outcome Flow
    loop s = whiled at tree body s

    -- a turn of the loop and what follows it
    abbrev turn : SourceState → Outcome Flow
    turn u = while_turn at tree body u

    -- the end of a turn
    pub turn_ends :
        (middle : Here) (place before : ℕ) (flow : Flow) (v : SourceState) (end : State)
        → before < at.context.number
        → v.budget < before
        → Leaves at base place middle before flow v end
        → ((r : Registers) (memory : List ℕ)
        → middle.goes_on ≡ true
        → IsReady at.context.activation at.context.activation.level base v.memory v.frame r memory
        → Know at.context middle.facts r memory
        → Does (loaded_in at.context) v.budget 0 (at_place place r memory v.events) (loop v)
        (Leaves at base to last before))
        → Does (loaded_in at.context) v.budget 0 end
        (after_while at tree body flow v)
        (Leaves at base to last before)
    turn_ends middle place before Onward v end below less leaves rest =
        let comes = leaves.comes in
        let number = sound.number in
        subst (λ (later : Later). Does (loaded_in at.context) v.budget 0 end
        (later.again (LoopTurn (WhileHead tree) body) at.context.activation.around v)
        (Leaves at base to last before)) (sym sound.later)
        (does_same _
        (again_is sound.bound (LoopTurn (WhileHead tree) body) at.context.activation.around v
        (omega (arith, less, below, number)))
        (subst (λ (later : Later). Does (loaded_in at.context) v.budget 0 end
        (done later at.context.activation.around (LoopStatement (WhileHead tree) body) v)
        (Leaves at base to last before)) sound.later
        (subst (λ (s : State). Does (loaded_in at.context) v.budget 0 s (loop v)
        (Leaves at base to last before)) (sym comes.is_at)
        (rest comes.r comes.memory leaves.goes_on comes.ready comes.holds))))
    turn_ends middle place before (Returned found) v end below less leaves rest = does_without_step leaves
    turn_ends middle place before (Jumped label) v end below less leaves rest = does_without_step leaves

    -- a loop that is tested at its end
    module _
        (from pt pe : ℕ) (label : LabelNumber) (h : Here) (found : Facts)
        (lies : at.context.activation.layout.place_of label.index ≡ from)
        (list_does : ListDoes at no_facts list from h pt)
        (branch_does : BranchDoes at.context no_facts condition label true 0 pt found pe)
        (ends : (r : Registers) (memory : List ℕ) (before : ℕ) (t : SourceState)
        → Between at need base t found r memory
        → Does (loaded_in at.context) t.budget 0 (at_place pe r memory t.events) (Gave Onward t)
        (Leaves at base to last before))
      where
        -- from the test on, in runs of less than a number
        abbrev FromTest : ℕ → Type 0
        FromTest fuel =
            (s : SourceState) (r : Registers) (memory : List ℕ)
            → s.budget < fuel
            → s.budget < at.context.number
            → IsReady at.context.activation at.context.activation.level base s.memory s.frame r memory
            → Does (loaded_in at.context) s.budget 0 (at_place pt r memory s.events) (loop s)
            (Leaves at base to last s.budget)

        -- a turn, of which the budget was taken already
        turns :
            (fuel before : ℕ) (u : SourceState) (r : Registers) (memory : List ℕ)
            → FromTest fuel
            → before ≤ fuel
            → before < at.context.number
            → u.budget < before
            → IsReady at.context.activation at.context.activation.level base u.memory u.frame r memory
            → Does (loaded_in at.context) u.budget 0 (at_place from r memory u.events) (turn u)
            (Leaves at base to last before)
        turns fuel before u r memory test less below fewer ready =
            then_does
            (list_does bound body is_list list_types lists base u r memory (omega (arith, fewer, below))
            (room_for (2 + 2 * height_of_list body) list_fits room) ready no_facts_hold)
            (λ flow v end leaves spent.
            turn_ends h pt before flow v end below (omega (arith, spent, fewer))
            (leaves_later at base pt h u.budget before flow v end (omega (arith, fewer)) leaves)
            (λ now ended goes there known.
            does_later before (omega (arith, spent, fewer))
            (test v now ended (omega (arith, spent, fewer, less))
            (omega (arith, spent, fewer, below)) there)))

        tested :
            (fuel before n : ℕ) (t : SourceState) (end : State)
            → FromTest fuel
            → before ≤ fuel
            → before < at.context.number
            → t.budget ≤ before
            → Parts at.context found tree label true at.context.activation.level base pe n t end
            → Does (loaded_in at.context) t.budget 0 end
            (if is_true n then taking_one t turn else Gave Onward t) (Leaves at base to last before)
        tested fuel before n t end test less below fewer (Goes there holds step arrives) =
            subst (λ (b : Bool). Does (loaded_in at.context) t.budget 0 end
            (if b then taking_one t turn else Gave Onward t) (Leaves at base to last before)) (sym holds)
            (taking_does t turn
            (step ∙ arrives.is_at ∙ ap (λ (place : ℕ). at_place place arrives.r arrives.memory t.events) lies)
            refl refl
            (λ one_less.
            turns fuel before (record t { budget = t.budget - 1 }) arrives.r arrives.memory test less below
            (omega (arith, one_less, fewer))
            arrives.ready))
        tested fuel before n t end test less below fewer (Passes holds arrives) =
            subst (λ (b : Bool). Does (loaded_in at.context) t.budget 0 end
            (if b then taking_one t turn else Gave Onward t) (Leaves at base to last before)) (sym holds)
            (subst (λ (s : State). Does (loaded_in at.context) t.budget 0 s (Gave Onward t)
            (Leaves at base to last before)) (sym arrives.is_at)
            (ends arrives.r arrives.memory before t
            (record { below = omega (arith, fewer, below); room = room; ready = arrives.ready; known = arrives.holds })))

        pub from_test : (fuel : ℕ) → FromTest fuel
        from_test zero s r memory less below ready = absurd (omega (arith, less))
        from_test (suc fuel) s r memory less below ready =
            then_does
            (branch_does _ tree is types at.context.activation.level base s r memory below
            (room_for (2 * height_of tree) fits room)
            ready no_facts_hold)
            (λ n t end parts spent. tested fuel s.budget n t end (from_test fuel)
            (omega (arith, less)) below spent parts)

    -- a loop without an end
    module _
        (from place : ℕ) (label : LabelNumber) (h : Here) (n : ℕ)
        (lies : at.context.activation.layout.place_of label.index ≡ from)
        (list_does : ListDoes at no_facts list from h place)
        (jumps : h.goes_on ≡ true → IsThere at.context.activation (jump_item Jump label
        ∷ []) place (place + 3))
        (holds : is_true n ≡ true)
        (value_is : (s : SourceState) → value at.context.later at.context.activation.around tree s ≡ Gave n s)
      where
        -- a further turn takes one of the budget
        pub loop_is : (s : SourceState) → loop s ≡ taking_one s turn
        loop_is s =
            ap (λ (given : Outcome ℕ). then_do given
            (λ m t. if is_true m then taking_one t turn else Gave Onward t)) (value_is s)
            ∙ ap (λ (b : Bool). if b then taking_one s turn else Gave Onward s) holds

        -- from a turn on, of which the budget was taken already
        pub from_top :
            (fuel before : ℕ) (u : SourceState) (r : Registers) (memory : List ℕ)
            → u.budget < fuel
            → before < at.context.number
            → u.budget < before
            → IsReady at.context.activation at.context.activation.level base u.memory u.frame r memory
            → Does (loaded_in at.context) u.budget 0 (at_place from r memory u.events) (turn u)
            (Leaves at base to last before)
        from_top zero before u r memory less below fewer ready = absurd (omega (arith, less))
        from_top (suc fuel) before u r memory less below fewer ready =
            then_does
            (list_does bound body is_list list_types lists base u r memory (omega (arith, fewer, below))
            (room_for (2 + 2 * height_of_list body) list_fits room) ready no_facts_hold)
            (λ flow v end leaves spent.
            turn_ends h place before flow v end below (omega (arith, spent, fewer))
            (leaves_later at base place h u.budget before flow v end (omega (arith, fewer)) leaves)
            (λ now kept goes there known.
            does_same _ (loop_is v)
            (taking_does v turn
            (word_step (script_of at.context) at.context.activation Jump (AtLabel label.index) [] place
            (place + 3) now kept v.events
            sound.sound.lies there.shares.code (jumps goes)
            ∙ ap (λ (one : ℕ). at_place one now kept v.events) lies)
            refl refl
            (λ one_less.
            from_top fuel before (record v { budget = v.budget - 1 }) now kept
            (omega (arith, one_less, spent, less)) below
            (omega (arith, one_less, spent, fewer)) there))))

-- the steps of `JumpOn`
jumps_on :
    (at : BodyContext) (facts last : Facts) (goes_on : Bool) (label : LabelNumber) (from to : ℕ)
    → StepsStand at.context (PartDoes at.context) facts from (jump_on_steps goes_on label) last to
    → goes_on ≡ true → IsThere at.context.activation (jump_item Jump label ∷ []) from (from + 3)
jumps_on at facts last true label from to (JumpThere there NoneThere) goes = there
jumps_on at facts last false label from to NoneThere goes = let never : ⊥ = cc in absurd never

-- no statements
empty_list :
    (at : BodyContext) (bound : ℕ) (range : Range) (body : TypedList) (s : SourceState)
    → nat_lt 0 range.count ≡ false
    → IsList (nodes_in at.context) at.context.storage at.labels bound range body
    → done_list at.context.later at.context.activation.around body s ≡ Gave Onward s
empty_list at bound range (ListOf label places trees) s none (IsListOf are) =
    by range.count are (omega (arith, ltb-false 0 range.count none))
  where
    by : {given : TypedStatements} (count : ℕ)
        → AreStatements (nodes_in at.context) at.context.storage at.labels bound range.first count given
        → count ≡ 0
        → done_list at.context.later at.context.activation.around (ListOf label places given) s
        ≡ Gave Onward s
    by zero AreNoStatements same = refl
    by (suc count) are same = absurd (omega (arith, same))

-- a loop that is tested
tested_does :
    (at : BodyContext) (before : Facts) (condition : ExpressionNumber) (list : Range) (label from : ℕ)
    (after : Here) (to : ℕ)
    → IsSoundBody at
    → Stand at (going true before) None from (tested_while_steps condition list label) after to
    → FormDoes at before (statements.Loop (heads.While condition) list) from after to
tested_does at before condition list label from after to sound stands bound _
    (IsLoop {list = body} (IsWhileHead {test = test} is) is_list) types lists base s r memory below
    room ready known =
    by (nat_lt 0 list.count) refl stands
  where
    need : ℕ
    need = 2 + 2 * max (height_of test) (height_of_list body)

    -- from the label of the list on, where the code comes to its test, or the list is empty
    from_list :
        (here : Here) (place : ℕ)
        → here.goes_on ≡ true
        → Stand at here None place
        (mark (label_of label) ∷ planned.List list ∷ mark (nth_label label 1)
        ∷ branch condition (label_of label) true
        ∷ planned.Reaches true ∷ []) after to
        → ((pt : ℕ) (h : Here)
        → at.context.activation.layout.place_of (nth_label label 1).index ≡ pt
        → ListDoes at no_facts list place h pt
        → ((u : SourceState) (now : Registers) (kept : List ℕ)
        → u.budget ≤ s.budget
        → IsReady at.context.activation at.context.activation.level base u.memory u.frame now kept
        → Does (loaded_in at.context) u.budget 0 (at_place pt now kept u.events)
        (whiled at test body u)
        (Leaves at base to after s.budget))
        → Does (loaded_in at.context) s.budget 0 (at_place from r memory s.events)
        (whiled at test body s)
        (Leaves at base to after s.budget))
        → Does (loaded_in at.context) s.budget 0 (at_place from r memory s.events)
        (whiled at test body s)
        (Leaves at base to after s.budget)
    from_list here place goes stand rest =
        let top = mark_first stand in
        let listed = list_first top.rest in
        let middle = mark_first listed.rest in
        let tested = part_first middle.rest in
        let end = steps_ended (reaches_first tested.rest) in
        rest listed.middle listed.after middle.lies listed.does
        (λ u now kept fewer there.
        does_later s.budget fewer
        (from_test at sound base after to need bound test body condition list is is_list types.0 types.1 lists
        (omega arith) (omega arith)
        room place listed.middle tested.middle (label_of label) listed.after tested.known top.lies
        listed.does tested.does
        (λ last_r last_memory began t stage. ends_onward end refl stage)
        (suc u.budget) u now kept (omega arith) (omega (arith, fewer, below)) there))

    by : (some : Bool) → nat_lt 0 list.count ≡ some
        → Stand at (going true before) None from
        ((if some then jump Jump (nth_label label 1) ∷ [] else [])
        ++ (mark (label_of label) ∷ planned.List list ∷ mark (nth_label label 1)
        ∷ branch condition (label_of label) true
        ∷ planned.Reaches true ∷ [])) after to
        → Does (loaded_in at.context) s.budget 0 (at_place from r memory s.events)
        (whiled at test body s)
        (Leaves at base to after s.budget)
    by true some stand =
        let entry = jump_first stand in
        from_list (going true (after_form before Jump)) (from + 3) refl entry.rest
        (λ pt h lies list_does test_does.
        after_step
        (word_step (script_of at.context) at.context.activation Jump (AtLabel (nth_label label 1).index) []
        from (from + 3) r memory
        s.events sound.sound.lies ready.shares.code entry.there
        ∙ ap (λ (one : ℕ). at_place one r memory s.events) lies)
        (test_does s r memory (omega arith) ready))
    by false none stand =
        from_list (going true before) from refl stand
        (λ pt h lies list_does test_does.
        subst (λ (given : Outcome Flow). Does (loaded_in at.context) s.budget 0
        (at_place from r memory s.events)
        (then_do given
        (λ flow t. going_on flow (λ u. whiled at test body u) t))
        (Leaves at base to after s.budget)) (empty_list at bound list body s none is_list)
        (then_does
        (list_does bound body is_list types.1 lists base s r memory below
        (room_for (2 + 2 * height_of_list body) (omega arith) room) ready no_facts_hold)
        (λ flow t end leaves less.
        goes_then at base h pt after to s.budget
        (λ u. whiled at test body u)
        flow t end less leaves
        (λ now kept goes there known. test_does t now kept less there))))

-- a loop without an end
forever_does :
    (at : BodyContext) (before : Facts) (list : Range) (label from : ℕ) (after : Here) (to : ℕ) (bound n : ℕ)
    (condition : ExpressionNumber) (test : TypedExpression) (body : TypedList)
    → IsSoundBody at
    → Stand at (going true before) None from (forever_steps list label) after to
    → IsExpressionIn (nodes_in at.context) at.context.storage condition test
    → IsList (nodes_in at.context) at.context.storage at.labels bound list body
    → TypesHold at.context.typed at.context.within test
    → TypesHoldInList at.context.typed at.context.within body
    → ListStands body
    → is_true n ≡ true
    → ((s : SourceState) → value at.context.later at.context.activation.around test s ≡ Gave n s)
    → Behaves at before (2 + 2 * max (height_of test) (height_of_list body)) from after to
    (whiled at test body)
forever_does at before list label from after to bound n condition test body sound stand is is_list types
    list_types lists holds value_is base s r memory below room ready known =
    let need : ℕ = 2 + 2 * max (height_of test) (height_of_list body) in
    let entry = plain_first stand in
    let top = mark_first entry.rest in
    let listed = list_first top.rest in
    let jump = jump_on_first listed.rest in
    let jumps = jumps_on at listed.after.facts jump.known listed.after.goes_on (label_of label) listed.middle jump.middle jump.first in
    does_same _
    (loop_is at sound base after to need bound test body condition list is is_list types list_types lists
    (omega arith) (omega arith)
    room (from + 1) listed.middle (label_of label) listed.after n top.lies listed.does jumps holds value_is s)
    (taking_does s (while_turn at test body)
    (plain_step (script_of at.context) at.context.activation Nop [] from (from + 1) r memory s.events sound.sound.lies
    ready.shares.code entry.there)
    refl refl
    (λ one_less.
    from_top at sound base after to need bound test body condition list is is_list types list_types lists (omega arith) (omega arith)
    room (from + 1) listed.middle (label_of label) listed.after n top.lies listed.does jumps holds value_is
    s.budget s.budget (record s { budget = s.budget - 1 }) r memory (omega (arith, one_less)) below (omega (arith, one_less)) ready))

pub while_does :
    (at : BodyContext) (before : Facts) (condition : ExpressionNumber) (list : Range) (label from : ℕ)
    (after : Here) (to : ℕ)
    → IsSoundBody at
    → StatementStands at before (statements.Loop (heads.While condition) list) label from after to
    → FormDoes at before (statements.Loop (heads.While condition) list) from after to
unfolding statement_steps
while_does at before condition list label from after to sound stands bound _
    (IsLoop {list = body} (IsWhileHead {test = test} is) is_list) types lists base s r memory below
    room ready known =
    by (number (knowing (site_of at.body) before) condition) refl stands
  where
    at_site : (found : Option ℕ) → number (knowing (site_of at.body) before) condition ≡ found
        → number (knowing at.context.site before) condition ≡ found
    at_site found same = ap (λ (site : Site). number (knowing site before) condition) sound.site ∙ same

    given : (n : ℕ) → number (knowing (site_of at.body) before) condition ≡ Some n
        → (t : SourceState) → value at.context.later at.context.activation.around test t ≡ Gave n t
    given n same t = number_means before n sound.sound is types.0 (at_site (Some n) same) t

    by_number : (n : ℕ) (holds : Bool)
        → number (knowing (site_of at.body) before) condition ≡ Some n
        → is_true n ≡ holds
        → Stand at (going true before) None from (if holds then forever_steps list label else []) after to
        → Does (loaded_in at.context) s.budget 0 (at_place from r memory s.events)
        (whiled at test body s)
        (Leaves at base to after s.budget)
    by_number n true same holds stand =
        forever_does at before list label from after to bound n condition test body sound stand is is_list
        types.0 types.1 lists holds (given n same)
        base s r memory below room ready known
    by_number n false same holds stand =
        does_same (Gave Onward s)
        (ap (λ (found : Outcome ℕ). then_do found
        (λ m t. if is_true m then taking_one t (while_turn at test body) else Gave Onward t)) (given n same s)
        ∙ ap (λ (b : Bool). if b then taking_one s (while_turn at test body) else Gave Onward s) holds)
        (ends_onward (steps_ended stand) refl
        (record { below = below; room = room; ready = ready; known = known }))

    by : (found : Option ℕ)
        → number (knowing (site_of at.body) before) condition ≡ found
        → Stand at (going true before) None from
        (elim found [
          | Some n ↦ if nat_eq (n % 2) 1 then forever_steps list label else []
          | None ↦ tested_while_steps condition list label
        ]) after to
        → Does (loaded_in at.context) s.budget 0 (at_place from r memory s.events)
        (whiled at test body s)
        (Leaves at base to after s.budget)
    by (Some n) same stand = by_number n (is_true n) same refl stand
    by None same stand =
        tested_does at before condition list label from after to sound stand bound
        (LoopStatement (WhileHead test) body) (IsLoop (IsWhileHead is) is_list)
        types lists base s r memory below room ready known
