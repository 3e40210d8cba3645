-- Code of DO CASE does what it says.
use Rattle.statement_laws.proofs.Prelude.{◌≡◌, ℕ, ◌+◌, ◌*◌, ◌%◌, ◌≤◌, max, Bool, true, false, nat_lt, nat_eq, if◌then◌else◌, List, [], ◌∷◌, ◌++◌, slice_get, Option, Some, None, refl, sym, ap, subst, ◌∙◌, arith, option_and_then, ltb-true, ltb-false, eqb-true, same_Some, ScalarType, Byte, Address, height_of, height_of_statement, height_of_statements, type_of, ListsStand, TypedExpression, TypedStatement, TypedStatements, TypesHoldIn, done, done_case, SourceState, Outcome, Gave, then_do, Onward, NoCarry, AccumulateImmediate, Xchg, Compare, Subtract, SubtractWithBorrow, A, D, E, H, L, Registers, JumpWhere, ExpressionNumber, Range, Statement, StatementNumber, IsCase, IsStatementForm, IsStatementNode, Nodes, nodes_of, item, HasRoom, Does, at_place, does_without_step, Facts, LabelNumber, copy, high, low, set, label_of, plain, Site, number, scalar, knowing, Planned, case_steps, cases_end_steps, choice_at_steps, choice_steps, computed_case_steps, into_table_steps, known_case_steps, number_in_de_steps, statements_steps, table_steps, all, jump, nth_label, part, plan, Here, statement_steps, nodes_in, number_means, value_in, Stage, at_effects, does_same, loaded_in, PartThere, Know, BodyContext, IsSoundBody, Leaves, StatementDoes, StatementStands, scalar_is}
use Rattle.treecode.specs.declared.statement.Statement.TheVariants as statements
use Rattle.steps8080.specs.declared.step.Step.TheVariants as steps
use Rattle.steps8080.specs.declared.step.Task.TheVariants as tasks
use Rattle.statements8080.specs.declared.plan.Planned.TheVariants as planned
use Rattle.statement_laws.proofs.Cases.CaseChoices.{IsNth, leaves_whole, nth_is, past_all}
use Rattle.statement_laws.proofs.Cases.CaseForms.{Choice, byte_bounded, byte_bring, byte_compare, byte_part, byte_unbounded, case_of, high_bounded, high_compare, word_bounded, word_compare, word_part, word_unbounded}
use Rattle.statement_laws.proofs.Cases.Cases.{bounded, choice_parted}
use Rattle.statement_laws.proofs.Loops.LoopCode.{steps_over}
use Rattle.statement_laws.proofs.FirstSteps.{Stand, steps_ended, statement_first}
use Rattle.statement_laws.proofs.Loops.PlannedParts.{code_parted}

-- the code after that of the number
abbrev pub behind_number : BodyContext → Range → (table own end : LabelNumber) → List Planned
behind_number at list table own end =
    into_table_steps table
    ++ (table_steps at.body list own end ++ (statements_steps at.body list own end ++ cases_end_steps end))

-- a choice that is computed
computed_goes :
    {at : BodyContext} {base : List ℕ} {need bound : ℕ} {tree : TypedExpression} {trees : TypedStatements}
    {before : Facts} {from to : ℕ} {after : Here}
    (list : Range) (table own end : LabelNumber) (choice : ExpressionNumber) (s : SourceState)
    (r : Registers) (memory : List ℕ)
    (type : ScalarType)
    → Choice at list bound need choice tree trees
    → type_of tree ≡ type
    → Stand at (record { facts = before; goes_on = true }) None from
    (number_in_de_steps type choice list.count end ++ behind_number at list table own end) after to
    → Stage at.context at.context.activation.level 0 need base s before r memory
    → Does (loaded_in at.context) s.budget 0 (at_place from r memory s.events) (case_of at tree trees s)
    (Leaves at base to after s.budget)
unfolding number_in_de_steps
computed_goes {at = at} {base = base} {tree = tree} {trees = trees} {before = before} {from = from} {to = to}
    {after = after} list table own end choice s r memory Byte asks is stand stage =
    by_few (nat_lt list.count 256) refl stand
  where
    by_few : (few : Bool) → nat_lt list.count 256 ≡ few
        → Stand at (record { facts = before; goes_on = true }) None from
        ((part (tasks.Byte choice) 0
        ∷ ((if few then plan (AccumulateImmediate Compare (list.count % 256))
        ∷ jump (JumpWhere NoCarry) end ∷ [] else [])
        ++ all (copy E A ∷ set D 0 ∷ [])))
        ++ behind_number at list table own end) after to
        → Does (loaded_in at.context) s.budget 0 (at_place from r memory s.events) (case_of at tree trees s)
        (Leaves at base to after s.budget)
    by_few true few stand =
        byte_bounded list table own end choice s r memory asks is (ltb-true list.count 256 few)
        (choice_parted list table own end before
        (byte_part choice ∷ bounded (byte_compare list.count) byte_bring end) from
        asks.parts.sound stand) stage
    by_few false few stand =
        byte_unbounded list table own end choice s r memory asks is (ltb-false list.count 256 few)
        (choice_parted list table own end before (byte_part choice ∷ (plain byte_bring ++ [])) from
        asks.parts.sound stand) stage
computed_goes {at = at} {base = base} {tree = tree} {trees = trees} {before = before} {from = from} {to = to}
    {after = after} list table own end choice s r memory Address asks is stand stage =
    by_few (nat_lt list.count 65536) (nat_eq (list.count % 256) 0) refl refl stand
  where
    by_few : (few none : Bool) → nat_lt list.count 65536 ≡ few → nat_eq (list.count % 256) 0 ≡ none
        → Stand at (record { facts = before; goes_on = true }) None from
        ((part (tasks.Word choice) 0
        ∷ ((if few
        then (if none then all (copy A H ∷ AccumulateImmediate Compare (high list.count) ∷ [])
        else all
        (copy A L ∷ AccumulateImmediate Subtract (low list.count)
        ∷ copy A H ∷ AccumulateImmediate SubtractWithBorrow (high list.count) ∷ []))
        ++ (jump (JumpWhere NoCarry) end ∷ [])
        else [])
        ++ (plan Xchg ∷ [])))
        ++ behind_number at list table own end) after to
        → Does (loaded_in at.context) s.budget 0 (at_place from r memory s.events) (case_of at tree trees s)
        (Leaves at base to after s.budget)
    by_few true true few none stand =
        high_bounded list table own end choice s r memory asks is (ltb-true list.count 65536 few)
        (eqb-true (list.count % 256) 0 none)
        (choice_parted list table own end before
        (word_part choice ∷ bounded (high_compare list.count) (Xchg ∷ []) end) from
        asks.parts.sound stand) stage
    by_few true false few none stand =
        word_bounded list table own end choice s r memory asks is (ltb-true list.count 65536 few)
        (choice_parted list table own end before
        (word_part choice ∷ bounded (word_compare list.count) (Xchg ∷ []) end) from
        asks.parts.sound stand) stage
    by_few false true few none stand =
        word_unbounded list table own end choice s r memory asks is (ltb-false list.count 65536 few)
        (choice_parted list table own end before (word_part choice ∷ (plain (Xchg ∷ []) ++ [])) from
        asks.parts.sound stand) stage
    by_few false false few none stand =
        word_unbounded list table own end choice s r memory asks is (ltb-false list.count 65536 few)
        (choice_parted list table own end before (word_part choice ∷ (plain (Xchg ∷ []) ++ [])) from
        asks.parts.sound stand) stage

-- the code goes on at the end
goes_on_there :
    {at : BodyContext} {base : List ℕ} {need budget place to : ℕ} {waiting : Option Facts} {after : Here}
    (u : SourceState) (now : Registers) (memory_now : List ℕ) (here : Here)
    → here.goes_on ≡ true
    → Stand at here waiting place [] after to
    → Stage at.context at.context.activation.level 0 need base u here.facts now memory_now
    → Does (loaded_in at.context) u.budget 0 (at_place place now memory_now u.events) (Gave Onward u)
    (Leaves at base to after budget)
goes_on_there {at = at} {base = base} {need = need} {budget = budget} {place = place} {to = to}
    {after = after} u now memory_now here goes stand stage =
    let ends = steps_ended stand in
    subst (λ (n : ℕ). Does (loaded_in at.context) u.budget 0 (at_place n now memory_now u.events)
    (Gave Onward u) (Leaves at base to after budget)) (ends.place)
    (does_without_step (record {
      goes_on = ap (λ (here : Here). here.goes_on) (ends.same) ∙ goes;
      comes = record {
        r = now;
        memory = memory_now;
        is_at = refl;
        ready = stage.ready;
        holds = subst (λ (here : Here). Know at.context here.facts now memory_now)
            (sym ends.same) stage.known;
      };
    }))

-- a choice that is known
known_goes :
    {at : BodyContext} {base : List ℕ} {need bound : ℕ} {tree : TypedExpression} {trees : TypedStatements}
    {before : Facts} {from to : ℕ} {after : Here}
    (list : Range) (choice : ExpressionNumber) (known : ℕ) (s : SourceState) (r : Registers) (memory : List ℕ)
    → Choice at list bound need choice tree trees
    → ((s : SourceState) → value_in at.context tree s ≡ Gave known s)
    → Stand at (record { facts = before; goes_on = true }) None from
    (known_case_steps at.body list known) after to
    → Stage at.context at.context.activation.level 0 need base s before r memory
    → Does (loaded_in at.context) s.budget 0 (at_place from r memory s.events) (case_of at tree trees s)
    (Leaves at base to after s.budget)
known_goes {at = at} {base = base} {need = need} {bound = bound} {tree = tree} {trees = trees}
    {before = before} {from = from} {to = to} {after = after} list choice known s r memory
    asks is stand stage =
    does_same (done_case at.context.later at.context.activation.around trees known s)
    (ap (λ (one : Outcome ℕ). then_do one
    (λ n t. done_case at.context.later at.context.activation.around trees n t)) (is s))
    (by (nat_lt known list.count) refl)
  where
    nodes : nodes_in at.context ≡ nodes_of at.body.tree.now
    nodes = ap (λ (site : Site). nodes_of site.tree.now) asks.parts.sound.site

    item_by : (inside : Bool) → nat_lt known list.count ≡ inside
        → item at.body.tree.now list known
        ≡ option_and_then (slice_get at.body.tree.now.lists.items)
        (if inside then Some (list.first + known) else None)
    item_by inside same =
        ap (λ (inside : Bool). option_and_then (slice_get at.body.tree.now.lists.items)
        (if inside then Some (list.first + known) else None)) same

    planned_by : Option StatementNumber → List Planned
    planned_by found = elim found as (λ (one : Option StatementNumber). List Planned) [
      | Some found ↦ planned.Statement found ∷ []
      | None ↦ []
    ]

    by : (inside : Bool) → nat_lt known list.count ≡ inside
        → Does (loaded_in at.context) s.budget 0 (at_place from r memory s.events)
        (done_case at.context.later at.context.activation.around trees known s)
        (Leaves at base to after s.budget)
    by true inside =
        let less = ltb-true known list.count inside in
        let its : IsNth at list.first known bound trees =
        nth_is at bound list.first list.count trees known asks.parts.are asks.parts.types
        asks.parts.lists less in
        let there : slice_get at.body.tree.now.lists.items (list.first + known) ≡ Some its.found =
        subst (λ (nodes : Nodes). slice_get nodes.lists (list.first + known) ≡ Some its.found)
        nodes its.is_there in
        let parts =
        statement_first
        (subst (λ (found : Option StatementNumber). Stand at (record { facts = before; goes_on = true })
        None from (planned_by found) after to)
        (item_by true inside ∙ there) stand) in
        let enough = stage.room.enough in
        let height = its.height in
        let fits = asks.trees_fit in
        does_same _ (its.means s)
        (leaves_whole {need = need} (omega arith) stage.below stage.room
        (parts.does bound its.tree its.is its.types its.lists base s r memory stage.below
        (record { depth = stage.room.depth; enough = omega (arith, enough, height, fits); even = stage.room.even }) stage.ready stage.known)
        (λ u now memory_now goes there. goes_on_there u now memory_now parts.after goes parts.rest there))
    by false inside =
        let past = ltb-false known list.count inside in
        does_same (Gave Onward s) (past_all at bound list.first list.count trees known s asks.parts.are past)
        (goes_on_there s r memory (record { facts = before; goes_on = true }) refl
        (subst (λ (found : Option StatementNumber). Stand at (record { facts = before; goes_on = true }) None
        from (planned_by found) after to)
        (item_by false inside) stand) stage)

-- without statements the choice is computed for what that does
effects_go :
    {at : BodyContext} {base : List ℕ} {need bound : ℕ} {tree : TypedExpression} {trees : TypedStatements}
    {before : Facts} {from to : ℕ} {after : Here}
    (list : Range) (choice : ExpressionNumber) (s : SourceState) (r : Registers) (memory : List ℕ)
    → Choice at list bound need choice tree trees
    → list.count ≡ 0
    → Stand at (record { facts = before; goes_on = true }) None from
    (part (tasks.Effects choice) 0 ∷ []) after to
    → Stage at.context at.context.activation.level 0 need base s before r memory
    → Does (loaded_in at.context) s.budget 0 (at_place from r memory s.events) (case_of at tree trees s)
    (Leaves at base to after s.budget)
effects_go {at = at} {base = base} {need = need} {bound = bound} {tree = tree} {trees = trees}
    {before = before} {from = from} {to = to} {after = after} list choice s r memory asks none stand stage =
    let parts =
    code_parted (steps.Part (record { task = tasks.Effects choice; pushed = 0 }) ∷ []) []
    (record { facts = before; goes_on = true }) from stand in
    by parts.first parts.rest
  where
    by : {known : Facts} {middle : ℕ}
        → Rattle.statement_laws.proofs.Loops.LoopCode.Steps at.context before from
        (steps.Part (record { task = tasks.Effects choice; pushed = 0 }) ∷ []) known middle
        → Stand at (record { facts = known; goes_on = true }) None middle [] after to
        → Does (loaded_in at.context) s.budget 0 (at_place from r memory s.events) (case_of at tree trees s)
        (Leaves at base to after s.budget)
    by {known = known} {middle = middle} (PartThere {found = found} {middle = done_at} does ends) rest =
        let ended = steps_over ends in
        at_effects from done_at choice does asks.is asks.types asks.fits stage
        (λ n u now memory_now gave there.
        does_same (Gave Onward u)
        (past_all at bound list.first list.count trees n u asks.parts.are (omega (arith, none)))
        (subst (λ (place : ℕ). Does (loaded_in at.context) u.budget 0 (at_place place now memory_now u.events)
        (Gave Onward u) (Leaves at base to after s.budget)) (sym ended.1)
        (goes_on_there u now memory_now (record { facts = known; goes_on = true }) refl rest
        (subst (λ (facts : Facts). Stage at.context at.context.activation.level 0 need base u facts now
        memory_now) ended.0 there))))

-- DO CASE
pub case_does :
    (at : BodyContext) (before : Facts) (of : StatementNumber) (choice : ExpressionNumber)
    (list : Range) (label from : ℕ)
    (after : Here) (to : ℕ)
    → IsSoundBody at
    → slice_get (nodes_in at.context).statements of.index ≡ Some (statements.Case choice list)
    → StatementStands at before (statements.Case choice list) label from after to
    → StatementDoes at before of from after to
unfolding statement_steps choice_at_steps
case_does at before of choice list label from after to sound found stand bound tree
    (IsStatementNode {statement = statement} less is form) types lists base s r memory
    below room ready known =
    by_form tree
    (subst (λ (one : Statement). IsStatementForm (nodes_in at.context) at.context.storage
    at.labels of.index one tree)
    (same_Some statement (statements.Case choice list) (sym is ∙ found)) form) types lists room
  where
    by_form : (tree : TypedStatement)
        → IsStatementForm (nodes_in at.context) at.context.storage at.labels of.index
        (statements.Case choice list) tree
        → TypesHoldIn at.context.typed at.context.within tree
        → ListsStand tree
        → HasRoom at.context.activation at.context.activation.level 0 (2 + 2 * height_of_statement tree)
        → Does (loaded_in at.context) s.budget 0 (at_place from r memory s.events)
        (done at.context.later at.context.activation.around tree s) (Leaves at base to after s.budget)
    by_form _ (IsCase {tree = tree} {trees = trees} choice_is are) types lists room =
        by_number (number site choice) refl
        (subst (λ (site : Site). Stand at (record { facts = before; goes_on = true }) None from
        (case_steps at.body (knowing site before) choice list label) after to)
        (sym sound.site) stand)
      where
        site : Site
        site = knowing at.context.site before

        need : ℕ
        need = 2 + 2 * max (height_of tree) (height_of_statements trees)

        high_enough : (a b : ℕ) → (2 * a ≤ 2 + 2 * max a b) × (2 + 2 * b ≤ 2 + 2 * max a b)
        high_enough a b = (omega arith, omega arith)

        asks : Choice at list of.index need choice tree trees
        asks = record {
          parts = record { sound = sound; are = are; types = types.1; lists = lists };
          is = choice_is;
          types = types.0;
          fits = (high_enough (height_of tree) (height_of_statements trees)).0;
          trees_fit = (high_enough (height_of tree) (height_of_statements trees)).1;
        }

        stage : Stage at.context at.context.activation.level 0 need base s before r memory
        stage = record { below = below; room = room; ready = ready; known = known }

        by_number : (found : Option ℕ) → number site choice ≡ found
            → Stand at (record { facts = before; goes_on = true }) None from
            (elim found as (λ (one : Option ℕ). List Planned) [
              | Some known ↦ known_case_steps at.body list known
              | None ↦ computed_case_steps at.body site choice list label
            ]) after to
            → Does (loaded_in at.context) s.budget 0 (at_place from r memory s.events)
            (case_of at tree trees s) (Leaves at base to after s.budget)
        by_number (Some n) same stand =
            known_goes list choice n s r memory asks
            (number_means before n sound.sound choice_is types.0 same) stand stage
        by_number None same stand = by_count (nat_eq list.count 0) refl stand
          where
            by_count : (none : Bool) → nat_eq list.count 0 ≡ none
                → Stand at (record { facts = before; goes_on = true }) None from
                (if none then part (tasks.Effects choice) 0
                ∷ [] else choice_steps at.body site choice list label) after to
                → Does (loaded_in at.context) s.budget 0 (at_place from r memory s.events)
                (case_of at tree trees s) (Leaves at base to after s.budget)
            by_count true none stand =
                effects_go list choice s r memory asks (eqb-true list.count 0 none) stand stage
            by_count false none stand =
                computed_goes list (label_of label) (nth_label label 2) (nth_label label 1) choice s r memory
                (scalar site choice) asks (sym (scalar_is before sound.sound choice_is)) stand stage
