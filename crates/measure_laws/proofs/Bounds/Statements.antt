-- Statements of each form have their footprints.
use Rattle.measure_laws.proofs.Prelude.{MoreStatements, NoStatements, ListsStandInCases, ◌≡◌, ℕ, ◌+◌, ◌≤◌, true, false, List, [], ◌∷◌, slice_get, Option, Some, None, refl, sym, subst, ◌∙◌, arith, same_Some, ScalarType, Byte, Address, type_of, JumpsStay, JumpsStayInElse, JumpsStayInList, JumpsStayInStatements, LabelsOf, labels_of_list, ListStands, ListsStand, ListsStandInElse, ListsStandInStatements, TypedElse, TypedExpression, TypedList, TypedModule, TypedStatement, TypedStatements, TypesHoldIn, TypesHoldInElse, TypesHoldInList, TypesHoldInStatements, Within, weight_of_else, weight_of_expression, weight_of_list, weight_of_optional, weight_of_statement, Item, Jump, Hlt, ExpressionNumber, Range, StatementNumber, AreMoreStatements, AreNoStatements, AreStatements, IsAssignment, IsCall, IsCase, IsDo, IsElse, IsGoto, IsHalt, IsIf, IsLabel, IsList, IsListOf, IsMove, IsNoElse, IsNoValue, IsNull, IsOptional, IsReturn, IsSomeElse, IsSomeValue, IsStatement, IsStatementForm, IsStatementNode, nodes_of, Facts, knowing, Planned, Reaches, body_label, jump, mark, Here, AreCarriedOut, IsCarriedOut, StatementPlanned, site_of, return_of_steps, returned_value_steps, statement_steps, bytes_for, spared_by, TypesHold, IfSome, IsReturned, BodyGround, HoldsWithinLevel, MayBind, PlanFootprint, StatementFootprint, StatementMeasured, ListFootprint, ◌*◌, FRAME_LIMIT, WithinMain, WithinProcedure, height_of_else, height_of_list, height_of_optional, height_of_statement, height_of_statements}
use Rattle.treecode.specs.internal.Lowered.{IsLoop}
use Rattle.treecode.specs.declared.statement.Statement.{Statement}
use Rattle.steps8080.specs.declared.step.Step.TheVariants as steps
use Rattle.measure_laws.proofs.{Bounds.Assignments.{assignment_fits}, Bounds.Branches.{AnyFits, if_fits}, Bounds.Cases.{case_fits}, Bounds.Iterations.{type_there}, Bounds.Lists.{AllFit, MoreFit, NoneFit, list_measured, list_step_fits, statement_step_fits}, Bounds.Moves.{move_fits}, Bounds.ExpressionParts.{typed_is}, Bounds.Returns.{return_fits}, Heads.{loop_fits}, Labels.Lists.{AroundGo, LabelsDiffer, around_list, goto_is, goto_ok}}
use Rattle.measure_laws.proofs.{Bounds.Fitting.{both_fit, less_if, none_fit, then_fit}, Bounds.Planning.{branch_fits, byte_fits, call_fits, code_fits, plains_fit, within_is, word_fits}}

cases_stand : (trees : TypedStatements) → ListsStandInCases trees → ListsStandInStatements trees
cases_stand NoStatements stand = tt
cases_stand (MoreStatements first others) stand = (stand.1, cases_stand others stand.2)

-- the steps of a statement leave as many bytes free as the statement must leave
record FormFits (at : BodyGround) (steps : List Planned) (tree : TypedStatement) : Type 0 where
  pub most : ℕ
  pub fit : PlanFootprint at steps most
  pub enough : at.counts → most + spared_by tree ≤ bytes_for (weight_of_statement tree)

formed :
    {at : BodyGround} {steps : List Planned} {tree : TypedStatement} {most : ℕ}
    → PlanFootprint at steps most
    → (at.counts → most + spared_by tree ≤ bytes_for (weight_of_statement tree))
    → FormFits at steps tree
formed {most = most} fit enough = record { most = most; fit = fit; enough = enough }

-- a statement with such steps
form_measured :
    {at : BodyGround} {number : StatementNumber} {found : Statement} {tree : TypedStatement}
    {before : Facts} {after : Here} {list : List Item}
    → slice_get at.body.tree.now.statements.items number.index ≡ Some found
    → ((facts : Facts) (first : ℕ)
    → FormFits at (statement_steps at.body (knowing (site_of at.body) facts) found first) tree)
    → IsCarriedOut at.body at.called before number list after
    → MayBind at list
    → StatementMeasured at list tree
form_measured {at = at} {found = found} {before = before} {after = after} {list = list} there form
    (StatementPlanned {statement = statement} label is planned) own =
    let formed = form before label in
    record {
      most = formed.most;
      measured = formed.fit.fits (subst (λ (one : Statement). AreCarriedOut at.body at.called
          (record { facts = before; goes_on = true }) None
          (statement_steps at.body (knowing (site_of at.body) before) one label) list after)
          (same_Some statement found (sym is ∙ there)) planned) own;
      enough = formed.enough;
    }

-- the value of a RETURN is well typed
returned_holds :
    (typed : TypedModule) (within : Within) (value : TypedExpression)
    → IsReturned typed within (Some value)
    → TypesHold typed within value
returned_holds typed (WithinProcedure number (Some scalar)) value is = is.0
returned_holds typed (WithinProcedure number None) value is = absurd is
returned_holds typed WithinMain value is = absurd is

returned_types :
    (at : BodyGround) (value : Option TypedExpression)
    → IsReturned at.source.typed at.source.within value
    → 2 * height_of_optional value ≤ at.level
    → IfSome value (HoldsWithinLevel at)
returned_types at (Some value) is room = (returned_holds at.source.typed at.source.within value is, room)
returned_types at None is room = tt

module _
    (at : BodyGround) (few : at.counts → at.body.frame.now.parameter_count ≤ 16)
    (small : at.body.frame.now.variable_bytes ≤ FRAME_LIMIT)
  where
    returned_by_fits :
        {value : Option ExpressionNumber} {tree : Option TypedExpression} (result : Option ScalarType)
        → IsOptional (nodes_of at.body.tree.now) at.source.storage value tree
        → IfSome tree (HoldsWithinLevel at)
        → PlanFootprint at (returned_value_steps value result) (bytes_for (weight_of_optional tree))
    returned_by_fits (Some Byte) (IsSomeValue {number = value} is) types =
        byte_fits at value 0 (within_is is types.0 types.1)
    returned_by_fits (Some Address) (IsSomeValue {number = value} is) types =
        word_fits at value 0 (within_is is types.0 types.1)
    returned_by_fits None (IsSomeValue is) types = none_fit
    returned_by_fits (Some Byte) IsNoValue types = none_fit
    returned_by_fits (Some Address) IsNoValue types = none_fit
    returned_by_fits None IsNoValue types = none_fit

    return_of_fits :
        {value : Option ExpressionNumber} {tree : Option TypedExpression}
        → IsOptional (nodes_of at.body.tree.now) at.source.storage value tree
        → IfSome tree (HoldsWithinLevel at)
        → PlanFootprint at (return_of_steps at.body value) (bytes_for (weight_of_optional tree) + 78)
    unfolding return_of_steps
    return_of_fits is types =
        less_if
        (both_fit (returned_by_fits at.body.procedure.now.result is types)
        (both_fit (return_fits at small) (plains_fit (Reaches false ∷ []) refl tt)))
        (λ c. omega (arith, few c))

    -- a statement goes to labels that it binds, and to those of the lists around it
    module _ (labels : List ℕ) (differ : at.counts → LabelsDiffer labels) where
      mutual
        unfolding statement_steps

        pub statement_fits :
            {bound : ℕ} {tree : TypedStatement} (number : StatementNumber) (around : List LabelsOf)
            → IsStatement (nodes_of at.body.tree.now) at.source.storage labels bound number.index tree
            → TypesHoldIn at.source.typed at.source.within tree
            → (at.counts → ListsStand tree)
            → (at.counts → JumpsStay around tree)
            → AroundGo at labels around
            → 2 + 2 * height_of_statement tree ≤ at.level
            → StatementFootprint at number tree
        statement_fits number around (IsStatementNode {statement = found} below there form) types stand stay
            outer room = record {
              fits = λ done own.
                  form_measured there
                  (λ facts first. form_fits around form types stand stay outer room facts first) done own;
              goto = λ label is.
                  goto_ok at labels found around label form stay outer
                  (goto_is at.body number found label there is);
            }

        form_fits :
            {bound : ℕ} {found : Statement} {tree : TypedStatement} (around : List LabelsOf)
            → IsStatementForm (nodes_of at.body.tree.now) at.source.storage labels bound found tree
            → TypesHoldIn at.source.typed at.source.within tree
            → (at.counts → ListsStand tree)
            → (at.counts → JumpsStay around tree)
            → AroundGo at labels around
            → 2 + 2 * height_of_statement tree ≤ at.level
            → (facts : Facts) (first : ℕ)
            → FormFits at (statement_steps at.body (knowing (site_of at.body) facts) found first) tree
        form_fits around (IsLabel {number = label} is) types stand stay outer room facts first =
            formed (plains_fit (mark (body_label at.body label) ∷ []) refl tt) (λ c. omega arith)
        form_fits around IsNull types stand stay outer room facts first =
            formed (none_fit {most = 0}) (λ c. omega arith)
        form_fits around (IsAssignment {range = targets} {value = value} {tree = tree} are is) types stand
            stay outer room facts first =
            formed
            (assignment_fits at (type_of tree) facts targets value
            (within_is is types.0 (omega (arith, room))) are types.1
            (omega (arith, room)) (type_there at.body at.source.storage facts value is))
            (λ c. omega arith)
        form_fits around (IsCall {procedure = procedure} {range = range} are) types stand stay
            outer room facts first =
            formed (call_fits at procedure range 0 None are types.0 types.1 (omega (arith, room)))
            (λ c. omega arith)
        form_fits around
            (IsMove {count = count} {source = begin} {destination = destination} count_is source_is
            destination_is) types stand stay outer room facts first =
            formed
            (move_fits at (knowing (site_of at.body) facts) count begin destination
            (within_is count_is types.0.0 (omega (arith, room))) (typed_is source_is types.1.0)
            (omega (arith, room))
            (typed_is destination_is types.2.0) (omega (arith, room)))
            (λ c. omega arith)
        form_fits around (IsReturn {tree = tree} is) types stand stay outer room facts first =
            formed (return_of_fits is (returned_types at tree types (omega (arith, room)))) (λ c. omega arith)
        form_fits around IsHalt types stand stay outer room facts first =
            formed (then_fit (code_fits (steps.Plain Hlt) refl refl)
            (plains_fit (Reaches false ∷ []) refl tt)) (λ c. omega arith)
        form_fits around (IsGoto {number = number} {label = label} named) types stand stay
            outer room facts first =
            formed
            (plains_fit (jump Jump (body_label at.body number) ∷ Reaches false ∷ []) refl
            ((λ c. outer number label named (stay c) c), tt))
            (λ c. omega arith)
        form_fits around
            (IsIf {condition = condition} {body = then_part} {otherwise = else_part} {test = test}
            {then_tree = then_tree} {else_tree = else_tree} test_is then_is else_is) types stand stay
            outer room facts first =
            let chosen : StatementFootprint at then_part then_tree =
            statement_fits then_part around then_is types.1 (λ c. (stand c).1) (λ c. (stay c).0) outer
            (omega (arith, room)) in
            formed
            (if_fits (knowing (site_of at.body) facts) condition (bytes_for (weight_of_expression test))
            (λ label sense to. branch_fits at condition label sense 0
            (within_is test_is types.0 (omega (arith, room))) to)
            then_part (bytes_for (weight_of_statement then_tree)) (statement_step_fits chosen)
            chosen.goto first else_part
            (bytes_for (weight_of_else else_tree))
            (else_fits around else_is types.2 (λ c. (stand c).2) (λ c. (stay c).1) outer
            (omega (arith, room))))
            (λ c. omega arith)
        form_fits around (IsDo {range = range} is) types stand stay outer room facts first =
            formed (list_step_fits (whole_list_fits range around is types stand stay outer room))
            (λ c. omega arith)
        form_fits around (IsLoop {head = head} {range = range} {tree = tree} {list = list} head_is is) types
            stand stay outer room facts first =
            formed
            (loop_fits at facts range (bytes_for (weight_of_list list))
            (list_step_fits (whole_list_fits range around is types.1 stand stay outer (omega (arith, room))))
            first head_is types.0 (omega (arith, room)))
            (λ c. omega arith)
        form_fits around (IsCase {choice = choice} {range = range} {trees = trees} choice_is are) types stand
            stay outer room facts first =
            formed
            (case_fits at range
            (all_fit around are types.1 (λ c. cases_stand trees (stand c)) stay outer (omega (arith, room)))
            stand
            (knowing (site_of at.body) facts) choice
            (within_is choice_is types.0 (omega (arith, room))) first)
            (λ c. omega arith)

        else_fits :
            {bound : ℕ} {otherwise : Option StatementNumber} {tree : TypedElse} (around : List LabelsOf)
            → IsElse (nodes_of at.body.tree.now) at.source.storage labels bound otherwise tree
            → TypesHoldInElse at.source.typed at.source.within tree
            → (at.counts → ListsStandInElse tree)
            → (at.counts → JumpsStayInElse around tree)
            → AroundGo at labels around
            → 2 + 2 * height_of_else tree ≤ at.level
            → AnyFits at otherwise (bytes_for (weight_of_else tree))
        else_fits around IsNoElse types stand stay outer room = tt
        else_fits around (IsSomeElse {number = number} is) types stand stay outer room =
            let chosen = statement_fits number around is types (λ c. (stand c).1) stay outer room in
            (statement_step_fits chosen, chosen.goto)

        pub whole_list_fits :
            {bound : ℕ} {tree : TypedList} (range : Range) (around : List LabelsOf)
            → IsList (nodes_of at.body.tree.now) at.source.storage labels bound range tree
            → TypesHoldInList at.source.typed at.source.within tree
            → (at.counts → ListStands tree)
            → (at.counts → JumpsStayInList around tree)
            → AroundGo at labels around
            → 2 + 2 * height_of_list tree ≤ at.level
            → ListFootprint at range tree
        whole_list_fits range around (IsListOf {first_label = label} {places = places} are) types stand stay
            outer room = record {
              fits = λ done own.
                  list_measured
                  (all_fit (labels_of_list label places ∷ around) are types (λ c. (stand c).1) stay
                  (around_list at labels around label places differ are (λ c. (stand c).0) done own outer) room)
                  done own;
            }

        all_fit :
            {bound first count : ℕ} {trees : TypedStatements} (around : List LabelsOf)
            → AreStatements (nodes_of at.body.tree.now) at.source.storage labels bound first count trees
            → TypesHoldInStatements at.source.typed at.source.within trees
            → (at.counts → ListsStandInStatements trees)
            → (at.counts → JumpsStayInStatements around trees)
            → AroundGo at labels around
            → 2 + 2 * height_of_statements trees ≤ at.level
            → AllFit at first count trees
        all_fit around AreNoStatements types stand stay outer room = NoneFit
        all_fit around (AreMoreStatements {number = number} there is others) types stand stay outer room =
            MoreFit there
            (statement_fits number around is types.0 (λ c. (stand c).0) (λ c. (stay c).0) outer
            (omega (arith, room)))
            (all_fit around others types.1 (λ c. (stand c).1) (λ c. (stay c).1) outer (omega (arith, room)))
