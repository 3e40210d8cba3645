-- Items with labels counted in their order are the code that the function gives, so that the code is unique.
use Rattle.codegen8080.proofs.Prelude.{◌≡◌, ℕ, suc, ◌+◌, Bool, List, [], ◌∷◌, Option, Some, None, option_and_then, option_map, refl, sym, ap, subst, ◌∙◌, true, false, ◌++◌, Hlt, Sp, Item, LoadPair, Range, TreeModule, TreeProcedure, Statement, StatementNumber, Facts, no_facts, label_after, stack_end_item, IsFoundDeep, code_of_part, code_of_steps, knowing, found_deeper, found_map, found_then, steps_are_code, Body, Planned, Here, AreAllCarriedOut, AreCarriedOut, HoldsNoStatement, IsCarriedOut, IsListCarriedOut, ListCarriedOut, ListPlanned, MoreStatements, NoneCarriedOut, NoStatements, StatementCarriedOut, StatementPlanned, StepCarriedOut, arriving, carried_steps, here_after, site_of, waiting_after, AreAllLabelled, AreStepsLabelled, IsListLabelled, IsStatementLabelled, IsEndCode, IsEndLabelled, IsMainCode, IsMainLabelled, IsProcedureCode, IsProcedureLabelled, entry_labels, entry_steps, statement_labels, statement_steps}
use Rattle.asm8080.specs.declared.item.Item.TheVariants as its
use Rattle.exprgen8080.specs.internal.Code.{Code}
use Rattle.statements8080.specs.declared.plan.Planned.TheVariants as planned
use Rattle.codegen8080.specs.internal.Code.{IsCodeOfMainProgram, IsCodeOfPlanned, IsCodeOfProcedure, IsCodeOfStatement, IsCodeOfStatements, StatementCode, before_code, code_of_end, code_of_list, code_of_list_of, code_of_main, code_of_planned, code_of_procedure, code_of_statement, code_of_statements, code_of_steps_of}

-- the code of a step that is neither a statement nor a list is that of its steps, before that of others
alone_is :
    (body : Body) (depth : ℕ) (here : Here) (waiting : Option Facts) (step : Planned)
    (others : List Planned) (label : ℕ)
    → HoldsNoStatement step
    → code_of_planned body depth (code_of_statement body depth) here waiting (step ∷ others) label
    ≡ option_and_then
    (λ (first : Code).
    option_map (before_code first.items)
    (code_of_planned body depth (code_of_statement body depth) (here_after here waiting first.facts step)
    (waiting_after here waiting step) others first.label))
    (code_of_steps body.tree.now (code_of_part (site_of body) depth) here.facts
    (carried_steps (site_of body) here step) label)
unfolding code_of_planned
alone_is body depth here waiting (planned.Statement number) others label alone = absurd alone
alone_is body depth here waiting (planned.List list) others label alone = absurd alone
alone_is body depth here waiting (planned.Code step) others label alone = refl
alone_is body depth here waiting (planned.LoadByte reference) others label alone = refl
alone_is body depth here waiting (planned.LoadWord reference) others label alone = refl
alone_is body depth here waiting (planned.JumpOn to) others label alone = refl
alone_is body depth here waiting (planned.Turn other end) others label alone = refl
alone_is body depth here waiting (planned.Meet at) others label alone = refl
alone_is body depth here waiting (planned.Again at facts is_entered) others label alone = refl
alone_is body depth here waiting (planned.Reaches goes_on) others label alone = refl
alone_is body depth here waiting (planned.Jumped is_the_only_one) others label alone = refl

mutual
  unfolding code_of_planned code_of_statements code_of_statement

  pub planned_are_code :
      {body : Body} {called : List Bool} {here last : Here} {waiting : Option Facts} {list : List Planned}
      {items : List Item} (label next : ℕ)
      → (written : AreCarriedOut body called here waiting list items last)
      → AreStepsLabelled written label next
      → IsCodeOfPlanned body here waiting list label (record { items = items; here = last; label = next })
  planned_are_code {here = here} label next NoneCarriedOut labels =
      (0, λ extra. ap (λ at. Some (record { items = []; here = here; label = at })) (sym labels))
  planned_are_code {body = body} {here = here} {last = last} {waiting = waiting} label next
      (StepCarriedOut {known = known} {step = step} {others = list} {first = items} {more = more}
      alone written others)
      labels =
      let first : Code = record { items = items; facts = known; label = labels.0 } in
      let rest : StatementCode = record { items = more; here = last; label = next } in
      let found =
      found_then
      (λ depth.
      code_of_steps body.tree.now (code_of_part (site_of body) depth) here.facts
      (carried_steps (site_of body) here step) label)
      (λ depth found.
      option_map (before_code found.items)
      (code_of_planned body depth (code_of_statement body depth) (here_after here waiting found.facts step)
      (waiting_after here waiting step) list found.label))
      first (before_code items rest)
      (steps_are_code label labels.0 written labels.1)
      (found_map (before_code items)
      (λ depth.
      code_of_planned body depth (code_of_statement body depth) (here_after here waiting known step)
      (waiting_after here waiting step) list labels.0)
      rest (planned_are_code labels.0 next others labels.2)) in (
        found.0,
        λ extra. alone_is body (found.0 + extra) here waiting step list label alone ∙ found.1 extra,
      )
  planned_are_code {body = body} {here = here} {last = last} {waiting = waiting} label next
      (StatementCarriedOut {middle = middle} {number = number} {others = list} {first = items}
      {more = more} first others)
      labels =
      let one : StatementCode = record { items = items; here = middle; label = labels.0 } in
      let rest : StatementCode = record { items = more; here = last; label = next } in
      found_then (λ depth. code_of_statement body depth here.facts number label)
      (λ depth found.
      option_map (before_code found.items)
      (code_of_planned body depth (code_of_statement body depth) found.here waiting list found.label))
      one (before_code items rest)
      (statement_is_code label labels.0 first labels.1)
      (found_map (before_code items)
      (λ depth. code_of_planned body depth (code_of_statement body depth) middle waiting list labels.0)
      rest (planned_are_code labels.0 next others labels.2))
  planned_are_code {body = body} {here = here} {last = last} {waiting = waiting} label next
      (ListCarriedOut {middle = middle} {list = range} {others = list} {first = items}
      {more = more} first others)
      labels =
      let one : StatementCode = record { items = items; here = middle; label = labels.0 } in
      let rest : StatementCode = record { items = more; here = last; label = next } in
      found_then
      (λ depth.
      code_of_statements body.tree.now (code_of_statement body depth) (arriving (Some here.facts))
      range.first range.count label)
      (λ depth found.
      option_map (before_code found.items)
      (code_of_planned body depth (code_of_statement body depth) found.here waiting list found.label))
      one (before_code items rest)
      (list_is_code label labels.0 first labels.1)
      (found_map (before_code items)
      (λ depth. code_of_planned body depth (code_of_statement body depth) middle waiting list labels.0)
      rest (planned_are_code labels.0 next others labels.2))

  pub statement_is_code :
      {body : Body} {called : List Bool} {facts : Facts} {number : StatementNumber}
      {items : List Item} {last : Here}
      (label next : ℕ)
      → (written : IsCarriedOut body called facts number items last)
      → IsStatementLabelled written label next
      → IsCodeOfStatement body facts number label (record { items = items; here = last; label = next })
  statement_is_code {body = body} {facts = facts} {number = number} {items = items} {last = last} label next
      (StatementPlanned {statement = statement} at found steps) labels =
      let after : ℕ = label_after label (statement_labels body (knowing (site_of body) facts) statement) in
      let code : StatementCode = record { items = items; here = last; label = next } in
      found_deeper (λ depth. code_of_statement body depth facts number label) code
      (subst
      (λ read.
      IsFoundDeep
      (λ depth.
      option_and_then
      (λ (is : Statement).
      code_of_planned body depth (code_of_statement body depth) (arriving (Some facts)) None
      (statement_steps body (knowing (site_of body) facts) is label)
      (label_after label (statement_labels body (knowing (site_of body) facts) is)))
      read)
      code)
      (sym found)
      (subst
      (λ first.
      IsCodeOfPlanned body (arriving (Some facts)) None
      (statement_steps body (knowing (site_of body) facts) statement first) after code)
      labels.0 (planned_are_code after next steps labels.1)))

  pub list_is_code :
      {body : Body} {called : List Bool} {facts : Facts} {range : Range} {items : List Item} {last : Here}
      (label next : ℕ)
      → (written : IsListCarriedOut body called facts range items last)
      → IsListLabelled written label next
      → IsCodeOfStatements body (arriving (Some facts)) range.first range.count label
      (record { items = items; here = last; label = next })
  list_is_code label next (ListPlanned all) labels = all_are_code label next all labels

  pub all_are_code :
      {body : Body} {called : List Bool} {here last : Here} {first count : ℕ}
      {items : List Item} (label next : ℕ)
      → (written : AreAllCarriedOut body called here first count items last)
      → AreAllLabelled written label next
      → IsCodeOfStatements body here first count label (record { items = items; here = last; label = next })
  all_are_code {here = here} label next NoStatements labels =
      (0, λ extra. ap (λ at. Some (record { items = []; here = here; label = at })) (sym labels))
  all_are_code {body = body} {here = here} {last = last} {first = first} label next
      (MoreStatements {middle = middle} {count = count} {number = number} {list = items}
      {more = more} found is others)
      labels =
      let one : StatementCode = record { items = items; here = middle; label = labels.0 } in
      let rest : StatementCode = record { items = more; here = last; label = next } in
      subst
      (λ read.
      IsFoundDeep
      (λ depth.
      option_and_then
      (λ (at : StatementNumber).
      option_and_then
      (λ (made : StatementCode).
      option_map (before_code made.items)
      (code_of_statements body.tree.now (code_of_statement body depth) made.here
      (suc first) count made.label))
      (code_of_statement body depth here.facts at label))
      read)
      (before_code items rest))
      (sym found)
      (found_then (λ depth. code_of_statement body depth here.facts number label)
      (λ depth made.
      option_map (before_code made.items)
      (code_of_statements body.tree.now (code_of_statement body depth) made.here
      (suc first) count made.label))
      one (before_code items rest)
      (statement_is_code label labels.0 is labels.1)
      (found_map (before_code items)
      (λ depth. code_of_statements body.tree.now (code_of_statement body depth) middle
      (suc first) count labels.0)
      rest (all_are_code labels.0 next others labels.2)))

-- The items that are written for the end of a procedure are its code.
end_is_code :
    (body : Body) (called : List Bool) (here : Here) (is_reached : Bool) (items : List Item) (label next : ℕ)
    → (code : IsEndCode body called here is_reached items)
    → IsEndLabelled body called here is_reached items code label next
    → (last : Here)
    × IsFoundDeep (λ depth. code_of_end body depth is_reached here label)
    (record { items = items; here = last; label = next })
end_is_code body called here true items label next code labels =
    (code.0, planned_are_code label next code.1 labels)
end_is_code body called here false items label next code labels = (
  here,
  (
    0,
    λ extra.
        ap (λ at. Some (record { items = []; here = here; label = at })) (sym labels)
        ∙ ap (λ all. Some (record { items = all; here = here; label = next })) (sym code),
  ),
)

-- The items that are written for a procedure are its code.
pub procedure_is_code :
    {tree : TreeModule} {called : List Bool} {number : ℕ} {procedure : TreeProcedure} {items : List Item}
    (label next : ℕ)
    → (code : IsProcedureCode tree called number procedure items)
    → IsProcedureLabelled code label next
    → (last : Here)
    × IsCodeOfProcedure code.body number label (record { items = items; here = last; label = next })
unfolding code_of_procedure
procedure_is_code {tree = tree} {called = called} {number = number} {procedure = procedure}
    {items = items} label next code
    labels =
    let body : Body = code.body in
    let start : ℕ = label_after label body.procedure.now.label_count in
    let first : code.first ≡ start =
    labels.first ∙ ap (λ (own : TreeProcedure). label_after label own.label_count) (sym code.procedure_is) in
    let ending =
    end_is_code body called code.last procedure.reaches_its_end code.ending labels.ended next
    code.ends labels.ends in
    let begun : StatementCode =
    record { items = code.beginning; here = code.entered; label = labels.begun } in
    let listed : StatementCode = record { items = code.statements; here = code.last; label = labels.ended } in
    let ended : StatementCode = record { items = code.ending; here = ending.0; label = next } in
    let begins :
    IsFoundDeep
    (λ depth.
    code_of_steps_of body depth (arriving (Some no_facts)) (entry_steps body start)
    (label_after start (entry_labels body)))
    begun =
    subst
    (λ at.
    IsFoundDeep
    (λ depth.
    code_of_steps_of body depth (arriving (Some no_facts)) (entry_steps body at)
    (label_after at (entry_labels body)))
    begun)
    first
    (planned_are_code (label_after code.first (entry_labels body)) labels.begun code.begins labels.begins) in
    let lists : IsFoundDeep (λ depth. code_of_list_of body depth code.entered.facts labels.begun) listed =
    subst
    (λ (own : TreeProcedure).
    IsFoundDeep
    (λ depth.
    code_of_list body.tree.now (code_of_statement body depth) code.entered.facts own.body labels.begun)
    listed)
    (sym code.procedure_is) (list_is_code labels.begun labels.ended code.written labels.written) in
    let ends :
    IsFoundDeep
    (λ depth. code_of_end body depth body.procedure.now.reaches_its_end code.last labels.ended) ended =
    subst
    (λ (own : TreeProcedure).
    IsFoundDeep (λ depth. code_of_end body depth own.reaches_its_end code.last labels.ended) ended)
    (sym code.procedure_is) ending.1 in (
      ending.0,
      subst
          (λ all. IsCodeOfProcedure body number label (record { items = all; here = ending.0; label = next }))
          (sym code.list_is)
          (found_map (before_code (its.Mark number ∷ []))
          (λ depth.
          option_and_then
          (λ (beginning : StatementCode).
          option_map (before_code beginning.items)
          (option_and_then
          (λ (statements : StatementCode).
          option_map (before_code statements.items)
          (code_of_end body depth body.procedure.now.reaches_its_end statements.here statements.label))
          (code_of_list_of body depth beginning.here.facts beginning.label)))
          (code_of_steps_of body depth (arriving (Some no_facts)) (entry_steps body start)
          (label_after start (entry_labels body))))
          (before_code code.beginning (before_code code.statements ended))
          (found_then
          (λ depth.
          code_of_steps_of body depth (arriving (Some no_facts)) (entry_steps body start)
          (label_after start (entry_labels body)))
          (λ depth beginning.
          option_map (before_code beginning.items)
          (option_and_then
          (λ (statements : StatementCode).
          option_map (before_code statements.items)
          (code_of_end body depth body.procedure.now.reaches_its_end statements.here statements.label))
          (code_of_list_of body depth beginning.here.facts beginning.label)))
          begun (before_code code.beginning (before_code code.statements ended)) begins
          (found_map (before_code code.beginning)
          (λ depth.
          option_and_then
          (λ (statements : StatementCode).
          option_map (before_code statements.items)
          (code_of_end body depth body.procedure.now.reaches_its_end statements.here statements.label))
          (code_of_list_of body depth code.entered.facts labels.begun))
          (before_code code.statements ended)
          (found_then (λ depth. code_of_list_of body depth code.entered.facts labels.begun)
          (λ depth statements.
          option_map (before_code statements.items)
          (code_of_end body depth body.procedure.now.reaches_its_end statements.here statements.label))
          listed (before_code code.statements ended) lists
          (found_map (before_code code.statements)
          (λ depth. code_of_end body depth body.procedure.now.reaches_its_end code.last labels.ended) ended
          ends))))),
    )

-- The items that are written for a main program are its code.
pub main_is_code :
    {tree : TreeModule} {called : List Bool} {start : ℕ} {items : List Item} (label next : ℕ)
    → (code : IsMainCode tree called start items)
    → IsMainLabelled code label next
    → IsCodeOfMainProgram code.body start label (record { items = items; here = code.last; label = next })
unfolding code_of_main
main_is_code {tree = tree} {start = start} {items = items} label next code labels =
    let body : Body = code.body in
    let listed : StatementCode = record { items = code.statements; here = code.last; label = next } in
    let lists :
    IsFoundDeep
    (λ depth. code_of_list_of body depth no_facts (label_after label body.procedure.now.label_count)) listed =
    subst
    (λ (own : TreeProcedure).
    IsFoundDeep
    (λ depth.
    code_of_list body.tree.now (code_of_statement body depth) no_facts own.body
    (label_after label own.label_count))
    listed)
    (sym code.procedure_is)
    (list_is_code (label_after label tree.main.label_count) next code.written labels.written) in
    subst
    (λ all. IsCodeOfMainProgram body start label (record { items = all; here = code.last; label = next }))
    (sym code.list_is)
    (found_map
    (λ (statements : StatementCode).
    record statements {
      items = its.Mark start ∷ stack_end_item (LoadPair Sp) ∷ (statements.items ++ (its.Plain Hlt ∷ []));
    })
    (λ depth. code_of_list_of body depth no_facts (label_after label body.procedure.now.label_count)) listed lists)
