-- The code of statements, procedures and a main program as a function of the body, of the facts about the
-- registers before it, and of its first label.
use Rattle.std.specs.Prelude.{ℕ, zero, suc, Bool, true, false, List, [], ◌∷◌, ◌++◌, Option, Some, None, option_and_then, option_map, slice_get}
use Rattle.isa8080.specs.declared.instr.Instr.TheVariants.{Hlt}
use Rattle.isa8080.specs.declared.instr.Pair.TheVariants.{Sp}
use Rattle.asm8080.specs.declared.item.Item.{Item}
use Rattle.asm8080.specs.declared.item.Item.TheVariants as items
use Rattle.asm8080.specs.declared.item.WordForm.TheVariants.{LoadPair}
use Rattle.treecode.specs.declared.lists.Range.{Range}
use Rattle.treecode.specs.declared.module.TreeModule.{TreeModule}
use Rattle.treecode.specs.declared.statement.Statement.{Statement}
use Rattle.treecode.specs.declared.statement.StatementNumber.{StatementNumber}
use Rattle.steps8080.specs.declared.facts.Facts.{Facts}
use Rattle.steps8080.specs.internal.Facts.{no_facts}
use Rattle.steps8080.specs.internal.Step.{label_after}
use Rattle.steps8080.specs.internal.Writer.{stack_end_item}
use Rattle.exprgen8080.specs.internal.Code.{Code, IsFoundDeep, code_of_part, code_of_steps}
use Rattle.exprgen8080.specs.internal.Emission.{knowing}
use Rattle.statements8080.specs.declared.body.Body.{Body}
use Rattle.statements8080.specs.declared.plan.Planned.{Planned}
use Rattle.statements8080.specs.declared.plan.Planned.TheVariants as planned
use Rattle.codegen8080.specs.declared.meeting.Here.{Here}
use Rattle.codegen8080.specs.internal.Generated.{arriving, carried_steps, here_after, site_of, waiting_after}
use Rattle.codegen8080.specs.internal.Procedures.{end_steps, entry_labels, entry_steps}
use Rattle.codegen8080.specs.internal.Statements.{statement_labels, statement_steps}

-- items, the end of the code after them, and the first label that is free after them
pub record StatementCode : Type 0 where
  pub items : List Item
  pub here : Here
  pub label : ℕ

-- items, then those of code
abbrev pub before_code : List Item → StatementCode → StatementCode
before_code items code = record code { items = items ++ code.items }

-- The code of `count` statements of the table of lists, from an entry on, by the code of each statement.
unfoldable pub code_of_statements :
    TreeModule → (code_of : Facts → StatementNumber → (label : ℕ) → Option StatementCode)
    → Here → (first count label : ℕ) → Option StatementCode
code_of_statements tree code_of here first zero label = Some (record { items = []; here = here; label = label })
code_of_statements tree code_of here first (suc count) label =
    option_and_then
    (λ (number : StatementNumber).
    option_and_then
    (λ (one : StatementCode).
    option_map (before_code one.items) (code_of_statements tree code_of one.here (suc first) count one.label))
    (code_of here.facts number label))
    (slice_get tree.lists.items first)

-- the code of the statements of a list
abbrev pub code_of_list :
    TreeModule → (code_of : Facts → StatementNumber → (label : ℕ) → Option StatementCode)
    → Facts → Range → (label : ℕ) → Option StatementCode
code_of_list tree code_of facts list label = code_of_statements tree code_of (arriving (Some facts)) list.first list.count label

-- The code of planned steps, from this end of the code and these waiting facts. A statement or a list has the
-- code of its statements; any other step has that of its expression steps, with parts nested at most `depth`
-- deep.
unfoldable pub code_of_planned :
    Body → (depth : ℕ) → (code_of : Facts → StatementNumber → (label : ℕ) → Option StatementCode)
    → Here → (waiting : Option Facts) → List Planned → (label : ℕ) → Option StatementCode
code_of_planned body depth code_of here waiting [] label =
    Some (record { items = []; here = here; label = label })
code_of_planned body depth code_of here waiting (planned.Statement number ∷ others) label =
    option_and_then
    (λ (first : StatementCode).
    option_map (before_code first.items)
    (code_of_planned body depth code_of first.here waiting others first.label))
    (code_of here.facts number label)
code_of_planned body depth code_of here waiting (planned.List list ∷ others) label =
    option_and_then
    (λ (first : StatementCode).
    option_map (before_code first.items)
    (code_of_planned body depth code_of first.here waiting others first.label))
    (code_of_list body.tree.now code_of here.facts list label)
code_of_planned body depth code_of here waiting (step ∷ others) label =
    option_and_then
    (λ (first : Code).
    option_map (before_code first.items)
    (code_of_planned body depth code_of (here_after here waiting first.facts step) (waiting_after here waiting step)
    others first.label))
    (code_of_steps body.tree.now (code_of_part (site_of body) depth) here.facts
    (carried_steps (site_of body) here step) label)

-- The code of a statement, with statements and parts nested at most `depth` deep: that of its steps, with
-- their labels first.
unfoldable pub code_of_statement :
    Body → (depth : ℕ) → Facts → StatementNumber → (label : ℕ) → Option StatementCode
code_of_statement body zero facts number label = None
code_of_statement body (suc depth) facts number label =
    option_and_then
    (λ (statement : Statement).
    code_of_planned body depth (code_of_statement body depth) (arriving (Some facts)) None
    (statement_steps body (knowing (site_of body) facts) statement label)
    (label_after label (statement_labels body (knowing (site_of body) facts) statement)))
    (slice_get body.tree.now.statements.items number.index)

-- the code of planned steps of a body, and of a list of its statements, without waiting facts
abbrev pub code_of_steps_of : Body → (depth : ℕ) → Here → List Planned → (label : ℕ) → Option StatementCode
code_of_steps_of body depth here list label =
    code_of_planned body depth (code_of_statement body depth) here None list label

abbrev pub code_of_list_of : Body → (depth : ℕ) → Facts → (label : ℕ) → Option StatementCode
code_of_list_of body depth facts label =
    code_of_list body.tree.now (code_of_statement body depth) facts body.procedure.now.body label

-- The code of the end of a procedure, if it can be reached.
abbrev pub code_of_end : Body → (depth : ℕ) → (is_reached : Bool) → Here → (label : ℕ) → Option StatementCode
code_of_end body depth true here label = code_of_steps_of body depth here (end_steps body) label
code_of_end body depth false here label = Some (record { items = []; here = here; label = label })

-- The code of the procedure with this number: its label, its entry, its statements, and its end. The labels
-- of its source come first, then those of its entry.
unfoldable pub code_of_procedure : Body → (depth : ℕ) → (number label : ℕ) → Option StatementCode
code_of_procedure body depth number label =
    option_map (before_code (items.Mark number ∷ []))
    (option_and_then
    (λ (beginning : StatementCode).
    option_map (before_code beginning.items)
    (option_and_then
    (λ (statements : StatementCode).
    option_map (before_code statements.items)
    (code_of_end body depth body.procedure.now.reaches_its_end statements.here statements.label))
    (code_of_list_of body depth beginning.here.facts beginning.label)))
    (code_of_steps_of body depth (arriving (Some no_facts))
    (entry_steps body (label_after label body.procedure.now.label_count))
    (label_after (label_after label body.procedure.now.label_count) (entry_labels body))))

-- The code of a main program with its label: it sets the stack pointer to the end of the stack, carries out
-- its statements, and halts.
unfoldable pub code_of_main : Body → (depth : ℕ) → (start label : ℕ) → Option StatementCode
code_of_main body depth start label =
    option_map
    (λ (statements : StatementCode).
    record statements {
      items = items.Mark start ∷ stack_end_item (LoadPair Sp) ∷ (statements.items ++ (items.Plain Hlt ∷ []));
    })
    (code_of_list_of body depth no_facts (label_after label body.procedure.now.label_count))

-- the code of a statement, of statements one after another, and of planned steps
abbrev pub IsCodeOfStatement : Body → Facts → StatementNumber → (label : ℕ) → StatementCode → Type 0
IsCodeOfStatement body facts number label code =
    IsFoundDeep (λ depth. code_of_statement body depth facts number label) code

abbrev pub IsCodeOfStatements : Body → Here → (first count label : ℕ) → StatementCode → Type 0
IsCodeOfStatements body here first count label code =
    IsFoundDeep (λ depth. code_of_statements body.tree.now (code_of_statement body depth) here first count label) code

abbrev pub IsCodeOfPlanned :
    Body → Here → (waiting : Option Facts) → List Planned → (label : ℕ) → StatementCode → Type 0
IsCodeOfPlanned body here waiting list label code =
    IsFoundDeep (λ depth. code_of_planned body depth (code_of_statement body depth) here waiting list label) code

-- the code of a procedure, and of a main program
abbrev pub IsCodeOfProcedure : Body → (number label : ℕ) → StatementCode → Type 0
IsCodeOfProcedure body number label code = IsFoundDeep (λ depth. code_of_procedure body depth number label) code

abbrev pub IsCodeOfMainProgram : Body → (start label : ℕ) → StatementCode → Type 0
IsCodeOfMainProgram body start label code = IsFoundDeep (λ depth. code_of_main body depth start label) code
