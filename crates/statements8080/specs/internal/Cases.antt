-- The code of DO CASE.
use Rattle.std.specs.Prelude.{ℕ, ◌+◌, ◌-◌, ◌%◌, min, true, if◌then◌else◌, nat_eq, nat_lt, List, [], ◌∷◌, ◌++◌, Some, None, option_and_then}
use Rattle.isa8080.specs.declared.instr.Condition.TheVariants.{NoCarry}
use Rattle.isa8080.specs.declared.instr.Instr.TheVariants.{AccumulateImmediate, Dad, Pchl, Xchg}
use Rattle.isa8080.specs.declared.instr.Operation.TheVariants.{Compare}
use Rattle.isa8080.specs.declared.instr.Pair.TheVariants.{De, Hl}
use Rattle.isa8080.specs.declared.instr.Register.TheVariants.{A, D, E}
use Rattle.asm8080.specs.declared.item.WordForm.TheVariants.{Jump, JumpWhere, LoadPair}
use Rattle.trees.specs.declared.declaration.ScalarType.{ScalarType}
use Rattle.trees.specs.declared.declaration.ScalarType.TheVariants.{Byte, Address}
use Rattle.treecode.specs.declared.expression.ExpressionNumber.{ExpressionNumber}
use Rattle.treecode.specs.declared.lists.Range.{Range}
use Rattle.treecode.specs.declared.statement.Statement.{Statement as TreeStatement}
use Rattle.treecode.specs.declared.statement.Statement.TheVariants.{Goto, Null}
use Rattle.treecode.specs.internal.Queries.{item, statement}
use Rattle.steps8080.specs.declared.step.LabelNumber.{LabelNumber}
use Rattle.steps8080.specs.declared.step.Task.TheVariants as tasks
use Rattle.steps8080.specs.internal.Instructions.{copy, set}
use Rattle.steps8080.specs.internal.Step.{label_of}
use Rattle.steps8080.specs.declared.sites.site.Site.{Site}
use Rattle.steps8080.specs.internal.Site.{scalar}
use Rattle.steps8080.specs.internal.Queries.{number}
use Rattle.statements8080.specs.declared.body.Body.{Body}
use Rattle.statements8080.specs.declared.plan.Planned.{Planned}
use Rattle.statements8080.specs.declared.plan.Planned.TheVariants.{JumpOn, Reaches, Statement}
use Rattle.statements8080.specs.internal.Plans.{all, jump, label_at, mark, nth_label, part, plain, steps_from}
use Rattle.statements8080.specs.internal.Bodies.{body_label}
use Rattle.statements8080.specs.internal.Tests.{less_steps}

-- jumps to the end if no statement has the number in A
abbrev pub byte_bound_steps : (count : ℕ) → (end : LabelNumber) → List Planned
byte_bound_steps count end =
    if nat_lt count 256
    then plain (AccumulateImmediate Compare (count % 256)) ∷ jump (JumpWhere NoCarry) end ∷ []
    else []

-- the same for the number in HL
abbrev pub word_bound_steps : (count : ℕ) → (end : LabelNumber) → List Planned
word_bound_steps count end =
    if nat_lt count 65536 then less_steps count ++ (jump (JumpWhere NoCarry) end ∷ []) else []

-- puts the number of a BYTE choice into DE, and jumps to the end if no statement has this number
abbrev pub byte_choice_steps : (choice : ExpressionNumber) → (count : ℕ) → (end : LabelNumber) → List Planned
byte_choice_steps choice count end =
    part (tasks.Byte choice) 0 ∷ (byte_bound_steps count end ++ all (copy E A ∷ set D 0 ∷ []))

-- puts the number of an ADDRESS choice into DE, and jumps to the end if no statement has this number
abbrev pub word_choice_steps : (choice : ExpressionNumber) → (count : ℕ) → (end : LabelNumber) → List Planned
word_choice_steps choice count end =
    part (tasks.Word choice) 0 ∷ (word_bound_steps count end ++ (plain Xchg ∷ []))

-- puts the number of the choice into DE, by its type
unfoldable pub number_in_de_steps :
    ScalarType → (choice : ExpressionNumber) → (count : ℕ) → (end : LabelNumber) → List Planned
number_in_de_steps Byte choice count end = byte_choice_steps choice count end
number_in_de_steps Address choice count end = word_choice_steps choice count end

-- the label at which a statement is entered: that of its GOTO, the end for a null statement, else a label of
-- its own
abbrev pub entry_of_statement : Body → TreeStatement → (own end : LabelNumber) → LabelNumber
entry_of_statement body (Goto label) own end = body_label body label
entry_of_statement body Null own end = end
entry_of_statement body other own end = own

-- the label at which a statement of the list is entered, if there is one
abbrev pub entry_of : Body → Range → (index : ℕ) → (own end : LabelNumber) → LabelNumber
entry_of body list index own end =
    elim (option_and_then (statement body.tree.now) (item body.tree.now list index)) [
      | Some found ↦ entry_of_statement body found own end
      | None ↦ end
    ]

-- the jump to the statement at an index
unfoldable pub table_at : Body → Range → (first end : LabelNumber) → (index : ℕ) → List Planned
table_at body list first end index =
    jump Jump (entry_of body list index (label_at first index) end) ∷ []

-- the jumps to the statements, one after another
unfoldable pub table_steps : Body → Range → (first end : LabelNumber) → List Planned
table_steps body list first end = steps_from (table_at body list first end) 0 list.count

-- the statement at an index with its label; each but the last jumps to the end; a null statement or a GOTO
-- has no code here
abbrev pub statement_at : Body → Range → (first end : LabelNumber) → (index : ℕ) → List Planned
statement_at body list first end index = elim (item body.tree.now list index) [
  | Some found ↦
      if nat_eq (entry_of body list index (label_at first index) end).index (label_at first index).index
      then mark (label_at first index)
      ∷ Statement found
      ∷ (if nat_lt index (list.count - 1) then JumpOn end ∷ [] else [])
      else []
  | None ↦ []
]

-- the statements with their labels, one after another
unfoldable pub statements_steps : Body → Range → (first end : LabelNumber) → List Planned
statements_steps body list first end = steps_from (statement_at body list first end) 0 list.count

-- jumps into the table, to the entry with the number in DE; the table begins here
unfoldable pub into_table_steps : (table : LabelNumber) → List Planned
into_table_steps table =
    jump (LoadPair Hl) table ∷ (all (Dad De ∷ Dad De ∷ Dad De ∷ Pchl ∷ []) ++ (mark table ∷ []))

-- the end, which all statements reach
unfoldable pub cases_end_steps : (end : LabelNumber) → List Planned
cases_end_steps end = mark end ∷ Reaches true ∷ []

-- DO CASE with a choice that is not known, by a table of jumps: adds 3 times the number to the address of the
-- table. The labels are that of the table, that of the end and those of the statements.
unfoldable pub choice_at_steps :
    Body → Site → (choice : ExpressionNumber) → Range → (table end own : LabelNumber) → List Planned
choice_at_steps body site choice list table end own =
    number_in_de_steps (scalar site choice) choice list.count end
    ++ (into_table_steps table
    ++ (table_steps body list own end ++ (statements_steps body list own end ++ cases_end_steps end)))

-- the same with consecutive labels from the first one that is not taken
abbrev pub choice_steps : Body → Site → (choice : ExpressionNumber) → Range → (first : ℕ) → List Planned
choice_steps body site choice list first =
    choice_at_steps body site choice list (label_of first) (nth_label first 1) (nth_label first 2)

-- the number of labels that it takes
abbrev pub choice_labels : Range → ℕ
choice_labels list = min (list.count + 2) 4294967295

-- only the statement with a known number, if there is one
abbrev pub known_case_steps : Body → Range → (known : ℕ) → List Planned
known_case_steps body list known = elim (item body.tree.now list known) [
  | Some found ↦ Statement found ∷ []
  | None ↦ []
]

-- DO CASE with a choice that is not known; without statements the choice is evaluated for its effects
abbrev pub computed_case_steps :
    Body → Site → (choice : ExpressionNumber) → Range → (first : ℕ) → List Planned
computed_case_steps body site choice list first =
    if nat_eq list.count 0 then part (tasks.Effects choice) 0 ∷ []
    else choice_steps body site choice list first

-- DO CASE
abbrev pub case_steps : Body → Site → (choice : ExpressionNumber) → Range → (first : ℕ) → List Planned
case_steps body site choice list first = elim (number site choice) [
  | Some known ↦ known_case_steps body list known
  | None ↦ computed_case_steps body site choice list first
]

-- the number of labels that it takes
abbrev pub case_labels : Site → (choice : ExpressionNumber) → Range → ℕ
case_labels site choice list = elim (number site choice) [
  | Some known ↦ 0
  | None ↦ if nat_eq list.count 0 then 0 else choice_labels list
]
