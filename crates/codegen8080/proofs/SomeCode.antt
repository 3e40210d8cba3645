-- The code of a statement whose end can't be reached has a byte at least, and so has the code of each procedure.
use Rattle.codegen8080.proofs.Prelude.{◌≡◌, ◌⊎◌, inl, inr, ℕ, ◌<◌, ◌∙◌, Bool, true, false, if◌then◌else◌, List, [], ◌∷◌, ◌++◌, Option, Some, None, same_Some, refl, sym, subst, arith, or_parts, Item, Instr, Range, Statement, StatementNumber, TreeModule, TreeProcedure, ProcedureKind, Facts, Site, Body, Planned, Here, size_of_items, AreWritten, PlainWritten, AreAllCarriedOut, AreCarriedOut, HoldsNoStatement, IsCarriedOut, IsListCarriedOut, ListCarriedOut, ListPlanned, MoreStatements, NoStatements, NoneCarriedOut, StatementCarriedOut, StatementPlanned, StepCarriedOut, IsEndCode, IsProcedureCode, site_of, carried_steps, knowing, statement_steps, end_steps}
use Rattle.std.specs.Prelude.{nat_eq, ◌%◌, length}
use Rattle.isa8080.specs.declared.instr.Instr.TheVariants as instrs
use Rattle.asm8080.proofs.CodeInParts.{size_in_parts}
use Rattle.asm8080.specs.Standing.{size_of_instruction}
use Rattle.layout.specs.Storage.{Storage}
use Rattle.typed_trees.specs.TypedTrees.{TypedElse, TypedList, TypedProcedure, TypedStatement, TypedStatements}
use Rattle.trees.specs.declared.declaration.ScalarType.{ScalarType}
use Rattle.trees.specs.declared.declaration.ScalarType.TheVariants as scalars
use Rattle.treecode.specs.declared.expression.ExpressionNumber.{ExpressionNumber}
use Rattle.treecode.specs.declared.place.Home.{Home}
use Rattle.treecode.specs.declared.procedure.ProcedureKind.TheVariants as kinds
use Rattle.treecode.specs.internal.Lowered.{AreMoreStatements, AreNoStatements, AreStatements, HasBody, IsAssignment, IsCall, IsCase, IsDo, IsElse, IsGoto, IsHalt, IsIf, IsLabel, IsList, IsListOf, IsLoop, IsMove, IsNoElse, IsNull, IsReturn, IsSomeElse, IsStatement, IsStatementForm, IsStatementNode, labels_numbered_in_list, reaches_end, reaches_end_of_else, reaches_end_of_list, reaches_end_of_statements}
use Rattle.treecode.specs.internal.Nodes.{nodes_of}
use Rattle.treecode.specs.internal.Traits.{KeepTraits}
use Rattle.steps8080.proofs.Numbered.{not_both}
use Rattle.steps8080.specs.declared.step.LabelNumber.{LabelNumber}
use Rattle.steps8080.specs.declared.step.Step.TheVariants as steps
unfoldable use Rattle.steps8080.specs.internal.Queries.{known, number}
use Rattle.exprgen8080.specs.internal.Emission.{JumpWritten}
use Rattle.statements8080.specs.declared.plan.Planned.TheVariants as planned
use Rattle.statements8080.specs.internal.Branches.{branch, both_steps, computed_if_steps, either_steps, goto_label, if_steps, statement_if_any, tested_if_steps}
use Rattle.statements8080.specs.internal.Plans.{plain}
use Rattle.codegen8080.proofs.Heads.{loop_begins}
use Rattle.codegen8080.specs.internal.Procedures.{return_steps}
unfoldable use Rattle.codegen8080.specs.internal.Procedures.{drop_steps, pops_steps, return_of_frame_steps, return_over_any_steps, return_over_steps, return_steps_by, zero_result_steps}
unfoldable use Rattle.codegen8080.specs.internal.Statements.{return_of_steps}
use Rattle.codegen8080.specs.internal.Statements.{returned_value_steps}

-- each instruction has a byte
some_bytes : (i : Instr) → 0 < size_of_instruction i
some_bytes (instrs.Lxi pair word) = omega arith
some_bytes i = omega arith

-- items with a byte, among others
some_first : (first more : List Item) → 0 < size_of_items first → 0 < size_of_items (first ++ more)
some_first first more some = omega (arith, some, size_in_parts first more)

some_later : (first more : List Item) → 0 < size_of_items more → 0 < size_of_items (first ++ more)
some_later first more some = omega (arith, some, size_in_parts first more)

-- the code of a planned step has a byte, whatever is known where it begins
abbrev Fills : (body : Body) (called : List Bool) → Planned → Type 0
Fills body called (planned.Code (steps.Plain i)) = Unit {0}
Fills body called (planned.Code (steps.Jump form label)) = Unit {0}
Fills body called (planned.Code step) = ⊥
Fills body called (planned.Statement number) =
    (facts : Facts) (list : List Item) (last : Here) → IsCarriedOut body called facts number list last
    → 0 < size_of_items list
Fills body called (planned.List range) =
    (facts : Facts) (list : List Item) (last : Here) → IsListCarriedOut body called facts range list last
    → 0 < size_of_items list
Fills body called step = ⊥

-- and so has that of one of planned steps
abbrev SomeFill : (body : Body) (called : List Bool) → List Planned → Type 0
SomeFill body called [] = ⊥
SomeFill body called (step ∷ others) = Fills body called step ⊎ SomeFill body called others

fill_later : (body : Body) (called : List Bool) (first others : List Planned) → SomeFill body called others
    → SomeFill body called (first ++ others)
fill_later body called [] others some = some
fill_later body called (step ∷ first) others some = inr (fill_later body called first others some)

module _ (body : Body) (called : List Bool) where
  step_fills :
      (here : Here) (known : Facts) (step : Planned) (list : List Item)
      → HoldsNoStatement step
      → AreWritten (site_of body) called here.facts (carried_steps (site_of body) here step) list known
      → Fills body called step
      → 0 < size_of_items list
  unfolding carried_steps
  step_fills here known (planned.Code (steps.Plain i)) list alone (PlainWritten rest) fills =
      let some : 0 < size_of_instruction i = some_bytes i in omega (arith, some)
  step_fills here known (planned.Code (steps.Jump form label)) list alone (JumpWritten rest) fills = omega arith
  step_fills here known (planned.Code step) list alone written fills = absurd fills
  step_fills here known (planned.Statement number) list alone written fills = absurd alone
  step_fills here known (planned.List range) list alone written fills = absurd alone
  step_fills here known step list alone written fills = absurd fills

  plan_fills :
      {here last : Here} {waiting : Option Facts} {plan : List Planned} {list : List Item}
      → AreCarriedOut body called here waiting plan list last
      → SomeFill body called plan
      → 0 < size_of_items list
  plan_fills NoneCarriedOut some = absurd some
  plan_fills {here = here} (StepCarriedOut {known = known} {step = step} {first = first} {more = more} alone written rest)
      (inl this) =
      some_first first more (step_fills here known step first alone written this)
  plan_fills (StepCarriedOut {first = first} {more = more} alone written rest) (inr later) =
      some_later first more (plan_fills rest later)
  plan_fills {here = here} (StatementCarriedOut {middle = middle} {first = first} {more = more} one rest) (inl this) =
      some_first first more (this here.facts first middle one)
  plan_fills (StatementCarriedOut {first = first} {more = more} one rest) (inr later) =
      some_later first more (plan_fills rest later)
  plan_fills {here = here} (ListCarriedOut {middle = middle} {first = first} {more = more} one rest) (inl this) =
      some_first first more (this here.facts first middle one)
  plan_fills (ListCarriedOut {first = first} {more = more} one rest) (inr later) =
      some_later first more (plan_fills rest later)

  -- a return
  over_fills : (words : ℕ) (result : Option ScalarType) → SomeFill body called (return_over_steps words result)
  unfolding return_over_steps
  over_fills words (Some scalars.Address) = inl tt
  over_fills words (Some scalars.Byte) = inl tt
  over_fills words None = inl tt

  over_any_fills : (words : ℕ) (result : Option ScalarType) → SomeFill body called (return_over_any_steps words result)
  unfolding return_over_any_steps
  over_any_fills words result = by (nat_eq words 0)
    where
      by : (none : Bool)
          → SomeFill body called (if none then plain instrs.Ret ∷ [] else return_over_steps words result)
      by true = inl tt
      by false = over_fills words result

  frame_fills : SomeFill body called (return_of_frame_steps body)
  unfolding return_of_frame_steps
  frame_fills = fill_later body called _ _ (over_any_fills _ _)

  return_fills : (kind : ProcedureKind) → SomeFill body called (return_steps_by kind body)
  unfolding return_steps_by
  return_fills kinds.Reentrant = frame_fills
  return_fills kinds.Static = inl tt
  return_fills (kinds.External name) = inl tt

  end_fills : SomeFill body called (end_steps body)
  unfolding end_steps
  end_fills = fill_later body called _ _ (return_fills body.procedure.now.kind)

-- planned steps before others
fill_first : (body : Body) (called : List Bool) (first others : List Planned) → SomeFill body called first
    → SomeFill body called (first ++ others)
fill_first body called [] others some = absurd some
fill_first body called (step ∷ first) others (inl this) = inl this
fill_first body called (step ∷ first) others (inr later) = inr (fill_first body called first others later)

-- the second statement of an IF
abbrev ElseFills : (body : Body) (called : List Bool) → Option StatementNumber → Type 0
ElseFills body called None = ⊥
ElseFills body called (Some number) = Fills body called (planned.Statement number)

-- IF has a byte if both of its statements have one
module _ (body : Body) (called : List Bool) (site : Site) (condition : ExpressionNumber) (then_part : StatementNumber)
    (first : ℕ)
    (then_fills : Fills body called (planned.Statement then_part))
  where
    any_fills : (otherwise : Option StatementNumber) → ElseFills body called otherwise
        → SomeFill body called (statement_if_any otherwise)
    any_fills (Some there) fills = inl fills
    any_fills None fills = absurd fills

    either_fills : (there : StatementNumber) → SomeFill body called (either_steps body site condition then_part there first)
    either_fills there = by (goto_label body there)
      where
        by : (found : Option LabelNumber)
            → SomeFill body called (elim found [
              | Some label ↦ branch condition label false ∷ planned.Statement then_part ∷ []
              | None ↦ both_steps site condition then_part there first
            ])
        by (Some label) = inr (inl then_fills)
        by None = inr (inr (inl then_fills))

    computed_fills : (otherwise : Option StatementNumber)
        → SomeFill body called (computed_if_steps body site condition then_part otherwise first)
    computed_fills (Some there) = either_fills there
    computed_fills None = inr (inr (inl then_fills))

    tested_fills : (otherwise : Option StatementNumber) → ElseFills body called otherwise
        → SomeFill body called (tested_if_steps body site condition then_part otherwise first)
    tested_fills otherwise fills = by (goto_label body then_part)
      where
        by : (found : Option LabelNumber)
            → SomeFill body called (elim found [
              | Some label ↦ branch condition label true ∷ statement_if_any otherwise
              | None ↦ computed_if_steps body site condition then_part otherwise first
            ])
        by (Some label) = inr (any_fills otherwise fills)
        by None = computed_fills otherwise

    if_fills : (otherwise : Option StatementNumber) → ElseFills body called otherwise
        → SomeFill body called (if_steps body site condition then_part otherwise first)
    if_fills otherwise fills = by (number site condition)
      where
        chosen : (is : Bool)
            → SomeFill body called (if is then planned.Statement then_part ∷ [] else statement_if_any otherwise)
        chosen true = inl then_fills
        chosen false = any_fills otherwise fills

        by : (found : Option ℕ)
            → SomeFill body called (elim found [
              | Some known ↦ if nat_eq (known % 2) 1 then planned.Statement then_part ∷ [] else statement_if_any otherwise
              | None ↦ tested_if_steps body site condition then_part otherwise first
            ])
        by (Some known) = chosen (nat_eq (known % 2) 1)
        by None = tested_fills otherwise fills

returned_fills : (body : Body) (called : List Bool) (value : Option ExpressionNumber)
    → SomeFill body called (return_of_steps body value)
unfolding return_of_steps
returned_fills body called value =
    fill_later body called (returned_value_steps value body.procedure.now.result)
    (return_steps body ++ (planned.Reaches false ∷ []))
    (fill_first body called (return_steps body) (planned.Reaches false ∷ [])
    (return_fills body called body.procedure.now.kind))

module _ (body : Body) (called : List Bool) (storage : Storage) (labels : List ℕ)
    (keeps : KeepTraits (nodes_of body.tree.now))
  where
    abbrev starts : List Home
    starts = (nodes_of body.tree.now).homes

    mutual
      unfolding statement_steps

      statement_some :
          {bound : ℕ} {tree : TypedStatement} (entry : StatementNumber)
          → IsStatement (nodes_of body.tree.now) storage labels bound entry.index tree
          → reaches_end starts storage tree ≡ false
          → (facts : Facts) (list : List Item) (last : Here)
          → IsCarriedOut body called facts entry list last
          → 0 < size_of_items list
      statement_some {tree = tree} entry (IsStatementNode {statement = other} below there form) none facts list last
          (StatementPlanned {statement = statement} at found carried) =
          plan_fills body called carried
          (subst (λ (one : Statement). SomeFill body called (statement_steps body (knowing (site_of body) facts) one at))
          (same_Some other statement (sym there ∙ found))
          (form_some facts at form none))

      form_some :
          {bound : ℕ} {statement : Statement} {tree : TypedStatement} (facts : Facts) (first : ℕ)
          → IsStatementForm (nodes_of body.tree.now) storage labels bound statement tree
          → reaches_end starts storage tree ≡ false
          → SomeFill body called (statement_steps body (knowing (site_of body) facts) statement first)
      form_some facts first (IsReturn {value = value} is) none = returned_fills body called value
      form_some facts first IsHalt none = inl tt
      form_some facts first (IsGoto at) none = inl tt
      form_some facts first (IsIf {condition = condition} {body = then_part} {otherwise = otherwise}
          {then_tree = then_tree} {else_tree = else_tree} test then_is else_is) none =
          let both = or_parts (reaches_end starts storage then_tree) (reaches_end_of_else starts storage else_tree) none in
          if_fills body called (knowing (site_of body) facts) condition then_part first
          (statement_some then_part then_is both.0) otherwise (else_some else_is both.1)
      form_some facts first (IsDo {range = range} is) none = inl (list_some range is none)
      form_some facts first (IsLoop {range = range} head is) none =
          loop_begins (SomeFill body called) (λ i others. inl tt) body storage keeps facts first range head none
      form_some facts first (IsLabel at) none = absurd (not_both true refl none)
      form_some facts first IsNull none = absurd (not_both true refl none)
      form_some facts first (IsAssignment _ value) none = absurd (not_both true refl none)
      form_some facts first (IsCall arguments) none = absurd (not_both true refl none)
      form_some facts first (IsMove count source destination) none = absurd (not_both true refl none)
      form_some facts first (IsCase choice are) none = absurd (not_both true refl none)

      else_some :
          {bound : ℕ} {otherwise : Option StatementNumber} {tree : TypedElse}
          → IsElse (nodes_of body.tree.now) storage labels bound otherwise tree
          → reaches_end_of_else starts storage tree ≡ false
          → ElseFills body called otherwise
      else_some IsNoElse none = absurd (not_both true refl none)
      else_some (IsSomeElse {number = entry} is) none = statement_some entry is none

      list_some :
          {bound : ℕ} {tree : TypedList} (range : Range)
          → IsList (nodes_of body.tree.now) storage labels bound range tree
          → reaches_end_of_list starts storage true tree ≡ false
          → (facts : Facts) (list : List Item) (last : Here)
          → IsListCarriedOut body called facts range list last
          → 0 < size_of_items list
      list_some range (IsListOf are) none facts list last (ListPlanned all) =
          elim (all_some true are none all) [
            | inl never ↦ absurd (not_both true refl never)
            | inr some ↦ some
          ]

      all_some :
          {bound first count : ℕ} {trees : TypedStatements} {here last : Here} {list : List Item} (before : Bool)
          → AreStatements (nodes_of body.tree.now) storage labels bound first count trees
          → reaches_end_of_statements starts storage before trees ≡ false
          → AreAllCarriedOut body called here first count list last
          → (before ≡ false) ⊎ (0 < size_of_items list)
      all_some before AreNoStatements none NoStatements = inl none
      all_some {here = here} before (AreMoreStatements {number = entry} {tree = tree} there is others) none
          (MoreStatements {middle = middle} {number = number} {list = list} {more = more} found carried rest) =
          let same : entry ≡ number = same_Some entry number (sym there ∙ found) in
          elim (all_some (reaches_end starts storage tree) others none rest) [
            | inl here_none ↦ inr (some_first list more
                (statement_some entry is here_none here.facts list middle
                (subst (λ (one : StatementNumber). IsCarriedOut body called here.facts one list middle) (sym same) carried)))
            | inr some ↦ inr (some_later list more some)
          ]

-- the code of a procedure that is not EXTERNAL
pub procedure_some :
    {tree : TreeModule} {called : List Bool} {number : ℕ} {procedure : TreeProcedure} {list : List Item}
    (storage : Storage) (heading : TypedProcedure)
    → KeepTraits (nodes_of tree)
    → HasBody (nodes_of tree) storage procedure heading
    → IsProcedureCode tree called number procedure list
    → 0 < size_of_items list
procedure_some {tree = tree} {called = called} {number = label} {procedure = procedure} storage heading keeps has code =
    let some : 0 < size_of_items (code.beginning ++ (code.statements ++ code.ending)) =
    some_later code.beginning (code.statements ++ code.ending)
    (by procedure.reaches_its_end (sym has.reaches_its_end) code.ends) in
    subst (λ (given : List Item). 0 < size_of_items given) (sym code.list_is) (omega (arith, some))
  where
    by : (is_reached : Bool)
        → reaches_end_of_list (nodes_of tree).homes storage true heading.body ≡ is_reached
        → IsEndCode code.body called code.last is_reached code.ending
        → 0 < size_of_items (code.statements ++ code.ending)
    by true reached ends =
        some_later code.statements code.ending (plan_fills code.body called ends.1 (end_fills code.body called))
    by false none ends =
        some_first code.statements code.ending
        (list_some code.body called storage (labels_numbered_in_list heading.body)
        (subst (λ (one : TreeModule). KeepTraits (nodes_of one)) (sym code.tree_is) keeps)
        procedure.body
        (subst (λ (one : TreeModule). IsList (nodes_of one) storage (labels_numbered_in_list heading.body)
        (length (nodes_of one).statements) procedure.body heading.body) (sym code.tree_is) has.body)
        (subst (λ (one : TreeModule). reaches_end_of_list (nodes_of one).homes storage true heading.body ≡ false)
        (sym code.tree_is) none)
        code.entered.facts code.statements code.last code.written)
