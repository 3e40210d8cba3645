-- The statement that DO CASE chooses, and the jump into it.
use Rattle.statement_laws.proofs.Prelude.{◌≡◌, ℕ, zero, suc, ◌+◌, ◌*◌, ◌<◌, ◌≤◌, max, Bool, true, nat_eq, if◌then◌else◌, List, slice_get, Option, Some, None, refl, sym, ap, subst, ◌∙◌, arith, option_and_then, lt-ltb, eq-eqb, height_of_statement, height_of_statements, ListsStand, ListsStandInCases, TypedStatement, TypedStatements, NoStatements, MoreStatements, TypesHoldIn, TypesHoldInStatements, done, done_case, SourceState, Outcome, Gave, Flow, Onward, Returned, Jumped, Registers, State, step_of, Range, Statement, StatementNumber, AreStatements, AreNoStatements, AreMoreStatements, IsGoto, IsNull, IsStatement, IsStatementForm, IsStatementNode, Nodes, nodes_of, item, statement, Does, at_place, after_step, does_without_step, Facts, LabelNumber, Site, body_label, entry_of, entry_of_statement, label_at, Here, nodes_in, Stage, does_same, loaded_in, script_of, BodyContext, IsSoundBody, Leaves, suc_moved}
use Rattle.treecode.specs.declared.statement.Statement.TheVariants as statements
use Rattle.statement_laws.proofs.Cases.CaseTables.{EntriesStand, EntryStands, reaches_end}
use Rattle.statement_laws.proofs.Loops.LoopTurns.{step_pays}

-- a statement of a list, by its number
pub record IsNth (at : BodyContext) (first number bound : ℕ) (trees : TypedStatements) : Type 0 where
  pub found : StatementNumber
  pub tree : TypedStatement
  pub is_there : slice_get (nodes_in at.context).lists (first + number) ≡ Some found
  pub is : IsStatement (nodes_in at.context) at.context.storage at.labels bound found.index tree
  pub types : TypesHoldIn at.context.typed at.context.within tree
  pub lists : ListsStand tree
  pub height : height_of_statement tree ≤ height_of_statements trees
  pub means : (t : SourceState) → done_case at.context.later at.context.activation.around trees number t
      ≡ done at.context.later at.context.activation.around tree t

left_less : (a b : ℕ) → a ≤ max a b
left_less a b = omega arith

right_less : (n a b : ℕ) → n ≤ b → n ≤ max a b
right_less n a b less = omega (arith, less)

pub nth_is :
    (at : BodyContext) (bound first count : ℕ) (trees : TypedStatements) (number : ℕ)
    → AreStatements (nodes_in at.context) at.context.storage at.labels bound first count trees
    → TypesHoldInStatements at.context.typed at.context.within trees
    → ListsStandInCases trees
    → number < count
    → IsNth at first number bound trees
nth_is at bound first _ NoStatements number AreNoStatements types lists less = absurd (omega (arith, less))
nth_is at bound first _ (MoreStatements tree others) zero (AreMoreStatements {number = found} there is rest)
    types lists less = record {
      found = found;
      tree = tree;
      is_there = subst (λ (n : ℕ). slice_get (nodes_in at.context).lists n ≡ Some found) (omega arith) there;
      is = is;
      types = types.0;
      lists = lists.1;
      height = left_less (height_of_statement tree) (height_of_statements others);
      means = λ t. refl;
    }
nth_is at bound first _ (MoreStatements tree others) (suc number)
    (AreMoreStatements {count = count} there is rest) types lists less =
    let more = nth_is at bound (suc first) count others number rest types.1 lists.2 (omega (arith, less)) in
    let height = more.height in
    record {
      found = more.found;
      tree = more.tree;
      is_there =
          subst (λ (n : ℕ). slice_get (nodes_in at.context).lists n ≡ Some more.found)
          (suc_moved first number) more.is_there;
      is = more.is;
      types = more.types;
      lists = more.lists;
      height =
          right_less (height_of_statement more.tree) (height_of_statement tree)
          (height_of_statements others) height;
      means = more.means;
    }

-- past the last statement there is none
pub past_all :
    (at : BodyContext) (bound first count : ℕ) (trees : TypedStatements) (number : ℕ) (t : SourceState)
    → AreStatements (nodes_in at.context) at.context.storage at.labels bound first count trees
    → count ≤ number
    → done_case at.context.later at.context.activation.around trees number t ≡ Gave Onward t
past_all at bound first _ NoStatements number t AreNoStatements more = refl
past_all at bound first _ (MoreStatements tree others) zero t (AreMoreStatements there is rest) more =
    absurd (omega (arith, more))
past_all at bound first _ (MoreStatements tree others) (suc number) t
    (AreMoreStatements {count = count} there is rest) more =
    past_all at bound (suc first) count others number t rest (omega (arith, more))

-- what a statement leaves at its end leaves the whole, where the code after it goes on to the end
pub leaves_whole :
    {at : BodyContext} {base : List ℕ} {middle to need : ℕ} {here after : Here} {spent budget : ℕ}
    {from : State} {outcome : Outcome Flow}
    → spent ≤ budget
    → spent < at.context.number
    → Rattle.code_meaning.specs.internal.Activations.HasRoom at.context.activation at.context.activation.level 0 need
    → Does (loaded_in at.context) spent 0 from outcome (Leaves at base middle here spent)
    → ((u : SourceState) (now : Registers) (memory_now : List ℕ)
    → here.goes_on ≡ true
    → Stage at.context at.context.activation.level 0 need base u here.facts now memory_now
    → Does (loaded_in at.context) u.budget 0 (at_place middle now memory_now u.events) (Gave Onward u)
    (Leaves at base to after budget))
    → Does (loaded_in at.context) spent 0 from outcome (Leaves at base to after budget)
leaves_whole {at = at} {base = base} {middle = middle} {to = to} {need = need} {here = here} {after = after}
    {spent = spent} {budget = budget} {outcome = outcome} less below room does ends =
    Rattle.task_laws.proofs.Machine.Stages.gives_then outcome does
    (λ flow u end leaves fewer. by flow u end leaves fewer)
  where
    by : (flow : Flow) (u : SourceState) (end : State)
        → Leaves at base middle here spent flow u end
        → u.budget ≤ spent
        → Does (loaded_in at.context) u.budget 0 end (Gave flow u) (Leaves at base to after budget)
    by Onward u end goes fewer =
        let comes = goes.comes in
        subst (λ (state : State). Does (loaded_in at.context) u.budget 0 state (Gave Onward u)
        (Leaves at base to after budget)) (sym comes.is_at)
        (ends u comes.r comes.memory goes.goes_on
        (record { below = omega (arith, below, fewer); room = room; ready = comes.ready; known = comes.holds }))
    by (Returned value) u end comes fewer = does_without_step comes
    by (Jumped label) u end comes fewer =
        let before = comes.spent in
        does_without_step
        (record { place = comes.place; lies = comes.lies; spent = omega (arith, before, less); comes = comes.comes })

-- the entry of a statement is in the list
pub entry_is :
    (at : BodyContext) (list : Range) (number : ℕ) (found : StatementNumber) (one : Statement)
    (own end : LabelNumber)
    → IsSoundBody at
    → number < list.count
    → slice_get (nodes_in at.context).lists (list.first + number) ≡ Some found
    → slice_get (nodes_in at.context).statements found.index ≡ Some one
    → (item at.body.tree.now list number ≡ Some found)
    × (entry_of at.body list number own end ≡ entry_of_statement at.body one own end)
entry_is at list number found one own end sound less there is =
    let nodes : nodes_in at.context ≡ nodes_of at.body.tree.now =
    ap (λ (site : Site). nodes_of site.tree.now) sound.site in
    let there_now : slice_get at.body.tree.now.lists.items (list.first + number) ≡ Some found =
    subst (λ (nodes : Nodes). slice_get nodes.lists (list.first + number) ≡ Some found) nodes there in
    let is_now : slice_get at.body.tree.now.statements.items found.index ≡ Some one =
    subst (λ (nodes : Nodes). slice_get nodes.statements found.index ≡ Some one) nodes is in
    let its : item at.body.tree.now list number ≡ Some found =
    ap (λ (inside : Bool). option_and_then (slice_get at.body.tree.now.lists.items)
    (if inside then Some (list.first + number) else None))
    (lt-ltb number list.count less) ∙ there_now in (
      its,
      ap (λ (of : Option StatementNumber). elim (option_and_then (statement at.body.tree.now)
          of) as (λ (one : Option Statement). LabelNumber) [
            | Some found ↦ entry_of_statement at.body found own end
            | None ↦ end
          ]) its
          ∙ ap (λ (of : Option Statement). elim of as (λ (one : Option Statement). LabelNumber) [
            | Some found ↦ entry_of_statement at.body found own end
            | None ↦ end
          ]) is_now,
    )

pub from_none : (n : ℕ) → 0 + n ≡ n
from_none n = omega arith

-- a step that leads to the entry of a statement does what the statement says
pub enters :
    {at : BodyContext} {base : List ℕ} {to need table bound budget : ℕ} {after : Here}
    {trees : TypedStatements} {facts : Facts}
    (from : ℕ) (list : Range) (own end : LabelNumber) (number : ℕ) (u : SourceState)
    (r : Registers) (memory : List ℕ)
    → IsSoundBody at
    → EntriesStand at list own end table 0 list.count after to
    → number < list.count
    → (its : IsNth at list.first number bound trees)
    → 2 + 2 * height_of_statement its.tree ≤ need
    → u.budget ≤ budget
    → Stage at.context at.context.activation.level 0 need base u facts r memory
    → step_of (script_of at.context) (at_place from r memory u.events)
    ≡ at_place
    (at.context.activation.layout.place_of (entry_of at.body list number (label_at own number) end).index)
    r memory u.events
    → Does (loaded_in at.context) u.budget 0 (at_place from r memory u.events)
    (done at.context.later at.context.activation.around its.tree u) (Leaves at base to after budget)
enters {at = at} {base = base} {to = to} {need = need} {bound = bound} {budget = budget} {after = after} from
    list own end number u r memory sound entries less its fits fewer stage step =
    by_node its.tree its.is its.types its.lists fits
  where
    by_node : (tree : TypedStatement)
        → IsStatement (nodes_in at.context) at.context.storage at.labels bound (its.found).index tree
        → TypesHoldIn at.context.typed at.context.within tree
        → ListsStand tree
        → 2 + 2 * height_of_statement tree ≤ need
        → Does (loaded_in at.context) u.budget 0 (at_place from r memory u.events)
        (done at.context.later at.context.activation.around tree u) (Leaves at base to after budget)
    by_node tree (IsStatementNode {statement = one} small there form) types lists fits =
        let entry =
        entry_is at list number its.found one (label_at own number) end sound less its.is_there there in
        by_form one form entry.0 entry.1
      where
        place_of : LabelNumber → ℕ
        place_of label = at.context.activation.layout.place_of label.index

        led : (label : LabelNumber) → entry_of at.body list number (label_at own number) end ≡ label
            → step_of (script_of at.context) (at_place from r memory u.events)
            ≡ at_place (place_of label) r memory u.events
        led label same = step ∙ ap (λ (label : LabelNumber). at_place (place_of label) r memory u.events) same

        general : (one : Statement)
            → item at.body.tree.now list number ≡ Some its.found
            → entry_of at.body list number (label_at own number) end ≡ label_at own number
            → Does (loaded_in at.context) u.budget 0 (at_place from r memory u.events)
            (done at.context.later at.context.activation.around tree u) (Leaves at base to after budget)
        general one item_is is_own =
            let enough = stage.room.enough in
            let found : EntryStands at (label_at own number) its.found after to =
            subst (λ (n : ℕ). item at.body.tree.now list n ≡ Some its.found
            → nat_eq (entry_of at.body list n (label_at own n) end).index (label_at own n).index ≡ true
            → EntryStands at (label_at own n) its.found after to) (from_none number)
            (entries.entries number its.found less) item_is
            (eq-eqb (entry_of at.body list number (label_at own number) end).index (label_at own number).index
            (ap (λ (label : LabelNumber). label.index) is_own)) in
            after_step
            (led (label_at own number) is_own
            ∙ ap (λ (place : ℕ). at_place place r memory u.events) found.is_at)
            (leaves_whole {need = need} fewer stage.below stage.room
            (found.does bound tree (IsStatementNode small there form) types lists base u r memory stage.below
            (record { depth = stage.room.depth; enough = omega (arith, enough, fits); even = stage.room.even }) stage.ready
            Rattle.code_meaning.proofs.Facts.Changes.no_facts_hold)
            (λ v now memory_now goes_on there. found.ends base need budget v now memory_now goes_on there))

        by_form : (one : Statement)
            → IsStatementForm (nodes_in at.context) at.context.storage at.labels (its.found).index one tree
            → item at.body.tree.now list number ≡ Some its.found
            → entry_of at.body list number (label_at own number) end
            ≡ entry_of_statement at.body one (label_at own number) end
            → Does (loaded_in at.context) u.budget 0 (at_place from r memory u.events)
            (done at.context.later at.context.activation.around tree u) (Leaves at base to after budget)
        by_form (statements.Goto label) form item_is led_there =
            by_goto tree label form (led (body_label at.body label) led_there)
          where
            by_goto : (tree : TypedStatement) (label : ℕ)
                → IsStatementForm (nodes_in at.context) at.context.storage at.labels (its.found).index
                (statements.Goto label) tree
                → step_of (script_of at.context) (at_place from r memory u.events)
                ≡ at_place (place_of (body_label at.body label)) r memory u.events
                → Does (loaded_in at.context) u.budget 0 (at_place from r memory u.events)
                (done at.context.later at.context.activation.around tree u) (Leaves at base to after budget)
            by_goto _ label (IsGoto {label = to_label} is_label) there =
                step_pays u (λ t. Gave (Jumped to_label) t) refl refl there
                (λ left is. does_without_step (record {
                  place = place_of (body_label at.body label);
                  lies = record { number = label; is_label = is_label; place_is = refl };
                  spent = omega (arith, is, fewer);
                  comes = record { r = r; memory = memory; is_at = refl; ready = stage.ready; holds = tt };
                }))
        by_form statements.Null form item_is led_there = by_null tree form (led end led_there)
          where
            by_null : (tree : TypedStatement)
                → IsStatementForm (nodes_in at.context) at.context.storage at.labels (its.found).index
                statements.Null tree
                → step_of (script_of at.context) (at_place from r memory u.events)
                ≡ at_place (place_of end) r memory u.events
                → Does (loaded_in at.context) u.budget 0 (at_place from r memory u.events)
                (done at.context.later at.context.activation.around tree u) (Leaves at base to after budget)
            by_null _ IsNull there =
                after_step (there ∙ ap (λ (place : ℕ). at_place place r memory u.events) entries.end_is)
                (reaches_end u r memory entries.after_is stage)
        by_form one form item_is led_there = general one item_is led_there
