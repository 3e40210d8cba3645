-- Items that are written for statements and stand in the code do what the statements say, where the steps of
-- each do.
use Rattle.statement_laws.proofs.Prelude.{◌≡◌, ℕ, List, slice_get, Option, Some, refl, ap, ◌∙◌, Item, Range, Statement, StatementNumber, nodes_of, IsThere, both_there, Facts, Site, Planned, Here, AreAllCarriedOut, AreCarriedOut, IsCarriedOut, IsListCarriedOut, ListCarriedOut, NoneCarriedOut, StatementCarriedOut, StepCarriedOut, carried_steps, site_of, statement_steps, nodes_in, CarryOut, steps_stand, BodyContext, IsSoundBody, ListDoes, ListPlanned, NonePlanned, StatementDoes, StatementPlanned, StatementStands, StatementsDo, StepPlanned}
use Rattle.treecode.specs.declared.statement.Statement.TheVariants as statements
use Rattle.codegen8080.specs.internal.Generated as generated
use Rattle.codegen8080.specs.internal.Generated.{MoreStatements, NoStatements}
use Rattle.statement_laws.proofs.FirstSteps.{Stand, steps_ended, mark_first}
use Rattle.statement_laws.proofs.Lists.{AllDo, IsMarked, MoreDo, NoneDo, list_does}

-- the tables of a body
pub nodes_are : (at : BodyContext) → IsSoundBody at → nodes_in at.context ≡ nodes_of at.body.tree.now
nodes_are at sound = ap (λ (site : Site). nodes_of site.tree.now) sound.site

-- a statement that is a label stands as its place
is_marked :
    (at : BodyContext) (facts : Facts) (statement : Statement) (label from : ℕ) (after : Here) (to : ℕ)
    → StatementStands at facts statement label from after to
    → IsMarked at statement from after to
unfolding statement_steps
is_marked at facts (statements.Label number) label from after to stands =
    let marked = mark_first stands in
    let ends = steps_ended marked.rest in
    (marked.lies, ends.same, ends.place)
is_marked at facts statement label from after to stands = tt

module _ (at : BodyContext) (sound : IsSoundBody at) (carry : CarryOut at.context)
    (each_does : StatementsDo at) where
  statement_at : (number : StatementNumber) (statement : Statement)
      → slice_get at.body.tree.now.statements.items number.index ≡ Some statement
      → slice_get (nodes_in at.context).statements number.index ≡ Some statement
  statement_at number statement is =
      ap (λ (site : Site). slice_get (nodes_of site.tree.now).statements number.index) sound.site ∙ is

  listed_at : (first : ℕ) (number : StatementNumber)
      → slice_get at.body.tree.now.lists.items first ≡ Some number
      → slice_get (nodes_in at.context).lists first ≡ Some number
  listed_at first number is =
      ap (λ (site : Site). slice_get (nodes_of site.tree.now).lists first) sound.site ∙ is

  mutual
    -- planned steps
    pub planned_stand :
        {here last : Here} {waiting : Option Facts} {steps : List Planned} {list : List Item} (from to : ℕ)
        → AreCarriedOut at.body at.context.called here waiting steps list last
        → IsThere at.context.activation list from to
        → Stand at here waiting from steps last to
    planned_stand from to NoneCarriedOut there = rw (there.stands) NonePlanned
    planned_stand from to (StepCarriedOut {first = first} {more = more} ok written others) there =
        let parts = both_there first more there in
        StepPlanned ok
        (steps_stand at.context (site_of at.body) at.context.called sound.site refl carry from parts.middle
        written parts.first)
        (planned_stand parts.middle to others parts.second)
    planned_stand from to (StatementCarriedOut {first = first} {more = more} one others) there =
        let parts = both_there first more there in
        StatementPlanned (statement_stands from parts.middle one parts.first)
        (planned_stand parts.middle to others parts.second)
    planned_stand from to (ListCarriedOut {first = first} {more = more} one others) there =
        let parts = both_there first more there in
        ListPlanned (list_stands from parts.middle one parts.first)
        (planned_stand parts.middle to others parts.second)

    -- a statement
    pub statement_stands :
        {facts : Facts} {number : StatementNumber} {list : List Item} {last : Here} (from to : ℕ)
        → IsCarriedOut at.body at.context.called facts number list last
        → IsThere at.context.activation list from to
        → StatementDoes at facts number from last to
    statement_stands {facts = facts} {number = number} {last = last} from to
        (generated.StatementPlanned {statement = statement} label is planned) there =
        each_does facts number statement label from last to (statement_at number statement is)
        (planned_stand from to planned there)

    -- a list
    pub list_stands :
        {facts : Facts} {range : Range} {list : List Item} {last : Here} (from to : ℕ)
        → IsListCarriedOut at.body at.context.called facts range list last
        → IsThere at.context.activation list from to
        → ListDoes at facts range from last to
    list_stands {facts = facts} {range = range} {last = last} from to (generated.ListPlanned all) there =
        list_does at facts range from last to sound (all_stand from to all there)

    all_stand :
        {here last : Here} {first count : ℕ} {list : List Item} (from to : ℕ)
        → AreAllCarriedOut at.body at.context.called here first count list last
        → IsThere at.context.activation list from to
        → AllDo at here first count from last to
    all_stand from to NoStatements there = rw (there.stands) NoneDo
    all_stand {here = here} {first = first} from to
        (MoreStatements {middle = middle} {number = number} {list = list} {more = more} listed
        (generated.StatementPlanned {statement = statement} label is planned) others) there =
        let parts = both_there list more there in
        let stands = planned_stand from parts.middle planned parts.first in
        MoreDo (listed_at first number listed) (statement_at number statement is)
        (each_does here.facts number statement label from middle parts.middle
        (statement_at number statement is) stands)
        (is_marked at here.facts statement label from middle parts.middle stands)
        (all_stand parts.middle to others parts.second)
