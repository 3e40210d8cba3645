-- A list whose statements do what they say does so: with jumps that go on at its labels.
use Rattle.statement_laws.proofs.Prelude.{◌≡◌, ◌≢◌, ℕ, zero, suc, ◌+◌, ◌*◌, ◌<◌, ◌≤◌, ◌⊎◌, inl, inr, max, true, List, [], ◌∷◌, length, slice_get, slice_index_or, AllPairs, Option, Some, None, refl, sym, ap, subst, ◌∙◌, arith, cases_lt, same_Some, height_of_statement, height_of_statements, ListStands, ListsStandInStatements, TypedStatement, LabelStatement, TypedStatements, NoStatements, MoreStatements, ListOf, TypesHoldInStatements, Later, caught_in, done_all, dropped, going_on, later_by, rest_from, rest_of, SourceState, Outcome, then_do, Flow, Onward, Returned, Jumped, onto_is, rest_at, Registers, State, Range, Statement, StatementNumber, AreStatements, AreNoStatements, AreMoreStatements, IsListOf, IsStatement, IsStatementNode, IsLabel, HasRoom, IsReady, Does, at_place, does_without_step, then_does, no_facts_hold, Facts, no_facts, body_label, Here, nodes_in, Know, does_same, loaded_in, BodyContext, ComesToLabel, IsSoundBody, LabelLies, Leaves, ListDoes, StatementDoes, room_for}
use Rattle.meaning.specs.Meaning.{landed}
use Rattle.treecode.specs.declared.statement.Statement.TheVariants as statements
use Rattle.treecode_laws.proofs.Labels.{same_number}
use Rattle.statement_laws.proofs.Outcomes.{Between, does_later}
use Rattle.statement_laws.proofs.FirstSteps.{going}

-- where the code of a statement that is a label lies, and what is known after it
abbrev pub IsMarked : BodyContext → Statement → (from : ℕ) → (after : Here) → (to : ℕ) → Type 0
IsMarked at (statements.Label number) from after to =
    (at.context.activation.layout.place_of (body_label at.body number).index ≡ from)
    × (after ≡ going true no_facts) × (to ≡ from)
IsMarked at statement from after to = Unit {0}

-- so many statements of the table of lists do what they say, one after another
pub data AllDo (at : BodyContext) : Here → (first count from : ℕ) → Here → (to : ℕ) → Type 0 where
  NoneDo : {here : Here} {first place : ℕ} → AllDo at here first 0 place here place
  MoreDo : {here middle last : Here} {first count from place to : ℕ} {number : StatementNumber}
      {statement : Statement}
      → slice_get (nodes_in at.context).lists first ≡ Some number
      → slice_get (nodes_in at.context).statements number.index ≡ Some statement
      → StatementDoes at here.facts number from middle place
      → IsMarked at statement from middle place
      → AllDo at middle (suc first) count place last to
      → AllDo at here first (suc count) from last to

-- what follows a statement
pub goes_then :
    (at : BodyContext) (base : List ℕ) (middle : Here) (place : ℕ) (last : Here) (to before : ℕ)
    (go : SourceState → Outcome Flow) (flow : Flow) (t : SourceState) (end : State)
    → t.budget ≤ before
    → Leaves at base place middle before flow t end
    → ((r : Registers) (memory : List ℕ)
    → middle.goes_on ≡ true
    → IsReady at.context.activation at.context.activation.level base t.memory t.frame r memory
    → Know at.context middle.facts r memory
    → Does (loaded_in at.context) t.budget 0 (at_place place r memory t.events) (go t)
    (Leaves at base to last before))
    → Does (loaded_in at.context) t.budget 0 end (going_on flow go t) (Leaves at base to last before)
goes_then at base middle place last to before go Onward t end less leaves rest =
    let comes = leaves.comes in
    subst (λ (s : State). Does (loaded_in at.context) t.budget 0 s (go t) (Leaves at base to last before))
    (sym comes.is_at)
    (rest comes.r comes.memory leaves.goes_on comes.ready comes.holds)
goes_then at base middle place last to before go (Returned value) t end less leaves rest =
    does_without_step leaves
goes_then at base middle place last to before go (Jumped label) t end less leaves rest =
    does_without_step leaves

less_left : (one other need : ℕ) → 2 + 2 * max one other ≤ need
    → (2 + 2 * one ≤ need) × (2 + 2 * other ≤ need)
less_left one other need enough = (omega (arith, enough), omega (arith, enough))

-- statements one after another
pub all_do :
    (at : BodyContext) {here last : Here} {first count from to bound : ℕ} {trees : TypedStatements}
    → AllDo at here first count from last to
    → AreStatements (nodes_in at.context) at.context.storage at.labels bound first count trees
    → TypesHoldInStatements at.context.typed at.context.within trees
    → ListsStandInStatements trees
    → (need : ℕ) (base : List ℕ) (s : SourceState) (r : Registers) (memory : List ℕ)
    → here.goes_on ≡ true
    → 2 + 2 * height_of_statements trees ≤ need
    → Between at need base s here.facts r memory
    → Does (loaded_in at.context) s.budget 0 (at_place from r memory s.events)
    (done_all at.context.later at.context.activation.around trees s) (Leaves at base to last s.budget)
all_do at NoneDo AreNoStatements types lists need base s r memory goes_on fits stage =
    does_without_step (record {
      goes_on = goes_on;
      comes = record { r = r; memory = memory; is_at = refl; ready = stage.ready; holds = stage.known };
    })
all_do at {here = here} {last = last} {to = to} {bound = bound}
    (MoreDo {middle = middle} {from = from} {place = place} {number = number} listed node does mark rest)
    (AreMoreStatements {number = other} {tree = tree} {others = others} named is are) types lists need base s
    r memory goes_on fits stage =
    let same : other ≡ number = same_Some other number (sym named ∙ listed) in
    let parts = less_left (height_of_statement tree) (height_of_statements others) need fits in
    let below = stage.below in
    then_does
    (does bound tree (subst (λ (n : StatementNumber). IsStatement (nodes_in at.context) at.context.storage
    at.labels bound n.index tree) same is)
    types.0 lists.0 base s r memory below (room_for (2 + 2 * height_of_statement tree) parts.0 stage.room)
    stage.ready stage.known)
    (λ flow t end leaves less.
    goes_then at base middle place last to s.budget
    (λ u. done_all at.context.later at.context.activation.around others u) flow t end less leaves
    (λ now ended goes ready known.
    does_later s.budget less
    (all_do at rest are types.1 lists.1 need base t now ended goes parts.1
    (record { below = omega (arith, below, less); room = stage.room; ready = ready; known = known }))))

-- the statements of a list from a label on, after the label
pub record FromLabel
    (at : BodyContext) (label : ℕ) (height : ℕ) (others : TypedStatements) (last : Here)
    (to : ℕ) : Type 0 where
  pub first : ℕ
  pub count : ℕ
  pub from : ℕ
  pub bound : ℕ
  pub lies : LabelLies at label from
  pub each : AllDo at (going true no_facts) first count from last to
  pub are : AreStatements (nodes_in at.context) at.context.storage at.labels bound first count others
  pub types : TypesHoldInStatements at.context.typed at.context.within others
  pub lists : ListsStandInStatements others
  pub fits : height_of_statements others ≤ height

first_of : (one other : TypedStatement) (more others : TypedStatements)
    → MoreStatements one more ≡ MoreStatements other others → (one ≡ other) × (more ≡ others)
first_of one other more others same = (ap first_tree same, ap other_trees same)
  where
    first_tree : TypedStatements → TypedStatement
    first_tree NoStatements = one
    first_tree (MoreStatements tree trees) = tree

    other_trees : TypedStatements → TypedStatements
    other_trees NoStatements = NoStatements
    other_trees (MoreStatements tree trees) = trees

-- the label itself
at_label :
    (at : BodyContext) {middle last : Here} {first count place to bound bound_here label : ℕ}
    {number : StatementNumber} {statement : Statement} {others : TypedStatements} (from height : ℕ)
    → slice_get (nodes_in at.context).statements number.index ≡ Some statement
    → IsMarked at statement from middle place
    → AllDo at middle first count place last to
    → IsStatement (nodes_in at.context) at.context.storage at.labels bound_here number.index
    (LabelStatement label)
    → AreStatements (nodes_in at.context) at.context.storage at.labels bound first count others
    → TypesHoldInStatements at.context.typed at.context.within others
    → ListsStandInStatements others
    → height_of_statements others ≤ height
    → FromLabel at label height others last to
at_label at {middle = middle} {last = last} {first = first} {count = count} {place = place} {to = to}
    {bound = bound} {label = label} {statement = statement} {others = others} from height node mark each
    (IsStatementNode {statement = found} below there (IsLabel {number = of} names)) are types lists fits =
    let same : statement ≡ statements.Label of =
    same_Some statement (statements.Label of) (sym node ∙ there) in
    let marked : IsMarked at (statements.Label of) from middle place =
    subst (λ (s : Statement). IsMarked at s from middle place) same mark in
    record {
      first = first;
      count = count;
      from = place;
      bound = bound;
      lies = record { number = of; is_label = names; place_is = marked.2 ∙ sym marked.0 };
      each = subst (λ (here : Here). AllDo at here first count place last to) marked.1 each;
      are = are;
      types = types;
      lists = lists;
      fits = fits;
    }

pub from_label :
    (at : BodyContext) {here last : Here} {first count from to bound : ℕ} {trees : TypedStatements}
    (skipped label height : ℕ) (others : TypedStatements)
    → AllDo at here first count from last to
    → AreStatements (nodes_in at.context) at.context.storage at.labels bound first count trees
    → TypesHoldInStatements at.context.typed at.context.within trees
    → ListsStandInStatements trees
    → height_of_statements trees ≤ height
    → dropped skipped trees ≡ MoreStatements (LabelStatement label) others
    → FromLabel at label height others last to
from_label at zero label height others NoneDo AreNoStatements types lists fits same =
    let never : ⊥ = cc in absurd never
from_label at (suc skipped) label height others NoneDo AreNoStatements types lists fits same =
    let never : ⊥ = cc in absurd never
from_label at {last = last} {to = to} {bound = bound} zero label height others
    (MoreDo {from = from} {number = number} listed node does mark rest)
    (AreMoreStatements {first = first} {count = count} {number = other} {tree = tree} {others = more} named is
    are) types lists fits same =
    let parts = first_of tree (LabelStatement label) more others same in
    let one : other ≡ number = same_Some other number (sym named ∙ listed) in
    let there =
    subst (λ (n : StatementNumber). IsStatement (nodes_in at.context) at.context.storage at.labels bound
    n.index tree) one is in
    at_label at from height node mark rest
    (subst (λ (t : TypedStatement). IsStatement (nodes_in at.context) at.context.storage at.labels bound
    number.index t) parts.0 there)
    (subst (λ (t : TypedStatements). AreStatements (nodes_in at.context) at.context.storage at.labels bound
    (suc first) count t) parts.1 are)
    (subst (λ (t : TypedStatements). TypesHoldInStatements at.context.typed at.context.within t) parts.1
    types.1)
    (subst (λ (t : TypedStatements). ListsStandInStatements t) parts.1 lists.1)
    (subst (λ (t : TypedStatements). height_of_statements t ≤ height) parts.1 (omega (arith, fits)))
from_label at (suc skipped) label height others (MoreDo listed node does mark rest)
    (AreMoreStatements named is are) types lists fits same =
    from_label at skipped label height others rest are types.1 lists.1 (omega (arith, fits)) same

-- a label has one place
pub same_place :
    (at : BodyContext) (label one other : ℕ)
    → IsSoundBody at
    → LabelLies at label one
    → LabelLies at label other
    → one ≡ other
same_place at label one other sound first second =
    let same =
    same_number at.labels first.number second.number label sound.labels first.is_label second.is_label in
    first.place_is
    ∙ ap (λ (n : ℕ). at.context.activation.layout.place_of (body_label at.body n).index) same
    ∙ sym second.place_is

-- a list from a place within it on
module _
    (at : BodyContext) (sound : IsSoundBody at) (base : List ℕ) (last : Here) (to need : ℕ) (first_label : ℕ)
    (places : List ℕ) (statements : TypedStatements)
    (lists : ListStands (ListOf first_label places statements))
    (fits : 2 + 2 * height_of_statements statements ≤ need)
    (at_labels : (label skipped : ℕ) (others : TypedStatements)
    → dropped skipped statements ≡ MoreStatements (LabelStatement label) others
    → FromLabel at label (height_of_statements statements) others last to)
  where
    -- what follows a flow out of statements of the list
    abbrev caught : Flow → SourceState → Outcome Flow
    caught flow t =
        caught_in at.context.later at.context.activation.around (ListOf first_label places statements) flow t

    -- the list does what it says from each of its labels on, in runs of less than a number
    abbrev FromLabels : ℕ → Type 0
    FromLabels fuel =
        (label : ℕ) (others : TypedStatements) (t : SourceState) (r : Registers) (memory : List ℕ)
        → FromLabel at label (height_of_statements statements) others last to
        → (from : ℕ) → LabelLies at label from
        → t.budget < fuel
        → Between at need base t no_facts r memory
        → Does (loaded_in at.context) t.budget 0 (at_place from r memory t.events)
        (then_do (done_all at.context.later at.context.activation.around others t) caught)
        (Leaves at base to last t.budget)

    landing :
        (fuel label before : ℕ) (t : SourceState) (end : State) (rest : Option TypedStatements)
        → FromLabels fuel
        → rest_from label (ListOf first_label places statements) ≡ rest
        → suc t.budget < at.context.number
        → t.budget < fuel
        → t.budget ≤ before
        → HasRoom at.context.activation at.context.activation.level 0 need
        → ComesToLabel at base before label t end
        → Does (loaded_in at.context) t.budget 0 end
        (landed at.context.later at.context.activation.around
        (ListOf first_label places statements) label rest t)
        (Leaves at base to last before)
    landing fuel label before t end None labels is below less fewer room comes = does_without_step comes
    landing fuel label before t end (Some rest) labels is below less fewer room comes =
        let found = rest_at first_label label places statements rest lists.0 is in
        let equal : dropped found.count statements ≡ MoreStatements (LabelStatement label) found.others =
        found.dropped_is ∙ found.begins in
        let bound = sound.number in
        let there = comes.comes in
        let goes : Does (loaded_in at.context) t.budget 0 end
        (rest_of (later_by sound.bound) (ListOf first_label places statements)
        (MoreStatements (LabelStatement label) found.others) at.context.activation.around t)
        (Leaves at base to last before) =
        subst (λ (later : Later). Does (loaded_in at.context) t.budget 0 end
        (rest_of later (ListOf first_label places statements)
        (MoreStatements (LabelStatement label) found.others) at.context.activation.around t)
        (Leaves at base to last before))
        sound.later
        (subst (λ (s : State). Does (loaded_in at.context) t.budget 0 s
        (then_do (done_all at.context.later at.context.activation.around found.others t) caught)
        (Leaves at base to last before))
        (sym there.is_at)
        (does_later before fewer
        (labels label found.others t there.r there.memory (at_labels label found.count found.others equal)
        comes.place comes.lies
        less
        (record {
          below = omega (arith, below);
          room = room;
          ready = there.ready;
          known = no_facts_hold;
        })))) in
        subst (λ (one : TypedStatements). Does (loaded_in at.context) t.budget 0 end
        (at.context.later.onto (ListOf first_label places statements) one at.context.activation.around t)
        (Leaves at base to last before)) (sym found.begins)
        (subst (λ (later : Later). Does (loaded_in at.context) t.budget 0 end
        (later.onto (ListOf first_label places statements)
        (MoreStatements (LabelStatement label) found.others)
        at.context.activation.around t) (Leaves at base to last before)) (sym sound.later)
        (does_same _
        (onto_is sound.bound (ListOf first_label places statements)
        (MoreStatements (LabelStatement label) found.others)
        at.context.activation.around t (omega (arith, below, bound)))
        goes))

    catching :
        (fuel before : ℕ) (flow : Flow) (t : SourceState) (end : State)
        → FromLabels fuel
        → before < at.context.number
        → before ≤ fuel
        → t.budget ≤ before
        → HasRoom at.context.activation at.context.activation.level 0 need
        → Leaves at base to last before flow t end
        → Does (loaded_in at.context) t.budget 0 end (caught flow t) (Leaves at base to last before)
    catching fuel before Onward t end labels below less fewer room leaves = does_without_step leaves
    catching fuel before (Returned value) t end labels below less fewer room leaves = does_without_step leaves
    catching fuel before (Jumped label) t end labels below less fewer room leaves =
        let spent = leaves.spent in
        landing fuel label before t end (rest_from label (ListOf first_label places statements)) labels refl
        (omega (arith, spent, below)) (omega (arith, spent, less)) fewer room leaves

    -- statements of the list, and then what they jump to
    statements_do :
        (fuel : ℕ) {here : Here} {first count from bound : ℕ} {trees : TypedStatements}
        → FromLabels fuel
        → AllDo at here first count from last to
        → AreStatements (nodes_in at.context) at.context.storage at.labels bound first count trees
        → TypesHoldInStatements at.context.typed at.context.within trees
        → ListsStandInStatements trees
        → (s : SourceState) (r : Registers) (memory : List ℕ)
        → s.budget ≤ fuel
        → here.goes_on ≡ true
        → height_of_statements trees ≤ height_of_statements statements
        → Between at need base s here.facts r memory
        → Does (loaded_in at.context) s.budget 0 (at_place from r memory s.events)
        (then_do (done_all at.context.later at.context.activation.around trees s) caught)
        (Leaves at base to last s.budget)
    statements_do fuel labels each are types stand s r memory less goes_on lower stage =
        then_does
        (all_do at each are types stand need base s r memory goes_on (omega (arith, lower, fits)) stage)
        (λ flow t end leaves fewer. catching fuel s.budget flow t end labels stage.below less
        fewer stage.room leaves)

    from_labels : (fuel : ℕ) → FromLabels fuel
    from_labels zero label others t r memory is from lies less stage = absurd (omega (arith, less))
    from_labels (suc fuel) label others t r memory is from lies less stage =
        subst (λ (place : ℕ). Does (loaded_in at.context) t.budget 0 (at_place place r memory t.events)
        (then_do (done_all at.context.later at.context.activation.around others t) caught)
        (Leaves at base to last t.budget))
        (same_place at label is.from from sound is.lies lies)
        (statements_do fuel (from_labels fuel) is.each is.are is.types is.lists t r memory
        (omega (arith, less)) refl is.fits
        stage)

-- a list whose statements do what they say
pub list_does :
    (at : BodyContext) (facts : Facts) (range : Range) (from : ℕ) (last : Here) (to : ℕ)
    → IsSoundBody at
    → AllDo at (going true facts) range.first range.count from last to
    → ListDoes at facts range from last to
list_does at facts range from last to sound each bound (ListOf first_label places statements) (IsListOf are)
    types lists base s r memory below room ready known =
    statements_do at sound base last to (2 + 2 * height_of_statements statements) first_label places
    statements lists (omega arith)
    (λ label skipped others same.
    from_label at skipped label (height_of_statements statements) others each are types
    lists.1 (omega arith) same)
    s.budget
    (from_labels at sound base last to (2 + 2 * height_of_statements statements) first_label places
    statements lists (omega arith)
    (λ label skipped others same.
    from_label at skipped label (height_of_statements statements) others each are types
    lists.1 (omega arith) same)
    s.budget)
    each are types lists.1 s r memory (omega arith) refl (omega arith)
    (record { below = below; room = room; ready = ready; known = known })
