-- Conditions with the lowest bit of a part, or of both parts.
use Rattle.task_laws.proofs.Prelude.{◌≡◌, ℕ, ◌*◌, ◌≤◌, Bool, true, false, not, List, [], ◌∷◌, refl, sym, ap, ◌∙◌, subst, arith, if◌then◌else◌, false≢true, height_of, TypedExpression, TypesHold, SourceState, Outcome, Gave, then_do, is_true, Registers, State, ExpressionNumber, IsExpression, Facts, LabelNumber, Part, label_of, Does, Loaded, at_place, after_step, does_without_step, no_facts_hold, Found, Fails, IsQuiet, outcome_of, in_order, branch_part, joined_steps, agree, jumps_once, Context, nodes_in, StepsStand, NoneThere, PartThere, MarkThere, BranchDoes, Know, Parts, Goes, Passes, PartDoes, not-not}
use Rattle.steps8080.specs.declared.step.Step.TheVariants as steps
use Rattle.treecode_laws.specs.internal.Evaluations.{Answer}
use Rattle.operands8080.specs.declared.branches.Branch.{Branch}
use Rattle.task_laws.proofs.Machine.SiteNodes.{value_in}
use Rattle.task_laws.proofs.Machine.Stages.{Stage, does_same, loaded_in, then_does_where}
use Rattle.task_laws.proofs.Agreement.{agreeing}
use Rattle.task_laws.proofs.Machine.Rules.{room_for}

ended :
    {context : Context} {PartIs : (before : Facts) → Part → (from : ℕ) → (after : Facts) → (to : ℕ) → Type 0}
    {facts found last : Facts} {from middle to : ℕ} {part : Part}
    → StepsStand context PartIs found middle [] last to
    → PartIs facts part from found middle
    → PartIs facts part from last to
ended NoneThere is = is

-- steps that are one part
pub only_part :
    {context : Context} {PartIs : (before : Facts) → Part → (from : ℕ) → (after : Facts) → (to : ℕ) → Type 0}
    {facts last : Facts} {from to : ℕ} {part : Part}
    → StepsStand context PartIs facts from (steps.Part part ∷ []) last to
    → PartIs facts part from last to
only_part (PartThere is ends) = ended ends is

-- the whole jumps to the same place as the part
pub same_parts :
    {context : Context} {after : Facts} {inner tree : TypedExpression} {label : LabelNumber}
    {sense other : Bool}
    {top : ℕ} {base : List ℕ} {to v found : ℕ} {u : SourceState} {end : State}
    → Parts context after inner label other top base to v u end
    → (is_true v ≡ other → is_true found ≡ sense)
    → (is_true v ≡ not other → is_true found ≡ not sense)
    → (jumps_once tree ≡ true → jumps_once inner ≡ true)
    → Parts context after tree label sense top base to found u end
same_parts (Goes there is step arrives) goes passes once =
    Goes there (goes is) step
    (record { r = arrives.r; memory = arrives.memory; is_at = arrives.is_at; ready = arrives.ready; holds = λ single. arrives.holds (once single) })
same_parts (Passes is arrives) goes passes once =
    Passes (passes is)
    (record { r = arrives.r; memory = arrives.memory; is_at = arrives.is_at; ready = arrives.ready; holds = arrives.holds })

-- a jump by the bit of a part, which is that of the whole or the other one
pub part_jumps :
    {context : Context} {top need : ℕ} {base : List ℕ} {s : SourceState} {facts last : Facts}
    {r : Registers} {memory : List ℕ} {bound pushed : ℕ} {inner : TypedExpression}
    {label : LabelNumber} (other : Bool) (from to : ℕ) (condition : ExpressionNumber) (tree : TypedExpression)
    (sense : Bool) (f : ℕ → ℕ)
    → BranchDoes context facts condition label other pushed from last to
    → IsExpression (nodes_in context) context.storage bound condition.index inner
    → TypesHold context.typed context.within inner
    → 2 * height_of inner ≤ need
    → Stage context top pushed need base s facts r memory
    → ((v : ℕ) (u : SourceState) → value_in context inner s ≡ Gave v u
    → (is_true v ≡ other → is_true (f v) ≡ sense) × (is_true v ≡ not other → is_true (f v) ≡ not sense))
    → (jumps_once tree ≡ true → jumps_once inner ≡ true)
    → Does (loaded_in context) s.budget 0 (at_place from r memory s.events)
    (then_do (value_in context inner s) (λ v u. Gave (f v) u))
    (Parts context last tree label sense top base to)
part_jumps {context = context} {top = top} {base = base} {s = s} {r = r} {memory = memory} {bound = bound}
    {inner = inner} other from to condition tree sense f does node types fewer stage bits once =
    then_does_where (value_in context inner s)
    (does bound inner node types top base s r memory stage.below
    (room_for (2 * height_of inner) fewer stage.room)
    stage.ready stage.known)
    (λ v u end is parts spent.
    let both = bits v u is in does_without_step (same_parts parts both.0 both.1 once))

-- a quiet value that is not used
quiet_given :
    {C : Type 0} {loaded : Loaded} {budget more : ℕ} {from : State}
    {Good : C → SourceState → State → Type 0}
    (go : SourceState → Outcome ℕ) (rest : ℕ → SourceState → Outcome C) (u : SourceState)
    → IsQuiet go
    → ((w : ℕ) → Does loaded budget more from (rest w u) Good)
    → Does loaded budget more from (then_do (go u) rest) Good
quiet_given {C = C} {loaded = loaded} {budget = budget} {more = more} {from = from} {Good = Good}
    go rest u quiet does =
    by (quiet.answer u.memory u.frame) (quiet.gives u)
  where
    by : (answer : Answer ℕ) → go u ≡ outcome_of answer u
        → Does loaded budget more from (then_do (go u) rest) Good
    by (Found w) is = does_same (rest w u) (ap (λ (given : Outcome ℕ). then_do given rest) is) (does w)
    by (Fails reason) is =
        does_same (then_do (outcome_of (Fails reason) u) rest)
        (ap (λ (given : Outcome ℕ). then_do given rest) is)
        (record { told = tt })

agree_parts : (sense deciding : Bool) → agree sense deciding ≡ false → not sense ≡ deciding
agree_parts true true is = sym is
agree_parts true false is = refl
agree_parts false true is = refl
agree_parts false false is = is

pub marked :
    {context : Context} {PartIs : (before : Facts) → Part → (from : ℕ) → (after : Facts) → (to : ℕ) → Type 0}
    {found last : Facts} {middle to : ℕ} {label : LabelNumber}
    → StepsStand context PartIs found middle (steps.Mark label ∷ []) last to
    → (context.activation.layout.place_of label.index ≡ to) × (middle ≡ to)
    × ((r : Registers) (memory : List ℕ) → Know context last r memory)
marked (MarkThere lies NoneThere) = (lies, refl, λ r memory. no_facts_hold)

-- AND or OR: where the left operand decides, the right one is passed over
pub joined_jumps :
    {context : Context} {top need : ℕ} {base : List ℕ} {t : SourceState} {facts last : Facts}
    {r : Registers} {memory : List ℕ} {from to bound : ℕ} {left right : ExpressionNumber}
    {first second : TypedExpression} (tree : TypedExpression) (deciding : Bool) (branch : Branch)
    (label : ℕ) (f : ℕ → ℕ → ℕ)
    → IsExpression (nodes_in context) context.storage bound left.index first
    → TypesHold context.typed context.within first
    → IsExpression (nodes_in context) context.storage bound right.index second
    → TypesHold context.typed context.within second
    → IsQuiet (λ (s : SourceState). value_in context second s)
    → 2 * height_of first ≤ need
    → 2 * height_of second ≤ need
    → jumps_once tree ≡ false
    → ((v w : ℕ) → is_true v ≡ deciding → is_true (f v w) ≡ deciding)
    → ((v w : ℕ) → is_true v ≡ not deciding → is_true (f v w) ≡ is_true w)
    → StepsStand context (PartDoes context) facts from
    (joined_steps (record { deciding = deciding; left = left; right = right }) branch label) last to
    → Stage context top branch.pushed need base t facts r memory
    → Does (loaded_in context) t.budget 0 (at_place from r memory t.events)
    (in_order (value_in context first) (value_in context second) (λ v w u. Gave (f v w) u) t)
    (Parts context last tree branch.label branch.sense top base to)
joined_jumps {context = context} {top = top} {need = need} {base = base} {t = t} {facts = facts} {last = last}
    {r = r} {memory = memory} {from = from} {to = to} {bound = bound} {left = left} {right = right}
    {first = first} {second = second} tree deciding branch label f one types two other_types quiet fewer less
    many decides other_decides stand stage =
    by (agree branch.sense deciding) refl stand
  where
    go : ℕ → SourceState → Outcome ℕ
    go v u = then_do (value_in context second u) (λ w s. Gave (f v w) s)

    after_left :
        branch.sense ≡ deciding → (v : ℕ) (u : SourceState) (end : State) {found : Facts} {middle : ℕ}
        → BranchDoes context found right branch.label branch.sense branch.pushed middle last to
        → u.budget ≤ t.budget
        → Parts context found first branch.label branch.sense top base middle v u end
        → Does (loaded_in context) u.budget 0 end (go v u)
        (Parts context last tree branch.label branch.sense top base to)
    after_left alike v u end does spent (Goes there is step arrives) =
        quiet_given (λ s. value_in context second s) (λ w s. Gave (f v w) s) u quiet
        (λ w. does_without_step (Goes there (decides v w (is ∙ alike) ∙ sym alike) step
        (record { r = arrives.r; memory = arrives.memory; is_at = arrives.is_at; ready = arrives.ready; holds = λ single. absurd (false≢true (sym many ∙ single)) })))
    after_left alike v u end {middle = middle} does spent (Passes is arrives) =
        let below = stage.below in
        let next : Stage context top branch.pushed need base u _ arrives.r arrives.memory =
        record { below = omega (arith, below, spent); room = stage.room; ready = arrives.ready; known = arrives.holds } in
        subst (λ state. Does (loaded_in context) u.budget 0 state (go v u)
        (Parts context last tree branch.label branch.sense top base to))
        (sym arrives.is_at)
        (part_jumps branch.sense middle to right tree branch.sense (f v) does two other_types less next
        (λ w s given.
        let bit = other_decides v w (is ∙ ap not alike) in
        ((λ yes. bit ∙ yes), (λ no. bit ∙ no)))
        (λ single. absurd (false≢true (sym many ∙ single))))

    moved :
        {v w other_middle : ℕ} {s : SourceState} {late : State} {other_found : Facts}
        → is_true (f v w) ≡ is_true w
        → (context.activation.layout.place_of label ≡ to) × (other_middle ≡ to)
        × ((now : Registers) (ended : List ℕ) → Know context last now ended)
        → Parts context other_found second branch.label branch.sense top base other_middle w s late
        → Parts context last tree branch.label branch.sense top base to (f v w) s late
    moved bit mark (Goes there is step arrives) =
        Goes there (bit ∙ is) step
        (record { r = arrives.r; memory = arrives.memory; is_at = arrives.is_at; ready = arrives.ready; holds = λ single. absurd (false≢true (sym many ∙ single)) })
    moved {s = s} bit mark (Passes is arrives) =
        Passes (bit ∙ is)
        (record {
          r = arrives.r;
          memory = arrives.memory;
          is_at = arrives.is_at ∙ ap (λ place. at_place place arrives.r arrives.memory s.events) mark.1;
          ready = arrives.ready;
          holds = mark.2 arrives.r arrives.memory;
        })

    after_other :
        branch.sense ≡ not deciding → (v : ℕ) (u : SourceState) (end : State) {found other_found : Facts}
        {middle other_middle : ℕ}
        → BranchDoes context found right branch.label branch.sense branch.pushed middle
        other_found other_middle
        → (context.activation.layout.place_of label ≡ to) × (other_middle ≡ to)
        × ((now : Registers) (ended : List ℕ) → Know context last now ended)
        → u.budget ≤ t.budget
        → Parts context found first (label_of label) deciding top base middle v u end
        → Does (loaded_in context) u.budget 0 end (go v u)
        (Parts context last tree branch.label branch.sense top base to)
    after_other unlike v u end does mark spent (Goes there is step arrives) =
        quiet_given (λ s. value_in context second s) (λ w s. Gave (f v w) s) u quiet
        (λ w. after_step step
        (does_without_step (Passes (decides v w is ∙ (sym (not-not deciding) ∙ ap not (sym unlike)))
        (record {
          r = arrives.r;
          memory = arrives.memory;
          is_at = arrives.is_at ∙ ap (λ place. at_place place arrives.r arrives.memory u.events) mark.0;
          ready = arrives.ready;
          holds = mark.2 arrives.r arrives.memory;
        }))))
    after_other unlike v u end {middle = middle} {other_middle = other_middle} does mark spent
        (Passes is arrives) =
        let below = stage.below in
        let next : Stage context top branch.pushed need base u _ arrives.r arrives.memory =
        record { below = omega (arith, below, spent); room = stage.room; ready = arrives.ready; known = arrives.holds } in
        subst (λ state. Does (loaded_in context) u.budget 0 state (go v u)
        (Parts context last tree branch.label branch.sense top base to))
        (sym arrives.is_at)
        (then_does_where (value_in context second u)
        (does bound second two other_types top base u arrives.r arrives.memory next.below
        (room_for (2 * height_of second) less next.room) next.ready next.known)
        (λ w s late given parts more_spent.
        does_without_step (moved (other_decides v w is) mark parts)))

    by : (same : Bool) → agree branch.sense deciding ≡ same
        → StepsStand context (PartDoes context) facts from
        (if same
        then branch_part branch left ∷ branch_part branch right ∷ []
        else
        branch_part (record branch { label = label_of label; sense = deciding }) left
        ∷ branch_part branch right
        ∷ steps.Mark (label_of label)
        ∷ []) last to
        → Does (loaded_in context) t.budget 0 (at_place from r memory t.events)
        (then_do (value_in context first t) go)
        (Parts context last tree branch.label branch.sense top base to)
    by true same (PartThere does others) =
        let alike = agreeing branch.sense deciding same in
        then_does_where (value_in context first t)
        (does bound first one types top base t r memory stage.below
        (room_for (2 * height_of first) fewer stage.room)
        stage.ready stage.known)
        (λ v u end is parts spent. after_left alike v u end (only_part others) spent parts)
    by false same (PartThere does (PartThere other_does mark)) =
        let unlike = agree_parts branch.sense deciding same in
        then_does_where (value_in context first t)
        (does bound first one types top base t r memory stage.below
        (room_for (2 * height_of first) fewer stage.room)
        stage.ready stage.known)
        (λ v u end is parts spent.
        after_other (sym (not-not branch.sense) ∙ ap not unlike) v u end other_does (marked mark) spent parts)
