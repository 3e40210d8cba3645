-- Turns of an iterative DO: each takes one of the budget, for which a step pays that leads to its code.
use Rattle.statement_laws.proofs.Prelude.{◌≡◌, ◌≢◌, ℕ, zero, suc, ◌+◌, ◌-◌, ◌*◌, ◌<◌, ◌≤◌, ◌==◌, Bool, true, false, nat_lt, if◌then◌else◌, List, refl, sym, ap, subst, arith, eqb-true, eqb-false, same_after, height_of_list, TypedIteration, TypedList, ListStands, TypesHoldInList, Later, LoopTurn, Turn, done_list, iterated, next_turn, stepped, turn_of, SourceState, Ended, More, Outside, Outcome, Gave, Stopped, then_do, taking_one, Flow, Onward, Returned, Jumped, values_of, again_is, Running, Registers, State, step_of, Range, IsList, Facts, Here, Does, Loaded, Lands, at_place, after_paid_step, does_without_step, then_does, told_on, nodes_in, Stage, loaded_in, script_of, BodyContext, IsSoundBody, Leaves, ListDoes}
use Rattle.typed_trees.specs.TypedTrees.{CountHead}

-- a machine at nothing pushed, of which this is known
abbrev pub StageAt :
    BodyContext → (need : ℕ) → (base : List ℕ) → SourceState → Facts → Registers → (memory : List ℕ) → Type 0
StageAt at need base t facts r memory =
    Stage at.context at.context.activation.level 0 need base t facts r memory

-- where nothing of the budget is left, the machine still runs
wants_more :
    {A : Type 0} {loaded : Loaded} {budget : ℕ} {from : State}
    {Good : A → SourceState → State → Type 0}
    (u : SourceState)
    → from.status ≡ Running
    → from.events ≡ u.events
    → budget ≡ 0
    → Does loaded budget 0 from (Stopped More u) Good
wants_more {loaded = loaded} {from = from} u runs same none = record {
  told = record {
    count = 0;
    end = from;
    run = same_after loaded.program.script from;
    paid = omega (arith, none);
    spent = omega arith;
    is_good = record { status_is = runs; events_are = same };
  };
}

one_more : (n : ℕ) → n ≢ 0 → n ≡ suc (n - 1)
one_more n some = omega (arith, some)

-- a step pays for one that is taken of the budget
pub step_pays :
    {A : Type 0} {loaded : Loaded} {from to : State} {Good : A → SourceState → State → Type 0}
    (u : SourceState) (go : SourceState → Outcome A)
    → from.status ≡ Running
    → from.events ≡ u.events
    → step_of loaded.program.script from ≡ to
    → ((budget : ℕ) → u.budget ≡ suc budget
    → Does loaded budget 0 to (go (record u { budget = budget })) Good)
    → Does loaded u.budget 0 from (taking_one u go) Good
step_pays {loaded = loaded} {from = from} {Good = Good} u go runs same step rest =
    by_test (u.budget == 0) refl
  where
    by_test : (test : Bool) → (u.budget == 0) ≡ test
        → Does loaded u.budget 0 from
        (if test then Stopped More u else go (record u { budget = u.budget - 1 })) Good
    by_test true is = wants_more u runs same (eqb-true u.budget 0 is)
    by_test false is =
        let more = one_more u.budget (eqb-false u.budget 0 is) in
        subst (λ (n : ℕ). Does loaded n 0 from (go (record u { budget = u.budget - 1 })) Good) (sym more)
        (after_paid_step step (rest (u.budget - 1) more))

-- one that is taken of the budget, for which a step before has paid
pub is_paid :
    {A : Type 0} {loaded : Loaded} {from : State} {Good : A → SourceState → State → Type 0}
    (u : SourceState) (go : SourceState → Outcome A)
    → from.status ≡ Running
    → from.events ≡ u.events
    → ((budget : ℕ) → u.budget ≡ suc budget
    → Does loaded budget 0 from (go (record u { budget = budget })) Good)
    → Does loaded (u.budget - 1) 0 from (taking_one u go) Good
is_paid {loaded = loaded} {from = from} {Good = Good} u go runs same rest =
    by_test (u.budget == 0) refl
  where
    by_test : (test : Bool) → (u.budget == 0) ≡ test
        → Does loaded (u.budget - 1) 0 from
        (if test then Stopped More u else go (record u { budget = u.budget - 1 })) Good
    by_test true is = let none = eqb-true u.budget 0 is in wants_more u runs same (omega (arith, none))
    by_test false is = rest (u.budget - 1) (one_more u.budget (eqb-false u.budget 0 is))

less_one : (n : ℕ) → n - 1 ≤ n
less_one n = omega arith

one_back : (n : ℕ) → n ≤ n - 1 + 1
one_back n = omega arith

-- a part with a step to spare, and then others with one less
pub then_spends :
    {A B : Type 0} {loaded : Loaded} {budget : ℕ} {from : State} (outcome : Outcome A)
    {go : A → SourceState → Outcome B} {Middle : A → SourceState → State → Type 0}
    {Good : B → SourceState → State → Type 0}
    → Does loaded budget 1 from outcome Middle
    → ((found : A) (t : SourceState) (end : State) → outcome ≡ Gave found t
    → Middle found t end → t.budget ≤ budget
    → Does loaded (t.budget - 1) 0 end (go found t) Good)
    → Does loaded budget 0 from (then_do outcome go) Good
then_spends {A = A} {loaded = loaded} {budget = budget} {from = from} (Gave found t) {go = go}
    {Middle = Middle} {Good = Good} one rest =
    let first : Lands loaded.program.script budget 1 from t.budget (Middle found t) = one.told in
    let second = rest found t first.end refl first.is_good first.spent in
    record {
      told =
          told_on loaded first (t.budget - 1) 0 (go found t) Good (less_one t.budget) (one_back t.budget)
          second.told;
    }
then_spends (Stopped Ended t) one rest = record { told = one.told }
then_spends (Stopped More t) one rest = record { told = one.told }
then_spends (Stopped (Outside reason) t) one rest = record { told = tt }

-- an iterative DO of a body: the head and the list that it is of, where it ends, and what is known there; how much of
-- the budget there was before it, and how many bytes it needs
pub record Loop (at : BodyContext) : Type 0 where
  pub base : List ℕ
  pub to : ℕ
  pub after : Here
  pub budget : ℕ
  pub need : ℕ
  pub head : TypedIteration
  pub list : TypedList
  pub below : budget < at.context.number

-- the ways out of it
abbrev pub Out : {at : BodyContext} → Loop at → Flow → SourceState → State → Type 0
Out {at = at} loop = Leaves at loop.base loop.to loop.after loop.budget

-- what it means from its list on, after it, and from its test on
abbrev pub list_of : {at : BodyContext} → Loop at → SourceState → Outcome Flow
list_of {at = at} loop t = done_list at.context.later at.context.activation.around loop.list t

abbrev pub after_list : {at : BodyContext} → Loop at → Flow → SourceState → Outcome Flow
after_list {at = at} loop flow t =
    stepped at.context.later at.context.activation.around loop.head loop.list flow t

abbrev pub from_list : {at : BodyContext} → Loop at → SourceState → Outcome Flow
from_list {at = at} loop t = then_do (list_of loop t) (after_list loop)

abbrev pub from_test : {at : BodyContext} → Loop at → SourceState → Outcome Flow
from_test {at = at} loop t =
    iterated at.context.later at.context.activation.around loop.head loop.list (list_of loop) t

-- from a place on the machine does what is meant, with less than so much of the budget
abbrev pub Runs :
    {at : BodyContext} → Loop at → (limit place : ℕ) → Facts → (meant : SourceState → Outcome Flow) → Type 0
Runs {at = at} loop limit place facts meant =
    (t : SourceState) (r : Registers) (memory : List ℕ)
    → t.budget < limit
    → StageAt at loop.need loop.base t facts r memory
    → Does (loaded_in at.context) t.budget 0 (at_place place r memory t.events) (meant t) (Out loop)

-- If turns with less of the budget do what they mean, so do those with one more: then all do.
pub turns_do :
    {at : BodyContext} (loop : Loop at) (place : ℕ) (facts : Facts)
    → ((limit : ℕ) → limit < loop.budget
    → Runs loop limit place facts (from_list loop) → Runs loop (suc limit) place facts (from_list loop))
    → (limit : ℕ) → limit ≤ loop.budget
    → Runs loop limit place facts (from_list loop)
turns_do loop place facts next zero less = λ t r memory below stage. absurd (omega (arith, below))
turns_do loop place facts next (suc limit) less =
    next limit (omega (arith, less)) (turns_do loop place facts next limit (omega (arith, less)))

-- a step to a turn
pub to_turn :
    {at : BodyContext} (loop : Loop at) (limit place : ℕ) (facts : Facts) (t : SourceState) (from : ℕ)
    (r : Registers) (memory : List ℕ)
    → Runs loop limit place facts (from_list loop)
    → t.budget ≤ limit
    → StageAt at loop.need loop.base t facts r memory
    → step_of (script_of at.context) (at_place from r memory t.events) ≡ at_place place r memory t.events
    → Does (loaded_in at.context) t.budget 0 (at_place from r memory t.events)
    (taking_one t (from_list loop)) (Out loop)
to_turn loop limit place facts t from r memory turns less stage step =
    step_pays t (from_list loop) refl refl step
    (λ budget is.
    turns (record t { budget = budget }) r memory (omega (arith, less, is))
    (record { below = (let below = stage.below in omega (arith, below, is)); room = stage.room; ready = stage.ready; known = stage.known }))

-- a turn for which a step before has paid
pub at_turn :
    {at : BodyContext} (loop : Loop at) (limit place : ℕ) (facts : Facts) (t : SourceState)
    (r : Registers) (memory : List ℕ)
    → Runs loop limit place facts (from_list loop)
    → t.budget ≤ limit
    → StageAt at loop.need loop.base t facts r memory
    → Does (loaded_in at.context) (t.budget - 1) 0 (at_place place r memory t.events)
    (taking_one t (from_list loop)) (Out loop)
at_turn loop limit place facts t r memory turns less stage =
    is_paid t (from_list loop) refl refl
    (λ budget is.
    turns (record t { budget = budget }) r memory (omega (arith, less, is))
    (record { below = (let below = stage.below in omega (arith, below, is)); room = stage.room; ready = stage.ready; known = stage.known }))

-- the list of a turn, and what comes after it where its end is reached, if the code goes on there
pub list_goes :
    {at : BodyContext} (loop : Loop at) (bound : ℕ) (range : Range) (facts : Facts)
    (after : Here) (from middle : ℕ)
    (t : SourceState) (r : Registers) (memory : List ℕ)
    → ListDoes at facts range from after middle
    → IsList (nodes_in at.context) at.context.storage at.labels bound range loop.list
    → TypesHoldInList at.context.typed at.context.within loop.list
    → ListStands loop.list
    → 2 + 2 * height_of_list loop.list ≤ loop.need
    → t.budget < loop.budget
    → StageAt at loop.need loop.base t facts r memory
    → (after.goes_on ≡ true → (u : SourceState) (now : Registers) (memory_now : List ℕ)
    → u.budget ≤ t.budget
    → StageAt at loop.need loop.base u after.facts now memory_now
    → Does (loaded_in at.context) u.budget 0 (at_place middle now memory_now u.events)
    (after_list loop Onward u) (Out loop))
    → Does (loaded_in at.context) t.budget 0 (at_place from r memory t.events) (from_list loop t) (Out loop)
list_goes {at = at} loop bound range facts after from middle t r memory does is types stand
    fits less stage rest =
    let enough = stage.room.enough in
    then_does
    (does bound loop.list is types stand loop.base t r memory stage.below
    (record { depth = stage.room.depth; enough = omega (arith, enough, fits); even = stage.room.even })
    stage.ready stage.known)
    (λ flow u end leaves spent. by_flow flow u end leaves spent)
  where
    by_flow : (flow : Flow) (u : SourceState) (end : State)
        → Leaves at loop.base middle after t.budget flow u end
        → u.budget ≤ t.budget
        → Does (loaded_in at.context) u.budget 0 end (after_list loop flow u) (Out loop)
    by_flow Onward u end goes spent =
        let comes = goes.comes in
        let below = stage.below in
        subst (λ (state : State). Does (loaded_in at.context) u.budget 0 state (after_list loop Onward u)
        (Out loop)) (sym comes.is_at)
        (rest goes.goes_on u comes.r comes.memory spent
        (record { below = omega (arith, below, spent); room = stage.room; ready = comes.ready; known = comes.holds }))
    by_flow (Returned value) u end comes spent = does_without_step comes
    by_flow (Jumped label) u end comes spent =
        let before = comes.spent in
        does_without_step
        (record { place = comes.place; lies = comes.lies; spent = omega (arith, before, less); comes = comes.comes })

-- whether it goes on there or not
pub list_then :
    {at : BodyContext} (loop : Loop at) (bound : ℕ) (range : Range) (facts : Facts)
    (after : Here) (from middle : ℕ)
    (t : SourceState) (r : Registers) (memory : List ℕ)
    → ListDoes at facts range from after middle
    → IsList (nodes_in at.context) at.context.storage at.labels bound range loop.list
    → TypesHoldInList at.context.typed at.context.within loop.list
    → ListStands loop.list
    → 2 + 2 * height_of_list loop.list ≤ loop.need
    → t.budget < loop.budget
    → StageAt at loop.need loop.base t facts r memory
    → ((u : SourceState) (now : Registers) (memory_now : List ℕ)
    → u.budget ≤ t.budget
    → StageAt at loop.need loop.base u after.facts now memory_now
    → Does (loaded_in at.context) u.budget 0 (at_place middle now memory_now u.events)
    (after_list loop Onward u) (Out loop))
    → Does (loaded_in at.context) t.budget 0 (at_place from r memory t.events) (from_list loop t) (Out loop)
list_then loop bound range facts after from middle t r memory does is types stand fits less stage rest =
    list_goes loop bound range facts after from middle t r memory does is types stand fits less
    stage (λ goes_on. rest)

-- a further turn is one from the test on
pub next_is :
    {at : BodyContext} (loop : Loop at) (sum : ℕ) (t : SourceState)
    → IsSoundBody at
    → t.budget < loop.budget
    → next_turn at.context.later at.context.activation.around loop.head loop.list sum t
    ≡ (if nat_lt sum (values_of (loop.head).scalar) then from_test loop t else Gave Onward t)
next_is {at = at} loop sum t sound less =
    let turn : Turn = LoopTurn (CountHead loop.head) loop.list in
    ap (λ (outcome : Outcome Flow). if nat_lt sum
    (values_of (loop.head).scalar) then outcome else Gave Onward t)
    (subst (λ (later : Later). later.again turn at.context.activation.around t
    ≡ turn_of later turn at.context.activation.around t) (sym sound.later)
    (again_is sound.bound turn at.context.activation.around t
    (let below = loop.below in let number = sound.number in omega (arith, less, below, number))))

-- the end of a loop
pub loop_ends :
    {at : BodyContext} (loop : Loop at) (t : SourceState) (r : Registers) (memory : List ℕ)
    → (loop.after).goes_on ≡ true
    → StageAt at loop.need loop.base t (loop.after).facts r memory
    → Does (loaded_in at.context) t.budget 0 (at_place loop.to r memory t.events) (Gave Onward t) (Out loop)
loop_ends loop t r memory goes_on stage =
    does_without_step (record {
      goes_on = goes_on;
      comes = record { r = r; memory = memory; is_at = refl; ready = stage.ready; holds = stage.known };
    })
