-- Runs of a machine, one after another.
use Rattle.code_meaning.proofs.Prelude.{◌≡◌, ℕ, zero, suc, ◌+◌, ◌-◌, ◌<◌, ◌≤◌, ◌==◌, Bool, true, false, List, if◌then◌else◌, refl, sym, ap, ◌∙◌, arith, SourceState, Stop, Ended, More, Outside, Outcome, Gave, Stopped, then_do, taking_one, State, step_of, state_after, Running, Comes, comes_on, step_then, same_after, Lands, IsLeft, Told, Loaded, Does}

paid_on :
    (budget second more other left j k middle : ℕ)
    → budget + more ≤ middle + j
    → middle ≤ second + more
    → second + other ≤ left + k
    → budget + other ≤ left + (k + j)
paid_on budget second more other left j k middle h g f = omega arith

spent_on : (budget middle second left : ℕ) → middle ≤ budget → second ≤ middle → left ≤ second → left ≤ budget
spent_on budget middle second left h g f = omega arith

-- A run, then another. The second one may have less of the budget than the first one left: less by the steps
-- that the first one had to spare.
pub lands_on :
    {script : List (List ℕ)} {budget more : ℕ} {from : State} {middle : ℕ} {First : State → Type 0}
    (one : Lands script budget more from middle First)
    (second other left : ℕ) {Good : State → Type 0}
    → second ≤ middle
    → middle ≤ second + more
    → Lands script second other one.end left Good
    → Lands script budget other from left Good
lands_on {script = script} {budget = budget} {more = more} {from = from} {middle = middle} {First = First} one
    second other left {Good = Good} less enough two = record {
      count = two.count + one.count;
      end = two.end;
      run = comes_on script one.count two.count from one.end two.end one.run two.run;
      paid = paid_on budget second more other left one.count two.count middle one.paid enough two.paid;
      spent = spent_on budget middle second left one.spent less two.spent;
      is_good = two.is_good;
    }

-- the run for an outcome after another run is a run from the start of that one
pub told_on :
    {A : Type 0} (loaded : Loaded) {budget more : ℕ} {from : State} {middle : ℕ}
    {First : State → Type 0}
    (one : Lands loaded.program.script budget more from middle First)
    (second other : ℕ) (outcome : Outcome A) (Good : A → SourceState → State → Type 0)
    → second ≤ middle
    → middle ≤ second + more
    → Told loaded second other one.end outcome Good
    → Told loaded budget other from outcome Good
told_on loaded one second other (Gave found t) Good less enough two =
    lands_on one second other t.budget less enough two
told_on loaded one second other (Stopped Ended t) Good less enough two =
    lands_on one second 0 t.budget less enough two
told_on loaded one second other (Stopped More t) Good less enough two =
    lands_on one second 0 0 less enough two
told_on loaded one second other (Stopped (Outside reason) t) Good less enough two = tt

-- no step
pub landed :
    (script : List (List ℕ)) (budget : ℕ) (from : State) (Good : State → Type 0)
    → Good from
    → Lands script budget 0 from budget Good
landed script budget from Good good = record {
  count = 0;
  end = from;
  run = same_after script from;
  paid = omega arith;
  spent = omega arith;
  is_good = good;
}

-- one step, which pays for no budget
pub one_step :
    (script : List (List ℕ)) (budget : ℕ) (from to : State)
    → step_of script from ≡ to
    → Lands script budget 1 from budget (λ end. end ≡ to)
one_step script budget from to same = record {
  count = 1;
  end = to;
  run = step_then script 0 from to to same (same_after script to);
  paid = omega arith;
  spent = omega arith;
  is_good = refl;
}

-- the given value, without a step
pub does_without_step :
    {A : Type 0} {loaded : Loaded} {found : A} {t : SourceState} {from : State}
    {Good : A → SourceState → State → Type 0}
    → Good found t from
    → Does loaded t.budget 0 from (Gave found t) Good
does_without_step {A = A} {loaded = loaded} {found = found} {t = t} {from = from} {Good = Good} good =
    record { told = landed loaded.program.script t.budget from (Good found t) good }

-- first a step
pub after_step :
    {A : Type 0} {loaded : Loaded} {budget more : ℕ} {from to : State} {outcome : Outcome A}
    {Good : A → SourceState → State → Type 0}
    → step_of loaded.program.script from ≡ to
    → Does loaded budget more to outcome Good
    → Does loaded budget more from outcome Good
unfolding one_step
after_step {A = A} {loaded = loaded} {budget = budget} {more = more} {from = from} {to = to}
    {outcome = outcome} {Good = Good} same rest =
    let first = one_step loaded.program.script budget from to same in
    record { told = told_on loaded first budget more outcome Good (omega arith) (omega arith) rest.told }

-- first a step, which pays for one unit of the budget
pub after_paid_step :
    {A : Type 0} {loaded : Loaded} {budget more : ℕ} {from to : State} {outcome : Outcome A}
    {Good : A → SourceState → State → Type 0}
    → step_of loaded.program.script from ≡ to
    → Does loaded budget more to outcome Good
    → Does loaded (suc budget) more from outcome Good
unfolding one_step
after_paid_step {A = A} {loaded = loaded} {budget = budget} {more = more} {from = from} {to = to}
    {outcome = outcome} {Good = Good} same rest =
    let first = one_step loaded.program.script (suc budget) from to same in
    record { told = told_on loaded first budget more outcome Good (omega arith) (omega arith) rest.told }

-- a part that gives a value, then others
pub then_does :
    {A B : Type 0} {loaded : Loaded} {budget other : ℕ} {from : State} {outcome : Outcome A}
    {go : A → SourceState → Outcome B}
    {Middle : A → SourceState → State → Type 0} {Good : B → SourceState → State → Type 0}
    → Does loaded budget 0 from outcome Middle
    → ((found : A) (t : SourceState) (end : State) → Middle found t end → t.budget ≤ budget
    → Does loaded t.budget other end (go found t) Good)
    → Does loaded budget other from (then_do outcome go) Good
then_does {A = A} {B = B} {loaded = loaded} {budget = budget} {other = other} {from = from}
    {outcome = Gave found t} {go = go} {Middle = Middle} {Good = Good} one rest =
    let first : Lands loaded.program.script budget 0 from t.budget (Middle found t) = one.told in
    let second = rest found t first.end first.is_good first.spent in
    record {
      told = told_on loaded first t.budget other (go found t) Good (omega arith) (omega arith) second.told;
    }
then_does {A = A} {B = B} {loaded = loaded} {budget = budget} {other = other} {from = from}
    {outcome = Stopped Ended t} {go = go} {Middle = Middle} {Good = Good} one rest =
    record { told = one.told }
then_does {A = A} {B = B} {loaded = loaded} {budget = budget} {other = other} {from = from}
    {outcome = Stopped More t} {go = go} {Middle = Middle} {Good = Good} one rest =
    record { told = one.told }
then_does {A = A} {B = B} {loaded = loaded} {budget = budget} {other = other} {from = from}
    {outcome = Stopped (Outside reason) t} {go = go} {Middle = Middle} {Good = Good} one rest =
    record { told = tt }
