-- Ways out of statements, and what follows them.
use Rattle.statement_laws.proofs.Prelude.{◌≡◌, ℕ, suc, ◌-◌, ◌<◌, ◌≤◌, ◌==◌, Bool, true, false, if◌then◌else◌, List, slice_get, Some, refl, sym, subst, arith, eqb-true, eqb-false, SourceState, Ended, More, Outside, Outcome, Gave, Stopped, taking_one, Flow, Onward, Returned, Jumped, Running, Registers, State, step_of, Does, Loaded, IsLeft, Lands, at_place, IsReady, after_paid_step, after_step, does_without_step, landed, Facts, body_label, Here, Stage, loaded_in, BodyContext, Leaves}
use Rattle.statement_laws.proofs.FirstSteps.{Ends}

-- a machine of a body may go on between statements, of which this is known
abbrev pub Between :
    (at : BodyContext) → (need : ℕ) → (base : List ℕ) → SourceState → Facts → Registers
    → (memory : List ℕ) → Type 0
Between at need base t facts r memory =
    Stage at.context at.context.activation.level 0 need base t facts r memory

-- what is told of an outcome is told of another predicate that follows
pub does_good :
    {A : Type 0} {loaded : Loaded} {budget more : ℕ} {from : State} {outcome : Outcome A}
    {Good Other : A → SourceState → State → Type 0}
    → ((found : A) (t : SourceState) (end : State) → t.budget ≤ budget → Good found t end → Other found t end)
    → Does loaded budget more from outcome Good
    → Does loaded budget more from outcome Other
does_good {outcome = Gave found t} follows does =
    let lands = does.told in
    record {
      told = record {
        count = lands.count;
        end = lands.end;
        run = lands.run;
        paid = lands.paid;
        spent = lands.spent;
        is_good = follows found t lands.end lands.spent lands.is_good;
      };
    }
does_good {outcome = Stopped Ended t} follows does = record { told = does.told }
does_good {outcome = Stopped More t} follows does = record { told = does.told }
does_good {outcome = Stopped (Outside reason) t} follows does = record { told = tt }

-- a way out, where more of the budget was there before
pub leaves_later :
    (at : BodyContext) (base : List ℕ) (to : ℕ) (after : Here) (before other : ℕ)
    (flow : Flow) (t : SourceState)
    (end : State)
    → before ≤ other
    → Leaves at base to after before flow t end
    → Leaves at base to after other flow t end
leaves_later at base to after before other Onward t end less leaves = leaves
leaves_later at base to after before other (Returned value) t end less leaves = leaves
leaves_later at base to after before other (Jumped label) t end less leaves =
    let spent = leaves.spent in
    record { place = leaves.place; lies = leaves.lies; spent = omega (arith, spent, less); comes = leaves.comes }

pub does_later :
    {at : BodyContext} {base : List ℕ} {to before budget more : ℕ} {after : Here} {from : State}
    {outcome : Outcome Flow} (other : ℕ)
    → before ≤ other
    → Does (loaded_in at.context) budget more from outcome (Leaves at base to after before)
    → Does (loaded_in at.context) budget more from outcome (Leaves at base to after other)
does_later {at = at} {base = base} {to = to} {before = before} {after = after} other less does =
    does_good (λ flow t end spent leaves. leaves_later at base to after before other flow t end less leaves)
    does

-- one of the budget, where the next step leads to what follows
pub taking_does :
    {A : Type 0} {loaded : Loaded} {from to : State} {Good : A → SourceState → State → Type 0}
    (t : SourceState) (go : SourceState → Outcome A)
    → step_of loaded.program.script from ≡ to
    → to.status ≡ Running
    → to.events ≡ t.events
    → (suc (t.budget - 1) ≡ t.budget
    → Does loaded (t.budget - 1) 0 to (go (record t { budget = t.budget - 1 })) Good)
    → Does loaded t.budget 0 from (taking_one t go) Good
taking_does {A = A} {loaded = loaded} {from = from} {to = to} {Good = Good} t go step runs events rest =
    by (t.budget == 0) refl
  where
    none : t.budget ≡ 0 → Does loaded t.budget 0 from (Stopped More t) Good
    none zero_is =
        after_step step
        (record {
          told =
              subst (λ (n : ℕ). Lands loaded.program.script n 0 to 0 (IsLeft Running t.events)) (sym zero_is)
              (landed loaded.program.script 0 to (IsLeft Running t.events)
              (record { status_is = runs; events_are = events }));
        })

    some : (t.budget == 0) ≡ false → Does loaded t.budget 0 from
        (go (record t { budget = t.budget - 1 })) Good
    some not_zero =
        let differs = eqb-false t.budget 0 not_zero in
        let is : suc (t.budget - 1) ≡ t.budget = omega (arith, differs) in
        subst (λ (n : ℕ). Does loaded n 0 from (go (record t { budget = t.budget - 1 })) Good) is
        (after_paid_step step (rest is))

    by : (test : Bool) → (t.budget == 0) ≡ test
        → Does loaded t.budget 0 from
        (if test then Stopped More t else go (record t { budget = t.budget - 1 })) Good
    by true is = none (eqb-true t.budget 0 is)
    by false is = some is

-- a machine at the end of a statement
pub onward :
    {at : BodyContext} {base : List ℕ} {to before need : ℕ} {after : Here} {t : SourceState} {r : Registers}
    {memory : List ℕ}
    → after.goes_on ≡ true
    → Between at need base t after.facts r memory
    → Does (loaded_in at.context) t.budget 0 (at_place to r memory t.events) (Gave Onward t)
    (Leaves at base to after before)
onward {r = r} {memory = memory} goes_on stage =
    does_without_step (record {
      goes_on = goes_on;
      comes = record { r = r; memory = memory; is_at = refl; ready = stage.ready; holds = stage.known };
    })

-- where no step is left
pub ends_onward :
    {at : BodyContext} {base : List ℕ} {from to before need : ℕ} {here after : Here}
    {t : SourceState} {r : Registers}
    {memory : List ℕ}
    → Ends here from after to
    → here.goes_on ≡ true
    → Between at need base t here.facts r memory
    → Does (loaded_in at.context) t.budget 0 (at_place from r memory t.events) (Gave Onward t)
    (Leaves at base to after before)
ends_onward {at = at} {base = base} {from = from} {to = to} {before = before} {here = here} {after = after}
    {t = t} {r = r} {memory = memory} ends goes_on stage =
    subst (λ (last : Here). Does (loaded_in at.context) t.budget 0
    (at_place from r memory t.events) (Gave Onward t)
    (Leaves at base to last before)) (sym ends.same)
    (subst (λ (place : ℕ). Does (loaded_in at.context) t.budget 0
    (at_place place r memory t.events) (Gave Onward t)
    (Leaves at base to here before)) ends.place
    (onward goes_on stage))

-- a machine at a label
pub to_label :
    {at : BodyContext} {base : List ℕ} {to before : ℕ} {after : Here} {t : SourceState} {r : Registers}
    {memory : List ℕ} (number label : ℕ)
    → slice_get at.labels number ≡ Some label
    → t.budget < before
    → IsReady at.context.activation at.context.activation.level base t.memory t.frame r memory
    → Does (loaded_in at.context) t.budget 0
    (at_place (at.context.activation.layout.place_of (body_label at.body number).index) r memory t.events)
    (Gave (Jumped label) t) (Leaves at base to after before)
to_label {at = at} {r = r} {memory = memory} number label names spent ready =
    does_without_step (record {
      place = at.context.activation.layout.place_of (body_label at.body number).index;
      lies = record { number = number; is_label = names; place_is = refl };
      spent = spent;
      comes = record { r = r; memory = memory; is_at = refl; ready = ready; holds = tt };
    })
