-- Steps to spare: a store makes one, which what follows it may spend.
use Rattle.statement_laws.proofs.Prelude.{ℕ, ◌+◌, ◌*◌, ◌<◌, ◌≤◌, false, List, sym, ap, subst, arith, ScalarType, height_of_target, TypedTarget, TypesHoldInTarget, stored, SourceState, Ended, More, Outside, Outcome, Gave, Stopped, then_do, values_of, Registers, State, comes_on, Target, IsTarget, Does, Loaded, Lands, Told, at_place, told_on, Facts, from_type, InRegister, nodes_in, StoreDoes, does_same, loaded_in, BodyContext, room_for}
use Rattle.statement_laws.proofs.Outcomes.{Between}
use Rattle.statement_laws.proofs.Targets.{Suits, retyped, retyped_height, retyped_is, retyped_types, stored_alike}

-- a run with a step to spare, then another
lands_sparing :
    {script : List (List ℕ)} {budget : ℕ} {from : State} {middle left : ℕ} {First Good : State → Type 0}
    (one : Lands script budget 1 from middle First)
    → Lands script middle 0 one.end left Good
    → Lands script budget 1 from left Good
lands_sparing {script = script} {from = from} one two =
    let paid = one.paid in
    let paid_too = two.paid in
    let spent = one.spent in
    let spent_too = two.spent in
    record {
      count = two.count + one.count;
      end = two.end;
      run = comes_on script one.count two.count from one.end two.end one.run two.run;
      paid = omega (arith, paid, paid_too);
      spent = omega (arith, spent, spent_too);
      is_good = two.is_good;
    }

told_sparing :
    {A : Type 0} (loaded : Loaded) {budget : ℕ} {from : State} {middle : ℕ} {First : State → Type 0}
    (one : Lands loaded.program.script budget 1 from middle First) (outcome : Outcome A)
    (Good : A → SourceState → State → Type 0)
    → Told loaded middle 0 one.end outcome Good
    → Told loaded budget 1 from outcome Good
told_sparing loaded one (Gave found t) Good two = lands_sparing one two
told_sparing loaded {middle = middle} one (Stopped Ended t) Good two =
    told_on loaded one middle 0 (Stopped Ended t) Good (omega arith) (omega arith) two
told_sparing loaded {middle = middle} one (Stopped More t) Good two =
    told_on loaded one middle 0 (Stopped More t) Good (omega arith) (omega arith) two
told_sparing loaded one (Stopped (Outside reason) t) Good two = tt

-- a part with a step to spare, and then others that leave it
pub then_spares :
    {A B : Type 0} {loaded : Loaded} {budget : ℕ} {from : State} (outcome : Outcome A)
    {go : A → SourceState → Outcome B} {Middle : A → SourceState → State → Type 0}
    {Good : B → SourceState → State → Type 0}
    → Does loaded budget 1 from outcome Middle
    → ((found : A) (t : SourceState) (end : State) → Middle found t end → t.budget ≤ budget
    → Does loaded t.budget 0 end (go found t) Good)
    → Does loaded budget 1 from (then_do outcome go) Good
then_spares {loaded = loaded} {budget = budget} {from = from} (Gave found t) {go = go} {Middle = Middle}
    {Good = Good} one rest =
    let first : Lands loaded.program.script budget 1 from t.budget (Middle found t) = one.told in
    record {
      told =
          told_sparing loaded first (go found t) Good (rest found t first.end first.is_good first.spent).told;
    }
then_spares (Stopped Ended t) one rest = record { told = one.told }
then_spares (Stopped More t) one rest = record { told = one.told }
then_spares (Stopped (Outside reason) t) one rest = record { told = tt }

-- a value in a register goes to a target, with a step to spare
pub target_spares :
    {B : Type 0} {need bound : ℕ} {base : List ℕ} {t : SourceState} {facts found : Facts} {r : Registers}
    {memory : List ℕ} {Good : B → SourceState → State → Type 0}
    (at : BodyContext) (scalar there : ScalarType) (from middle number other : ℕ) (target : Target)
    (tree : TypedTarget)
    (go : Unit {0} → SourceState → Outcome B)
    → StoreDoes at.context facts (from_type target there) false 0 from found middle
    → IsTarget (nodes_in at.context) at.context.storage bound target tree
    → TypesHoldInTarget at.context.typed at.context.within scalar tree
    → Suits tree number other
    → other < values_of there
    → 2 + 2 * height_of_target tree ≤ need
    → InRegister there other r
    → Between at need base t facts r memory
    → ((u : SourceState) (now : Registers) (memory_now : List ℕ)
    → Between at need base u found now memory_now
    → Does (loaded_in at.context) u.budget 0 (at_place middle now memory_now u.events) (go tt u) Good)
    → Does (loaded_in at.context) t.budget 1 (at_place from r memory t.events)
    (then_do (stored at.context.later at.context.activation.around tree number t) go) Good
target_spares {need = need} {bound = bound} {base = base} {t = t} {facts = facts} {found = found} {r = r}
    {memory = memory} {Good = Good} at scalar there from middle number other target tree go does is types
    suits small fits has stage rest =
    let high = retyped_height tree there in
    let context = at.context in
    does_same _
    (ap (λ (outcome : Outcome (Unit {0})). then_do outcome go)
    (sym (stored_alike at tree there number other t suits)))
    (then_spares (stored context.later context.activation.around (retyped tree there) other t)
    (does bound other there (retyped tree there) (retyped_is at bound target tree there is)
    (retyped_types at scalar there tree types) small
    context.activation.level base t r memory stage.below
    (room_for {need = need} (2 + 2 * height_of_target (retyped tree there))
    (omega (arith, high, fits)) stage.room)
    stage.ready stage.known has)
    (λ given u end arrives spent.
    let below = stage.below in
    subst (λ (s : State). Does (loaded_in at.context) u.budget 0 s (go tt u) Good) (sym arrives.is_at)
    (rest u arrives.r arrives.memory
    (record {
      below = omega (arith, below, spent);
      room = stage.room;
      ready = arrives.ready;
      known = arrives.holds.known;
    }))))
