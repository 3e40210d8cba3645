-- A value in its register, and a value that is stored while it is evaluated.
use Rattle.task_laws.proofs.Prelude.{◌≡◌, ℕ, ◌+◌, ◌*◌, ◌<◌, ◌≤◌, Bool, true, List, sym, subst, ◌∙◌, arith, ScalarType, Byte, Address, height_of, height_of_target, type_of, TypedExpression, TypedTarget, AssignmentNode, TypesHold, TypesHoldInTarget, stored, value, SourceState, Ended, More, Outside, Outcome, Gave, Stopped, then_do, values_of, Registers, State, ExpressionNumber, Target, IsExpression, IsTarget, IsStored, IsSent, source, Facts, Does, Loaded, Lands, at_place, embedded_steps, value_task, Context, InRegister, nodes_in, NoneThere, PartThere, StepsStand, ByteIsGiven, Carries, WasStored, PartDoes, StoreDoes, TaskDoes, WordIsGiven, low_of_byte}
use Rattle.task_laws.proofs.Machine.Stages.{Stage, at_byte, at_carried, at_word, does_same, loaded_in}
use Rattle.task_laws.proofs.Machine.Effects.{then_again}

-- fewer steps beside those that pay
pub without_more :
    {A : Type 0} {loaded : Loaded} {budget more : ℕ} {from : State} {outcome : Outcome A}
    {Good : A → SourceState → State → Type 0}
    → Does loaded budget more from outcome Good
    → Does loaded budget 0 from outcome Good
without_more {loaded = loaded} {budget = budget} {more = more} {from = from} {outcome = Gave found t}
    {Good = Good} does =
    let lands : Lands loaded.program.script budget more from t.budget (Good found t) = does.told in
    let paid = lands.paid in
    record {
      told = record {
        count = lands.count;
        end = lands.end;
        run = lands.run;
        paid = omega (arith, paid);
        spent = lands.spent;
        is_good = lands.is_good;
      };
    }
without_more {outcome = Stopped Ended t} does = record { told = does.told }
without_more {outcome = Stopped More t} does = record { told = does.told }
without_more {outcome = Stopped (Outside reason) t} does = record { told = tt }

-- the value of a part into its register
pub at_value :
    {B : Type 0} {context : Context} {top pushed need : ℕ} {base : List ℕ} {t : SourceState}
    {facts found_facts : Facts}
    {r : Registers} {memory : List ℕ} {more : ℕ} {bound : ℕ}
    {tree : TypedExpression} {go : ℕ → SourceState → Outcome B}
    {Good : B → SourceState → State → Type 0} (scalar : ScalarType) (from middle : ℕ)
    (number : ExpressionNumber)
    → TaskDoes context facts (value_task scalar number) pushed from found_facts middle
    → IsExpression (nodes_in context) context.storage bound number.index tree
    → TypesHold context.typed context.within tree
    → type_of tree ≡ scalar
    → 2 * height_of tree ≤ need
    → Stage context top pushed need base t facts r memory
    → ((found : ℕ) (u : SourceState) (now : Registers) (memory_now : List ℕ)
    → InRegister scalar found now
    → found < values_of scalar
    → Stage context top pushed need base u found_facts now memory_now
    → Does (loaded_in context) u.budget more (at_place middle now memory_now u.events) (go found u) Good)
    → Does (loaded_in context) t.budget more (at_place from r memory t.events)
    (then_do (value context.later context.activation.around tree t) go) Good
unfolding value_task
at_value {context = context} {found_facts = found_facts} {r = r} {memory = memory} {tree = tree} Byte from
    middle number does node types type fewer stage rest =
    at_byte from middle number does node types fewer stage
    (λ found u now memory_now is (given : ByteIsGiven context found_facts number (type_of tree) r memory found now memory_now) next.
    let small : found < 256 = subst (λ scalar. found < values_of scalar) type given.small in
    rest found u now memory_now (given.a ∙ low_of_byte found small) small next)
at_value {context = context} {found_facts = found_facts} {r = r} {memory = memory} {tree = tree} Address from
    middle number does node types type fewer stage rest =
    at_word from middle number does node types fewer stage
    (λ found u now memory_now is (given : WordIsGiven context found_facts number (type_of tree) r memory found now memory_now) next.
    rest found u now memory_now (given.h, given.l)
    (subst (λ scalar. found < values_of scalar) type given.small) next)

-- a value in its register is stored in a target
pub at_store :
    {B : Type 0} {context : Context} {top pushed need : ℕ} {base : List ℕ} {t : SourceState}
    {facts found_facts : Facts}
    {r : Registers} {memory : List ℕ} {more : ℕ} {bound : ℕ} {is_wanted : Bool}
    {tree : TypedTarget}
    {Good : B → SourceState → State → Type 0} (scalar : ScalarType) (from middle number : ℕ) (target : Target)
    (go : Unit {0} → SourceState → Outcome B)
    → StoreDoes context facts target is_wanted pushed from found_facts middle
    → IsTarget (nodes_in context) context.storage bound target tree
    → TypesHoldInTarget context.typed context.within scalar tree
    → number < values_of scalar
    → 2 + 2 * height_of_target tree ≤ need
    → InRegister scalar number r
    → Stage context top pushed need base t facts r memory
    → ((u : SourceState) (now : Registers) (memory_now : List ℕ)
    → (is_wanted ≡ true → InRegister scalar number now)
    → Stage context top pushed need base u found_facts now memory_now
    → Does (loaded_in context) u.budget more (at_place middle now memory_now u.events) (go tt u) Good)
    → Does (loaded_in context) t.budget more (at_place from r memory t.events)
    (then_do (stored context.later context.activation.around tree number t) go) Good
at_store {context = context} {pushed = pushed} {facts = facts} {found_facts = found_facts} {r = r}
    {memory = memory} {bound = bound} {is_wanted = is_wanted} {tree = tree} scalar from middle number target
    go does node types small fewer is_there stage rest =
    let carries : Carries context facts pushed (2 + 2 * height_of_target tree) 0 from middle
    (InRegister scalar number)
    (stored context.later context.activation.around tree number)
    (WasStored context found_facts scalar is_wanted number)
    = λ top base s r memory below room ready known asked.
    without_more
    (does bound number scalar tree node types small top base s r memory below room ready known asked) in
    at_carried from middle found_facts carries fewer is_there
    (λ found now memory_now (given : WasStored context found_facts scalar is_wanted number r memory found now memory_now). given.known) stage
    (λ found u now memory_now is (given : WasStored context found_facts scalar is_wanted number r memory found now memory_now) next.
    rest u now memory_now given.wanted next)

-- a value that is stored where it is evaluated
pub at_embedded :
    {B : Type 0} {context : Context} {top pushed need : ℕ} {base : List ℕ} {t : SourceState}
    {facts found_facts : Facts}
    {r : Registers} {memory : List ℕ} {more bound : ℕ} {is_wanted : Bool} {target : Target}
    {number : ExpressionNumber}
    {to : TypedTarget} {tree : TypedExpression}
    {Good : B → SourceState → State → Type 0} (from middle : ℕ) (go : ℕ → SourceState → Outcome B)
    → StepsStand context (PartDoes context) facts from
    (embedded_steps target number is_wanted pushed) found_facts middle
    → IsTarget (nodes_in context) context.storage bound target to
    → IsExpression (nodes_in context) context.storage bound number.index tree
    → TypesHold context.typed context.within (AssignmentNode to tree)
    → 2 * height_of (AssignmentNode to tree) ≤ need
    → Stage context top pushed need base t facts r memory
    → ((found : ℕ) (u : SourceState) (now : Registers) (memory_now : List ℕ)
    → (is_wanted ≡ true → InRegister (source target) found now)
    → found < values_of (type_of tree)
    → source target ≡ type_of tree
    → Stage context top pushed need base u found_facts now memory_now
    → Does (loaded_in context) u.budget more (at_place middle now memory_now u.events) (go found u) Good)
    → Does (loaded_in context) t.budget more (at_place from r memory t.events)
    (then_do (value context.later context.activation.around (AssignmentNode to tree) t) go) Good
unfolding embedded_steps
at_embedded {context = context} {t = t} {target = target} {number = number} {to = to} {tree = tree} from
    middle go (PartThere {middle = between} one (PartThere two NoneThere)) is_target node
    types fewer stage rest =
    let same : source target ≡ type_of tree = source_is is_target types.1 in
    does_same _ (then_again (value context.later context.activation.around tree t) _ go)
    (at_value (source target) from between number one node types.0 (sym same) (omega (arith, fewer)) stage
    (λ found u now memory_now there small next.
    does_same _
    (then_again (stored context.later context.activation.around to found u) (λ _ v. Gave found v) go)
    (at_store (source target) between middle found target _ two is_target
    (subst (λ scalar. TypesHoldInTarget context.typed context.within scalar to) (sym same) types.1) small
    (omega (arith, fewer)) there next
    (λ v after memory_after wanted last.
    rest found v after memory_after wanted
    (subst (λ scalar. found < values_of scalar) same small) same last))))
  where
    source_is : {bound : ℕ} {target : Target} {to : TypedTarget} {scalar : ScalarType}
        → IsTarget (nodes_in context) context.storage bound target to
        → TypesHoldInTarget context.typed context.within scalar to
        → source target ≡ scalar
    source_is (IsStored reference) types = types.0
    source_is IsSent types = types.0
