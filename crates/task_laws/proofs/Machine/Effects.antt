-- The code for the effects of an expression.
use Rattle.task_laws.proofs.Prelude.{◌≡◌, ℕ, ◌+◌, ◌*◌, ◌≤◌, ◌&&◌, List, Option, refl, ap, arith, height_of_reference, height_of_subscript, TypedReference, Subscript, TypesHoldInReference, TypesHoldInSubscript, Displacement, based_place, displacement, displaced, located, no_displacement, value, home_of, SourceState, Outcome, Gave, Stopped, then_do, Registers, State, Reference, IndexNode, IsReference, IsPart, IsSubscript, IsAbsent, IsIndex, Found, Fails, IsQuiet, outcome_of, quiet_base, Facts, Arrives, Does, at_place, outside_does, does_without_step, reference_effects_steps, subscript_effects_steps, Context, nodes_in, NoneThere, PartThere, StepsStand, NothingIsGiven, PartDoes}
use Rattle.meaning.specs.Access.{Place}
use Rattle.treecode_laws.specs.internal.Evaluations.{Answer}
use Rattle.task_laws.proofs.Machine.Rules.{steps_split}
use Rattle.task_laws.proofs.Machine.Stages.{Stage, at_effects, does_same, loaded_in}

-- one part after two is two parts after one
pub then_again :
    {A B C : Type 0} (outcome : Outcome A) (first : A → SourceState → Outcome B)
    (second : B → SourceState → Outcome C)
    → then_do (then_do outcome first) second ≡ then_do outcome (λ found t. then_do (first found t) second)
then_again (Gave found t) first second = refl
then_again (Stopped why t) first second = refl

-- nothing is done where something is quiet
pub at_quiet :
    {A B : Type 0} {context : Context} {top pushed need : ℕ} {base : List ℕ} {t : SourceState} {facts : Facts}
    {r : Registers} {memory : List ℕ} {more : ℕ} {Good : B → SourceState → State → Type 0}
    (place : ℕ) (meant : SourceState → Outcome A) (go : A → SourceState → Outcome B)
    → IsQuiet meant
    → Stage context top pushed need base t facts r memory
    → ((found : A) → Does (loaded_in context) t.budget more
    (at_place place r memory t.events) (go found t) Good)
    → Does (loaded_in context) t.budget more (at_place place r memory t.events) (then_do (meant t) go) Good
at_quiet {A = A} {context = context} {t = t} {r = r} {memory = memory} {more = more} {Good = Good} place meant
    go quiet stage rest =
    answered (quiet.answer t.memory t.frame) (quiet.gives t)
  where
    answered : (answer : Answer A) → meant t ≡ outcome_of answer t
        → Does (loaded_in context) t.budget more (at_place place r memory t.events)
        (then_do (meant t) go) Good
    answered (Found found) is =
        does_same (go found t) (ap (λ (outcome : Outcome A). then_do outcome go) is) (rest found)
    answered (Fails reason) is = outside_does reason t (ap (λ (outcome : Outcome A). then_do outcome go) is)

-- the end of code without a value
pub ends_here :
    {A : Type 0} {context : Context} {top pushed need : ℕ} {base : List ℕ} {u : SourceState} {facts : Facts}
    {r now : Registers} {memory memory_now : List ℕ} (to : ℕ) (found : A)
    → Stage context top pushed need base u facts now memory_now
    → Does (loaded_in context) u.budget 0 (at_place to now memory_now u.events) (Gave found u)
    (Arrives context.activation top base to (NothingIsGiven context facts r memory))
ends_here {now = now} {memory_now = memory_now} to found stage =
    does_without_step (record {
      r = now;
      memory = memory_now;
      is_at = refl;
      ready = stage.ready;
      holds = record { known = stage.known };
    })

-- the value of a quiet evaluation is not used
pub quiet_ends :
    {A : Type 0} {context : Context} {top pushed need : ℕ} {base : List ℕ} {u : SourceState} {facts : Facts}
    {r now : Registers} {memory memory_now : List ℕ} (to : ℕ) (meant : SourceState → Outcome A)
    → IsQuiet meant
    → Stage context top pushed need base u facts now memory_now
    → Does (loaded_in context) u.budget 0 (at_place to now memory_now u.events) (meant u)
    (Arrives context.activation top base to (NothingIsGiven context facts r memory))
quiet_ends {A = A} {context = context} {top = top} {base = base} {u = u} {facts = facts} {r = r} {now = now}
    {memory = memory} {memory_now = memory_now} to meant quiet stage =
    answered (quiet.answer u.memory u.frame) (quiet.gives u)
  where
    answered : (answer : Answer A) → meant u ≡ outcome_of answer u
        → Does (loaded_in context) u.budget 0 (at_place to now memory_now u.events) (meant u)
        (Arrives context.activation top base to (NothingIsGiven context facts r memory))
    answered (Found found) is = does_same (Gave found u) is (ends_here to found stage)
    answered (Fails reason) is = outside_does reason u is

-- the effects of a subscript
pub at_subscript :
    {B : Type 0} {context : Context} {top pushed need : ℕ} {base : List ℕ} {t : SourceState}
    {facts found_facts : Facts}
    {r : Registers} {memory : List ℕ} {more bound : ℕ} {index : Option IndexNode} {subscript : Subscript}
    {go : Displacement → SourceState → Outcome B} {Good : B → SourceState → State → Type 0} (from middle : ℕ)
    → IsSubscript (nodes_in context) context.storage bound index subscript
    → TypesHoldInSubscript context.typed context.within subscript
    → StepsStand context (PartDoes context) facts from
    (subscript_effects_steps index pushed) found_facts middle
    → 2 * height_of_subscript subscript ≤ need
    → Stage context top pushed need base t facts r memory
    → ((found : Displacement) (u : SourceState) (now : Registers) (memory_now : List ℕ)
    → Stage context top pushed need base u found_facts now memory_now
    → Does (loaded_in context) u.budget more (at_place middle now memory_now u.events) (go found u) Good)
    → Does (loaded_in context) t.budget more (at_place from r memory t.events)
    (then_do (displacement context.later context.activation.around subscript t) go) Good
unfolding subscript_effects_steps
at_subscript {t = t} {r = r} {memory = memory} from middle IsAbsent types NoneThere fewer stage rest =
    rest no_displacement t r memory stage
at_subscript {context = context} {t = t} {go = go} from middle
    (IsIndex {stride = stride} {count = count} {number = number} {index = index} node) types
    (PartThere does NoneThere) fewer stage rest =
    does_same _
    (then_again (value context.later context.activation.around index t)
    (λ found u. Gave (displaced stride count found) u) go)
    (at_effects from middle number does node types.0 fewer stage
    (λ found u now memory_now is next. rest (displaced stride count found) u now memory_now next))

-- the effects of the subscripts of a part of an object
pub at_reference :
    {B : Type 0} {context : Context} {top pushed need : ℕ} {base : List ℕ} {t : SourceState}
    {facts found_facts : Facts}
    {r : Registers} {memory : List ℕ} {more bound : ℕ} {reference : Reference} {tree : TypedReference}
    {go : Place → SourceState → Outcome B} {Good : B → SourceState → State → Type 0} (from middle : ℕ)
    → IsReference (nodes_in context) context.storage bound reference tree
    → TypesHoldInReference context.typed context.within tree
    → StepsStand context (PartDoes context) facts from
    (reference_effects_steps reference pushed) found_facts middle
    → 2 * height_of_reference tree ≤ need
    → Stage context top pushed need base t facts r memory
    → ((found : Place) (u : SourceState) (now : Registers) (memory_now : List ℕ)
    → Stage context top pushed need base u found_facts now memory_now
    → Does (loaded_in context) u.budget more (at_place middle now memory_now u.events) (go found u) Good)
    → Does (loaded_in context) t.budget more (at_place from r memory t.events)
    (then_do (located context.later context.activation.around tree t) go) Good
unfolding reference_effects_steps
at_reference {context = context} {pushed = pushed} {t = t} {go = go} from middle
    (IsPart {object = object} {offset = offset} {first = first} {second = second} {subscript = subscript}
    {member_subscript = member_subscript} one two) types stand fewer stage rest =
    let around = context.activation.around in
    let parts =
    steps_split (subscript_effects_steps first pushed) (subscript_effects_steps second pushed) stand in
    does_same _ (then_again (displacement context.later around subscript t) _ go)
    (at_subscript from parts.middle one types.0 parts.first (omega (arith, fewer)) stage
    (λ before u now memory_now next.
    does_same _ (then_again (displacement context.later around member_subscript u) _ go)
    (at_subscript parts.middle middle two types.1 parts.second (omega (arith, fewer)) next
    (λ after v later_r memory_later last.
    at_quiet middle
    (λ s. based_place (home_of around object) around object (before.bytes + offset + after.bytes)
    (before.is_inside && after.is_inside) s)
    go
    (quiet_base (home_of around object) around object (before.bytes + offset + after.bytes)
    (before.is_inside && after.is_inside))
    last
    (λ place. rest place v later_r memory_later last)))))
