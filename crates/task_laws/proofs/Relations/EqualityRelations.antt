-- Relations that test whether two ADDRESSes are equal, as jumps.
use Rattle.task_laws.proofs.Prelude.{◌≡◌, ℕ, ◌+◌, ◌*◌, ◌<◌, ◌≤◌, ◌==◌, false, List, [], ◌∷◌, ◌++◌, Option, Some, None, max, refl, arith, height_of, type_of, TypedExpression, TypesHold, SourceState, Outcome, Registers, State, ExpressionNumber, IsExpression, Facts, Step, Does, at_place, in_order, Equal, PairOrder, LeftInHl, RightInHl, pair_order, pair_steps, Apart, Words, PlaceAndHl, DeAndHl, operand_apart, words_of, words_steps, knowing, Context, IsSound, nodes_in, StepsStand, PartThere, PartDoes, value_is_word}
use Rattle.trees.specs.declared.declaration.ScalarType.TheVariants as scalars
use Rattle.task_laws.proofs.Relations.Answers.{same_turned}
use Rattle.task_laws.proofs.Bytes.BytesAsked.{BytesAsked, PairIsGiven, PairLies}
use Rattle.task_laws.proofs.Relations.ByteComparisons.{asking}
use Rattle.task_laws.proofs.Relations.EqualityJumps.{HasWords, InMemory, InRegisters}
use Rattle.task_laws.proofs.Relations.PlaceComparisons.{IsApart, LeftStays, RightStays, is_apart, read_then}
use Rattle.task_laws.proofs.Machine.Rules.{steps_split}
use Rattle.task_laws.proofs.Machine.SiteNodes.{does_exchanged, value_in}
use Rattle.task_laws.proofs.Machine.Stages.{Stage, at_carried, at_word, does_same, loaded_in}
use Rattle.task_laws.proofs.Relations.WordComparisons.{pair_then}

-- the rest of the code once both words are in place
abbrev pub GoesOnWords :
    {C : Type 0} → Context → Words → (top pushed need : ℕ) → (base : List ℕ) → (others : List Step) → Facts
    → (to more : ℕ) → (go : ℕ → ℕ → SourceState → Outcome C)
    → (Good : C → SourceState → State → Type 0) → Type 0
GoesOnWords context words top pushed need base others last to more go Good =
    (v w x y : ℕ) (u : SourceState) (now : Registers) (memory : List ℕ) (found : Facts) (middle : ℕ)
    → StepsStand context (PartDoes context) found middle others last to
    → HasWords context x y now memory words
    → y < 65536
    → (x == y) ≡ (v == w)
    → Stage context top pushed need base u found now memory
    → Does (loaded_in context) u.budget more (at_place middle now memory u.events) (go v w u) Good

pub words_come :
    {C : Type 0} {context : Context} {top pushed need : ℕ} {base : List ℕ} {t : SourceState}
    {facts last : Facts}
    {r : Registers} {memory : List ℕ} {from to more bound : ℕ}
    {first second : TypedExpression}
    {Good : C → SourceState → State → Type 0}
    (left right : ExpressionNumber) (others : List Step)
    (go : ℕ → ℕ → SourceState → Outcome C)
    → BytesAsked context
    → IsSound context
    → IsExpression (nodes_in context) context.storage bound left.index first
    → TypesHold context.typed context.within first
    → IsExpression (nodes_in context) context.storage bound right.index second
    → TypesHold context.typed context.within second
    → 2 + 2 * max (height_of first) (height_of second) ≤ need
    → StepsStand context (PartDoes context) facts from
    (words_steps (knowing context.site facts) (asking scalars.Address left right Equal) pushed ++ others) last
    to
    → Stage context top pushed need base t facts r memory
    → GoesOnWords context (words_of (knowing context.site facts) (asking scalars.Address left right Equal))
    top pushed need
    base others last to more go Good
    → Does (loaded_in context) t.budget more (at_place from r memory t.events)
    (in_order (value_in context first) (value_in context second) go t) Good
words_come {C = C} {context = context} {top = top} {pushed = pushed} {need = need} {base = base} {t = t}
    {facts = facts} {last = last} {r = r} {memory = memory} {from = from} {to = to} {more = more}
    {bound = bound} {first = first} {second = second} {Good = Good} left right others go asked sound one types
    two other_types fewer stand stage rest =
    by (operand_apart (knowing context.site facts) (asking scalars.Address left right Equal)) refl stand rest
  where
    apart_comes :
        (apart : Apart)
        → IsApart (knowing context.site facts) left right Equal apart
        → StepsStand context (PartDoes context) facts from
        (Rattle.steps8080.specs.internal.Step.part (Rattle.steps8080.specs.declared.step.Task.TheVariants.Word
        apart.other) pushed ∷ others) last to
        → GoesOnWords context (PlaceAndHl apart.place) top pushed need base others last to more go Good
        → Does (loaded_in context) t.budget more (at_place from r memory t.events)
        (in_order (value_in context first) (value_in context second) go t) Good
    apart_comes apart (LeftStays {place = place} asks may lies) (PartThere does stand) rest =
        does_exchanged facts go t sound one two types may
        (at_word _ _ _ does two other_types (omega (arith, fewer)) stage
        (λ w u now memory_now is given next.
        read_then (value_in context first u) (λ v s. go v w s)
        (asked.places facts left place bound top first base u now memory_now one types lies next.ready)
        (λ read.
        rest read.found w read.found w u now memory_now _ _ stand
        (InMemory given.h given.l read.high read.low read.high_steady read.low_steady)
        (value_is_word (type_of second) w given.small) refl next)))
    apart_comes apart (RightStays {place = place} asks lies) (PartThere does stand) rest =
        at_word _ _ _ does one types (omega (arith, fewer)) stage
        (λ v u now memory_now is given next.
        read_then (value_in context second u) (λ w s. go v w s)
        (asked.places facts right place bound top second base u now memory_now two
        other_types lies next.ready)
        (λ read.
        rest v read.found read.found v u now memory_now _ _ stand
        (InMemory given.h given.l read.high read.low read.high_steady read.low_steady)
        (value_is_word (type_of first) v given.small) (same_turned v read.found) next))

    in_pair :
        (order : PairOrder) (v w : ℕ) (u : SourceState) (now : Registers) (memory_now : List ℕ)
        (found : Facts) (middle : ℕ)
        → PairLies order v w now
        → v < 65536
        → w < 65536
        → StepsStand context (PartDoes context) found middle others last to
        → Stage context top pushed need base u found now memory_now
        → GoesOnWords context DeAndHl top pushed need base others last to more go Good
        → Does (loaded_in context) u.budget more (at_place middle now memory_now u.events) (go v w u) Good
    in_pair LeftInHl v w u now memory_now found middle lies small other_small stand next rest =
        rest v w w v u now memory_now found middle stand (InRegisters lies.0 lies.1 lies.2 lies.3) small
        (same_turned v w) next
    in_pair RightInHl v w u now memory_now found middle lies small other_small stand next rest =
        rest v w v w u now memory_now found middle stand (InRegisters lies.0 lies.1 lies.2 lies.3)
        other_small refl next

    by : (found : Option Apart)
        → operand_apart (knowing context.site facts) (asking scalars.Address left right Equal) ≡ found
        → StepsStand context (PartDoes context) facts from
        (elim found [
          | Some apart ↦ Rattle.steps8080.specs.internal.Step.part
              (Rattle.steps8080.specs.declared.step.Task.TheVariants.Word apart.other) pushed ∷ []
          | None ↦ pair_steps (knowing context.site facts) left right false pushed
        ] ++ others) last to
        → GoesOnWords context (elim found [ Some apart ↦ PlaceAndHl apart.place | None ↦ DeAndHl ])
        top pushed need base
        others last to more go Good
        → Does (loaded_in context) t.budget more (at_place from r memory t.events)
        (in_order (value_in context first) (value_in context second) go t) Good
    by (Some apart) is stand rest =
        apart_comes apart (is_apart (knowing context.site facts) scalars.Address left right Equal apart is)
        stand rest
    by None is stand rest =
        let parts =
        steps_split (pair_steps (knowing context.site facts) left right false pushed) others stand in
        does_same _ (pair_then context first second go t)
        (at_carried _ _ _
        (asked.pairs facts parts.found left right false pushed from parts.middle bound first
        second one types two
        other_types parts.first) fewer tt
        (λ p now memory_now (given : PairIsGiven context parts.found (pair_order (knowing context.site facts) left right false) r memory p now memory_now). given.known) stage
        (λ p u now memory_now same given next.
        in_pair (pair_order (knowing context.site facts) left right false) p.0 p.1 u now memory_now
        parts.found parts.middle
        given.lies given.small given.other_small parts.second next rest))
