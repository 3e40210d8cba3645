-- Two ADDRESSes are compared.
use Rattle.task_laws.proofs.Prelude.{◌≡◌, ℕ, ◌+◌, ◌*◌, ◌<◌, ◌≤◌, ◌==◌, Bool, false, List, [], ◌∷◌, max, refl, ◌∙◌, ScalarType, height_of, TypedExpression, TypesHold, SourceState, Outcome, Gave, Stopped, then_do, Or, Subtract, SubtractWithBorrow, A, B, D, E, H, L, Registers, State, ExpressionNumber, IsExpression, Facts, copy, with_register, Does, at_place, evaluated_in_order, Question, LeftBelow, RightBelow, Equal, PairOrder, LeftInHl, RightInHl, pair_order, pair_steps, Purpose, Branch, Value, Setting, answer_to, other_word, taken_steps, with_pair_steps, word_taken_from, knowing, Context, IsSound, nodes_in, StepsStand, PartDoes}
use Rattle.task_laws.proofs.Relations.Answers.{AnswerShows, ZeroShows, question_truth, same_turned}
use Rattle.task_laws.proofs.Bytes.BytesAsked.{BytesAsked, PairIsGiven, PairLies, pair_of_values}
use Rattle.task_laws.proofs.Relations.ByteComparisons.{asking}
use Rattle.task_laws.proofs.Machine.Rules.{steps_split}
use Rattle.task_laws.proofs.Machine.SiteNodes.{value_in}
use Rattle.task_laws.proofs.Machine.Stages.{Stage, at_carried, at_end, at_instructions, does_same, loaded_in}
use Rattle.task_laws.proofs.Relations.WordFlags.{word_below, word_equal}

-- both values, and then the rest
pub pair_then :
    {C : Type 0} (context : Context) (first second : TypedExpression) (go : ℕ → ℕ → SourceState → Outcome C)
    (t : SourceState)
    → evaluated_in_order (value_in context first) (value_in context second) go t
    ≡ then_do (pair_of_values context first second t) (λ (p : ℕ × ℕ) u. go p.0 p.1 u)
pair_then {C = C} context first second go t = by (value_in context first t)
  where
    inner : (v : ℕ) (outcome : Outcome ℕ)
        → ◌≡◌ {A = Outcome C} (then_do outcome (λ w u. go v w u))
        (then_do (then_do outcome (λ w u. Gave (v, w) u)) (λ (p : ℕ × ℕ) u. go p.0 p.1 u))
    inner v (Gave w u) = refl
    inner v (Stopped why u) = refl

    by : (outcome : Outcome ℕ)
        → ◌≡◌ {A = Outcome C} (then_do outcome (λ v s. then_do (value_in context second s) (λ w u. go v w u)))
        (then_do (then_do outcome (λ v s. then_do (value_in context second s) (λ w u. Gave (v, w) u)))
        (λ (p : ℕ × ℕ) u. go p.0 p.1 u))
    by (Gave v s) = inner v (value_in context second s)
    by (Stopped why s) = refl

pub zero_for :
    (purpose : Purpose) (answer : Bool) (r : Registers)
    → r.flags.z ≡ answer
    → (r.a == 0) ≡ answer
    → ZeroShows purpose answer r
zero_for Branch answer r flag value = flag
zero_for Value answer r flag value = value

pair_is_less :
    {A : Type 0} {context : Context} {top pushed need : ℕ} {base : List ℕ} {t : SourceState}
    {facts last : Facts}
    {r : Registers} {memory : List ℕ} {from to budget more : ℕ} {outcome : Outcome A}
    {Good : A → SourceState → State → Type 0} (v w : ℕ) (order : PairOrder)
    (question : Question) (purpose : Purpose)
    → IsSound context
    → v < 65536
    → w < 65536
    → PairLies order v w r
    → StepsStand context (PartDoes context) facts from
    (taken_steps (word_taken_from question order) (other_word (word_taken_from question order)) question) last
    to
    → Stage context top pushed need base t facts r memory
    → ((now : Registers) → AnswerShows purpose (answer_to question) (question_truth question v w) now
    → Stage context top pushed need base t last now memory
    → Does (loaded_in context) budget more (at_place to now memory t.events) outcome Good)
    → Does (loaded_in context) budget more (at_place from r memory t.events) outcome Good
pair_is_less {r = r} v w LeftInHl LeftBelow purpose sound small other_small lies stand stage rest =
    at_instructions (copy A L ∷ with_register Subtract E ∷ copy A H ∷ with_register SubtractWithBorrow D ∷ [])
    [] sound
    (tt, (tt, (tt, (tt, tt)))) stand stage
    (λ middle found ends next. at_end ends next
    (λ final. rest _ (word_below v w r.h r.l r.d r.e lies.0 lies.1 lies.2 lies.3 other_small) final))
pair_is_less {r = r} v w RightInHl LeftBelow purpose sound small other_small lies stand stage rest =
    at_instructions (copy A E ∷ with_register Subtract L ∷ copy A D ∷ with_register SubtractWithBorrow H ∷ [])
    [] sound
    (tt, (tt, (tt, (tt, tt)))) stand stage
    (λ middle found ends next. at_end ends next
    (λ final. rest _ (word_below v w r.d r.e r.h r.l lies.2 lies.3 lies.0 lies.1 other_small) final))
pair_is_less {r = r} v w LeftInHl RightBelow purpose sound small other_small lies stand stage rest =
    at_instructions (copy A E ∷ with_register Subtract L ∷ copy A D ∷ with_register SubtractWithBorrow H ∷ [])
    [] sound
    (tt, (tt, (tt, (tt, tt)))) stand stage
    (λ middle found ends next. at_end ends next
    (λ final. rest _ (word_below w v r.d r.e r.h r.l lies.2 lies.3 lies.0 lies.1 small) final))
pair_is_less {r = r} v w RightInHl RightBelow purpose sound small other_small lies stand stage rest =
    at_instructions (copy A L ∷ with_register Subtract E ∷ copy A H ∷ with_register SubtractWithBorrow D ∷ [])
    [] sound
    (tt, (tt, (tt, (tt, tt)))) stand stage
    (λ middle found ends next. at_end ends next
    (λ final. rest _ (word_below w v r.h r.l r.d r.e lies.0 lies.1 lies.2 lies.3 small) final))
pair_is_less {r = r} v w LeftInHl Equal purpose sound small other_small lies stand stage rest =
    at_instructions
    (copy A E ∷ with_register Subtract L ∷ copy B A ∷ copy A D ∷ with_register SubtractWithBorrow H
    ∷ with_register Or B ∷ [])
    [] sound (tt, (tt, (tt, (tt, (tt, (tt, tt)))))) stand stage
    (λ middle found ends next. at_end ends next
    (λ final.
    let shows = word_equal v w r.h r.l r.d r.e lies.0 lies.1 lies.2 lies.3 small other_small in
    rest _ (zero_for purpose (v == w) _ shows shows) final))
pair_is_less {r = r} v w RightInHl Equal purpose sound small other_small lies stand stage rest =
    at_instructions
    (copy A E ∷ with_register Subtract L ∷ copy B A ∷ copy A D ∷ with_register SubtractWithBorrow H
    ∷ with_register Or B ∷ [])
    [] sound (tt, (tt, (tt, (tt, (tt, (tt, tt)))))) stand stage
    (λ middle found ends next. at_end ends next
    (λ final.
    let shows =
    word_equal w v r.h r.l r.d r.e lies.0 lies.1 lies.2 lies.3 other_small small ∙ same_turned v w in
    rest _ (zero_for purpose (v == w) _ shows shows) final))

-- the rest of the code after two values were compared
abbrev pub GoesOnBoth :
    {C : Type 0} → Context → Question → Purpose → (top pushed need : ℕ) → (base : List ℕ)
    → Facts → (place more : ℕ)
    → (go : ℕ → ℕ → SourceState → Outcome C) → (Good : C → SourceState → State → Type 0) → Type 0
GoesOnBoth context question purpose top pushed need base last place more go Good =
    (v w : ℕ) (u : SourceState) (now : Registers) (memory : List ℕ)
    → v < 65536
    → w < 65536
    → AnswerShows purpose (answer_to question) (question_truth question v w) now
    → Stage context top pushed need base u last now memory
    → Does (loaded_in context) u.budget more (at_place place now memory u.events) (go v w u) Good

-- one in HL and the other in DE
pub pair_compared :
    {C : Type 0} {context : Context} {top need : ℕ} {base : List ℕ} {t : SourceState} {facts last : Facts}
    {r : Registers} {memory : List ℕ} {from to more bound : ℕ}
    {first second : TypedExpression}
    {Good : C → SourceState → State → Type 0} (operands : ScalarType)
    (left right : ExpressionNumber) (question : Question) (setting : Setting)
    (go : ℕ → ℕ → SourceState → Outcome C)
    → BytesAsked context
    → IsSound context
    → IsExpression (nodes_in context) context.storage bound left.index first
    → TypesHold context.typed context.within first
    → IsExpression (nodes_in context) context.storage bound right.index second
    → TypesHold context.typed context.within second
    → 2 + 2 * max (height_of first) (height_of second) ≤ need
    → StepsStand context (PartDoes context) facts from
    (with_pair_steps (knowing context.site facts) (asking operands left right question) setting.pushed) last
    to
    → Stage context top setting.pushed need base t facts r memory
    → GoesOnBoth context question setting.purpose top setting.pushed need base last to more go Good
    → Does (loaded_in context) t.budget more (at_place from r memory t.events)
    (evaluated_in_order (value_in context first) (value_in context second) go t) Good
pair_compared {context = context} {t = t} {facts = facts} {bound = bound} {first = first} {second = second}
    operands left right question setting go asked sound one types two other_types fewer stand stage rest =
    let site = knowing context.site facts in
    let order = pair_order site left right false in
    let parts = steps_split (pair_steps site left right false setting.pushed)
    (taken_steps (word_taken_from question order) (other_word (word_taken_from question order)) question)
    stand in
    does_same _ (pair_then context first second go t)
    (at_carried _ _ _
    (asked.pairs facts parts.found left right false setting.pushed _ parts.middle bound first
    second one types two
    other_types parts.first) fewer tt
    (λ p now memory_now (given : PairIsGiven context parts.found order _ _ p now memory_now). given.known)
    stage
    (λ p u now memory_now is given next.
    pair_is_less p.0 p.1 order question setting.purpose sound given.small given.other_small
    given.lies parts.second next
    (λ end shows final. rest p.0 p.1 u end memory_now given.small given.other_small shows final)))
