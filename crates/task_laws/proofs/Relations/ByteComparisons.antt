-- Two BYTEs are compared, in each form.
use Rattle.task_laws.proofs.Prelude.{◌≡◌, ℕ, ◌+◌, ◌*◌, ◌<◌, ◌≤◌, ◌==◌, Bool, true, false, ◌&&◌, List, Option, Some, None, refl, sym, ◌∙◌, subst, arith, if◌then◌else◌, and_parts, ScalarType, height_of, TypedExpression, TypesHold, SourceState, Outcome, Operation, Compare, Subtract, Registers, State, ExpressionNumber, Reference, IsExpression, Facts, Step, Does, at_place, evaluated_in_order, Comparison, Question, LeftBelow, RightBelow, Equal, Site, is_free, may_exchange, operand_in_memory, Zero, Purpose, Branch, Value, Setting, Form, WithMemory, WithE, answer_to, better_form, byte_relation_steps, comparing, form_or_push, memory_form, pushed_steps, register_form, without_push, knowing, Context, IsSound, nodes_in, StepsStand, PartDoes}
use Rattle.operands8080.specs.{declared.byte_relations.Form.TheVariants.{Pushed}, internal.ByteRelations.{exchanged, form_of, in_order, with_e_steps, with_memory_steps}}
use Rattle.task_laws.proofs.Relations.Answers.{AnswerShows, compared_below, compared_equal, question_truth, same_turned, subtracted_equal}
use Rattle.task_laws.proofs.Bytes.BytesAsked.{BytesAsked}
use Rattle.task_laws.proofs.Bytes.ByteOperations.{IsOperated, IsValueOf, operand_at, operated_with_e, operated_with_first_in_b, operated_with_memory, operated_with_second_in_b}
use Rattle.task_laws.proofs.Machine.SiteNodes.{does_exchanged, free_is, value_in}
use Rattle.task_laws.proofs.Machine.Stages.{Stage, loaded_in}

-- whether the left operand may be in A, and the right one
abbrev asks_left : Question → Bool
asks_left LeftBelow = true
asks_left RightBelow = false
asks_left Equal = true

abbrev asks_right : Question → Bool
asks_right LeftBelow = false
asks_right RightBelow = true
asks_right Equal = true

-- the forms in which the code may compare
data IsFormOf (site : Site) (comparison : Comparison) : Question → Form → Type 0 where
  LeftWithMemory : {question : Question} {reference : Reference} → asks_left question ≡ true
      → operand_in_memory site comparison.right ≡ Some reference
      → IsFormOf site comparison question (WithMemory (in_order comparison) reference)
  RightWithMemory : {question : Question} {reference : Reference} → asks_right question ≡ true
      → operand_in_memory site comparison.left ≡ Some reference
      → may_exchange site comparison.left comparison.right ≡ true
      → IsFormOf site comparison question (WithMemory (exchanged comparison) reference)
  LeftWithE : {question : Question} → asks_left question ≡ true
      → is_free site comparison.left ≡ true
      → may_exchange site comparison.left comparison.right ≡ true
      → IsFormOf site comparison question (WithE (in_order comparison))
  RightWithE : {question : Question} → asks_right question ≡ true
      → is_free site comparison.right ≡ true
      → IsFormOf site comparison question (WithE (exchanged comparison))
  WithPush : {question : Question} → IsFormOf site comparison question Pushed

abbrev Fits : Site → Comparison → Question → Option Form → Type 0
Fits site comparison question None = Unit {0}
Fits site comparison question (Some form) = IsFormOf site comparison question form

left_in_memory :
    (site : Site) (comparison : Comparison) (question : Question) → asks_left question ≡ true
    → Fits site comparison question (memory_form site comparison (in_order comparison))
left_in_memory site comparison question asks = by (operand_in_memory site comparison.right) refl
  where
    by : (found : Option Reference) → operand_in_memory site comparison.right ≡ found
        → Fits site comparison question
        (elim found [ Some reference ↦ Some (WithMemory (in_order comparison) reference) | None ↦ None ])
    by None is = tt
    by (Some reference) is = LeftWithMemory asks is

right_in_memory :
    (site : Site) (comparison : Comparison) (question : Question) → asks_right question ≡ true
    → Fits site comparison question (memory_form site comparison (exchanged comparison))
right_in_memory site comparison question asks =
    by (operand_in_memory site comparison.left) refl (may_exchange site comparison.left comparison.right) refl
  where
    by : (found : Option Reference) → operand_in_memory site comparison.left ≡ found
        → (may : Bool) → may_exchange site comparison.left comparison.right ≡ may
        → Fits site comparison question
        (elim found [
          | Some reference ↦ if may then Some (WithMemory (exchanged comparison) reference) else None
          | None ↦ None
        ])
    by None is may same = tt
    by (Some reference) is true same = RightWithMemory asks is same
    by (Some reference) is false same = tt

left_by_register :
    (site : Site) (comparison : Comparison) (question : Question) → asks_left question ≡ true
    → Fits site comparison question (register_form site comparison (in_order comparison))
left_by_register site comparison question asks =
    by (is_free site comparison.left && may_exchange site comparison.left comparison.right) refl
  where
    by : (both : Bool)
        → (is_free site comparison.left && may_exchange site comparison.left comparison.right) ≡ both
        → Fits site comparison question (if both then Some (WithE (in_order comparison)) else None)
    by false is = tt
    by true is =
        let parts =
        and_parts (is_free site comparison.left)
        (may_exchange site comparison.left comparison.right) is in
        LeftWithE asks parts.0 parts.1

right_by_register :
    (site : Site) (comparison : Comparison) (question : Question) → asks_right question ≡ true
    → Fits site comparison question (register_form site comparison (exchanged comparison))
right_by_register site comparison question asks =
    by (is_free site comparison.right && true) refl
  where
    by : (both : Bool) → (is_free site comparison.right && true) ≡ both
        → Fits site comparison question (if both then Some (WithE (exchanged comparison)) else None)
    by false is = tt
    by true is = RightWithE asks (and_parts (is_free site comparison.right) true is).0

chosen_fits :
    (site : Site) (comparison : Comparison) (question : Question) (test : Bool)
    (register memory : Option Form)
    → Fits site comparison question register
    → Fits site comparison question memory
    → Fits site comparison question
    (if test then register else elim memory [ Some form ↦ Some form | None ↦ register ])
chosen_fits site comparison question true register memory one two = one
chosen_fits site comparison question false register (Some form) one two = two
chosen_fits site comparison question false register None one two = one

left_fits :
    (site : Site) (comparison : Comparison) (question : Question) → asks_left question ≡ true
    → Fits site comparison question (without_push site comparison (in_order comparison))
unfolding without_push
left_fits site comparison question asks =
    chosen_fits site comparison question _ (register_form site comparison (in_order comparison))
    (memory_form site comparison (in_order comparison)) (left_by_register site comparison question asks)
    (left_in_memory site comparison question asks)

right_fits :
    (site : Site) (comparison : Comparison) (question : Question) → asks_right question ≡ true
    → Fits site comparison question (without_push site comparison (exchanged comparison))
unfolding without_push
right_fits site comparison question asks =
    chosen_fits site comparison question _ (register_form site comparison (exchanged comparison))
    (memory_form site comparison (exchanged comparison)) (right_by_register site comparison question asks)
    (right_in_memory site comparison question asks)

push_fits :
    (site : Site) (comparison : Comparison) (question : Question) (form : Option Form)
    → Fits site comparison question form
    → IsFormOf site comparison question (form_or_push form)
push_fits site comparison question (Some form) fits = fits
push_fits site comparison question None fits = WithPush

better_fits :
    (site : Site) (comparison : Comparison) (question : Question) (one other : Option Form) (is_better : Bool)
    → Fits site comparison question one
    → Fits site comparison question other
    → IsFormOf site comparison question (better_form one other is_better)
better_fits site comparison question None None is_better first second = WithPush
better_fits site comparison question None (Some form) is_better first second = second
better_fits site comparison question (Some form) (Some other) true first second = second
better_fits site comparison question (Some (WithMemory sides reference)) None true first second = first
better_fits site comparison question (Some (WithE sides)) None true first second = first
better_fits site comparison question (Some Pushed) None true first second = first
better_fits site comparison question (Some (WithMemory sides reference)) (Some other) false first second =
    first
better_fits site comparison question (Some (WithMemory sides reference)) None false first second = first
better_fits site comparison question (Some (WithE sides)) (Some (WithMemory others reference)) false
    first second = second
better_fits site comparison question (Some (WithE sides)) (Some (WithE others)) false first second = first
better_fits site comparison question (Some (WithE sides)) (Some Pushed) false first second = first
better_fits site comparison question (Some (WithE sides)) None false first second = first
better_fits site comparison question (Some Pushed) (Some other) false first second = first
better_fits site comparison question (Some Pushed) None false first second = first

form_fits : (site : Site) (comparison : Comparison)
    → IsFormOf site comparison comparison.question (form_of site comparison)
unfolding form_of
form_fits site comparison = by comparison.question
  where
    by : (question : Question)
        → IsFormOf site comparison question
        (elim question [
          | LeftBelow ↦ form_or_push (without_push site comparison (in_order comparison))
          | RightBelow ↦ form_or_push (without_push site comparison (exchanged comparison))
          | Equal ↦ Rattle.operands8080.specs.internal.ByteRelations.form_of_equality site comparison
        ])
    by LeftBelow = push_fits site comparison LeftBelow _ (left_fits site comparison LeftBelow refl)
    by RightBelow = push_fits site comparison RightBelow _ (right_fits site comparison RightBelow refl)
    by Equal =
        better_fits site comparison Equal _ _ _ (left_fits site comparison Equal refl)
        (right_fits site comparison Equal refl)

-- the flags after an operation with the left operand in A
shows_with_left :
    (question : Question) (setting : Setting) (v w : ℕ) (now : Registers)
    → asks_left question ≡ true
    → v < 256
    → w < 256
    → IsOperated (comparing question setting) v w now
    → AnswerShows setting.purpose (answer_to question) (question_truth question v w) now
shows_with_left LeftBelow setting v w now asks one two is = compared_below v w now one two is
shows_with_left RightBelow setting v w now asks one two is =
    absurd (Rattle.std.proofs.lemmas.Bool.false≢true asks)
shows_with_left Equal setting v w now asks one two is = by setting.purpose is
  where
    by : (purpose : Purpose)
        → IsOperated (elim purpose [ Branch ↦ Compare | Value ↦ Subtract ]) v w now
        → AnswerShows purpose Zero (v == w) now
    by Branch made = compared_equal v w now one two made
    by Value made = subtracted_equal v w now one two made

-- and with the right one
shows_with_right :
    (question : Question) (setting : Setting) (v w : ℕ) (now : Registers)
    → asks_right question ≡ true
    → v < 256
    → w < 256
    → IsOperated (comparing question setting) w v now
    → AnswerShows setting.purpose (answer_to question) (question_truth question v w) now
shows_with_right LeftBelow setting v w now asks one two is =
    absurd (Rattle.std.proofs.lemmas.Bool.false≢true asks)
shows_with_right RightBelow setting v w now asks one two is = compared_below w v now two one is
shows_with_right Equal setting v w now asks one two is = by setting.purpose is
  where
    by : (purpose : Purpose)
        → IsOperated (elim purpose [ Branch ↦ Compare | Value ↦ Subtract ]) w v now
        → AnswerShows purpose Zero (v == w) now
    by Branch made = compared_equal w v now two one made ∙ same_turned v w
    by Value made = subtracted_equal w v now two one made ∙ same_turned v w

-- the rest of the code after two values were compared
abbrev pub GoesOnCompared :
    {C : Type 0} → Context → (first second : TypedExpression) → (left right : ExpressionNumber) → Question
    → Setting → (top pushed need : ℕ)
    → (base : List ℕ) → Facts → (place more : ℕ) → (go : ℕ → ℕ → SourceState → Outcome C)
    → (Good : C → SourceState → State → Type 0) → Type 0
GoesOnCompared context first second left right question setting top pushed need base last place more go Good =
    (v w : ℕ) (u : SourceState) (now : Registers) (memory : List ℕ)
    → IsValueOf context first left v
    → IsValueOf context second right w
    → (v < 256 → w < 256 → AnswerShows setting.purpose (answer_to question) (question_truth question v w) now)
    → Stage context top pushed need base u last now memory
    → Does (loaded_in context) u.budget more (at_place place now memory u.events) (go v w u) Good

-- the steps of a form
abbrev steps_of_form : Comparison → Setting → (operation : Operation) → Form → List Step
steps_of_form comparison setting operation (WithMemory sides reference) =
    with_memory_steps sides reference operation setting.pushed
steps_of_form comparison setting operation (WithE sides) = with_e_steps sides operation setting.pushed
steps_of_form comparison setting operation Pushed = pushed_steps comparison operation setting.pushed

-- a question about two operands
abbrev pub asking : ScalarType → (left right : ExpressionNumber) → Question → Comparison
asking operands left right question =
    record { operands = operands; left = left; right = right; question = question }

compared_in_form :
    {C : Type 0} {context : Context} {top need : ℕ} {base : List ℕ} {t : SourceState} {facts last : Facts}
    {r : Registers} {memory : List ℕ} {from to more bound other_bound : ℕ}
    {first second : TypedExpression} {form : Form}
    {Good : C → SourceState → State → Type 0} (known_there : Facts) (operands : ScalarType)
    (left right : ExpressionNumber) (question : Question) (setting : Setting)
    (go : ℕ → ℕ → SourceState → Outcome C)
    → IsFormOf (knowing context.site known_there) (asking operands left right question) question form
    → BytesAsked context
    → IsSound context
    → IsExpression (nodes_in context) context.storage bound left.index first
    → TypesHold context.typed context.within first
    → IsExpression (nodes_in context) context.storage other_bound right.index second
    → TypesHold context.typed context.within second
    → 2 + 2 * height_of first ≤ need
    → 2 + 2 * height_of second ≤ need
    → StepsStand context (PartDoes context) facts from
    (steps_of_form (asking operands left right question) setting (comparing question setting) form) last to
    → Stage context top setting.pushed need base t facts r memory
    → GoesOnCompared context first second left right question setting top setting.pushed need base
    last to more go Good
    → Does (loaded_in context) t.budget more (at_place from r memory t.events)
    (evaluated_in_order (value_in context first) (value_in context second) go t) Good
compared_in_form {context = context} {t = t} {first = first} {second = second} known_there operands left right
    question setting go (LeftWithMemory {reference = reference} asks there) asked sound one types two
    other_types fewer less stand stage rest =
    operated_with_memory known_there go asked sound one types two other_types
    (operand_at known_there right reference there) stand (omega (arith, fewer)) (omega (arith, less)) stage
    (λ v w u now memory_now small other_small is next.
    rest v w u now memory_now small other_small
    (λ byte other_byte. shows_with_left question setting v w now asks byte other_byte is) next)
compared_in_form {context = context} {t = t} {first = first} {second = second} known_there operands left right
    question setting go (RightWithMemory {reference = reference} asks there may) asked sound one types two
    other_types fewer less stand stage rest =
    does_exchanged known_there go t sound one two types may
    (operated_with_memory known_there (λ w v u. go v w u) asked sound two other_types one types
    (operand_at known_there left reference there) stand (omega (arith, less)) (omega (arith, fewer)) stage
    (λ w v u now memory_now other_small small is next.
    rest v w u now memory_now small other_small
    (λ byte other_byte. shows_with_right question setting v w now asks byte other_byte is) next))
compared_in_form {context = context} {t = t} {first = first} {second = second} known_there operands left right
    question setting go (LeftWithE asks free may) asked sound one types two other_types fewer
    less stand stage rest =
    does_exchanged known_there go t sound one two types may
    (operated_with_e go asked sound one types two other_types
    (free_is context.site left ∙ sym (free_is (knowing context.site known_there) left) ∙ free)
    stand (omega (arith, fewer)) (omega (arith, less)) stage
    (λ v w u now memory_now small other_small is next.
    rest v w u now memory_now small other_small
    (λ byte other_byte. shows_with_left question setting v w now asks byte other_byte is) next))
compared_in_form {context = context} {t = t} {first = first} {second = second} known_there operands left right
    question setting go (RightWithE asks free) asked sound one types two other_types fewer
    less stand stage rest =
    operated_with_e (λ w v u. go v w u) asked sound two other_types one types
    (free_is context.site right ∙ sym (free_is (knowing context.site known_there) right) ∙ free)
    stand (omega (arith, less)) (omega (arith, fewer)) stage
    (λ w v u now memory_now other_small small is next.
    rest v w u now memory_now small other_small
    (λ byte other_byte. shows_with_right question setting v w now asks byte other_byte is) next)
compared_in_form {context = context} {t = t} {first = first} {second = second} known_there operands left right
    LeftBelow setting go WithPush asked sound one types two other_types fewer less stand stage rest =
    operated_with_second_in_b go asked sound one types two other_types stand (omega (arith, fewer)) less stage
    (λ v w u now memory_now small other_small is next.
    rest v w u now memory_now small other_small
    (λ byte other_byte. shows_with_left LeftBelow setting v w now refl byte other_byte is) next)
compared_in_form {context = context} {t = t} {first = first} {second = second} known_there operands left right
    RightBelow setting go WithPush asked sound one types two other_types fewer less stand stage rest =
    operated_with_first_in_b go asked sound one types two other_types stand (omega (arith, fewer)) less stage
    (λ w v u now memory_now other_small small is next.
    rest v w u now memory_now small other_small
    (λ byte other_byte. shows_with_right RightBelow setting v w now refl byte other_byte is) next)
compared_in_form {context = context} {t = t} {first = first} {second = second} known_there operands left right
    Equal setting go WithPush asked sound one types two other_types fewer less stand stage rest =
    operated_with_first_in_b go asked sound one types two other_types stand (omega (arith, fewer)) less stage
    (λ w v u now memory_now other_small small is next.
    rest v w u now memory_now small other_small
    (λ byte other_byte. shows_with_right Equal setting v w now refl byte other_byte is) next)

-- the steps that compare two BYTEs are those of the form
steps_are :
    (comparison : Comparison) (setting : Setting) (operation : Operation) (form : Form)
    → elim form [
      | WithMemory sides reference ↦ with_memory_steps sides reference operation setting.pushed
      | WithE sides ↦ with_e_steps sides operation setting.pushed
      | Pushed ↦ pushed_steps comparison operation setting.pushed
    ]
    ≡ steps_of_form comparison setting operation form
steps_are comparison setting operation (WithMemory sides reference) = refl
steps_are comparison setting operation (WithE sides) = refl
steps_are comparison setting operation Pushed = refl

-- the answer to a question about two BYTEs, or about two ADDRESSes that are below 256
pub bytes_compared :
    {C : Type 0} {context : Context} {top need : ℕ} {base : List ℕ} {t : SourceState} {facts last : Facts}
    {r : Registers} {memory : List ℕ} {from to more bound other_bound : ℕ}
    {first second : TypedExpression}
    {Good : C → SourceState → State → Type 0} (known_there : Facts) (operands : ScalarType)
    (left right : ExpressionNumber) (question : Question) (setting : Setting)
    (go : ℕ → ℕ → SourceState → Outcome C)
    → BytesAsked context
    → IsSound context
    → IsExpression (nodes_in context) context.storage bound left.index first
    → TypesHold context.typed context.within first
    → IsExpression (nodes_in context) context.storage other_bound right.index second
    → TypesHold context.typed context.within second
    → 2 + 2 * height_of first ≤ need
    → 2 + 2 * height_of second ≤ need
    → StepsStand context (PartDoes context) facts from
    (byte_relation_steps (knowing context.site known_there) (asking operands left right question) setting)
    last to
    → Stage context top setting.pushed need base t facts r memory
    → GoesOnCompared context first second left right question setting top setting.pushed need base
    last to more go Good
    → Does (loaded_in context) t.budget more (at_place from r memory t.events)
    (evaluated_in_order (value_in context first) (value_in context second) go t) Good
bytes_compared {context = context} {facts = facts} {last = last} {from = from} {to = to} known_there operands
    left right question setting go asked sound one types two other_types fewer less stand stage rest =
    let site = knowing context.site known_there in
    compared_in_form known_there operands left right question setting go
    (form_fits site (asking operands left right question)) asked sound one types two other_types fewer less
    (subst (λ (list : List Step). StepsStand context (PartDoes context) facts from list last to)
    (steps_are (asking operands left right question) setting (comparing question setting)
    (form_of site (asking operands left right question))) stand)
    stage rest
