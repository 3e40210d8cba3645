-- Comparisons of two ADDRESSes, one of them in memory.
use Rattle.task_laws.proofs.Prelude.{◌≡◌, ℕ, ◌*◌, ◌/◌, ◌%◌, ◌<◌, ◌≤◌, ◌==◌, ◌⊎◌, inl, inr, Bool, true, false, nat_lt, bit_or, List, ◌++◌, Option, Some, None, refl, sym, ap, ◌∙◌, subst, arith, if◌then◌else◌, byte_at, or_of_8, ScalarType, height_of, type_of, TypedExpression, TypesHold, SourceState, Ended, More, Outside, Outcome, Gave, Stopped, then_do, Or, operate, subtract_of, Registers, State, ExpressionNumber, Place, place_after, IsExpression, Facts, Does, Loaded, at_place, IsSteady, place_at, GoesOutside, evaluated_in_order, Question, LeftBelow, RightBelow, Equal, Site, may_exchange, direct_word, is_word_in_hl, Purpose, Setting, Apart, answer_to, apart_of, high_steps, in_hl, left_apart, load_a_steps, low_steps, operand_apart, right_apart, with_place_steps, knowing, Context, IsSound, nodes_in, StepsStand, PartThere, PlainThere, WordThere, PartDoes, value_is_word}
use Rattle.task_laws.proofs.Relations.Answers.{AnswerShows, question_truth, same_turned}
use Rattle.task_laws.proofs.Bytes.BytesAsked.{BytesAsked, WordAtPlace}
use Rattle.task_laws.proofs.Relations.ByteComparisons.{asking}
use Rattle.task_laws.proofs.Machine.SiteNodes.{does_exchanged, value_in}
use Rattle.task_laws.proofs.Machine.Stages.{Stage, stage_with_a, at_end, at_load_a, at_registers, at_word, does_same, loaded_in}
use Rattle.task_laws.proofs.Relations.WordComparisons.{GoesOnBoth, zero_for}
use Rattle.task_laws.proofs.Relations.WordFlags.{word_below, word_equal}

-- questions, and those of them that are not one
abbrev IsEquality : Question → Type 0
IsEquality LeftBelow = ⊥
IsEquality RightBelow = ⊥
IsEquality Equal = Unit {0}

abbrev IsOrder : Question → Type 0
IsOrder LeftBelow = Unit {0}
IsOrder RightBelow = Unit {0}
IsOrder Equal = ⊥

abbrev NotLeft : Question → Type 0
NotLeft LeftBelow = ⊥
NotLeft RightBelow = Unit {0}
NotLeft Equal = Unit {0}

abbrev NotRight : Question → Type 0
NotRight LeftBelow = Unit {0}
NotRight RightBelow = ⊥
NotRight Equal = Unit {0}

-- which operand stays in memory
pub data IsApart (site : Site) (left right : ExpressionNumber) : Question → Apart → Type 0 where
  LeftStays : {question : Question} {place : Place} → (question ≡ LeftBelow) ⊎ (question ≡ Equal)
      → may_exchange site left right ≡ true
      → direct_word site left ≡ Some place
      → IsApart site left right question (record { place = place; other = right })
  RightStays : {question : Question} {place : Place} → (question ≡ RightBelow) ⊎ (question ≡ Equal)
      → direct_word site right ≡ Some place
      → IsApart site left right question (record { place = place; other = left })

abbrev Fits : Site → (left right : ExpressionNumber) → Question → Option Apart → Type 0
Fits site left right question None = Unit {0}
Fits site left right question (Some apart) = IsApart site left right question apart

left_fits :
    (site : Site) (operands : ScalarType) (left right : ExpressionNumber) (asked question : Question)
    → (question ≡ LeftBelow) ⊎ (question ≡ Equal)
    → Fits site left right question (left_apart site (asking operands left right asked))
left_fits site operands left right asked question is =
    by (may_exchange site left right) refl (is_word_in_hl site left) (direct_word site left) refl
  where
    by : (may : Bool) → may_exchange site left right ≡ may → (in_hl_already : Bool)
        → (found : Option Place) → direct_word site left ≡ found
        → Fits site left right question
        (if may then apart_of (if in_hl_already then None else found) right else None)
    by false one in_hl_already found two = tt
    by true one true found two = tt
    by true one false None two = tt
    by true one false (Some place) two = LeftStays is one two

right_fits :
    (site : Site) (operands : ScalarType) (left right : ExpressionNumber) (asked question : Question)
    → (question ≡ RightBelow) ⊎ (question ≡ Equal)
    → Fits site left right question (right_apart site (asking operands left right asked))
right_fits site operands left right asked question is =
    by (is_word_in_hl site right) (direct_word site right) refl
  where
    by : (in_hl_already : Bool) → (found : Option Place) → direct_word site right ≡ found
        → Fits site left right question (apart_of (if in_hl_already then None else found) left)
    by true found two = tt
    by false None two = tt
    by false (Some place) two = RightStays is two

either_fits :
    (site : Site) (left right : ExpressionNumber) (question : Question) (one other : Option Apart)
    → Fits site left right question one
    → Fits site left right question other
    → Fits site left right question (elim one [ Some found ↦ Some found | None ↦ other ])
either_fits site left right question (Some found) other first second = first
either_fits site left right question None other first second = second

apart_fits :
    (site : Site) (operands : ScalarType) (left right : ExpressionNumber) (question : Question)
    → Fits site left right question (operand_apart site (asking operands left right question))
unfolding operand_apart
apart_fits site operands left right LeftBelow =
    left_fits site operands left right LeftBelow LeftBelow (inl refl)
apart_fits site operands left right RightBelow =
    right_fits site operands left right RightBelow RightBelow (inl refl)
apart_fits site operands left right Equal =
    either_fits site left right Equal (right_apart site (asking operands left right Equal))
    (left_apart site (asking operands left right Equal))
    (right_fits site operands left right Equal Equal (inr refl))
    (left_fits site operands left right Equal Equal (inr refl))

pub is_apart :
    (site : Site) (operands : ScalarType) (left right : ExpressionNumber)
    (question : Question) (apart : Apart)
    → operand_apart site (asking operands left right question) ≡ Some apart
    → IsApart site left right question apart
is_apart site operands left right question apart is =
    subst (λ (found : Option Apart). Fits site left right question found) is
    (apart_fits site operands left right question)

-- a word that is read at its place, or goes outside
pub read_then :
    {B : Type 0} {loaded : Loaded} {budget more : ℕ} {from : State}
    {Good : B → SourceState → State → Type 0}
    {context : Context} {place : Place} {memory : List ℕ} {u : SourceState} (outcome : Outcome ℕ)
    (go : ℕ → SourceState → Outcome B)
    → WordAtPlace context place memory u outcome ⊎ GoesOutside outcome
    → ((read : WordAtPlace context place memory u outcome)
    → Does loaded budget more from (go read.found u) Good)
    → Does loaded budget more from (then_do outcome go) Good
read_then {u = u} outcome go (inl read) rest =
    does_same (go read.found u) (ap (λ (given : Outcome ℕ). then_do given go) read.is) (rest read)
read_then (Stopped (Outside reason) s) go (inr outside) rest = record { told = tt }
read_then (Stopped Ended s) go (inr outside) rest = absurd outside
read_then (Stopped More s) go (inr outside) rest = absurd outside
read_then (Gave found s) go (inr outside) rest = absurd outside

-- HL is taken from the word at a place
taken_from_place :
    {A : Type 0} {context : Context} {top pushed need : ℕ} {base : List ℕ} {t : SourceState}
    {facts last : Facts}
    {r : Registers} {memory : List ℕ} {from to budget more : ℕ} {outcome : Outcome A}
    {Good : A → SourceState → State → Type 0} (place : Place) (x y : ℕ) (question : Question)
    → IsSound context
    → (x % 256 ≡ byte_at memory (place_at context.activation.layout place))
    → (x / 256 ≡ byte_at memory (place_at context.activation.layout (place_after place 1)))
    → IsSteady context.activation (place_at context.activation.layout place)
    → IsSteady context.activation (place_at context.activation.layout (place_after place 1))
    → r.h ≡ y / 256
    → r.l ≡ y % 256
    → x < 65536
    → y < 65536
    → StepsStand context (PartDoes context) facts from
    (load_a_steps place ++ low_steps in_hl question ++ load_a_steps (place_after place 1)
    ++ high_steps in_hl question)
    last to
    → Stage context top pushed need base t facts r memory
    → ((now : Registers)
    → (question ≡ Equal → (now.flags.z ≡ (x == y)) × ((now.a == 0) ≡ (x == y)))
    → ((question ≡ LeftBelow) ⊎ (question ≡ RightBelow) → now.flags.cy ≡ nat_lt x y)
    → Stage context top pushed need base t last now memory
    → Does (loaded_in context) budget more (at_place to now memory t.events) outcome Good)
    → Does (loaded_in context) budget more (at_place from r memory t.events) outcome Good
taken_from_place {context = context} {r = r} {memory = memory} place x y LeftBelow sound low high one two h l
    small other_small (WordThere first (PlainThere low_taken (WordThere second (PlainThere high_taken ends))))
    stage rest =
    let lo = byte_at memory (place_at context.activation.layout place) in
    let hi = byte_at memory (place_at context.activation.layout (place_after place 1)) in
    at_load_a sound first one stage
    (λ loaded. stage_with_a (subtract_of lo r.l false).value (subtract_of lo r.l false).flags sound loaded
    low_taken refl (omega arith) tt
    (λ lower. at_load_a sound second two lower
    (λ again. stage_with_a (subtract_of hi r.h (subtract_of lo r.l false).flags.cy).value
    (subtract_of hi r.h (subtract_of lo r.l false).flags.cy).flags sound again high_taken
    refl (omega arith) tt
    (λ next. at_end ends next
    (λ final. rest _
    (λ same. absurd (differ same))
    (λ asks. word_below x y hi lo r.h r.l (sym high) (sym low) h l other_small)
    final)))))
  where
    differ : LeftBelow ≡ Equal → ⊥
    differ same = subst IsOrder same tt
taken_from_place {context = context} {r = r} {memory = memory} place x y RightBelow sound low high one two h l
    small other_small (WordThere first (PlainThere low_taken (WordThere second (PlainThere high_taken ends))))
    stage rest =
    let lo = byte_at memory (place_at context.activation.layout place) in
    let hi = byte_at memory (place_at context.activation.layout (place_after place 1)) in
    at_load_a sound first one stage
    (λ loaded. stage_with_a (subtract_of lo r.l false).value (subtract_of lo r.l false).flags sound loaded
    low_taken refl (omega arith) tt
    (λ lower. at_load_a sound second two lower
    (λ again. stage_with_a (subtract_of hi r.h (subtract_of lo r.l false).flags.cy).value
    (subtract_of hi r.h (subtract_of lo r.l false).flags.cy).flags sound again high_taken
    refl (omega arith) tt
    (λ next. at_end ends next
    (λ final. rest _
    (λ same. absurd (differ same))
    (λ asks. word_below x y hi lo r.h r.l (sym high) (sym low) h l other_small)
    final)))))
  where
    differ : RightBelow ≡ Equal → ⊥
    differ same = subst IsOrder same tt
taken_from_place {context = context} {r = r} {memory = memory} place x y Equal sound low high one two h l
    small other_small
    (WordThere first (PlainThere low_taken
    (PlainThere kept (WordThere second (PlainThere high_taken (PlainThere ored ends)))))) stage rest =
    let lo = byte_at memory (place_at context.activation.layout place) in
    let hi = byte_at memory (place_at context.activation.layout (place_after place 1)) in
    let low_difference = (subtract_of lo r.l false).value in
    let high_difference = (subtract_of hi r.h (subtract_of lo r.l false).flags.cy).value in
    at_load_a sound first one stage
    (λ loaded. stage_with_a low_difference (subtract_of lo r.l false).flags sound loaded low_taken
    refl (omega arith) tt
    (λ lower.
    let held = lower.ready.registers in
    at_registers
    (record r { a = low_difference; b = low_difference; flags = (subtract_of lo r.l false).flags }) sound
    lower kept refl refl
    (record { a = held.a; b = held.a; c = held.c; d = held.d; e = held.e; h = held.h; l = held.l }) tt
    (λ in_b. at_load_a sound second two in_b
    (λ again. stage_with_a high_difference (subtract_of hi r.h (subtract_of lo r.l false).flags.cy).flags
    sound again high_taken refl (omega arith) tt
    (λ upper. stage_with_a (bit_or high_difference low_difference)
    (operate Or high_difference low_difference
    (subtract_of hi r.h (subtract_of lo r.l false).flags.cy).flags).flags
    sound upper ored refl (or_of_8 high_difference low_difference (omega arith) (omega arith)) tt
    (λ next. at_end ends next
    (λ final.
    let shows = word_equal y x r.h r.l hi lo h l (sym high) (sym low) other_small small ∙ same_turned x y in
    rest _ (λ same. (shows, shows)) (λ asks. absurd (either asks)) final)))))))
  where
    either : (Equal ≡ LeftBelow) ⊎ (Equal ≡ RightBelow) → ⊥
    either (inl same) = subst IsEquality same tt
    either (inr same) = subst IsEquality same tt

shown_from_left :
    (question : Question) (purpose : Purpose) (v w : ℕ) (now : Registers)
    → (question ≡ LeftBelow) ⊎ (question ≡ Equal)
    → (question ≡ Equal → (now.flags.z ≡ (v == w)) × ((now.a == 0) ≡ (v == w)))
    → ((question ≡ LeftBelow) ⊎ (question ≡ RightBelow) → now.flags.cy ≡ nat_lt v w)
    → AnswerShows purpose (answer_to question) (question_truth question v w) now
shown_from_left LeftBelow purpose v w now is equal below = below (inl refl)
shown_from_left Equal purpose v w now is equal below =
    let both = equal refl in zero_for purpose (v == w) now both.0 both.1
shown_from_left RightBelow purpose v w now (inl same) equal below =
    absurd (subst NotLeft same tt)
shown_from_left RightBelow purpose v w now (inr same) equal below =
    absurd (subst IsOrder same tt)

shown_from_right :
    (question : Question) (purpose : Purpose) (v w : ℕ) (now : Registers)
    → (question ≡ RightBelow) ⊎ (question ≡ Equal)
    → (question ≡ Equal → (now.flags.z ≡ (w == v)) × ((now.a == 0) ≡ (w == v)))
    → ((question ≡ LeftBelow) ⊎ (question ≡ RightBelow) → now.flags.cy ≡ nat_lt w v)
    → AnswerShows purpose (answer_to question) (question_truth question v w) now
shown_from_right RightBelow purpose v w now is equal below = below (inr refl)
shown_from_right Equal purpose v w now is equal below =
    let both = equal refl in
    zero_for purpose (v == w) now (both.0 ∙ same_turned v w) (both.1 ∙ same_turned v w)
shown_from_right LeftBelow purpose v w now (inl same) equal below =
    absurd (subst NotRight same tt)
shown_from_right LeftBelow purpose v w now (inr same) equal below =
    absurd (subst IsOrder same tt)

-- one stays in memory
pub place_compared :
    {C : Type 0} {context : Context} {top need : ℕ} {base : List ℕ} {t : SourceState} {facts last : Facts}
    {r : Registers} {memory : List ℕ} {from to more bound : ℕ}
    {first second : TypedExpression}
    {Good : C → SourceState → State → Type 0} (known_there : Facts)
    (left right : ExpressionNumber) (question : Question) (setting : Setting) {apart : Apart}
    (go : ℕ → ℕ → SourceState → Outcome C)
    → BytesAsked context
    → IsSound context
    → IsExpression (nodes_in context) context.storage bound left.index first
    → TypesHold context.typed context.within first
    → IsExpression (nodes_in context) context.storage bound right.index second
    → TypesHold context.typed context.within second
    → 2 * height_of first ≤ need
    → 2 * height_of second ≤ need
    → IsApart (knowing context.site known_there) left right question apart
    → StepsStand context (PartDoes context) facts from
    (with_place_steps apart question setting.pushed) last to
    → Stage context top setting.pushed need base t facts r memory
    → GoesOnBoth context question setting.purpose top setting.pushed need base last to more go Good
    → Does (loaded_in context) t.budget more (at_place from r memory t.events)
    (evaluated_in_order (value_in context first) (value_in context second) go t) Good
place_compared {context = context} {top = top} {base = base} {t = t} {bound = bound} {first = first}
    {second = second} known_there left right question setting go asked sound one types two other_types fewer
    less (LeftStays {place = place} asks may lies) (PartThere does stand) stage rest =
    does_exchanged known_there go t sound one two types may
    (at_word _ _ _ does two other_types less stage
    (λ w u now memory_now is given next.
    read_then (value_in context first u) (λ v s. go v w s)
    (asked.places known_there left place bound top first base u now memory_now one types lies next.ready)
    (λ read.
    let v_small =
    value_is_word (type_of first) read.found
    (asked.values_fit left bound top read.found first base u u now memory_now one types
    next.ready read.is) in
    let w_small = value_is_word (type_of second) w given.small in
    taken_from_place place read.found w question sound read.low read.high read.low_steady
    read.high_steady given.h given.l
    v_small w_small stand next
    (λ end equal below final.
    rest read.found w u end memory_now v_small w_small
    (shown_from_left question setting.purpose read.found w end asks equal below) final))))
place_compared {context = context} {top = top} {base = base} {t = t} {bound = bound} {first = first}
    {second = second} known_there left right question setting go asked sound one types two other_types fewer
    less (RightStays {place = place} asks lies) (PartThere does stand) stage rest =
    at_word _ _ _ does one types fewer stage
    (λ v u now memory_now is given next.
    read_then (value_in context second u) (λ w s. go v w s)
    (asked.places known_there right place bound top second base u now memory_now two
    other_types lies next.ready)
    (λ read.
    let w_small =
    value_is_word (type_of second) read.found
    (asked.values_fit right bound top read.found second base u u now memory_now two other_types
    next.ready read.is) in
    let v_small = value_is_word (type_of first) v given.small in
    taken_from_place place read.found v question sound read.low read.high read.low_steady
    read.high_steady given.h given.l
    w_small v_small stand next
    (λ end equal below final.
    rest v read.found u end memory_now v_small w_small
    (shown_from_right question setting.purpose v read.found end asks equal below) final)))
