-- The code for the effects of an expression of each form.
use Rattle.task_laws.proofs.Prelude.{◌≡◌, ℕ, ◌+◌, ◌*◌, ◌<◌, ◌≤◌, ◌⊎◌, inl, inr, Bool, true, false, if◌then◌else◌, List, [], ◌∷◌, ◌++◌, Option, Some, None, refl, sym, ap, subst, ◌∙◌, arith, zero, suc, All, slice_get, slice_index_or, read_event, input_value, queue_of, ScalarType, height_of, TypedExpression, TypesHold, address_in_memory, computed, value, read_scalar, SourceState, Outcome, Gave, Stopped, then_do, as_type, function_of, result_of, result_of_one, shifted, In, after, Registers, State, Expression, ExpressionForm, ExpressionNumber, IsExpression, IsForm, IsNumber, IsValue, IsLocation, IsConstantList, IsConversion, IsEmbedded, IsUnary, IsBinary, IsCallOf, IsFunction, IsShift, IsInput, is_free, is_quiet, keeps, option_map_or, is_some, Site, expression, Keeps, nodes_of, free_at, has_immediate, is_free_form, is_free_with, is_of_low_byte, is_quiet_form, keeps_at, no_traits, number_at, quiet_at, quiet_computed, quiet_gave, quiet_scalar, Facts, Arrives, IsThere, Does, at_place, does_without_step, both_effects_steps, effects_steps, form_effects_steps, knowing, Context, IsSound, nodes_in, NoneThere, PartThere, PlainThere, StepsStand, ChangesAOnly, EffectsAreGiven, EffectsDo, Know, NothingIsGiven, PartDoes, false≢true, and_parts}
use Rattle.trees.proofs.TakenBytes.{taken}
use Rattle.treecode.proofs.TakenBytes.{free_if_direct, free_of_operand}
use Rattle.asm8080.specs.declared.item.Item.TheVariants as items
use Rattle.treecode.specs.declared.expression.ExpressionForm.TheVariants as forms
use Rattle.task_laws.proofs.Machine.FreeForms.{high_is_quiet, not_known, number_is_free, value_is_quiet}
use Rattle.task_laws.proofs.Machine.KeptCode.{kept_quiet, quiet_of_entry}
use Rattle.task_laws.proofs.Machine.Nodes.{node_of}
use Rattle.task_laws.proofs.Machine.Rules.{plain_goes, ready_with_registers, room_for}
use Rattle.task_laws.proofs.Machine.Stages.{Stage, at_effects, does_same, gives_then, loaded_in, script_of}
use Rattle.task_laws.proofs.Machine.Effects.{at_reference, ends_here, quiet_ends}
use Rattle.task_laws.proofs.Machine.SiteNodes.{free_is, quiet_is, quiet_means}
use Rattle.task_laws.proofs.Machine.Values.{effects_then}
use Rattle.task_laws.proofs.Machine.StoredValues.{at_embedded}
use Rattle.task_laws.proofs.Calls.Calls.{call_goes}

-- one operand
one_goes :
    {context : Context} {facts last : Facts} {bound pushed from to : ℕ} {number : ExpressionNumber}
    {tree : TypedExpression}
    (go : ℕ → ℕ) (top need : ℕ) (base : List ℕ) (s : SourceState) (r : Registers) (memory : List ℕ)
    → StepsStand context (PartDoes context) facts from
    (Rattle.steps8080.specs.internal.Step.part (Rattle.steps8080.specs.declared.step.Task.TheVariants.Effects number)
    pushed ∷ []) last to
    → IsExpression (nodes_in context) context.storage bound number.index tree
    → TypesHold context.typed context.within tree
    → 2 * height_of tree ≤ need
    → Stage context top pushed need base s facts r memory
    → Does (loaded_in context) s.budget 0 (at_place from r memory s.events)
    (then_do (value context.later context.activation.around tree s) (λ found t. Gave (go found) t))
    (Arrives context.activation top base to (NothingIsGiven context last r memory))
one_goes {from = from} {to = to} {number = number} go top need base s r memory (PartThere does NoneThere)
    node types fewer stage =
    at_effects from to number does node types fewer stage
    (λ found u now memory_now is next. ends_here to (go found) next)

-- two operands
two_go :
    {context : Context} {facts last : Facts} {bound pushed from to : ℕ} {left right : ExpressionNumber}
    {first second : TypedExpression}
    (go : ℕ → ℕ → SourceState → Outcome ℕ)
    → ((one two : ℕ) → Rattle.treecode_laws.specs.internal.Evaluations.IsQuiet (go one two))
    → (top need : ℕ) (base : List ℕ) (s : SourceState) (r : Registers) (memory : List ℕ)
    → StepsStand context (PartDoes context) facts from (both_effects_steps left right pushed) last to
    → IsExpression (nodes_in context) context.storage bound left.index first
    → IsExpression (nodes_in context) context.storage bound right.index second
    → TypesHold context.typed context.within first
    → TypesHold context.typed context.within second
    → 2 * height_of first ≤ need
    → 2 * height_of second ≤ need
    → Stage context top pushed need base s facts r memory
    → Does (loaded_in context) s.budget 0 (at_place from r memory s.events)
    (then_do (value context.later context.activation.around first s)
    (λ one t. then_do (value context.later context.activation.around second t) (λ two u. go one two u)))
    (Arrives context.activation top base to (NothingIsGiven context last r memory))
unfolding both_effects_steps
two_go {from = from} {to = to} {left = left} {right = right} go quiet top need base s r memory
    (PartThere {middle = middle} one (PartThere two NoneThere)) first_node second_node first_types
    second_types fewer other stage =
    at_effects from middle left one first_node first_types fewer stage
    (λ found u now memory_now is next.
    at_effects middle to right two second_node second_types other next
    (λ number v after memory_after same last.
    quiet_ends to (go found number) (quiet found number) last))

-- a byte of a list of bytes, or 255 past its end
byte_or_255 : (bytes : List ℕ) (index : ℕ) → All (λ byte. byte < 256) bytes → slice_index_or bytes index
    255 < 256
byte_or_255 [] index all = omega arith
byte_or_255 (byte ∷ bytes) zero all = all 0 255 (omega arith)
byte_or_255 (byte ∷ bytes) (suc index) all =
    byte_or_255 bytes index (λ k d less. all (suc k) d (omega (arith, less)))

-- a read of a port
pub input_goes :
    {A : Type 0} {context : Context} {top pushed need : ℕ} {base : List ℕ} {t : SourceState} {facts : Facts}
    {r : Registers} {memory : List ℕ} {more from : ℕ} {outcome : Outcome A}
    {Good : A → SourceState → State → Type 0} (port : ℕ)
    → IsSound context
    → IsThere context.activation (items.Plain (In port) ∷ []) from (from + 2)
    → Stage context top pushed need base t facts r memory
    → (input_value (script_of context) t.events port < 256
    → Stage context top pushed need base
    (record t { events = t.events ++ read_event port (input_value (script_of context) t.events port) ∷ [] })
    (after facts (In port)) (record r { a = input_value (script_of context) t.events port }) memory
    → Does (loaded_in context) t.budget more
    (at_place (from + 2) (record r { a = input_value (script_of context) t.events port }) memory
    (t.events ++ read_event port (input_value (script_of context) t.events port) ∷ [])) outcome Good)
    → Does (loaded_in context) t.budget more (at_place from r memory t.events) outcome Good
input_goes {context = context} {t = t} {r = r} {memory = memory} port sound there stage rest =
    let number = input_value (script_of context) t.events port in
    let small : number < 256 = byte_or_255 (queue_of (script_of context) port) _ (sound.script port) in
    let bytes = stage.ready.registers in
    plain_goes r (record r { a = number }) memory (t.events ++ read_event port number ∷ []) sound there
    (record { ready = stage.ready; known = stage.known }) tt refl
    (λ known. rest small (record {
      below = stage.below;
      room = stage.room;
      ready = ready_with_registers refl
          (record { a = small; b = bytes.b; c = bytes.c; d = bytes.d; e = bytes.e; h = bytes.h; l = bytes.l })
          stage.ready;
      known = known;
    }))

-- a part with a value that is passed on
then_itself : {A : Type 0} (outcome : Outcome A) → outcome ≡ then_do outcome (λ found t. Gave found t)
then_itself (Gave found t) = refl
then_itself (Stopped why t) = refl

-- an expression with code that keeps a register is quiet
abbrev pub KeptIsQuiet : Context → Type 0
KeptIsQuiet context =
    (bound : ℕ) (number : ExpressionNumber) (tree : TypedExpression)
    → IsExpression (nodes_in context) context.storage bound number.index tree
    → ((keeps context.site number).a ≡ true) ⊎ ((keeps context.site number).de ≡ true)
    → is_quiet context.site number ≡ true

-- the code of a form that is not quiet
form_goes :
    {context : Context} {facts last : Facts} {bound pushed from to : ℕ} {tree : TypedExpression}
    (form : ExpressionForm)
    → IsSound context
    → IsForm (nodes_in context) context.storage bound form tree
    → TypesHold context.typed context.within tree
    → StepsStand context (PartDoes context) facts from
    (form_effects_steps (knowing context.site facts) form pushed) last to
    → (top : ℕ) (base : List ℕ) (s : SourceState) (r : Registers) (memory : List ℕ)
    → Stage context top pushed (2 * height_of tree) base s facts r memory
    → Does (loaded_in context) s.budget 0 (at_place from r memory s.events)
    (value context.later context.activation.around tree s)
    (Arrives context.activation top base to (NothingIsGiven context last r memory))
unfolding form_effects_steps
form_goes {to = to} (forms.Number number) sound IsNumber types NoneThere top base s r memory stage =
    ends_here to number stage
form_goes {context = context} {to = to} (forms.List offset) sound (IsConstantList {list = list}) types
    NoneThere top base s r memory stage =
    ends_here to _ stage
form_goes {context = context} {from = from} {to = to} (forms.Value reference) sound
    (IsValue {scalar = scalar} part) types stand top base s r memory stage =
    at_reference from to part types.1 stand (omega arith) stage
    (λ place u now memory_now next.
    quiet_ends to (λ t. read_scalar context.activation.around.program scalar place t)
    (quiet_scalar context.activation.around.program scalar place) next)
form_goes {from = from} {to = to} (forms.Location reference) sound (IsLocation part) types stand top
    base s r memory stage =
    at_reference from to part types.1 stand (omega arith) stage
    (λ place u now memory_now next. ends_here to (address_in_memory place) next)
form_goes (forms.Conversion inner) sound (IsConversion {scalar = scalar} node) types stand top
    base s r memory stage =
    one_goes (λ n. as_type scalar n) top _ base s r memory stand node types (omega arith) stage
form_goes {from = from} {to = to} (forms.Assignment target inner) sound (IsEmbedded is_target node) types
    stand top base s r memory stage =
    does_same _ (then_itself _)
    (at_embedded from to (λ found t. Gave found t) stand is_target node types (omega arith) stage
    (λ found u now memory_now wanted small same next. ends_here to found next))
form_goes (forms.Unary operator operand) sound (IsUnary {scalar = scalar} node) types stand top
    base s r memory stage =
    one_goes (λ n. result_of_one scalar operator n) top _ base s r memory stand node
    types.0 (omega arith) stage
form_goes (forms.Binary operands operator left right) sound (IsBinary first second) types stand top
    base s r memory stage =
    two_go (λ one two u. computed (result_of operands operator one two) u)
    (λ one two. quiet_computed (result_of operands operator one two))
    top _ base s r memory stand first second types.1.0 types.2.0 (omega arith) (omega arith) stage
form_goes {context = context} {last = last} {to = to} (forms.Call procedure range) sound
    (IsCallOf {scalar = scalar} {trees = trees} are) types stand top base s r memory stage =
    gives_then _
    (Rattle.task_laws.proofs.Calls.Calls.call_does procedure range sound stand _ (Some scalar) trees are
    types.0 types.1 top base s r memory stage.below (room_for _ (omega arith) stage.room)
    stage.ready stage.known tt)
    (λ found t end arrives spent.
    does_without_step (record {
      r = arrives.r;
      memory = arrives.memory;
      is_at = arrives.is_at;
      ready = arrives.ready;
      holds = record { known = arrives.holds.known };
    }))
form_goes (forms.Function function operand) sound (IsFunction node) types stand top base s r memory stage =
    one_goes (λ n. function_of function n) top _ base s r memory stand node types (omega arith) stage
form_goes (forms.Shift function value count) sound (IsShift {scalar = scalar} first second) types stand top
    base s r memory stage =
    two_go (λ one two u. Gave (shifted scalar function one two) u)
    (λ one two. quiet_gave (shifted scalar function one two))
    top _ base s r memory stand first second types.1.0 types.2.0 (omega arith) (omega arith) stage
form_goes {to = to} (forms.Input port) sound IsInput types (PlainThere there NoneThere) top
    base s r memory stage =
    input_goes port sound there stage (λ small next. ends_here to _ next)

-- the value of a quiet evaluation, with a property of every value
quiet_arrives :
    {A : Type 0} {context : Context} {top pushed need : ℕ} {base : List ℕ} {u : SourceState} {facts : Facts}
    {now : Registers} {memory_now : List ℕ} {Holds : A → Registers → List ℕ → Type 0}
    (to : ℕ) (meant : SourceState → Outcome A)
    → Rattle.treecode_laws.specs.internal.Evaluations.IsQuiet meant
    → ((found : A) → Holds found now memory_now)
    → Stage context top pushed need base u facts now memory_now
    → Does (loaded_in context) u.budget 0 (at_place to now memory_now u.events) (meant u)
    (Arrives context.activation top base to Holds)
quiet_arrives {A = A} {context = context} {top = top} {base = base} {u = u} {now = now}
    {memory_now = memory_now} {Holds = Holds} to meant quiet holds stage =
    answered (quiet.answer u.memory u.frame) (quiet.gives u)
  where
    answered : (answer : Rattle.treecode_laws.specs.internal.Evaluations.Answer A)
        → meant u ≡ Rattle.treecode_laws.specs.internal.Evaluations.outcome_of answer u
        → Does (loaded_in context) u.budget 0 (at_place to now memory_now u.events) (meant u)
        (Arrives context.activation top base to Holds)
    answered (Rattle.treecode_laws.specs.internal.Evaluations.Found found) is =
        does_same (Gave found u) is
        (does_without_step
        (record { r = now; memory = memory_now; is_at = refl; ready = stage.ready; holds = holds found }))
    answered (Rattle.treecode_laws.specs.internal.Evaluations.Fails reason) is =
        Rattle.code_meaning.proofs.Access.outside_does reason u is

-- nothing but A has changed
pub only_itself : (r : Registers) (memory : List ℕ) → ChangesAOnly r memory r memory
only_itself r memory =
    record { b = refl; c = refl; d = refl; e = refl; h = refl; l = refl; same_memory = refl }

pub only_then :
    {r now last : Registers} {memory between ended : List ℕ}
    → ChangesAOnly r memory now between
    → ChangesAOnly now between last ended
    → ChangesAOnly r memory last ended
only_then one two = record {
  b = two.b ∙ one.b;
  c = two.c ∙ one.c;
  d = two.d ∙ one.d;
  e = two.e ∙ one.e;
  h = two.h ∙ one.h;
  l = two.l ∙ one.l;
  same_memory = two.same_memory ∙ one.same_memory;
}

record OnlyAIsGiven
    (context : Context) (after : Facts) (r : Registers) (memory : List ℕ) (found : ℕ) (now : Registers)
    (memory_now : List ℕ) : Type 0 where
  known : Know context after now memory_now
  only : ChangesAOnly r memory now memory_now

-- one operand that is free
one_free :
    {context : Context} {facts last : Facts} {bound pushed from to : ℕ} {number : ExpressionNumber}
    {tree : TypedExpression}
    (go : ℕ → ℕ) (top need : ℕ) (base : List ℕ) (s : SourceState) (r : Registers) (memory : List ℕ)
    → free_at (nodes_in context) number ≡ true
    → StepsStand context (PartDoes context) facts from
    (Rattle.steps8080.specs.internal.Step.part (Rattle.steps8080.specs.declared.step.Task.TheVariants.Effects number)
    pushed ∷ []) last to
    → IsExpression (nodes_in context) context.storage bound number.index tree
    → TypesHold context.typed context.within tree
    → 2 * height_of tree ≤ need
    → Stage context top pushed need base s facts r memory
    → Does (loaded_in context) s.budget 0 (at_place from r memory s.events)
    (then_do (value context.later context.activation.around tree s) (λ found t. Gave (go found) t))
    (Arrives context.activation top base to (OnlyAIsGiven context last r memory))
one_free {context = context} {from = from} {number = number} go top need base s r memory free
    (PartThere does NoneThere) node types fewer stage =
    effects_then from s r memory does node types stage.below stage.room fewer
    (record { ready = stage.ready; known = stage.known })
    (λ n t now ended same less on given. does_without_step (record {
      r = now;
      memory = ended;
      is_at = refl;
      ready = on.ready;
      holds = record { known = on.known; only = given.free (free_is context.site number ∙ free) };
    }))

-- two of them
two_free :
    {context : Context} {facts last : Facts} {bound pushed from to : ℕ} {left right : ExpressionNumber}
    {first second : TypedExpression}
    (go : ℕ → ℕ → SourceState → Outcome ℕ)
    → ((one two : ℕ) → Rattle.treecode_laws.specs.internal.Evaluations.IsQuiet (go one two))
    → (top need : ℕ) (base : List ℕ) (s : SourceState) (r : Registers) (memory : List ℕ)
    → free_at (nodes_in context) left ≡ true
    → free_at (nodes_in context) right ≡ true
    → StepsStand context (PartDoes context) facts from (both_effects_steps left right pushed) last to
    → IsExpression (nodes_in context) context.storage bound left.index first
    → IsExpression (nodes_in context) context.storage bound right.index second
    → TypesHold context.typed context.within first
    → TypesHold context.typed context.within second
    → 2 * height_of first ≤ need
    → 2 * height_of second ≤ need
    → Stage context top pushed need base s facts r memory
    → Does (loaded_in context) s.budget 0 (at_place from r memory s.events)
    (then_do (value context.later context.activation.around first s)
    (λ one t. then_do (value context.later context.activation.around second t) (λ two u. go one two u)))
    (Arrives context.activation top base to (OnlyAIsGiven context last r memory))
unfolding both_effects_steps
two_free {context = context} {from = from} {to = to} {left = left} {right = right} go quiet top need base s r
    memory left_free right_free (PartThere {middle = middle} one (PartThere two NoneThere)) first_node
    second_node first_types second_types fewer other stage =
    let below = stage.below in
    effects_then from s r memory one first_node first_types stage.below stage.room fewer
    (record { ready = stage.ready; known = stage.known })
    (λ n t now ended same less on given.
    effects_then middle t now ended two second_node second_types
    (omega (arith, less, below)) stage.room other on
    (λ m u then_now then_ended then_same then_less then_on then_given.
    let low : u.budget < context.number = omega (arith, less, then_less, below) in
    quiet_arrives {context = context} to (go n m) (quiet n m)
    (λ found. record {
      known = then_on.known;
      only = only_then (given.free (free_is context.site left ∙ left_free))
          (then_given.free (free_is context.site right ∙ right_free));
    })
    (record { below = low; room = stage.room; ready = then_on.ready; known = then_on.known })))

-- the code of a form that is free and not quiet
free_form_goes :
    {context : Context} {facts last : Facts} {bound pushed from to : ℕ} {tree : TypedExpression}
    (form : ExpressionForm)
    (scalar : ScalarType)
    → IsSound context
    → is_free_form (nodes_in context) scalar form ≡ true
    → is_quiet_form (nodes_in context) form ≡ false
    → IsForm (nodes_in context) context.storage bound form tree
    → TypesHold context.typed context.within tree
    → StepsStand context (PartDoes context) facts from
    (form_effects_steps (knowing context.site facts) form pushed) last to
    → (top : ℕ) (base : List ℕ) (s : SourceState) (r : Registers) (memory : List ℕ)
    → Stage context top pushed (2 * height_of tree) base s facts r memory
    → Does (loaded_in context) s.budget 0 (at_place from r memory s.events)
    (value context.later context.activation.around tree s)
    (Arrives context.activation top base to (OnlyAIsGiven context last r memory))
unfolding form_effects_steps
free_form_goes {context = context} (forms.Value reference) scalar sound free loud (IsValue part) types stand
    top base s r memory stage =
    (absurd (false≢true (sym loud ∙ value_is_quiet (nodes_in context) context.storage
    sound.lowered.traits part free)))
free_form_goes (forms.Conversion inner) scalar sound free loud (IsConversion {scalar = to_scalar} node) types
    stand top base s r memory stage =
    one_free (λ n. as_type to_scalar n) top _ base s r memory free stand node types (omega arith) stage
free_form_goes (forms.Unary operator operand) scalar sound free loud (IsUnary {scalar = of} node) types stand
    top base s r memory stage =
    one_free (λ n. result_of_one of operator n) top _ base s r memory free stand node
    types.0 (omega arith) stage
free_form_goes {context = context} (forms.Binary operands operator left right) scalar sound free loud
    (IsBinary first second) types stand top base s r memory stage =
    let both = (and_parts (has_immediate operator) (is_free_with (nodes_in context) left right) free).1 in
    two_free (λ one two u. computed (result_of operands operator one two) u)
    (λ one two. quiet_computed (result_of operands operator one two))
    top _ base s r memory
    (and_parts (free_at (nodes_in context) left) (is_some (number_at (nodes_in context) right)) both).0
    (number_is_free (nodes_in context) context.storage sound.lowered.traits second
    (and_parts (free_at (nodes_in context) left) (is_some (number_at (nodes_in context) right)) both).1)
    stand first second types.1.0 types.2.0 (omega arith) (omega arith) stage
free_form_goes {context = context} (forms.Function function operand) scalar sound free loud
    (IsFunction node) types stand top base s r memory stage =
    elim (taken function) [
      | inl low ↦
          one_free (λ n. function_of function n) top _ base s r memory
          (sym (free_of_operand (nodes_in context) scalar function operand low) ∙ free) stand node types
          (omega arith) stage
      | inr high ↦
          absurd (false≢true (sym loud
          ∙ high_is_quiet (nodes_in context) context.storage sound.lowered.traits {operand = operand} function
          high node (sym (free_if_direct (nodes_in context) scalar function operand high) ∙ free)))
    ]
free_form_goes {context = context} (forms.Shift function count_of count) scalar sound free loud
    (IsShift {scalar = of} first second) types stand top base s r memory stage =
    let both =
    (and_parts (is_of_low_byte scalar function)
    (is_free_with (nodes_in context) count_of count) free).1 in
    two_free (λ one two u. Gave (shifted of function one two) u)
    (λ one two. quiet_gave (shifted of function one two))
    top _ base s r memory
    (and_parts (free_at (nodes_in context) count_of) (is_some (number_at (nodes_in context) count)) both).0
    (number_is_free (nodes_in context) context.storage sound.lowered.traits second
    (and_parts (free_at (nodes_in context) count_of) (is_some (number_at (nodes_in context) count)) both).1)
    stand first second types.1.0 types.2.0 (omega arith) (omega arith) stage
free_form_goes {to = to} (forms.Input port) scalar sound free loud IsInput types (PlainThere there NoneThere)
    top base s r memory stage =
    input_goes port sound there stage
    (λ small next. does_without_step (record {
      r = _;
      memory = memory;
      is_at = refl;
      ready = next.ready;
      holds = record {
        known = next.known;
        only = record { b = refl; c = refl; d = refl; e = refl; h = refl; l = refl; same_memory = refl };
      };
    }))
free_form_goes (forms.Number number) scalar sound free loud form types stand top base s r memory stage =
    absurd (false≢true free)
free_form_goes (forms.List offset) scalar sound free loud form types stand top base s r memory stage =
    absurd (false≢true free)
free_form_goes (forms.Location reference) scalar sound free loud form types stand top base s r memory stage =
    absurd (false≢true free)
free_form_goes (forms.Assignment target inner) scalar sound free loud form types stand top base s r memory
    stage = absurd (false≢true free)
free_form_goes (forms.Call procedure range) scalar sound free loud form types stand top base s r memory
    stage = absurd (false≢true free)

-- only quiet code keeps A and DE
given_kept :
    {context : Context} {last : Facts} {r now : Registers} {memory memory_now : List ℕ} {found : ℕ}
    (number : ExpressionNumber)
    → (((keeps context.site number).a ≡ true) ⊎ ((keeps context.site number).de ≡ true) → ⊥)
    → (is_free context.site number ≡ true → ChangesAOnly r memory now memory_now)
    → Know context last now memory_now
    → EffectsAreGiven context last number r memory found now memory_now
given_kept number never only known = record {
  known = known;
  a = λ kept. absurd (never (inl kept));
  d = λ kept. absurd (never (inr kept));
  e = λ kept. absurd (never (inr kept));
  free = only;
}

-- the task of the effects of an expression
pub effects_do :
    {context : Context} {facts last : Facts} {pushed from to : ℕ} (number : ExpressionNumber)
    → IsSound context
    → KeptIsQuiet context
    → StepsStand context (PartDoes context) facts from
    (effects_steps (knowing context.site facts) number pushed) last to
    → EffectsDo context facts number pushed from last to
unfolding effects_steps is_quiet
effects_do {context = context} {facts = facts} {last = last} {pushed = pushed} {from = from} {to = to} number
    sound kept stand bound tree node types top base s r memory below room ready known asked =
    let of = node_of {number = number} sound node in
    by_quiet of.found.traits.is_quiet
    (λ known_before. ap (λ entry. elim (entry) [ Some found ↦ found.traits.is_quiet | None ↦ false ])
    (of.at_site known_before))
    refl of.form
    (subst (λ entry. StepsStand context (PartDoes context) facts from (elim (entry) [
      | Some found ↦ if found.traits.is_quiet then [] else form_effects_steps
          (knowing context.site facts) found.form pushed
      | None ↦ []
    ]) last to) (of.at_site facts) stand)
  where
    stage : Stage context top pushed (2 * height_of tree) base s facts r memory
    stage = record { below = below; room = room; ready = ready; known = known }

    by_quiet : {form : ExpressionForm} {final : Facts} {finish : ℕ} (quiet : Bool)
        → ((known_before : Facts) → is_quiet (knowing context.site known_before) number ≡ quiet)
        → (node_of {number = number} sound node).found.form ≡ form
        → IsForm (nodes_in context) context.storage number.index form tree
        → StepsStand context (PartDoes context) facts from
        (if quiet then [] else form_effects_steps (knowing context.site facts) form pushed) final finish
        → Does (loaded_in context) s.budget 0 (at_place from r memory s.events)
        (value context.later context.activation.around tree s)
        (Arrives context.activation top base finish (EffectsAreGiven context final number r memory))
    by_quiet true is found_is shape NoneThere =
        quiet_arrives from (λ t. value context.later context.activation.around tree t)
        (quiet_means facts sound node (is facts))
        (λ found. record {
          known = known;
          a = λ keeps_it. refl;
          d = λ keeps_it. refl;
          e = λ keeps_it. refl;
          free = λ is_so. only_itself r memory;
        }) stage
    by_quiet {form = form} {final = final} {finish = finish} false is found_is shape stand =
        by_free (is_free context.site number) refl
      where
        never_kept : ((keeps context.site number).a ≡ true) ⊎ ((keeps context.site number).de ≡ true) → ⊥
        never_kept keeps_one =
            (absurd (false≢true (sym (is context.site.facts) ∙ kept bound number tree node keeps_one)))

        loud_at : quiet_at (nodes_in context) number ≡ false
        loud_at = sym (quiet_is context.site number) ∙ is context.site.facts

        by_free : (free : Bool) → is_free context.site number ≡ free
            → Does (loaded_in context) s.budget 0 (at_place from r memory s.events)
            (value context.later context.activation.around tree s)
            (Arrives context.activation top base finish (EffectsAreGiven context final number r memory))
        by_free true told =
            let of = node_of {number = number} sound node in
            gives_then _
            (free_form_goes form of.found.traits.scalar sound
            (subst (λ (one : ExpressionForm). is_free_form (nodes_in context) of.found.traits.scalar one
            ≡ true) found_is
            (not_known (nodes_in context) context.storage sound.lowered.traits of.found node of.is_there
            loud_at (sym (free_is context.site number) ∙ told)))
            (subst (λ (one : ExpressionForm). is_quiet_form (nodes_in context) one ≡ false) found_is
            (sym (quiet_of_entry (nodes_in context) context.storage sound.lowered.traits number.index of.found
            of.is_there) ∙ loud_at))
            shape types stand top base s r memory stage)
            (λ found t end arrives spent.
            does_without_step (record {
              r = arrives.r;
              memory = arrives.memory;
              is_at = arrives.is_at;
              ready = arrives.ready;
              holds = given_kept number never_kept (λ so. arrives.holds.only) arrives.holds.known;
            }))
        by_free false told =
            gives_then _ (form_goes form sound shape types stand top base s r memory stage)
            (λ found t end arrives spent.
            does_without_step (record {
              r = arrives.r;
              memory = arrives.memory;
              is_at = arrives.is_at;
              ready = arrives.ready;
              holds = given_kept number never_kept (λ so. absurd (absurd (false≢true (sym told ∙ so))))
                  arrives.holds.known;
            }))

-- the registers that are kept according to the tree, as code queries them
keeps_is : (site : Site) (of : ExpressionNumber) → keeps site of ≡ keeps_at (nodes_of site.tree.now) of
unfolding keeps expression
keeps_is site of = by (slice_get site.tree.now.expressions.items of.index)
  where
    by : (found : Option Expression)
        → elim found [ Some one ↦ one.traits.keeps | None ↦ record { a = false; de = false } ]
        ≡ (option_map_or (λ (one : Expression). one.traits) found no_traits).keeps
    by (Some one) = refl
    by None = refl

-- an expression with code that keeps a register is quiet
pub kept_is_quiet : {context : Context} → IsSound context → KeptIsQuiet context
kept_is_quiet {context = context} sound bound number tree node kept =
    quiet_is context.site number
    ∙ kept_quiet (nodes_in context) context.storage sound.lowered.traits bound number.index tree node
    (subst (λ (one : Keeps). (one.a ≡ true) ⊎ (one.de ≡ true)) (keeps_is context.site number) kept)

-- the task of the effects of an expression
pub effects_done :
    {context : Context} {facts last : Facts} {pushed from to : ℕ} (number : ExpressionNumber)
    → IsSound context
    → StepsStand context (PartDoes context) facts from
    (effects_steps (knowing context.site facts) number pushed) last to
    → EffectsDo context facts number pushed from last to
effects_done number sound stand = effects_do number sound (kept_is_quiet sound) stand
