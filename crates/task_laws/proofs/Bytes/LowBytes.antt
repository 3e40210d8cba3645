-- The low byte of values that are computed through HL, of calls and of ports.
use Rattle.task_laws.proofs.Prelude.{◌≡◌, ℕ, ◌*◌, ◌%◌, ◌<◌, true, List, [], ◌∷◌, ◌++◌, Some, refl, sym, ◌∙◌, subst, arith, ScalarType, height_of, type_of, CallNode, InputNode, TypedArguments, TypedExpression, Takes, TypesHold, TypesHoldInArguments, SourceState, Outcome, Gave, values_of, In, A, L, Registers, State, ExpressionNumber, Range, AreArguments, IsExpression, Arrives, IsReady, Does, loaded_of, at_place, does_without_step, Facts, Plain, copy, is_free, low_of_value_steps, call_steps, knowing, low_of_word_steps, Context, InRegister, IsSound, nodes_in, StepsStand, PlainThere, ByteIsGiven, Know, PartDoes, byte_as_low, byte_is_low, Event, IsReference, LocationNode, NoneThere, Part, PartThere, Reference, TypedReference, address_in_memory, height_of_reference, part_of, word}
use Rattle.trees.specs.declared.declaration.ScalarType.TheVariants as scalars
use Rattle.steps8080.specs.declared.step.Task.TheVariants as tasks
use Rattle.task_laws.proofs.Branches.Branches.{given_itself}
use Rattle.task_laws.proofs.Bytes.ByteCode.{ByteCarried, OfOne, at_last_instructions, byte_of_word, with_outcome}
use Rattle.task_laws.proofs.Bytes.ByteForms.{byte_given}
use Rattle.task_laws.proofs.Calls.Calls.{call_does}
use Rattle.task_laws.proofs.Machine.EffectForms.{input_goes}
use Rattle.task_laws.proofs.Ranges.Ranges.{ready_fits, value_fits}
use Rattle.task_laws.proofs.Machine.RegisterCode.{registers_then}
use Rattle.task_laws.proofs.Machine.Rules.{GoesOn, Parted, room_for, steps_split}
use Rattle.task_laws.proofs.Machine.SiteNodes.{value_in}
use Rattle.task_laws.proofs.Machine.Stages.{Stage, at_end, gives_then, loaded_in}
use Rattle.task_laws.proofs.Machine.Values.{then_does_where}
use Rattle.task_laws.proofs.Words.WordValues.{location_is, location_is_referred}

-- through HL
pub low_word_law :
    {context : Context} {facts last : Facts} {from to bound : ℕ} {tree : TypedExpression}
    (number : ExpressionNumber)
    (pushed : ℕ)
    → IsSound context
    → IsExpression (nodes_in context) context.storage bound number.index tree
    → TypesHold context.typed context.within tree
    → (is_free context.site number ≡ true → ⊥)
    → StepsStand context (PartDoes context) facts from (low_of_word_steps number pushed) last to
    → ByteCarried context facts number tree pushed from last to
unfolding low_of_word_steps
low_word_law {context = context} {bound = bound} {tree = tree} number pushed sound is types not_free stand =
    byte_of_word context sound itself (copy A L ∷ []) (λ h l. l) (tt, tt) (λ r h_small l_small. refl) not_free
    (λ v fits. refl) stand
  where
    itself : OfOne context number number tree tree (λ v. v) (values_of (type_of tree))
    itself = record {
      bound = bound;
      node = is;
      types = types;
      fewer = omega arith;
      means = λ t. given_itself (value_in context tree t);
      fits = λ s u v source same. value_fits s sound is types source same;
      small = λ v fits. fits;
      free = λ free. free;
    }

-- the low byte of a value is in A
pub record LowIsGiven
    (context : Context) (after : Facts) (r : Registers) (memory : List ℕ) (found : ℕ) (now : Registers)
    (memory_now : List ℕ) : Type 0 where
  pub a : now.a ≡ found % 256
  pub known : Know context after now memory_now

-- and the value is one of its type
pub low_given :
    {context : Context} {last : Facts} {to bound : ℕ} {tree : TypedExpression} {top : ℕ} {base : List ℕ}
    (number : ExpressionNumber) (from : ℕ) (s : SourceState) (r : Registers) (memory : List ℕ)
    → IsSound context
    → IsExpression (nodes_in context) context.storage bound number.index tree
    → TypesHold context.typed context.within tree
    → (is_free context.site number ≡ true → ⊥)
    → IsReady context.activation top base s.memory s.frame r memory
    → Does (loaded_in context) s.budget 0 (at_place from r memory s.events) (value_in context tree s)
    (Arrives context.activation top base to (LowIsGiven context last r memory))
    → Does (loaded_in context) s.budget 0 (at_place from r memory s.events) (value_in context tree s)
    (Arrives context.activation top base to (ByteIsGiven context last number (type_of tree) r memory))
low_given {context = context} {tree = tree} number from s r memory sound is types not_free ready does =
    with_outcome (value_in context tree s) does
    (λ found t end same arrives.
    record {
      r = arrives.r;
      memory = arrives.memory;
      is_at = arrives.is_at;
      ready = arrives.ready;
      holds = record {
        a = arrives.holds.a;
        small = value_fits s sound is types (ready_fits context s ready) same;
        known = arrives.holds.known;
        free = λ free. absurd (not_free free);
      };
    })

pub low_of_pair : (d e n : ℕ) → e < 256 → word d e ≡ n → e ≡ n % 256
low_of_pair d e n small same = omega (arith, small, same)

-- no step is left
pub nothing_more :
    {A : Type 0} {context : Context}
    {PartIs : (before : Facts) → Part → (from : ℕ) → (after : Facts) → (to : ℕ) → Type 0}
    {facts last : Facts} {from to top budget more : ℕ} {base source memory : List ℕ} {frame : List (List ℕ)}
    {r : Registers} {events : List Event} {outcome : Outcome A} {Good : A → SourceState → State → Type 0}
    → StepsStand context PartIs facts from [] last to
    → GoesOn context facts top base source frame r memory
    → (GoesOn context last top base source frame r memory
    → Does (loaded_of context.activation) budget more (at_place to r memory events) outcome Good)
    → Does (loaded_of context.activation) budget more (at_place from r memory events) outcome Good
nothing_more NoneThere going rest = rest going

-- the low byte of a value in HL, which ends the code
pub low_of_hl :
    {context : Context} {facts last : Facts} {from to top : ℕ} {base before memory : List ℕ} {r : Registers}
    {t : SourceState} (found : ℕ) (now : Registers)
    → IsSound context
    → StepsStand context (PartDoes context) facts from (Plain (copy A L) ∷ []) last to
    → GoesOn context facts top base t.memory t.frame now memory
    → word now.h now.l ≡ found
    → Does (loaded_in context) t.budget 0 (at_place from now memory t.events) (Gave found t)
    (Arrives context.activation top base to (LowIsGiven context last r before))
low_of_hl {memory = memory} found now sound stand going same =
    registers_then (copy A L ∷ []) [] now sound (tt, tt) stand going
    (λ middle middle_facts ends going_end.
    nothing_more ends going_end
    (λ going_last. does_without_step (record {
      r = record now { a = now.l };
      memory = memory;
      is_at = refl;
      ready = going_last.ready;
      holds = record { a = low_of_pair now.h now.l found going.ready.registers.l same; known = going_last.known };
    })))

-- a location
pub location_law :
    {context : Context} {facts last : Facts} {reference : Reference} {part : TypedReference}
    {bound bound_of pushed from to : ℕ} (number : ExpressionNumber)
    → IsSound context
    → IsReference (nodes_in context) context.storage bound reference part
    → IsExpression (nodes_in context) context.storage bound_of number.index (LocationNode part)
    → TypesHold context.typed context.within (LocationNode part)
    → (is_free context.site number ≡ true → ⊥)
    → StepsStand context (PartDoes context) facts from
    (part_of (tasks.Address reference) pushed ∷ Plain (copy A L) ∷ []) last to
    → ByteCarried context facts number (LocationNode part) pushed from last to
location_law {context = context} {last = last} {part = part} {bound = bound} {from = from} {to = to} number
    sound is node types not_free (PartThere does rest) top base s r memory below room ready known nothing =
    low_given number from s r memory sound node types not_free ready
    (then_does_where
    (does bound part is (location_is_referred context part types.0) types.1 top base s r memory below
    (room_for (2 * height_of_reference part) (omega arith) room) ready known tt)
    (λ place t end same given fewer.
    let address : ℕ = address_in_memory place in
    subst (λ (state : State). Does (loaded_in context) t.budget 0 state (Gave address t)
    (Arrives context.activation top base to (LowIsGiven context last r memory))) (sym given.is_at)
    (low_of_hl address given.r sound rest (record { ready = given.ready; known = (given.holds).known })
    ((given.holds).hl ∙ sym (location_is context part place s t sound types.0 same)))))

-- INPUT
pub input_law :
    {context : Context} {facts last : Facts} {from to : ℕ} (number : ExpressionNumber) (port pushed : ℕ)
    → IsSound context
    → StepsStand context (PartDoes context) facts from (Plain (In port) ∷ []) last to
    → ByteCarried context facts number (InputNode port) pushed from last to
input_law {to = to} number port pushed sound (PlainThere there rest) top base s r memory below room
    ready known nothing =
    input_goes port sound there (record { below = below; room = room; ready = ready; known = known })
    (λ small next.
    at_end rest next
    (λ final.
    byte_given to number _ (byte_is_low _ small) small
    (λ free. record { b = refl; c = refl; d = refl; e = refl; h = refl; l = refl; same_memory = refl })
    final))

-- the low byte of a value that is in A or HL, by its type
low_of_value :
    {A : Type 0} {context : Context} {top pushed need : ℕ} {base : List ℕ} {t : SourceState}
    {facts last : Facts}
    {r : Registers} {memory : List ℕ} {from to budget more : ℕ} {outcome : Outcome A}
    {Good : A → SourceState → State → Type 0} (scalar : ScalarType) (found : ℕ)
    → IsSound context
    → InRegister scalar found r
    → StepsStand context (PartDoes context) facts from (low_of_value_steps scalar) last to
    → Stage context top pushed need base t facts r memory
    → ((now : Registers) → now.a ≡ found % 256
    → Stage context top pushed need base t last now memory
    → Does (loaded_in context) budget more (at_place to now memory t.events) outcome Good)
    → Does (loaded_in context) budget more (at_place from r memory t.events) outcome Good
unfolding low_of_value_steps
low_of_value {r = r} scalars.Byte found sound there stand stage rest =
    at_end stand stage (λ final. rest r (byte_as_low r.a found there stage.ready.registers.a) final)
low_of_value scalars.Address found sound there stand stage rest =
    at_last_instructions (copy A L ∷ []) sound (tt, tt) stand stage (λ final. rest _ there.1 final)

-- a call
pub called_law :
    {context : Context} {facts last : Facts} {from to bound bound_of : ℕ} {scalar : ScalarType}
    {trees : TypedArguments}
    (number : ExpressionNumber) (procedure : ℕ) (range : Range) (pushed : ℕ)
    → IsSound context
    → AreArguments (nodes_in context) context.storage bound range.first range.count trees
    → Takes context.typed procedure (Some scalar) trees
    → TypesHoldInArguments context.typed context.within trees
    → IsExpression (nodes_in context) context.storage bound_of number.index (CallNode procedure scalar trees)
    → (is_free context.site number ≡ true → ⊥)
    → StepsStand context (PartDoes context) facts from
    (call_steps (knowing context.site facts) procedure range pushed ++ low_of_value_steps scalar) last to
    → ByteCarried context facts number (CallNode procedure scalar trees) pushed from last to
called_law {context = context} {facts = facts} {last = last} {from = from} {to = to} {bound = bound}
    {scalar = scalar} {trees = trees} number procedure range pushed sound are takes types is not_free stand
    top base s r memory below room ready known nothing =
    low_given number from s r memory sound is (takes, types) not_free ready
    (gives_then (value_in context (CallNode procedure scalar trees) s)
    (call_does procedure range sound parts.first bound (Some scalar) trees are takes types top base s r memory
    below (room_for _ (omega arith) room) ready known tt)
    (λ found t end arrives spent.
    subst (λ (state : State). Does (loaded_in context) t.budget 0 state (Gave found t)
    (Arrives context.activation top base to (LowIsGiven context last r memory))) (sym arrives.is_at)
    (low_of_value {top = top} {pushed = pushed} {need = 2 * height_of
    (CallNode procedure scalar trees)} {base = base} {t = t}
    scalar found sound arrives.holds.lies parts.second
    (record { below = omega (arith, spent, below); room = room; ready = arrives.ready; known = arrives.holds.known })
    (λ now a final.
    does_without_step (record {
      r = now;
      memory = arrives.memory;
      is_at = refl;
      ready = final.ready;
      holds = record { a = a; known = final.known };
    })))))
  where
    parts : Parted context (PartDoes context) facts from
        (call_steps (knowing context.site facts) procedure range pushed) (low_of_value_steps scalar) last to
    parts = steps_split (call_steps (knowing context.site facts) procedure range pushed)
        (low_of_value_steps scalar) stand
