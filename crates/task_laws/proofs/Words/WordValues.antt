-- Values in HL that are not computed: words in memory, locations, assignments within expressions, and calls.
use Rattle.task_laws.proofs.Prelude.{◌≡◌, ℕ, ◌+◌, ◌*◌, ◌/◌, ◌%◌, ◌<◌, ◌&&◌, Bool, true, List, [], ◌∷◌, Option, Some, None, is_some, refl, sym, ap, ◌∙◌, subst, arith, IsSomeAnd, slice_get, MEMORY_SIZE, ScalarType, height_of_reference, type_of, type_of_target, IsPartOf, TypedHome, InData, InConstants, Placed, BasedOn, Elsewhere, Nowhere, InFrame, TypedExpression, TypedArguments, TypedObject, TypedReference, TypedTarget, AssignmentNode, CallNode, LocationNode, PartOf, SentTo, StoredIn, ValueNode, HasLocation, IsSeen, RefersToLocation, TypesHold, TypesHoldInTarget, InMemory, home_of, place_of, read_scalar, address_in_memory, based_place, displacement, located, stored, SourceState, Outcome, Gave, then_do, values_of, Registers, State, word, ExpressionNumber, Range, Static, Reference, Target, AreArguments, IsExpression, IsReference, IsTarget, IsStored, IsSent, source, keeps_none, keeps_of_form, place_of_reference, Does, Loaded, loaded_of, Activation, Arrives, does_without_step, Facts, part_of, keeps, keeps_of_address, word_in_memory_steps, embedded_steps, call_steps, value_task, knowing, Context, InRegister, IsSound, nodes_in, StepsStand, PartThere, IsReferred, IsStoredThere, PartDoes, ResultIsGiven, WordIsGiven, address_on_machine, same_given}
use Rattle.trees.specs.declared.declaration.ScalarType.TheVariants as scalars
use Rattle.meaning.specs.Access.{Place}
use Rattle.treecode.specs.declared.expression.ExpressionForm.TheVariants as forms
use Rattle.steps8080.specs.declared.step.Task.TheVariants as tasks
use Rattle.task_laws.proofs.Places.Bases.{has_some, home_there}
use Rattle.task_laws.proofs.Calls.Calls.{call_does}
use Rattle.task_laws.proofs.Stores.EmbeddedBytes.{does_less}
use Rattle.task_laws.proofs.Places.Fitting.{gave_first}
use Rattle.task_laws.proofs.Machine.KnownOperands.{bytes_differ}
use Rattle.task_laws.proofs.Loads.Loads.{WordIsLoaded, word_in_memory_law}
use Rattle.task_laws.proofs.Words.PairedWords.{kept_none}
use Rattle.task_laws.proofs.Machine.Rules.{room_for}
use Rattle.task_laws.proofs.Machine.Stages.{at_carried, at_end, at_word, gives_then}
use Rattle.task_laws.proofs.Places.StaticPlaces.{static_location}
use Rattle.task_laws.proofs.Machine.Values.{then_does_where, word_ends, word_given}
use Rattle.task_laws.proofs.Words.WordArithmetic.{word_below}
use Rattle.task_laws.proofs.Words.WordRoutines.{word_given_by}
use Rattle.task_laws.proofs.Words.CarriedWords.{IsCarriedOut}

-- the end of code, with a property in another form
pub ends_with :
    {A : Type 0} {loaded : Loaded} {activation : Activation} {budget top to : ℕ}
    {base : List ℕ} {from : State}
    {Holds Other : A → Registers → List ℕ → Type 0} (outcome : Outcome A)
    → Does loaded budget 0 from outcome (Arrives activation top base to Holds)
    → ((found : A) (now : Registers) (ended : List ℕ) → Holds found now ended → Other found now ended)
    → Does loaded budget 0 from outcome (Arrives activation top base to Other)
ends_with outcome does turn =
    gives_then outcome does
    (λ found t end arrives spent.
    does_without_step (record {
      r = arrives.r;
      memory = arrives.memory;
      is_at = arrives.is_at;
      ready = arrives.ready;
      holds = turn found arrives.r arrives.memory arrives.holds;
    }))

-- a word in memory
pub value_carried :
    {context : Context} {facts last : Facts} {number : ExpressionNumber} {reference : Reference}
    {part : TypedReference}
    {bound pushed from to : ℕ}
    → IsSound context
    → IsReference (nodes_in context) context.storage bound reference part
    → TypesHold context.typed context.within (ValueNode scalars.Address part)
    → keeps context.site number ≡ keeps_of_form (nodes_in context) scalars.Address (forms.Value reference)
    → StepsStand context (PartDoes context) facts from
    (word_in_memory_steps (knowing context.site facts) reference pushed) last to
    → IsCarriedOut context facts number (ValueNode scalars.Address part) scalars.Address pushed from last to
unfolding keeps_of_address
value_carried {context = context} {facts = facts} {last = last} {number = number} {reference = reference}
    {part = part} sound is types kept stand = λ top need base s r memory less room height going.
    ends_with _
    (word_in_memory_law sound stand is types.0 types.1 top base s r memory less
    (room_for (2 * height_of_reference part) height room) going.ready going.known tt)
    (λ found now ended (loaded : WordIsLoaded context facts last reference r memory found now ended). record {
      h = loaded.h;
      l = loaded.l;
      small = loaded.small;
      known = loaded.known;
      a = λ kept_a.
          let some : is_some (place_of_reference (nodes_in context) reference) ≡ true =
          sym (ap (λ of. of.a) kept) ∙ kept_a in
          let static = static_location context facts reference some in
          loaded.a (Static static.0) static.1 refl;
      d = λ kept_de. loaded.d (sym (ap (λ of. of.de) kept) ∙ kept_de);
      e = λ kept_de. loaded.e (sym (ap (λ of. of.de) kept) ∙ kept_de);
    })

-- a part with a location is in memory, at the address of its place
based_location :
    (context : Context) (object bytes : ℕ) (is_inside : Bool) (found : TypedObject)
    (place : Place) (s u : SourceState)
    → IsSound context
    → slice_get context.typed.objects object ≡ Some found
    → HasLocation found.home
    → based_place (home_of context.activation.around object) context.activation.around object bytes
    is_inside s ≡ Gave place u
    → address_in_memory place ≡ address_on_machine context.activation place
based_location context object bytes is_inside found place s u sound is has same =
    by_kind found.home has
    (sym (ap (λ (kind : TypedHome). based_place kind context.activation.around object bytes is_inside s)
    (home_there context object found sound is)) ∙ same)
  where
    in_memory : (address : ℕ) → InMemory address ≡ place
        → address_in_memory place ≡ address_on_machine context.activation place
    in_memory address is_there =
        subst (λ (place : Place). address_in_memory place ≡ address_on_machine context.activation place)
        is_there refl

    by_kind : (kind : TypedHome) → HasLocation kind
        → based_place kind context.activation.around object bytes is_inside s ≡ Gave place u
        → address_in_memory place ≡ address_on_machine context.activation place
    by_kind (BasedOn base) has same =
        let given =
        gave_first
        (read_scalar context.activation.around.program scalars.Address
        (place_of context.activation.around base) s)
        (λ start t. Gave (InMemory ((start + bytes) % MEMORY_SIZE)) t) place u same in
        in_memory ((given.first + bytes) % MEMORY_SIZE) (same_given given.next)
    by_kind (InFrame procedure) has same = absurd has
    by_kind (InData values) has same = in_memory _ (same_given same)
    by_kind (InConstants values) has same = in_memory _ (same_given same)
    by_kind (Placed at) has same = in_memory _ (same_given same)
    by_kind Elsewhere has same = in_memory _ (same_given same)
    by_kind Nowhere has same = in_memory _ (same_given same)

pub location_is :
    (context : Context) (tree : TypedReference) (place : Place) (s u : SourceState)
    → IsSound context
    → RefersToLocation context.typed context.within tree
    → located context.later context.activation.around tree s ≡ Gave place u
    → address_in_memory place ≡ address_on_machine context.activation place
location_is context (PartOf object subscript member offset member_subscript) place s u sound refers same =
    let its = has_some (slice_get context.typed.objects object) refers in
    let one = gave_first (displacement context.later context.activation.around subscript s)
    (λ one t. then_do (displacement context.later context.activation.around member_subscript t)
    (λ two u. based_place (home_of context.activation.around object) context.activation.around object
    (one.bytes + offset + two.bytes) (one.is_inside && two.is_inside) u)) place u same in
    let two = gave_first (displacement context.later context.activation.around member_subscript one.t)
    (λ two u. based_place (home_of context.activation.around object) context.activation.around object
    ((one.first).bytes + offset + two.bytes) ((one.first).is_inside && two.is_inside) u) place u one.next in
    based_location context object ((one.first).bytes + offset + (two.first).bytes)
    ((one.first).is_inside && (two.first).is_inside) its.found place two.t u sound its.is its.holds.1 two.next

pub location_is_referred :
    (context : Context) (tree : TypedReference)
    → RefersToLocation context.typed context.within tree
    → IsReferred context tree
location_is_referred context (PartOf object subscript member offset member_subscript) refers =
    by_found (slice_get context.typed.objects object) refers
  where
    by_found : (found : Option TypedObject)
        → IsSomeAnd found
        (λ (object_found : TypedObject). IsSeen context.typed context.within object_found.home
        × HasLocation object_found.home
        × IsPartOf object_found (PartOf object subscript member offset member_subscript))
        → IsSomeAnd found
        (λ (object_found : TypedObject). IsSeen context.typed context.within object_found.home)
    by_found (Some found) is = is.0
    by_found None is = absurd is

below_memory : (n h l : ℕ) → h < 256 → l < 256 → word h l ≡ n → n < 65536
below_memory n h l one two same = omega (arith, one, two, same)

-- a location
pub location_carried :
    {context : Context} {facts last : Facts} {number : ExpressionNumber} {reference : Reference}
    {part : TypedReference}
    {bound pushed from to : ℕ}
    → IsSound context
    → IsReference (nodes_in context) context.storage bound reference part
    → TypesHold context.typed context.within (LocationNode part)
    → keeps context.site number ≡ keeps_of_form (nodes_in context) scalars.Address (forms.Location reference)
    → StepsStand context (PartDoes context) facts from (part_of (tasks.Address reference) pushed ∷ []) last to
    → IsCarriedOut context facts number (LocationNode part) scalars.Address pushed from last to
unfolding keeps_of_address
location_carried {context = context} {last = last} {number = number} {reference = reference} {part = part}
    {bound = bound} {to = to} sound is types kept
    (PartThere {found = found_facts} {middle = middle} does rest) =
    λ top need base s r memory less room height going.
    then_does_where
    (does bound part is (location_is_referred context part types.0) types.1 top base s r memory less
    (room_for (2 * height_of_reference part) height room) going.ready going.known tt)
    (λ place t end same given fewer.
    let now : Registers = given.r in
    let bytes = given.ready.registers in
    let address : ℕ = address_in_memory place in
    let hl : word now.h now.l ≡ address =
    (given.holds).hl ∙ sym (location_is context part place s t sound types.0 same) in
    subst (λ (state : State). Does (loaded_of context.activation) t.budget 0 state (Gave address t)
    (Arrives context.activation top base to (WordIsGiven context last number scalars.Address r memory)))
    (sym given.is_at)
    (word_ends t rest (below_memory address now.h now.l bytes.h bytes.l hl)
    (word_given_by address now.h now.l bytes.h bytes.l hl now refl refl)
    (record {
      a = λ kept_a. (given.holds).a (sym (ap (λ of. of.a) kept) ∙ kept_a);
      d = λ kept_de. (given.holds).d (sym (ap (λ of. of.de) kept) ∙ kept_de);
      e = λ kept_de. (given.holds).e (sym (ap (λ of. of.de) kept) ∙ kept_de);
    })
    (record { ready = given.ready; known = (given.holds).known })))

-- an ADDRESS that is assigned
source_is : (context : Context) {bound : ℕ} {target : Target} {tree : TypedTarget}
    → IsTarget (nodes_in context) context.storage bound target tree
    → source target ≡ type_of_target tree
source_is context (IsStored reference) = refl
source_is context IsSent = refl

target_holds : (context : Context) (scalar : ScalarType) (tree : TypedTarget)
    → TypesHoldInTarget context.typed context.within scalar tree
    → type_of_target tree ≡ scalar
target_holds context scalar (StoredIn from to reference) types = types.0
target_holds context scalar (SentTo from port) types = types.0

pub embedded_carried :
    {context : Context} {facts last : Facts} {number inner : ExpressionNumber} {target : Target}
    {place : TypedTarget}
    {inside : TypedExpression} {bound pushed from to : ℕ}
    → IsSound context
    → IsTarget (nodes_in context) context.storage bound target place
    → IsExpression (nodes_in context) context.storage bound inner.index inside
    → TypesHold context.typed context.within (AssignmentNode place inside)
    → type_of_target place ≡ scalars.Address
    → keeps context.site number ≡ keeps_none
    → StepsStand context (PartDoes context) facts from (embedded_steps target inner true pushed) last to
    → IsCarriedOut context facts number (AssignmentNode place inside) scalars.Address pushed from last to
unfolding embedded_steps value_task
embedded_carried {context = context} {facts = facts} {last = last} {number = number} {inner = inner}
    {target = target} {place = place} {inside = inside} {bound = bound} {pushed = pushed} {from = from}
    {to = to} sound is_target node types is_address none stand =
    by (source target) (source_is context is_target ∙ is_address) stand
  where
    inside_is : type_of inside ≡ scalars.Address
    inside_is = sym (target_holds context (type_of inside) place types.1) ∙ is_address

    by : (scalar : ScalarType) → scalar ≡ scalars.Address
        → StepsStand context (PartDoes context) facts from
        (part_of (value_task scalar inner) pushed ∷ part_of (tasks.Store target true) pushed ∷ []) last to
        → IsCarriedOut context facts number (AssignmentNode place inside) scalars.Address pushed from last to
    by scalars.Byte same stand = bytes_differ same
    by scalars.Address same (PartThere does (PartThere stores ends)) =
        λ top need base s r memory less room height going.
        at_word _ _ _ does node types.0 (omega (arith, height))
        (record { below = less; room = room; ready = going.ready; known = going.known })
        (λ v u now memory_now is given next.
        at_carried {top = top} {need = need} {base = base} _ _ _
        (λ top_there base_there u_there r_there memory_there below_there room_there ready_there known_there in_hl.
        does_less (stored context.later context.activation.around place v u_there)
        (stores bound v (type_of inside) place is_target types.1 given.small top_there base_there u_there
        r_there memory_there below_there room_there ready_there known_there in_hl))
        (omega (arith, height))
        (subst (λ scalar. InRegister scalar v now) (sym inside_is) (given.h, given.l))
        (λ found late memory_late (kept : IsStoredThere context _ (type_of inside) true v now memory_now found late memory_late). kept.known) next
        (λ found t late memory_late stored_is kept final_stage. at_end ends final_stage
        (λ final.
        let hl : (late.h ≡ v / 256) × (late.l ≡ v % 256) =
        subst (λ scalar. InRegister scalar v late) inside_is (kept.wanted refl) in
        word_given t (subst (λ (scalar : ScalarType). v < values_of scalar) inside_is given.small)
        (record { h = hl.0; l = hl.1 }) (kept_none context number r late none)
        (record { ready = final.ready; known = final.known }))))

-- the result of a call
pub call_carried :
    {context : Context} {facts last : Facts} {number : ExpressionNumber} {trees : TypedArguments}
    {bound pushed from to : ℕ} (procedure : ℕ) (range : Range)
    → IsSound context
    → AreArguments (nodes_in context) context.storage bound range.first range.count trees
    → TypesHold context.typed context.within (CallNode procedure scalars.Address trees)
    → keeps context.site number ≡ keeps_none
    → StepsStand context (PartDoes context) facts from
    (call_steps (knowing context.site facts) procedure range pushed) last to
    → IsCarriedOut context facts number (CallNode procedure scalars.Address trees)
    scalars.Address pushed from last to
call_carried {context = context} {facts = facts} {last = last} {number = number} {trees = trees}
    {bound = bound} procedure range sound are types none stand =
    λ top need base s r memory less room height going.
    gives_then _
    (call_does procedure range sound stand bound (Some scalars.Address) trees are types.0 types.1 top
    base s r memory less
    (room_for _ height room) going.ready going.known tt)
    (λ found t end arrives spent.
    let given : ResultIsGiven context last (Some scalars.Address) r memory found arrives.r arrives.memory =
    arrives.holds in
    let kept = kept_none context number r arrives.r none in
    does_without_step (record {
      r = arrives.r;
      memory = arrives.memory;
      is_at = arrives.is_at;
      ready = arrives.ready;
      holds = record {
        h = given.lies.0;
        l = given.lies.1;
        small = word_below found arrives.r.h arrives.r.l given.lies.0 arrives.ready.registers.h;
        known = given.known;
        a = kept.a;
        d = kept.d;
        e = kept.e;
      };
    }))
