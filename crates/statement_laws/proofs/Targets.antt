-- Targets that get a value that is in a register, one after another.
use Rattle.statement_laws.proofs.Prelude.{◌≡◌, ℕ, suc, ◌+◌, ◌-◌, ◌*◌, ◌%◌, ◌<◌, ◌≤◌, Bool, true, false, if◌then◌else◌, nat_lt, List, [], ◌∷◌, ◌++◌, slice_get, Option, Some, None, refl, sym, ap, subst, ◌∙◌, arith, option_and_then, lt-ltb, ScalarType, Byte, Address, height_of, height_of_target, height_of_targets, type_of, TypedExpression, TypedTarget, StoredIn, SentTo, TypesHold, TypesHoldInTarget, TypesHoldInTargets, write_scalar, located, stored, stored_in_each, value, SourceState, Outcome, Gave, then_do, Onward, as_type, values_of, Registers, State, write_event, ExpressionNumber, Range, Target, AreTargets, IsExpression, IsSent, IsStored, IsTarget, MoreTargets, NoTargets, target_at, Does, at_place, Facts, Site, value_task, Planned, from_type, store_at, takes_word, part, steps_from, Here, InRegister, nodes_in, ByteIsGiven, StoreDoes, TaskDoes, WordIsGiven, then_again, at_byte, at_word, does_same, loaded_in, at_store, BodyContext, IsSoundBody, Leaves, low_of_byte, value_is_word}
use Rattle.steps8080.specs.declared.step.Task.TheVariants as tasks
use Rattle.statement_laws.proofs.FirstSteps.{Stand, steps_ended, going, part_first}
use Rattle.statement_laws.proofs.Outcomes.{Between, ends_onward}
use Rattle.statement_laws.proofs.Numbers.{low_of_low}

-- the target of a value that is there in a type
abbrev pub retyped : TypedTarget → ScalarType → TypedTarget
retyped (StoredIn from to part) there = StoredIn there to part
retyped (SentTo from port) there = SentTo there port

pub retyped_is :
    (at : BodyContext) (bound : ℕ) (target : Target) (tree : TypedTarget) (there : ScalarType)
    → IsTarget (nodes_in at.context) at.context.storage bound target tree
    → IsTarget (nodes_in at.context) at.context.storage bound (from_type target there) (retyped tree there)
retyped_is at bound _ _ there (IsStored is) = IsStored is
retyped_is at bound _ _ there IsSent = IsSent

pub retyped_types :
    (at : BodyContext) (scalar there : ScalarType) (tree : TypedTarget)
    → TypesHoldInTarget at.context.typed at.context.within scalar tree
    → TypesHoldInTarget at.context.typed at.context.within there (retyped tree there)
retyped_types at scalar there (StoredIn from to part) types = (refl, types.1, types.2)
retyped_types at scalar there (SentTo from port) types = (refl, types.1)

pub retyped_height : (tree : TypedTarget) (there : ScalarType)
    → height_of_target (retyped tree there) ≡ height_of_target tree
retyped_height (StoredIn from to part) there = refl
retyped_height (SentTo from port) there = refl

-- two values of which a target takes the same
abbrev pub Suits : TypedTarget → (number other : ℕ) → Type 0
Suits (StoredIn from to part) number other = as_type to other ≡ as_type to number
Suits (SentTo from port) number other = other % 256 ≡ number % 256

pub stored_alike :
    (at : BodyContext) (tree : TypedTarget) (there : ScalarType) (number other : ℕ) (s : SourceState)
    → Suits tree number other
    → stored at.context.later at.context.activation.around (retyped tree there) other s
    ≡ stored at.context.later at.context.activation.around tree number s
stored_alike at (StoredIn from to part) there number other s suits =
    ap (λ (n : ℕ). then_do (located at.context.later at.context.activation.around part s)
    (λ place t. write_scalar at.context.activation.around.program to place n t)) suits
stored_alike at (SentTo from port) there number other s suits =
    ap (λ (n : ℕ). Gave (tt {0}) (record s { events = s.events ++ write_event port n ∷ [] })) suits

-- a value in a register goes to a target
pub target_stored :
    {B : Type 0} {need more bound : ℕ} {base : List ℕ} {t : SourceState} {facts found : Facts} {r : Registers}
    {memory : List ℕ} {is_wanted : Bool} {Good : B → SourceState → State → Type 0}
    (at : BodyContext) (scalar there : ScalarType) (from middle number other : ℕ) (target : Target)
    (tree : TypedTarget)
    (go : Unit {0} → SourceState → Outcome B)
    → StoreDoes at.context facts (from_type target there) is_wanted 0 from found middle
    → IsTarget (nodes_in at.context) at.context.storage bound target tree
    → TypesHoldInTarget at.context.typed at.context.within scalar tree
    → Suits tree number other
    → other < values_of there
    → 2 + 2 * height_of_target tree ≤ need
    → InRegister there other r
    → Between at need base t facts r memory
    → ((u : SourceState) (now : Registers) (memory_now : List ℕ)
    → (is_wanted ≡ true → InRegister there other now)
    → Between at need base u found now memory_now
    → Does (loaded_in at.context) u.budget more (at_place middle now memory_now u.events) (go tt u) Good)
    → Does (loaded_in at.context) t.budget more (at_place from r memory t.events)
    (then_do (stored at.context.later at.context.activation.around tree number t) go) Good
target_stored {need = need} {bound = bound} {t = t} at scalar there from middle number other target tree go
    does is types suits small fits has stage rest =
    let high = retyped_height tree there in
    does_same _
    (ap (λ (outcome : Outcome (Unit {0})). then_do outcome go)
    (sym (stored_alike at tree there number other t suits)))
    (at_store there from middle other (from_type target there) go does
    (retyped_is at bound target tree there is)
    (retyped_types at scalar there tree types) small (omega (arith, high, fits)) has stage rest)

-- what is in a register of a value
abbrev pub as_register : ScalarType → ℕ → ℕ
as_register Byte number = number % 256
as_register Address number = number

low_small : (n : ℕ) → n % 256 < 256
low_small n = omega arith

-- a value into a register of any type
pub at_any_value :
    {B : Type 0} {need more bound : ℕ} {base : List ℕ} {t : SourceState} {facts found_facts : Facts}
    {r : Registers} {memory : List ℕ} {tree : TypedExpression} {go : ℕ → SourceState → Outcome B}
    {Good : B → SourceState → State → Type 0} (at : BodyContext) (there : ScalarType) (from middle : ℕ)
    (of : ExpressionNumber)
    → TaskDoes at.context facts (value_task there of) 0 from found_facts middle
    → IsExpression (nodes_in at.context) at.context.storage bound of.index tree
    → TypesHold at.context.typed at.context.within tree
    → 2 * height_of tree ≤ need
    → Between at need base t facts r memory
    → ((found : ℕ) (u : SourceState) (now : Registers) (memory_now : List ℕ)
    → InRegister there (as_register there found) now
    → as_register there found < values_of there
    → found < values_of (type_of tree)
    → Between at need base u found_facts now memory_now
    → Does (loaded_in at.context) u.budget more (at_place middle now memory_now u.events) (go found u) Good)
    → Does (loaded_in at.context) t.budget more (at_place from r memory t.events)
    (then_do (value at.context.later at.context.activation.around tree t) go) Good
unfolding value_task
at_any_value {found_facts = found_facts} {r = r} {memory = memory} {tree = tree} at Byte from middle of does
    node types fewer stage rest =
    at_byte from middle of does node types fewer stage
    (λ found u now memory_now is (given : ByteIsGiven at.context found_facts of (type_of tree) r memory found now memory_now) next.
    rest found u now memory_now given.a (low_small found) given.small next)
at_any_value {found_facts = found_facts} {r = r} {memory = memory} {tree = tree} at Address from middle of
    does node types fewer stage rest =
    at_word from middle of does node types fewer stage
    (λ found u now memory_now is (given : WordIsGiven at.context found_facts of (type_of tree) r memory found now memory_now) next.
    rest found u now memory_now (given.h, given.l)
    (value_is_word (type_of tree) found given.small) given.small next)

-- what a register has of a value suits a target: an ADDRESS always, a BYTE where the value or the target is
-- one
pub address_suits : (tree : TypedTarget) (number : ℕ) → Suits tree number (as_register Address number)
address_suits (StoredIn from to part) number = refl
address_suits (SentTo from port) number = refl

pub small_suits : (tree : TypedTarget) (number : ℕ) → number < 256
    → Suits tree number (as_register Byte number)
small_suits (StoredIn from to part) number small = ap (as_type to) (low_of_byte number small)
small_suits (SentTo from port) number small = low_of_low number

pub byte_suits :
    (at : BodyContext) (bound : ℕ) (target : Target) (tree : TypedTarget) (number : ℕ)
    → IsTarget (nodes_in at.context) at.context.storage bound target tree
    → takes_word target ≡ false
    → Suits tree number (as_register Byte number)
byte_suits at bound _ _ number (IsStored {to = Byte} is) no_word = low_of_low number
byte_suits at bound _ _ number (IsStored {to = Address} is) no_word = let never : ⊥ = cc in absurd never
byte_suits at bound _ _ number IsSent no_word = low_of_low number

-- the target of an index
pub target_of_index :
    (at : BodyContext) (targets : Range) (index first : ℕ) (target : Target)
    → IsSoundBody at
    → first ≡ targets.first + index
    → index < targets.count
    → slice_get (nodes_in at.context).targets first ≡ Some target
    → target_at at.body.tree.now targets index ≡ Some target
target_of_index at targets index first target sound place less is =
    sym (ap (λ (site : Site). target_at site.tree.now targets index) sound.site)
    ∙ ap (λ (b : Bool). option_and_then (λ (n : ℕ). slice_get (nodes_in at.context).targets n)
    (if b then Some (targets.first + index) else None))
    (lt-ltb index targets.count less)
    ∙ ap (λ (n : ℕ). slice_get (nodes_in at.context).targets n) (sym place)
    ∙ is

-- a value in a register goes to all targets from an index on
pub targets_stored :
    {at : BodyContext} {need : ℕ} {base : List ℕ} {to before : ℕ} {last : Here} (scalar there : ScalarType)
    (targets : Range) (number other : ℕ) {first left : ℕ} {trees : List TypedTarget}
    (are : AreTargets (nodes_in at.context) at.context.storage first left trees)
    (index : ℕ) (here : Here) (from : ℕ) (t : SourceState) (r : Registers) (memory : List ℕ)
    → IsSoundBody at
    → first ≡ targets.first + index
    → index + left ≡ targets.count
    → TypesHoldInTargets at.context.typed at.context.within scalar trees
    → ((bound place : ℕ) (target : Target) (tree : TypedTarget)
    → target_at at.body.tree.now targets place ≡ Some target
    → place < targets.count
    → IsTarget (nodes_in at.context) at.context.storage bound target tree
    → Suits tree number other)
    → other < values_of there
    → 2 + 2 * height_of_targets trees ≤ need
    → (0 < left → InRegister there other r)
    → here.goes_on ≡ true
    → Stand at here None from (steps_from (store_at at.body targets there) index left) last to
    → Between at need base t here.facts r memory
    → Does (loaded_in at.context) t.budget 0 (at_place from r memory t.events)
    (then_do (stored_in_each at.context.later at.context.activation.around trees number t)
    (λ _ u. Gave Onward u))
    (Leaves at base to last before)
targets_stored scalar there targets number other NoTargets index here from t r memory sound place count types
    suits small fits has goes stand stage =
    ends_onward (steps_ended stand) goes stage
targets_stored {at = at} {need = need} {base = base} {to = to} {before = before} {last = last} scalar there
    targets number other
    (MoreTargets {first = first} {count = left} {target = target} {tree = tree} {others = others} is_there is
    are) index here from t r memory sound place count types suits small fits has goes stand stage =
    let less : index < targets.count = omega (arith, count) in
    let found = target_of_index at targets index first target sound place less is_there in
    let store = part_first
    (subst (λ (one : Option Target). Stand at here None from
    (elim one as (λ (given : Option Target). List Planned) [
      | Some given ↦ part (tasks.Store (from_type given there) (nat_lt index (targets.count - 1))) 0 ∷ []
      | None ↦ []
    ] ++ steps_from (store_at at.body targets there) (suc index) left) last to) found stand) in
    does_same _
    (then_again (stored at.context.later at.context.activation.around tree number t)
    (λ _ u. stored_in_each at.context.later at.context.activation.around others number u)
    (λ _ u. Gave Onward u))
    (target_stored at scalar there from store.middle number other target tree
    (λ _ u. then_do (stored_in_each at.context.later at.context.activation.around others number u)
    (λ _ v. Gave Onward v))
    store.does is types.0 (suits _ index target tree found less is) small (omega (arith, fits))
    (has (omega arith)) stage
    (λ u now memory_now wanted next.
    targets_stored scalar there targets number other are (suc index) (going here.goes_on store.known)
    store.middle u now memory_now sound
    (omega (arith, place)) (omega (arith, count)) types.1 suits small (omega (arith, fits))
    (λ some. wanted (lt-ltb index (targets.count - 1) (omega (arith, some, count)))) goes store.rest next))
