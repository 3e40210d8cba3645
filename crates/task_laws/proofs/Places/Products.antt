-- Assumptions about the code of products, and their use.
use Rattle.task_laws.proofs.Prelude.{◌≡◌, ℕ, ◌*◌, ◌%◌, ◌<◌, ◌≤◌, List, sym, subst, Address, height_of, type_of, TypedExpression, TypesHold, value, SourceState, Outcome, then_do, Registers, State, word, ExpressionNumber, IsExpression, Does, loaded_of, at_place, HasRoom, then_does, Facts, keeps, product_steps, Context, nodes_in, StepsStand, Carries, Know, Left, Nothing, PartDoes}
use Rattle.task_laws.proofs.Machine.Rules.{GoesOn, room_for}

-- a value times a number, modulo the size of memory, is in HL; A and DE are left alone where the tree says so
pub record ProductIsGiven
    (context : Context) (after : Facts) (index : ExpressionNumber) (stride : ℕ)
    (r : Registers) (memory : List ℕ) (found : ℕ) (now : Registers) (memory_now : List ℕ) : Type 0 where
  pub hl : word now.h now.l ≡ (found * stride) % 65536
  pub known : Know context after now memory_now
  pub a : Left (keeps context.site index).a r.a now.a
  pub d : Left (keeps context.site index).de r.d now.d
  pub e : Left (keeps context.site index).de r.e now.e

abbrev pub ProductDoes :
    Context → (before : Facts) → (index : ExpressionNumber) → (stride pushed from : ℕ)
    → (after : Facts) → (to : ℕ) → Type 0
ProductDoes context before index stride pushed from after to =
    (bound : ℕ) (tree : TypedExpression)
    → IsExpression (nodes_in context) context.storage bound index.index tree
    → TypesHold context.typed context.within tree
    → type_of tree ≡ Address
    → Carries context before pushed (2 * height_of tree) 0 from to Nothing
    (value context.later context.activation.around tree)
    (ProductIsGiven context after index stride)

-- the code of each product with a stride below the size of memory does so
abbrev pub ProductsDo : Context → Type 0
ProductsDo context =
    (facts last : Facts) (index : ExpressionNumber) (stride pushed from to : ℕ)
    → stride < 65536
    → StepsStand context (PartDoes context) facts from (product_steps index stride pushed) last to
    → ProductDoes context facts index stride pushed from last to

-- a product, and then others
pub product_then :
    {B : Type 0} {more : ℕ} {go : ℕ → SourceState → Outcome B} {Good : B → SourceState → State → Type 0}
    {context : Context} {facts found : Facts} {index : ExpressionNumber}
    {stride pushed middle bound top need : ℕ}
    {base : List ℕ} {tree : TypedExpression} (from : ℕ) (s : SourceState) (r : Registers) (memory : List ℕ)
    → ProductDoes context facts index stride pushed from found middle
    → IsExpression (nodes_in context) context.storage bound index.index tree
    → TypesHold context.typed context.within tree
    → type_of tree ≡ Address
    → s.budget < context.number
    → HasRoom context.activation top pushed need
    → 2 * height_of tree ≤ need
    → GoesOn context facts top base s.memory s.frame r memory
    → ((n : ℕ) (t : SourceState) (now : Registers) (ended : List ℕ)
    → t.budget ≤ s.budget
    → GoesOn context found top base t.memory t.frame now ended
    → ProductIsGiven context found index stride r memory n now ended
    → Does (loaded_of context.activation) t.budget more
    (at_place middle now ended t.events) (go n t) Good)
    → Does (loaded_of context.activation) s.budget more (at_place from r memory s.events)
    (then_do (value context.later context.activation.around tree s) go) Good
product_then {more = more} {go = go} {Good = Good} {context = context} {bound = bound} {top = top}
    {base = base} {tree = tree} from s r memory does is types address less room high on rest =
    then_does
    (does bound tree is types address top base s r memory less (room_for (2 * height_of tree) high room)
    on.ready on.known tt)
    (λ n t end given fewer.
    subst (λ (state : State). Does (loaded_of context.activation) t.budget more state (go n t) Good)
    (sym given.is_at)
    (rest n t given.r given.memory fewer
    (record { ready = given.ready; known = (given.holds).known }) given.holds))
