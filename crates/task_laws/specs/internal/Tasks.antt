-- Code that carries out a task.
use Rattle.std.specs.Prelude.{◌≡◌, ℕ, ◌+◌, ◌*◌, ◌/◌, ◌%◌, ◌<◌, Bool, true, not, List, Option, IsSomeAnd, slice_get}
use Rattle.trees.specs.declared.declaration.ScalarType.{ScalarType}
use Rattle.typed_trees.specs.Charge.{height_of, height_of_reference, height_of_target, count_of_arguments, height_of_arguments}
use Rattle.typed_trees.specs.ExpressionTypes.{type_of}
use Rattle.typed_trees.specs.TypedTrees.{TypedArguments, TypedExpression, TypedObject, TypedReference, PartOf, TypedTarget}
use Rattle.typed_trees.specs.WellTyped.{IsSeen, Takes, TypesHold, TypesHoldInArguments, TypesHoldInReference, TypesHoldInTarget}
use Rattle.meaning.specs.Access.{InMemory, InTheFrame, Place}
use Rattle.meaning.specs.Meaning.{called_for, callee_in, located, stored, value, values}
use Rattle.meaning.specs.Outcomes.{Outcome, State as SourceState, then_do}
use Rattle.meaning.specs.Values.{is_true, values_of}
use Rattle.isa8080.specs.State.{Registers, State, word, wrap}
use Rattle.isa8080.specs.Step.{step_of}
use Rattle.treecode.specs.declared.expression.ExpressionNumber.{ExpressionNumber}
use Rattle.treecode.specs.declared.lists.Range.{Range}
use Rattle.treecode.specs.declared.reference.Reference.{Reference}
use Rattle.treecode.specs.declared.reference.Target.{Target}
use Rattle.treecode.specs.internal.Lowered.{AreArguments, IsExpression, IsReference, IsTarget}
use Rattle.code_meaning.specs.internal.Activations.{Activation, Arrives, HasRoom, IsReady, loaded_of}
use Rattle.code_meaning.specs.Landing.{Does, at_place}
use Rattle.code_meaning.specs.internal.Holding.{FactsHold}
use Rattle.steps8080.specs.declared.facts.Facts.{Facts}
use Rattle.steps8080.specs.declared.step.LabelNumber.{LabelNumber}
use Rattle.steps8080.specs.declared.step.Part.{Part}
use Rattle.steps8080.specs.declared.step.Task.{Task}
use Rattle.steps8080.specs.declared.step.Task.TheVariants as tasks
use Rattle.steps8080.specs.internal.Queries.{is_free, keeps, keeps_of_address}
use Rattle.task_laws.specs.internal.Conditions.{jumps_once}
use Rattle.task_laws.specs.internal.Contexts.{Context, InRegister, ResultLies, distances_in, nodes_in}

-- facts hold in the activation of a context
abbrev pub Know : Context → Facts → Registers → (memory : List ℕ) → Type 0
Know context facts r memory = FactsHold context.activation (distances_in context) facts r memory

-- Code from one place to another, with `pushed` bytes pushed and room for `need` bytes, does what is meant,
-- if the facts `before` and `Asked` hold at its start. It takes at least `more` steps beyond what it spends
-- of the budget. `Holds` is what holds at its end, given the registers and memory at its start.
abbrev pub Carries :
    {A : Type 0} → Context → (before : Facts) → (pushed need more from to : ℕ)
    → (Asked : Registers → Type 0)
    → (meant : SourceState → Outcome A)
    → (Holds : Registers → List ℕ → A → Registers → List ℕ → Type 0)
    → Type 0
Carries context before pushed need more from to Asked meant Holds =
    (top : ℕ) (base : List ℕ) (s : SourceState) (r : Registers) (memory : List ℕ)
    → s.budget < context.number
    → HasRoom context.activation top pushed need
    → IsReady context.activation top base s.memory s.frame r memory
    → Know context before r memory
    → Asked r
    → Does (loaded_of context.activation) s.budget more (at_place from r memory s.events) (meant s)
    (Arrives context.activation top base to (Holds r memory))

-- no condition
abbrev pub Nothing : Registers → Type 0
Nothing r = Unit {0}

-- B, C, D, E, H and L are unchanged, and so is the memory
pub record ChangesAOnly (r : Registers) (memory : List ℕ) (now : Registers)
    (memory_now : List ℕ) : Type 0 where
  pub b : now.b ≡ r.b
  pub c : now.c ≡ r.c
  pub d : now.d ≡ r.d
  pub e : now.e ≡ r.e
  pub h : now.h ≡ r.h
  pub l : now.l ≡ r.l
  pub same_memory : memory_now ≡ memory

-- the low byte of a value is in A; free code changes only A
pub record ByteIsGiven
    (context : Context) (after : Facts) (number : ExpressionNumber) (scalar : ScalarType)
    (r : Registers) (memory : List ℕ) (found : ℕ) (now : Registers) (memory_now : List ℕ) : Type 0 where
  pub a : now.a ≡ found % 256
  pub small : found < values_of scalar
  pub known : Know context after now memory_now
  pub free : is_free context.site number ≡ true → ChangesAOnly r memory now memory_now

-- a register that the code keeps
abbrev pub Left : (is_kept : Bool) → (before now : ℕ) → Type 0
Left is_kept before now = is_kept ≡ true → now ≡ before

-- a value is in HL, and a BYTE is zero-extended; A and DE are kept if the traits say so
pub record WordIsGiven
    (context : Context) (after : Facts) (number : ExpressionNumber) (scalar : ScalarType)
    (r : Registers) (memory : List ℕ) (found : ℕ) (now : Registers) (memory_now : List ℕ) : Type 0 where
  pub h : now.h ≡ found / 256
  pub l : now.l ≡ found % 256
  pub small : found < values_of scalar
  pub known : Know context after now memory_now
  pub a : Left (keeps context.site number).a r.a now.a
  pub d : Left (keeps context.site number).de r.d now.d
  pub e : Left (keeps context.site number).de r.e now.e

-- no value, only facts
pub record NothingIsGiven
    {A : Type 0} (context : Context) (after : Facts)
    (r : Registers) (memory : List ℕ) (found : A) (now : Registers) (memory_now : List ℕ) : Type 0 where
  pub known : Know context after now memory_now

-- the effects of an expression are carried out; A and DE are kept if the traits say so; if the expression is
-- free, only A changes
pub record EffectsAreGiven
    (context : Context) (after : Facts) (number : ExpressionNumber)
    (r : Registers) (memory : List ℕ) (found : ℕ) (now : Registers) (memory_now : List ℕ) : Type 0 where
  pub known : Know context after now memory_now
  pub a : Left (keeps context.site number).a r.a now.a
  pub d : Left (keeps context.site number).de r.d now.d
  pub e : Left (keeps context.site number).de r.e now.e
  pub free : is_free context.site number ≡ true → ChangesAOnly r memory now memory_now

-- the address of a place on the machine
abbrev pub address_on_machine : Activation → Place → ℕ
address_on_machine activation (InMemory address) = address
address_on_machine activation (InTheFrame object offset is_inside) =
    wrap (activation.level + activation.distance object + offset)

-- the address of a place is in HL; A and DE are kept if the traits say so
pub record AddressIsGiven
    (context : Context) (after : Facts) (reference : Reference)
    (r : Registers) (memory : List ℕ) (found : Place) (now : Registers) (memory_now : List ℕ) : Type 0 where
  pub hl : word now.h now.l ≡ address_on_machine context.activation found
  pub known : Know context after now memory_now
  pub a : Left (keeps_of_address context.site reference).a r.a now.a
  pub d : Left (keeps_of_address context.site reference).de r.d now.d
  pub e : Left (keeps_of_address context.site reference).de r.e now.e

-- a value was stored; if it is wanted, it is still in its register
pub record IsStored
    (context : Context) (after : Facts) (from : ScalarType) (is_wanted : Bool) (stored_value : ℕ)
    (r : Registers) (memory : List ℕ) (found : Unit {0}) (now : Registers)
    (memory_now : List ℕ) : Type 0 where
  pub known : Know context after now memory_now
  pub wanted : is_wanted ≡ true → InRegister from stored_value now

-- the result of a call is where a call returns it
pub record ResultIsGiven
    (context : Context) (after : Facts) (result : Option ScalarType)
    (r : Registers) (memory : List ℕ) (found : ℕ) (now : Registers) (memory_now : List ℕ) : Type 0 where
  pub lies : ResultLies result found now memory_now
  pub known : Know context after now memory_now

-- The end of code that jumps on a condition. If the lowest bit of the value is 1 (or 0), that is an
-- instruction with a step to a label; else it is the end of the code. The facts at the end hold at the label
-- too, if they hold at each of its jumps. This step is one beside those that pay for what the value spends.
pub data Parts
    (context : Context) (after : Facts) (tree : TypedExpression) (label : LabelNumber) (sense : Bool)
    (top : ℕ) (base : List ℕ) (to : ℕ) (found : ℕ) (t : SourceState) (end : State) : Type 0 where
  Goes : (there : State)
      → is_true found ≡ sense
      → step_of context.activation.around.program.script end ≡ there
      → Arrives context.activation top base (context.activation.layout.place_of label.index)
      (λ (given : ℕ) (now : Registers) (memory_now : List ℕ).
      jumps_once tree ≡ true → Know context after now memory_now)
      found t there
      → Parts context after tree label sense top base to found t end
  Passes : is_true found ≡ not sense
      → Arrives context.activation top base to
      (λ (given : ℕ) (now : Registers) (memory_now : List ℕ). Know context after now memory_now)
      found t end
      → Parts context after tree label sense top base to found t end

-- an object that a body can refer to
abbrev pub IsReferred : Context → TypedReference → Type 0
IsReferred context (PartOf number first member offset second) =
    IsSomeAnd (slice_get context.typed.objects number)
    (λ (object : TypedObject). IsSeen context.typed context.within object.home)

-- The code of each task. It needs two bytes for each level of height, and two more for a store; a store takes
-- one step more than it spends.
abbrev pub ByteDoes : Context → (before : Facts) → (number : ExpressionNumber) → (pushed from : ℕ)
    → (after : Facts) → (to : ℕ) → Type 0
ByteDoes context before number pushed from after to =
    (bound : ℕ) (tree : TypedExpression)
    → IsExpression (nodes_in context) context.storage bound number.index tree
    → TypesHold context.typed context.within tree
    → Carries context before pushed (2 * height_of tree) 0 from to Nothing
    (value context.later context.activation.around tree)
    (ByteIsGiven context after number (type_of tree))

abbrev pub WordDoes : Context → (before : Facts) → (number : ExpressionNumber) → (pushed from : ℕ)
    → (after : Facts) → (to : ℕ) → Type 0
WordDoes context before number pushed from after to =
    (bound : ℕ) (tree : TypedExpression)
    → IsExpression (nodes_in context) context.storage bound number.index tree
    → TypesHold context.typed context.within tree
    → Carries context before pushed (2 * height_of tree) 0 from to Nothing
    (value context.later context.activation.around tree)
    (WordIsGiven context after number (type_of tree))

abbrev pub EffectsDo : Context → (before : Facts) → (number : ExpressionNumber) → (pushed from : ℕ)
    → (after : Facts) → (to : ℕ) → Type 0
EffectsDo context before number pushed from after to =
    (bound : ℕ) (tree : TypedExpression)
    → IsExpression (nodes_in context) context.storage bound number.index tree
    → TypesHold context.typed context.within tree
    → Carries context before pushed (2 * height_of tree) 0 from to Nothing
    (value context.later context.activation.around tree)
    (EffectsAreGiven context after number)

abbrev pub AddressDoes : Context → (before : Facts) → Reference → (pushed from : ℕ) → (after : Facts)
    → (to : ℕ) → Type 0
AddressDoes context before reference pushed from after to =
    (bound : ℕ) (tree : TypedReference)
    → IsReference (nodes_in context) context.storage bound reference tree
    → IsReferred context tree
    → TypesHoldInReference context.typed context.within tree
    → Carries context before pushed (2 * height_of_reference tree) 0 from to Nothing
    (located context.later context.activation.around tree)
    (AddressIsGiven context after reference)

abbrev pub BranchDoes :
    Context → (before : Facts) → ExpressionNumber → LabelNumber → (sense : Bool) → (pushed from : ℕ)
    → (after : Facts) → (to : ℕ) → Type 0
BranchDoes context before condition label sense pushed from after to =
    (bound : ℕ) (tree : TypedExpression)
    → IsExpression (nodes_in context) context.storage bound condition.index tree
    → TypesHold context.typed context.within tree
    → (top : ℕ) (base : List ℕ) (s : SourceState) (r : Registers) (memory : List ℕ)
    → s.budget < context.number
    → HasRoom context.activation top pushed (2 * height_of tree)
    → IsReady context.activation top base s.memory s.frame r memory
    → Know context before r memory
    → Does (loaded_of context.activation) s.budget 0 (at_place from r memory s.events)
    (value context.later context.activation.around tree s)
    (Parts context after tree label sense top base to)

abbrev pub StoreDoes :
    Context → (before : Facts) → Target → (is_wanted : Bool) → (pushed from : ℕ) → (after : Facts) → (to : ℕ)
    → Type 0
StoreDoes context before target is_wanted pushed from after to =
    (bound number : ℕ) (scalar : ScalarType) (tree : TypedTarget)
    → IsTarget (nodes_in context) context.storage bound target tree
    → TypesHoldInTarget context.typed context.within scalar tree
    → number < values_of scalar
    → Carries context before pushed (2 + 2 * height_of_target tree) 1 from to (InRegister scalar number)
    (stored context.later context.activation.around tree number)
    (IsStored context after scalar is_wanted number)

abbrev pub CallDoes :
    Context → (before : Facts) → (procedure : ℕ) → Range → (pushed from : ℕ) → (after : Facts)
    → (to : ℕ) → Type 0
CallDoes context before procedure arguments pushed from after to =
    (bound : ℕ) (result : Option ScalarType) (trees : TypedArguments)
    → AreArguments (nodes_in context) context.storage bound arguments.first arguments.count trees
    → Takes context.typed procedure result trees
    → TypesHoldInArguments context.typed context.within trees
    → Carries context before pushed (2 *
    (1 + count_of_arguments trees + height_of_arguments trees)) 0 from to Nothing
    (λ s. then_do (values context.later context.activation.around trees s)
    (λ given t.
    called_for context.later
    (callee_in context.activation.around procedure) given context.activation.around t))
    (ResultIsGiven context after result)

-- code from one place to another carries out a task when `pushed` bytes are pushed, with these facts before
-- and after it
abbrev pub TaskDoes : Context → (before : Facts) → Task → (pushed from : ℕ) → (after : Facts) → (to : ℕ)
    → Type 0
TaskDoes context before (tasks.Byte number) pushed from after to =
    ByteDoes context before number pushed from after to
TaskDoes context before (tasks.Word number) pushed from after to =
    WordDoes context before number pushed from after to
TaskDoes context before (tasks.Effects number) pushed from after to =
    EffectsDo context before number pushed from after to
TaskDoes context before (tasks.Address reference) pushed from after to =
    AddressDoes context before reference pushed from after to
TaskDoes context before (tasks.Branch condition label sense) pushed from after to =
    BranchDoes context before condition label sense pushed from after to
TaskDoes context before (tasks.Store target is_wanted) pushed from after to =
    StoreDoes context before target is_wanted pushed from after to
TaskDoes context before (tasks.Call procedure arguments) pushed from after to =
    CallDoes context before procedure arguments pushed from after to

abbrev pub PartDoes : Context → (before : Facts) → Part → (from : ℕ) → (after : Facts) → (to : ℕ) → Type 0
PartDoes context before part from after to = TaskDoes context before part.task part.pushed from after to
