-- Parts of code that give values: the code after them uses the value in its register.
use Rattle.task_laws.proofs.Prelude.{◌≡◌, ℕ, ◌*◌, ◌/◌, ◌%◌, ◌<◌, ◌≤◌, List, [], ◌∷◌, refl, sym, subst, arith, ScalarType, height_of, type_of, TypedExpression, TypesHold, value, SourceState, Ended, More, Outside, Outcome, Gave, Stopped, then_do, values_of, Registers, State, ExpressionNumber, IsExpression, Does, Loaded, loaded_of, Lands, at_place, Arrives, HasRoom, IsReady, does_without_step, told_on, Facts, Part, Step, keeps, Context, nodes_in, StepsStand, NoneThere, PartThere, PartDoes, ByteDoes, ByteIsGiven, EffectsDo, Left, EffectsAreGiven, WordDoes, WordIsGiven}
use Rattle.steps8080.specs.declared.step.Step.TheVariants as steps
use Rattle.task_laws.proofs.Machine.Rules.{GoesOn, room_for}

-- a part that gave a value, then others, which may use it
pub then_does_where :
    {A B : Type 0} {loaded : Loaded} {budget other : ℕ} {from : State} {outcome : Outcome A}
    {go : A → SourceState → Outcome B} {Middle : A → SourceState → State → Type 0}
    {Good : B → SourceState → State → Type 0}
    → Does loaded budget 0 from outcome Middle
    → ((found : A) (t : SourceState) (end : State) → outcome ≡ Gave found t
    → Middle found t end → t.budget ≤ budget
    → Does loaded t.budget other end (go found t) Good)
    → Does loaded budget other from (then_do outcome go) Good
then_does_where {A = A} {loaded = loaded} {budget = budget} {other = other} {from = from} {outcome = outcome}
    {go = go} {Middle = Middle} {Good = Good} one rest =
    by outcome refl one
  where
    by : (given : Outcome A) → outcome ≡ given → Does loaded budget 0 from given Middle
        → Does loaded budget other from (then_do given go) Good
    by (Gave found t) same does =
        let first : Lands loaded.program.script budget 0 from t.budget (Middle found t) = does.told in
        let second = rest found t first.end same first.is_good first.spent in
        record {
          told =
              told_on loaded first t.budget other (go found t) Good (omega arith) (omega arith)
              second.told;
        }
    by (Stopped Ended t) same does = record { told = does.told }
    by (Stopped More t) same does = record { told = does.told }
    by (Stopped (Outside reason) t) same does = record { told = tt }

-- the outcome of a part that arrives, and then others
arrived :
    {A B : Type 0} {loaded : Loaded} {budget more : ℕ} {from : State} {outcome : Outcome A}
    {go : A → SourceState → Outcome B} {Good : B → SourceState → State → Type 0}
    (context : Context) (top : ℕ) (base : List ℕ) (middle : ℕ) (Holds : A → Registers → List ℕ → Type 0)
    → Does loaded budget 0 from outcome (Arrives context.activation top base middle Holds)
    → ((found : A) (t : SourceState) (now : Registers) (ended : List ℕ)
    → outcome ≡ Gave found t
    → t.budget ≤ budget
    → IsReady context.activation top base t.memory t.frame now ended
    → Holds found now ended
    → Does loaded t.budget more (at_place middle now ended t.events) (go found t) Good)
    → Does loaded budget more from (then_do outcome go) Good
arrived {loaded = loaded} {more = more} {go = go} {Good = Good} context top base middle Holds does rest =
    then_does_where does
    (λ found t end same given less.
    subst (λ (state : State). Does loaded t.budget more state (go found t) Good) (sym given.is_at)
    (rest found t given.r given.memory same less given.ready given.holds))

-- a value into HL, and then others
pub word_then :
    {B : Type 0} {more : ℕ} {go : ℕ → SourceState → Outcome B} {Good : B → SourceState → State → Type 0}
    {context : Context} {facts found : Facts} {number : ExpressionNumber} {pushed middle bound top need : ℕ}
    {base : List ℕ} {tree : TypedExpression} (from : ℕ) (s : SourceState) (r : Registers) (memory : List ℕ)
    → WordDoes context facts number pushed from found middle
    → IsExpression (nodes_in context) context.storage bound number.index tree
    → TypesHold context.typed context.within tree
    → s.budget < context.number
    → HasRoom context.activation top pushed need
    → 2 * height_of tree ≤ need
    → GoesOn context facts top base s.memory s.frame r memory
    → ((n : ℕ) (t : SourceState) (now : Registers) (ended : List ℕ)
    → value context.later context.activation.around tree s ≡ Gave n t
    → t.budget ≤ s.budget
    → GoesOn context found top base t.memory t.frame now ended
    → WordIsGiven context found number (type_of tree) r memory n now ended
    → Does (loaded_of context.activation) t.budget more
    (at_place middle now ended t.events) (go n t) Good)
    → Does (loaded_of context.activation) s.budget more (at_place from r memory s.events)
    (then_do (value context.later context.activation.around tree s) go) Good
word_then {context = context} {found = found} {number = number} {middle = middle} {bound = bound} {top = top}
    {base = base} {tree = tree} from s r memory does is types less room high going rest =
    arrived context top base middle (WordIsGiven context found number (type_of tree) r memory)
    (does bound tree is types top base s r memory less (room_for (2 * height_of tree) high room)
    going.ready going.known tt)
    (λ n t now ended same fewer ready given. rest n t now ended same fewer
    (record { ready = ready; known = given.known }) given)

-- its low byte into A, and then others
pub byte_then :
    {B : Type 0} {more : ℕ} {go : ℕ → SourceState → Outcome B} {Good : B → SourceState → State → Type 0}
    {context : Context} {facts found : Facts} {number : ExpressionNumber} {pushed middle bound top need : ℕ}
    {base : List ℕ} {tree : TypedExpression} (from : ℕ) (s : SourceState) (r : Registers) (memory : List ℕ)
    → ByteDoes context facts number pushed from found middle
    → IsExpression (nodes_in context) context.storage bound number.index tree
    → TypesHold context.typed context.within tree
    → s.budget < context.number
    → HasRoom context.activation top pushed need
    → 2 * height_of tree ≤ need
    → GoesOn context facts top base s.memory s.frame r memory
    → ((n : ℕ) (t : SourceState) (now : Registers) (ended : List ℕ)
    → value context.later context.activation.around tree s ≡ Gave n t
    → t.budget ≤ s.budget
    → GoesOn context found top base t.memory t.frame now ended
    → ByteIsGiven context found number (type_of tree) r memory n now ended
    → Does (loaded_of context.activation) t.budget more
    (at_place middle now ended t.events) (go n t) Good)
    → Does (loaded_of context.activation) s.budget more (at_place from r memory s.events)
    (then_do (value context.later context.activation.around tree s) go) Good
byte_then {context = context} {found = found} {number = number} {middle = middle} {bound = bound} {top = top}
    {base = base} {tree = tree} from s r memory does is types less room high going rest =
    arrived context top base middle (ByteIsGiven context found number (type_of tree) r memory)
    (does bound tree is types top base s r memory less (room_for (2 * height_of tree) high room)
    going.ready going.known tt)
    (λ n t now ended same fewer ready given. rest n t now ended same fewer
    (record { ready = ready; known = given.known }) given)

-- its effects alone, and then others
pub effects_then :
    {B : Type 0} {more : ℕ} {go : ℕ → SourceState → Outcome B} {Good : B → SourceState → State → Type 0}
    {context : Context} {facts found : Facts} {number : ExpressionNumber} {pushed middle bound top need : ℕ}
    {base : List ℕ} {tree : TypedExpression} (from : ℕ) (s : SourceState) (r : Registers) (memory : List ℕ)
    → EffectsDo context facts number pushed from found middle
    → IsExpression (nodes_in context) context.storage bound number.index tree
    → TypesHold context.typed context.within tree
    → s.budget < context.number
    → HasRoom context.activation top pushed need
    → 2 * height_of tree ≤ need
    → GoesOn context facts top base s.memory s.frame r memory
    → ((n : ℕ) (t : SourceState) (now : Registers) (ended : List ℕ)
    → value context.later context.activation.around tree s ≡ Gave n t
    → t.budget ≤ s.budget
    → GoesOn context found top base t.memory t.frame now ended
    → EffectsAreGiven context found number r memory n now ended
    → Does (loaded_of context.activation) t.budget more
    (at_place middle now ended t.events) (go n t) Good)
    → Does (loaded_of context.activation) s.budget more (at_place from r memory s.events)
    (then_do (value context.later context.activation.around tree s) go) Good
effects_then {context = context} {found = found} {number = number} {middle = middle} {bound = bound}
    {top = top} {base = base} {tree = tree} from s r memory does is types less room high going rest =
    arrived context top base middle (EffectsAreGiven context found number r memory)
    (does bound tree is types top base s r memory less (room_for (2 * height_of tree) high room)
    going.ready going.known tt)
    (λ n t now ended same fewer ready given. rest n t now ended same fewer
    (record { ready = ready; known = given.known }) given)

-- a value is in HL
pub record HasWord (n : ℕ) (r : Registers) : Type 0 where
  pub h : r.h ≡ n / 256
  pub l : r.l ≡ n % 256

-- the registers that are kept
pub record KeepsThem (context : Context) (number : ExpressionNumber) (r now : Registers) : Type 0 where
  pub a : Left (keeps context.site number).a r.a now.a
  pub d : Left (keeps context.site number).de r.d now.d
  pub e : Left (keeps context.site number).de r.e now.e

-- the value is given at the end of steps
pub word_given :
    {context : Context} {after : Facts} {number : ExpressionNumber} {scalar : ScalarType}
    {top : ℕ} {base : List ℕ}
    {to n : ℕ} {r now : Registers} {memory ended : List ℕ} (t : SourceState)
    → n < values_of scalar
    → HasWord n now
    → KeepsThem context number r now
    → GoesOn context after top base t.memory t.frame now ended
    → Does (loaded_of context.activation) t.budget 0 (at_place to now ended t.events) (Gave n t)
    (Arrives context.activation top base to (WordIsGiven context after number scalar r memory))
word_given {context = context} {after = after} {number = number} {scalar = scalar} {top = top} {base = base}
    {to = to} {n = n} {r = r} {now = now} {memory = memory} {ended = ended} t small has kept going =
    does_without_step (record {
      r = now;
      memory = ended;
      is_at = refl;
      ready = going.ready;
      holds = record { h = has.h; l = has.l; small = small; known = going.known; a = kept.a; d = kept.d; e = kept.e };
    })

-- a part that comes first
pub record FirstPart
    (context : Context) (facts : Facts) (from : ℕ) (part : Part) (others : List Step) (last : Facts)
    (to : ℕ) : Type 0 where
  pub found : Facts
  pub middle : ℕ
  pub does : PartDoes context facts part from found middle
  pub rest : StepsStand context (PartDoes context) found middle others last to

pub part_first :
    {context : Context} {facts last : Facts} {from to : ℕ} {part : Part} {others : List Step}
    → StepsStand context (PartDoes context) facts from (steps.Part part ∷ others) last to
    → FirstPart context facts from part others last to
part_first (PartThere {found = found} {middle = middle} does rest) =
    record { found = found; middle = middle; does = does; rest = rest }

-- where no step is left the value is given
pub word_ends :
    {context : Context} {PartIs : (before : Facts) → Part → (from : ℕ) → (after : Facts) → (to : ℕ) → Type 0}
    {found last : Facts} {middle to top n : ℕ} {number : ExpressionNumber}
    {scalar : ScalarType} {base : List ℕ}
    {r now : Registers} {memory ended : List ℕ} (t : SourceState)
    → StepsStand context PartIs found middle [] last to
    → n < values_of scalar
    → HasWord n now
    → KeepsThem context number r now
    → GoesOn context found top base t.memory t.frame now ended
    → Does (loaded_of context.activation) t.budget 0 (at_place middle now ended t.events) (Gave n t)
    (Arrives context.activation top base to (WordIsGiven context last number scalar r memory))
word_ends t NoneThere small has kept going = word_given t small has kept going
