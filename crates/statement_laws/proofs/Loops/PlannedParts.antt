-- Planned steps that stand, taken apart from the front.
use Rattle.statement_laws.proofs.Prelude.{ℕ, List, [], ◌∷◌, ◌++◌, map, Option, Reference, Facts, Part, Step, knowing, Planned, Here, carried_steps, here_after, load_byte_steps, load_word_steps, site_of, waiting_after, Context, StepsStand, NoneThere, PlainThere, WordThere, JumpThere, MarkThere, RoutineThere, CallThere, TestThere, HoldsThere, ChangeThere, PartThere, BodyContext, StepPlanned}
use Rattle.statements8080.specs.declared.plan.Planned.TheVariants as planned
use Rattle.statement_laws.proofs.FirstSteps.{CarriedFirst, Stand, going}

-- a step before others
before_steps :
    {context : Context} {PartIs : (before : Facts) → Part → (from : ℕ) → (after : Facts) → (to : ℕ) → Type 0}
    {step : Step} {others : List Step} {facts known last : Facts} {from middle to : ℕ}
    → StepsStand context PartIs facts from (step ∷ []) known middle
    → StepsStand context PartIs known middle others last to
    → StepsStand context PartIs facts from (step ∷ others) last to
before_steps (PlainThere there NoneThere) rest = PlainThere there rest
before_steps (WordThere there NoneThere) rest = WordThere there rest
before_steps (JumpThere there NoneThere) rest = JumpThere there rest
before_steps (MarkThere there NoneThere) rest = MarkThere there rest
before_steps (RoutineThere has there NoneThere) rest = RoutineThere has there rest
before_steps (CallThere there NoneThere) rest = CallThere there rest
before_steps (TestThere there NoneThere) rest = TestThere there rest
before_steps (HoldsThere NoneThere) rest = HoldsThere rest
before_steps (ChangeThere NoneThere) rest = ChangeThere rest
before_steps (PartThere does NoneThere) rest = PartThere does rest

-- steps of code, and then others
abbrev pub CodeParted :
    (at : BodyContext) → (here : Here) → (waiting : Option Facts) → (from : ℕ) → (code : List Step)
    → (others : List Planned) → (last : Here) → (to : ℕ) → Type 0
CodeParted at here waiting from code others last to =
    CarriedFirst at here waiting from code (going here.goes_on) waiting others last to

pub code_parted :
    {at : BodyContext} {waiting : Option Facts} {last : Here} {to : ℕ}
    (code : List Step) (others : List Planned) (here : Here) (from : ℕ)
    → Stand at here waiting from (map planned.Code code ++ others) last to
    → CodeParted at here waiting from code others last to
unfolding carried_steps here_after waiting_after
code_parted [] others here from stand =
    record { known = here.facts; middle = from; first = NoneThere; rest = stand }
code_parted (step ∷ code) others here from (StepPlanned {known = known} {middle = middle} holds first rest) =
    let parts = code_parted code others (going here.goes_on known) middle rest in
    record {
      known = parts.known;
      middle = parts.middle;
      first = before_steps first parts.first;
      rest = parts.rest;
    }

-- a BYTE that is loaded, and then others
pub byte_parted :
    {at : BodyContext} {here last : Here} {waiting : Option Facts} {from to : ℕ} {reference : Reference}
    {others : List Planned}
    → Stand at here waiting from (planned.LoadByte reference ∷ others) last to
    → CodeParted at here waiting from (load_byte_steps (knowing (site_of at.body) here.facts) reference)
    others last to
unfolding carried_steps here_after waiting_after
byte_parted (StepPlanned {known = known} {middle = middle} holds first rest) =
    record { known = known; middle = middle; first = first; rest = rest }

-- an ADDRESS that is loaded
pub word_parted :
    {at : BodyContext} {here last : Here} {waiting : Option Facts} {from to : ℕ} {reference : Reference}
    {others : List Planned}
    → Stand at here waiting from (planned.LoadWord reference ∷ others) last to
    → CodeParted at here waiting from (load_word_steps (knowing (site_of at.body) here.facts) reference)
    others last to
unfolding carried_steps here_after waiting_after
word_parted (StepPlanned {known = known} {middle = middle} holds first rest) =
    record { known = known; middle = middle; first = first; rest = rest }
