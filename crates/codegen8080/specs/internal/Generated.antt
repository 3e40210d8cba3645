-- The code of statements: their items, the facts about the registers after them, and whether their end can be
-- reached.
use Rattle.std.specs.Prelude.{◌≡◌, ℕ, suc, ◌&&◌, Bool, true, false, if◌then◌else◌, List, [], ◌∷◌, ◌++◌, Option, Some, None, slice_get}
use Rattle.isa8080.specs.declared.instr.Instr.TheVariants.{Inx}
use Rattle.isa8080.specs.declared.instr.Pair.TheVariants.{Hl}
use Rattle.isa8080.specs.declared.instr.Register.TheVariants.{A, H, L}
use Rattle.asm8080.specs.declared.item.Item.{Item}
use Rattle.asm8080.specs.declared.item.WordForm.TheVariants.{Jump, LoadA, LoadHl}
use Rattle.treecode.specs.declared.lists.Range.{Range}
use Rattle.treecode.specs.declared.place.Location.{Location}
use Rattle.treecode.specs.declared.place.Location.TheVariants.{Static, Frame}
use Rattle.treecode.specs.declared.reference.Reference.{Reference}
use Rattle.treecode.specs.declared.statement.Statement.{Statement as TreeStatement}
use Rattle.treecode.specs.declared.statement.StatementNumber.{StatementNumber}
use Rattle.steps8080.specs.declared.facts.Facts.{Facts}
use Rattle.steps8080.specs.declared.step.LabelNumber.{LabelNumber}
use Rattle.steps8080.specs.declared.step.Step.{Step}
use Rattle.steps8080.specs.declared.step.Step.TheVariants as steps
use Rattle.steps8080.specs.declared.step.Task.TheVariants as tasks
use Rattle.steps8080.specs.internal.Facts.{is_at, no_facts, same_location}
use Rattle.steps8080.specs.internal.Instructions.{copy, load}
use Rattle.steps8080.specs.internal.Step.{part}
use Rattle.steps8080.specs.declared.sites.site.Site.{Site}
use Rattle.steps8080.specs.internal.Queries.{location_of}
use Rattle.exprgen8080.specs.internal.Emission.{AreWritten, knowing}
use Rattle.statements8080.specs.declared.body.Body.{Body}
use Rattle.statements8080.specs.declared.plan.Planned.{Planned}
use Rattle.statements8080.specs.declared.plan.Planned.TheVariants as planned
use Rattle.codegen8080.specs.declared.meeting.Here.{Here}
use Rattle.codegen8080.specs.internal.Statements.{statement_steps}

-- the site of a body, without facts about the registers
abbrev pub site_of : Body → Site
site_of body = record { tree = body.tree; frame = body.frame; facts = no_facts }

-- the facts at the end of code, if the end can be reached
abbrev pub known_here : Here → Option Facts
known_here here = if here.goes_on then Some here.facts else None

-- a point that code reaches with these facts, if any
abbrev pub arriving : Option Facts → Here
arriving (Some facts) = record { facts = facts; goes_on = true }
arriving None = record { facts = no_facts; goes_on = false }

-- the location, if both are the same
abbrev pub common_location : (one other : Option Location) → Option Location
common_location (Some one) (Some other) = if same_location one other then Some one else None
common_location one other = None

abbrev pub common : (one other : Facts) → Facts
common one other = record {
  byte_in_a = common_location one.byte_in_a other.byte_in_a;
  word_in_hl = common_location one.word_in_hl other.word_in_hl;
  address_in_hl = common_location one.address_in_hl other.address_in_hl;
  zero_shows_a = one.zero_shows_a && other.zero_shows_a;
}

-- the facts at a point that two paths may reach; none if neither path does
abbrev pub met : (one other : Option Facts) → Option Facts
met (Some one) (Some other) = Some (common one other)
met (Some one) None = Some one
met None other = other

-- facts about A alone, and about HL alone
abbrev pub byte_in_a : Location → Facts
byte_in_a location = record no_facts { byte_in_a = Some location }

abbrev pub word_in_hl : Location → Facts
word_in_hl location = record no_facts { word_in_hl = Some location }

-- puts the byte at the address of a reference into A, by its location: LDA, or MOV A,M with its address in HL
abbrev pub byte_at_address_steps : Reference → List Step
byte_at_address_steps reference = part (tasks.Address reference) 0 ∷ steps.Plain (load A) ∷ []

abbrev pub byte_at_steps : Facts → Reference → Location → List Step
byte_at_steps facts reference (Static place) =
    if is_at facts.address_in_hl (Static place) then byte_at_address_steps reference
    else steps.Word LoadA place ∷ []
byte_at_steps facts reference (Frame variable offset) = byte_at_address_steps reference

-- puts a BYTE at a location into A, unless A holds it
unfoldable pub load_byte_steps : Site → Reference → List Step
load_byte_steps site reference = elim (location_of site reference) [
  | Some location ↦
      if is_at site.facts.byte_in_a location then []
      else byte_at_steps site.facts reference location ++ (steps.Holds (byte_in_a location) ∷ [])
  | None ↦ []
]

-- puts the word at the address of a reference into HL, by its location: LHLD, or byte by byte
abbrev pub frame_word_steps : Reference → List Step
frame_word_steps reference =
    part (tasks.Address reference) 0
    ∷ steps.Plain (load A)
    ∷ steps.Plain (Inx Hl)
    ∷ steps.Plain (load H)
    ∷ steps.Plain (copy L A)
    ∷ []

abbrev pub word_at_steps : Reference → Location → List Step
word_at_steps reference (Static place) = steps.Word LoadHl place ∷ []
word_at_steps reference (Frame variable offset) = frame_word_steps reference

-- puts an ADDRESS at a location into HL, unless HL holds it
unfoldable pub load_word_steps : Site → Reference → List Step
load_word_steps site reference = elim (location_of site reference) [
  | Some location ↦
      if is_at site.facts.word_in_hl location then []
      else word_at_steps reference location ++ (steps.Holds (word_in_hl location) ∷ [])
  | None ↦ []
]

-- a jump to a label, if the end of the code can be reached
abbrev pub jump_on_steps : (goes_on : Bool) → LabelNumber → List Step
jump_on_steps true label = steps.Jump Jump label ∷ []
jump_on_steps false label = []

-- the expression steps of a planned step, from this end of the code
unfoldable pub carried_steps : Site → Here → Planned → List Step
carried_steps site here (planned.Code step) = step ∷ []
carried_steps site here (planned.LoadByte reference) = load_byte_steps (knowing site here.facts) reference
carried_steps site here (planned.LoadWord reference) = load_word_steps (knowing site here.facts) reference
carried_steps site here (planned.JumpOn label) = jump_on_steps here.goes_on label
carried_steps site here (planned.Turn other end) = jump_on_steps here.goes_on end ++ (steps.Mark other ∷ [])
carried_steps site here (planned.Meet label) = steps.Mark label ∷ []
carried_steps site here (planned.Again label facts is_entered) = steps.Mark label ∷ []
carried_steps site here step = []

-- The end of the code after them, from the facts there and the waiting facts: those at the label to which the
-- code before `Jumped` jumps, which is the next label of `Turn` or `Meet`.
unfoldable pub here_after : Here → (waiting : Option Facts) → (known : Facts) → Planned → Here
here_after here waiting known (planned.Turn other end) = arriving waiting
here_after here waiting known (planned.Meet label) = arriving (met (known_here here) waiting)
here_after here waiting known (planned.Again label facts is_entered) =
    arriving (met (if is_entered then known_here here else None) (Some facts))
here_after here waiting known (planned.Reaches goes_on) = record { facts = known; goes_on = goes_on }
here_after here waiting known step = record { facts = known; goes_on = here.goes_on }

-- the waiting facts after them
unfoldable pub waiting_after : Here → (waiting : Option Facts) → Planned → Option Facts
waiting_after here waiting (planned.Jumped is_the_only_one) =
    Some (if is_the_only_one then here.facts else no_facts)
waiting_after here waiting (planned.Turn other end) = known_here here
waiting_after here waiting step = waiting

-- a planned step is neither a statement nor a list of statements
abbrev pub HoldsNoStatement : Planned → Type 0
HoldsNoStatement (planned.Statement number) = ⊥
HoldsNoStatement (planned.List list) = ⊥
HoldsNoStatement step = Unit {0}

mutual
  -- Planned steps, from this end of the code and these waiting facts: the items of their code, and the end of
  -- the code after them. The table marks the routines that are called.
  pub data AreCarriedOut (body : Body) (called : List Bool) :
      Here → (waiting : Option Facts) → List Planned → List Item → Here → Type 0 where
    NoneCarriedOut : {here : Here} {waiting : Option Facts} → AreCarriedOut body called here waiting [] [] here
    StepCarriedOut : {here last : Here} {waiting : Option Facts} {known : Facts} {step : Planned}
        {others : List Planned} {first more : List Item}
        → HoldsNoStatement step
        → AreWritten (site_of body) called here.facts (carried_steps (site_of body) here step) first known
        → AreCarriedOut body called (here_after here waiting known step) (waiting_after here waiting step)
        others more last
        → AreCarriedOut body called here waiting (step ∷ others) (first ++ more) last
    StatementCarriedOut : {here middle last : Here} {waiting : Option Facts} {number : StatementNumber}
        {others : List Planned} {first more : List Item}
        → IsCarriedOut body called here.facts number first middle
        → AreCarriedOut body called middle waiting others more last
        → AreCarriedOut body called here waiting (planned.Statement number ∷ others) (first ++ more) last
    ListCarriedOut : {here middle last : Here} {waiting : Option Facts} {list : Range}
        {others : List Planned} {first more : List Item}
        → IsListCarriedOut body called here.facts list first middle
        → AreCarriedOut body called middle waiting others more last
        → AreCarriedOut body called here waiting (planned.List list ∷ others) (first ++ more) last

  -- a statement with steps that are planned from these facts, with labels from a number on (see
  -- `IsStatementLabelled`)
  pub data IsCarriedOut (body : Body) (called : List Bool) :
      Facts → StatementNumber → List Item → Here → Type 0 where
    StatementPlanned : {facts : Facts} {number : StatementNumber} {statement : TreeStatement}
        {list : List Item} {last : Here} (label : ℕ)
        → slice_get body.tree.now.statements.items number.index ≡ Some statement
        → AreCarriedOut body called (record { facts = facts; goes_on = true }) None
        (statement_steps body (knowing (site_of body) facts) statement label) list last
        → IsCarriedOut body called facts number list last

  -- the statements of a list, one after another
  pub data IsListCarriedOut (body : Body) (called : List Bool) : Facts → Range → List Item → Here → Type 0 where
    ListPlanned : {facts : Facts} {range : Range} {list : List Item} {last : Here}
        → AreAllCarriedOut body called (record { facts = facts; goes_on = true })
        range.first range.count list last
        → IsListCarriedOut body called facts range list last

  -- `count` statements of the table of lists, from an entry on
  pub data AreAllCarriedOut (body : Body) (called : List Bool) :
      Here → (first count : ℕ) → List Item → Here → Type 0 where
    NoStatements : {here : Here} {first : ℕ} → AreAllCarriedOut body called here first 0 [] here
    MoreStatements : {here middle last : Here} {first count : ℕ} {number : StatementNumber}
        {list more : List Item}
        → slice_get body.tree.now.lists.items first ≡ Some number
        → IsCarriedOut body called here.facts number list middle
        → AreAllCarriedOut body called middle (suc first) count more last
        → AreAllCarriedOut body called here first (suc count) (list ++ more) last
