-- Code that stores a value from A or HL.
use Rattle.std.specs.Prelude.{ℕ, ◌+◌, ◌%◌, ◌==◌, Bool, true, false, ◌&&◌, not, List, [], ◌∷◌, ◌++◌, Option, Some, None, if◌then◌else◌}
use Rattle.isa8080.specs.declared.instr.Instr.TheVariants.{Inx, MovToMemory, Mvi, Out, Pop, Push, Xchg}
use Rattle.isa8080.specs.declared.instr.Operand.TheVariants.{M}
use Rattle.isa8080.specs.declared.instr.Pair.TheVariants.{Hl}
use Rattle.isa8080.specs.declared.instr.Register.TheVariants.{A, D, E, L}
use Rattle.isa8080.specs.declared.instr.StackPair.TheVariants.{StackBc, StackDe, StackHl, Psw}
use Rattle.asm8080.specs.declared.item.WordForm.TheVariants.{StoreA, StoreHl}
use Rattle.trees.specs.declared.declaration.ScalarType.{ScalarType}
use Rattle.trees.specs.declared.declaration.ScalarType.TheVariants.{Byte, Address}
use Rattle.treecode.specs.declared.place.Location.{Location}
use Rattle.treecode.specs.declared.place.Location.TheVariants.{Static, Frame}
use Rattle.treecode.specs.declared.reference.Reference.{Reference}
use Rattle.treecode.specs.declared.reference.Target.{Target}
use Rattle.treecode.specs.declared.reference.Target.TheVariants.{Sent, Stored}
use Rattle.steps8080.specs.declared.step.Step.{Step}
use Rattle.steps8080.specs.declared.step.Step.TheVariants.{Holds, MemoryChanged, Plain, Word}
use Rattle.steps8080.specs.declared.step.Task.TheVariants as tasks
use Rattle.steps8080.specs.internal.Facts.{no_facts}
use Rattle.steps8080.specs.internal.Instructions.{copy}
use Rattle.steps8080.specs.internal.Step.{extension_steps, part, plain}
use Rattle.steps8080.specs.declared.sites.site.Site.{Site}
use Rattle.steps8080.specs.internal.Queries.{keeps_of_address, location_of}
use Rattle.steps8080.specs.internal.Site.{distance}
use Rattle.operands8080.specs.declared.stores.Goal.{Goal}
use Rattle.operands8080.specs.declared.stores.Near.{Near}
use Rattle.operands8080.specs.declared.stores.Near.TheVariants.{First, Second}

-- the scalar that a value is stored in
abbrev pub goal_of : Site → (to : ScalarType) → Reference → Goal
goal_of site to reference = record {
  to = to;
  reference = reference;
  location = location_of site reference;
  keeps = keeps_of_address site reference;
}

-- the word next to the stack pointer at this distance above it, if any
abbrev pub near_at : (away : ℕ) → Option Near
near_at away =
    if away == 0 then Some First
    else if away == 2 then Some Second
    else None

-- the word next to the stack pointer that is at a location, if any
abbrev pub word_near : Site → Location → (pushed : ℕ) → Option Near
word_near site (Static place) pushed = None
word_near site (Frame variable offset) pushed = near_at (distance site variable offset pushed)

-- notes that HL holds the word that was stored from it
abbrev pub word_is_here_steps : Option Location → List Step
word_is_here_steps location = Holds (record no_facts { word_in_hl = location }) ∷ []

-- notes that A holds the byte that was stored from it
abbrev pub byte_is_here_steps : Option Location → List Step
byte_is_here_steps location = Holds (record no_facts { byte_in_a = location }) ∷ []

-- replaces a word next to the stack pointer by HL
abbrev pub exchange_near : Near → List Step
exchange_near First = plain (Pop StackBc ∷ Push StackHl ∷ [])
exchange_near Second = plain (Pop StackBc ∷ Pop StackDe ∷ Push StackHl ∷ Push StackBc ∷ [])

-- stores HL in a word next to the stack pointer
abbrev pub store_near_steps : Near → Location → List Step
store_near_steps near location = exchange_near near ++ (MemoryChanged ∷ word_is_here_steps (Some location))

-- puts an address into HL while A keeps its value
abbrev pub address_beside_a_steps : Goal → (pushed : ℕ) → List Step
address_beside_a_steps goal pushed =
    if goal.keeps.a then part (tasks.Address goal.reference) pushed ∷ []
    else Plain (Push Psw) ∷ part (tasks.Address goal.reference) ((pushed + 2) % 65536) ∷ Plain (Pop Psw) ∷ []

-- puts an address into HL, and the value that was in HL into DE
abbrev pub address_beside_de_steps : Goal → (pushed : ℕ) → List Step
address_beside_de_steps goal pushed =
    if goal.keeps.de then Plain Xchg ∷ part (tasks.Address goal.reference) pushed ∷ []
    else Plain (Push StackHl)
    ∷ part (tasks.Address goal.reference) ((pushed + 2) % 65536)
    ∷ Plain (Pop StackDe)
    ∷ []

-- stores the high byte of an ADDRESS, which is 0, after the low one
abbrev pub high_zero_steps : Goal → List Step
high_zero_steps goal = elim goal.to [
  | Byte ↦ []
  | Address ↦ plain (Inx Hl ∷ Mvi M 0 ∷ []) ++ byte_is_here_steps goal.location
]

-- stores A at a computed address; the value stays in A
abbrev pub store_a_at_steps : Goal → (pushed : ℕ) → List Step
store_a_at_steps goal pushed =
    address_beside_a_steps goal pushed ++ (Plain (MovToMemory A) ∷ high_zero_steps goal)

-- stores A in an ADDRESS at a location; the value stays in A
abbrev pub store_extended_steps : Site → Goal → Location → (pushed : ℕ) → List Step
store_extended_steps site goal (Static place) pushed =
    extension_steps ++ (Word StoreHl place ∷ byte_is_here_steps (Some (Static place)))
store_extended_steps site goal (Frame variable offset) pushed =
    let location = Frame variable offset in
    elim (word_near site location pushed) [
      | Some near ↦ extension_steps ++ store_near_steps near location ++ byte_is_here_steps (Some location)
      | None ↦ store_a_at_steps goal pushed
    ]

-- stores A; the value stays in A
abbrev pub store_a_steps : Site → Goal → (pushed : ℕ) → List Step
store_a_steps site goal pushed = elim goal.location [
  | None ↦ store_a_at_steps goal pushed
  | Some location ↦ elim goal.to [
    | Address ↦ store_extended_steps site goal location pushed
    | Byte ↦ elim location [
      | Static place ↦ Word StoreA place ∷ []
      | Frame variable offset ↦ store_a_at_steps goal pushed
    ]
  ]
]

-- stores the high byte of a word after the low one, if the scalar is an ADDRESS
abbrev pub high_byte_steps : Goal → List Step
high_byte_steps goal = elim goal.to [
  | Byte ↦ []
  | Address ↦ plain (Inx Hl ∷ MovToMemory D ∷ [])
]

-- puts the value back into HL if it is wanted
abbrev pub value_back_steps : Goal → (is_wanted : Bool) → List Step
value_back_steps goal false = []
value_back_steps goal true = Plain Xchg ∷ elim goal.to [
  | Byte ↦ []
  | Address ↦ word_is_here_steps goal.location
]

-- stores the value in HL, or its low byte, at a computed address
abbrev pub store_hl_at_steps : Goal → (is_wanted : Bool) → (pushed : ℕ) → List Step
store_hl_at_steps goal is_wanted pushed =
    address_beside_de_steps goal pushed ++ (Plain (MovToMemory E) ∷ high_byte_steps goal)
    ++ value_back_steps goal is_wanted

-- stores the low byte of HL at a computed address, through A if that is shorter
abbrev pub store_low_byte_at_steps : Goal → (is_wanted : Bool) → (pushed : ℕ) → List Step
store_low_byte_at_steps goal is_wanted pushed =
    if goal.keeps.a && not is_wanted then Plain (copy A L) ∷ store_a_at_steps goal pushed
    else store_hl_at_steps goal is_wanted pushed

-- stores the low byte of HL
abbrev pub store_low_byte_steps : Goal → (is_wanted : Bool) → (pushed : ℕ) → List Step
store_low_byte_steps goal is_wanted pushed = elim goal.location [
  | None ↦ store_low_byte_at_steps goal is_wanted pushed
  | Some location ↦ elim location [
    | Static place ↦ Plain (copy A L) ∷ Word StoreA place ∷ []
    | Frame variable offset ↦ store_low_byte_at_steps goal is_wanted pushed
  ]
]

-- stores HL in an ADDRESS
abbrev pub store_word_steps : Site → Goal → (is_wanted : Bool) → (pushed : ℕ) → List Step
store_word_steps site goal is_wanted pushed = elim goal.location [
  | None ↦ store_hl_at_steps goal is_wanted pushed
  | Some location ↦ elim location [
    | Static place ↦ Word StoreHl place ∷ []
    | Frame variable offset ↦ elim (word_near site (Frame variable offset) pushed) [
      | Some near ↦ store_near_steps near (Frame variable offset)
      | None ↦ store_hl_at_steps goal is_wanted pushed
    ]
  ]
]

-- sends the low byte of a value to a port
abbrev pub send_steps : (from : ScalarType) → (port : ℕ) → List Step
send_steps Byte port = Plain (Out port) ∷ []
send_steps Address port = Plain (copy A L) ∷ Plain (Out port) ∷ []

-- stores the value in A (from a BYTE) or HL (from an ADDRESS) in a scalar; if it `is_wanted` afterwards, it
-- is still in that register
abbrev pub goal_steps : Site → (from : ScalarType) → Goal → (is_wanted : Bool) → (pushed : ℕ) → List Step
goal_steps site Byte goal is_wanted pushed = store_a_steps site goal pushed
goal_steps site Address goal is_wanted pushed = elim goal.to [
  | Byte ↦ store_low_byte_steps goal is_wanted pushed
  | Address ↦ store_word_steps site goal is_wanted pushed
]

-- stores it in a target
abbrev pub store_steps : Site → Target → (is_wanted : Bool) → (pushed : ℕ) → List Step
store_steps site (Sent from port) is_wanted pushed = send_steps from port
store_steps site (Stored from to reference) is_wanted pushed =
    goal_steps site from (goal_of site to reference) is_wanted pushed
