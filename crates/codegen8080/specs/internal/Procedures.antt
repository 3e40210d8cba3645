-- Entries, arguments and returns of procedures.
use Rattle.std.specs.Prelude.{ℕ, zero, suc, ◌+◌, ◌-◌, ◌/◌, ◌%◌, min, Bool, true, false, if◌then◌else◌, nat_eq, nat_le, slice_get, take, length, List, [], ◌∷◌, ◌++◌, Option, Some, None, replicate}
use Rattle.isa8080.specs.declared.instr.Condition.TheVariants.{NotZero}
use Rattle.isa8080.specs.declared.instr.Instr.{Instr}
use Rattle.isa8080.specs.declared.instr.Instr.TheVariants.{Dad, Dcr, Inx, Lxi, Mvi, Pchl, Pop, Push, Ret, Sphl, Xchg, Xthl}
use Rattle.isa8080.specs.declared.instr.Operand.TheVariants.{Of}
use Rattle.isa8080.specs.declared.instr.Pair.TheVariants.{De, Hl, Sp}
use Rattle.isa8080.specs.declared.instr.Register.TheVariants.{B}
use Rattle.isa8080.specs.declared.instr.StackPair.{StackPair}
use Rattle.isa8080.specs.declared.instr.StackPair.TheVariants.{Psw, StackBc, StackDe, StackHl}
use Rattle.asm8080.specs.declared.item.WordForm.TheVariants.{JumpWhere, StoreA, StoreHl}
use Rattle.trees.specs.declared.declaration.ScalarType.{ScalarType}
use Rattle.trees.specs.declared.declaration.ScalarType.TheVariants.{Byte, Address}
use Rattle.treecode.specs.declared.place.Location.{Location}
use Rattle.treecode.specs.declared.place.Location.TheVariants.{Static, Frame}
use Rattle.treecode.specs.declared.place.Place.{Place}
use Rattle.treecode.specs.declared.place.Place.TheVariants.{Number}
use Rattle.treecode.specs.declared.procedure.Parameter.{Parameter}
use Rattle.treecode.specs.declared.procedure.ProcedureKind.{ProcedureKind}
use Rattle.treecode.specs.declared.procedure.ProcedureKind.TheVariants.{Reentrant}
use Rattle.steps8080.specs.declared.facts.Facts.{Facts}
use Rattle.steps8080.specs.declared.step.LabelNumber.{LabelNumber}
use Rattle.steps8080.specs.internal.Facts.{no_facts}
use Rattle.steps8080.specs.internal.Instructions.{clear_a}
use Rattle.steps8080.specs.internal.Step.{label_of}
use Rattle.statements8080.specs.declared.body.Body.{Body}
use Rattle.statements8080.specs.declared.plan.Planned.{Planned}
use Rattle.statements8080.specs.internal.Plans.{all, holds, jump, mark, plain, word}
use Rattle.codegen8080.specs.declared.procedures.TheConstants.{POPPED_BYTES, PUSHED_WORDS}

-- drops `words` words from the stack; BC is overwritten
unfoldable pub pops_steps : (words : ℕ) → List Planned
pops_steps words = replicate words (plain (Pop StackBc))

-- keeps HL in DE during the steps, if it holds a result
unfoldable pub kept_steps : (result : Option ScalarType) → List Instr → List Planned
kept_steps (Some Address) instructions = plain Xchg ∷ (all instructions ++ (plain Xchg ∷ []))
kept_steps result instructions = all instructions

-- drops `bytes` bytes from the stack; the result stays in its register
unfoldable pub drop_steps : (bytes : ℕ) → (result : Option ScalarType) → List Planned
drop_steps bytes result =
    if nat_le bytes POPPED_BYTES then pops_steps (bytes / 2) ++ replicate (bytes % 2) (plain (Inx Sp))
    else kept_steps result (Lxi Hl bytes ∷ Dad Sp ∷ Sphl ∷ [])

-- a return over `words` words of arguments (at least one) above the return address; the result stays in its
-- register
unfoldable pub return_over_steps : (words : ℕ) → (result : Option ScalarType) → List Planned
return_over_steps words (Some Address) =
    plain (Pop StackDe) ∷ (pops_steps words ++ (plain (Push StackDe) ∷ plain Ret ∷ []))
return_over_steps words result = plain (Pop StackHl) ∷ (pops_steps words ++ (plain Pchl ∷ []))

-- a return over any number of words
unfoldable pub return_over_any_steps : (words : ℕ) → (result : Option ScalarType) → List Planned
return_over_any_steps words result =
    if nat_eq words 0 then plain Ret ∷ [] else return_over_steps words result

-- drops the frame of a REENTRANT procedure with the arguments: its variables and the last argument are below
-- the return address, the other arguments above it
unfoldable pub return_of_frame_steps : Body → List Planned
return_of_frame_steps body =
    let count = body.frame.now.parameter_count in
    let result = body.procedure.now.result in
    drop_steps (min (body.frame.now.variable_bytes + (if nat_eq count 0 then 0 else 2)) 65535) result
    ++ return_over_any_steps (count - 1) result

-- a return, with the result in its register
unfoldable pub return_steps_by : ProcedureKind → Body → List Planned
return_steps_by Reentrant body = return_of_frame_steps body
return_steps_by kind body = plain Ret ∷ []

abbrev pub return_steps : Body → List Planned
return_steps body = return_steps_by body.procedure.now.kind body

-- the end of a procedure, if it can be reached: the result is 0
unfoldable pub zero_result_steps : (result : Option ScalarType) → List Planned
zero_result_steps (Some Byte) = plain clear_a ∷ []
zero_result_steps (Some Address) = plain (Lxi Hl 0) ∷ []
zero_result_steps None = []

unfoldable pub end_steps : Body → List Planned
end_steps body = zero_result_steps body.procedure.now.result ++ return_steps body

-- the place of a location in memory
abbrev pub place_in_memory : Location → Place
place_in_memory (Static place) = place
place_in_memory (Frame variable offset) = Number 0

-- stores an argument in A or HL in its parameter
abbrev pub store_argument : ScalarType → Location → Planned
store_argument Byte location = word StoreA (place_in_memory location)
store_argument Address location = word StoreHl (place_in_memory location)

abbrev pub argument_step : Parameter → Planned
argument_step parameter = store_argument parameter.scalar parameter.location

-- the facts about a parameter with its argument in A or HL
abbrev pub argument_facts : ScalarType → Location → Facts → Facts
argument_facts Byte location facts = record facts { byte_in_a = Some location }
argument_facts Address location facts = record facts { word_in_hl = Some location }

abbrev pub with_argument : Facts → Parameter → Facts
with_argument facts parameter = argument_facts parameter.scalar parameter.location facts

-- the register pair that a value of a type is pushed from
abbrev pub pair_of : ScalarType → StackPair
pair_of Byte = Psw
pair_of Address = StackHl

-- pops an argument into its parameter
abbrev pub popped_argument_steps : Parameter → List Planned
popped_argument_steps parameter = plain (Pop (pair_of parameter.scalar)) ∷ argument_step parameter ∷ []

-- pops the argument of the parameter at an index
unfoldable pub popped_at : List Parameter → (index : ℕ) → List Planned
popped_at parameters index = elim (slice_get parameters index) [
  | Some parameter ↦ popped_argument_steps parameter
  | None ↦ []
]

-- pops arguments into the first `count` parameters, the last one first
unfoldable pub popped_from : List Parameter → (count : ℕ) → List Planned
popped_from parameters zero = []
popped_from parameters (suc others) = popped_at parameters others ++ popped_from parameters others

-- the facts after that
unfoldable pub known_at : Facts → List Parameter → (index : ℕ) → Facts
known_at facts parameters index = elim (slice_get parameters index) [
  | Some parameter ↦ with_argument facts parameter
  | None ↦ facts
]

unfoldable pub known_from : Facts → List Parameter → (count : ℕ) → Facts
known_from facts parameters zero = facts
known_from facts parameters (suc others) = known_from (known_at facts parameters others) parameters others

-- the same for all parameters; the return address is above the arguments, and in DE meanwhile; a single
-- ADDRESS is exchanged with it by XTHL
unfoldable pub pushed_arguments_steps : List Parameter → List Planned
pushed_arguments_steps parameters =
    plain (Pop StackDe) ∷ (popped_from parameters (length parameters) ++ (plain (Push StackDe) ∷ []))

unfoldable pub exchanged_steps : Parameter → List Planned
exchanged_steps parameter = plain (Pop StackHl) ∷ plain Xthl ∷ argument_step parameter ∷ []

abbrev pub is_address : ScalarType → Bool
is_address Byte = false
is_address Address = true

unfoldable pub below_return_steps : List Parameter → List Planned
below_return_steps [] = []
below_return_steps (parameter ∷ []) =
    if is_address parameter.scalar then exchanged_steps parameter
    else pushed_arguments_steps (parameter ∷ [])
below_return_steps (first ∷ next ∷ others) = pushed_arguments_steps (first ∷ next ∷ others)

-- stores the arguments of a procedure that is not REENTRANT in its parameters: first the last one, which is
-- in A or HL, then those on the stack
unfoldable pub stores_steps : (last : Parameter) → (others : List Parameter) → List Planned
stores_steps last others =
    argument_step last
    ∷ (below_return_steps others
    ++ (holds (known_from (with_argument no_facts last) others (length others)) ∷ []))

unfoldable pub static_entry_steps : List Parameter → List Planned
static_entry_steps parameters = elim (slice_get parameters (length parameters - 1)) [
  | Some last ↦ stores_steps last (take (length parameters - 1) parameters)
  | None ↦ holds no_facts ∷ []
]

-- pushes DE four times per turn, in a loop of `turns` turns
unfoldable pub push_loop_steps : (turns : ℕ) → (again : LabelNumber) → List Planned
push_loop_steps turns again =
    plain (Mvi (Of B) turns)
    ∷ mark again
    ∷ (replicate 4 (plain (Push StackDe)) ++ (plain (Dcr (Of B)) ∷ jump (JumpWhere NotZero) again ∷ []))

-- pushes DE `words` times, by a loop if that is less code; a REENTRANT procedure has at most 1024 bytes of
-- variables
unfoldable pub pushes_steps : (words first : ℕ) → List Planned
pushes_steps words first =
    if nat_le words PUSHED_WORDS then replicate words (plain (Push StackDe))
    else push_loop_steps (words / 4 % 256) (label_of first) ++ replicate (words % 4) (plain (Push StackDe))

unfoldable pub pushes_labels : (words : ℕ) → ℕ
pushes_labels words = if nat_le words PUSHED_WORDS then 0 else 1

-- a last odd byte
unfoldable pub odd_byte_steps : (bytes : ℕ) → List Planned
odd_byte_steps bytes = if nat_eq (bytes % 2) 1 then plain (Push StackDe) ∷ plain (Inx Sp) ∷ [] else []

-- pushes `bytes` bytes of zeros; A and HL are kept
unfoldable pub zeros_steps : (bytes first : ℕ) → List Planned
zeros_steps bytes first =
    if nat_eq bytes 0 then []
    else plain (Lxi De 0) ∷ (pushes_steps (bytes / 2) first ++ odd_byte_steps bytes)

unfoldable pub zeros_labels : (bytes : ℕ) → ℕ
zeros_labels bytes = if nat_eq bytes 0 then 0 else pushes_labels (bytes / 2)

-- pushes the last argument of a REENTRANT procedure, which stays in A or HL
unfoldable pub last_argument_steps : List Parameter → List Planned
last_argument_steps parameters = elim (slice_get parameters (length parameters - 1)) [
  | Some last ↦ plain (Push (pair_of last.scalar)) ∷ []
  | None ↦ []
]

unfoldable pub last_argument_facts : List Parameter → Facts
last_argument_facts parameters = elim (slice_get parameters (length parameters - 1)) [
  | Some last ↦ with_argument no_facts last
  | None ↦ no_facts
]

-- makes the frame of a REENTRANT procedure: its last argument, and zeros for its variables
unfoldable pub frame_entry_steps : List Parameter → (bytes first : ℕ) → List Planned
frame_entry_steps parameters bytes first =
    last_argument_steps parameters
    ++ (zeros_steps bytes first ++ (holds (last_argument_facts parameters) ∷ []))

-- the entry of a procedure
unfoldable pub entry_steps_by : ProcedureKind → Body → (first : ℕ) → List Planned
entry_steps_by Reentrant body first =
    frame_entry_steps body.procedure.now.parameters.items body.frame.now.variable_bytes first
entry_steps_by kind body first = static_entry_steps body.procedure.now.parameters.items

abbrev pub entry_steps : Body → (first : ℕ) → List Planned
entry_steps body first = entry_steps_by body.procedure.now.kind body first

-- the number of labels that it takes
unfoldable pub entry_labels_by : ProcedureKind → Body → ℕ
entry_labels_by Reentrant body = zeros_labels body.frame.now.variable_bytes
entry_labels_by kind body = 0

abbrev pub entry_labels : Body → ℕ
entry_labels body = entry_labels_by body.procedure.now.kind body
