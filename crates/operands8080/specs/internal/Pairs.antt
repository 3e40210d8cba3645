-- Code that puts two words into HL and DE.
use Rattle.std.specs.Prelude.{ℕ, ◌+◌, ◌%◌, Bool, ◌&&◌, List, [], ◌∷◌, ◌++◌, Option, Some, None, if◌then◌else◌}
use Rattle.isa8080.specs.declared.instr.Instr.TheVariants.{Pop, Push, Xchg}
use Rattle.isa8080.specs.declared.instr.Pair.TheVariants.{De}
use Rattle.isa8080.specs.declared.instr.Register.TheVariants.{A, D, E}
use Rattle.isa8080.specs.declared.instr.StackPair.TheVariants.{StackDe, StackHl}
use Rattle.asm8080.specs.declared.item.WordForm.TheVariants.{LoadPair}
use Rattle.treecode.specs.declared.expression.ExpressionNumber.{ExpressionNumber}
use Rattle.treecode.specs.declared.place.Place.{Place}
use Rattle.steps8080.specs.declared.step.Step.{Step}
use Rattle.steps8080.specs.declared.step.Step.TheVariants.{Plain, Word}
use Rattle.steps8080.specs.declared.step.Task.TheVariants as tasks
use Rattle.steps8080.specs.internal.Instructions.{copy, set}
use Rattle.steps8080.specs.internal.Step.{part, plain}
use Rattle.steps8080.specs.declared.sites.site.Site.{Site}
use Rattle.steps8080.specs.internal.Queries.{is_free, keeps, known, may_exchange}
use Rattle.steps8080.specs.internal.Widths.{fits_byte, is_word_in_hl}
use Rattle.operands8080.specs.declared.pairs.Choices.{Choices}
use Rattle.operands8080.specs.declared.pairs.PairForm.{PairForm}
use Rattle.operands8080.specs.declared.pairs.PairForm.TheVariants.{RightKnown, LeftKnown, RightKeeps, LeftKeeps, RightFree, LeftFree, Pushed}
use Rattle.operands8080.specs.declared.pairs.PairOrder.{PairOrder}
use Rattle.operands8080.specs.declared.pairs.PairOrder.TheVariants.{LeftInHl, RightInHl}

-- whether an operand is a byte that code can put into A without changing anything but A and the flags
abbrev pub is_free_byte : Site → ExpressionNumber → Bool
is_free_byte site number = fits_byte site number && is_free site number

-- the choices for two operands
abbrev pub choices_of : Site → (left right : ExpressionNumber) → Choices
choices_of site left right = record {
  right_keeps = (keeps site right).de;
  left_keeps = may_exchange site left right && (keeps site left).de;
  right_is_free = is_free_byte site right;
  left_is_free = may_exchange site left right && is_free_byte site left;
  left_is_in_hl = is_word_in_hl site left;
  right_is_in_hl = is_word_in_hl site right;
}

-- the form if either order will do
abbrev pub any_order : Choices → PairForm
any_order choices =
    if choices.left_keeps && choices.right_is_in_hl then LeftKeeps
    else if choices.right_keeps then RightKeeps
    else if choices.left_keeps then LeftKeeps
    else if choices.right_is_free then RightFree
    else if choices.left_is_free then LeftFree
    else Pushed

-- the form if the left one is wanted in HL
abbrev pub left_in_hl : Choices → PairForm
left_in_hl choices =
    if choices.left_is_in_hl && choices.right_is_free then RightFree
    else if choices.left_is_in_hl && choices.right_keeps then RightKeeps
    else if choices.left_keeps then LeftKeeps
    else if choices.right_is_free then RightFree
    else any_order choices

-- the form if the right one is wanted in HL
abbrev pub right_in_hl : Choices → PairForm
right_in_hl choices =
    if choices.right_is_in_hl && choices.left_is_free then LeftFree
    else if choices.right_is_in_hl && choices.left_keeps then LeftKeeps
    else if choices.right_keeps then RightKeeps
    else if choices.left_is_free then LeftFree
    else any_order choices

-- the form in which two operands are put into HL and DE
abbrev pub pair_form : Site → (left right : ExpressionNumber) → (wish : Option PairOrder) → PairForm
pair_form site left right wish = elim (known site right) [
  | Some place ↦ RightKnown place
  | None ↦ elim (known site left) [
    | Some place ↦ LeftKnown place
    | None ↦ elim wish [
      | Some order ↦ elim order [
        | LeftInHl ↦ left_in_hl (choices_of site left right)
        | RightInHl ↦ right_in_hl (choices_of site left right)
      ]
      | None ↦ any_order (choices_of site left right)
    ]
  ]
]

-- the operand that is in HL after a form
abbrev pub order_of : PairForm → PairOrder
order_of (RightKnown place) = LeftInHl
order_of (LeftKnown place) = RightInHl
order_of RightKeeps = RightInHl
order_of LeftKeeps = LeftInHl
order_of RightFree = LeftInHl
order_of LeftFree = RightInHl
order_of Pushed = RightInHl

-- puts the first one into HL, then a known word into DE
abbrev pub with_known_steps : (first : ExpressionNumber) → Place → (pushed : ℕ) → List Step
with_known_steps first place pushed = part (tasks.Word first) pushed ∷ Word (LoadPair De) place ∷ []

-- puts the first one into DE, then the second one into HL; the code of the second one keeps DE
abbrev pub with_exchange_steps : (first second : ExpressionNumber) → (pushed : ℕ) → List Step
with_exchange_steps first second pushed =
    part (tasks.Word first) pushed ∷ Plain Xchg ∷ part (tasks.Word second) pushed ∷ []

-- puts the first one into HL, then the second one, a byte with code that changes only A, into DE
abbrev pub with_byte_steps : (first second : ExpressionNumber) → (pushed : ℕ) → List Step
with_byte_steps first second pushed =
    part (tasks.Word first) pushed ∷ part (tasks.Byte second) pushed ∷ plain (copy E A ∷ set D 0 ∷ [])

-- pushes the first one, puts the second one into HL, and pops the first one into DE
abbrev pub with_stack_steps : (first second : ExpressionNumber) → (pushed : ℕ) → List Step
with_stack_steps first second pushed =
    part (tasks.Word first) pushed
    ∷ Plain (Push StackHl)
    ∷ part (tasks.Word second) ((pushed + 2) % 65536)
    ∷ Plain (Pop StackDe)
    ∷ []

-- puts two operands into HL and DE in a form
abbrev pub form_steps : PairForm → (left right : ExpressionNumber) → (pushed : ℕ) → List Step
form_steps (RightKnown place) left right pushed = with_known_steps left place pushed
form_steps (LeftKnown place) left right pushed = with_known_steps right place pushed
form_steps RightKeeps left right pushed = with_exchange_steps left right pushed
form_steps LeftKeeps left right pushed = with_exchange_steps right left pushed
form_steps RightFree left right pushed = with_byte_steps left right pushed
form_steps LeftFree left right pushed = with_byte_steps right left pushed
form_steps Pushed left right pushed = with_stack_steps left right pushed

-- exchanges both if they are not in the wanted order
abbrev pub wished_steps : (wish : Option PairOrder) → (order : PairOrder) → List Step
wished_steps None order = []
wished_steps (Some LeftInHl) LeftInHl = []
wished_steps (Some RightInHl) RightInHl = []
wished_steps (Some wish) order = Plain Xchg ∷ []

-- puts two operands into HL and DE, in the wanted order if one is given
abbrev pub pair_in_order_steps :
    Site → (left right : ExpressionNumber) → (wish : Option PairOrder) → (pushed : ℕ) → List Step
pair_in_order_steps site left right wish pushed =
    let form = pair_form site left right wish in
    form_steps form left right pushed ++ wished_steps wish (order_of form)

-- the operand that is in HL then
abbrev pub pair_order_by : Site → (left right : ExpressionNumber) → (wish : Option PairOrder) → PairOrder
pair_order_by site left right (Some wish) = wish
pair_order_by site left right None = order_of (pair_form site left right None)

-- the wanted order if the left one is wanted in HL; none if either will do
abbrev pub wish_for_left : (wants_left_in_hl : Bool) → Option PairOrder
wish_for_left wants_left_in_hl = if wants_left_in_hl then Some LeftInHl else None

-- puts two operands into HL and DE, the left one into HL if that is wanted
abbrev pub pair_steps :
    Site → (left right : ExpressionNumber) → (wants_left_in_hl : Bool) → (pushed : ℕ) → List Step
pair_steps site left right wants_left_in_hl pushed =
    pair_in_order_steps site left right (wish_for_left wants_left_in_hl) pushed

-- the operand that is in HL then
abbrev pub pair_order : Site → (left right : ExpressionNumber) → (wants_left_in_hl : Bool) → PairOrder
pair_order site left right wants_left_in_hl = pair_order_by site left right (wish_for_left wants_left_in_hl)
