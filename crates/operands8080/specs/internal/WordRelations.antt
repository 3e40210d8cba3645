-- The code of relations of ADDRESSes.
use Rattle.std.specs.Prelude.{ℕ, ◌+◌, ◌/◌, ◌%◌, ◌==◌, Bool, true, false, ◌&&◌, ◌||◌, List, [], ◌∷◌, ◌++◌, Option, Some, None, if◌then◌else◌, nat_lt}
use Rattle.isa8080.specs.declared.instr.Instr.TheVariants.{AccumulateImmediate, Dad, Inx, Lxi}
use Rattle.isa8080.specs.declared.instr.Operation.TheVariants.{And, ExclusiveOr, Or, Subtract, SubtractWithBorrow}
use Rattle.isa8080.specs.declared.instr.Pair.TheVariants.{De, Hl}
use Rattle.isa8080.specs.declared.instr.Register.{Register}
use Rattle.isa8080.specs.declared.instr.Register.TheVariants.{A, B, D, E, H, L}
use Rattle.asm8080.specs.declared.item.WordForm.TheVariants.{LoadA}
use Rattle.trees.specs.declared.declaration.ScalarType.TheVariants as scalars
use Rattle.trees.specs.declared.expression.BinaryOperator.TheVariants as operators
use Rattle.treecode.specs.declared.expression.ExpressionForm.{ExpressionForm}
use Rattle.treecode.specs.declared.expression.ExpressionForm.TheVariants.{Binary}
use Rattle.treecode.specs.declared.expression.ExpressionNumber.{ExpressionNumber}
use Rattle.treecode.specs.declared.place.Place.{Place}
use Rattle.treecode.specs.internal.Homes.{place_after}
use Rattle.steps8080.specs.declared.step.Step.{Step}
use Rattle.steps8080.specs.declared.step.Step.TheVariants as steps
use Rattle.steps8080.specs.declared.step.Step.TheVariants.{Plain}
use Rattle.steps8080.specs.declared.step.Task.TheVariants.{Address, Byte, Word}
use Rattle.steps8080.specs.internal.Instructions.{copy, high, load, low, with_register}
use Rattle.steps8080.specs.internal.Step.{part, plain, repeat_steps}
use Rattle.steps8080.specs.declared.sites.questions.Comparison.{Comparison}
use Rattle.steps8080.specs.declared.sites.questions.Inquiry.{Inquiry}
use Rattle.steps8080.specs.declared.sites.questions.Inquiry.TheVariants.{Between, WithNumber}
use Rattle.steps8080.specs.declared.sites.questions.NumberQuestion.{NumberQuestion}
use Rattle.steps8080.specs.declared.sites.questions.NumberQuestion.TheVariants.{Never, Below, Is}
use Rattle.steps8080.specs.declared.sites.questions.Question.{Question}
use Rattle.steps8080.specs.declared.sites.questions.Question.TheVariants.{LeftBelow, RightBelow, Equal}
use Rattle.steps8080.specs.declared.sites.questions.Relation.{Relation}
use Rattle.steps8080.specs.declared.sites.site.Site.{Site}
use Rattle.steps8080.specs.internal.Site.{expression}
use Rattle.steps8080.specs.internal.Queries as queries
use Rattle.steps8080.specs.internal.Queries.{direct, may_exchange}
use Rattle.steps8080.specs.internal.Widths.{direct_word, fits_byte, high_byte_in_memory, is_word_in_hl}
use Rattle.operands8080.specs.declared.pairs.PairOrder.{PairOrder}
use Rattle.operands8080.specs.declared.pairs.PairOrder.TheVariants.{LeftInHl, RightInHl}
use Rattle.operands8080.specs.internal.Addresses.{negated}
use Rattle.operands8080.specs.internal.Pairs.{pair_order, pair_steps}
use Rattle.operands8080.specs.declared.answers.Answer.{Answer}
use Rattle.operands8080.specs.declared.answers.Answer.TheVariants.{Known, Carry, Zero}
use Rattle.operands8080.specs.declared.answers.Setting.{Setting}
use Rattle.operands8080.specs.declared.word_relations.Apart.{Apart}
use Rattle.operands8080.specs.declared.word_relations.Word.{Word as WordRegisters}
use Rattle.operands8080.specs.declared.word_relations.Words.{Words}
use Rattle.operands8080.specs.declared.word_relations.Words.TheVariants.{PlaceAndHl, DeAndHl}
use Rattle.operands8080.specs.internal.Answers.{known_steps}
use Rattle.operands8080.specs.internal.ByteRelations.{answer_to, byte_number_answer, byte_number_steps, byte_relation_steps, number_in_a_answer, number_in_a_steps}

-- the registers of a word
abbrev pub in_hl : WordRegisters
in_hl = record { low = L; high = H }

abbrev pub in_de : WordRegisters
in_de = record { low = E; high = D }

-- the ADDRESS and the number, if an expression is the AND of both
abbrev pub masked_form : Site → ExpressionForm → Option (ExpressionNumber × ℕ)
masked_form site (Binary scalars.Address operators.And left right) = elim (queries.number site right) [
  | Some mask ↦ Some (left, mask)
  | None ↦ elim (queries.number site left) [
    | Some mask ↦ Some (right, mask)
    | None ↦ None
  ]
]
masked_form site form = None

unfoldable pub masked : Site → ExpressionNumber → Option (ExpressionNumber × ℕ)
masked site operand = elim (expression site operand) [
  | Some found ↦ masked_form site found.form
  | None ↦ None
]

-- loads the byte at a place into A
abbrev pub load_a_steps : Place → List Step
load_a_steps place = steps.Word LoadA place ∷ []

-- puts the high byte of an ADDRESS into A: through HL, or from memory
abbrev pub high_by_hl_steps : ExpressionNumber → (pushed : ℕ) → List Step
high_by_hl_steps operand pushed = part (Word operand) pushed ∷ Plain (copy A H) ∷ []

unfoldable pub high_byte_steps : Site → ExpressionNumber → (pushed : ℕ) → List Step
high_byte_steps site operand pushed = elim (high_byte_in_memory site operand) [
  | Some reference ↦
      if is_word_in_hl site operand then high_by_hl_steps operand pushed
      else elim (direct site reference) [
        | Some place ↦ load_a_steps place
        | None ↦ part (Address reference) pushed ∷ Plain (load A) ∷ []
      ]
  | None ↦ high_by_hl_steps operand pushed
]

-- tests whether HL is below a number
abbrev pub below_steps : (number : ℕ) → List Step
below_steps number =
    plain
    (copy A L
    ∷ AccumulateImmediate Subtract (low number)
    ∷ copy A H
    ∷ AccumulateImmediate SubtractWithBorrow (high number)
    ∷ [])

-- subtracts a number from HL
abbrev pub difference_steps : (number : ℕ) → List Step
difference_steps number =
    if nat_lt (negated number) 4 then repeat_steps (Inx Hl) (negated number)
    else plain (Lxi De (negated number) ∷ Dad De ∷ [])

-- tests whether HL is a number
abbrev pub word_is_steps : (number : ℕ) → List Step
word_is_steps number =
    if number == 0 then plain (copy A L ∷ with_register Or H ∷ [])
    else if nat_lt number 256
    then plain (copy A L ∷ AccumulateImmediate ExclusiveOr (low number) ∷ with_register Or H ∷ [])
    else difference_steps number ++ plain (copy A L ∷ with_register Or H ∷ [])

-- ANDs an ADDRESS with a mask that has bits in only one byte, and puts that byte into A
abbrev pub masked_steps : Site → ExpressionNumber → (mask pushed : ℕ) → List Step
masked_steps site operand mask pushed =
    if nat_lt mask 256 then part (Byte operand) pushed ∷ Plain (AccumulateImmediate And (low mask)) ∷ []
    else high_byte_steps site operand pushed ++ (Plain (AccumulateImmediate And (high mask)) ∷ [])

-- tests whether an ADDRESS is 0: by its value in HL, or by its only byte that counts, in A
abbrev pub zero_by_hl_steps : ExpressionNumber → (pushed : ℕ) → List Step
zero_by_hl_steps operand pushed = part (Word operand) pushed ∷ word_is_steps 0

unfoldable pub word_is_zero_steps : Site → ExpressionNumber → Setting → List Step
word_is_zero_steps site operand setting = elim (masked site operand) [
  | Some found ↦
      if nat_lt found.1 256 || found.1 % 256 == 0
      then masked_steps site found.0 found.1 setting.pushed ++ number_in_a_steps (Is 0) setting
      else zero_by_hl_steps operand setting.pushed
  | None ↦ zero_by_hl_steps operand setting.pushed
]

-- tests whether an ADDRESS is below a number that is not 0
abbrev pub word_below_steps : Site → ExpressionNumber → (number : ℕ) → Setting → List Step
word_below_steps site operand number setting =
    if number % 256 == 0
    then high_byte_steps site operand setting.pushed ++ number_in_a_steps (Below (number / 256)) setting
    else part (Word operand) setting.pushed ∷ below_steps number

abbrev pub word_below_answer : (number : ℕ) → Answer
word_below_answer number = if number % 256 == 0 then number_in_a_answer (Below (number / 256)) else Carry

-- answers a question about an ADDRESS and a number
abbrev pub word_question_steps : Site → ExpressionNumber → NumberQuestion → Setting → List Step
word_question_steps site operand Never setting = known_steps operand setting
word_question_steps site operand (Below number) setting =
    if number == 1 then word_is_zero_steps site operand setting
    else word_below_steps site operand number setting
word_question_steps site operand (Is number) setting =
    if number == 0 then word_is_zero_steps site operand setting
    else part (Word operand) setting.pushed ∷ word_is_steps number

abbrev pub word_question_answer : NumberQuestion → Answer
word_question_answer Never = Known false
word_question_answer (Below number) = if number == 1 then Zero else word_below_answer number
word_question_answer (Is number) = Zero

-- the same, as about a BYTE if its high byte is 0
abbrev pub word_number_steps : Site → ExpressionNumber → NumberQuestion → Setting → List Step
word_number_steps site operand question setting =
    if fits_byte site operand then byte_number_steps operand question setting
    else word_question_steps site operand question setting

abbrev pub word_number_answer : Site → ExpressionNumber → NumberQuestion → Answer
word_number_answer site operand question =
    if fits_byte site operand then byte_number_answer question else word_question_answer question

-- the place of an ADDRESS in memory, if it has no computed part and the word is not in HL already
abbrev pub place_apart : Site → ExpressionNumber → Option Place
place_apart site operand = if is_word_in_hl site operand then None else direct_word site operand

-- an operand as one that stays in memory, if possible, and the other one
abbrev pub apart_of : Option Place → (other : ExpressionNumber) → Option Apart
apart_of None other = None
apart_of (Some place) other = Some (record { place = place; other = other })

-- the left operand as one that stays in memory
abbrev pub left_apart : Site → Comparison → Option Apart
left_apart site comparison =
    if may_exchange site comparison.left comparison.right
    then apart_of (place_apart site comparison.left) comparison.right
    else None

-- the right operand as one that stays in memory
abbrev pub right_apart : Site → Comparison → Option Apart
right_apart site comparison = apart_of (place_apart site comparison.right) comparison.left

-- the operand that stays in memory, from which the other one is subtracted, if any
unfoldable pub operand_apart : Site → Comparison → Option Apart
operand_apart site comparison = elim comparison.question [
  | LeftBelow ↦ left_apart site comparison
  | RightBelow ↦ right_apart site comparison
  | Equal ↦ elim (right_apart site comparison) [
    | Some found ↦ Some found
    | None ↦ left_apart site comparison
  ]
]

-- subtracts the low byte of a word from A; for equality, keeps the difference in B
abbrev pub low_steps : WordRegisters → Question → List Step
low_steps word LeftBelow = Plain (with_register Subtract word.low) ∷ []
low_steps word RightBelow = Plain (with_register Subtract word.low) ∷ []
low_steps word Equal = Plain (with_register Subtract word.low) ∷ Plain (copy B A) ∷ []

-- subtracts the high byte of a word from A, after the low one; for equality, A is 0 if both differences are
abbrev pub high_steps : WordRegisters → Question → List Step
high_steps word LeftBelow = Plain (with_register SubtractWithBorrow word.high) ∷ []
high_steps word RightBelow = Plain (with_register SubtractWithBorrow word.high) ∷ []
high_steps word Equal =
    Plain (with_register SubtractWithBorrow word.high) ∷ Plain (with_register Or B) ∷ []

-- subtracts HL from a word in memory
abbrev pub with_place_steps : Apart → Question → (pushed : ℕ) → List Step
with_place_steps apart question pushed =
    part (Word apart.other) pushed ∷ load_a_steps apart.place ++ low_steps in_hl question
    ++ load_a_steps (place_after apart.place 1)
    ++ high_steps in_hl question

-- the registers of the operand from which the other one is subtracted
abbrev pub word_taken_from : Question → PairOrder → WordRegisters
word_taken_from LeftBelow LeftInHl = in_hl
word_taken_from LeftBelow RightInHl = in_de
word_taken_from RightBelow LeftInHl = in_de
word_taken_from RightBelow RightInHl = in_hl
word_taken_from Equal order = in_de

-- the registers of the other word
abbrev pub other_word : WordRegisters → WordRegisters
other_word word = elim word.low [
  | L ↦ in_de
  | register ↦ in_hl
]

-- subtracts a word in registers from another one
abbrev pub taken_steps : (from taken : WordRegisters) → Question → List Step
taken_steps from taken question =
    Plain (copy A from.low) ∷ low_steps taken question
    ++ (Plain (copy A from.high) ∷ high_steps taken question)

-- compares two operands, one in HL and the other in DE
abbrev pub with_pair_steps : Site → Comparison → (pushed : ℕ) → List Step
with_pair_steps site comparison pushed =
    let from = word_taken_from comparison.question (pair_order site comparison.left comparison.right false) in
    pair_steps site comparison.left comparison.right false pushed
    ++ taken_steps from (other_word from) comparison.question

-- the two ADDRESSes that a relation tests for equality, if that takes both their bytes
abbrev pub words_compared : Site → Comparison → Option Comparison
words_compared site comparison =
    if fits_byte site comparison.left && fits_byte site comparison.right then None else Some comparison

abbrev pub words_asked : Site → Inquiry → Option Comparison
words_asked site (Between comparison) = elim comparison.operands [
  | scalars.Address ↦ elim comparison.question [
    | Equal ↦ words_compared site comparison
    | LeftBelow ↦ None
    | RightBelow ↦ None
  ]
  | scalars.Byte ↦ None
]
words_asked site (WithNumber operand scalar question) = None

unfoldable pub equality_of_words : Site → Relation → Option Comparison
equality_of_words site relation = words_asked site relation.inquiry

-- puts two ADDRESSes into places where their bytes can be compared
abbrev pub words_steps : Site → Comparison → (pushed : ℕ) → List Step
words_steps site comparison pushed = elim (operand_apart site comparison) [
  | Some apart ↦ part (Word apart.other) pushed ∷ []
  | None ↦ pair_steps site comparison.left comparison.right false pushed
]

-- the places where they are then
abbrev pub words_of : Site → Comparison → Words
words_of site comparison = elim (operand_apart site comparison) [
  | Some apart ↦ PlaceAndHl apart.place
  | None ↦ DeAndHl
]

-- puts the difference of the low bytes into A; the words are kept
abbrev pub low_difference_steps : Words → List Step
low_difference_steps (PlaceAndHl place) = load_a_steps place ++ (Plain (with_register Subtract L) ∷ [])
low_difference_steps DeAndHl = plain (copy A E ∷ with_register Subtract L ∷ [])

-- puts the difference of the high bytes into A; the words are kept
abbrev pub high_difference_steps : Words → List Step
high_difference_steps (PlaceAndHl place) =
    load_a_steps (place_after place 1) ++ (Plain (with_register Subtract H) ∷ [])
high_difference_steps DeAndHl = plain (copy A D ∷ with_register Subtract H ∷ [])

-- answers a question about two ADDRESSes, as about BYTEs if their high bytes are 0; `answer_to` is the place
-- of the answer
abbrev pub word_relation_steps : Site → Comparison → Setting → List Step
word_relation_steps site comparison setting =
    if fits_byte site comparison.left && fits_byte site comparison.right
    then byte_relation_steps site comparison setting
    else elim (operand_apart site comparison) [
      | Some apart ↦ with_place_steps apart comparison.question setting.pushed
      | None ↦ with_pair_steps site comparison setting.pushed
    ]
