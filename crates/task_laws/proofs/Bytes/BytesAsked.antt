-- Assumptions about other parts of the proof: if the low byte of an expression is in memory, the code of the
-- reference puts its address into HL.
use Rattle.task_laws.proofs.Prelude.{◌≡◌, ℕ, ◌+◌, ◌*◌, ◌/◌, ◌%◌, ◌<◌, ◌==◌, ◌⊎◌, max, List, Bool, Some, true, byte_at, ScalarType, height_of, type_of, TypedExpression, TypesHold, SourceState, Outcome, Gave, values_of, Registers, word, ExpressionNumber, Place, Reference, place_after, IsExpression, Facts, keeps_of_address, memory, direct_word, fits_byte, IsReady, IsSteady, place_at, PairOrder, LeftInHl, RightInHl, pair_order, pair_steps, Purpose, Branch, Value, Setting, word_is_zero_steps, GoesOutside, in_order, knowing, Context, nodes_in, StepsStand, AddressDoes, Carries, Know, Left, Nothing, PartDoes}
use Rattle.trees.specs.declared.declaration.ScalarType.TheVariants as scalars
use Rattle.operands8080.specs.internal.WordRelations.{high_byte_steps}
use Rattle.task_laws.proofs.Machine.SiteNodes.{value_in}

-- the low byte of a value is at the address in HL; A is kept if the traits say so
pub record ByteIsAtHl
    (context : Context) (after : Facts) (reference : Reference) (scalar : ScalarType)
    (r : Registers) (memory : List ℕ) (found : ℕ) (now : Registers) (memory_now : List ℕ) : Type 0 where
  pub is_there : byte_at memory_now (word now.h now.l) ≡ found % 256
  pub small : found < values_of scalar
  pub steady : IsSteady context.activation (word now.h now.l)
  pub known : Know context after now memory_now
  pub a : Left (keeps_of_address context.site reference).a r.a now.a

abbrev pub LocatesBytes : Context → Type 0
LocatesBytes context =
    (known_there before after : Facts) (number : ExpressionNumber) (reference : Reference)
    (pushed from to bound : ℕ)
    (tree : TypedExpression)
    → memory (knowing context.site known_there) number ≡ Some reference
    → AddressDoes context before reference pushed from after to
    → IsExpression (nodes_in context) context.storage bound number.index tree
    → TypesHold context.typed context.within tree
    → Carries context before pushed (2 * height_of tree) 0 from to Nothing (value_in context tree)
    (ByteIsAtHl context after reference (type_of tree))

-- a value is below 256 if its form shows it
abbrev pub FitsMeans : Context → Type 0
FitsMeans context =
    (known_there : Facts) (number : ExpressionNumber) (bound top found : ℕ)
    (tree : TypedExpression) (base : List ℕ)
    (s t : SourceState) (r : Registers) (memory : List ℕ)
    → IsExpression (nodes_in context) context.storage bound number.index tree
    → TypesHold context.typed context.within tree
    → IsReady context.activation top base s.memory s.frame r memory
    → fits_byte (knowing context.site known_there) number ≡ true
    → value_in context tree s ≡ Gave found t
    → found < 256

-- a value is one of its type
abbrev pub ValuesFit : Context → Type 0
ValuesFit context =
    (number : ExpressionNumber) (bound top found : ℕ) (tree : TypedExpression) (base : List ℕ)
    (s t : SourceState) (r : Registers) (memory : List ℕ)
    → IsExpression (nodes_in context) context.storage bound number.index tree
    → TypesHold context.typed context.within tree
    → IsReady context.activation top base s.memory s.frame r memory
    → value_in context tree s ≡ Gave found t
    → found < values_of (type_of tree)

-- two words are in HL and DE
abbrev pub PairLies : PairOrder → (v w : ℕ) → Registers → Type 0
PairLies LeftInHl v w r =
    (r.h ≡ v / 256) × (r.l ≡ v % 256) × (r.d ≡ w / 256) × (r.e ≡ w % 256)
PairLies RightInHl v w r =
    (r.h ≡ w / 256) × (r.l ≡ w % 256) × (r.d ≡ v / 256) × (r.e ≡ v % 256)

pub record PairIsGiven
    (context : Context) (after : Facts) (order : PairOrder) (r : Registers) (memory : List ℕ)
    (found : ℕ × ℕ) (now : Registers) (memory_now : List ℕ) : Type 0 where
  pub lies : PairLies order found.0 found.1 now
  pub small : found.0 < 65536
  pub other_small : found.1 < 65536
  pub known : Know context after now memory_now

-- the pair of the values of two operands
abbrev pub pair_of_values : Context → (first second : TypedExpression) → SourceState → Outcome (ℕ × ℕ)
pair_of_values context first second s =
    in_order (value_in context first) (value_in context second) (λ v w u. Gave (v, w) u) s

-- two operands are put into HL and DE
abbrev pub PairsGiven : Context → Type 0
PairsGiven context =
    (facts last : Facts) (left right : ExpressionNumber) (wants_left_in_hl : Bool) (pushed from to bound : ℕ)
    (first second : TypedExpression)
    → IsExpression (nodes_in context) context.storage bound left.index first
    → TypesHold context.typed context.within first
    → IsExpression (nodes_in context) context.storage bound right.index second
    → TypesHold context.typed context.within second
    → StepsStand context (PartDoes context) facts from
    (pair_steps (knowing context.site facts) left right wants_left_in_hl pushed) last to
    → Carries context facts pushed (2 + 2 * max (height_of first) (height_of second)) 0 from to Nothing
    (pair_of_values context first second)
    (PairIsGiven context last (pair_order (knowing context.site facts) left right wants_left_in_hl))

-- the word at a place in memory, if the state of the source is that of the machine
pub record WordAtPlace
    (context : Context) (place : Place) (memory : List ℕ) (s : SourceState)
    (outcome : Outcome ℕ) : Type 0 where
  pub found : ℕ
  pub is : outcome ≡ Gave found s
  pub low : found % 256 ≡ byte_at memory (place_at context.activation.layout place)
  pub high : found / 256 ≡ byte_at memory (place_at context.activation.layout (place_after place 1))
  pub low_steady : IsSteady context.activation (place_at context.activation.layout place)
  pub high_steady : IsSteady context.activation (place_at context.activation.layout (place_after place 1))

abbrev pub WordsAtPlaces : Context → Type 0
WordsAtPlaces context =
    (known_there : Facts) (number : ExpressionNumber) (place : Place) (bound top : ℕ) (tree : TypedExpression)
    (base : List ℕ) (s : SourceState) (r : Registers) (memory : List ℕ)
    → IsExpression (nodes_in context) context.storage bound number.index tree
    → TypesHold context.typed context.within tree
    → direct_word (knowing context.site known_there) number ≡ Some place
    → IsReady context.activation top base s.memory s.frame r memory
    → WordAtPlace context place memory s (value_in context tree s) ⊎ GoesOutside (value_in context tree s)

-- the high byte of a value is in A
pub record HighIsGiven
    (context : Context) (after : Facts) (r : Registers) (memory : List ℕ)
    (found : ℕ) (now : Registers) (memory_now : List ℕ) : Type 0 where
  pub a : now.a ≡ found / 256
  pub known : Know context after now memory_now

-- the high byte of an ADDRESS is put into A, for a relation
abbrev pub HighBytesGiven : Context → Type 0
HighBytesGiven context =
    (facts last : Facts) (number : ExpressionNumber) (pushed from to bound : ℕ) (tree : TypedExpression)
    → IsExpression (nodes_in context) context.storage bound number.index tree
    → TypesHold context.typed context.within tree
    → type_of tree ≡ scalars.Address
    → StepsStand context (PartDoes context) facts from
    (high_byte_steps (knowing context.site facts) number pushed) last to
    → Carries context facts pushed (2 * height_of tree) 0 from to Nothing (value_in context tree)
    (HighIsGiven context last)

-- whether a value is 0 is shown
pub record ZeroIsShown
    (context : Context) (after : Facts) (purpose : Purpose) (r : Registers) (memory : List ℕ)
    (found : ℕ) (now : Registers) (memory_now : List ℕ) : Type 0 where
  pub flag : purpose ≡ Branch → now.flags.z ≡ (found == 0)
  pub value : purpose ≡ Value → (now.a == 0) ≡ (found == 0)
  pub known : Know context after now memory_now

-- an ADDRESS is compared with 0
abbrev pub ZerosShown : Context → Type 0
ZerosShown context =
    (facts last : Facts) (number : ExpressionNumber) (setting : Setting) (from to bound : ℕ)
    (tree : TypedExpression)
    → IsExpression (nodes_in context) context.storage bound number.index tree
    → TypesHold context.typed context.within tree
    → type_of tree ≡ scalars.Address
    → StepsStand context (PartDoes context) facts from
    (word_is_zero_steps (knowing context.site facts) number setting) last to
    → Carries context facts setting.pushed (2 * height_of tree) 0 from to Nothing (value_in context tree)
    (ZeroIsShown context last setting.purpose)

pub record BytesAsked (context : Context) : Type 0 where
  pub locates : LocatesBytes context
  pub fits : FitsMeans context
  pub values_fit : ValuesFit context
  pub pairs : PairsGiven context
  pub places : WordsAtPlaces context
  pub high_bytes : HighBytesGiven context
  pub zeros : ZerosShown context
