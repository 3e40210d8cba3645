-- Operands that may be exchanged.
use Rattle.treecode_laws.proofs.Prelude.{◌≡◌, ◌||◌, ◌&&◌, ℕ, true, Option, Some, None, is_some, subst, refl, sym, ap, ◌∙◌, length, and_parts, ScalarType, Address, type_of, TypedExpression, TypedReference, Storage, Surroundings, Later, located, value, State, Outcome, Gave, Place, Number, Reference, known_value, IsExpression, IsReference, Nodes, Resolves, HaveOperands, KeepTraits, known_at, quiet_at, reference_is_quiet, storing_nothing_at, known_kept, known_value_tells, AreAlike, AreSame, may_exchange, stores_nothing}
use Rattle.meaning.specs.Access.{Place as Location}
use Rattle.treecode_laws.proofs.Exchanging.{alike_turned, in_order, exchanged, known_exchanged, known_second, quiet_exchanged}
use Rattle.treecode_laws.proofs.KeptTraits.{part_quiet, quiet_kept, storing_kept}
use Rattle.treecode_laws.proofs.QuietTrees.{quiet_location, quiet_value}
use Rattle.treecode_laws.proofs.StoringNothing.{value_adds}

-- a relocatable address is an ADDRESS
abbrev IsAddress : Place → ScalarType → Type 0
IsAddress (Number number) scalar = Unit {0}
IsAddress place scalar = scalar ≡ Address

abbrev Tells : (Place → ℕ) → Option Place → ScalarType → (State → Outcome ℕ) → Type 0
Tells address None scalar outcome = Unit {0}
Tells address (Some place) scalar outcome =
    ((s : State) → outcome s ≡ Gave (address place) s) × IsAddress place scalar

-- an expression with a known value gives it in every state
pub known_gives : (around : Surroundings) (nodes : Nodes) (storage : Storage) (address : Place → ℕ)
    (resolves : Resolves around nodes.homes storage address) (later : Later) (tree : TypedExpression)
    (place : Place)
    → HaveOperands (length storage.lists) tree → known_value nodes.homes storage tree ≡ Some place
    → (s : State) → value later around tree s ≡ Gave (address place) s
known_gives around nodes storage address resolves later tree place fit is =
    (subst (λ (one : Option Place). Tells address one (type_of tree) (λ s. value later around tree s)) is
    (known_value_tells around nodes.homes storage address resolves later tree fit)).0

module _ (nodes : Nodes) (storage : Storage) (keeps : KeepTraits nodes) (around : Surroundings)
    (address : Place → ℕ) (resolves : Resolves around nodes.homes storage address) (later : Later) where
  -- an operand in a state
  abbrev of : TypedExpression → State → Outcome ℕ
  of tree s = value later around tree s

  -- if two operands may be exchanged, their order makes no observable difference
  pub operands_exchanged : {A : Type 0} {left_bound right_bound left right : ℕ}
      {first second : TypedExpression}
      → IsExpression nodes storage left_bound left first
      → IsExpression nodes storage right_bound right second
      → HaveOperands (length storage.lists) first
      → may_exchange nodes (record { index = left }) (record { index = right }) ≡ true
      → (go : ℕ → ℕ → State → Outcome A) (s : State)
      → AreAlike (in_order (of first) (of second) go s) (exchanged (of first) (of second) go s)
  operands_exchanged {left = left} {right = right} {first = first} {second = second} one two fit may go s =
      by (known_value nodes.homes storage first) refl
    where
      by : (known : Option Place) → known_value nodes.homes storage first ≡ known
          → AreAlike (in_order (of first) (of second) go s) (exchanged (of first) (of second) go s)
      by (Some place) is =
          AreSame
          (known_exchanged (of first) (of second) go (address place)
          (known_gives around nodes storage address resolves later first place fit is) s)
      by None is =
          let free : (quiet_at nodes (record { index = left })
          && storing_nothing_at nodes (record { index = right })) ≡ true =
          ap
          (λ (known : Option Place).
          is_some known
          || (quiet_at nodes (record { index = left })
          && storing_nothing_at nodes (record { index = right })))
          (sym (known_kept nodes storage keeps one ∙ is))
          ∙ may in
          let parts : _ = and_parts (quiet_at nodes (record { index = left }))
          (storing_nothing_at nodes (record { index = right })) free in
          quiet_exchanged (of first) (of second) go
          (quiet_value later around first (sym (quiet_kept nodes storage keeps one) ∙ parts.0))
          (value_adds later around second (sym (storing_kept nodes storage keeps two) ∙ parts.1)) s

  -- the same if the second is known, whatever the first does
  pub known_second_exchanged : {A : Type 0} {bound right : ℕ} {second : TypedExpression}
      (first : TypedExpression) (place : Place)
      → IsExpression nodes storage bound right second
      → HaveOperands (length storage.lists) second
      → known_at nodes (record { index = right }) ≡ Some place
      → (go : ℕ → ℕ → State → Outcome A) (s : State)
      → in_order (of first) (of second) go s ≡ exchanged (of first) (of second) go s
  known_second_exchanged {second = second} first place two fit is go s =
      known_second (of first) (of second) go (address place)
      (known_gives around nodes storage address resolves later second place fit
      (sym (known_kept nodes storage keeps two) ∙ is)) s

  -- the location of a part of an object
  abbrev place_of_part : TypedReference → State → Outcome Location
  place_of_part part s = located later around part s

  -- the location of a part of an object with quiet subscripts may be computed before a value that is stored
  -- there, if the evaluation of that value stores nothing
  pub location_exchanged : {A : Type 0} {bound : ℕ} {reference : Reference} {part : TypedReference}
      (tree : TypedExpression)
      → IsReference nodes storage bound reference part
      → reference_is_quiet nodes reference ≡ true
      → stores_nothing tree ≡ true
      → (go : ℕ → Location → State → Outcome A) (s : State)
      → AreAlike (in_order (of tree) (place_of_part part) go s)
      (exchanged (of tree) (place_of_part part) go s)
  location_exchanged {part = part} tree is quiet nothing go s =
      alike_turned (exchanged (of tree) (place_of_part part) go s)
      (in_order (of tree) (place_of_part part) go s)
      (quiet_exchanged (place_of_part part) (of tree) (λ place number u. go number place u)
      (quiet_location later around part (sym (part_quiet nodes storage keeps is) ∙ quiet))
      (value_adds later around tree nothing) s)
