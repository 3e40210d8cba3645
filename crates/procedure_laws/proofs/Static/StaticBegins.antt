-- A procedure that is not REENTRANT takes its arguments, of which each has a place in memory.
use Rattle.procedure_laws.proofs.Prelude.{◌≡◌, ℕ, zero, suc, ◌+◌, ◌-◌, ◌*◌, ◌<◌, ◌≤◌, inl, inr, Bool, true, List, [], ◌∷◌, length, map, slice_get, Option, Some, None, refl, sym, ap, subst, ◌∙◌, arith, take, MEMORY_SIZE, ScalarType, frame_bytes, is_declared, Program, Registers, wrap, Location, Static, Parameter, IsVariable, Shares, ByteHolds, WordHolds, place_at, AddressHolds, IsByteAt, IsWordAt, ZeroHolds, location_at, declared_is_steady, Facts, ArgumentsLie, InRegister, InWord, IsSound, distances_in, Know, BodyContext}
use Rattle.procedure_laws.proofs.Puts.{AreVariables, EachApart, IsPart, Lies, Slot, lies_there, put_down}
use Rattle.procedure_laws.proofs.Static.StaticLoops.{Held, HeldAs, HeldByte, HeldWord}

-- the parameter of tree code that lies in a place
abbrev pub parameter_of : Slot → Parameter
parameter_of slot = record { scalar = slot.scalar; location = Static slot.place }

pub record IsThereAt {A : Type 0} (list : List A) (index : ℕ) : Type 0 where
  pub one : A
  pub is : slice_get list index ≡ Some one

pub at_index : {A : Type 0} (list : List A) (index : ℕ) → index < length list → IsThereAt list index
at_index [] index below = absurd (omega (arith, below))
at_index (first ∷ others) zero below = record { one = first; is = refl }
at_index (first ∷ others) (suc index) below =
    let rest = at_index others index (omega (arith, below)) in
    record { one = rest.one; is = rest.is }

pub taken_first : {A : Type 0} (count : ℕ) (list : List A) (index : ℕ) → index < count
    → slice_get (take count list) index ≡ slice_get list index
taken_first zero list index below = absurd (omega (arith, below))
taken_first (suc count) [] index below = refl
taken_first (suc count) (first ∷ others) zero below = refl
taken_first (suc count) (first ∷ others) (suc index) below =
    taken_first count others index (omega (arith, below))

pub taken_length : {A : Type 0} (count : ℕ) (list : List A) → count ≤ length list
    → length (take count list) ≡ count
taken_length zero list few = refl
taken_length (suc count) [] few = absurd (omega (arith, few))
taken_length (suc count) (first ∷ others) few = ap suc (taken_length count others (omega (arith, few)))

pub mapped : (slots : List Slot) (index : ℕ) (slot : Slot) → slice_get slots index ≡ Some slot
    → slice_get (map parameter_of slots) index ≡ Some (parameter_of slot)
mapped [] index slot is = let bad : ⊥ = cc in absurd bad
mapped (first ∷ slots) zero slot is =
    let same : first ≡ slot = cc in ap (λ (one : Slot). Some (parameter_of one)) same
mapped (first ∷ slots) (suc index) slot is = mapped slots index slot is

pub mapped_length : (slots : List Slot) → length (map parameter_of slots) ≡ length slots
mapped_length [] = refl
mapped_length (first ∷ slots) = ap suc (mapped_length slots)

pub variables_at : (program : Program) (slots : List Slot) (index : ℕ) (slot : Slot)
    → AreVariables program slots → slice_get slots index ≡ Some slot
    → (address : ℕ) → IsPart slot.scalar slot.at address → IsVariable program address
variables_at program [] index slot are is = let bad : ⊥ = cc in absurd bad
variables_at program (first ∷ slots) zero slot are is =
    let same : first ≡ slot = cc in
    subst (λ (one : Slot). (address : ℕ) → IsPart one.scalar one.at address → IsVariable program address) same
    are.0
variables_at program (first ∷ slots) (suc index) slot are is = variables_at program slots index slot are.1 is

-- the last argument is in its register, and the others are on the stack
pub last_lies : (slots : List Slot) (values : List ℕ) (top index value : ℕ) (slot : Slot)
    (r : Registers) (memory : List ℕ)
    → ArgumentsLie (map (λ (slot : Slot). slot.scalar) slots) values top r memory
    → suc index ≡ length slots
    → slice_get slots index ≡ Some slot
    → slice_get values index ≡ Some value
    → InRegister slot.scalar value r
last_lies [] values top index value slot r memory lie many there is = let bad : ⊥ = cc in absurd bad
last_lies (first ∷ slots) [] top index value slot r memory lie many there is = let bad : ⊥ = cc in absurd bad
last_lies (first ∷ []) (number ∷ []) top zero value slot r memory lie many there is =
    let one : first ≡ slot = cc in
    let other : number ≡ value = cc in
    subst (λ (value : ℕ). InRegister slot.scalar value r) other
    (subst (λ (one : Slot). InRegister one.scalar number r) one lie)
last_lies (first ∷ []) (number ∷ next ∷ values) top zero value slot r memory lie many there is = absurd lie
last_lies (first ∷ []) (number ∷ values) top (suc index) value slot r memory lie many there is =
    absurd (omega (arith, many))
last_lies (first ∷ next ∷ slots) (number ∷ values) top zero value slot r memory lie many there is =
    absurd (omega (arith, many))
last_lies (first ∷ next ∷ slots) (number ∷ values) top (suc index) value slot r memory lie many there is =
    last_lies (next ∷ slots) values top index value slot r memory lie.1 (omega (arith, many)) there is

scalars_length : (slots : List Slot) → length (map (λ (slot : Slot). slot.scalar) slots) ≡ length slots
scalars_length [] = refl
scalars_length (first ∷ slots) = ap suc (scalars_length slots)

pub other_lies : (slots : List Slot) (values : List ℕ) (top index value : ℕ) (slot : Slot)
    (r : Registers) (memory : List ℕ)
    → ArgumentsLie (map (λ (slot : Slot). slot.scalar) slots) values top r memory
    → suc index < length slots
    → slice_get slots index ≡ Some slot
    → slice_get values index ≡ Some value
    → InWord slot.scalar value memory (top + 2 * (length slots - 2 - index))
other_lies [] values top index value slot r memory lie many there is = let bad : ⊥ = cc in absurd bad
other_lies (first ∷ slots) [] top index value slot r memory lie many there is = let bad : ⊥ = cc in absurd bad
other_lies (first ∷ []) (number ∷ values) top index value slot r memory lie many there is =
    absurd (omega (arith, many))
other_lies (first ∷ next ∷ slots) (number ∷ values) top zero value slot r memory lie many there is =
    let one : first ≡ slot = cc in
    let other : number ≡ value = cc in
    let scalars = scalars_length slots in
    subst (λ (address : ℕ). InWord slot.scalar value memory address) (omega (arith, scalars))
    (subst (λ (value : ℕ).
    InWord slot.scalar value memory (top + 2 * length (map (λ (slot : Slot). slot.scalar) slots))) other
    (subst (λ (one : Slot).
    InWord one.scalar number memory (top + 2 * length (map (λ (slot : Slot). slot.scalar) slots))) one lie.0))
other_lies (first ∷ next ∷ slots) (number ∷ values) top (suc index) value slot r memory lie many there is =
    subst (λ (address : ℕ). InWord slot.scalar value memory address) (omega arith)
    (other_lies (next ∷ slots) values top index value slot r memory lie.1 (omega (arith, many)) there is)

-- where slots lie
abbrev pub SlotsLie : BodyContext → List Slot → Type 0
SlotsLie at slots =
    (index : ℕ) (slot : Slot) → slice_get slots index ≡ Some slot
    → (place_at at.context.activation.layout slot.place ≡ slot.at) × (slot.at < MEMORY_SIZE)

module _ (at : BodyContext) (sound : IsSound at.context)
    (no_frame : (object : ℕ) → at.context.activation.size object ≡ 0)
    (entered : List ℕ) (frame : List (List ℕ))
    (none : (object : ℕ) → length (frame_bytes frame object) ≡ 0)
    (slots : List Slot) (values source : List ℕ) (lie : SlotsLie at slots) (apart : EachApart slots)
    (many : length values ≡ length slots) (size : length source ≡ MEMORY_SIZE)
    (variables : AreVariables at.context.activation.around.program slots) where
  -- what is known of registers is true at the end
  lies_at : {scalar : ScalarType} {location : Location} (value : ℕ)
      (held : HeldAs slots values scalar location value)
      → Lies scalar held.slot.at value (put_down (length slots) slots values source)
  lies_at {scalar = scalar} value held =
      subst (λ (scalar : ScalarType). Lies scalar held.slot.at value
      (put_down (length slots) slots values source))
      held.scalar_is
      (lies_there slots values source held.index held.slot value apart many size held.there held.value_is
      (lie held.index held.slot held.there).1)

  part_declared : {scalar : ScalarType} {location : Location} {value : ℕ}
      (held : HeldAs slots values scalar location value) (address : ℕ)
      → IsPart scalar held.slot.at address
      → is_declared at.context.activation.around.program address ≡ true
  part_declared {scalar = scalar} held address part =
      (variables_at at.context.activation.around.program slots held.index held.slot
      variables held.there address
      (subst (λ (scalar : ScalarType). IsPart scalar held.slot.at address) (sym held.scalar_is) part)).0

  place_is : {scalar : ScalarType} {location : Location} {value : ℕ}
      (held : HeldAs slots values scalar location value)
      → held.slot.at
      ≡ location_at at.context.activation (distances_in at.context) location
  place_is held =
      sym (lie held.index held.slot held.there).0
      ∙ ap (λ (location : Location).
      location_at at.context.activation (distances_in at.context) location)
      (sym held.location_is)

  byte_holds : (location : Option Location) (a : ℕ) (memory : List ℕ)
      → Shares at.context.activation.around.program at.context.activation.image
      (put_down (length slots) slots values source) memory
      → HeldByte slots values location a
      → ByteHolds at.context.activation (distances_in at.context) location a memory
  byte_holds None a memory shares held = tt
  byte_holds (Some location) a memory shares held =
      let declared = part_declared held.2 (held.2).slot.at refl in
      subst (λ (address : ℕ). IsByteAt at.context.activation memory address a)
      (place_is held.2) (
        held.1 ∙ sym (lies_at held.0 held.2) ∙ sym (shares.declared (held.2).slot.at declared),
        declared_is_steady at.context.activation (held.2).slot.at sound.lies declared,
      )

  word_holds : (location : Option Location) (h l : ℕ) (memory : List ℕ)
      → Shares at.context.activation.around.program at.context.activation.image
      (put_down (length slots) slots values source) memory
      → HeldWord slots values location h l
      → WordHolds at.context.activation (distances_in at.context) location h l memory
  word_holds None h l memory shares held = tt
  word_holds (Some location) h l memory shares held =
      let low = part_declared held.2 (held.2).slot.at (inl refl) in
      let high = part_declared held.2 (wrap ((held.2).slot.at + 1)) (inr refl) in
      let lies = lies_at held.0 held.2 in
      subst (λ (address : ℕ). IsWordAt at.context.activation memory address h l)
      (place_is held.2)
      (record {
        low_is = (
          held.1.1 ∙ sym lies.0 ∙ sym (shares.declared (held.2).slot.at low),
          declared_is_steady at.context.activation (held.2).slot.at sound.lies low,
        );
        high_is = (
          held.1.0 ∙ sym lies.1 ∙ sym (shares.declared (wrap ((held.2).slot.at + 1)) high),
          declared_is_steady at.context.activation (wrap ((held.2).slot.at + 1)) sound.lies high,
        );
      })

  pub held_known : (facts : Facts) (r : Registers) (memory : List ℕ)
      → Shares at.context.activation.around.program at.context.activation.image
      (put_down (length slots) slots values source) memory
      → Held slots values facts r
      → Know at.context facts r memory
  held_known facts r memory shares held = record {
    byte_holds = byte_holds facts.byte_in_a r.a memory shares held.byte;
    word_holds = word_holds facts.word_in_hl r.h r.l memory shares held.word;
    address_holds =
        subst (λ (location : Option Location).
        AddressHolds at.context.activation (distances_in at.context) location r.h r.l)
        (sym held.address) tt;
    zero_holds =
        subst (λ (shows : Bool). ZeroHolds shows r.flags.z r.a) (sym held.zero) tt;
  }
