-- Values that are put into memory one after another, in either order.
use Rattle.procedure_laws.proofs.Prelude.{◌≡◌, ℕ, zero, suc, ◌+◌, ◌/◌, ◌%◌, ◌<◌, ◌⊎◌, inl, inr, Bool, true, false, if◌then◌else◌, List, [], ◌∷◌, length, map, slice_get, slice_set, Some, refl, sym, ap, subst, ◌∙◌, arith, length-set, set_comm, MEMORY_SIZE, byte_at, ScalarType, Byte, Address, Surroundings, InMemory, is_constant, is_declared, place_of, write_scalar, Reason, UndeclaredByte, Constant, parameters_set, Gave, Outcome, Outside, Program, SourceState, Stopped, then_do, State, wrap, byte_kept, byte_put, Place, IsVariable, Does, Loaded, differs_from_next}

-- a parameter in memory: its type, its object, its place and where that lies
pub record Slot : Type 0 where
  pub scalar : ScalarType
  pub object : ℕ
  pub place : Place
  pub at : ℕ

-- a value at an address
abbrev pub put : ScalarType → (at value : ℕ) → List ℕ → List ℕ
put Byte at value memory = slice_set memory at (value % 256)
put Address at value memory = slice_set (slice_set memory at (value % 256)) (wrap (at + 1)) (value / 256)

-- its bytes
abbrev pub IsPart : ScalarType → (at address : ℕ) → Type 0
IsPart Byte at address = address ≡ at
IsPart Address at address = (address ≡ at) ⊎ (address ≡ wrap (at + 1))

abbrev pub Apart : Slot → Slot → Type 0
Apart one other = (address : ℕ) → IsPart one.scalar one.at address → IsPart other.scalar other.at address → ⊥

abbrev pub ApartFrom : Slot → List Slot → Type 0
ApartFrom one [] = Unit {0}
ApartFrom one (other ∷ others) = Apart one other × ApartFrom one others

abbrev pub EachApart : List Slot → Type 0
EachApart [] = Unit {0}
EachApart (one ∷ others) = ApartFrom one others × EachApart others

-- from the first one to the last, and from the last one to the first
abbrev pub set_all : List Slot → (values : List ℕ) → List ℕ → List ℕ
set_all (slot ∷ slots) (value ∷ values) memory = set_all slots values (put slot.scalar slot.at value memory)
set_all slots values memory = memory

abbrev pub put_nth : (index : ℕ) → List Slot → (values : List ℕ) → List ℕ → List ℕ
put_nth zero (slot ∷ slots) (value ∷ values) memory = put slot.scalar slot.at value memory
put_nth (suc index) (slot ∷ slots) (value ∷ values) memory = put_nth index slots values memory
put_nth index slots values memory = memory

abbrev pub put_down : (count : ℕ) → List Slot → (values : List ℕ) → List ℕ → List ℕ
put_down zero slots values memory = memory
put_down (suc count) slots values memory = put_down count slots values (put_nth count slots values memory)

pub put_length : (scalar : ScalarType) (at value : ℕ) (memory : List ℕ)
    → length (put scalar at value memory) ≡ length memory
put_length Byte at value memory = length-set memory at (value % 256)
put_length Address at value memory =
    length-set (slice_set memory at (value % 256)) (wrap (at + 1)) (value / 256)
    ∙ length-set memory at (value % 256)

put_both : (one other : ScalarType) (first second value number : ℕ) (memory : List ℕ)
    → ((address : ℕ) → IsPart one first address → IsPart other second address → ⊥)
    → put one first value (put other second number memory)
    ≡ put other second number (put one first value memory)
put_both Byte Byte first second value number memory apart =
    set_comm memory second first (number % 256) (value % 256) (λ same. apart second same refl)
put_both Byte Address first second value number memory apart =
    set_comm (slice_set memory second (number % 256)) (wrap (second + 1)) first (number / 256) (value % 256)
    (λ same. apart (wrap (second + 1)) same (inr refl))
    ∙ ap (λ (memory : List ℕ). slice_set memory (wrap (second + 1)) (number / 256))
    (set_comm memory second first (number % 256) (value % 256) (λ same. apart second same (inl refl)))
put_both Address Byte first second value number memory apart =
    ap (λ (memory : List ℕ). slice_set memory (wrap (first + 1)) (value / 256))
    (set_comm memory second first (number % 256) (value % 256) (λ same. apart second (inl same) refl))
    ∙ set_comm (slice_set memory first (value % 256)) second (wrap (first + 1)) (number % 256) (value / 256)
    (λ same. apart second (inr same) refl)
put_both Address Address first second value number memory apart =
    ap (λ (memory : List ℕ). slice_set memory (wrap (first + 1)) (value / 256))
    (set_comm (slice_set memory second (number % 256)) (wrap (second + 1)) first (number / 256) (value % 256)
    (λ same. apart (wrap (second + 1)) (inl same) (inr refl))
    ∙ ap (λ (memory : List ℕ). slice_set memory (wrap (second + 1)) (number / 256))
    (set_comm memory second first (number % 256) (value % 256) (λ same. apart second (inl same) (inl refl))))
    ∙ (set_comm (slice_set (slice_set memory first (value % 256)) second (number % 256)) (wrap (second + 1))
    (wrap (first + 1)) (number / 256) (value / 256)
    (λ same. apart (wrap (second + 1)) (inr same) (inr refl))
    ∙ ap (λ (memory : List ℕ). slice_set memory (wrap (second + 1)) (number / 256))
    (set_comm (slice_set memory first (value % 256)) second (wrap (first + 1)) (number % 256) (value / 256)
    (λ same. apart second (inr same) (inl refl))))

-- one that is put before all others may be put after them
set_past : (slot : Slot) (slots : List Slot) (value : ℕ) (values memory : List ℕ)
    → ApartFrom slot slots
    → set_all slots values (put slot.scalar slot.at value memory)
    ≡ put slot.scalar slot.at value (set_all slots values memory)
set_past slot [] value values memory apart = refl
set_past slot (other ∷ others) value [] memory apart = refl
set_past slot (other ∷ others) value (number ∷ values) memory apart =
    ap (λ (memory : List ℕ). set_all others values memory)
    (sym (put_both slot.scalar other.scalar slot.at other.at value number memory apart.0))
    ∙ set_past slot others value values (put other.scalar other.at number memory) apart.1

down_first : (count : ℕ) (slot : Slot) (slots : List Slot) (value : ℕ) (values memory : List ℕ)
    → put_down (suc count) (slot ∷ slots) (value ∷ values) memory
    ≡ put slot.scalar slot.at value (put_down count slots values memory)
down_first zero slot slots value values memory = refl
down_first (suc count) slot slots value values memory =
    down_first count slot slots value values (put_nth count slots values memory)

-- the order does not matter
pub set_down : (slots : List Slot) (values memory : List ℕ)
    → EachApart slots
    → length values ≡ length slots
    → set_all slots values memory ≡ put_down (length slots) slots values memory
set_down [] [] memory apart many = refl
set_down [] (value ∷ values) memory apart many = absurd (omega (arith, many))
set_down (slot ∷ slots) [] memory apart many = absurd (omega (arith, many))
set_down (slot ∷ slots) (value ∷ values) memory apart many =
    set_past slot slots value values memory apart.0
    ∙ ap (λ (memory : List ℕ). put slot.scalar slot.at value memory)
    (set_down slots values memory apart.1 (omega (arith, many)))
    ∙ sym (down_first (length slots) slot slots value values memory)

-- a value lies at an address
abbrev pub Lies : ScalarType → (at value : ℕ) → (memory : List ℕ) → Type 0
Lies Byte at value memory = byte_at memory at ≡ value % 256
Lies Address at value memory =
    (byte_at memory at ≡ value % 256) × (byte_at memory (wrap (at + 1)) ≡ value / 256)

put_lies : (scalar : ScalarType) (at value : ℕ) (memory : List ℕ)
    → at < MEMORY_SIZE → length memory ≡ MEMORY_SIZE → Lies scalar at value (put scalar at value memory)
put_lies Byte at value memory small size = byte_put memory at (value % 256) (omega (arith, small, size))
put_lies Address at value memory small size =
    let inner = length-set memory at (value % 256) in (
      byte_kept (slice_set memory at (value % 256)) (wrap (at + 1)) at (value / 256)
          (differs_from_next at small)
          ∙ byte_put memory at (value % 256) (omega (arith, small, size)),
      byte_put (slice_set memory at (value % 256)) (wrap (at + 1)) (value / 256) (omega (arith, inner, size)),
    )

pub put_kept : (scalar : ScalarType) (at value : ℕ) (memory : List ℕ) (address : ℕ)
    → (IsPart scalar at address → ⊥) → byte_at (put scalar at value memory) address ≡ byte_at memory address
put_kept Byte at value memory address outside = byte_kept memory at address (value % 256) outside
put_kept Address at value memory address outside =
    byte_kept (slice_set memory at (value % 256)) (wrap (at + 1)) address (value / 256)
    (λ same. outside (inr same))
    ∙ byte_kept memory at address (value % 256) (λ same. outside (inl same))

lies_kept : (one other : ScalarType) (first second value number : ℕ) (memory : List ℕ)
    → ((address : ℕ) → IsPart one first address → IsPart other second address → ⊥)
    → Lies other second number memory → Lies other second number (put one first value memory)
lies_kept one Byte first second value number memory apart lies =
    put_kept one first value memory second (λ part. apart second part refl) ∙ lies
lies_kept one Address first second value number memory apart lies = (
  put_kept one first value memory second (λ part. apart second part (inl refl)) ∙ lies.0,
  put_kept one first value memory (wrap (second + 1)) (λ part. apart (wrap (second + 1)) part (inr refl))
      ∙ lies.1,
)

apart_at : (slot : Slot) (slots : List Slot) (index : ℕ) (other : Slot)
    → ApartFrom slot slots → slice_get slots index ≡ Some other → Apart slot other
apart_at slot [] index other apart there = let bad : ⊥ = cc in absurd bad
apart_at slot (first ∷ slots) zero other apart there =
    let same : first ≡ other = cc in subst (λ (one : Slot). Apart slot one) same apart.0
apart_at slot (first ∷ slots) (suc index) other apart there = apart_at slot slots index other apart.1 there

down_length : (count : ℕ) (slots : List Slot) (values memory : List ℕ)
    → length (put_down count slots values memory) ≡ length memory
down_length zero slots values memory = refl
down_length (suc count) slots values memory =
    down_length count slots values (put_nth count slots values memory) ∙ nth_length count slots values memory
  where
    nth_length : (index : ℕ) (slots : List Slot) (values memory : List ℕ)
        → length (put_nth index slots values memory) ≡ length memory
    nth_length zero [] values memory = refl
    nth_length zero (slot ∷ slots) [] memory = refl
    nth_length zero (slot ∷ slots) (value ∷ values) memory = put_length slot.scalar slot.at value memory
    nth_length (suc index) [] values memory = refl
    nth_length (suc index) (slot ∷ slots) [] memory = refl
    nth_length (suc index) (slot ∷ slots) (value ∷ values) memory = nth_length index slots values memory

-- each value lies at its address
pub lies_there : (slots : List Slot) (values memory : List ℕ) (index : ℕ) (slot : Slot) (value : ℕ)
    → EachApart slots
    → length values ≡ length slots
    → length memory ≡ MEMORY_SIZE
    → slice_get slots index ≡ Some slot
    → slice_get values index ≡ Some value
    → slot.at < MEMORY_SIZE
    → Lies slot.scalar slot.at value (put_down (length slots) slots values memory)
lies_there [] values memory index slot value apart many size there is small = let bad : ⊥ = cc in absurd bad
lies_there (first ∷ slots) [] memory index slot value apart many size there is small =
    let bad : ⊥ = cc in absurd bad
lies_there (first ∷ slots) (number ∷ values) memory zero slot value apart many size there is small =
    let same : first ≡ slot = cc in
    let number_is : number ≡ value = cc in
    let length_is = down_length (length slots) slots values memory in
    subst (λ (memory : List ℕ). Lies slot.scalar slot.at value memory)
    (ap (λ (one : Slot). put one.scalar one.at value (put_down (length slots) slots values memory)) (sym same)
    ∙ ap (λ (one : ℕ). put first.scalar first.at one (put_down (length slots) slots values memory))
    (sym number_is)
    ∙ sym (down_first (length slots) first slots number values memory))
    (put_lies slot.scalar slot.at value (put_down (length slots) slots values memory)
    small (length_is ∙ size))
lies_there (first ∷ slots) (number ∷ values) memory (suc index) slot value apart many size there is small =
    subst (λ (memory : List ℕ). Lies slot.scalar slot.at value memory)
    (sym (down_first (length slots) first slots number values memory))
    (lies_kept first.scalar slot.scalar first.at slot.at number value
    (put_down (length slots) slots values memory)
    (apart_at first slots index slot apart.0 there)
    (lies_there slots values memory index slot value apart.1 (omega (arith, many)) size there is small))

-- what the meaning does
abbrev pub AreVariables : Program → List Slot → Type 0
AreVariables program [] = Unit {0}
AreVariables program (slot ∷ slots) =
    ((address : ℕ) → IsPart slot.scalar slot.at address → IsVariable program address)
    × AreVariables program slots

abbrev pub AreMeant : Surroundings → List Slot → Type 0
AreMeant around [] = Unit {0}
AreMeant around (slot ∷ slots) = (place_of around slot.object ≡ InMemory slot.at) × AreMeant around slots

abbrev IsWritten : Program → ScalarType → (at value : ℕ) → SourceState → Outcome (Unit {0}) → Type 0
IsWritten program scalar at value s outcome =
    (((address : ℕ) → IsPart scalar at address → IsVariable program address)
    × (outcome ≡ Gave tt (record s { memory = put scalar at value s.memory })))
    ⊎ ((reason : Reason) × (t : SourceState) × (outcome ≡ Stopped (Outside reason) t))

is_written : (program : Program) (scalar : ScalarType) (at value : ℕ) (s : SourceState)
    → IsWritten program scalar at value s (write_scalar program scalar (InMemory at) value s)
is_written program Byte at value s = by (is_declared program at) (is_constant program at) refl refl
  where
    by : (declared constant : Bool) → is_declared program at ≡ declared → is_constant program at ≡ constant
        → IsWritten program Byte at value s
        (if declared
        then (if constant then Stopped (Outside Constant) s
        else Gave tt (record s { memory = slice_set s.memory at (value % 256) }))
        else Stopped (Outside UndeclaredByte) s)
    by true true one other = inr (Constant, s, refl)
    by true false one other =
        inl (
          (λ (address : ℕ) (same : address ≡ at).
              subst (λ (one : ℕ). IsVariable program one) (sym same) (one, other)),
          refl,
        )
    by false constant one other = inr (UndeclaredByte, s, refl)
is_written program Address at value s =
    by (is_declared program at) (is_constant program at) (is_declared program (wrap (at + 1)))
    (is_constant program (wrap (at + 1))) refl refl refl refl
  where
    by : (declared constant next other : Bool)
        → is_declared program at ≡ declared → is_constant program at ≡ constant
        → is_declared program (wrap (at + 1)) ≡ next → is_constant program (wrap (at + 1)) ≡ other
        → IsWritten program Address at value s
        (then_do
        (if declared
        then (if constant then Stopped (Outside Constant) s
        else Gave (tt {0}) (record s { memory = slice_set s.memory at (value % 256) }))
        else Stopped (Outside UndeclaredByte) s)
        (λ _ t.
        if next
        then (if other then Stopped (Outside Constant) t
        else Gave (tt {0}) (record t { memory = slice_set t.memory (wrap (at + 1)) (value / 256) }))
        else Stopped (Outside UndeclaredByte) t))
    by true false true false one two three four = inl (parts, refl)
      where
        parts : (address : ℕ) → (address ≡ at) ⊎ (address ≡ wrap (at + 1)) → IsVariable program address
        parts address (inl same) = subst (λ (one : ℕ). IsVariable program one) (sym same) (one, two)
        parts address (inr same) = subst (λ (one : ℕ). IsVariable program one) (sym same) (three, four)
    by true false true true one two three four =
        inr (Constant, record s { memory = slice_set s.memory at (value % 256) }, refl)
    by true false false other one two three four =
        inr (UndeclaredByte, record s { memory = slice_set s.memory at (value % 256) }, refl)
    by true true next other one two three four = inr (Constant, s, refl)
    by false constant next other one two three four = inr (UndeclaredByte, s, refl)

-- Parameters are set: where the meaning does not go outside, their bytes are variables, and the memory is
-- this.
pub set_does :
    {loaded : Loaded} {budget : ℕ} {from : State} {Good : Unit {0} → SourceState → State → Type 0}
    (around : Surroundings) (slots : List Slot) (values : List ℕ) (s : SourceState)
    → AreMeant around slots
    → length values ≡ length slots
    → (AreVariables around.program slots
    → Does loaded budget 0 from (Gave tt (record s { memory = set_all slots values s.memory })) Good)
    → Does loaded budget 0 from
    (parameters_set around (map (λ (slot : Slot). slot.scalar) slots)
    (map (λ (slot : Slot). slot.object) slots) values s)
    Good
set_does around [] [] s meant many rest = rest tt
set_does around [] (value ∷ values) s meant many rest = absurd (omega (arith, many))
set_does around (slot ∷ slots) [] s meant many rest = absurd (omega (arith, many))
set_does {loaded = loaded} {budget = budget} {from = from} {Good = Good} around (slot ∷ slots)
    (value ∷ values) s meant many rest =
    subst (λ (outcome : Outcome (Unit {0})).
    Does loaded budget 0 from
    (then_do outcome
    (λ _ t.
    parameters_set around (map (λ (slot : Slot). slot.scalar) slots)
    (map (λ (slot : Slot). slot.object) slots) values t))
    Good)
    (ap (λ place. write_scalar around.program slot.scalar place value s) (sym meant.0))
    (by_written
    (λ mine.
    set_does around slots values (record s { memory = put slot.scalar slot.at value s.memory }) meant.1
    (omega (arith, many)) (λ others. rest (mine, others)))
    (is_written around.program slot.scalar slot.at value s))
  where
    by_written : {outcome : Outcome (Unit {0})}
        → (((address : ℕ) → IsPart slot.scalar slot.at address → IsVariable around.program address)
        → Does loaded budget 0 from
        (parameters_set around (map (λ (slot : Slot). slot.scalar) slots)
        (map (λ (slot : Slot). slot.object) slots) values
        (record s { memory = put slot.scalar slot.at value s.memory })) Good)
        → IsWritten around.program slot.scalar slot.at value s outcome
        → Does loaded budget 0 from
        (then_do outcome
        (λ _ t.
        parameters_set around (map (λ (slot : Slot). slot.scalar) slots)
        (map (λ (slot : Slot). slot.object) slots) values
        t))
        Good
    by_written go (inl given) =
        subst (λ (outcome : Outcome (Unit {0})).
        Does loaded budget 0 from
        (then_do outcome
        (λ _ t.
        parameters_set around (map (λ (slot : Slot). slot.scalar) slots)
        (map (λ (slot : Slot). slot.object) slots) values
        t))
        Good) (sym given.1)
        (go given.0)
    by_written go (inr stopped) =
        subst (λ (outcome : Outcome (Unit {0})).
        Does loaded budget 0 from
        (then_do outcome
        (λ _ t.
        parameters_set around (map (λ (slot : Slot). slot.scalar) slots)
        (map (λ (slot : Slot). slot.object) slots) values
        t))
        Good) (sym stopped.2) (record { told = tt })
