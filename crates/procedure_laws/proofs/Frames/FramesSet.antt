-- The parameters are set in a new frame: beside the memory that the machine has in the end, in which each
-- argument lies in the word of its parameter.
use Rattle.procedure_laws.proofs.Prelude.{◌≡◌, ◌≢◌, ℕ, ◌+◌, ◌-◌, ◌/◌, ◌%◌, ◌<◌, ◌==◌, ◌⊎◌, inl, inr, Bool, true, false, List, [], ◌∷◌, length, slice_set, refl, sym, ap, subst, ◌∙◌, arith, eqb-true, eqb-false, length-set, get_or-set_same, get_or-set_other, IsMemory, byte_at, byte_small, ScalarType, Byte, Address, size_of_scalar, InTheFrame, Surroundings, frame_bytes, place_of, write_scalar, parameters_set, Gave, Outcome, SourceState, then_do, byte_kept, byte_put, parameter_distance, word_distance, Activation, FrameLies, InWord, sized_in_frame}
use Rattle.meaning.specs.Access.{Place}

-- a frame lies in a memory, but for some of its bytes
pub record LiesBut
    (activation : Activation) (Open : (object offset : ℕ) → Type 0)
    (frame : List (List ℕ)) (memory : List ℕ) :
    Type 0 where
  pub sizes : (object : ℕ) → length (frame_bytes frame object) ≡ activation.size object
  pub bytes : (object offset : ℕ) → offset < activation.size object → (Open object offset → ⊥)
      → byte_at memory (activation.level + activation.distance object + offset)
      ≡ byte_at (frame_bytes frame object) offset

-- more may be open
opens :
    {activation : Activation} {frame : List (List ℕ)} {memory : List ℕ}
    {Less More : (object offset : ℕ) → Type 0}
    → ((object offset : ℕ) → Less object offset → More object offset)
    → LiesBut activation Less frame memory
    → LiesBut activation More frame memory
opens wider lies = record {
  sizes = lies.sizes;
  bytes = λ object offset within closed. lies.bytes object offset within
      (λ less. closed (wider object offset less));
}

-- a frame with another byte
abbrev with_byte : List (List ℕ) → (object offset byte : ℕ) → List (List ℕ)
with_byte frame object offset byte = slice_set frame object (slice_set (frame_bytes frame object) offset byte)

-- an open byte that is put is closed
byte_set :
    {activation : Activation} {frame : List (List ℕ)} {memory : List ℕ} {Open : (object offset : ℕ) → Type 0}
    (object offset byte : ℕ)
    → offset < activation.size object
    → byte_at memory (activation.level + activation.distance object + offset) ≡ byte
    → LiesBut activation Open frame memory
    → LiesBut activation (λ one place. Open one place × ((one ≡ object) × (place ≡ offset) → ⊥))
    (with_byte frame object offset byte) memory
byte_set {activation = activation} {frame = frame} {memory = memory} {Open = Open} object offset
    byte within is lies =
    record {
      sizes = λ other. sizes_by other (other == object) refl;
      bytes = λ other place other_within closed. bytes_by other place other_within closed
          (other == object) refl;
    }
  where
    here : frame_bytes (with_byte frame object offset byte) object
        ≡ slice_set (frame_bytes frame object) offset byte
    here =
        get_or-set_same frame object (slice_set (frame_bytes frame object) offset byte) []
        (sized_in_frame activation frame object offset within (lies.sizes object))

    elsewhere : (other : ℕ) → other ≢ object
        → frame_bytes (with_byte frame object offset byte) other ≡ frame_bytes frame other
    elsewhere other differ =
        get_or-set_other frame object other (slice_set (frame_bytes frame object) offset byte) [] differ

    sizes_by : (other : ℕ) (test : Bool) → (other == object) ≡ test
        → length (frame_bytes (with_byte frame object offset byte) other) ≡ activation.size other
    sizes_by other true same =
        let same_object : other ≡ object = eqb-true other object same in
        subst (λ (n : ℕ). length (frame_bytes (with_byte frame object offset byte) n) ≡ activation.size n)
        (sym same_object)
        (ap (λ (xs : List ℕ). length xs) here ∙ length-set (frame_bytes frame object) offset byte
        ∙ lies.sizes object)
    sizes_by other false same =
        ap (λ (xs : List ℕ). length xs) (elsewhere other (eqb-false other object same)) ∙ lies.sizes other

    long : offset < length (frame_bytes frame object)
    long = let size_is = lies.sizes object in omega (arith, size_is, within)

    same_by : (place : ℕ) → place < activation.size object
        → (Open object place × ((object ≡ object) × (place ≡ offset) → ⊥) → ⊥)
        → (test : Bool) → (place == offset) ≡ test
        → byte_at memory (activation.level + activation.distance object + place)
        ≡ byte_at (slice_set (frame_bytes frame object) offset byte) place
    same_by place place_within closed true same =
        let same_place : place ≡ offset = eqb-true place offset same in
        subst (λ (n : ℕ). byte_at memory (activation.level + activation.distance object + n)
        ≡ byte_at (slice_set (frame_bytes frame object) offset byte) n) (sym same_place)
        (is ∙ sym (byte_put (frame_bytes frame object) offset byte long))
    same_by place place_within closed false same =
        let differ : place ≢ offset = eqb-false place offset same in
        lies.bytes object place place_within (λ is_open. closed (is_open, (λ both. differ both.1)))
        ∙ sym (byte_kept (frame_bytes frame object) offset place byte differ)

    bytes_by : (other place : ℕ) → place < activation.size other
        → (Open other place × ((other ≡ object) × (place ≡ offset) → ⊥) → ⊥)
        → (test : Bool) → (other == object) ≡ test
        → byte_at memory (activation.level + activation.distance other + place)
        ≡ byte_at (frame_bytes (with_byte frame object offset byte) other) place
    bytes_by other place other_within closed true same =
        let same_object : object ≡ other = sym (eqb-true other object same) in
        subst (λ (n : ℕ). place < activation.size n
        → (Open n place × ((n ≡ object) × (place ≡ offset) → ⊥) → ⊥)
        → byte_at memory (activation.level + activation.distance n + place)
        ≡ byte_at (frame_bytes (with_byte frame object offset byte) n) place) same_object
        (λ here_within here_closed.
        same_by place here_within here_closed (place == offset) refl
        ∙ sym (ap (λ (xs : List ℕ). byte_at xs place) here))
        other_within closed
    bytes_by other place other_within closed false same =
        let differ : other ≢ object = eqb-false other object same in
        lies.bytes other place other_within (λ is_open. closed (is_open, (λ both. differ both.0)))
        ∙ sym (ap (λ (xs : List ℕ). byte_at xs place) (elsewhere other differ))

-- an object is among those of a list
abbrev pub IsAmong : (object : ℕ) → List ℕ → Type 0
IsAmong object [] = ⊥
IsAmong object (one ∷ others) = (object ≡ one) ⊎ IsAmong object others

-- the bytes of parameters
abbrev pub IsOfParameters : Activation → List ℕ → (object offset : ℕ) → Type 0
IsOfParameters activation parameters object offset =
    (offset < activation.size object) × IsAmong object parameters

-- a parameter that so many others follow lies in the frame, in its word
pub record IsInWord
    (around : Surroundings) (activation : Activation) (bytes : ℕ) (scalar : ScalarType)
    (parameter followers : ℕ) :
    Type 0 where
  pub place : place_of around parameter ≡ InTheFrame parameter 0 true
  pub size : activation.size parameter ≡ size_of_scalar scalar
  pub distance : activation.distance parameter ≡ parameter_distance bytes followers (size_of_scalar scalar)

abbrev pub AreInWords : Surroundings → Activation → (bytes : ℕ) → List ScalarType
    → (parameters : List ℕ) → Type 0
AreInWords around activation bytes [] [] = Unit {0}
AreInWords around activation bytes (scalar ∷ scalars) (parameter ∷ parameters) =
    IsInWord around activation bytes scalar parameter (length scalars)
    × AreInWords around activation bytes scalars parameters
AreInWords around activation bytes scalars parameters = ⊥

-- arguments lie in the words of parameters
abbrev pub LieInWords : (level bytes : ℕ) → List ScalarType → (values memory : List ℕ) → Type 0
LieInWords level bytes [] [] memory = Unit {0}
LieInWords level bytes (scalar ∷ scalars) (value ∷ values) memory =
    InWord scalar value memory (level + word_distance bytes (length scalars))
    × LieInWords level bytes scalars values memory
LieInWords level bytes scalars values memory = ⊥

-- the parameters have been set, and the frame lies
pub record AreSet
    (activation : Activation) (memory : List ℕ) (s : SourceState)
    (outcome : Outcome (Unit {0})) : Type 0 where
  pub frame : List (List ℕ)
  pub is : outcome ≡ Gave tt (record s { frame = frame })
  pub lies : FrameLies activation frame memory

all_closed :
    {activation : Activation} {frame : List (List ℕ)} {memory : List ℕ}
    → LiesBut activation (IsOfParameters activation []) frame memory
    → FrameLies activation frame memory
all_closed lies = record {
  sizes = lies.sizes;
  bytes = λ object offset within. lies.bytes object offset within (λ is_open. is_open.1);
}

low_address : (level distance word : ℕ) → distance ≡ word + (2 - 2) → level + distance + 0 ≡ level + word
low_address level distance word is = omega (arith, is)

high_address : (level distance word : ℕ) → distance ≡ word + (2 - 2) → level + distance + 1 ≡ level + word + 1
high_address level distance word is = omega (arith, is)

byte_address : (level distance word : ℕ) → distance ≡ word + (2 - 1) → level + distance + 0 ≡ level + word + 1
byte_address level distance word is = omega (arith, is)

module _ (around : Surroundings) (activation : Activation) (bytes : ℕ) (memory : List ℕ)
    (is_memory : IsMemory memory)
  where
    -- one parameter
    one_set :
        (scalar : ScalarType) (parameter followers value : ℕ) (parameters : List ℕ) (s : SourceState)
        → IsInWord around activation bytes scalar parameter followers
        → InWord scalar value memory (activation.level + word_distance bytes followers)
        → LiesBut activation (IsOfParameters activation (parameter ∷ parameters)) s.frame memory
        → (frame : List (List ℕ))
        × (write_scalar around.program scalar (place_of around parameter) value s
        ≡ Gave tt (record s { frame = frame }))
        × LiesBut activation (IsOfParameters activation parameters) frame memory
    one_set Byte parameter followers value parameters s is lie lies = (
      with_byte s.frame parameter 0 (value % 256),
      ap (λ (place : Place). write_scalar around.program Byte place value s) is.place,
      opens still
          (byte_set parameter 0 (value % 256) (omega (arith, is.size)) (put ∙ small) lies),
    )
      where
        put : byte_at memory (activation.level + activation.distance parameter + 0) ≡ value
        put =
            ap (byte_at memory)
            (byte_address activation.level (activation.distance parameter)
            (word_distance bytes followers) is.distance)
            ∙ lie

        small : value ≡ value % 256
        small =
            let below =
            byte_small memory (activation.level + activation.distance parameter + 0) is_memory in
            omega (arith, below, put)

        still : (object offset : ℕ)
            → IsOfParameters activation (parameter ∷ parameters) object offset
            × ((object ≡ parameter) × (offset ≡ 0) → ⊥)
            → IsOfParameters activation parameters object offset
        still object offset is_open = by_place is_open.0.1
          where
            by_place : IsAmong object (parameter ∷ parameters)
                → IsOfParameters activation parameters object offset
            by_place (inl same) =
                let within : offset < activation.size object = is_open.0.0 in
                let size = ap (λ (one : ℕ). activation.size one) same ∙ is.size in
                absurd (is_open.1 (same, omega (arith, within, size)))
            by_place (inr among) = (is_open.0.0, among)
    one_set Address parameter followers value parameters s is lie lies = (
      with_byte (with_byte s.frame parameter 0 (value % 256)) parameter 1 (value / 256),
      ap (λ (place : Place). write_scalar around.program Address place value s) is.place,
      opens still
          (byte_set parameter 1 (value / 256) (omega (arith, is.size)) high
          (byte_set parameter 0 (value % 256) (omega (arith, is.size)) low lies)),
    )
      where
        low : byte_at memory (activation.level + activation.distance parameter + 0) ≡ value % 256
        low =
            ap (byte_at memory)
            (low_address activation.level (activation.distance parameter)
            (word_distance bytes followers) is.distance)
            ∙ lie.0

        high : byte_at memory (activation.level + activation.distance parameter + 1) ≡ value / 256
        high =
            ap (byte_at memory)
            (high_address activation.level (activation.distance parameter)
            (word_distance bytes followers) is.distance)
            ∙ lie.1

        still : (object offset : ℕ)
            → (IsOfParameters activation (parameter ∷ parameters) object offset
            × ((object ≡ parameter) × (offset ≡ 0) → ⊥))
            × ((object ≡ parameter) × (offset ≡ 1) → ⊥)
            → IsOfParameters activation parameters object offset
        still object offset is_open = by_place is_open.0.0.1
          where
            by_offset : (offset : ℕ) → offset < 2 → (offset ≡ 0 → ⊥) → (offset ≡ 1 → ⊥) → ⊥
            by_offset offset below not_low not_high = omega (arith, below, not_low, not_high)

            by_place : IsAmong object (parameter ∷ parameters)
                → IsOfParameters activation parameters object offset
            by_place (inl same) =
                let within : offset < activation.size object = is_open.0.0.0 in
                let size = ap (λ (one : ℕ). activation.size one) same ∙ is.size in
                absurd (by_offset offset (omega (arith, within, size)) (λ first. is_open.0.1 (same, first))
                (λ second. is_open.1 (same, second)))
            by_place (inr among) = (is_open.0.0.0, among)

    -- all of them
    pub all_set :
        (scalars : List ScalarType) (parameters values : List ℕ) (s : SourceState)
        → AreInWords around activation bytes scalars parameters
        → LieInWords activation.level bytes scalars values memory
        → LiesBut activation (IsOfParameters activation parameters) s.frame memory
        → AreSet activation memory s (parameters_set around scalars parameters values s)
    all_set [] [] [] s are lie lies = record { frame = s.frame; is = refl; lies = all_closed lies }
    all_set [] [] (value ∷ values) s are lie lies = absurd lie
    all_set [] (parameter ∷ parameters) values s are lie lies = absurd are
    all_set (scalar ∷ scalars) [] values s are lie lies = absurd are
    all_set (scalar ∷ scalars) (parameter ∷ parameters) [] s are lie lies = absurd lie
    all_set (scalar ∷ scalars) (parameter ∷ parameters) (value ∷ values) s are lie lies =
        let one = one_set scalar parameter (length scalars) value parameters s are.0 lie.0 lies in
        let rest = all_set scalars parameters values (record s { frame = one.0 }) are.1 lie.1 one.2 in
        record {
          frame = rest.frame;
          is =
              ap (λ (outcome : Outcome (Unit {0})).
              then_do outcome (λ _ t. parameters_set around scalars parameters values t)) one.1
              ∙ rest.is;
          lies = rest.lies;
        }
