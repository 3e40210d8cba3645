-- Bytes that are written, in memory or in the frame, on both sides: an activation remains ready.
use Rattle.task_laws.proofs.Prelude.{◌≡◌, ◌≢◌, ℕ, zero, suc, ◌+◌, ◌<◌, ◌≤◌, ◌==◌, ◌⊎◌, inl, inr, Bool, true, false, if◌then◌else◌, List, [], ◌∷◌, length, slice_set, slice_index_or, refl, sym, ap, subst, ◌∙◌, arith, cases_lt, length-set, eqb-true, eqb-false, MEMORY_SIZE, byte_at, UndeclaredByte, Constant, SourceState, Outside, Outcome, Gave, Stopped, then_do, InMemory, InTheFrame, frame_bytes, is_constant, is_declared, write_byte, Registers, State, wrap, byte_kept, byte_put, memory_put, Does, loaded_of, Activation, FrameLies, IsReady, LiesWell, MayChange, Owns, keeps_put, ready_with_variable, IsSteadyByte, declared_is_steady, Context, IsSound, address_on_machine}
use Rattle.meaning.specs.Access.{Place}
use Rattle.task_laws.proofs.Places.Reading.{FitsIn, frame_is, of_frame}

-- an item that is put in a list
set_here : {A : Type 0} (xs : List A) (i : ℕ) (x d : A) → i < length xs
    → slice_index_or (slice_set xs i x) i d ≡ x
set_here [] i x d less = absurd (omega (arith, less))
set_here (first ∷ xs) zero x d less = refl
set_here (first ∷ xs) (suc i) x d less = set_here xs i x d (omega (arith, less))

set_there : {A : Type 0} (xs : List A) (i other : ℕ) (x d : A) → other ≢ i
    → slice_index_or (slice_set xs i x) other d ≡ slice_index_or xs other d
set_there [] i other x d differ = refl
set_there (first ∷ xs) zero zero x d differ = absurd (differ refl)
set_there (first ∷ xs) zero (suc other) x d differ = refl
set_there (first ∷ xs) (suc i) zero x d differ = refl
set_there (first ∷ xs) (suc i) (suc other) x d differ =
    set_there xs i other x d (λ same. differ (ap suc same))

pub no_bytes_past_frame : (frame : List (List ℕ)) (object : ℕ) → length frame ≤ object
    → frame_bytes frame object ≡ []
no_bytes_past_frame [] object less = refl
no_bytes_past_frame (first ∷ frame) zero less = absurd (omega (arith, less))
no_bytes_past_frame (first ∷ frame) (suc object) less = no_bytes_past_frame frame object (omega (arith, less))

-- an object with bytes is in the frame
pub sized_in_frame :
    (activation : Activation) (frame : List (List ℕ)) (object offset : ℕ)
    → offset < activation.size object
    → length (frame_bytes frame object) ≡ activation.size object
    → object < length frame
sized_in_frame activation frame object offset within size =
    by_cases (cases_lt object (length frame))
  where
    by_cases : (object < length frame) ⊎ (length frame ≤ object) → object < length frame
    by_cases (inl less) = less
    by_cases (inr more) =
        let none : length (frame_bytes frame object) ≡ 0 =
        ap (λ (xs : List ℕ). length xs) (no_bytes_past_frame frame object more) in
        absurd (omega (arith, size, none, within))

in_frame :
    (activation : Activation) (frame : List (List ℕ)) (memory : List ℕ) (object offset : ℕ)
    → offset < activation.size object
    → FrameLies activation frame memory
    → object < length frame
in_frame activation frame memory object offset within lies =
    sized_in_frame activation frame object offset within (lies.sizes object)

-- a byte of the frame on both sides
put_frame :
    (activation : Activation) (frame : List (List ℕ)) (memory : List ℕ) (object offset value : ℕ)
    → LiesWell activation
    → length memory ≡ MEMORY_SIZE
    → offset < activation.size object
    → FrameLies activation frame memory
    → FrameLies activation (slice_set frame object (slice_set (frame_bytes frame object) offset value))
    (slice_set memory (activation.level + activation.distance object + offset) value)
put_frame activation frame memory object offset value well size within lies =
    let inside = well.inside object offset within in
    let above = well.above in
    let stack = well.placed.stack_in_memory in
    let there = in_frame activation frame memory object offset within lies in
    let address : ℕ = activation.level + activation.distance object + offset in
    let small : address < length memory = omega (arith, size, inside, above, stack) in
    record {
      sizes = λ other. sizes_by other (other == object) refl;
      bytes = λ other place other_within. bytes_by other place other_within (other == object) refl;
    }
  where
    here : frame_bytes (slice_set frame object (slice_set (frame_bytes frame object) offset value)) object
        ≡ slice_set (frame_bytes frame object) offset value
    here = set_here frame object (slice_set (frame_bytes frame object) offset value) []
        (in_frame activation frame memory object offset within lies)

    elsewhere : (other : ℕ) → other ≢ object
        → frame_bytes (slice_set frame object (slice_set (frame_bytes frame object) offset value)) other
        ≡ frame_bytes frame other
    elsewhere other differ =
        set_there frame object other (slice_set (frame_bytes frame object) offset value) [] differ

    sizes_by : (other : ℕ) (test : Bool) → (other == object) ≡ test
        → length
        (frame_bytes (slice_set frame object (slice_set (frame_bytes frame object) offset value)) other)
        ≡ activation.size other
    sizes_by other true same =
        let is : other ≡ object = eqb-true other object same in
        subst (λ (n : ℕ). length (frame_bytes
        (slice_set frame object (slice_set (frame_bytes frame object) offset value)) n)
        ≡ activation.size n) (sym is)
        (ap (λ (xs : List ℕ). length xs) here ∙ length-set (frame_bytes frame object) offset value
        ∙ lies.sizes object)
    sizes_by other false same =
        ap (λ (xs : List ℕ). length xs) (elsewhere other (eqb-false other object same)) ∙ lies.sizes other

    limit : activation.level + activation.distance object + offset < length memory
    limit =
        let inside = well.inside object offset within in
        let above = well.above in
        let stack = well.placed.stack_in_memory in
        omega (arith, size, inside, above, stack)

    long : offset < length (frame_bytes frame object)
    long = let size_is = lies.sizes object in omega (arith, size_is, within)

    differ_by : (other place : ℕ) → place < activation.size other
        → ((other ≡ object) × (place ≡ offset) → ⊥)
        → activation.level + activation.distance other + place
        ≢ activation.level + activation.distance object + offset
    differ_by other place other_within differ same =
        differ (well.differ other place object offset other_within within (omega (arith, same)))

    same_by : (place : ℕ) → place < activation.size object → (test : Bool) → (place == offset) ≡ test
        → byte_at (slice_set memory (activation.level + activation.distance object + offset) value)
        (activation.level + activation.distance object + place)
        ≡ byte_at (slice_set (frame_bytes frame object) offset value) place
    same_by place place_within true same =
        let is : place ≡ offset = eqb-true place offset same in
        subst (λ (n : ℕ). byte_at (slice_set memory (activation.level + activation.distance object + offset)
        value) (activation.level + activation.distance object + n)
        ≡ byte_at (slice_set (frame_bytes frame object) offset value) n) (sym is)
        (byte_put memory (activation.level + activation.distance object + offset) value limit
        ∙ sym (byte_put (frame_bytes frame object) offset value long))
    same_by place place_within false same =
        let differ : place ≢ offset = eqb-false place offset same in
        byte_kept memory (activation.level + activation.distance object + offset)
        (activation.level + activation.distance object + place) value
        (differ_by object place place_within (λ both. differ both.1))
        ∙ lies.bytes object place place_within
        ∙ sym (byte_kept (frame_bytes frame object) offset place value differ)

    bytes_by : (other place : ℕ) → place < activation.size other → (test : Bool) → (other == object) ≡ test
        → byte_at (slice_set memory (activation.level + activation.distance object + offset) value)
        (activation.level + activation.distance other + place)
        ≡ byte_at
        (frame_bytes (slice_set frame object (slice_set (frame_bytes frame object) offset value)) other)
        place
    bytes_by other place other_within true same =
        let is : other ≡ object = eqb-true other object same in
        subst (λ (n : ℕ). byte_at (slice_set memory (activation.level + activation.distance object + offset)
        value) (activation.level + activation.distance n + place)
        ≡ byte_at (frame_bytes (slice_set frame object (slice_set (frame_bytes frame object) offset value)) n)
        place) (sym is)
        (same_by place (subst (λ (n : ℕ). place < activation.size n) is other_within) (place == offset) refl
        ∙ ap (λ (xs : List ℕ). byte_at xs place) (sym here))
    bytes_by other place other_within false same =
        let differ : other ≢ object = eqb-false other object same in
        byte_kept memory (activation.level + activation.distance object + offset)
        (activation.level + activation.distance other + place) value
        (differ_by other place other_within (λ both. differ both.0))
        ∙ lies.bytes other place other_within
        ∙ ap (λ (xs : List ℕ). byte_at xs place) (sym (elsewhere other differ))

-- an activation stays ready where a byte of its frame changes on both sides
pub ready_with_frame :
    (activation : Activation) (top : ℕ) (base source : List ℕ) (frame : List (List ℕ))
    (r : Registers) (memory : List ℕ)
    (object offset value : ℕ)
    → LiesWell activation
    → offset < activation.size object
    → value < 256
    → IsReady activation top base source frame r memory
    → IsReady activation top base source
    (slice_set frame object (slice_set (frame_bytes frame object) offset value)) r
    (slice_set memory (activation.level + activation.distance object + offset) value)
ready_with_frame activation top base source frame r memory object offset value well within small ready =
    let inside = well.inside object offset within in
    let above = well.above in
    let low = well.low in
    let bottom = well.bottom in
    let stack = well.placed.stack_in_memory in
    let shares = ready.shares in
    let address : ℕ = activation.level + activation.distance object + offset in
    let not_back = well.not_back object offset within in
    record {
      pointer = ready.pointer;
      registers = ready.registers;
      shares = record {
        is_memory = memory_put memory address value shares.is_memory small;
        size = shares.size;
        declared = λ other there.
            byte_kept memory address other value
            (λ same. well.placed.stack_free other there (omega (arith, same, low, bottom))
            (omega (arith, same, inside, above)))
            ∙ shares.declared other there;
        code = λ other there.
            byte_kept memory address other value
            (λ same. well.placed.apart other there.0 there.1 (omega (arith, same, low, bottom))
            (omega (arith, same, inside, above)))
            ∙ shares.code other there;
        others =
            keeps_put (MayChange activation.around.program) activation.image memory address value
            (inr (omega (arith, low, bottom), omega (arith, inside, above))) shares.others;
      };
      frame_lies =
          put_frame activation frame memory object offset value well shares.is_memory.size
          within ready.frame_lies;
      kept =
          keeps_put (Owns activation top) base memory address value
          (inr (inr (
            omega arith,
            omega (arith, inside),
            (λ same. not_back.0 (omega (arith, same))),
            (λ same. not_back.1 (omega (arith, same))),
          ))) ready.kept;
    }

-- a byte that is written
pub byte_written :
    {A : Type 0} {budget more : ℕ} {from : State} {Good : A → SourceState → State → Type 0}
    {context : Context} {top : ℕ} {base memory : List ℕ} {r : Registers} (place : Place)
    (byte : ℕ) (s : SourceState)
    (go : Unit {0} → SourceState → Outcome A)
    → IsSound context
    → byte < 256
    → IsReady context.activation top base s.memory s.frame r memory
    → FitsIn context.activation 1 place
    → ((t : SourceState)
    → t.events ≡ s.events
    → t.budget ≡ s.budget
    → IsSteadyByte context.activation (address_on_machine context.activation place)
    → IsReady context.activation top base t.memory t.frame r
    (slice_set memory (address_on_machine context.activation place) byte)
    → Does (loaded_of context.activation) budget more from (go tt t) Good)
    → Does (loaded_of context.activation) budget more from
    (then_do (write_byte context.activation.around.program place byte s) go) Good
byte_written {budget = budget} {more = more} {from = from} {Good = Good} {context = context} {top = top}
    {base = base} {memory = memory} {r = r} (InMemory address) byte s go sound small ready fits does =
    by_test (is_declared context.activation.around.program address)
    (is_constant context.activation.around.program address) refl refl
  where
    by_test : (declared constant : Bool)
        → is_declared context.activation.around.program address ≡ declared
        → is_constant context.activation.around.program address ≡ constant
        → Does (loaded_of context.activation) budget more from
        (then_do
        (if declared
        then (if constant then Stopped (Outside Constant) s else Gave (tt {0})
        (record s { memory = slice_set s.memory address byte }))
        else Stopped (Outside UndeclaredByte) s) go) Good
    by_test true false declared constant =
        does (record s { memory = slice_set s.memory address byte }) refl refl
        (declared_is_steady context.activation address sound.lies declared, fits)
        (ready_with_variable context.activation top base s.memory s.frame r memory address byte sound.lies
        (declared, constant) fits small ready)
    by_test true true declared constant = record { told = tt }
    by_test false constant declared is = record { told = tt }
byte_written {budget = budget} {more = more} {from = from} {Good = Good} {context = context} {top = top}
    {base = base} {memory = memory} {r = r} (InTheFrame object offset true) byte s go sound
    small ready fits does =
    let within : offset + 1 ≤ context.activation.size object = fits refl in
    let less : offset < context.activation.size object = omega (arith, within) in
    let is = frame_is context object offset sound less in
    let address : ℕ = wrap (context.activation.level + context.activation.distance object + offset) in
    does (record s { frame = slice_set s.frame object (slice_set (frame_bytes s.frame object) offset byte) })
    refl refl
    (of_frame context.activation object offset address less is, omega arith)
    (subst (λ (n : ℕ). IsReady context.activation top base s.memory
    (slice_set s.frame object (slice_set (frame_bytes s.frame object) offset byte)) r
    (slice_set memory n byte))
    (sym is)
    (ready_with_frame context.activation top base s.memory s.frame r memory object offset byte
    sound.lies less small ready))
byte_written {Good = Good} (InTheFrame object offset false) byte s go sound small ready fits does =
    record { told = tt }
