-- An activation that is ready remains so if a variable, or a byte of its frame, is changed on both sides.
use Rattle.code_meaning.proofs.Prelude.{◌≡◌, ◌≢◌, ℕ, ◌+◌, ◌-◌, ◌<◌, ◌≤◌, ◌==◌, ◌⊎◌, inl, inr, Bool, true, false, List, length, slice_set, refl, sym, ap, ◌∙◌, arith, length-set, eqb-true, eqb-false, MEMORY_SIZE, IsMemory, byte_at, Program, is_declared, is_constant, frame_bytes, Registers, AgreesIn, Keeps, byte_kept, byte_put, memory_put, Activation, FrameLies, IsReady, IsVariable, LiesWell, MayChange, Owns, Shares}
use Rattle.code_meaning.proofs.Owning.{keeps_both}

-- a byte of one memory that is written to another at the same address
put_both :
    (memory source : List ℕ) (address value other : ℕ)
    → address < length memory
    → address < length source
    → (test : Bool)
    → (other == address) ≡ test
    → byte_at memory other ≡ byte_at source other
    → byte_at (slice_set memory address value) other ≡ byte_at (slice_set source address value) other
put_both memory source address value other one two true here same =
    let equal : other ≡ address = eqb-true other address here in
    rw equal (byte_put memory address value one ∙ sym (byte_put source address value two))
put_both memory source address value other one two false here same =
    let differ : other ≢ address = eqb-false other address here in
    byte_kept memory address other value differ ∙ same ∙ sym (byte_kept source address other value differ)

-- a byte written at an address that an activation owns
pub keeps_put :
    (Own : ℕ → Type 0) (base memory : List ℕ) (address value : ℕ)
    → Own address
    → Keeps Own base memory
    → Keeps Own base (slice_set memory address value)
keeps_put Own base memory address value mine kept = record {
  size = length-set memory address value ∙ kept.size;
  bytes = λ other outside.
      byte_kept memory address other value (λ same. outside (rw same mine)) ∙ kept.bytes other outside;
}

variable_shared :
    (program : Program) (image source memory : List ℕ) (address value : ℕ)
    → ((other : ℕ) → IsVariable program other → program.placement.code.start ≤ other
    → other < program.placement.code.start + program.placement.code.len → ⊥)
    → IsVariable program address
    → address < MEMORY_SIZE
    → value < 256
    → Shares program image source memory
    → Shares program image (slice_set source address value) (slice_set memory address value)
variable_shared program image source memory address value free variable inside small shares =
    let size = shares.size in
    let is = shares.is_memory in
    record {
      is_memory = memory_put memory address value is small;
      size = length-set source address value ∙ size;
      declared = λ other there.
          put_both memory source address value other (omega (arith, is.size, inside))
          (omega (arith, size, inside))
          (other == address) refl (shares.declared other there);
      code = λ other there.
          byte_kept memory address other value
          (λ same. free address variable (rw (sym same) there.0) (rw (sym same) there.1))
          ∙ shares.code other there;
      others = keeps_put (MayChange program) image memory address value (inl variable) shares.others;
    }

-- a frame does not change if a byte outside it changes
frame_kept :
    (activation : Activation) (frame : List (List ℕ)) (memory : List ℕ) (address value : ℕ)
    → ((object offset : ℕ) → offset < activation.size object
    → activation.level + activation.distance object + offset ≢ address)
    → FrameLies activation frame memory
    → FrameLies activation frame (slice_set memory address value)
frame_kept activation frame memory address value elsewhere lies = record {
  sizes = lies.sizes;
  bytes = λ object offset within.
      byte_kept memory address (activation.level + activation.distance object + offset) value
      (elsewhere object offset within)
      ∙ lies.bytes object offset within;
}

variable_elsewhere :
    (activation : Activation) (address : ℕ) → LiesWell activation
    → IsVariable activation.around.program address
    → (object offset : ℕ) → offset < activation.size object
    → activation.level + activation.distance object + offset ≢ address
variable_elsewhere activation address lies variable object offset within same =
    let inside = lies.inside object offset within in
    let low = lies.low in
    let bottom = lies.bottom in
    let above = lies.above in
    lies.placed.stack_free address variable.0 (omega (arith, same, low, bottom))
    (omega (arith, same, inside, above))

-- a variable of the program
pub ready_with_variable :
    (activation : Activation) (top : ℕ) (base source : List ℕ) (frame : List (List ℕ)) (r : Registers)
    (memory : List ℕ) (address value : ℕ)
    → LiesWell activation
    → IsVariable activation.around.program address
    → address < MEMORY_SIZE
    → value < 256
    → IsReady activation top base source frame r memory
    → IsReady activation top base (slice_set source address value) frame r (slice_set memory address value)
ready_with_variable activation top base source frame r memory address value lies variable inside small ready =
    record {
      pointer = ready.pointer;
      registers = ready.registers;
      shares =
          variable_shared activation.around.program activation.image source memory address value
          lies.placed.code_free variable
          inside small ready.shares;
      frame_lies =
          frame_kept activation frame memory address value (variable_elsewhere activation address lies variable)
          ready.frame_lies;
      kept = keeps_put (Owns activation top) base memory address value (inl variable) ready.kept;
    }
